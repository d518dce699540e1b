pub mod Listener
