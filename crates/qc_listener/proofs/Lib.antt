mod Choosing
pub mod Kept
mod Lists
mod Walk
