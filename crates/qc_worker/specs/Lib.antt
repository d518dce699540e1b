pub mod Effects
pub mod Calls
pub mod Crashes
