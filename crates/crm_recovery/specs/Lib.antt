pub mod Settling
pub mod Calls
pub mod Reading
pub mod Tellings
pub mod Moments
