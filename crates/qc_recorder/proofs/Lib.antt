pub mod Adding
pub mod Again
pub mod Found
pub mod Gathering
pub mod Held
pub mod Sizes
pub mod Taken
pub mod Unpacked
