pub mod Lengths
mod Refused
pub mod Rising
mod Held
mod Steps
mod Kept
pub mod Spells
