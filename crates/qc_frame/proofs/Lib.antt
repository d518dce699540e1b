mod Crash
pub mod Groups
mod Stands
mod Making
pub mod Fronts
pub mod Same
pub mod Payload
mod Found
mod Begun
mod Closing
mod Next
mod ReadOn
pub mod Staged
pub mod Chained
pub mod ReadBack
pub mod Opened
