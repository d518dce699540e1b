pub mod OwnWords
pub mod Steps
mod Found
mod Effects
mod Carried
mod Rooms
mod Running
pub mod FewLines
mod Spending
mod SetAside
mod Forgetting
mod Kept
pub mod Made
pub mod Orderly
mod Asking
mod Delivering
mod Ending
