pub mod Holdings
pub mod Slots
pub mod Quiet
pub mod Works
pub mod Refusals
pub mod InSlots
