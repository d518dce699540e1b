pub mod Calls
pub mod Moving
pub mod Opening
pub mod Outside
pub mod Rooms
pub mod Stands
pub mod Taking
