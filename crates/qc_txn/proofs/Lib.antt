mod CallsLeft
pub mod Ending
pub mod PartsAt
pub mod Quiet
