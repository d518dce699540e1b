pub mod Board
pub mod Effects
pub mod Limits
pub mod Play
pub mod State
pub mod Worked
