pub mod Puts
pub mod Ready
pub mod Compensators
pub mod RowRules
pub mod Phases
