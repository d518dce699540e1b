pub mod Apart
pub mod Ascending
pub mod AscendingText
pub mod Documents
pub mod Few
pub mod Findings
pub mod Lookups
pub mod Members
mod MethodFound
pub mod Orderly
pub mod ParamKinds
pub mod Passed
pub mod Steps
pub mod Tops
