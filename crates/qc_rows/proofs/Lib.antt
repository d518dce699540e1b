pub mod Amounts
pub mod Ascending
pub mod Opened
pub mod Places
pub mod SameRows
pub mod Settling
