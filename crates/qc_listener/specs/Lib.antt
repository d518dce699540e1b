pub mod Choice
pub mod Index
