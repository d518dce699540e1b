mod Names
mod Books
mod Walks
mod Numbered
pub mod Said
pub mod Keeping
pub mod Rooms
mod Last
