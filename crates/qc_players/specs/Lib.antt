pub mod Players
pub mod Orders
