pub mod Counted
pub mod First
pub mod InOrder
pub mod Listings
pub mod Placing
pub mod Rising
pub mod Tallying
