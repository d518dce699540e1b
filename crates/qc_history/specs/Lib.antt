pub mod Adding
pub mod Playing
pub mod Stands
pub mod Switches
pub mod Taking
pub mod View
pub mod Votes
