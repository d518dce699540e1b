mod Items
mod Joined
mod Rows
mod Values
