pub mod Accounts
pub mod Books
pub mod Places
pub mod Limits
pub mod Clerk
pub mod Keeps
pub mod Staging
pub mod Calls
