pub mod Tables
pub mod Settling
pub mod Outside
pub mod Places
pub mod Laws
pub mod Holdings
