pub mod Causes
pub mod Disk
pub mod Doors
pub mod Files
pub mod Image
pub mod Keepers
pub mod Streams
