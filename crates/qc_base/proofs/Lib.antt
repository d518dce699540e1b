pub mod Bytes
pub mod Facts
pub mod Gathered
pub mod LogSpellings
pub mod Parts
pub mod PrefixFree
pub mod Reading
