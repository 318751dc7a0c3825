pub mod Seen
pub mod Some
