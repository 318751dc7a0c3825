pub mod Entered
pub mod Turns
