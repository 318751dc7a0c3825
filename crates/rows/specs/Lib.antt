pub mod Program
pub mod Runs
pub mod Merge
pub mod Merges
