pub mod Table
pub mod Walks
pub mod Changes
