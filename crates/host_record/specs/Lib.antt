pub mod Record
pub mod Layout
pub mod Written
pub mod Numbers
pub mod Step
pub mod ByCall
pub mod Zeroed
pub mod Sets
