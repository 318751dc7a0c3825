pub mod Runs
pub mod Isolated
pub mod Customers
pub mod Files
