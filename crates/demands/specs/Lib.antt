-- Runs of records, then demands 1, 2 and 3, then what follows for customers.
pub mod Runs
pub mod Handled
pub mod Conforms
pub mod Waiting
pub mod Isolated
pub mod Tables
pub mod NoLostWakeUp
pub mod TimeOuts
pub mod StoredPair
pub mod NoForeignEffect
