pub mod Chains
pub mod Tasks
pub mod Queues
pub mod Mailboxes
