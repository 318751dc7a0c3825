pub mod Queues
pub mod Mailboxes
