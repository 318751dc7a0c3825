-- What the proofs of the functions share: a call that is taken, then the calls by what they name, and what a decision touches.
pub mod Taken
pub mod Queues
pub mod Mailboxes
pub mod Tasks
pub mod Any
pub mod Untouched
pub mod Tmout
