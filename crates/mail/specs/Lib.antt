-- What a server knows of others: reports, notes, a queue and a source. Assumes nothing.
pub mod Reports
pub mod Queues
pub mod Mails
pub mod Order
pub mod Ranges
