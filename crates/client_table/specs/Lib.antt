pub mod Clients
pub mod Streams
pub mod Cells
pub mod Deliveries
pub mod Quotas
pub mod Numbers
