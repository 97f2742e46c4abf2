pub mod Flights
pub mod Histories
pub mod Leases
pub mod Renewed
pub mod Steps
