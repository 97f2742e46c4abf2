pub mod Arrays
pub mod Clean
pub mod Document
pub mod Members
pub mod Reads
