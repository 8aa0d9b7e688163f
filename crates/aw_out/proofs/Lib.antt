pub mod Known
pub mod Printing
pub mod WireLemmas
