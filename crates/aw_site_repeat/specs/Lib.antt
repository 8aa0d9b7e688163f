pub mod Views
pub mod Holders
