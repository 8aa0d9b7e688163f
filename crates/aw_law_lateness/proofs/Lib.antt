pub mod Taking
pub mod SameMaps
pub mod Orders
pub mod Traces
pub mod Sending
pub mod Alike
