pub mod Asking
pub mod Calls
pub mod Honest
pub mod Alike
pub mod Shown
pub mod Quiet
pub mod Since
pub mod OverSites
