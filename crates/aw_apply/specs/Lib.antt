pub mod Guard
pub mod Made
pub mod Messages
pub mod Named
pub mod GuardView
pub mod MadeView
pub mod Telling
