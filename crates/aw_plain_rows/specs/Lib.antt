pub mod TreeView
pub mod Places
pub mod Jobs
pub mod RowView
pub mod Rounds
