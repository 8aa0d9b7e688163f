pub mod SiteWaits
pub mod Waiters
pub mod Blocks
pub mod Laws
pub mod Worked
