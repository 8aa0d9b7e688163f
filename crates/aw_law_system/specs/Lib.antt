pub mod Systems
pub mod Laws
pub mod Resting
pub mod Worked
