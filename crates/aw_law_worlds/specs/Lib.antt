pub mod Mentioned
pub mod Invariant
pub mod ReadRows
pub mod Holding
pub mod Laws
pub mod Arriving
pub mod Headline
pub mod Worked
