pub mod Circles
pub mod Driving
pub mod Journals
pub mod Laws
pub mod SameMessages
pub mod Worked
