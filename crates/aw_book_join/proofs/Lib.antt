pub mod Handing
pub mod ItemLines
pub mod Replicas
pub mod Results
pub mod Telling
pub mod Texts
pub mod Whole
mod Worked
