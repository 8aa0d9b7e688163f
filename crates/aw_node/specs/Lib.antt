pub mod Listed
pub mod Serving
pub mod Staying
pub mod TypedNodes
pub mod TypedRuns
