pub mod Accepting
pub mod Seeds
pub mod Stopping
pub mod Trying
pub mod WaitingRuns
