pub mod ViewLemmas
pub mod Counts
pub mod JobLemmas
pub mod RoundLemmas
