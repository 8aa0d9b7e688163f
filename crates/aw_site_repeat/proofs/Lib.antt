pub mod FindLemmas
pub mod HeldTests
