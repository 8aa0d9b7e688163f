pub mod Lines
pub mod PairLemmas
pub mod OneTold
pub mod Findings
pub mod OneApart
