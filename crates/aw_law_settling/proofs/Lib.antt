pub mod Fairness
pub mod Stillness
