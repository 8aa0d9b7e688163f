pub mod Choices
pub mod Homes
pub mod Lasting
pub mod NodeLemmas
pub mod Replying
pub mod Runs
pub mod SiteReplies
