pub mod Asking
pub mod Carrying
pub mod Frames
pub mod Honest
pub mod Mails
pub mod Pulls
pub mod Replies
pub mod Turns
