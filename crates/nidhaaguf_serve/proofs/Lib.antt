pub mod Buffers
pub mod Replies
