pub mod State
pub mod Reply
pub mod Burst
