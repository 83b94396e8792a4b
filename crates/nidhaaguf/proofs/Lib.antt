pub mod States
pub mod Handed
pub mod Bursts
