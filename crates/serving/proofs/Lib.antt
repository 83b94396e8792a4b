pub mod Tells
pub mod Bounds
pub mod Standings
pub mod Bursts
pub mod Lengths
pub mod Turns
pub mod Records
pub mod Traces
