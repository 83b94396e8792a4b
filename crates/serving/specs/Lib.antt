pub mod Told
pub mod Way
pub mod Counters
pub mod Trace
pub mod Serve
pub mod Burst
