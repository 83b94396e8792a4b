pub mod Seen
pub mod Demand3
pub mod EachCall
