pub mod Ones
pub mod Laws
