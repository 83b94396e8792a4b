pub mod Bytes
pub mod Reading
pub mod Redirect
pub mod HeaderChecksum
pub mod Laws
pub mod ControlBits
