pub mod Keeps
pub mod Ranges
pub mod Strides
pub mod Tells
pub mod Ways
