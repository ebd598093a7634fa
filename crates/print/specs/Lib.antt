-- The text that a run prints, and how it is written into a lent buffer; with the laws.
pub mod Writing
pub mod Printed
pub mod Explaining
pub mod Examples
