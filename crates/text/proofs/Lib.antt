-- Laws that the proofs of several functions cite.
pub mod Table
pub mod Reading
pub mod Signed
pub mod KeyTable
pub mod Cutting
pub mod Pairs
pub mod Operands
pub mod Leading
pub mod Injective
