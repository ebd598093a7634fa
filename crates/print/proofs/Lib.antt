-- Laws that the proofs of several functions cite.
pub mod Buffer
pub mod Digits
pub mod Signs
