-- Laws that the proofs of several functions cite.
pub mod Lines
pub mod Tops
pub mod Texts
pub mod Running
pub mod Stepping
pub mod Beginning
