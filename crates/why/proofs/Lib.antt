-- Laws that the proofs of several functions cite.
pub mod Climb
pub mod Telling
pub mod Chain
pub mod Peeking
pub mod Ending
pub mod Answering
pub mod Asking
pub mod Behind
