-- What a whole card is and which line is its first bad one, with the laws of the check.
pub mod Cards
pub mod Judging
pub mod Running
pub mod Roomy
pub mod AtRest
pub mod Tops
pub mod Choice
pub mod Examples
pub mod FirstBad
pub mod Cases
