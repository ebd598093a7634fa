-- What the store's private functions cite: a cell as an answer, and a climb.
pub mod Cells
pub mod Climbs
