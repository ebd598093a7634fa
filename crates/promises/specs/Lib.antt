-- What the store's calls answer and promise, in document 01's words. What holds of all of them is proved in proofs/.
pub mod Answers
pub mod Tables
pub mod Promises
pub mod Calls
