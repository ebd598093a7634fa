-- What follows from the promises of the store's calls. In the order to read:
pub mod Tests
pub mod Plain
pub mod AsAct
pub mod Held
pub mod Runs
pub mod Doors
pub mod OneStep
pub mod Walks
pub mod Demands
pub mod Cases
pub mod Pairs
