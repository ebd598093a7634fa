-- What is proved of the definitions of specs/, in the order to read:
pub mod Tests
pub mod Plain
pub mod AsAct
pub mod NeverRead
pub mod NoChoice
pub mod Held
pub mod Runs
pub mod Doors
pub mod OneStep
pub mod Along
pub mod Finished
pub mod Demands
pub mod Cases
pub mod Pairs
