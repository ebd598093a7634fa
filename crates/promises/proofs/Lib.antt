-- What is proved of the definitions of specs/, in the order to read:
pub mod Tables
pub mod Stable
pub mod Calls
