-- What reading into a buffer gives.
pub mod Input
