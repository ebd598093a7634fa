-- What the card's text means: decimals, key words and lines, with their laws.
pub mod Words
pub mod Every
pub mod Finds
pub mod Decimal
pub mod DecimalLaws
pub mod Numbers
pub mod ReadBack
pub mod Keys
pub mod Limits
pub mod Lines
pub mod Choice
