-- What a card asks, the text that explains a value, and what is printed of both.
pub mod Explained
pub mod Asking
pub mod Saying
pub mod Choice
