-- What a card prints, how far its run has come, that the text leaves no choice, and that no walk is ever under way.
pub mod Output
pub mod Steps
pub mod Choice
pub mod AtRest
