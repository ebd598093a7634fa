pub mod Face
pub mod OneReply
