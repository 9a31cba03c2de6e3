pub mod One
pub mod OneRow
pub mod OneAnswer
pub mod OneEntry
pub mod OneExtractor
pub mod Wrong
