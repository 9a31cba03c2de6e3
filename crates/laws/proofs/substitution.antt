pub mod SubstFree
pub mod SubstAmong
pub mod NotFree
pub mod TwoFeeds
pub mod Needed
