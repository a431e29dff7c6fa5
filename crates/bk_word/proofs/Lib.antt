-- words: their order, worked examples, how the code stores them
pub mod WordOrder
pub mod WordExamples
pub mod SignLaws
pub mod StoredBytes
pub mod StoredOrder
pub mod CountPlaces
-- the play: its lists, and words that are played in two parts
pub mod PlayLists
pub mod PlayLaws
pub mod WordCuts
pub mod FollowLaws
-- words and items as texts: what is written is read, and what was read is written
pub mod WordItemExamples
pub mod WordsRead
pub mod WordsSpelled
pub mod WordPieces
pub mod ReadSoFar
pub mod WordProgress
pub mod ItemParts
pub mod KeptTexts
