mod Words
mod Adding
mod Fitting
mod Coming
mod Lifting
mod Lines
mod Groups
mod Texts
mod CellWords
mod Values
mod ObjectWords
mod PhraseWords
mod BlankWords
mod CallLines
mod ReplyLines
mod EventLines
mod OpeningLines
pub mod TextParts
mod Histories
mod Prefixes
mod FineWords
mod GroupNames
mod Rules
mod Finding
mod TakenEvents
mod TakenOpening
mod EventParts
mod KeepingRules
pub mod Example
mod FollowingLines
mod LongLines
pub mod ReachedLines
pub mod FurtherLines
