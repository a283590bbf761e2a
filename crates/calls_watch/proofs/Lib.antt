mod Histories
mod Uncalled
mod Watched
mod Rights
mod Pairs
mod Listed
mod TextLemmas
mod DecidingLemmas
mod LineLemmas
mod PieceLemmas
mod EndLemmas
mod SameKinds
mod Called
mod Simple
mod Settled
pub mod Agreeing
