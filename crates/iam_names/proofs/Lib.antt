pub mod AccountLemmas
pub mod CutLemmas
pub mod JoinedLemmas
pub mod PrintedLemmas
pub mod ReadBackLemmas
