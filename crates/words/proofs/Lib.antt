pub mod WordLemmas
pub mod SealLemmas
