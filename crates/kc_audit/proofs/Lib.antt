mod NameLemmas
mod ReachedLemmas
