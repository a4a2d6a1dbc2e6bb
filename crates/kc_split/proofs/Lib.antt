mod BackLemmas
mod FileLemmas
mod JoinLemmas
mod NameLemmas
mod MoreLemmas
mod SplitLemmas
