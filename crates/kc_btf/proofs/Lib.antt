mod NumberLemmas
mod PlaceLemmas
mod MemberLemmas
mod KeptLemmas
mod ReadLemmas
mod SpellingLemmas
mod NameLemmas
