mod PointerLemmas
mod ValueLaws
mod WordLemmas
