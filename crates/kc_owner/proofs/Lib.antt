pub mod KnownLemmas
pub mod TextLemmas
pub mod GivesLemmas
pub mod RingLemmas
pub mod RingOnce
pub mod RingParts
pub mod ObjectLemmas
pub mod AreaLemmas
