mod Making
mod OneShape
mod Single
mod TextLemmas
pub mod FitsLemmas
pub mod RecheckingLemmas
mod CertifyingLemmas
