pub mod CertLaws
pub mod TimesLoops
