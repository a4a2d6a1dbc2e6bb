mod Answering
mod Converting
mod FileLaws
mod LineLaws
mod MapLaws
mod ModuleLaws
mod RingLaws
mod Told
