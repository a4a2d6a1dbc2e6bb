mod CacheLaw
mod Ending
mod Finding
mod Searching
mod TaskLaw
