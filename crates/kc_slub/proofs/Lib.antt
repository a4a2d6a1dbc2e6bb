mod CacheLaw
mod CacheShown
mod FreeLaw
mod FreeShown
mod FreeSites
mod FreeWalk
mod Steps
mod Spending
