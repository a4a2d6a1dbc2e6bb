mod FreeTests
mod CachesTake
mod TasksTake
mod CachesKeep
mod TasksKeep
mod GivenLaws
mod Telling
mod PidsLemmas
