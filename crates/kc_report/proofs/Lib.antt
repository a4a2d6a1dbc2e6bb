mod BackLemmas
mod FormatLaws
mod ItemLemmas
