mod EndsLemmas
mod Joining
mod KernelLemmas
mod Opening
