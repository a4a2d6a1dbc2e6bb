mod KeyLaws
mod Loops
