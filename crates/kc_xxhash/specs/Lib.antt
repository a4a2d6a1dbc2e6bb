pub mod Xxh64
