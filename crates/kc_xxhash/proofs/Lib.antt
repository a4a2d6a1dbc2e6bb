mod Xxh64Lemmas
