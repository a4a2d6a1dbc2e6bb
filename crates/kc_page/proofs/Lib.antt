mod DescentLemmas
