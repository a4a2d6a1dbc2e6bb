mod DecimalLemmas
pub mod HexLemmas
