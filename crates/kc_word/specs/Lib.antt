pub mod Answers
pub mod Decimal
pub mod Hex
pub mod HexDigits
pub mod Numbers
