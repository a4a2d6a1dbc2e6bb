pub mod HeldLaws
mod NumberLaws
mod PageLaws
mod PlaceLaws
mod WordLaws
