-- The structs that a kind needs of a kernel.
use Rattle.std.specs.Prelude.{ℕ, ◌≤◌, IfSome}
use Rattle.kc_kinds.specs.declared.row.Row.{Row}

-- the types of a row are among so many
pub record IsRow (count : ℕ) (row : Row) : Type 0 where
  pub head : IfSome row.head (λ id. id ≤ count)
  pub node : IfSome row.node (λ id. id ≤ count)
  pub element : IfSome row.element (λ id. id ≤ count)
