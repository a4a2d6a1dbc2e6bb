-- What the symbols of a map are.
use Rattle.std.specs.Prelude.{◌≡◌, List, Some, Result, Ok, Err}
use Rattle.kc_syms.specs.declared.symbols.Symbols.{Symbols}
use Rattle.kc_syms.specs.Answers.{Stands}
use Rattle.kc_syms.specs.Rows.{RowText}
use Rattle.kc_syms.specs.Symbols.{symbol}
use Rattle.kc_command.specs.declared.halt.Halt.{Halt}
use Rattle.kc_command.specs.Made.{Halts, Made}

-- the symbols are those of the rows that a step makes: each name has its rows' addresses
abbrev pub ReadsRows : Made (List RowText) → Result Symbols Halt → Type 0
ReadsRows made (Ok symbols) = (rows : List RowText) × (made ≡ Some (Ok rows)) × Stands (symbol symbols) rows
ReadsRows made (Err halt) = Halts made halt
