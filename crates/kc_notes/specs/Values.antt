-- The values in VMCOREINFO's text (the kernel's kdump documents, "VMCOREINFO"): lines of a key, = and a value.
use Rattle.std.specs.Prelude.{ℕ, ◌+◌, ◌==◌, ◌&&◌, List, [], ◌∷◌, length, take, drop, Option, Some, None, nat_lt, slice_index, if◌then◌else◌}
use Rattle.std.specs.List.{slice_split}
use Rattle.std.specs.Option.{option_or}
use Rattle.std.specs.Str.{bytes_eq}

-- what stands behind a key and = at the head of a line
abbrev pub behind_key : List ℕ → List ℕ → Option (List ℕ)
behind_key key line =
    if nat_lt (length key) (length line) && bytes_eq (take (length key) line) key && (slice_index line (length key) == 61)
    then Some (drop (length key + 1) line) else None

-- the first value of a key among lines
abbrev pub value_in : List ℕ → List (List ℕ) → Option (List ℕ)
value_in key [] = None
value_in key (line ∷ lines) = option_or (behind_key key line) (value_in key lines)

-- the lines of a text, which end at newlines
abbrev pub lines_of : List ℕ → List (List ℕ)
lines_of text = slice_split (λ c. c == 10) text

-- the first value of a key in a text
unfoldable pub value_of : List ℕ → List ℕ → Option (List ℕ)
value_of key text = value_in key (lines_of text)
