-- What a search says of how far it is: a line at each gigabyte (10^9 bytes) of words that it has read.
use Rattle.std.specs.Prelude.{◌≡◌, ℕ, ◌+◌, ◌-◌, ◌/◌, ◌≤◌, Bool, true, false, List, [], ◌∷◌, ◌++◌, codes, decimal, Option, Some, None}
use Rattle.std.specs.List.{range_with_len}
use Rattle.kc_word.specs.declared.plain.Segment.{Segment}
use Rattle.kc_outside.specs.Texts.{with_piece}
use Rattle.kc_text.specs.Compose.{texts}
use Rattle.kc_sight.specs.Refs.Holding.{word_count}

-- a gigabyte, in words of 8 bytes
abbrev pub gigabyte : ℕ
gigabyte = 125000000

-- so many words in gigabytes, rounded up
abbrev pub gigabytes : ℕ → ℕ
gigabytes words = (words + (gigabyte - 1)) / gigabyte

-- how many words are searched: those that stand whole in the segments' file bytes
abbrev pub words_in : List Segment → ℕ
words_in [] = 0
words_in (s ∷ others) = word_count s + words_in others

-- so many gigabytes, of so many in all, are read
abbrev pub read_line : ℕ → ℕ → List ℕ
read_line all n = codes "read " ++ decimal n ++ codes " of " ++ decimal all ++ codes " GB\n"

-- the lines at so many gigabytes after the first ones, of so many in all
abbrev pub read_lines : ℕ → ℕ → ℕ → List ℕ
read_lines all first count = texts (read_line all) (range_with_len (first + 1) count)

-- where a search is told of, how many gigabytes it reads in all
abbrev pub goal_of : Bool → List Segment → Option ℕ
goal_of false segments = None
goal_of true segments = Some (gigabytes (words_in segments))

-- what is said from one word of it to another
abbrev pub lines_to : Option ℕ → ℕ → ℕ → List ℕ
lines_to None from to = []
lines_to (Some all) from to = read_lines all (from / gigabyte) (to / gigabyte - from / gigabyte)

-- what is said of a whole search
abbrev pub progress_text : Bool → List Segment → List ℕ
progress_text progress segments = lines_to (goal_of progress segments) 0 (words_in segments)

-- a sink took what is said up to some word between the two: the last that was read
pub record TookUntil (goal : Option ℕ) (from to : ℕ) (old new : Option (List ℕ)) : Type 0 where
  pub at : ℕ
  pub after : from ≤ at
  pub within : at ≤ to
  pub took : new ≡ with_piece old (lines_to goal from at)
