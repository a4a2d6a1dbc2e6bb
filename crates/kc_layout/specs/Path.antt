-- The text of a path: nothing, or a name and then any of `.name`, `[decimal]` and `->name`.
use Rattle.std.specs.Prelude.{ℕ, zero, suc, Bool, true, false, List, [], ◌∷◌, length, take, drop, Option, Some, None, option_map, option_and_then, ◌==◌, ◌&&◌, ◌||◌, not, nat_lt, nat_le, ℤ, pos, negsuc, if◌then◌else◌}
use Rattle.std.specs.List.{position_or_len}
use Rattle.kc_word.specs.Decimal.{decimal_number}

-- a step of a path: a member of a struct or union, an element of an array, or a member of what a pointer
-- points to
pub data Step : Type 0 where
  Member : (name : List ℕ) → Step
  Element : (index : ℕ) → Step
  Pointee : (name : List ℕ) → Step

-- a step with the text behind it
pub record Cut : Type 0 where
  pub step : Step
  pub rest : List ℕ

abbrev pub is_digit : ℕ → Bool
is_digit c = nat_le 48 c && nat_le c 57

-- letters and `_` begin a name, and digits may follow
abbrev pub is_letter : ℕ → Bool
is_letter c = (nat_le 65 c && nat_le c 90) || (c == 95) || (nat_le 97 c && nat_le c 122)

abbrev pub is_word : ℕ → Bool
is_word c = is_letter c || is_digit c

abbrev pub begins_name : List ℕ → Bool
begins_name [] = false
begins_name (c ∷ cs) = is_letter c

-- how many bytes of a name, and how many digits, a text begins with
abbrev pub word_length : List ℕ → ℕ
word_length text = position_or_len (λ c. not (is_word c)) text

abbrev pub digits_length : List ℕ → ℕ
digits_length text = position_or_len (λ c. not (is_digit c)) text

-- the name that a text begins with, and the text behind it
abbrev pub name_cut : List ℕ → Option (List ℕ × List ℕ)
name_cut text = if begins_name text then Some (take (word_length text) text, drop (word_length text) text) else None

-- an index is written by 1 to 10 digits
abbrev pub natural : ℤ → Option ℕ
natural (pos n) = Some n
natural (negsuc n) = None

abbrev pub index_of : List ℕ → Option ℕ
index_of digits = if nat_lt 10 (length digits) then None else option_and_then natural (decimal_number digits)

-- the text behind a `]`
abbrev pub behind_bracket : List ℕ → Option (List ℕ)
behind_bracket [] = None
behind_bracket (c ∷ cs) = if c == 93 then Some cs else None

-- the index that a text begins with, and the text behind its `]`
abbrev pub index_cut : List ℕ → Option (ℕ × List ℕ)
index_cut text = option_and_then (λ index. option_map (λ rest. (index, rest)) (behind_bracket (drop (digits_length text) text)))
    (index_of (take (digits_length text) text))

-- a step with what was cut off for it
abbrev pub by : {X : Type 0} → (X → Step) → Option (X × List ℕ) → Option Cut
by step o = option_map (λ c. record { step = step c.0; rest = c.1 }) o

-- the step behind a `-`
abbrev pub cut_arrow : List ℕ → Option Cut
cut_arrow [] = None
cut_arrow (c ∷ cs) = if c == 62 then by (λ name. Pointee name) (name_cut cs) else None

-- the step that a text begins with, by `.`, `[` or `->`
abbrev pub cut_next : List ℕ → Option Cut
cut_next [] = None
cut_next (c ∷ cs) =
    if c == 46 then by (λ name. Member name) (name_cut cs)
    else (if c == 91 then by (λ index. Element index) (index_cut cs)
    else (if c == 45 then cut_arrow cs else None))

-- the first step of a path is a name alone
abbrev pub cut : Bool → List ℕ → Option Cut
cut true text = by (λ name. Member name) (name_cut text)
cut false text = cut_next text

-- the steps of a text to its end, at most so many, of which the first may be a path's first
unfoldable pub steps_from : ℕ → Bool → List ℕ → Option (List Step)
steps_from most first [] = Some []
steps_from zero first (c ∷ cs) = None
steps_from (suc most) first (c ∷ cs) =
    option_and_then (λ here. option_map (λ more. here.step ∷ more) (steps_from most false here.rest)) (cut first (c ∷ cs))

-- the steps of a path. It has at most 256 bytes.
abbrev pub path_steps : List ℕ → Option (List Step)
path_steps text = if nat_lt 256 (length text) then None else steps_from 256 true text
