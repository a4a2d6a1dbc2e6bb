-- Reading the lines, one by one.
use Rattle.std.proofs.Common.{◌≡◌, ℕ, ◌+◌, Bool, true, false, List, [], ◌∷◌, ◌++◌, Some, None, Result, Ok, Err, refl, sym, ap, ◌∙◌, append_assoc, if◌then◌else◌}
use Rattle.std.proofs.lemmas.List.{append-nil}
use Rattle.std.specs.Str.{bytes_eq}
use Rattle.kc_syms.specs.Answers.{Stands}
use Rattle.kc_syms.specs.Listed.{put_behind}
use Rattle.kc_syms.specs.Rows.{RowText, addresses, lines, row_before, row_of, rows, rows_from}

-- rows before the answer for what is behind them
abbrev pub rows_before : List RowText → Result (List RowText) ℕ → Result (List RowText) ℕ
rows_before done (Ok rest) = Ok (done ++ rest)
rows_before done (Err bad) = Err bad

-- The answer is that of these rows before the lines that are left, which are counted from a number on.
pub record IsReadTo (listed : List ℕ → List ℕ) (number : ℕ) (left : List (List ℕ)) (meant : Result (List RowText) ℕ) : Type 0 where
  pub done : List RowText
  pub whole : rows_before done (rows_from number left) ≡ meant
  pub stands : Stands listed done

put_first : (first address : ℕ) (put : Bool) (list : List ℕ) → first ∷ put_behind put list address ≡ put_behind put (first ∷ list) address
put_first first address true list = refl
put_first first address false list = refl

-- the addresses of a name, with a row more
pub addresses-more : (name : List ℕ) (done : List RowText) (row : RowText) → addresses name (done ++ row ∷ []) ≡ put_behind (bytes_eq row.name name) (addresses name done) row.listed
addresses-more name [] row = refl
addresses-more name (first ∷ done) row =
    elim (bytes_eq first.name name) as (λ b. (if b then first.listed ∷ addresses name (done ++ row ∷ []) else addresses name (done ++ row ∷ [])) ≡ put_behind (bytes_eq row.name name) (if b then first.listed ∷ addresses name done else addresses name done) row.listed) [
      | true ↦ ap (λ l. first.listed ∷ l) (addresses-more name done row) ∙ put_first first.listed row.listed (bytes_eq row.name name) (addresses name done)
      | false ↦ addresses-more name done row
    ]

rows_before-more : (done : List RowText) (row : RowText) (number : ℕ) (rest : Result (List RowText) ℕ) → rows_before done (row_before (Some row) number rest) ≡ rows_before (done ++ row ∷ []) rest
rows_before-more done row number (Ok rest) = ap (λ (l : List RowText). Ok l) (sym (append_assoc done (row ∷ []) rest))
rows_before-more done row number (Err bad) = refl

-- a line that is a row
pub reads_row : (listed after : List ℕ → List ℕ) (number : ℕ) (line : List ℕ) (left : List (List ℕ)) (meant : Result (List RowText) ℕ) (row : RowText)
    → IsReadTo listed number (line ∷ left) meant → row_of line ≡ Some row → ((name : List ℕ) → after name ≡ put_behind (bytes_eq row.name name) (listed name) row.listed)
    → IsReadTo after (number + 1) left meant
reads_row listed after number line left meant row so_far is put = record {
  done = so_far.done ++ row ∷ [];
  whole = sym (rows_before-more so_far.done row number (rows_from (number + 1) left)) ∙ ap (λ o. rows_before so_far.done (row_before o number (rows_from (number + 1) left))) (sym is) ∙ so_far.whole;
  stands = λ name. put name ∙ ap (λ l. put_behind (bytes_eq row.name name) l row.listed) (so_far.stands name) ∙ sym (addresses-more name so_far.done row);
}

-- a line that is none
pub reads_bad : (listed : List ℕ → List ℕ) (number : ℕ) (line : List ℕ) (left : List (List ℕ)) (meant : Result (List RowText) ℕ)
    → IsReadTo listed number (line ∷ left) meant → row_of line ≡ None → meant ≡ Err number
reads_bad listed number line left meant so_far is =
    sym (ap (λ o. rows_before so_far.done (row_before o number (rows_from (number + 1) left))) (sym is) ∙ so_far.whole)

-- no line is left
pub reads_all : (listed : List ℕ → List ℕ) (number : ℕ) (meant : Result (List RowText) ℕ)
    → IsReadTo listed number [] meant → (rows : List RowText) × (meant ≡ Ok rows) × Stands listed rows
reads_all listed number meant so_far =
    (so_far.done, sym so_far.whole ∙ ap (λ (l : List RowText). Ok l) (append-nil so_far.done), so_far.stands)

-- before the first line
pub reads_none : (listed : List ℕ → List ℕ) (bytes : List ℕ) → ((name : List ℕ) → listed name ≡ []) → IsReadTo listed 1 (lines bytes) (rows bytes)
unfolding rows
reads_none listed bytes none = record { done = []; whole = before_none (rows_from 1 (lines bytes)); stands = none }
  where
    before_none : (r : Result (List RowText) ℕ) → rows_before [] r ≡ r
    before_none (Ok rows) = refl
    before_none (Err bad) = refl
