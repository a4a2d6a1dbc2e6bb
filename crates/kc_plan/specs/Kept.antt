-- What every plan keeps, whatever bytes it was read from.
use Rattle.std.specs.Prelude.{ℕ, suc, Bool, true, ◌&&◌, ◌||◌, ◌==◌, nat_lt, List, [], ◌∷◌, if◌then◌else◌}
use Rattle.std.specs.List.{count_by, list_all, sum_by}
use Rattle.kc_text.specs.Readers.{is_name}
use Rattle.kc_plan.specs.Planned.{AuditAt, is_from}

-- a plan of this version asks for one verdict on all audits, or for one on each root audit
abbrev pub is_version : ℕ → Bool
is_version version = (version == 1) || (version == 2)

-- each audit's name has the form of a name
abbrev pub have_names : List AuditAt → Bool
have_names audits = list_all (λ (audit : AuditAt). is_name audit.name) audits

-- each number lies behind k and below the count
abbrev pub are_between : ℕ → ℕ → List ℕ → Bool
are_between k count [] = true
are_between k count (m ∷ ms) = (nat_lt k m && nat_lt m count) && are_between k count ms

-- audits that are counted from k on name later ones only, of so many
abbrev pub are_later : ℕ → ℕ → List AuditAt → Bool
are_later k count [] = true
are_later k count (audit ∷ later) = are_between k count audit.each && are_later (suc k) count later

-- how often audits name the one with a number
abbrev pub times_named : ℕ → List AuditAt → ℕ
times_named number audits = sum_by (λ (audit : AuditAt). count_by (λ n. n == number) audit.each) audits

-- audits that are counted from k on are named once among all where they begin at a `from`, and else never
abbrev pub named_once : List AuditAt → ℕ → List AuditAt → Bool
named_once all k [] = true
named_once all k (audit ∷ later) =
    (times_named k all == (if is_from audit.start then 1 else 0)) && named_once all (suc k) later
