-- Paths, step by step.
use Rattle.std.proofs.Common.{◌≡◌, ℕ, zero, suc, ◌-◌, ◌<◌, Bool, false, List, [], ◌∷◌, ◌++◌, Option, Some, None, Result, Ok, Err, refl, arith, append-nil, sym, ap, ◌∙◌, append_assoc}
use Rattle.std.specs.Prelude.{OnOk, find}
use Rattle.kc_btf.specs.declared.types.Member.{Member}
use Rattle.kc_btf.specs.Btf.{Types}
use Rattle.kc_layout.specs.declared.member_path.step.Step.{Step}
use Rattle.kc_layout.specs.MemberPath.MemberPaths.{begins, label_text, last_or, path_within, step_into}

-- no step is left
pub path_last : (levels : ℕ) (types : Types) (begun : Bool) (ty byte : ℕ) (old : List ℕ) → levels ≡ 0 → old ≡ old ++ path_within levels types begun ty byte
unfolding path_within
path_last zero types begun ty byte old last = sym (append-nil old)
path_last (suc levels) types begun ty byte old last = absurd (omega arith)

-- there is none
pub path_ends : (levels : ℕ) (types : Types) (begun : Bool) (ty byte : ℕ) (old : List ℕ) → step_into types ty byte ≡ None → old ≡ old ++ path_within levels types begun ty byte
unfolding path_within
path_ends zero types begun ty byte old none = sym (append-nil old)
path_ends (suc levels) types begun ty byte old none = rw none (sym (append-nil old))

-- one step
pub path_next : (levels : ℕ) (types : Types) (begun on : Bool) (ty byte : ℕ) (old mid new : List ℕ) (s : Step) → 0 < levels → step_into types ty byte ≡ Some s → on ≡ begins types begun s.label
    → mid ≡ old ++ label_text types begun s.label → new ≡ mid ++ path_within (levels - 1) types on s.ty s.byte → new ≡ old ++ path_within levels types begun ty byte
unfolding path_within
path_next zero types begun on ty byte old mid new s some is goes first rest = absurd (omega arith)
path_next (suc levels) types begun on ty byte old mid new s some is goes first rest =
    let left : suc levels - 1 ≡ levels = omega arith in
    rw is (rw (left, goes, first) at rest ∙ append_assoc old (label_text types begun s.label) (path_within levels types (begins types begun s.label) s.ty s.byte))

-- what follows where something succeeded
pub on_ok : {A E P Q : Type 0} (r : Result A E) → (P → Q) → OnOk r P → OnOk r Q
on_ok (Ok a) goes p = goes p
on_ok (Err e) goes p = tt

-- a search goes on behind an item that isn't wanted
skipped : {X : Type 0} (f : X → Bool) (x : X) (xs : List X) → f x ≡ false → find f (x ∷ xs) ≡ find f xs
skipped f x xs fails = rw fails refl

pub find_on : {X : Type 0} (f : X → Bool) (x : X) (all rest : List X) (o : Option X) → all ≡ x ∷ rest → f x ≡ false → find f all ≡ o → find f rest ≡ o
find_on f x all rest o is fails found = sym (skipped f x rest fails) ∙ ap (find f) (sym is) ∙ found

-- the last of none is the one before
pub last_none : (other : Option Member) (ms : List Member) → ms ≡ [] → last_or other ms ≡ other
unfolding last_or
last_none other ms none = rw none refl

pub last_next : (other : Option Member) (m : Member) (ms rest : List Member) → ms ≡ m ∷ rest → last_or other ms ≡ last_or (Some m) rest
unfolding last_or
last_next other m ms rest is = rw is refl
