-- A word that is found is one that the dump holds, so a list of different ones isn't longer than their number.
use Rattle.std.proofs.Common.{◌≡◌, ℕ, zero, suc, ◌*◌, ◌/◌, ◌%◌, ◌^◌, ◌<◌, ◌≤◌, nat_eq, Bool, true, false, if◌then◌else◌, List, ◌∷◌, Option, Some, None, Result, Ok, Err, refl, subst, arith, inl, inr}
use Rattle.std.specs.Prelude.{is_some}
use Rattle.std.specs.Set.{is_member}
use Rattle.std.specs.Cmp.{nat_eq_equiv}
use Rattle.std.proofs.lemmas.Bool.{eqb-true}
use Rattle.std.proofs.Math.Nat.{eq-or-lt_of_le}
use Rattle.std.proofs.Math.Bool.{or-true}
use Rattle.kc_memory.specs.declared.rule.Rule.TheVariants.{M1, M2}
use Rattle.kc_memory.specs.declared.words.PWord.{PWord}
use Rattle.kc_memory.specs.declared.words.VWord.{VWord}
use Rattle.kc_memory.specs.Stopped.{Stopped}
use Rattle.kc_memory.specs.Image.{Physical, Image, pword}
use Rattle.kc_memory.specs.Held.{held, held_below}
use Rattle.kc_memory.specs.Translation.{and_then, is_canonical, levels, stop, translated, vword, word_or_stop, xlate}
use Rattle.kc_memory.specs.Laws.{FoundIsHeld}
use Rattle.kc_memory.proofs.PageLaws.{arrives}

member_at : (b : Bool) (x y : ℕ) (xs : List ℕ) → is_member nat_eq xs y ≡ true → is_member nat_eq (if b then x ∷ xs else xs) y ≡ true
member_at true x y xs there = rw there (or-true (nat_eq y x))
member_at false x y xs there = there

here : (b : Bool) (x : ℕ) (xs : List ℕ) → b ≡ true → is_member nat_eq (if b then x ∷ xs else xs) x ≡ true
here true x xs e = rw (nat_eq_equiv.refl x) refl
here false x xs e = absurd (cc)

member_below : (physical : Physical) (n k : ℕ) → k < n → is_some (pword physical (8 * k)) ≡ true → is_member nat_eq (held_below physical n) (8 * k) ≡ true
unfolding held_below
member_below physical zero k lt e = absurd (omega arith)
member_below physical (suc n) k lt e = let le : k ≤ n = omega arith in elim (eq-or-lt_of_le le) [
  | inl same ↦ rw (← same) (here (is_some (pword physical (8 * k))) (8 * k) (held_below physical k) e)
  | inr less ↦ member_at (is_some (pword physical (8 * n))) (8 * n) (8 * k) (held_below physical n) (member_below physical n k less e)
]

held_at : (physical : Physical) (pa k : ℕ) → pa ≡ 8 * k → k < 2 ^ 61 → is_some (pword physical pa) ≡ true → is_member nat_eq (held physical) pa ≡ true
unfolding held
held_at physical pa k e lt there = rw e (member_below physical (2 ^ 61) k lt (rw e at there))

-- a translation ends below 2^52, with the low bits of the address
from_top : (physical : Physical) (mask va table pa : ℕ) (five : Bool) → xlate physical mask va (if five then 5 else 4) table ≡ Ok pa → (pa % 4096 ≡ va % 4096) × (pa < 2 ^ 52)
from_top physical mask va table pa true is = arrives physical mask 4 table va pa is
from_top physical mask va table pa false is = arrives physical mask 3 table va pa is

canonical : (image : Image) (va pa : ℕ) (b : Bool) → (if b then xlate image.physical image.paging.sme va (levels image.paging) image.paging.table else stop va M2 0 0 None) ≡ Ok pa → (pa % 4096 ≡ va % 4096) × (pa < 2 ^ 52)
canonical image va pa true is = from_top image.physical image.paging.sme va image.paging.table pa image.paging.five is
canonical image va pa false is = absurd (cc)

-- the word at the end of it
at_end : (physical : Physical) (va pa : ℕ) (there : Option PWord) (w : VWord) → pword physical pa ≡ there → va % 8 ≡ 0 → pa % 4096 ≡ va % 4096 → pa < 2 ^ 52 → word_or_stop va pa there ≡ Ok w → is_member nat_eq (held physical) w.pa ≡ true
at_end physical va pa None w is aligned low small e = absurd (cc)
at_end physical va pa (Some p) w is aligned low small e =
    let some : is_some (pword physical pa) ≡ true = rw is refl in
    let same : pa ≡ w.pa = cc in
    subst (λ (q : ℕ). is_member nat_eq (held physical) q ≡ true) same (held_at physical pa (pa / 8) (omega arith) (omega arith) some)

found_by : (image : Image) (va : ℕ) (w : VWord) (r : Result ℕ Stopped) → va % 8 ≡ 0 → ((pa : ℕ) → r ≡ Ok pa → (pa % 4096 ≡ va % 4096) × (pa < 2 ^ 52)) → and_then r (λ pa. word_or_stop va pa (pword image.physical pa)) ≡ Ok w → is_member nat_eq (held image.physical) w.pa ≡ true
found_by image va w (Ok pa) aligned ends is = let end = ends pa refl in at_end image.physical va pa (pword image.physical pa) w refl aligned end.0 end.1 is
found_by image va w (Err s) aligned ends is = absurd (cc)

tested : (image : Image) (va : ℕ) (w : VWord) (b : Bool) → nat_eq (va % 8) 0 ≡ b → (if b then and_then (translated image va) (λ pa. word_or_stop va pa (pword image.physical pa)) else stop va M1 0 0 None) ≡ Ok w → is_member nat_eq (held image.physical) w.pa ≡ true
tested image va w true aligned is = found_by image va w (translated image va) (eqb-true (va % 8) 0 aligned) (λ pa came. canonical image va pa (is_canonical image.paging va) came) is
tested image va w false aligned is = absurd (cc)

pub found_is_held : FoundIsHeld
unfolding vword
found_is_held image va w is = tested image va w (nat_eq (va % 8) 0) refl is
