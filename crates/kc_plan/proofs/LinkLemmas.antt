-- How deep an audit stands.
use Rattle.std.proofs.Common.{◌≡◌, ℕ, zero, suc, List, true, false, Some, None, refl, arith}
use Rattle.kc_plan.specs.declared.item.Link.{Link}
use Rattle.kc_plan.specs.Links.{above_of, is_within}

pub within-zero : (most : ℕ) (links : List Link) (number : ℕ) → most ≡ 0 → is_within most links number ≡ false
unfolding is_within
within-zero zero links number e = refl
within-zero (suc most) links number e = absurd (omega arith)

pub within-root : (most : ℕ) (links : List Link) (number : ℕ) → (most ≡ 0 → ⊥) → above_of links number ≡ None → is_within most links number ≡ true
unfolding is_within
within-root zero links number some none = absurd (some refl)
within-root (suc most) links number some none = rw none

pub within-above : (most less : ℕ) (links : List Link) (number above : ℕ) → most ≡ suc less → above_of links number ≡ Some above → is_within most links number ≡ is_within less links above
unfolding is_within
within-above most less links number above e found = rw (e, found)
