-- Members one after the other.
use Rattle.std.proofs.Common.{◌≡◌, ℕ, suc, ◌+◌, ◌-◌, ◌*◌, ◌<◌, Bool, List, [], ◌∷◌, refl, arith}
use Rattle.kc_btf.specs.declared.types.Member.{Member}
use Rattle.kc_btf.specs.Numbers.{word, words}
use Rattle.kc_btf.specs.Readers.{members, member_of}

pub words-three : (n at : ℕ) (bytes : List ℕ) → words (suc (suc (suc n))) bytes at ≡ word bytes at ∷ word bytes (at + 4) ∷ word bytes (at + 8) ∷ words n bytes (at + 12)
unfolding words
words-three n at bytes =
    let third : at + 4 + 4 ≡ at + 8 = omega arith in
    let next : at + 8 + 4 ≡ at + 12 = omega arith in
    rw third (rw next refl)

-- the next of the members that are left
pub members-next : (left at : ℕ) (flag : Bool) (bytes : List ℕ) (member : Member) → 0 < left → member ≡ member_of flag (word bytes at) (word bytes (at + 4)) (word bytes (at + 8)) →
    members flag (words (3 * left) bytes at) ≡ member ∷ members flag (words (3 * (left - 1)) bytes (at + 12))
unfolding members
members-next left at flag bytes member some is =
    let three : 3 * left ≡ suc (suc (suc (3 * (left - 1)))) = omega arith in
    rw (three, words-three (3 * (left - 1)) at bytes, is) refl

-- none is left
pub members-none : (left at : ℕ) (flag : Bool) (bytes : List ℕ) → left ≡ 0 → members flag (words (3 * left) bytes at) ≡ []
unfolding members words
members-none left at flag bytes none = rw none refl
