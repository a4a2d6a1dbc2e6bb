-- The first byte at which two files differ, byte by byte.
use Rattle.std.proofs.Common.{◌≡◌, ◌≢◌, ℕ, suc, ◌+◌, ◌<◌, ◌≤◌, nat_eq, nat_lt, min, Bool, true, false, if◌then◌else◌, List, [], ◌∷◌, length, drop, get_or, Option, Some, None, option_map, refl, sym, ap, ◌∙◌, arith}
use Rattle.std.proofs.lemmas.Bool.Decides.{nat_tests}
use Rattle.std.proofs.lemmas.List.{drop_all}
use Rattle.std.proofs.Math.Seq.{drop-cons}
use Rattle.kc_match.specs.Beside.{first_difference}

-- a place so many bytes on
abbrev pub shift : ℕ → Option ℕ → Option ℕ
shift at None = None
shift at (Some n) = Some (at + n)

-- what is found from so many bytes on
abbrev pub from_byte : List ℕ → List ℕ → ℕ → Option ℕ
from_byte file own at = shift at (first_difference (drop at file) (drop at own))

shift-none : (o : Option ℕ) → o ≡ shift 0 o
shift-none None = refl
shift-none (Some n) = ap (λ k. Some k) (let e : n ≡ 0 + n = omega arith in e)

pub difference_first : (file own : List ℕ) → first_difference file own ≡ from_byte file own 0
difference_first file own = shift-none (first_difference file own)

shift-suc : (at : ℕ) (o : Option ℕ) → shift at (option_map (λ n. suc n) o) ≡ shift (at + 1) o
shift-suc at None = refl
shift-suc at (Some n) = ap (λ k. Some k) (let e : at + suc n ≡ (at + 1) + n = omega arith in e)

same-next : (b c : ℕ) (bs cs : List ℕ) → b ≡ c → first_difference (b ∷ bs) (c ∷ cs) ≡ option_map (λ n. suc n) (first_difference bs cs)
unfolding first_difference
same-next b c bs cs is =
    let e : nat_eq b c ≡ true = grind (arith, nat_tests) in
    rw e refl

other-next : (b c : ℕ) (bs cs : List ℕ) → b ≢ c → first_difference (b ∷ bs) (c ∷ cs) ≡ Some 0
unfolding first_difference
other-next b c bs cs ne =
    let e : nat_eq b c ≡ false = grind (arith, nat_tests) in
    rw e refl

cut : (bytes : List ℕ) (at : ℕ) → at < length bytes → drop at bytes ≡ get_or bytes at 0 ∷ drop (at + 1) bytes
cut bytes at lt =
    let e : suc at ≡ at + 1 = omega arith in
    drop-cons bytes at 0 lt ∙ ap (λ n. get_or bytes at 0 ∷ drop n bytes) e

both-cut : (file own : List ℕ) (at : ℕ) → at < length file → at < length own
    → from_byte file own at ≡ shift at (first_difference (get_or file at 0 ∷ drop (at + 1) file) (get_or own at 0 ∷ drop (at + 1) own))
both-cut file own at lt less =
    ap (λ (f : List ℕ). shift at (first_difference f (drop at own))) (cut file at lt)
    ∙ ap (λ (o : List ℕ). shift at (first_difference (get_or file at 0 ∷ drop (at + 1) file) o)) (cut own at less)

pub difference_more : (file own : List ℕ) (at : ℕ) → at < length file → at < length own → get_or file at 0 ≡ get_or own at 0
    → first_difference file own ≡ from_byte file own at → first_difference file own ≡ from_byte file own (at + 1)
difference_more file own at lt less is so_far =
    so_far ∙ both-cut file own at lt less
    ∙ ap (shift at) (same-next (get_or file at 0) (get_or own at 0) (drop (at + 1) file) (drop (at + 1) own) is)
    ∙ shift-suc at (first_difference (drop (at + 1) file) (drop (at + 1) own))

pub difference_here : (file own : List ℕ) (at : ℕ) → at < length file → at < length own → (get_or file at 0 ≡ get_or own at 0 → ⊥)
    → first_difference file own ≡ from_byte file own at → Some at ≡ first_difference file own
difference_here file own at lt less ne so_far =
    let e : at ≡ at + 0 = omega arith in
    sym (so_far ∙ both-cut file own at lt less
    ∙ ap (shift at) (other-next (get_or file at 0) (get_or own at 0) (drop (at + 1) file) (drop (at + 1) own) ne)
    ∙ ap (λ n. Some n) (sym e))

none-left : (bs cs : List ℕ) → bs ≡ [] → cs ≡ [] → first_difference bs cs ≡ None
unfolding first_difference
none-left bs cs is too = rw (is, too) refl

pub difference_none : (file own : List ℕ) (at : ℕ) → length file ≤ at → length own ≤ at → first_difference file own ≡ from_byte file own at → None ≡ first_difference file own
difference_none file own at past over so_far =
    sym (so_far ∙ ap (shift at) (none-left (drop at file) (drop at own) (drop_all at file past) (drop_all at own over)))

file-ends : (bs cs : List ℕ) (c : ℕ) → bs ≡ [] → first_difference bs (c ∷ cs) ≡ Some 0
unfolding first_difference
file-ends bs cs c is = rw is refl

own-ends : (bs cs : List ℕ) (b : ℕ) → cs ≡ [] → first_difference (b ∷ bs) cs ≡ Some 0
unfolding first_difference
own-ends bs cs b is = rw is refl

pub difference_file : (file own : List ℕ) (at : ℕ) → length file ≤ at → at < length own → first_difference file own ≡ from_byte file own at → Some at ≡ first_difference file own
difference_file file own at past less so_far =
    let e : at ≡ at + 0 = omega arith in
    sym (so_far ∙ ap (λ (o : List ℕ). shift at (first_difference (drop at file) o)) (cut own at less)
    ∙ ap (shift at) (file-ends (drop at file) (drop (at + 1) own) (get_or own at 0) (drop_all at file past)) ∙ ap (λ n. Some n) (sym e))

pub difference_own : (file own : List ℕ) (at : ℕ) → at < length file → length own ≤ at → first_difference file own ≡ from_byte file own at → Some at ≡ first_difference file own
difference_own file own at lt over so_far =
    let e : at ≡ at + 0 = omega arith in
    sym (so_far ∙ ap (λ (f : List ℕ). shift at (first_difference f (drop at own))) (cut file at lt)
    ∙ ap (shift at) (own-ends (drop (at + 1) file) (drop at own) (get_or file at 0) (drop_all at own over)) ∙ ap (λ n. Some n) (sym e))

ends-by : (b : Bool) (file own : List ℕ) (at both : ℕ) → nat_lt (length file) (length own) ≡ b → both ≡ min (length file) (length own) → both ≡ at → (length file ≡ length own → ⊥)
    → first_difference file own ≡ from_byte file own at → Some both ≡ first_difference file own
ends-by true file own at both is shorter here ne so_far =
    let less : length file < length own = grind (arith, nat_tests) in
    ap (λ n. Some n) here ∙ difference_file file own at (omega arith) (omega arith) so_far
ends-by false file own at both is shorter here ne so_far =
    let ge : length own ≤ length file = grind (arith, nat_tests) in
    let less : length own < length file = grind (arith, nat_tests) in
    ap (λ n. Some n) here ∙ difference_own file own at (omega arith) (omega arith) so_far

-- where one ends, and the other doesn't
pub difference_ends : (file own : List ℕ) (at both : ℕ) → both ≡ min (length file) (length own) → both ≡ at → (length file ≡ length own → ⊥)
    → first_difference file own ≡ from_byte file own at → Some both ≡ first_difference file own
difference_ends file own at both shorter here ne so_far = ends-by (nat_lt (length file) (length own)) file own at both refl shorter here ne so_far
