-- The bytes by which a name goes on, read at once.
use Rattle.std.proofs.Common.{◌≡◌, ℕ, suc, ◌+◌, Bool, true, false, not, cond, List, [], ◌∷◌, ◌++◌, take, drop, refl, ap, sym, ◌∙◌, arith, append_assoc, append-nil}
use Rattle.kc_layout.specs.Path.{is_word, word_length}
use Rattle.kc_expr.specs.Machine.{State, Piece, Reading, read}
use Rattle.kc_expr.specs.Machine.Mark.{in_name}
use Rattle.kc_expr.specs.Machine.Piece.{path_part}
use Rattle.kc_expr.proofs.ByteLemmas.{at, step-on, read-step}
use Rattle.kc_expr.proofs.TokenLemmas.{if-true}

abbrev named : State → List ℕ → Reading
named s name = at s (path_part in_name name)

-- so many bytes of a text go on a name
abbrev AreOfName : ℕ → List ℕ → State → Type 0
AreOfName taken text s = (name : List ℕ) (n : ℕ) → read text n (named s name) ≡ read (drop taken text) (n + taken) (named s (name ++ take taken text))

none-more : (text : List ℕ) (s : State) → AreOfName 0 text s
none-more text s name n =
    let place : n ≡ n + 0 = omega arith in
    ap (λ (bytes : List ℕ). read text n (named s bytes)) (sym (append-nil name)) ∙ ap (λ (m : ℕ). read text m (named s (name ++ []))) place

byte-more : (c : ℕ) (cs : List ℕ) (taken : ℕ) (s : State) → is_word c ≡ true → AreOfName taken cs s → AreOfName (suc taken) (c ∷ cs) s
byte-more c cs taken s is more name n =
    let place : (n + 1) + taken ≡ n + suc taken = omega arith in
    read-step (named s name) (named s (name ++ c ∷ [])) c n cs (step-on s (path_part in_name name) (path_part in_name (name ++ c ∷ [])) c (if-true (is_word c) _ _ is))
    ∙ more (name ++ c ∷ []) (n + 1)
    ∙ ap (λ (m : ℕ). read (drop taken cs) m (named s ((name ++ c ∷ []) ++ take taken cs))) place
    ∙ ap (λ (bytes : List ℕ). read (drop taken cs) (n + suc taken) (named s bytes)) (append_assoc name (c ∷ []) (take taken cs))

length-by : (c : ℕ) (cs : List ℕ) (s : State) (b : Bool) → is_word c ≡ b → AreOfName (word_length cs) cs s → AreOfName (word_length (c ∷ cs)) (c ∷ cs) s
length-by c cs s false is more name n =
    let none : word_length (c ∷ cs) ≡ 0 = ap (λ (b : Bool). cond (not (not b)) (1 + word_length cs) 0) is in
    rw none (none-more (c ∷ cs) s name n)
length-by c cs s true is more name n =
    let longer : 1 + word_length cs ≡ suc (word_length cs) = omega arith in
    let one : word_length (c ∷ cs) ≡ suc (word_length cs) = ap (λ (b : Bool). cond (not (not b)) (1 + word_length cs) 0) is ∙ longer in
    rw one (byte-more c cs (word_length cs) s is more name n)

-- all that a text begins with of a name goes on the name that is read
pub name-taken : (text : List ℕ) (s : State) → AreOfName (word_length text) text s
name-taken [] s = none-more [] s
name-taken (c ∷ cs) s = length-by c cs s (is_word c) refl (name-taken cs s)

pub name-goes : (text : List ℕ) (s : State) (piece next : Piece) (name more : List ℕ) (taken : ℕ) → piece ≡ path_part in_name name →
    next ≡ path_part in_name more → taken ≡ word_length text → more ≡ name ++ take taken text → (n : ℕ) →
    read text n (at s piece) ≡ read (drop taken text) (n + taken) (at s next)
name-goes text s piece next name more taken is then-is all added n = rw (is, then-is, added, all) (name-taken text s name n)
