-- Over bytes the grammar gives at most one tree, and where it gives none, the place of the fault.
use Rattle.std.proofs.Common.{◌≡◌, ℕ, Bool, true, false, nat_lt, List, Result, Ok, Err, refl, ap, sym, ◌∙◌, arith}
use Rattle.std.proofs.lemmas.Bool.Decides.{nat_tests}
use Rattle.std.specs.Prelude.{IfErr, IfSome}
use Rattle.kc_word.specs.Answers.{GivesTold}
use Rattle.kc_text.specs.Format.{IsPlace}
use Rattle.kc_expr.specs.Tree.{Tree}
use Rattle.kc_expr.specs.Machine.{parsed}
use Rattle.kc_expr.specs.Spelling.{IsFault, BeginsText, ChecksAreSpelled, FaultsAreLongest, TextsAreOfOne}
use Rattle.kc_expr.specs.Told.{place_of}
use Rattle.kc_expr.specs.Exprs.{tree_of}
use Rattle.kc_expr.specs.declared.expr.Expr.{Expr}
use Rattle.kc_expr.specs.declared.stop.ExprStop.{ExprStop}
use Rattle.kc_expr.specs.declared.stop.ExprStop.TheVariants.{X1, NoMemory}
use Rattle.kc_expr.proofs.LiveLemmas.{GoesOn, places-longest}
use Rattle.kc_expr.proofs.ReadLemmas.{text-read}
use Rattle.kc_expr.proofs.SaidLemmas.{read-is-text}

pub checks-spelled : ChecksAreSpelled
checks-spelled text t = (read-is-text text t, text-read text t)

pub texts-one : TextsAreOfOne
texts-one text t u h k =
    let same : Ok t ≡ Ok u = sym (text-read text t h) ∙ text-read text u k in
    cc

spelled-place : (text : List ℕ) (n : ℕ) → IsPlace GoesOn text n → IsPlace BeginsText text n
spelled-place text n h = record {
  within = h.within;
  begins = (h.begins.0, h.begins.1, read-is-text _ h.begins.1 h.begins.2);
  longest = λ m more few goes. h.longest m more few (goes.0, goes.1, text-read _ goes.1 goes.2);
}

pub fault-at : (text : List ℕ) (n : ℕ) → parsed text ≡ Err n → IsFault text n
fault-at text n is = record {
  none = λ t h. let wrong : Ok t ≡ Err n = sym (text-read text t h) ∙ is in let none : ⊥ = cc in none;
  place = spelled-place text n (places-longest text n is);
}

one-place : (text : List ℕ) (m n : ℕ) → IsPlace BeginsText text m → IsPlace BeginsText text n → m ≡ n
one-place text m n h k = by (nat_lt m n) (nat_lt n m) refl refl
  where
    by : (b d : Bool) → nat_lt m n ≡ b → nat_lt n m ≡ d → m ≡ n
    by true d is more = absurd (h.longest n (grind (arith, nat_tests)) k.within k.begins)
    by false true is more = absurd (k.longest m (grind (arith, nat_tests)) h.within h.begins)
    by false false is more = grind (arith, nat_tests)

fault-told : (text : List ℕ) (n : ℕ) → IsFault text n → (r : Result Tree ℕ) → parsed text ≡ r → r ≡ Err n
fault-told text n h (Ok t) is = absurd (h.none t (read-is-text text t is))
fault-told text n h (Err m) is = let k = fault-at text m is in ap (λ (place : ℕ). Err place)
    (one-place text m n k.place h.place)

pub faults-longest : FaultsAreLongest
faults-longest text n = (fault-at text n, λ h. fault-told text n h (parsed text) refl)

-- what a read check tells
pub told-fault : (text : List ℕ) (read : Result Expr ExprStop) → GivesTold place_of tree_of read (parsed text) →
    IfErr read (λ stop. IfSome (place_of stop) (IsFault text))
told-fault text (Ok expr) is = tt
told-fault text (Err (X1 n)) is = fault-at text n is
told-fault text (Err NoMemory) is = tt
