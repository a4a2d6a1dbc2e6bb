-- An audit of a plan, by its own number, as a certificate's steps are judged.
use Rattle.std.proofs.Common.{◌≡◌, ℕ, zero, suc, ◌+◌, ◌<◌, ◌≤◌, true, false, ◌&&◌, nat_eq, nat_lt, List, [], ◌∷◌, slice_get, Some, refl, sym, ◌∙◌, ap, arith}
use Rattle.std.specs.Prelude.{Result, Ok, Err, if◌then◌else◌}
use Rattle.std.proofs.lemmas.Bool.{ne_eqb, eq-eqb, ltb-true, and_parts}
use Rattle.kc_memory.specs.Image.{Image}
use Rattle.kc_memory.specs.Stopped.{Stopped}
use Rattle.kc_found.specs.declared.verdict.AuditCount.{AuditCount}
use Rattle.kc_found.specs.Trials.{and_then}
use Rattle.kc_plan.specs.Kept.{are_between, are_later}
use Rattle.kc_plan.specs.Planned.{AuditAt}
use Rattle.kc_plan.specs.Seen.{PathEnd, EndsAt, NullAt, container_of, path_end, path_of}
use Rattle.kc_run.proofs.Unrolling.{between_at}
use Rattle.kc_cert.specs.declared.text.certificate.CertStep.{CertStep}
use Rattle.kc_cert.specs.Fits.Shapes.{nodes_in}
use Rattle.kc_cert.specs.Fits.Fits.{fits}
use Rattle.kc_cert.specs.Rechecking.Certificates.{Progress, Judged, Judge, each_judged, below_judged, nodes_judged, after_walk, walk_judged, entry_judged, judged}

-- two ways to go on that agree behind number k
Agree : ℕ → (ℕ → ℕ → Judge) → (ℕ → ℕ → Judge) → Type 0
Agree k go run = (m x : ℕ) (p : Progress) → k < m → go m x p ≡ run m x p

then_same : (r : Judged) (f g : Judge) → ((p : Progress) → f p ≡ g p) → and_then r f ≡ and_then r g
then_same (Ok p) f g same = same p
then_same (Err left) f g same = refl

below_same : (k count : ℕ) (ms : List ℕ) (go run : ℕ → ℕ → Judge) (x : ℕ) (p : Progress) → are_between k count ms ≡ true → Agree k go run → each_judged (λ m. go m x) ms p ≡ each_judged (λ m. run m x) ms p
unfolding Agree
below_same k count [] go run x p are same = refl
below_same k count (m ∷ ms) go run x p are same =
    let parts = and_parts (nat_lt k m && nat_lt m count) (are_between k count ms) are in
    let lt : k < m = ltb-true k m (and_parts (nat_lt k m) (nat_lt m count) parts.0).0 in
    ap (λ r. and_then r (each_judged (λ n. go n x) ms)) (same m x p lt)
    ∙ then_same (run m x p) (each_judged (λ n. go n x) ms) (each_judged (λ n. run n x) ms) (λ q. below_same k count ms go run x q parts.1 same)

nodes_same : (k count : ℕ) (a : AuditAt) (go run : ℕ → ℕ → Judge) (nodes : List ℕ) (p : Progress) → are_between k count a.each ≡ true → Agree k go run → nodes_judged a go nodes p ≡ nodes_judged a run nodes p
nodes_same k count a go run [] p are same = refl
nodes_same k count a go run (node ∷ nodes) p are same =
    ap (λ r. and_then r (nodes_judged a go nodes)) (below_same k count a.each go run (container_of a.link node) p are same)
    ∙ then_same (below_judged a run (container_of a.link node) p) (nodes_judged a go nodes) (nodes_judged a run nodes) (λ q. nodes_same k count a go run nodes q are same)

walk_same : (image : Image) (k count start : ℕ) (a : AuditAt) (go run : ℕ → ℕ → Judge) (counts : List AuditCount) (left : List CertStep) → are_between k count a.each ≡ true → Agree k go run →
    walk_judged image k a start go counts left ≡ walk_judged image k a start run counts left
walk_same image k count start a go run counts [] are same = refl
walk_same image k count start a go run counts (s ∷ left) are same =
    ap (λ r. if fits image k a start s then r else Err (s ∷ left)) (nodes_same k count a go run (nodes_in a.kind s.lists) (after_walk left counts k (nodes_in a.kind s.lists)) are same)

entry_same : (image : Image) (k count : ℕ) (a : AuditAt) (go run : ℕ → ℕ → Judge) (there : Result PathEnd Stopped) (p : Progress) → are_between k count a.each ≡ true → Agree k go run →
    entry_judged image k a go there p ≡ entry_judged image k a run there p
entry_same image k count a go run (Err s) p are same = refl
entry_same image k count a go run (Ok (NullAt place at)) p are same = refl
entry_same image k count a go run (Ok (EndsAt start)) p are same = walk_same image k count start a go run p.counts p.left are same

skips : (image : Image) (a : AuditAt) (later : List AuditAt) (k m base : ℕ) (p : Progress) → k < m → judged image (a ∷ later) k m base p ≡ judged image later (suc k) m base p
unfolding judged
skips image a later k m base p lt = let other : nat_eq m k ≡ false = ne_eqb m k (λ e. omega (arith, e, lt)) in rw other refl

agrees : (image : Image) (a : AuditAt) (later : List AuditAt) (k n : ℕ) → k ≤ n → Agree n (λ m x. judged image later (suc k) m x) (λ m x. judged image (a ∷ later) k m x)
unfolding Agree
agrees image a later k n le = λ m x p lt. sym (skips image a later k m x p (omega arith))

-- where an audit's path leads
abbrev pub end_at : Image → AuditAt → ℕ → Result PathEnd Stopped
end_at image a base = path_end image base (path_of a.start).hops (path_of a.start).byte

here : (image : Image) (a : AuditAt) (later : List AuditAt) (k base : ℕ) (p : Progress) → judged image (a ∷ later) k k base p ≡ entry_judged image k a (λ m x. judged image later (suc k) m x) (end_at image a base) p
unfolding judged
here image a later k base p = let same : nat_eq k k ≡ true = eq-eqb k k refl in rw same refl

-- an audit of a list from its own number
pub unrolled : (image : Image) (audits : List AuditAt) (k i base count : ℕ) (a : AuditAt) (p : Progress) → slice_get audits i ≡ Some a → are_later k count audits ≡ true →
    judged image audits k (k + i) base p ≡ entry_judged image (k + i) a (λ m x. judged image audits k m x) (end_at image a base) p
unrolled image [] k i base count a p is are = let none : ⊥ = cc in absurd none
unrolled image (b ∷ later) k zero base count a p is are =
    let number : k + zero ≡ k = omega arith in
    let same : b ≡ a = cc in
    let between = (and_parts (are_between k count b.each) (are_later (suc k) count later) are).0 in
    rw (number, ← same) (here image b later k base p ∙ entry_same image k count b (λ m x. judged image later (suc k) m x) (λ m x. judged image (b ∷ later) k m x) _ p between (agrees image b later k k (omega arith)))
unrolled image (b ∷ later) k (suc i) base count a p is are =
    let number : k + suc i ≡ suc k + i = omega arith in
    let rest = (and_parts (are_between k count b.each) (are_later (suc k) count later) are).1 in
    let there = unrolled image later (suc k) i base count a p is rest in
    let between = between_at later (suc k) i count a is rest in
    rw number (skips image b later k (suc k + i) base p (omega arith) ∙ there
    ∙ entry_same image (suc k + i) count a (λ m x. judged image later (suc k) m x) (λ m x. judged image (b ∷ later) k m x) _ p between (agrees image b later k (suc k + i) (omega arith)))
