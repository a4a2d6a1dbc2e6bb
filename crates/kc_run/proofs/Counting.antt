-- The counts that a run keeps are those of what was seen.
use Rattle.std.proofs.Common.{◌≡◌, ℕ, zero, suc, ◌+◌, ◌-◌, ◌^◌, ◌<◌, ◌≤◌, true, false, nat_eq, List, [], ◌∷◌, ◌++◌, length, drop, slice_get, slice_set, Option, Some, None, refl, sym, ◌∙◌, ap, arith, append_assoc}
use Rattle.std.specs.Prelude.{Result, Ok, Err, ⊤, IfSome}
use Rattle.std.proofs.lemmas.Bool.{ne_eqb, eq-eqb}
use Rattle.kc_memory.specs.Image.{Image}
use Rattle.kc_found.specs.declared.found.WalkStop.TheVariants as ends
use Rattle.kc_found.specs.declared.verdict.AuditCount.{AuditCount}
use Rattle.kc_found.specs.declared.verdict.Verdict.TheVariants.{Clean, Broken}
use Rattle.kc_found.specs.Violations.{Violation}
use Rattle.kc_plan.specs.Events.{Event, Walk, Wrong, first_wrong, walks_of, elements_of, capped, counts_of, verdict_of}
use Rattle.kc_plan.specs.declared.planned.Audit.{Audit}
use Rattle.kc_plan.specs.Planned.{AuditAt, audits_seen}
use Rattle.kc_plan.specs.Seen.{all_seen, world}
use Rattle.kc_plan.specs.Verdicts.{verdict}
use Rattle.kc_run.specs.Tally.{TalliesAs, added, more, no_walk, tally, zeros}

pub added_set : (counts : List AuditCount) (n size : ℕ) (count : AuditCount) → slice_get counts n ≡ Some count → slice_set counts n (more count size) ≡ added counts n size
added_set [] n size count is = let none : ⊥ = cc in absurd none
added_set (c ∷ cs) zero size count is = let same : c ≡ count = cc in ap (λ d. more d size ∷ cs) (sym same)
added_set (c ∷ cs) (suc n) size count is = ap (λ ds. c ∷ ds) (added_set cs n size count is)

-- what is seen first goes on, or stops
pub tally_goes : (before after : List AuditCount) (es us : List Event) → tally before es ≡ Ok after → tally before (es ++ us) ≡ tally after us
tally_goes before after [] us e = let same : before ≡ after = cc in rw same refl
tally_goes before after (Walk n size ∷ es) us e = tally_goes (added before n size) after es us e
tally_goes before after (Wrong v ∷ es) us e = let none : ⊥ = cc in absurd none

pub tally_stops : (before : List AuditCount) (v : Violation) (es us : List Event) → tally before es ≡ Err v → tally before (es ++ us) ≡ Err v
tally_stops before v [] us e = let none : ⊥ = cc in absurd none
tally_stops before v (Walk n size ∷ es) us e = tally_stops (added before n size) v es us e
tally_stops before v (Wrong w ∷ es) us e = e

-- counts, and what is seen
plus : ℕ → AuditCount → List Event → AuditCount
plus k c es = record { walks = capped (c.walks + walks_of k es); elements = capped (c.elements + elements_of k es) }

counted : ℕ → List AuditCount → List Event → List AuditCount
counted k [] es = []
counted k (c ∷ cs) es = plus k c es ∷ counted (suc k) cs es

IsSmall : AuditCount → Type 0
IsSmall c = (c.walks ≤ 2 ^ 64 - 1) × (c.elements ≤ 2 ^ 64 - 1)

AreSmall : List AuditCount → Type 0
AreSmall [] = ⊤
AreSmall (c ∷ cs) = IsSmall c × AreSmall cs

capped_twice : (a b c : ℕ) → capped (capped (a + b) + c) ≡ capped (a + (b + c))
capped_twice a b c = omega arith

capped_small : (a : ℕ) → a ≤ 2 ^ 64 - 1 → capped (a + 0) ≡ a
capped_small a le = omega (arith, le)

capped_le : (a : ℕ) → capped a ≤ 2 ^ 64 - 1
capped_le a = omega arith

small_added : (cs : List AuditCount) (n size : ℕ) → AreSmall cs → AreSmall (added cs n size)
unfolding AreSmall IsSmall
small_added [] n size s = tt
small_added (c ∷ cs) zero size s = ((capped_le _, capped_le _), s.1)
small_added (c ∷ cs) (suc n) size s = (s.0, small_added cs n size s.1)

none_seen : (k : ℕ) (cs : List AuditCount) → AreSmall cs → counted k cs [] ≡ cs
unfolding AreSmall IsSmall counted plus
none_seen k [] s = refl
none_seen k (c ∷ cs) s = rw (capped_small c.walks s.0.0, capped_small c.elements s.0.1, none_seen (suc k) cs s.1) refl

nothing : (n : ℕ) → 0 + n ≡ n
nothing n = omega arith

other : (k : ℕ) (cs : List AuditCount) (n size : ℕ) (es : List Event) → n < k → counted k cs (Walk n size ∷ es) ≡ counted k cs es
unfolding counted plus
other k [] n size es lt = refl
other k (c ∷ cs) n size es lt = let differs : nat_eq n k ≡ false = ne_eqb n k (λ e. omega (arith, e, lt)) in rw (differs, nothing (walks_of k es), nothing (elements_of k es), other (suc k) cs n size es (omega (arith, lt))) refl

counted_added : (k : ℕ) (cs : List AuditCount) (n size : ℕ) (es : List Event) → counted k (added cs n size) es ≡ counted k cs (Walk (k + n) size ∷ es)
unfolding counted plus
counted_added k [] n size es = refl
counted_added k (c ∷ cs) zero size es =
    let number : k + 0 ≡ k = omega arith in
    let same : nat_eq k k ≡ true = eq-eqb k k refl in
    rw (number, same, capped_twice c.walks 1 (walks_of k es), capped_twice c.elements size (elements_of k es), other (suc k) cs k size es (omega arith)) refl
counted_added k (c ∷ cs) (suc n) size es =
    let number : k + suc n ≡ suc k + n = omega arith in
    let differs : nat_eq (suc k + n) k ≡ false = ne_eqb (suc k + n) k (λ e. omega (arith, e)) in
    rw (number, differs, nothing (walks_of k es), nothing (elements_of k es), counted_added (suc k) cs n size es) refl

abbrev pub outcome : Option Violation → List AuditCount → Result (List AuditCount) Violation
outcome (Some v) cs = Err v
outcome None cs = Ok cs

tally_is : (cs : List AuditCount) (es : List Event) → AreSmall cs → tally cs es ≡ outcome (first_wrong es) (counted 0 cs es)
tally_is cs [] s = ap Ok (sym (none_seen 0 cs s))
tally_is cs (Walk n size ∷ es) s =
    let number : 0 + n ≡ n = omega arith in
    tally_is (added cs n size) es (small_added cs n size s) ∙ ap (λ ds. outcome (first_wrong es) ds) (rw number at (counted_added 0 cs n size es))
tally_is cs (Wrong v ∷ es) s = refl

small_zeros : (audits : List AuditAt) → AreSmall (zeros audits)
unfolding AreSmall IsSmall
small_zeros [] = tt
small_zeros (a ∷ audits) = ((omega arith, omega arith), small_zeros audits)

counted_zeros : (k : ℕ) (audits : List AuditAt) (es : List Event) → counted k (zeros audits) es ≡ counts_of (length audits) k es
unfolding counted plus
counted_zeros k [] es = refl
counted_zeros k (a ∷ audits) es = rw (nothing (walks_of k es), nothing (elements_of k es), counted_zeros (suc k) audits es) refl

pub tally_from_zeros : (audits : List AuditAt) (es : List Event) → tally (zeros audits) es ≡ outcome (first_wrong es) (counts_of (length audits) 0 es)
tally_from_zeros audits es = tally_is (zeros audits) es (small_zeros audits) ∙ ap (λ cs. outcome (first_wrong es) cs) (counted_zeros 0 audits es)

-- no walk yet, from an audit on
zeros_at : (audits : List AuditAt) (i : ℕ) → i < length audits → zeros (drop i audits) ≡ no_walk ∷ zeros (drop (i + 1) audits)
zeros_at [] i lt = absurd (omega arith)
zeros_at (a ∷ audits) zero lt = refl
zeros_at (a ∷ audits) (suc i) lt =
    let same : suc i + 1 ≡ suc (i + 1) = omega arith in
    rw same (zeros_at audits i (omega arith))

seen_length : (audits : List Audit) → length (audits_seen audits) ≡ length audits
seen_length [] = refl
seen_length (a ∷ audits) = ap suc (seen_length audits)

pub one_more : (audits : List Audit) (i end : ℕ) (counts more : List AuditCount) → i < end → end ≡ length audits → counts ++ zeros (drop i (audits_seen audits)) ≡ zeros (audits_seen audits) → more ≡ counts ++ no_walk ∷ [] →
    more ++ zeros (drop (i + 1) (audits_seen audits)) ≡ zeros (audits_seen audits)
one_more audits i end counts more lt is before added =
    let size = seen_length audits in
    rw added
    (append_assoc counts (no_walk ∷ []) (zeros (drop (i + 1) (audits_seen audits))) ∙ ap (λ cs. counts ++ cs) (sym (zeros_at (audits_seen audits) i (omega (arith, lt, is, size)))) ∙ before)

-- the verdict, by the counts that are kept or the violation that came
clean_from : (o : Option Violation) (n : ℕ) (es : List Event) (cs : List AuditCount) → outcome o (counts_of n 0 es) ≡ Ok cs → verdict_of n es o ≡ Clean cs
clean_from (Some v) n es cs e = let none : ⊥ = cc in absurd none
clean_from None n es cs e = let same : counts_of n 0 es ≡ cs = cc in ap Clean same

broken_from : (o : Option Violation) (n : ℕ) (es : List Event) (cs : List AuditCount) (v : Violation) → outcome o cs ≡ Err v → verdict_of n es o ≡ Broken v
broken_from (Some w) n es cs v e = let same : w ≡ v = cc in ap Broken same
broken_from None n es cs v e = let none : ⊥ = cc in absurd none

pub ends_clean : {A : Type 0} (image : Option Image) (audits : List AuditAt) (after : List AuditCount) (x : A) → TalliesAs (λ i. all_seen (world i) audits) (zeros audits) after image (Ok x) → IfSome image (λ i. verdict i audits ≡ Clean after)
ends_clean None audits after x e = tt
ends_clean (Some i) audits after x e = clean_from _ (length audits) (all_seen (world i) audits) after (sym (tally_from_zeros audits (all_seen (world i) audits)) ∙ e)

pub ends_broken : (A : Type 0) (image : Option Image) (audits : List AuditAt) (after : List AuditCount) (v : Violation) → TalliesAs {A = A} (λ i. all_seen (world i) audits) (zeros audits) after image (Err (ends.Broken v)) → IfSome image (λ i. verdict i audits ≡ Broken v)
ends_broken A None audits after v e = tt
ends_broken A (Some i) audits after v e = broken_from _ (length audits) (all_seen (world i) audits) _ v (sym (tally_from_zeros audits (all_seen (world i) audits)) ∙ e)
