-- A dump that is told is the same after it was asked.
use Rattle.std.proofs.Common.{◌≡◌, ℕ, ◌≤◌, Bool, true, List, [], ◌∷◌, Option, Some, None, IsTrue, refl, sym, ap, subst, ◌∙◌, arith}
use Rattle.std.specs.Prelude.{Result, Ok, Err, IfOk, IfSome, is_some}
use Rattle.std.specs.List.{All}
use Rattle.std.specs.Option.{ForSome}
use Rattle.std.proofs.lemmas.List.Elements.{All-cons, All-nil}
use Rattle.kc_word.specs.declared.plain.PageCfg.{PageCfg}
use Rattle.kc_word.specs.declared.plain.Segment.{Segment}
use Rattle.kc_word.specs.declared.plain.Tail.{Tail}
use Rattle.kc_word.specs.declared.plain.Tail.TheVariants.{Absent}
use Rattle.kc_memory.specs.Image.{Image, Physical}
use Rattle.kc_phys.specs.Blocks.{reach}
use Rattle.kc_phys.specs.Stored.{AreInside, IsInside, stored}
use Rattle.kc_mem.specs.Paged.{with_paging}
use Rattle.kc_sight.specs.Refs.Stops.{Told}
use Rattle.kc_question.specs.Memory.{bare_image}
use Rattle.kc_why.specs.Searching.{IsThere}

-- segments that reach no further lie inside
reached : (n : ℕ) (segments : List Segment) → reach segments ≤ n → All (IsInside n) segments
reached n [] within = All-nil (IsInside n)
reached n (s ∷ ss) within = All-cons (IsInside n) s ss (omega (arith, within)) (reached n ss (omega (arith, within)))

pub inside : (size : Option ℕ) (segments : List Segment) (end last : ℕ) → IsTrue (is_some size) → ForSome size (λ n. last ≤ n) → end ≡ reach segments → last ≡ end
    → AreInside size segments
inside size segments end last there within is same =
    (there, λ n at. reached n segments (subst (λ (k : ℕ). k ≤ n) (same ∙ is) (within n at)))

-- what is told of a physical memory
abbrev segments_in : Option Physical → List Segment
segments_in None = []
segments_in (Some p) = p.segments

abbrev bytes_in : Option Physical → Option (List ℕ)
bytes_in None = None
bytes_in (Some p) = Some p.bytes

bytes_told : (segments : List Segment) (tail : Tail) (content : Option (List ℕ)) → bytes_in (stored segments tail content) ≡ content
bytes_told segments tail None = refl
bytes_told segments tail (Some bytes) = refl

same_bytes : (before after : List Segment) (tail rest : Tail) (content now : Option (List ℕ)) → stored after rest now ≡ stored before tail content → now ≡ content
same_bytes before after tail rest content now is = sym (bytes_told after rest now) ∙ ap bytes_in is ∙ bytes_told before tail content

same_segments : (before after : List Segment) (tail rest : Tail) (bytes : List ℕ) (now : Option (List ℕ)) → stored after rest now ≡ stored before tail (Some bytes) → after ≡ before
same_segments before after tail rest bytes None is = absurd (let none : ⊥ = cc in none)
same_segments before after tail rest bytes (Some b) is = ap segments_in is

-- so they reach as far
same_end : (before after : List Segment) (tail rest : Tail) (bytes : List ℕ) (now : Option (List ℕ)) (end last : ℕ) (test : Bool)
    → stored after rest now ≡ stored before tail (Some bytes) → end ≡ reach before → last ≡ reach after → (last ≡ end → test ≡ true) → test ≡ true
same_end before after tail rest bytes now end last test is first second tests =
    tests (second ∙ ap reach (same_segments before after tail rest bytes now is) ∙ sym first)

-- a dump that is told is the same after it was asked, and its segments lie in it still
pub is_there : (before after : List Segment) (tail rest : Tail) (content now : Option (List ℕ)) (end last : ℕ) (test : Bool)
    → stored after rest now ≡ stored before tail content → end ≡ reach before → last ≡ reach after → (last ≡ end → test ≡ true) → IsThere test content now
is_there before after tail rest None now end last test is first second tests = tt
is_there before after tail rest (Some bytes) now end last test is first second tests =
    (same_end before after tail rest bytes now end last test is first second tests, same_bytes before after tail rest (Some bytes) now is)

-- what an answer says of the memory, where both are there
pub of_each : {I A E : Type 0} (image : Option I) (r : Result A E) (P : I → A → Type 0) → IfOk r (λ a. IfSome image (λ i. P i a)) → IfSome image (λ i. IfOk r (P i))
of_each None r P told = tt
of_each (Some i) (Ok a) P told = told
of_each (Some i) (Err e) P told = tt

-- what is told of the memory is told of the dump's bytes
pub told_by : (paging : PageCfg) (segments room : List Segment) (tail : Tail) (content : Option (List ℕ)) (P : Image → Type 0)
    → room ≡ segments → tail ≡ Absent → IfSome (with_paging paging (stored room tail content)) P → Told content (λ bytes. P (bare_image bytes segments paging))
told_by paging segments room tail None P same absent told = tt
told_by paging segments room tail (Some bytes) P same absent told =
    subst (λ (ss : List Segment). P (bare_image bytes ss paging)) same
    (subst (λ (t : Tail). P (record { physical = record { bytes = bytes; segments = room; tail = t }; paging = paging })) absent told)
