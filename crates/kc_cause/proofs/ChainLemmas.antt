-- Words that are changed one after the other.
use Rattle.std.proofs.Common.{◌≡◌, ℕ, zero, suc, ◌-◌, ◌+◌, ◌<◌, ◌≤◌, List, [], ◌∷◌, ◌++◌, slice_get, Option, Some, None, Result, Ok, Err, refl, sym, ap, ◌∙◌, subst, append_assoc, arith}
use Rattle.std.specs.Prelude.{⊤, option_map, filter, IfErr, IfOk, IfSome}
use Rattle.std.specs.List.{AllByRecursion}
use Rattle.kc_memory.specs.Image.{Image}
use Rattle.kc_found.specs.declared.verdict.Verdict.{Verdict}
use Rattle.kc_found.specs.declared.verdict.Verdict.TheVariants.{Clean, Broken}
use Rattle.kc_found.specs.Failures.{CountsFailures}
use Rattle.kc_found.specs.declared.failed.ReadFailed.{ReadFailed}
use Rattle.kc_found.specs.declared.failed.ReadFailed.TheVariants.{Fault, NoMemory}
use Rattle.kc_found.specs.Violations.{Violation}
use Rattle.kc_kinds.specs.declared.kind.Kind.{Kind}
use Rattle.kc_plan.specs.Planned.{AuditAt}
use Rattle.kc_plan.specs.Roots.{Root}
use Rattle.kc_plan.specs.Stands.{RootStands}
use Rattle.kc_repair.specs.declared.suspect.suspect.Suspect.{Suspect}
use Rattle.kc_repair.specs.declared.outcome.Repair.{Repair}
use Rattle.kc_repair.specs.declared.outcome.Repair.TheVariants.{Stands, Nothing}
use Rattle.kc_repair.specs.Laws.{IsLeft, LeftStand, LeftStandInFile, LeftWordsStand, OneMore, RepairWordsStand, RepairsStand, StandsInFile, told_suspects}
use Rattle.kc_repair.specs.declared.first.FirstWalk.{FirstWalk}
use Rattle.kc_repair.specs.Repairs.{StandsAs, WalkInside, is_apart, judged, repair_left, repair_of, walk_of, with_suspect, with_words}
use Rattle.kc_repair.specs.Suspect.Laws.{IsSuspect}
use Rattle.kc_repair.specs.Suspect.Suspects.{suspects}
use Rattle.kc_cause.specs.declared.chain.Left.{Left}
use Rattle.kc_cause.specs.declared.suspected.AsRing.{AsRing}
use Rattle.kc_cause.specs.Chained.{chain_from, chain_of, ended, leads_on, left_after, left_as, left_by, left_of, most_words}
use Rattle.kc_cause.specs.Printed.{StandInTurn}
use Rattle.kc_cause.specs.Suspected.{Suspected, suspected, suspected_view}

-- ---- what repairs what is left

pub told-left : (image : Option Image) (r : Result Repair ReadFailed) (x : Repair) (audits : List AuditAt) (root : Root) (words : List Suspect) (kind : Kind) (w : Violation)
    → r ≡ Ok x → IfOk r (λ x. IfSome image (λ m. x ≡ repair_left m audits root words kind w)) → IfSome image (λ m. Some x ≡ Some (repair_left m audits root words kind w))
told-left None r x audits root words kind w is left = tt
told-left (Some m) r x audits root words kind w is left =
    let same : x ≡ repair_left m audits root words kind w = rw is at left in ap (λ (y : Repair). Some y) same

pub found-left : (image after : Option Image) (r : Result (Option Repair) ReadFailed) (audits : List AuditAt) (root : Root) (words : List Suspect) (v : Violation) (a : AuditAt) (ring : Option AsRing) (kind : Kind) (w : Violation)
    → slice_get audits v.audit ≡ Some a → after ≡ image → IfSome image (λ m. suspected_view a.kind v ring ≡ suspected (with_words m words) v a.kind)
    → suspected_view a.kind v ring ≡ record { kind = kind; violation = w }
    → IfOk r (λ x. IfSome after (λ m. x ≡ Some (repair_left m audits root words kind w))) → IfOk r (λ x. IfSome image (λ m. x ≡ left_by m audits root words (Broken v)))
found-left image after (Err stop) audits root words v a ring kind w is same tells seen_as left = tt
found-left None after (Ok x) audits root words v a ring kind w is same tells seen_as left = tt
found-left (Some m) after (Ok x) audits root words v a ring kind w is same tells seen_as left =
    rw is ((rw same at left) ∙ ap (λ (s : Suspected). Some (left_as m audits root words s)) (sym seen_as ∙ tells))

-- where the violation names no audit
pub beyond-left : (image : Option Image) (audits : List AuditAt) (root : Root) (words : List Suspect) (v : Violation) (x : Option Repair)
    → slice_get audits v.audit ≡ None → x ≡ None → IfSome image (λ m. x ≡ left_by m audits root words (Broken v))
beyond-left None audits root words v x none is = tt
beyond-left (Some m) audits root words v x none is = rw none is

-- and with the verdict that it comes to
pub left-judged : (image after : Option Image) (audits : List AuditAt) (root : Root) (walk : Option FirstWalk) (words : List Suspect) (r : Result Verdict ReadFailed) (verdict : Verdict) (left : Result Left ReadFailed)
    → after ≡ image → r ≡ Ok verdict → IfOk r (λ found. IfSome image (λ m. judged (with_words m words) audits root walk None ≡ found))
    → IfOk left (λ x. IfSome after (λ m. x ≡ left_of m audits root words verdict)) → IfOk left (λ x. IfSome image (λ m. x ≡ left_after m audits root walk words))
left-judged image after audits root walk words r verdict (Err stop) same is exact found = tt
left-judged None after audits root walk words r verdict (Ok x) same is exact found = tt
left-judged (Some m) after audits root walk words r verdict (Ok x) same is exact found =
    let comes : judged (with_words m words) audits root walk None ≡ verdict = rw is at exact in
    (rw same at found) ∙ ap (λ (v : Verdict). left_of m audits root words v) (sym comes)

-- the walk of what is left is of a kind of the kernel's
pub inside-left : (count : ℕ) (r : Result Left ReadFailed) (left : Left) → r ≡ Ok left → IfOk r (λ (l : Left). WalkInside count l.walk) → WalkInside count left.walk
inside-left count (Ok found) left is inside = let same : found ≡ left = cc in subst (λ (l : Left). WalkInside count l.walk) same inside
inside-left count (Err stop) left is inside = absurd (let never : ⊥ = cc in never)

-- ---- a step of the loop

abbrev Ahead : Image → List AuditAt → Root → Repair → ℕ → List Suspect → Left → Type 0
Ahead m audits root first i words left = chain_from (most_words - i) m audits root words left.walk left.repair ≡ chain_of m audits root first

more-left : (i : ℕ) → i < 8 → 8 - i ≡ suc (8 - (i + 1))
more-left i lt = omega arith

-- where a word leads on, and where none does
goes-on : (n : ℕ) (m : Image) (audits : List AuditAt) (root : Root) (words : List Suspect) (s : Suspect) (walk : Option FirstWalk) (left : Option Repair) → leads_on left ≡ Some s
    → chain_from (suc n) m audits root words walk left
    ≡ chain_from n m audits root (words ++ s ∷ []) (left_after m audits root walk (words ++ s ∷ [])).walk (left_after m audits root walk (words ++ s ∷ [])).repair
unfolding chain_from
goes-on n m audits root words s walk None leads = absurd (let none : ⊥ = cc in none)
goes-on n m audits root words s walk (Some (Stands x)) leads = absurd (let none : ⊥ = cc in none)
goes-on n m audits root words s walk (Some (Nothing tried beyond None)) leads = absurd (let none : ⊥ = cc in none)
goes-on n m audits root words s walk (Some (Nothing tried beyond (Some next))) leads =
    let same : next.suspect ≡ s = cc in
    ap (λ (x : Suspect). chain_from n m audits root (words ++ x ∷ []) (left_after m audits root walk (words ++ x ∷ [])).walk (left_after m audits root walk (words ++ x ∷ [])).repair) same

ends-here : (n : ℕ) (m : Image) (audits : List AuditAt) (root : Root) (words : List Suspect) (walk : Option FirstWalk) (left : Option Repair) → leads_on left ≡ None
    → chain_from (suc n) m audits root words walk left ≡ ended words left
unfolding chain_from
ends-here n m audits root words walk None none = refl
ends-here n m audits root words walk (Some (Stands x)) none = refl
ends-here n m audits root words walk (Some (Nothing tried beyond None)) none = refl
ends-here n m audits root words walk (Some (Nothing tried beyond (Some next))) none = absurd (let never : ⊥ = cc in never)

pub chain-starts : (image : Option Image) (audits : List AuditAt) (root : Root) (first : Repair) (words : List Suspect) → words ≡ []
    → IfSome image (λ m. Ahead m audits root first 0 words (record { walk = None; repair = Some first }))
chain-starts None audits root first words is = tt
chain-starts (Some m) audits root first words is = ap (λ (l : List Suspect). chain_from 8 m audits root l None (Some first)) is

pub chain-more : (image after : Option Image) (audits : List AuditAt) (root : Root) (first : Repair) (i : ℕ) (words new : List Suspect) (s : Suspect) (left more : Left)
    → after ≡ image → i < 8 → leads_on left.repair ≡ Some s → new ≡ words ++ s ∷ [] → IfSome image (λ m. Ahead m audits root first i words left)
    → IfSome after (λ m. more ≡ left_after m audits root left.walk (words ++ s ∷ [])) → IfSome image (λ m. Ahead m audits root first (i + 1) new more)
chain-more None after audits root first i words new s left more same lt leads grows ahead found = tt
chain-more (Some m) after audits root first i words new s left more same lt leads grows ahead found =
    ap (λ (l : List Suspect). chain_from (8 - (i + 1)) m audits root l more.walk more.repair) grows
    ∙ ap (λ (r : Left). chain_from (8 - (i + 1)) m audits root (words ++ s ∷ []) r.walk r.repair) (rw same at found)
    ∙ sym (goes-on (8 - (i + 1)) m audits root words s left.walk left.repair leads)
    ∙ ap (λ (n : ℕ). chain_from n m audits root words left.walk left.repair) (sym (more-left i lt))
    ∙ ahead

pub chain-ends : (image : Option Image) (audits : List AuditAt) (root : Root) (first : Repair) (i : ℕ) (words : List Suspect) (left : Left) (r : Result (Option (List Suspect)) ReadFailed)
    → i < 8 → leads_on left.repair ≡ None → IfSome image (λ m. Ahead m audits root first i words left) → IfOk r (λ all. all ≡ ended words left.repair)
    → IfOk r (λ all. IfSome image (λ m. all ≡ chain_of m audits root first))
chain-ends image audits root first i words left (Err stop) lt none ahead exact = tt
chain-ends None audits root first i words left (Ok all) lt none ahead exact = tt
chain-ends (Some m) audits root first i words left (Ok all) lt none ahead exact =
    exact ∙ sym (ends-here (8 - (i + 1)) m audits root words left.walk left.repair none)
    ∙ ap (λ (n : ℕ). chain_from n m audits root words left.walk left.repair) (sym (more-left i lt)) ∙ ahead

-- where only memory was wanting, the count of failures is as it was
pub only-memory : (r : Result (Option (List Suspect)) ReadFailed) (old new : ℕ) → IfErr r (λ stop. stop ≡ NoMemory) → new ≡ old → CountsFailures r old new
only-memory (Ok all) old new cause same = same
only-memory (Err NoMemory) old new cause same = same
only-memory (Err Fault) old new cause same = absurd (let never : ⊥ = cc in never)

-- after the last word
past : (m : Image) (audits : List AuditAt) (root : Root) (words : List Suspect) (left : Left) (n : ℕ) → n ≡ 0 → None ≡ chain_from n m audits root words left.walk left.repair
unfolding chain_from
past m audits root words left zero is = refl
past m audits root words left (suc n) is = absurd (let none : ⊥ = cc in none)

pub chain-long : (image : Option Image) (audits : List AuditAt) (root : Root) (first : Repair) (i : ℕ) (words : List Suspect) (left : Left)
    → 8 ≤ i → IfSome image (λ m. Ahead m audits root first i words left) → IfSome image (λ m. None ≡ chain_of m audits root first)
chain-long None audits root first i words left beyond ahead = tt
chain-long (Some m) audits root first i words left beyond ahead = past m audits root words left (8 - i) (omega arith) ∙ ahead

-- ---- what the words of a chain say

-- what is known of repairs that are left
pub record KnownLeft : Type 0 where
  pub first_stand : RepairsStand
  pub first_words : RepairWordsStand
  pub stand : LeftStand
  pub words : LeftWordsStand
  pub in_file : LeftStandInFile
  pub one_more : OneMore

-- of an answer where some words are changed
abbrev Says : Image → List AuditAt → Root → List Suspect → Option Repair → Type 0
Says image audits root words None = ⊤
Says image audits root words (Some (Stands s)) = IsLeft image words s × RootStands (with_suspect (with_words image words) s) audits root
Says image audits root words (Some (Nothing tried beyond None)) = ⊤
Says image audits root words (Some (Nothing tried beyond (Some next))) = IsLeft image words next.suspect

said-by : (image : Image) (audits : List AuditAt) (root : Root) (walk : Option FirstWalk) (words of : List Suspect) (r : Repair) → StandsAs (with_words image words) audits root walk of r
    → AllByRecursion (IsLeft image words) (told_suspects r) → Says image audits root words (Some r)
said-by image audits root walk words of (Stands s) stands all = (all.0, stands)
said-by image audits root walk words of (Nothing tried beyond None) stands all = tt
said-by image audits root walk words of (Nothing tried beyond (Some next)) stands all = all.0

said-at : KnownLeft → (image : Image) (audits : List AuditAt) (root : Root) (words : List Suspect) (v : Violation) (a : Option AuditAt) → slice_get audits v.audit ≡ a
    → Says image audits root words (option_map (λ (a : AuditAt). left_as image audits root words (suspected (with_words image words) v a.kind)) a)
said-at law image audits root words v None is = tt
said-at law image audits root words v (Some a) is =
    let s : Suspected = suspected (with_words image words) v a.kind in
    said-by image audits root (walk_of (with_words image words) audits s.kind s.violation) words (filter (is_apart words) (suspects (with_words image words) s.kind s.violation)) (left_as image audits root words s)
    (law.stand image audits root words s.kind s.violation) (law.words image audits root words s.kind s.violation)

said-left : KnownLeft → (image : Image) (audits : List AuditAt) (root : Root) (words : List Suspect) (verdict : Verdict) → Says image audits root words (left_by image audits root words verdict)
said-left law image audits root words (Clean counts) = tt
said-left law image audits root words (Broken v) = said-at law image audits root words v (slice_get audits v.audit) refl

-- words that repair together, after some that are changed
pub record Ends (image : Image) (audits : List AuditAt) (root : Root) (words all : List Suspect) : Type 0 where
  pub rest : List Suspect
  pub is : all ≡ words ++ rest
  pub there : StandInTurn image words rest
  pub stands : RootStands (with_words image all) audits root

ends : KnownLeft → (n : ℕ) (image : Image) (audits : List AuditAt) (root : Root) (words all : List Suspect) (walk : Option FirstWalk) (left : Option Repair) → Says image audits root words left
    → chain_from n image audits root words walk left ≡ Some all → Ends image audits root words all
unfolding chain_from
ends law zero image audits root words all walk left says is = let none : ⊥ = cc in absurd none
ends law (suc n) image audits root words all walk None says is = let none : ⊥ = cc in absurd none
ends law (suc n) image audits root words all walk (Some (Stands s)) says is =
    let same : words ++ s ∷ [] ≡ all = cc in
    record {
      rest = s ∷ [];
      is = sym same;
      there = (says.0, tt);
      stands = subst (λ (i : Image). RootStands i audits root) (sym (law.one_more image words s) ∙ ap (with_words image) same) says.1;
    }
ends law (suc n) image audits root words all walk (Some (Nothing tried beyond None)) says is = let none : ⊥ = cc in absurd none
ends law (suc n) image audits root words all walk (Some (Nothing tried beyond (Some next))) says is =
    let more : List Suspect = words ++ next.suspect ∷ [] in
    let after : Left = left_after image audits root walk more in
    let later = ends law n image audits root more all after.walk after.repair
    (said-left law image audits root more (judged (with_words image more) audits root walk None)) is in
    record {
      rest = next.suspect ∷ later.rest;
      is = later.is ∙ append_assoc words (next.suspect ∷ []) later.rest;
      there = (says, later.there);
      stands = later.stands;
    }

-- of the first violation
first-left : (image : Image) (xs : List Suspect) → AllByRecursion (IsSuspect image) xs → AllByRecursion (IsLeft image []) xs
first-left image [] all = tt
first-left image (x ∷ xs) all = (record { there = all.0; apart = refl }, first-left image xs all.1)

-- and in the dump as it is
all-in_file : LeftStandInFile → (image : Image) (before words : List Suspect) → StandInTurn image before words → AllByRecursion (StandsInFile image) words
all-in_file law image before [] there = tt
all-in_file law image before (s ∷ later) there = (law image before s there.0, all-in_file law image (before ++ s ∷ []) later there.1)

-- what holds of words that repair together
pub record Together (image : Image) (audits : List AuditAt) (root : Root) (words : List Suspect) : Type 0 where
  pub there : StandInTurn image [] words
  pub in_file : AllByRecursion (StandsInFile image) words
  pub stands : RootStands (with_words image words) audits root

pub chained : KnownLeft → (image : Image) (audits : List AuditAt) (root : Root) (kind : Kind) (v : Violation) (words : List Suspect)
    → chain_of image audits root (repair_of image audits root kind v) ≡ Some words → Together image audits root words
chained law image audits root kind v words is =
    let r : Repair = repair_of image audits root kind v in
    let end = ends law most_words image audits root [] words None (Some r)
    (said-by image audits root (walk_of image audits kind v) [] (suspects image kind v) r (law.first_stand image audits root kind v)
    (first-left image (told_suspects r) (law.first_words image audits root kind v))) is in
    let there : StandInTurn image [] words = subst (λ (l : List Suspect). StandInTurn image [] l) (sym end.is) end.there in
    record { there = there; in_file = all-in_file law.in_file image [] words there; stands = end.stands }
