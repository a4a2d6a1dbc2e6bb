-- Lines that grow item by item and part by part, over a memory that is told or not.
use Rattle.std.proofs.Common.{◌≡◌, ℕ, ◌+◌, ◌≤◌, length, List, ◌++◌, drop, slice_get, Option, Some, None, IfSome, Result, Ok, Err, OnOk, sym, ap, ◌∙◌, append_assoc}
use Rattle.std.proofs.lemmas.List.{append-nil, drop_all}
use Rattle.kc_memory.specs.declared.words.Place.{Place}
use Rattle.kc_memory.specs.declared.words.VWord.{VWord}
use Rattle.kc_memory.specs.Image.{Image}
use Rattle.kc_memory.specs.Stopped.{Stopped}
use Rattle.kc_found.specs.Violations.{Violation}
use Rattle.kc_plan.specs.Planned.{AuditAt}
use Rattle.kc_plan.specs.Views.{plan_seen}
use Rattle.kc_text.specs.Compose.{texts}
use Rattle.kc_report.specs.Lines.{place_line}
use Rattle.kc_sight.specs.Looks.{LooksAs, words}
use Rattle.kc_sight.specs.Sights.{page_start}
use Rattle.kc_sight.specs.Views.{image_symbols}
use Rattle.kc_told.specs.Objects.{Told, told_of}
use Rattle.kc_told.specs.SaysText.{says_lines}
use Rattle.kc_told.specs.SeenText.{map_symbols, told_lines}
use Rattle.kc_told.specs.Views.{shapes_view}
use Rattle.kc_cause.specs.declared.judged.PlanOf.{PlanOf}
use Rattle.kc_kinds.specs.declared.kind.Kind.{Kind}
use Rattle.kc_cause.specs.declared.suspected.AsRing.{AsRing}
use Rattle.kc_cause.specs.Suspected.{Suspected, suspected, suspected_view}
use Rattle.kc_cause.specs.Explained.{listed_lines, place_told, repairs_as, repairs_found, repairs_of, says_at, slabs_found, slabs_lines, told_at, with_slabs}
use Rattle.kc_cause.specs.Judged.{over_plan}
use Rattle.kc_cause.specs.Rings.{ring_lines}
use Rattle.kc_cause.proofs.ItemLemmas.{texts_item}

-- those of one more
pub item_more : {X : Type 0} (image image' : Option Image) (lines : Image → X → List ℕ) (xs : List X) (i : ℕ) (x : X) (text grown start : List ℕ)
    → image' ≡ image → slice_get xs i ≡ Some x → IfSome image' (λ m. grown ≡ text ++ lines m x)
    → IfSome image (λ m. text ++ texts (lines m) (drop i xs) ≡ start ++ texts (lines m) xs)
    → IfSome image (λ m. grown ++ texts (lines m) (drop (i + 1) xs) ≡ start ++ texts (lines m) xs)
item_more None image' lines xs i x text grown start same is grows before = tt
item_more (Some m) image' lines xs i x text grown start same is grows before =
    texts_item (lines m) xs i x text grown (start ++ texts (lines m) xs) is (rw same at grows) before

-- and of all
pub all_items : {X : Type 0} (image : Option Image) (lines : Image → X → List ℕ) (xs : List X) (i : ℕ) (text start : List ℕ) → length xs ≤ i
    → IfSome image (λ m. text ++ texts (lines m) (drop i xs) ≡ start ++ texts (lines m) xs) → IfSome image (λ m. text ≡ start ++ texts (lines m) xs)
all_items None lines xs i text start past before = tt
all_items (Some m) lines xs i text start past before =
    sym (append-nil text) ∙ ap (λ l. text ++ texts (lines m) l) (sym (drop_all i xs past)) ∙ before

-- lines that follow on lines, over a memory that stays
pub then_lines : {A E : Type 0} (image after : Option Image) (r : Result A E) (old mid new : List ℕ) (first rest : Image → List ℕ) → after ≡ image
    → IfSome image (λ m. mid ≡ old ++ first m) → OnOk r (IfSome after (λ m. new ≡ mid ++ rest m)) → OnOk r (IfSome image (λ m. new ≡ old ++ (first m ++ rest m)))
then_lines image after (Err e) old mid new first rest same one two = tt
then_lines None after (Ok a) old mid new first rest same one two = tt
then_lines (Some m) after (Ok a) old mid new first rest same one two =
    (rw same at two) ∙ ap (λ l. l ++ rest m) one ∙ append_assoc old (first m) (rest m)

-- lines of what was looked for, over a memory that stays
pub looked_lines : {A B E : Type 0} (image after : Option Image) (r : Result A E) (seek : Image → B) (found : B) (lines : Image → B → List ℕ) (old new : List ℕ) → after ≡ image
    → IfSome image (λ m. found ≡ seek m) → OnOk r (IfSome after (λ m. new ≡ old ++ lines m found)) → OnOk r (IfSome image (λ m. new ≡ old ++ lines m (seek m)))
looked_lines image after (Err e) seek found lines old new same is one = tt
looked_lines None after (Ok a) seek found lines old new same is one = tt
looked_lines (Some m) after (Ok a) seek found lines old new same is one = (rw same at one) ∙ ap (λ x. old ++ lines m x) is

-- a place, with what its word says by itself and what is told of its address
pub place_added : {P T : Type 0} (image after : Option Image) (o : PlanOf) (p : Place) (va : ℕ) (items : P → List (Result VWord Stopped)) (view : T → Told) (page : P) (told : T) (old one two new : List ℕ)
    → p.va ≡ Some va → after ≡ image → one ≡ old ++ place_line p → LooksAs items (λ m. words m (page_start va) 512) image (Ok page)
    → two ≡ one ++ says_lines (image_symbols o.shapes.map) va p.value (items page) → LooksAs view (λ m. told_of m (shapes_view o.shapes) va) after (Ok told)
    → new ≡ two ++ told_lines (map_symbols o.shapes.map) va (view told) → IfSome image (λ m. new ≡ old ++ place_told (over_plan o m) p)
place_added None after o p va items view page told old one two new is same first read second tells third = tt
place_added (Some m) after o p va items view page told old one two new is same first read second tells third =
    let line : List ℕ = place_line p in
    let says : List ℕ = says_lines (image_symbols o.shapes.map) va p.value (items page) in
    let lines : List ℕ = told_lines (map_symbols o.shapes.map) va (view told) in
    let as_told : view told ≡ told_of m (shapes_view o.shapes) va = rw same at tells in
    let all : new ≡ old ++ ((line ++ says) ++ lines)
    = third ∙ ap (λ l. l ++ lines) (second ∙ ap (λ l. l ++ says) first ∙ append_assoc old line says) ∙ append_assoc old (line ++ says) lines in
    all ∙ ap (λ l. old ++ ((line ++ says_lines (image_symbols o.shapes.map) va p.value l) ++ lines)) read
    ∙ ap (λ t. old ++ ((line ++ says_lines (image_symbols o.shapes.map) va p.value (words m (page_start va) 512)) ++ told_lines (map_symbols o.shapes.map) va t)) as_told
    ∙ ap (λ v. old ++ ((line ++ says_at (over_plan o m) p.value v) ++ told_at (over_plan o m) v)) (sym is)

-- the list in which a violation lies, and the words that show it
pub listed_added : {A E : Type 0} (image after : Option Image) (r : Result A E) (o : PlanOf) (v : Violation) (a : AuditAt) (ps : List Place) (old mid new : List ℕ)
    → v.places ≡ ps → slice_get (plan_seen o.plan.now) v.audit ≡ Some a → after ≡ image → IfSome image (λ m. mid ≡ old ++ ring_lines o.types.now o.shapes.words.areas m v a.kind)
    → OnOk r (IfSome after (λ m. new ≡ mid ++ texts (place_told (over_plan o m)) ps)) → OnOk r (IfSome image (λ m. new ≡ old ++ listed_lines (over_plan o m) v))
listed_added image after r o v a ps old mid new placed is same one two =
    rw (is, placed) (then_lines image after r old mid new (λ m. ring_lines o.types.now o.shapes.words.areas m v a.kind) (λ m. texts (place_told (over_plan o m)) ps) same one two)

-- and what kslab finds in the slabs of its cache
pub shown_added : {A E : Type 0} (image after : Option Image) (r : Result A E) (o : PlanOf) (v : Violation) (a : AuditAt) (old mid new : List ℕ)
    → slice_get (plan_seen o.plan.now) v.audit ≡ Some a → after ≡ image → IfSome image (λ m. mid ≡ old ++ listed_lines (over_plan o m) v)
    → OnOk r (IfSome after (λ m. new ≡ mid ++ slabs_lines (over_plan o m) v a.kind)) → OnOk r (IfSome image (λ m. new ≡ old ++ with_slabs (over_plan o m) v))
shown_added image after r o v a old mid new is same one two =
    then_lines image after r old mid new (λ m. listed_lines (over_plan o m) v) (λ m. slabs_found (over_plan o m) v) same one (rw is two)

-- what repairs it, as it is suspected
pub repairs_told : {A E : Type 0} (image after : Option Image) (r : Result A E) (o : PlanOf) (root : ℕ) (v : Violation) (a : AuditAt) (ring : Option AsRing) (kind : Kind) (w : Violation) (old new : List ℕ)
    → slice_get (plan_seen o.plan.now) v.audit ≡ Some a → after ≡ image → IfSome image (λ m. suspected_view a.kind v ring ≡ suspected m v a.kind) → suspected_view a.kind v ring ≡ record { kind = kind; violation = w }
    → OnOk r (IfSome after (λ m. new ≡ old ++ repairs_as (over_plan o m) root v.audit kind w)) → OnOk r (IfSome image (λ m. new ≡ old ++ repairs_found (over_plan o m) root v))
repairs_told image after (Err e) o root v a ring kind w old new is same tells seen_as added = tt
repairs_told None after (Ok x) o root v a ring kind w old new is same tells seen_as added = tt
repairs_told (Some m) after (Ok x) o root v a ring kind w old new is same tells seen_as added =
    rw is ((rw same at added) ∙ ap (λ (s : Suspected). old ++ repairs_of (over_plan o m) root v.audit s) (sym seen_as ∙ tells))

-- the lines of a violation, one part after the other
pub broken_added : {A E : Type 0} (image after last : Option Image) (r : Result A E) (old named shown counted new a1 a2 c : List ℕ) (b d : Image → List ℕ)
    → after ≡ image → last ≡ image → named ≡ old ++ a1 ++ a2 → IfSome image (λ m. shown ≡ named ++ b m) → counted ≡ shown ++ c
    → OnOk r (IfSome last (λ m. new ≡ counted ++ d m)) → OnOk r (IfSome image (λ m. new ≡ old ++ ((a1 ++ a2) ++ b m ++ c ++ d m)))
broken_added image after last (Err e) old named shown counted new a1 a2 c b d same ends one two three four = tt
broken_added None after last (Ok x) old named shown counted new a1 a2 c b d same ends one two three four = tt
broken_added (Some m) after last (Ok x) old named shown counted new a1 a2 c b d same ends one two three four =
    let first : named ≡ old ++ (a1 ++ a2) = one ∙ append_assoc old a1 a2 in
    let second : shown ≡ old ++ ((a1 ++ a2) ++ b m) = two ∙ ap (λ l. l ++ b m) first ∙ append_assoc old (a1 ++ a2) (b m) in
    let third : counted ≡ old ++ ((a1 ++ a2) ++ b m ++ c) = three ∙ ap (λ l. l ++ c) second ∙ append_assoc old ((a1 ++ a2) ++ b m) c in
    (rw ends at four) ∙ ap (λ l. l ++ d m) third ∙ append_assoc old ((a1 ++ a2) ++ b m ++ c) (d m)
