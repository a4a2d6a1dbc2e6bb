-- The memory with some words changed.
use Rattle.std.proofs.Common.{◌≡◌, ℕ, ◌<◌, ◌≤◌, ◌+◌, length, List, [], ◌∷◌, ◌++◌, map, take, get_or, Bool, true, false, if◌then◌else◌, Option, Some, None, option_map, Result, Ok, Err, refl, sym, ap, ◌∙◌}
use Rattle.std.specs.Prelude.{IfOk, IfSome}
use Rattle.std.specs.List.{AllByRecursion, filter}
use Rattle.std.proofs.lemmas.List.{map-append, take_all, take_more}
use Rattle.std.proofs.lemmas.List.Elements.{filter-append}
use Rattle.kc_word.specs.declared.plain.PageCfg.{PageCfg}
use Rattle.kc_memory.specs.Image.{Image, Physical}
use Rattle.kc_phys.specs.declared.patch.change.Change.{Change}
use Rattle.kc_phys.specs.Patch.Changed.{changed_all, patched_all}
use Rattle.kc_phys.specs.Patch.Laws.{LastLiesOver}
use Rattle.kc_mem.specs.Paged.{with_paging}
use Rattle.kc_found.specs.declared.verdict.Verdict.{Verdict}
use Rattle.kc_found.specs.declared.failed.ReadFailed.{ReadFailed}
use Rattle.kc_plan.specs.Planned.{AuditAt}
use Rattle.kc_plan.specs.Roots.{Root}
use Rattle.kc_repair.specs.declared.suspect.suspect.Suspect.{Suspect}
use Rattle.kc_repair.specs.declared.first.FirstWalk.{FirstWalk}
use Rattle.kc_repair.specs.declared.outcome.Breach.{Breach}
use Rattle.kc_repair.specs.Repairs.{change_of, judged, judged_with, with_suspect, with_words}

-- one word more
pub with-one_more : LastLiesOver → (image : Image) (words : List Suspect) (s : Suspect) → with_words image (words ++ s ∷ []) ≡ with_suspect (with_words image words) s
with-one_more law image words s =
    let bytes : changed_all (map change_of (words ++ s ∷ [])) image.physical.bytes ≡ changed_all (map change_of words ++ change_of s ∷ []) image.physical.bytes =
    ap (λ (l : List Change). changed_all l image.physical.bytes) (map-append change_of words (s ∷ [])) in
    ap (λ (b : List ℕ). record { physical = record { bytes = b; segments = image.physical.segments; tail = image.physical.tail }; paging = image.paging })
    (bytes ∙ law (map change_of words) (change_of s) image.physical.bytes)

-- what is said of the memory with changes
pub asked-changed : {A E : Type 0} (physical : Option Physical) (paging : PageCfg) (changes : List Change) (words : List Suspect) (r : Result A E) (Says : Image → A → Type 0)
    → changes ≡ map change_of words → IfOk r (λ a. IfSome (with_paging paging (option_map (patched_all changes) physical)) (λ i. Says i a))
    → IfOk r (λ a. IfSome (with_paging paging physical) (λ i. Says (with_words i words) a))
asked-changed None paging changes words (Ok a) Says same says = tt
asked-changed (Some p) paging changes words (Ok a) Says same says = rw same at says
asked-changed physical paging changes words (Err e) Says same says = tt

-- what a suspect comes to there
pub tried : LastLiesOver → (image : Option Image) (r : Result Verdict ReadFailed) (audits : List AuditAt) (root : Root) (walk : Option FirstWalk) (only : Option Breach) (words all : List Suspect) (s : Suspect)
    → all ≡ words ++ s ∷ [] → IfOk r (λ found. IfSome image (λ i. judged (with_words i all) audits root walk only ≡ found))
    → IfOk r (λ found. IfSome image (λ i. judged_with (with_words i words) audits root walk only s ≡ found))
tried law None (Ok found) audits root walk only words all s same exact = tt
tried law (Some i) (Ok found) audits root walk only words all s same exact =
    ap (λ (m : Image). judged m audits root walk only) (sym (ap (with_words i) same ∙ with-one_more law i words s)) ∙ exact
tried law image (Err stop) audits root walk only words all s same exact = tt

-- one change more
pub changes-more : (words : List Suspect) (i : ℕ) (d : Suspect) (changes new : List Change) → i < length words → changes ≡ map change_of (take i words)
    → new ≡ changes ++ change_of (get_or words i d) ∷ [] → new ≡ map change_of (take (i + 1) words)
changes-more words i d changes new lt is grows =
    grows ∙ ap (λ (l : List Change). l ++ change_of (get_or words i d) ∷ []) is
    ∙ sym (ap (map change_of) (take_more words i d lt) ∙ map-append change_of (take i words) (get_or words i d ∷ []))

pub changes-all : (words : List Suspect) (i : ℕ) (changes : List Change) → length words ≤ i → changes ≡ map change_of (take i words) → changes ≡ map change_of words
changes-all words i changes past is = is ∙ ap (map change_of) (take_all i words past)

-- one suspect more that is kept, or not
pub kept-more : (keeps : Suspect → Bool) (xs : List Suspect) (i : ℕ) (d : Suspect) (kept new : List Suspect) (is_kept : Bool) → i < length xs → kept ≡ filter keeps (take i xs)
    → is_kept ≡ keeps (get_or xs i d) → new ≡ kept ++ (if is_kept then get_or xs i d ∷ [] else []) → new ≡ filter keeps (take (i + 1) xs)
kept-more keeps xs i d kept new is_kept lt is same grows =
    let one : List Suspect = get_or xs i d ∷ [] in
    grows ∙ ap (λ (b : Bool). kept ++ (if b then one else [])) same ∙ ap (λ (l : List Suspect). l ++ filter keeps one) is
    ∙ sym (ap (filter keeps) (take_more xs i d lt) ∙ filter-append keeps (take i xs) one)

pub kept-all : (keeps : Suspect → Bool) (xs : List Suspect) (i : ℕ) (kept : List Suspect) → length xs ≤ i → kept ≡ filter keeps (take i xs) → kept ≡ filter keeps xs
kept-all keeps xs i kept past is = is ∙ ap (filter keeps) (take_all i xs past)

-- ---- what holds of all suspects holds of those that are kept

kept-one : (P Q : Suspect → Type 0) (keeps : Suspect → Bool) (x : Suspect) (xs : List Suspect) (b : Bool) → keeps x ≡ b → P x → (keeps x ≡ true → P x → Q x)
    → AllByRecursion Q xs → AllByRecursion Q (if b then x ∷ xs else xs)
kept-one P Q keeps x xs true is here holds rest = (holds is here, rest)
kept-one P Q keeps x xs false is here holds rest = rest

pub all-kept : (P Q : Suspect → Type 0) (keeps : Suspect → Bool) (xs : List Suspect) → ((x : Suspect) → keeps x ≡ true → P x → Q x) → AllByRecursion P xs → AllByRecursion Q (filter keeps xs)
all-kept P Q keeps [] holds all = tt
all-kept P Q keeps (x ∷ xs) holds all = kept-one P Q keeps x (filter keeps xs) (keeps x) refl all.0 (holds x) (all-kept P Q keeps xs holds all.1)
