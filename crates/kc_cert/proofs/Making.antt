-- A clean dump has a certificate, where the walks of its plan's kinds have shapes.
use Rattle.std.proofs.Common.{◌≡◌, ℕ, suc, nat_eq, Bool, true, false, List, [], ◌∷◌, ◌++◌, length, Some, None, refl, sym, ◌∙◌, ap, append_assoc}
use Rattle.std.specs.Prelude.{Result, Ok, Err, is_none, if◌then◌else◌}
use Rattle.kc_memory.specs.Image.{Image}
use Rattle.kc_memory.specs.Stopped.{Stopped}
use Rattle.kc_found.specs.declared.asked.Asked.{Asked}
use Rattle.kc_found.specs.declared.verdict.AuditCount.{AuditCount}
use Rattle.kc_found.specs.declared.verdict.Verdict.TheVariants.{Clean, Broken}
use Rattle.kc_found.specs.RbFinite.{RbTree}
use Rattle.kc_found.specs.RbTrees.{reads_of}
use Rattle.kc_found.specs.Trials.{and_then}
use Rattle.kc_found.specs.Violations.{Violation}
use Rattle.kc_list.specs.Laws.{HashChainsAreWalked, RingsAreWalked}
use Rattle.kc_rb.specs.Laws.{TreesAreWalked}
use Rattle.kc_kinds.specs.declared.kind.Kind.TheVariants.{Ring, Hlist, Rbtree, Xarray, Slub, Tasks, Pids}
use Rattle.kc_plan.specs.Events.{Event, Wrong, first_wrong}
use Rattle.kc_plan.specs.Planned.{AuditAt}
use Rattle.kc_plan.specs.Seen.{PathEnd, EndsAt, NullAt, at_element, below, checks_seen, container_of, entered, in_turn, is_optional, null_pointer, path_end, path_of, roots, seen, walked, world}
use Rattle.kc_kinds.specs.Structures.{nodes_of}
use Rattle.kc_plan.specs.Verdicts.{verdict}
use Rattle.kc_run.specs.Tally.{added, tally, zeros}
use Rattle.kc_run.proofs.Counting.{ends_broken, ends_clean}
use Rattle.kc_cert.specs.declared.text.certificate.CertStep.{CertStep}
use Rattle.kc_cert.specs.Fits.Fits.{all_hold, checks_hold, fits}
use Rattle.kc_cert.specs.Rechecking.Certificates.{Judge, Judged, after_walk, answer_of, at, below_judged, each_judged, entry_judged, judged, nodes_judged, walk_judged}
use Rattle.kc_found.specs.declared.xarrays.XaItem.{XaItem}
use Rattle.kc_found.specs.XaLayouts.{XaLayout}
use Rattle.kc_found.specs.XaSites.{entries_in, xa_judged}
use Rattle.kc_xa.specs.Listed.Entries.{is_xarray, pointers}
use Rattle.kc_xa.specs.Listed.Laws.{WalksPass, met_pointers}
use Rattle.kc_by_lists.specs.Laws.{CachesHaveLists, TasksHaveLists}
use Rattle.kc_by_lists.specs.Pids.Laws.{PidsHaveLists}
use Rattle.kc_list.specs.ListedLaws.{HashChainsAreTested, RingsAreTested}
use Rattle.kc_rb.specs.Listed.Laws.{TreesPass}
use Rattle.kc_cert.specs.Fits.Shapes.{is_shape, nodes_in}
use Rattle.kc_rb.specs.Listed.Trees.{pre}
use Rattle.kc_cert.specs.Complete.{AllShaped, HasShape, CleanIsCertified, ShapedKinds}
use Rattle.kc_cert.proofs.RecheckingLemmas.Fitting.{both_true, if_so, step_fits, tally_parts}
use Rattle.kc_cert.proofs.RecheckingLemmas.Right.{checks_none}
use Rattle.kc_cert.proofs.FitsLemmas.Checks.{right_seen}

-- steps that are taken, whatever follows them
abbrev MadeAt : Judge → List AuditCount → List AuditCount → Type 0
MadeAt judge counts after = (more : List CertStep) × ((rest : List CertStep) → judge (at (more ++ rest) counts) ≡ Ok (at rest after))

-- each thing in turn makes its steps
each_made : {X : Type 0} (judge : X → Judge) (see : X → List Event) (xs : List X) (counts after : List AuditCount) → ((x : X) (b c : List AuditCount) → tally b (see x) ≡ Ok c → MadeAt (judge x) b c) →
    tally counts (in_turn see xs) ≡ Ok after → MadeAt (each_judged judge xs) counts after
each_made judge see [] counts after further e = ([], λ rest. let same : counts ≡ after = cc in ap (λ (c : List AuditCount). Ok (at rest c)) same)
each_made judge see (x ∷ xs) counts after further e =
    let p = tally_parts counts after (see x) (in_turn see xs) e in
    let one = further x counts p.0 p.1 in
    let two = each_made judge see xs p.0 after further p.2 in
    (one.0 ++ two.0, λ rest. ap (λ (l : List CertStep). and_then (judge x (at l counts)) (each_judged judge xs)) (append_assoc one.0 two.0 rest) ∙ ap (λ (r : Judged). and_then r (each_judged judge xs)) (one.1 (two.0 ++ rest)) ∙ two.1 rest)

-- the checks of an element, and what lies below
element_made : (i : Image) (n : ℕ) (a : AuditAt) (start : ℕ) (judge : ℕ → ℕ → Judge) (see : ℕ → ℕ → List Event) (element : ℕ) (counts after : List AuditCount) → ((m x : ℕ) (b c : List AuditCount) → tally b (see m x) ≡ Ok c → MadeAt (judge m x) b c) →
    tally counts (at_element (world i) n a start see element) ≡ Ok after → (checks_hold i n a start element ≡ true) × MadeAt (below_judged a judge element) counts after
element_made i n a start judge see element counts after further e =
    let asked : Asked = record { audit = n; start = start } in
    let es = checks_seen (world i) asked a.checks element in
    let p = tally_parts counts after es (below a see element) e in
    let silent : first_wrong es ≡ None = right_seen counts p.0 es p.1 in
    let none : es ≡ [] = checks_none i asked element a.checks silent in
    (ap is_none silent, each_made (λ m. judge m element) (λ m. see m element) a.each counts after (λ m b c f. further m element b c f) (sym (ap (λ us. tally counts (us ++ below a see element)) none) ∙ e))

all_made : (i : Image) (n : ℕ) (a : AuditAt) (start : ℕ) (judge : ℕ → ℕ → Judge) (see : ℕ → ℕ → List Event) (nodes : List ℕ) (counts after : List AuditCount) → ((m x : ℕ) (b c : List AuditCount) → tally b (see m x) ≡ Ok c → MadeAt (judge m x) b c) →
    tally counts (in_turn (λ node. at_element (world i) n a start see (container_of a.link node)) nodes) ≡ Ok after → all_hold i n a start nodes ≡ true
all_made i n a start judge see [] counts after further e = refl
all_made i n a start judge see (node ∷ nodes) counts after further e =
    let p = tally_parts counts after (at_element (world i) n a start see (container_of a.link node)) (in_turn (λ node. at_element (world i) n a start see (container_of a.link node)) nodes) e in
    both_true (checks_hold i n a start (container_of a.link node)) (all_hold i n a start nodes) (element_made i n a start judge see (container_of a.link node) counts p.0 further p.1).0 (all_made i n a start judge see nodes p.0 after further p.2)

walk_made : (i : Image) (n : ℕ) (a : AuditAt) (start : ℕ) (judge : ℕ → ℕ → Judge) (see : ℕ → ℕ → List Event) (counts after : List AuditCount) (r : Result (List ℕ) Violation) → HasShape i a.kind → nodes_of i a.kind n start ≡ r →
    ((m x : ℕ) (b c : List AuditCount) → tally b (see m x) ≡ Ok c → MadeAt (judge m x) b c) → tally counts (walked (world i) n a start see r) ≡ Ok after → MadeAt (λ p. walk_judged i n a start judge p.counts p.left) counts after
walk_made i n a start judge see counts after (Err v) shaped is further e = let none : ⊥ = cc in absurd none
walk_made i n a start judge see counts after (Ok nodes) shaped is further e =
    let sh = shaped n start nodes is in
    let lists : List (List ℕ) = sh.0 in
    let same : nodes_in a.kind lists ≡ nodes = sh.2 in
    let hold = all_made i n a start judge see nodes (added counts n (length nodes)) after further e in
    let fit = step_fits i n a start lists sh.1 (ap (all_hold i n a start) same ∙ hold) in
    let m : MadeAt (nodes_judged a judge nodes) (added counts n (length nodes)) after = each_made (λ node. below_judged a judge (container_of a.link node)) (λ node. at_element (world i) n a start see (container_of a.link node)) nodes (added counts n (length nodes)) after (λ node b c f. (element_made i n a start judge see (container_of a.link node) b c further f).1) e in
    let s : CertStep = record { audit = n; start = start; lists = lists } in (
      s ∷ m.0,
      λ rest.
          if_so (fits i n a start s) (nodes_judged a judge (nodes_in a.kind lists) (after_walk (m.0 ++ rest) counts n (nodes_in a.kind lists))) (Err (s ∷ (m.0 ++ rest))) fit
          ∙ ap (λ (ns : List ℕ). nodes_judged a judge ns (after_walk (m.0 ++ rest) counts n ns)) same ∙ m.1 rest,
    )

entry_made : (i : Image) (n : ℕ) (a : AuditAt) (judge : ℕ → ℕ → Judge) (see : ℕ → ℕ → List Event) (base : ℕ) (there : Result PathEnd Stopped) (counts after : List AuditCount) → HasShape i a.kind →
    ((m x : ℕ) (b c : List AuditCount) → tally b (see m x) ≡ Ok c → MadeAt (judge m x) b c) → tally counts (entered (world i) n a see base there) ≡ Ok after → MadeAt (entry_judged i n a judge there) counts after
entry_made i n a judge see base (Err s) counts after shaped further e = let none : ⊥ = cc in absurd none
entry_made i n a judge see base (Ok (EndsAt start)) counts after shaped further e = walk_made i n a start judge see counts after (nodes_of i a.kind n start) shaped refl further e
entry_made i n a judge see base (Ok (NullAt place x)) counts after shaped further e = by_option (is_optional a.start) refl e
  where
    by_option : (b : Bool) → is_optional a.start ≡ b → tally counts (if b then [] else (Wrong (null_pointer (record { audit = n; start = base }) place x) ∷ [])) ≡ Ok after → MadeAt (entry_judged i n a judge (Ok (NullAt place x))) counts after
    by_option false is e = let none : ⊥ = cc in absurd none
    by_option true is e = ([], λ rest. let same : counts ≡ after = cc in if_so (is_optional a.start) (Ok (at rest counts)) (Err rest) is ∙ ap (λ (c : List AuditCount). Ok (at rest c)) same)

pick_made : (b : Bool) (one other : Judge) (es us : List Event) (counts after : List AuditCount) → (tally counts es ≡ Ok after → MadeAt one counts after) → (tally counts us ≡ Ok after → MadeAt other counts after) →
    tally counts (if b then es else us) ≡ Ok after → MadeAt (λ p. if b then one p else other p) counts after
pick_made true one other es us counts after f g e = f e
pick_made false one other es us counts after f g e = g e

judged_made : (i : Image) (audits : List AuditAt) (k m base : ℕ) (counts after : List AuditCount) → AllShaped i audits → tally counts (seen (world i) audits k m base) ≡ Ok after → MadeAt (judged i audits k m base) counts after
unfolding judged seen
judged_made i [] k m base counts after shaped e = ([], λ rest. let same : counts ≡ after = cc in ap (λ (c : List AuditCount). Ok (at rest c)) same)
judged_made i (a ∷ later) k m base counts after shaped e =
    pick_made (nat_eq m k) (λ p. entry_judged i k a (λ n x. judged i later (suc k) n x) (path_end i base (path_of a.start).hops (path_of a.start).byte) p) (λ p. judged i later (suc k) m base p) _ _ counts after
    (entry_made i k a (λ n x. judged i later (suc k) n x) (λ n x. seen (world i) later (suc k) n x) base (path_end i base (path_of a.start).hops (path_of a.start).byte) counts after shaped.0 (λ n x b c f. judged_made i later (suc k) n x b c shaped.1 f))
    (judged_made i later (suc k) m base counts after shaped.1) e

-- a clean verdict is that of what is counted
clean_tally : (i : Image) (audits : List AuditAt) (counts : List AuditCount) (r : Result (List AuditCount) Violation) → tally (zeros audits) (in_turn (λ x. seen (world i) audits 0 x.0 x.1) (roots 0 audits)) ≡ r → verdict i audits ≡ Clean counts → r ≡ Ok counts
clean_tally i audits counts (Ok cs) is e = let same : verdict i audits ≡ Clean cs = ends_clean {A = ℕ} (Some i) audits cs 0 is in let one : cs ≡ counts = cc in ap Ok one
clean_tally i audits counts (Err v) is e = let broken : verdict i audits ≡ Broken v = ends_broken ℕ (Some i) audits (zeros audits) v is in let none : ⊥ = cc in absurd none

pub certified : CleanIsCertified
certified i audits counts shaped e =
    let whole = clean_tally i audits counts (tally (zeros audits) (in_turn (λ x. seen (world i) audits 0 x.0 x.1) (roots 0 audits))) refl e in
    let m = each_made (λ r. judged i audits 0 r.0 r.1) (λ r. seen (world i) audits 0 r.0 r.1) (roots 0 audits) (zeros audits) counts (λ r b c f. judged_made i audits 0 r.0 r.1 b c shaped f) whole in
    (m.0 ++ [], ap (answer_of (m.0 ++ [])) (m.1 []))

-- which kinds have shapes
-- an xarray's list, by its walk
array_shaped : (i : Image) (shape : XaLayout) (n start : ℕ) (nodes : List ℕ) (walked : Result (List XaItem) Violation) → ((items : List XaItem) → walked ≡ Ok items → (ns : List ℕ) × (is_xarray i shape start ns ≡ true) × (met_pointers items ≡ pointers ns)) →
    entries_in walked ≡ Ok nodes → (lists : List (List ℕ)) × (is_shape i (Xarray shape) n start lists ≡ true) × (nodes_in (Xarray shape) lists ≡ nodes)
unfolding is_shape
array_shaped i shape n start nodes (Ok items) law e = let w = law items refl in let same : met_pointers items ≡ nodes = cc in (w.0 ∷ [], w.1, sym w.2 ∙ same)
array_shaped i shape n start nodes (Err v) law e = let none : ⊥ = cc in absurd none

pub shaped : RingsAreTested → HashChainsAreTested → TreesPass → RingsAreWalked → HashChainsAreWalked → TreesAreWalked → WalksPass → CachesHaveLists → TasksHaveLists → PidsHaveLists → ShapedKinds
unfolding is_shape nodes_of
shaped rings chains trees ring_walks chain_walks tree_walks arrays caches tasks pids i (Ring shape) n start ns is = (ns ∷ [], (rings i shape start ns).0 ((ring_walks i shape n start ns).1 is), refl)
shaped rings chains trees ring_walks chain_walks tree_walks arrays caches tasks pids i (Hlist shape) n start ns is = (ns ∷ [], (chains i shape start ns).0 ((chain_walks i shape n start ns).1 is), refl)
shaped rings chains trees ring_walks chain_walks tree_walks arrays caches tasks pids i (Rbtree shape) n start ns is =
    let t : RbTree (reads_of i) shape start ns = (tree_walks i shape n start ns).1 is in
    let r = trees i shape start ns t in (pre t.tree ∷ [], r.0, r.1)
shaped rings chains trees ring_walks chain_walks tree_walks arrays caches tasks pids i (Xarray shape) n start ns is = array_shaped i shape n start ns (xa_judged i shape n start) (λ items e. arrays i shape n start items e) is
shaped rings chains trees ring_walks chain_walks tree_walks arrays caches tasks pids i (Slub shape) n start ns is = caches i shape n n start ns is
shaped rings chains trees ring_walks chain_walks tree_walks arrays caches tasks pids i (Tasks shape) n start ns is = tasks i shape n n start ns is
shaped rings chains trees ring_walks chain_walks tree_walks arrays caches tasks pids i (Pids shape) n start ns is = pids i shape n n start ns is
