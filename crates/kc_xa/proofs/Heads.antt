-- The head's site, and the node behind it.
use Rattle.std.proofs.Common.{◌≡◌, ℕ, suc, ◌+◌, ◌-◌, nat_eq, true, List, [], ◌∷◌, ◌++◌, Option, None, Some, refl, sym, ◌∙◌, ap, arith}
use Rattle.std.specs.Prelude.{Result, Ok, Err, IfSome}
use Rattle.kc_laws.specs.Trials.{distinct_none, passed_is, passed_stops}
use Rattle.kc_found.specs.Nodes.{at_offset}
use Rattle.kc_found.specs.Trials.{Trial, claim, and_then, claimed, passed, met, judged}
use Rattle.kc_found.specs.Violations.{Violation, breaks}
use Rattle.kc_found.specs.Walks.{WalksAs}
use Rattle.kc_found.specs.XaEntries.{kind, head_fault}
use Rattle.kc_found.specs.XaLayouts.{XaLayout}
use Rattle.kc_found.specs.XaNodes.{XaCourse, behind_entry, xa_words}
use Rattle.kc_found.specs.XaSites.{Below, node_site, below_words, words_behind, node_trials, head_trials, xa_trials, xa_course, xa_judged}
use Rattle.kc_found.specs.declared.asked.Asked.{Asked}
use Rattle.kc_found.specs.declared.found.WalkStop.{WalkStop}
use Rattle.kc_found.specs.declared.xarrays.XaEntry.{XaEntry}
use Rattle.kc_found.specs.declared.xarrays.XaEntry.TheVariants.{Node}
use Rattle.kc_found.specs.declared.xarrays.XaItem.{XaItem}
use Rattle.kc_found.specs.declared.xarrays.XaNode.{XaNode}
use Rattle.kc_memory.specs.Held.{held, word_count}
use Rattle.kc_memory.specs.Image.{Image}
use Rattle.kc_memory.specs.Translation.{vword}
use Rattle.kc_memory.specs.declared.rule.Rule.TheVariants.{A}
use Rattle.kc_memory.specs.declared.words.VWord.{VWord}
use Rattle.kc_xa.proofs.Behind.{entry_node, node_is, site_goes, kept_at}
use Rattle.kc_xa.proofs.Going.{WalksIn}
use Rattle.kc_xa.proofs.Quiet.{read_among}
use Rattle.kc_xa.proofs.SlotWords.{reader}
use Rattle.kc_xa.specs.Steps.{IsOpened, Kept, below}
use Rattle.std.specs.Set.{is_member}
use Rattle.kc_found.specs.declared.found.WalkStop.TheVariants as ends

head_is : (c : XaCourse) (b : Below) (there : Result VWord Violation) (head : VWord) (k : XaEntry) → there ≡ Ok head → k ≡ kind c.shape.chunk head.value → head_fault k ≡ None → k ≡ Node → head_trials c b there ≡ claim c.asked head ∷ b None head 0
head_is c b (Ok w) head k e ek ef en =
    let same : w ≡ head = cc in
    rw same (ap (λ ts. claim c.asked head ∷ ts) (entry_node c.asked (head_fault (kind c.shape.chunk head.value)) (kind c.shape.chunk head.value) head 0 (b None head 0) (ap head_fault (sym ek) ∙ ef) (sym ek ∙ en)))
head_is c b (Err f) head k e ek ef en = absurd (cc)

-- what is known once the head is claimed
record Headed (m : Image) (c : XaCourse) (head : VWord) (taken : List ℕ) : Type 0 where
  pub trials : xa_trials c (word_count m.physical + 1) ≡ claim c.asked head ∷ (node_site c.asked c.shape None (head.value - 2) (words_behind c head) ++ below_words c (below c (word_count m.physical + 1)) head 0 (words_behind c head))
  pub claimed : passed {X = XaItem} [] (claim c.asked head ∷ []) ≡ Ok taken
  pub kept : Kept m taken

kept_head : (m : Image) (asked : Asked) (head : VWord) (taken : List ℕ) → is_member nat_eq (held m.physical) head.pa ≡ true → passed {X = XaItem} [] (claim asked head ∷ []) ≡ Ok taken → Kept m taken
kept_head m asked head taken among e =
    let is = passed_is {X = XaItem} [] (claim asked head ∷ []) taken e in
    record { different = is.distinct distinct_none; among = is.among (held m.physical) tt (among, tt) }

headed : (m : Image) (shape : XaLayout) (asked : Asked) (head : VWord) (k : XaEntry) (taken : List ℕ) → behind_entry (vword m) asked None (at_offset asked.start shape.head) ≡ Ok head → claimed [] head.pa (breaks asked A head None) ≡ Ok taken →
    k ≡ kind shape.chunk head.value → head_fault k ≡ None → k ≡ Node → Headed m (xa_course m shape asked) head taken
headed m shape asked head k taken read e ek ef en =
    let c = xa_course m shape asked in
    let w = word_count m.physical in
    let once : passed {X = XaItem} [] (claim asked head ∷ []) ≡ Ok taken = ap (λ (r : Result (List ℕ) Violation). and_then r (λ more. Ok more)) e in
    let two : w + 1 + 1 ≡ suc (w + 1) = omega arith in
    record {
      trials = head_is c (λ h v b. node_trials c (w + 1 + 1) h v b) (behind_entry (vword m) asked None (at_offset asked.start shape.head)) head k read ek ef en ∙ ap (λ ts. claim asked head ∷ ts) (ap (λ n. node_trials c n None head 0) two ∙ node_is c (w + 1) None head 0);
      claimed = once;
      kept = kept_head m asked head taken (read_among m asked None (at_offset asked.start shape.head) head read) once;
    }

-- the trials behind the head's claim
behind_claim : (asked : Asked) (head : VWord) (taken : List ℕ) (ts : List (Trial XaItem)) → claimed [] head.pa (breaks asked A head None) ≡ Ok taken → passed {X = XaItem} [] (claim asked head ∷ ts) ≡ passed taken ts
behind_claim asked head taken ts e = ap (λ (r : Result (List ℕ) Violation). and_then r (λ more. passed more ts)) e

whole : (ts : List (Trial XaItem)) (r : Result (List ℕ) Violation) → passed [] ts ≡ r → judged ts ≡ and_then r (λ taken. Ok (met ts))
whole ts r e = ap (λ s. and_then s (λ taken. Ok (met ts))) e

abbrev pub XaIs : {B : Type 0} → (B → List XaItem) → Option Image → XaLayout → Asked → Result B WalkStop → Type 0
XaIs v image shape asked result = WalksAs v (λ m. xa_judged m shape asked.audit asked.start) image result

pub head_site_stops : {P B : Type 0} (v : P → List ℕ) (u : B → List XaItem) (image : Option Image) (shape : XaLayout) (asked : Asked) (head : VWord) (k : XaEntry) (taken : List ℕ) (stop : WalkStop) →
    WalksAs (λ (x : VWord). x) (λ m. behind_entry (vword m) asked None (at_offset asked.start shape.head)) image (Ok head) → claimed [] head.pa (breaks asked A head None) ≡ Ok taken → k ≡ kind shape.chunk head.value → head_fault k ≡ None → k ≡ Node →
    WalksAs v (λ m. passed taken (node_site asked shape None (head.value - 2) (xa_words (reader m asked head) shape (head.value - 2)))) image (Err stop) → XaIs u image shape asked (Err stop)
head_site_stops v u None shape asked head k taken stop read e ek ef en site = tt
head_site_stops v u (Some m) shape asked head k taken (ends.Broken f) read e ek ef en site =
    let c = xa_course m shape asked in
    let h = headed m shape asked head k taken read e ek ef en in
    let own = node_site asked shape None (head.value - 2) (words_behind c head) in
    let rest = below_words c (below c (word_count m.physical + 1)) head 0 (words_behind c head) in
    ap judged h.trials ∙ whole (claim asked head ∷ (own ++ rest)) (Err f) (behind_claim asked head taken (own ++ rest) e ∙ passed_stops taken own rest f site)
head_site_stops v u (Some m) shape asked head k taken ends.Fault read e ek ef en site = tt
head_site_stops v u (Some m) shape asked head k taken ends.NoMemory read e ek ef en site = tt

pub head_walks : {P B : Type 0} (v : P → List ℕ) (u : B → List XaItem) (image : Option Image) (shape : XaLayout) (asked : Asked) (head : VWord) (k : XaEntry) (taken new : List ℕ) (child : XaNode) (a : P) (x : B) (o : Unit {0}) →
    WalksAs (λ (x : VWord). x) (λ m. behind_entry (vword m) asked None (at_offset asked.start shape.head)) image (Ok head) → claimed [] head.pa (breaks asked A head None) ≡ Ok taken → k ≡ kind shape.chunk head.value → head_fault k ≡ None → k ≡ Node →
    WalksAs v (λ m. passed taken (node_site asked shape None (head.value - 2) (xa_words (reader m asked head) shape (head.value - 2)))) image (Ok a) →
    IfSome image (λ m. IsOpened shape head 0 (xa_words (reader m asked head) shape (head.value - 2)) child) → WalksIn image shape asked child (v a) new [] (u x) (Ok o) → XaIs u image shape asked (Ok x)
head_walks v u None shape asked head k taken new child a x o read e ek ef en site is walks = tt
head_walks v u (Some m) shape asked head k taken new child a x o read e ek ef en site is walks =
    let c = xa_course m shape asked in
    let w = word_count m.physical in
    let h = headed m shape asked head k taken read e ek ef en in
    let own = node_site asked shape None (head.value - 2) (words_behind c head) in
    let rest = below_words c (below c (w + 1)) head 0 (words_behind c head) in
    let g = site_goes c (below c (w + 1)) None head 0 (words_behind c head) child taken (v a) is site in
    let t = walks (kept_at m asked shape None head (words_behind c head) taken (v a) refl site h.kept) (w + 1) (omega arith) in
    ap judged h.trials ∙ whole (claim asked head ∷ (own ++ rest)) (Ok new) (behind_claim asked head taken (own ++ rest) e ∙ g.0 ∙ t.0) ∙ ap Ok (g.1 ∙ sym t.1)

pub head_walk_stops : {P B : Type 0} (v : P → List ℕ) (u : B → List XaItem) (image : Option Image) (shape : XaLayout) (asked : Asked) (head : VWord) (k : XaEntry) (taken new : List ℕ) (before walked : List XaItem) (child : XaNode) (a : P) (stop : WalkStop) →
    WalksAs (λ (x : VWord). x) (λ m. behind_entry (vword m) asked None (at_offset asked.start shape.head)) image (Ok head) → claimed [] head.pa (breaks asked A head None) ≡ Ok taken → k ≡ kind shape.chunk head.value → head_fault k ≡ None → k ≡ Node →
    WalksAs v (λ m. passed taken (node_site asked shape None (head.value - 2) (xa_words (reader m asked head) shape (head.value - 2)))) image (Ok a) →
    IfSome image (λ m. IsOpened shape head 0 (xa_words (reader m asked head) shape (head.value - 2)) child) → WalksIn image shape asked child (v a) new before walked (Err stop) → XaIs u image shape asked (Err stop)
head_walk_stops v u None shape asked head k taken new before walked child a stop read e ek ef en site is walks = tt
head_walk_stops v u (Some m) shape asked head k taken new before walked child a (ends.Broken f) read e ek ef en site is walks =
    let c = xa_course m shape asked in
    let w = word_count m.physical in
    let h = headed m shape asked head k taken read e ek ef en in
    let own = node_site asked shape None (head.value - 2) (words_behind c head) in
    let rest = below_words c (below c (w + 1)) head 0 (words_behind c head) in
    let g = site_goes c (below c (w + 1)) None head 0 (words_behind c head) child taken (v a) is site in
    let t = walks (kept_at m asked shape None head (words_behind c head) taken (v a) refl site h.kept) (w + 1) (omega arith) in
    ap judged h.trials ∙ whole (claim asked head ∷ (own ++ rest)) (Err f) (behind_claim asked head taken (own ++ rest) e ∙ g.0 ∙ t)
head_walk_stops v u (Some m) shape asked head k taken new before walked child a ends.Fault read e ek ef en site is walks = tt
head_walk_stops v u (Some m) shape asked head k taken new before walked child a ends.NoMemory read e ek ef en site is walks = tt

-- what was taken once the root is opened
pub kept_root : {P : Type 0} (v : P → List ℕ) (image : Option Image) (shape : XaLayout) (asked : Asked) (head : VWord) (taken : List ℕ) (a : P) → WalksAs (λ (x : VWord). x) (λ m. behind_entry (vword m) asked None (at_offset asked.start shape.head)) image (Ok head) →
    claimed [] head.pa (breaks asked A head None) ≡ Ok taken → WalksAs v (λ m. passed taken (node_site asked shape None (head.value - 2) (xa_words (reader m asked head) shape (head.value - 2)))) image (Ok a) → IfSome image (λ m. Kept m (v a))
kept_root v None shape asked head taken a read e site = tt
kept_root v (Some m) shape asked head taken a read e site =
    let once : passed {X = XaItem} [] (claim asked head ∷ []) ≡ Ok taken = ap (λ (r : Result (List ℕ) Violation). and_then r (λ more. Ok more)) e in
    let first = kept_head m asked head taken (read_among m asked None (at_offset asked.start shape.head) head read) once in
    kept_at m asked shape None head (words_behind (xa_course m shape asked) head) taken (v a) refl site first
