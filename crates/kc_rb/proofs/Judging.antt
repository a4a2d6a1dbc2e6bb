-- The site of a node, where the dump is told or not.
use Rattle.std.proofs.Common.{◌≡◌, ℕ, List, ◌++◌, Option, None, Some, ◌∙◌, ap}
use Rattle.std.specs.Prelude.{Result, Ok, Err, IfSome}
use Rattle.kc_memory.specs.Image.{Image}
use Rattle.kc_memory.specs.Stopped.{Stopped}
use Rattle.kc_memory.specs.Translation.{vword}
use Rattle.kc_found.specs.declared.asked.Asked.{Asked}
use Rattle.kc_found.specs.declared.found.WalkStop.{WalkStop}
use Rattle.kc_found.specs.declared.found.WalkStop.TheVariants as ends
use Rattle.kc_found.specs.declared.shapes.RbShape.{RbShape}
use Rattle.kc_found.specs.declared.trees.RbKey.{RbKey}
use Rattle.kc_found.specs.declared.trees.RbLinks.{RbLinks}
use Rattle.kc_found.specs.declared.trees.RbSpot.{RbSpot}
use Rattle.kc_found.specs.RbTrees.{RbCourse, course_of, reads_of, links_of, key_of, where_ok, node_claims, link_fault, key_fault, broken_by, site_with, node_site}
use Rattle.kc_found.specs.Trials.{Trial, passed}
use Rattle.kc_found.specs.Violations.{Violation, missed}
use Rattle.kc_found.specs.Walks.{WalksAs}
use Rattle.kc_laws.specs.Trials.{passed_goes}
use Rattle.kc_rb.specs.Faults.{StopIs}

-- the rules of a node, behind its claims
abbrev pub judged_with : RbCourse → RbSpot → RbLinks → Result (Option RbKey) Stopped → List (Trial ℕ)
judged_with c s n key = broken_by (link_fault c.asked s n) ++ where_ok key (missed c.asked (Some s.link)) (λ k. broken_by (key_fault c.asked c.shape.unique s k))

key_stop : (c : RbCourse) (s : RbSpot) (taken more : List ℕ) (there : Result RbLinks Stopped) (key : Result (Option RbKey) Stopped) (n : RbLinks) (k : Option RbKey) (f : Violation) → there ≡ Ok n → key ≡ Ok k →
    passed {X = ℕ} taken (where_ok there (missed c.asked (Some s.link)) (node_claims c.asked)) ≡ Ok more → link_fault c.asked s n ≡ None → key_fault c.asked c.shape.unique s k ≡ Some f →
    passed taken (site_with c s there key) ≡ Err f
key_stop c s taken more (Ok n) (Ok k) n' k' f es ek e el ef =
    let same : n ≡ n' = cc in
    let key_same : k ≡ k' = cc in
    let fine : link_fault c.asked s n ≡ None = rw same el in
    let bad : key_fault c.asked c.shape.unique s k ≡ Some f = rw key_same ef in
    passed_goes {X = ℕ} taken (node_claims c.asked n) (judged_with c s n (Ok k)) more e
    ∙ ap (λ o. passed {X = ℕ} more (broken_by o ++ broken_by (key_fault c.asked c.shape.unique s k))) fine
    ∙ ap (λ o. passed {X = ℕ} more (broken_by o)) bad
key_stop c s taken more (Ok n) (Err m) n' k' f es ek e el ef = absurd (cc)
key_stop c s taken more (Err m) key n' k' f es ek e el ef = absurd (cc)

pub key_stops : {A C : Type 0} (v : A → List ℕ) (w : C → List ℕ) (image : Option Image) (taken : List ℕ) (shape : RbShape) (asked : Asked) (s : RbSpot) (x : A) (n : RbLinks) (k : Option RbKey) (stop : WalkStop) →
    IfSome image (λ i. links_of (vword i) shape s.link.value ≡ Ok n) → IfSome image (λ i. key_of (reads_of i) shape s.link.value ≡ Ok k) →
    WalksAs v (λ i. passed {X = ℕ} taken (where_ok (links_of (vword i) shape s.link.value) (missed asked (Some s.link)) (node_claims asked))) image (Ok x) →
    link_fault asked s n ≡ None → StopIs stop (key_fault asked shape.unique s k) →
    WalksAs w (λ i. passed taken (node_site (course_of i shape asked) s)) image (Err stop)
key_stops v w None taken shape asked s x n k stop es ek e el ef = tt
key_stops v w (Some i) taken shape asked s x n k (ends.Broken f) es ek e el ef = key_stop (course_of i shape asked) s taken (v x) (links_of (vword i) shape s.link.value) (key_of (reads_of i) shape s.link.value) n k f es ek e el ef
key_stops v w (Some i) taken shape asked s x n k ends.Fault es ek e el ef = tt
key_stops v w (Some i) taken shape asked s x n k ends.NoMemory es ek e el ef = tt
