-- What it says that no rule is broken at a node.
use Rattle.std.proofs.Common.{◌≡◌, ℕ, nat_eq, Bool, true, false, [], ◌∷◌, Option, Some, None, refl, eq-eqb, arith}
use Rattle.std.specs.Prelude.{Result, Ok, Err, if◌then◌else◌, not, ◌&&◌, ℤ}
use Rattle.std.proofs.lemmas.Bool.{eqb-true}
use Rattle.std.proofs.lemmas.Int.{ints}
use Rattle.kc_memory.specs.Stopped.{Stopped}
use Rattle.kc_memory.specs.declared.rule.Rule.TheVariants.{R1}
use Rattle.kc_found.specs.declared.asked.Asked.{Asked}
use Rattle.kc_found.specs.declared.trees.RbKey.{RbKey}
use Rattle.kc_found.specs.declared.trees.RbLinks.{RbLinks}
use Rattle.kc_found.specs.declared.trees.RbSpot.{RbSpot}
use Rattle.kc_found.specs.RbFinite.{IsOver, IsUnder, IsBetween}
use Rattle.kc_found.specs.RbTrees.{RbCourse, links_at, keys_at, site_with, broken_by, link_fault, red_fault, key_fault, bound_fault, is_below, is_above, is_red, parent_in}
use Rattle.kc_found.specs.Trials.{Break, IsUnbroken}
use Rattle.kc_found.specs.Violations.{Violation, breaks, missed}
use Rattle.kc_laws.specs.Trials.{unbroken_parts}
use Rattle.kc_rb.specs.Nodes.{Good, NodesAreGood}

pub over : (strict : Bool) (low : Option ℤ) (k : ℤ) → is_below strict low k ≡ false → IsOver strict low k
over strict None k e = tt
over true (Some low) k e = grind (arith, ints)
over false (Some low) k e = grind (arith, ints)

pub under : (strict : Bool) (high : Option ℤ) (k : ℤ) → is_above strict high k ≡ false → IsUnder strict high k
under strict None k e = tt
under true (Some high) k e = grind (arith, ints)
under false (Some high) k e = grind (arith, ints)

pub not_below : (strict : Bool) (low : Option ℤ) (k : ℤ) → IsOver strict low k → is_below strict low k ≡ false
not_below strict None k e = refl
not_below true (Some low) k e = grind (arith, ints)
not_below false (Some low) k e = grind (arith, ints)

pub not_above : (strict : Bool) (high : Option ℤ) (k : ℤ) → IsUnder strict high k → is_above strict high k ≡ false
not_above strict None k e = refl
not_above true (Some high) k e = grind (arith, ints)
not_above false (Some high) k e = grind (arith, ints)

first_none : (t u : Bool) (f g : Violation) → (if not t then Some f else (if u then Some g else None)) ≡ None → (t ≡ true) × (u ≡ false)
first_none true true f g e = absurd (cc)
first_none true false f g e = (refl, refl)
first_none false u f g e = absurd (cc)

both_none : (t u : Bool) (f g : Violation) → (if t then Some f else (if u then Some g else None)) ≡ None → (t ≡ false) × (u ≡ false)
both_none true u f g e = absurd (cc)
both_none false true f g e = absurd (cc)
both_none false false f g e = (refl, refl)

no_first : (t u : Bool) (f g : Violation) → t ≡ true → u ≡ false → (if not t then Some f else (if u then Some g else None)) ≡ None
no_first true true f g e d = absurd (cc)
no_first true false f g e d = refl
no_first false u f g e d = absurd (cc)

no_both : (t u : Bool) (f g : Violation) → t ≡ false → u ≡ false → (if t then Some f else (if u then Some g else None)) ≡ None
no_both true u f g e d = absurd (cc)
no_both false true f g e d = absurd (cc)
no_both false false f g e d = refl

pub links_good : (asked : Asked) (s : RbSpot) (n : RbLinks) → link_fault asked s n ≡ None → (parent_in n.parent.value ≡ s.parent) × ((s.red && is_red n.parent.value) ≡ false)
links_good asked s n e =
    let p = first_none (nat_eq (parent_in n.parent.value) s.parent) (s.red && is_red n.parent.value) (breaks asked R1 n.parent (Some s.parent)) (red_fault asked s n.parent) e in
    (eqb-true _ _ p.0, p.1)

pub links_fine : (asked : Asked) (s : RbSpot) (n : RbLinks) → parent_in n.parent.value ≡ s.parent → (s.red && is_red n.parent.value) ≡ false → link_fault asked s n ≡ None
links_fine asked s n e d = no_first (nat_eq (parent_in n.parent.value) s.parent) (s.red && is_red n.parent.value) (breaks asked R1 n.parent (Some s.parent)) (red_fault asked s n.parent) (eq-eqb _ _ e) d

pub key_good : (asked : Asked) (strict : Bool) (s : RbSpot) (k : Option RbKey) → key_fault asked strict s k ≡ None → IsBetween strict s.low s.high k
key_good asked strict s None e = tt
key_good asked strict s (Some k) e =
    let p = both_none (is_below strict s.low k.number.value) (is_above strict s.high k.number.value) (bound_fault asked k s.low) (bound_fault asked k s.high) e in
    (over strict s.low k.number.value p.0, under strict s.high k.number.value p.1)

pub key_fine : (asked : Asked) (strict : Bool) (s : RbSpot) (k : Option RbKey) → IsBetween strict s.low s.high k → key_fault asked strict s k ≡ None
key_fine asked strict s None e = refl
key_fine asked strict s (Some k) e =
    no_both (is_below strict s.low k.number.value) (is_above strict s.high k.number.value) (bound_fault asked k s.low) (bound_fault asked k s.high) (not_below strict s.low k.number.value e.0) (not_above strict s.high k.number.value e.1)

no_fault : (a : Option Violation) → IsUnbroken {X = ℕ} (broken_by a) → a ≡ None
no_fault None u = refl
no_fault (Some f) u = absurd u

pub good : (c : RbCourse) (s : RbSpot) (there : Result RbLinks Stopped) (key : Result (Option RbKey) Stopped) → links_at c s ≡ there → keys_at c s ≡ key → IsUnbroken (site_with c s there key) → (n : RbLinks) × (k : Option RbKey) × Good c s n k
good c s (Ok n) (Ok k) et ek u =
    let p = unbroken_parts {X = ℕ} (broken_by (link_fault c.asked s n)) (broken_by (key_fault c.asked c.shape.unique s k)) u in
    let l = links_good c.asked s n (no_fault _ p.0) in
    (n, k, record { links = et; keys = ek; parent = l.0; colour = l.1; between = key_good c.asked c.shape.unique s k (no_fault _ p.1) })
good c s (Ok n) (Err m) et ek u = absurd ((unbroken_parts {X = ℕ} (broken_by (link_fault c.asked s n)) (Break (missed c.asked (Some s.link) m) ∷ []) u).1)
good c s (Err m) key et ek u = absurd u

fine_with : (c : RbCourse) (s : RbSpot) (n : RbLinks) (k : Option RbKey) (there : Result RbLinks Stopped) (key : Result (Option RbKey) Stopped) → there ≡ Ok n → key ≡ Ok k → link_fault c.asked s n ≡ None → key_fault c.asked c.shape.unique s k ≡ None → IsUnbroken (site_with c s there key)
fine_with c s n k (Ok n') (Ok k') et ek el ef = let same : n' ≡ n = cc in let key_same : k' ≡ k = cc in rw (same, key_same, el, ef) tt
fine_with c s n k (Ok n') (Err m) et ek el ef = absurd (cc)
fine_with c s n k (Err m) key et ek el ef = absurd (cc)

pub fine : (c : RbCourse) (s : RbSpot) (n : RbLinks) (k : Option RbKey) → Good c s n k → IsUnbroken (site_with c s (links_at c s) (keys_at c s))
fine c s n k g = fine_with c s n k (links_at c s) (keys_at c s) g.links g.keys (links_fine c.asked s n g.parent g.colour) (key_fine c.asked c.shape.unique s k g.between)

pub nodes_are_good : NodesAreGood
nodes_are_good = λ c s. (good c s (links_at c s) (keys_at c s) refl refl, fine c s)
