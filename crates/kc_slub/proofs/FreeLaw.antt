-- A free list is walked whole exactly where a finite list of objects makes it up.
use Rattle.std.proofs.Common.{◌≡◌, ℕ, ◌*◌, ◌/◌, ◌%◌, ◌<◌, ◌≤◌, nat_eq, true, false, List, [], ◌∷◌, ◌++◌, Option, Some, option_map, map, refl, sym, ◌∙◌, ap, subst, arith, eq-eqb}
use Rattle.std.specs.Prelude.{Result, Ok, Err, not, ◌&&◌, nat_lt}
use Rattle.std.specs.List.{AllByRecursion}
use Rattle.std.proofs.lemmas.Bool.{and_from, and_parts, eqb-true, ltb-true, lt-ltb}
use Rattle.std.proofs.lemmas.Nat.{div-add-mod'}
use Rattle.std.proofs.Math.Nat.{mul-mod_left, mul-div_cancel}
use Rattle.kc_memory.specs.Bits.{Number}
use Rattle.kc_memory.specs.Stopped.{Stopped}
use Rattle.kc_found.specs.declared.asked.Asked.{Asked}
use Rattle.kc_found.specs.declared.free.FreeLed.{FreeLed}
use Rattle.kc_found.specs.declared.free.Grid.{Grid}
use Rattle.kc_found.specs.FiniteLists.{FreeChain, IsFree, pointer_of, pointer_words}
use Rattle.kc_found.specs.FreeLists.{NumberReader, above_base, free_chain, free_next, is_object, pointer_at, pointer_by}
use Rattle.kc_found.specs.Nodes.{readable}
use Rattle.kc_found.specs.Linked.{Linked, HasWords, Whole}
use Rattle.kc_laws.specs.Lists.{first_of, not_false, not_true}
use Rattle.kc_slub.proofs.FreeSites.{good_free, is_good, free_site_is, leads_on}

on_grid : (above size objects : ℕ) → (nat_eq (above % size) 0 && nat_lt (above / size) objects) ≡ true → (above / size < objects) × (above ≡ above / size * size)
on_grid above size objects e =
    let parts = and_parts _ _ e in
    let zero : above % size ≡ 0 = eqb-true _ _ parts.0 in
    let all = div-add-mod' above size in
    (ltb-true (above / size) objects parts.1, omega (arith, all, zero))

is_on_grid : (above size objects k : ℕ) → 1 ≤ size → k < objects → above ≡ k * size → (nat_eq (above % size) 0 && nat_lt (above / size) objects) ≡ true
is_on_grid above size objects k some below stands =
    and_from (nat_eq (above % size) 0) (nat_lt (above / size) objects)
    (eq-eqb _ _ (ap (λ a. a % size) stands ∙ mul-mod_left k size))
    (lt-ltb (above / size) objects (rw (ap (λ a. a / size) stands ∙ mul-div_cancel k some) below))

is_free : (grid : Grid) (o : ℕ) → nat_eq o 0 ≡ false → not (is_object grid o) ≡ false → IsFree grid o
is_free grid o null clean =
    let parts = on_grid (above_base grid o) grid.size grid.objects (not_false _ clean) in
    record { some = ap not null; number = above_base grid o / grid.size; below = parts.0; stands = parts.1 }

free_parts : (grid : Grid) (o : ℕ) → 1 ≤ grid.size → IsFree grid o → (nat_eq o 0 ≡ false) × (not (is_object grid o) ≡ false)
free_parts grid o some f = (not_true _ f.some, ap not (is_on_grid (above_base grid o) grid.size grid.objects f.number some f.below f.stands))

pub free_words : (read : NumberReader) (grid : Grid) (asked : Asked) (first : FreeLed) → HasWords (free_chain read grid asked first) (pointer_words read grid)
free_words read grid asked first = record {
  none = refl;
  more = λ s os u. sym (ap (λ (xs : List ℕ). xs ++ pointer_words read grid os) (free_site_is asked grid (read (pointer_at grid s.to)) s).1);
}

-- the rest of a free list, by its equations
record Equations (read : NumberReader) (grid : Grid) (to : ℕ) (os : List ℕ) : Type 0 where
  pub members : AllByRecursion (IsFree grid) os
  pub forward : Some to ∷ map (pointer_of read grid) os ≡ map Some (os ++ 0 ∷ [])

-- the pointer of an object that is read
pointer_is : (grid : Grid) (s : FreeLed) (there : Result Number Stopped) (n : Number) → there ≡ Ok n → option_map (pointer_by grid.random (pointer_at grid s.to)) (readable there) ≡ Some (free_next grid s n).to
pointer_is grid s there n e = ap (λ r. option_map (pointer_by grid.random (pointer_at grid s.to)) (readable r)) e

equations_of : (read : NumberReader) (grid : Grid) (asked : Asked) (first s : FreeLed) (os : List ℕ) → Linked (free_chain read grid asked first) s os → Equations read grid s.to os
unfolding Linked
equations_of read grid asked first s [] h = record { members = tt; forward = ap (λ v. Some v ∷ []) (eqb-true _ _ h.0) }
equations_of read grid asked first s (o ∷ os) h =
    let there = read (pointer_at grid s.to) in
    let good = good_free asked grid there s h.2 in
    let n = good.number in
    let is : s.to ≡ o = h.1 in
    let to : h.3.0 ≡ free_next grid s n = let same : Some (free_next grid s n) ≡ Some h.3.0 = sym (leads_on grid s there n good.read) ∙ h.3.1 in cc in
    let rest : Linked (free_chain read grid asked first) (free_next grid s n) os = subst (λ (t : FreeLed). Linked (free_chain read grid asked first) t os) to h.3.2 in
    let more = equations_of read grid asked first (free_next grid s n) os rest in
    let on : pointer_of read grid o ≡ Some (free_next grid s n).to = ap (pointer_of read grid) (sym is) ∙ pointer_is grid s there n good.read in
    record {
      members = (subst (IsFree grid) is (is_free grid s.to h.0 good.clean), more.members);
      forward = ap (λ x. Some s.to ∷ x ∷ map (pointer_of read grid) os) on ∙ ap (λ xs. Some s.to ∷ xs) more.forward ∙ ap (λ v. Some v ∷ map Some (os ++ 0 ∷ [])) is;
    }

-- a number that holds a pointer can be read
some_number : (there : Result Number Stopped) (f : Number → ℕ) (v : ℕ) (xs ys : List (Option ℕ)) → option_map f (readable there) ∷ xs ≡ Some v ∷ ys → (n : Number) × (there ≡ Ok n)
some_number (Ok n) f v xs ys e = (n, refl)
some_number (Err s) f v xs ys e = absurd (cc)

linked_from : (read : NumberReader) (grid : Grid) (asked : Asked) (first s : FreeLed) (os : List ℕ) → 1 ≤ grid.size → Equations read grid s.to os → Linked (free_chain read grid asked first) s os
unfolding Linked
linked_from read grid asked first s [] some e = (let same : s.to ≡ 0 = let f = e.forward in cc in eq-eqb _ _ same, tt)
linked_from read grid asked first s (o ∷ os) some e =
    let one = first_of os 0 in
    let forward = e.forward in
    let is : s.to ≡ o = cc in
    let on : pointer_of read grid o ∷ map (pointer_of read grid) os ≡ map Some (os ++ 0 ∷ []) = cc in
    let found = some_number (read (pointer_at grid o)) (pointer_by grid.random (pointer_at grid o)) one.0 (map (pointer_of read grid) os) one.1 (on ∙ one.2) in
    let n = found.0 in
    let there : read (pointer_at grid s.to) ≡ Ok n = ap (λ a. read (pointer_at grid a)) is ∙ found.1 in
    let parts = free_parts grid s.to some (subst (IsFree grid) (sym is) e.members.0) in
    let to : pointer_of read grid o ≡ Some (free_next grid s n).to = ap (pointer_of read grid) (sym is) ∙ pointer_is grid s (read (pointer_at grid s.to)) n there in
    let more : Equations read grid (free_next grid s n).to os = record {
      members = e.members.1;
      forward = sym (ap (λ x. x ∷ map (pointer_of read grid) os) to) ∙ on;
    } in (
      parts.0,
      is,
      is_good asked grid (read (pointer_at grid s.to)) s n parts.1 there,
      (free_next grid s n, leads_on grid s (read (pointer_at grid s.to)) n there, linked_from read grid asked first (free_next grid s n) os some more),
    )

pub free_of_whole : (read : NumberReader) (grid : Grid) (asked : Asked) (first : FreeLed) (os : List ℕ) → Whole (free_chain read grid asked first) (pointer_words read grid) os → FreeChain read grid first.to os
free_of_whole read grid asked first os whole =
    let from : whole.from ≡ first = let same : Some first ≡ Some whole.from = whole.start in cc in
    let linked : Linked (free_chain read grid asked first) first os = subst (λ (s : FreeLed). Linked (free_chain read grid asked first) s os) from whole.linked in
    let e = equations_of read grid asked first first os linked in
    record { members = e.members; forward = e.forward; different = whole.different }

pub whole_of_free : (read : NumberReader) (grid : Grid) (asked : Asked) (first : FreeLed) (os : List ℕ) → 1 ≤ grid.size → FreeChain read grid first.to os → Whole (free_chain read grid asked first) (pointer_words read grid) os
whole_of_free read grid asked first os some f = record {
  from = first;
  start = refl;
  head = tt;
  linked = linked_from read grid asked first first os some (record { members = f.members; forward = f.forward });
  different = f.different;
}
