-- A hash chain is walked whole exactly where a finite list of nodes makes it up.
use Rattle.std.proofs.Common.{◌≡◌, ℕ, nat_eq, Bool, false, List, [], ◌∷◌, ◌++◌, None, Some, refl, sym, ◌∙◌, ap, subst, eq-eqb}
use Rattle.std.specs.Prelude.{Result, Ok, Err, not, map, option_to_list}
use Rattle.std.specs.List.{IsDistinct, AllByRecursion}
use Rattle.std.proofs.lemmas.Bool.{eqb-true}
use Rattle.kc_memory.specs.declared.words.VWord.{VWord}
use Rattle.kc_memory.specs.declared.rule.Rule.TheVariants.{K, H1}
use Rattle.kc_memory.specs.Stopped.{Stopped}
use Rattle.kc_found.specs.declared.asked.Asked.{Asked}
use Rattle.kc_found.specs.declared.shapes.HShape.{HShape}
use Rattle.kc_found.specs.FiniteLists.{HChain, IsHashed, value_of, pa_of, pointers, values, words_of}
use Rattle.kc_found.specs.HashChains.{hash_links, points_wrong, next_of, hash_chain}
use Rattle.kc_found.specs.Nodes.{at_offset, is_poison, readable, one_taken}
use Rattle.kc_found.specs.Trials.{Reader, claimed_in, IsUnbroken}
use Rattle.kc_found.specs.Violations.{breaks}
use Rattle.kc_found.specs.Linked.{Linked, HasWords, Whole}
use Rattle.kc_laws.specs.Lists.{words_at, some_word, first_of, not_false, not_true, or_false}
use Rattle.kc_list.proofs.HashSites.{good_hashed, hash_site_is, first_read}
use Rattle.kc_laws.specs.Pairs.{both_read, both_of, leads_by, tested_passes, pair_takes}
use Rattle.kc_laws.specs.Trials.{if_passes}

-- a word that is read is at the address that was asked
abbrev pub ReadsThere : Reader → Type 0
ReadsThere read = (va : ℕ) (w : VWord) → read va ≡ Ok w → w.va ≡ va

pub hash_words : (read : Reader) (shape : HShape) (asked : Asked) → HasWords (hash_chain read shape asked) (words_of read shape.next shape.pprev)
hash_words read shape asked = record {
  none = refl;
  more = λ from ns u.
      let there = hash_links read shape from.value in
      let good = (good_hashed asked there from u).words in
      words_at read shape.next shape.pprev from.value ns good.pair good.read
      ∙ sym (ap (λ (xs : List ℕ). xs ++ words_of read shape.next shape.pprev ns) ((hash_site_is asked there from).1 ∙ pair_takes asked (Some from) there good.pair good.read));
}

-- the rest of a hash chain, by its equations
record Equations (read : Reader) (shape : HShape) (from : VWord) (ns : List ℕ) : Type 0 where
  pub members : AllByRecursion IsHashed ns
  pub forward : Some from.value ∷ values read shape.next ns ≡ map Some (ns ++ 0 ∷ [])
  pub backward : values read shape.pprev ns ≡ map Some (pointers shape from.va ns)

hashed_of : (n : ℕ) (a b : Bool) → nat_eq n 0 ≡ a → is_poison n ≡ b → a ≡ false → b ≡ false → IsHashed n
hashed_of n a b ea eb fa fb = rw (ea ∙ fa, eb ∙ fb) refl

equations_of : (read : Reader) (shape : HShape) (asked : Asked) (from : VWord) (ns : List ℕ) → ReadsThere read → Linked (hash_chain read shape asked) from ns → Equations read shape from ns
unfolding Linked
equations_of read shape asked from [] at h = record {
  members = tt;
  forward = ap (λ v. Some v ∷ []) (eqb-true _ _ h.0);
  backward = refl;
}
equations_of read shape asked from (n ∷ ns) at h =
    let good = good_hashed asked (hash_links read shape from.value) from h.2 in
    let p = good.words.pair in
    let is : from.value ≡ n = h.1 in
    let there : hash_links read shape n ≡ Ok p = ap (hash_links read shape) (sym is) ∙ good.words.read in
    let b = both_read read (at_offset n shape.next) (at_offset n shape.pprev) p there in
    let to : h.3.0 ≡ p.0 = let same : Some p.0 ≡ Some h.3.0 = sym (leads_by (hash_links read shape from.value) next_of p good.words.read) ∙ h.3.1 in cc in
    let rest : Linked (hash_chain read shape asked) p.0 ns = subst (λ (t : VWord). Linked (hash_chain read shape asked) t ns) to h.3.2 in
    let more = equations_of read shape asked p.0 ns at rest in
    let back : p.1.value ≡ from.va = eqb-true _ _ (not_false _ good.words.passed) in
    let here : p.0.va ≡ at_offset n shape.next = at (at_offset n shape.next) p.0 b.0 in
    record {
      members = (subst IsHashed is (hashed_of from.value _ _ refl refl h.0 good.clean), more.members);
      forward = ap (λ r. Some from.value ∷ value_of r ∷ values read shape.next ns) b.0 ∙ ap (λ v. Some v ∷ Some p.0.value ∷ values read shape.next ns) is ∙ ap (λ xs. Some n ∷ xs) more.forward;
      backward = ap (λ r. value_of r ∷ values read shape.pprev ns) b.1 ∙ ap (λ v. Some v ∷ values read shape.pprev ns) back ∙ ap (λ xs. Some from.va ∷ xs) (more.backward ∙ ap (λ a. map Some (pointers shape a ns)) here);
    }

linked_from : (read : Reader) (shape : HShape) (asked : Asked) (from : VWord) (ns : List ℕ) → ReadsThere read → Equations read shape from ns → Linked (hash_chain read shape asked) from ns
unfolding Linked
linked_from read shape asked from [] at e = (let same : from.value ≡ 0 = let f = e.forward in cc in eq-eqb _ _ same, tt)
linked_from read shape asked from (n ∷ ns) at e =
    let one = first_of ns 0 in
    let forward = e.forward in
    let backward = e.backward in
    let is : from.value ≡ n = cc in
    let on : value_of (read (at_offset n shape.next)) ∷ values read shape.next ns ≡ map Some (ns ++ 0 ∷ []) = cc in
    let v = some_word (read (at_offset n shape.next)) one.0 (values read shape.next ns) one.1 (on ∙ one.2) in
    let w = some_word (read (at_offset n shape.pprev)) from.va (values read shape.pprev ns) (map Some (pointers shape (at_offset n shape.next) ns)) backward in
    let p : VWord × VWord = (v.0, w.0) in
    let at_n : hash_links read shape n ≡ Ok p = both_of read (at_offset n shape.next) (at_offset n shape.pprev) v.0 w.0 v.1 w.1 in
    let there : hash_links read shape from.value ≡ Ok p = ap (hash_links read shape) is ∙ at_n in
    let member : IsHashed from.value = subst IsHashed (sym is) e.members.0 in
    let first = or_false (nat_eq from.value 0) (is_poison from.value) member in
    let same : w.0.value ≡ from.va = w.2 in
    let right : points_wrong from p ≡ false = ap not (eq-eqb _ _ same) in
    let here : v.0.va ≡ at_offset n shape.next = at (at_offset n shape.next) v.0 v.1 in
    let more : Equations read shape v.0 ns = record {
      members = e.members.1;
      forward = sym (ap (λ r. value_of r ∷ values read shape.next ns) v.1) ∙ on;
      backward = w.3 ∙ ap (λ a. map Some (pointers shape a ns)) (sym here);
    } in (
      first.0,
      is,
      if_passes (is_poison from.value) (breaks asked K from None) _ (not_true _ first.1)
          (tested_passes asked (Some from) (hash_links read shape from.value) (points_wrong from) (λ q. breaks asked H1 q.1 (Some from.va)) p there right),
      (v.0, leads_by (hash_links read shape from.value) next_of p there, linked_from read shape asked v.0 ns at more),
    )

first_good : (asked : Asked) (there : Result VWord Stopped) (w : VWord) → there ≡ Ok w → IsUnbroken {X = ℕ} (one_taken asked None there)
first_good asked (Ok v) w e = tt
first_good asked (Err s) w e = absurd (cc)

-- the head's word, as it was taken and as it is counted
first_taken : (asked : Asked) (there : Result VWord Stopped) → claimed_in {X = ℕ} (one_taken asked None there) ≡ option_to_list (pa_of there)
first_taken asked (Ok w) = refl
first_taken asked (Err s) = refl

pub hashed_of_whole : (read : Reader) (shape : HShape) (asked : Asked) (ns : List ℕ) → ReadsThere read → Whole (hash_chain read shape asked) (words_of read shape.next shape.pprev) ns → HChain read shape asked.start ns
hashed_of_whole read shape asked ns at whole =
    let first = at_offset asked.start shape.first in
    let h = first_read asked None (read first) whole.head in
    let to : whole.from ≡ h.0 = let same : Some h.0 ≡ Some whole.from = sym (ap readable h.1) ∙ whole.start in cc in
    let q = equations_of read shape asked h.0 ns at (subst (λ (t : VWord). Linked (hash_chain read shape asked) t ns) to whole.linked) in
    record {
      members = q.members;
      forward = ap (λ r. value_of r ∷ values read shape.next ns) h.1 ∙ q.forward;
      backward = q.backward ∙ ap (λ a. map Some (pointers shape a ns)) (at first h.0 h.1);
      different = subst (λ (xs : List ℕ). IsDistinct nat_eq (xs ++ words_of read shape.next shape.pprev ns)) (first_taken asked (read first)) whole.different;
    }

pub whole_of_hashed : (read : Reader) (shape : HShape) (asked : Asked) (ns : List ℕ) → ReadsThere read → HChain read shape asked.start ns → Whole (hash_chain read shape asked) (words_of read shape.next shape.pprev) ns
whole_of_hashed read shape asked ns at h =
    let first = at_offset asked.start shape.first in
    let one = first_of ns 0 in
    let v = some_word (read first) one.0 (values read shape.next ns) one.1 (h.forward ∙ one.2) in
    let equations : Equations read shape v.0 ns = record {
      members = h.members;
      forward = sym (ap (λ t. value_of t ∷ values read shape.next ns) v.1) ∙ h.forward;
      backward = h.backward ∙ ap (λ a. map Some (pointers shape a ns)) (sym (at first v.0 v.1));
    } in
    record {
      from = v.0;
      start = ap readable v.1;
      head = first_good asked (read first) v.0 v.1;
      linked = linked_from read shape asked v.0 ns at equations;
      different = subst (λ (xs : List ℕ). IsDistinct nat_eq (xs ++ words_of read shape.next shape.pprev ns)) (sym (first_taken asked (read first))) h.different;
    }
