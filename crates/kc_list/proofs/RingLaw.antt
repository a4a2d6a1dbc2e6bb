-- A ring is walked whole exactly where a finite list of nodes makes it up.
use Rattle.std.proofs.Common.{◌≡◌, ℕ, nat_eq, Bool, false, List, [], ◌∷◌, ◌++◌, None, Some, refl, sym, ◌∙◌, ap, subst, eq-eqb}
use Rattle.std.specs.Prelude.{Result, Ok, Err, not, ◌||◌, map, reverse}
use Rattle.std.specs.List.{IsDistinct, AllByRecursion}
use Rattle.std.proofs.lemmas.Bool.{eqb-true}
use Rattle.std.proofs.lemmas.List.{reverse-reverse}
use Rattle.kc_memory.specs.declared.words.VWord.{VWord}
use Rattle.kc_memory.specs.declared.rule.Rule.TheVariants.{N, K, L1}
use Rattle.kc_memory.specs.Stopped.{Stopped}
use Rattle.kc_found.specs.declared.asked.Asked.{Asked}
use Rattle.kc_found.specs.declared.shapes.ListShape.{ListShape}
use Rattle.kc_found.specs.FiniteLists.{Ring, IsMember, value_of, values, words_of}
use Rattle.kc_found.specs.Nodes.{at_offset, is_poison, two_taken}
use Rattle.kc_found.specs.Rings.{RingLed, links, is_wrong, led_first, led_on, ring_chain}
use Rattle.kc_found.specs.Trials.{Reader, IsUnbroken}
use Rattle.kc_found.specs.Violations.{breaks}
use Rattle.kc_found.specs.Linked.{Linked, HasWords, Whole}
use Rattle.kc_laws.specs.Lists.{words_at, some_word, first_of, snoc_some, turned, turned_some, not_false, not_true, or_false}
use Rattle.kc_laws.specs.Trials.{if_only, if_none, if_passes}
use Rattle.kc_laws.specs.Pairs.{both_read, both_of, leads_by, tested_passes, pair_takes}
use Rattle.kc_list.proofs.RingSites.{good_node, site_is}

pub ring_words : (read : Reader) (shape : ListShape) (asked : Asked) → HasWords (ring_chain read shape asked) (words_of read shape.next shape.prev)
ring_words read shape asked = record {
  none = refl;
  more = λ s ns u.
      let there = links read shape s.from.value in
      let good = (good_node asked there s.from s.before u).words in
      words_at read shape.next shape.prev s.from.value ns good.pair good.read
      ∙ sym (ap (λ (xs : List ℕ). xs ++ words_of read shape.next shape.prev ns) ((site_is asked there s.from s.before).1 ∙ pair_takes asked (Some s.from) there good.pair good.read));
}

-- the rest of a ring, by its equations
record Equations (read : Reader) (shape : ListShape) (head : ℕ) (s : RingLed) (ns : List ℕ) : Type 0 where
  pub members : AllByRecursion (IsMember head) ns
  pub forward : Some s.from.value ∷ values read shape.next ns ≡ map Some (ns ++ head ∷ [])
  pub backward : values read shape.prev ns ++ Some s.last.value ∷ [] ≡ map Some (s.before ∷ ns)

member_of : (head n : ℕ) (a b c : Bool) → nat_eq n 0 ≡ a → is_poison n ≡ b → nat_eq n head ≡ c → a ≡ false → b ≡ false → c ≡ false → IsMember head n
member_of head n a b c ea eb ec fa fb fc = rw (ea ∙ fa, eb ∙ fb, ec ∙ fc) refl

equations_of : (read : Reader) (shape : ListShape) (asked : Asked) (s : RingLed) (ns : List ℕ) → Linked (ring_chain read shape asked) s ns → Equations read shape asked.start s ns
unfolding Linked
equations_of read shape asked s [] h = record {
  members = tt;
  forward = ap (λ v. Some v ∷ []) (eqb-true _ _ h.0);
  backward = ap (λ v. Some v ∷ []) (eqb-true _ _ (not_false _ (if_only _ _ h.1)));
}
equations_of read shape asked s (n ∷ ns) h =
    let good = good_node asked (links read shape s.from.value) s.from s.before h.2 in
    let p = good.words.pair in
    let is : s.from.value ≡ n = h.1 in
    let there : links read shape n ≡ Ok p = ap (links read shape) (sym is) ∙ good.words.read in
    let b = both_read read (at_offset n shape.next) (at_offset n shape.prev) p there in
    let to : h.3.0 ≡ led_on s p = let same : Some (led_on s p) ≡ Some h.3.0 = sym (leads_by (links read shape s.from.value) (led_on s) p good.words.read) ∙ h.3.1 in cc in
    let rest : Linked (ring_chain read shape asked) (led_on s p) ns = subst (λ (t : RingLed). Linked (ring_chain read shape asked) t ns) to h.3.2 in
    let more = equations_of read shape asked (led_on s p) ns rest in
    let before : p.1.value ≡ s.before = eqb-true _ _ (not_false _ good.words.passed) in
    record {
      members = (subst (IsMember asked.start) is (member_of asked.start s.from.value _ _ _ refl refl refl good.some good.clean h.0), more.members);
      forward = ap (λ r. Some s.from.value ∷ value_of r ∷ values read shape.next ns) b.0 ∙ ap (λ v. Some v ∷ Some p.0.value ∷ values read shape.next ns) is ∙ ap (λ xs. Some n ∷ xs) more.forward;
      backward = ap (λ r. value_of r ∷ (values read shape.prev ns ++ Some s.last.value ∷ [])) b.1
          ∙ ap (λ v. Some v ∷ (values read shape.prev ns ++ Some s.last.value ∷ [])) before
          ∙ ap (λ xs. Some s.before ∷ xs) (more.backward ∙ ap (λ v. map Some (v ∷ ns)) is);
    }

linked_from : (read : Reader) (shape : ListShape) (asked : Asked) (s : RingLed) (ns : List ℕ) → Equations read shape asked.start s ns → Linked (ring_chain read shape asked) s ns
unfolding Linked
linked_from read shape asked s [] e = (
  let same : s.from.value ≡ asked.start = let f = e.forward in cc in eq-eqb _ _ same,
  let same : s.last.value ≡ s.before = let f = e.backward in cc in if_none (not (nat_eq s.last.value s.before)) (breaks asked L1 s.last (Some s.before)) (ap not (eq-eqb _ _ same)),
)
linked_from read shape asked s (n ∷ ns) e =
    let one = first_of ns asked.start in
    let forward = e.forward in
    let backward = e.backward in
    let is : s.from.value ≡ n = cc in
    let on : value_of (read (at_offset n shape.next)) ∷ values read shape.next ns ≡ map Some (ns ++ asked.start ∷ []) = cc in
    let v = some_word (read (at_offset n shape.next)) one.0 (values read shape.next ns) one.1 (on ∙ one.2) in
    let w = some_word (read (at_offset n shape.prev)) s.before (values read shape.prev ns ++ Some s.last.value ∷ []) (map Some (n ∷ ns)) backward in
    let p : VWord × VWord = (v.0, w.0) in
    let at_n : links read shape n ≡ Ok p = both_of read (at_offset n shape.next) (at_offset n shape.prev) v.0 w.0 v.1 w.1 in
    let there : links read shape s.from.value ≡ Ok p = ap (links read shape) is ∙ at_n in
    let member : IsMember asked.start s.from.value = subst (IsMember asked.start) (sym is) e.members.0 in
    let first = or_false (nat_eq s.from.value 0) (is_poison s.from.value || nat_eq s.from.value asked.start) member in
    let second = or_false (is_poison s.from.value) (nat_eq s.from.value asked.start) first.1 in
    let same : w.0.value ≡ s.before = w.2 in
    let right : is_wrong s.before p ≡ false = ap not (eq-eqb _ _ same) in
    let more : Equations read shape asked.start (led_on s p) ns = record {
      members = e.members.1;
      forward = sym (ap (λ r. value_of r ∷ values read shape.next ns) v.1) ∙ on;
      backward = w.3 ∙ ap (λ m. map Some (m ∷ ns)) (sym is);
    } in (
      not_true _ second.1,
      is,
      if_passes (nat_eq s.from.value 0) (breaks asked N s.from None) _ first.0
          (if_passes (is_poison s.from.value) (breaks asked K s.from None) _ second.0
          (tested_passes asked (Some s.from) (links read shape s.from.value) (is_wrong s.before) (λ q. breaks asked L1 q.1 (Some s.before)) p there right)),
      (led_on s p, leads_by (links read shape s.from.value) (led_on s) p there, linked_from read shape asked (led_on s p) ns more),
    )

-- the head's words
head_read : (asked : Asked) (there : Result (VWord × VWord) Stopped) → IsUnbroken {X = ℕ} (two_taken asked None there) → (p : VWord × VWord) × (there ≡ Ok p)
head_read asked (Ok p) u = (p, refl)
head_read asked (Err s) u = absurd u

head_good : (asked : Asked) (there : Result (VWord × VWord) Stopped) (p : VWord × VWord) → there ≡ Ok p → IsUnbroken {X = ℕ} (two_taken asked None there)
head_good asked (Ok q) p e = tt
head_good asked (Err s) p e = absurd (cc)

pub ring_of_whole : (read : Reader) (shape : ListShape) (asked : Asked) (ns : List ℕ) → Whole (ring_chain read shape asked) (words_of read shape.next shape.prev) ns → Ring read shape asked.start ns
ring_of_whole read shape asked ns whole =
    let head = asked.start in
    let h = head_read asked (links read shape head) whole.head in
    let p = h.0 in
    let to : whole.from ≡ led_first head p = let same : Some (led_first head p) ≡ Some whole.from = sym (leads_by (links read shape head) (led_first head) p h.1) ∙ whole.start in cc in
    let q = equations_of read shape asked (led_first head p) ns (subst (λ (t : RingLed). Linked (ring_chain read shape asked) t ns) to whole.linked) in
    let b = both_read read (at_offset head shape.next) (at_offset head shape.prev) p h.1 in
    record {
      members = q.members;
      forward = ap (λ r. value_of r ∷ values read shape.next ns) b.0 ∙ q.forward;
      backward = turned read shape.prev head ns ∙ ap reverse (ap (λ r. values read shape.prev ns ++ value_of r ∷ []) b.1 ∙ q.backward) ∙ sym (turned_some head ns);
      different = rw (words_at read shape.next shape.prev head ns p h.1) (subst (λ (xs : List ℕ). IsDistinct nat_eq (xs ++ words_of read shape.next shape.prev ns)) (pair_takes asked None (links read shape head) p h.1) whole.different);
    }

pub whole_of_ring : (read : Reader) (shape : ListShape) (asked : Asked) (ns : List ℕ) → Ring read shape asked.start ns → Whole (ring_chain read shape asked) (words_of read shape.next shape.prev) ns
whole_of_ring read shape asked ns r =
    let head = asked.start in
    let one = first_of ns head in
    let v = some_word (read (at_offset head shape.next)) one.0 (values read shape.next ns) one.1 (r.forward ∙ one.2) in
    let back : values read shape.prev ns ++ value_of (read (at_offset head shape.prev)) ∷ [] ≡ map Some (head ∷ ns) =
    sym (reverse-reverse _) ∙ ap reverse (sym (turned read shape.prev head ns) ∙ r.backward ∙ turned_some head ns) ∙ reverse-reverse _ in
    let o = snoc_some (read (at_offset head shape.prev)) (values read shape.prev ns) (head ∷ ns) back in
    let p : VWord × VWord = (v.0, o.0) in
    let there : links read shape head ≡ Ok p = both_of read (at_offset head shape.next) (at_offset head shape.prev) v.0 o.0 v.1 o.1 in
    let equations : Equations read shape head (led_first head p) ns = record {
      members = r.members;
      forward = sym (ap (λ t. value_of t ∷ values read shape.next ns) v.1) ∙ r.forward;
      backward = sym (ap (λ t. values read shape.prev ns ++ value_of t ∷ []) o.1) ∙ back;
    } in
    record {
      from = led_first head p;
      start = leads_by (links read shape head) (led_first head) p there;
      head = head_good asked (links read shape head) p there;
      linked = linked_from read shape asked (led_first head p) ns equations;
      different = rw (pair_takes asked None (links read shape head) p there) (subst (IsDistinct nat_eq) (words_at read shape.next shape.prev head ns p there) r.different);
    }
