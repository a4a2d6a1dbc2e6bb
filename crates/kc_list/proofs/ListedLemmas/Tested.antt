-- A finite list of nodes passes the test of a ring, or of a hash chain, exactly where it is one.
use Rattle.std.proofs.Common.{◌≡◌, ℕ, ◌+◌, ◌<◌, ◌≤◌, get_or, nat_eq, Bool, true, false, ◌&&◌, ◌||◌, List, [], ◌∷◌, ◌++◌, Option, None, Some, refl, sym, ◌∙◌, ap, subst, eq-eqb, append_assoc, append-nil}
use Rattle.std.specs.Prelude.{Result, Ok, Err, not, is_some, map, reverse, option_to_list, if◌then◌else◌}
use Rattle.std.specs.List.{IsDistinct, AllByRecursion}
use Rattle.std.proofs.lemmas.Bool.{and_parts, eqb-true}
use Rattle.std.proofs.lemmas.List.{reverse-reverse}
use Rattle.kc_memory.specs.declared.words.VWord.{VWord}
use Rattle.kc_memory.specs.Stopped.{Stopped}
use Rattle.kc_memory.specs.Translation.{vword}
use Rattle.kc_found.specs.declared.shapes.ListShape.{ListShape}
use Rattle.kc_found.specs.declared.shapes.HShape.{HShape}
use Rattle.kc_found.specs.FiniteLists.{Ring, HChain, IsMember, IsHashed, pa_at, pa_of, pointers, value_of, values, words_of}
use Rattle.kc_found.specs.Nodes.{at_offset, is_poison}
use Rattle.kc_found.specs.Taken.{is_taken, with_word}
use Rattle.kc_found.specs.Trials.{Reader}
use Rattle.kc_laws.specs.Lists.{not_true, turned, turned_some}
use Rattle.kc_list.specs.declared.listed.Linking.{Linking}
use Rattle.kc_list.specs.ListedLaws.{HashChainsAreTested, RingsAreTested}
use Rattle.kc_list.specs.Listed.{Want, all_met, are_nodes, hash_linking, hash_wants, is_hash_chain, is_node, is_ring, last_or, led_back, met_by, node_wants, ring_linking, ring_wants, then_on}
use Rattle.kc_laws.specs.Claiming.{Takes, distinct_takes, takes_distinct, takes_first, takes_more}

-- the physical addresses of words, where they can be read
abbrev wanted_pas : Reader → List Want → List ℕ
wanted_pas read [] = []
wanted_pas read (x ∷ xs) = option_to_list (pa_of (read x.at)) ++ wanted_pas read xs

abbrev AllHold : Reader → List Want → Type 0
AllHold read [] = Unit {0}
AllHold read (x ∷ xs) = (value_of (read x.at) ≡ Some x.value) × AllHold read xs

-- words that are met hold their numbers, and are different
record Met (read : Reader) (taken : List ℕ) (xs : List Want) (out : List ℕ) : Type 0 where
  hold : AllHold read xs
  takes : Takes taken (wanted_pas read xs)

met_is : (read : Reader) (taken : List ℕ) (xs : List Want) (out : List ℕ) → all_met read taken xs ≡ Some out → Met read taken xs out
met_is read taken [] out e = record { hold = tt; takes = (taken, refl) }
met_is read taken (x ∷ xs) out e = by_word (read x.at) refl (λ t f. met_is read t xs out f) e
  where
    by_test : (w : VWord) (b : Bool) → read x.at ≡ Ok w → (nat_eq w.value x.value && not (is_taken taken w.pa)) ≡ b → (all_met read (with_word taken w.pa) xs ≡ Some out → Met read (with_word taken w.pa) xs out) →
        then_on (if b then Some (with_word taken w.pa) else None) (λ more. all_met read more xs) ≡ Some out → Met read taken (x ∷ xs) out
    by_test w false is test rest e = let none : ⊥ = cc in absurd none
    by_test w true is test rest e =
        let parts = and_parts (nat_eq w.value x.value) (not (is_taken taken w.pa)) test in
        let m = rest e in
        record {
          hold = (ap value_of is ∙ ap Some (eqb-true w.value x.value parts.0), m.hold);
          takes = subst (λ r. Takes taken (option_to_list (pa_of r) ++ wanted_pas read xs)) (sym is) (takes_more taken (wanted_pas read xs) w.pa (not_true _ parts.1) m.takes);
        }

    by_word : (r : Result VWord Stopped) → read x.at ≡ r → ((t : List ℕ) → all_met read t xs ≡ Some out → Met read t xs out) → then_on (met_by taken x.value r) (λ more. all_met read more xs) ≡ Some out → Met read taken (x ∷ xs) out
    by_word (Err s) is more e = let none : ⊥ = cc in absurd none
    by_word (Ok w) is more e = by_test w (nat_eq w.value x.value && not (is_taken taken w.pa)) is refl (λ f. more (with_word taken w.pa) f) e

-- and words that do are met
met_of : (read : Reader) (taken : List ℕ) (xs : List Want) → AllHold read xs → Takes taken (wanted_pas read xs) → (out : List ℕ) × (all_met read taken xs ≡ Some out)
met_of read taken [] h d = (taken, refl)
met_of read taken (x ∷ xs) h d = by_word (read x.at) refl (λ t e. met_of read t xs h.1 e) h.0
  where
    by_word : (r : Result VWord Stopped) → read x.at ≡ r → ((t : List ℕ) → Takes t (wanted_pas read xs) → (out : List ℕ) × (all_met read t xs ≡ Some out)) → value_of (read x.at) ≡ Some x.value → (out : List ℕ) × (all_met read taken (x ∷ xs) ≡ Some out)
    by_word (Err s) is more v = let none : ⊥ = let w : value_of (read x.at) ≡ None = ap value_of is in cc in absurd none
    by_word (Ok w) is more v =
        let value : w.value ≡ x.value = let seen : value_of (read x.at) ≡ Some w.value = ap value_of is in cc in
        let first = takes_first taken (wanted_pas read xs) w.pa (subst (λ r. Takes taken (option_to_list (pa_of r) ++ wanted_pas read xs)) is d) in
        let test : (nat_eq w.value x.value && not (is_taken taken w.pa)) ≡ true = rw (eq-eqb w.value x.value value, first.0) refl in
        let rest = more (with_word taken w.pa) first.1 in (
          rest.0,
          ap (λ r. then_on (met_by taken x.value r) (λ more. all_met read more xs)) is
              ∙ ap (λ b. then_on (if b then Some (with_word taken w.pa) else None) (λ more. all_met read more xs)) test ∙ rest.1,
        )

-- the words of nodes
nodes_pas : (read : Reader) (l : Linking) (before : ℕ) (ns : List ℕ) → wanted_pas read (node_wants l before ns) ≡ words_of read l.next l.back ns
nodes_pas read l before [] = refl
nodes_pas read l before (n ∷ ns) = ap (λ xs. pa_at read n l.next ++ (pa_at read n l.back ++ xs)) (nodes_pas read l (led_back l.from n) ns)

forward_of : (read : Reader) (l : Linking) (before : ℕ) (ns : List ℕ) → AllHold read (node_wants l before ns) → Some (get_or ns 0 l.end) ∷ values read l.next ns ≡ map Some (ns ++ l.end ∷ [])
forward_of read l before [] h = refl
forward_of read l before (n ∷ ns) h = ap (λ v. Some n ∷ v ∷ values read l.next ns) h.0 ∙ ap (λ xs. Some n ∷ xs) (forward_of read l (led_back l.from n) ns h.1.1)

-- what the words that lead back have
backs : Option ℕ → ℕ → List ℕ → List ℕ
backs from before [] = []
backs from before (n ∷ ns) = before ∷ backs from (led_back from n) ns

backward_of : (read : Reader) (l : Linking) (before : ℕ) (ns : List ℕ) → AllHold read (node_wants l before ns) → values read l.back ns ≡ map Some (backs l.from before ns)
unfolding backs
backward_of read l before [] h = refl
backward_of read l before (n ∷ ns) h = ap (λ v. v ∷ values read l.back ns) h.1.0 ∙ ap (λ xs. Some before ∷ xs) (backward_of read l (led_back l.from n) ns h.1.1)

first_is : (ns : List ℕ) (e : ℕ) → (ys : List (Option ℕ)) × (map Some (ns ++ e ∷ []) ≡ Some (get_or ns 0 e) ∷ ys)
first_is [] e = ([], refl)
first_is (n ∷ ns) e = (map Some (ns ++ e ∷ []), refl)

hold_of : (read : Reader) (l : Linking) (before : ℕ) (ns : List ℕ) → Some (get_or ns 0 l.end) ∷ values read l.next ns ≡ map Some (ns ++ l.end ∷ []) → values read l.back ns ≡ map Some (backs l.from before ns) → AllHold read (node_wants l before ns)
unfolding backs
hold_of read l before [] f b = tt
hold_of read l before (n ∷ ns) f b =
    let one = first_is ns l.end in
    let on : value_of (read (at_offset n l.next)) ∷ values read l.next ns ≡ map Some (ns ++ l.end ∷ []) = cc in
    let whole : value_of (read (at_offset n l.next)) ∷ values read l.next ns ≡ Some (get_or ns 0 l.end) ∷ one.0 = on ∙ one.1 in
    let next : value_of (read (at_offset n l.next)) ≡ Some (get_or ns 0 l.end) = cc in
    let back : value_of (read (at_offset n l.back)) ≡ Some before = cc in
    let rest : values read l.back ns ≡ map Some (backs l.from (led_back l.from n) ns) = cc in
    (next, (back, hold_of read l (led_back l.from n) ns (ap (λ v. v ∷ values read l.next ns) (sym next) ∙ on) rest))

-- the nodes of a ring, back to its head
ring_back : (ns : List ℕ) (before : ℕ) → map Some (backs None before ns) ++ Some (last_or before ns) ∷ [] ≡ map Some (before ∷ ns)
unfolding backs
ring_back [] before = refl
ring_back (n ∷ ns) before = ap (λ xs. Some before ∷ xs) (ring_back ns n)

ring_backs : (read : Reader) (prev before : ℕ) (ns : List ℕ) (v : Option ℕ) → values read prev ns ++ v ∷ [] ≡ map Some (before ∷ ns) → (v ≡ Some (last_or before ns)) × (values read prev ns ≡ map Some (backs None before ns))
unfolding backs
ring_backs read prev before [] v e = (cc, refl)
ring_backs read prev before (n ∷ ns) v e =
    let here : value_of (read (at_offset n prev)) ≡ Some before = cc in
    let rest : values read prev ns ++ v ∷ [] ≡ map Some (n ∷ ns) = cc in
    let more = ring_backs read prev n ns v rest in
    (more.0, ap (λ x. x ∷ values read prev ns) here ∙ ap (λ xs. Some before ∷ xs) more.1)

-- the tests of the nodes
members_of : (head : ℕ) (ns : List ℕ) → are_nodes head ns ≡ true → AllByRecursion (IsMember head) ns
members_of head [] are = tt
members_of head (n ∷ ns) are = let parts = and_parts (is_node head n) (are_nodes head ns) are in (parts.0, members_of head ns parts.1)

nodes_of : (head : ℕ) (ns : List ℕ) → AllByRecursion (IsMember head) ns → are_nodes head ns ≡ true
nodes_of head [] are = refl
nodes_of head (n ∷ ns) are = rw (are.0, nodes_of head ns are.1) refl

some_of : {A : Type 0} (o : Option A) → is_some o ≡ true → (a : A) × (o ≡ Some a)
some_of None e = let none : ⊥ = cc in absurd none
some_of (Some a) e = (a, refl)

ring_sound : (read : Reader) (shape : ListShape) (head : ℕ) (ns : List ℕ) → is_ring read shape head ns ≡ true → Ring read shape head ns
unfolding is_ring
ring_sound read shape head ns is =
    let parts = and_parts (are_nodes head ns) (is_some (all_met read [] (ring_wants shape head ns))) is in
    let some = some_of (all_met read [] (ring_wants shape head ns)) parts.1 in
    let m = met_is read [] (ring_wants shape head ns) some.0 some.1 in
    let l = ring_linking shape head in
    let forward = forward_of read l head ns m.hold.1.1 in
    let backward = backward_of read l head ns m.hold.1.1 in
    let back : values read shape.prev ns ++ value_of (read (at_offset head shape.prev)) ∷ [] ≡ map Some (head ∷ ns) =
    ap (λ v. values read shape.prev ns ++ v ∷ []) m.hold.1.0 ∙ ap (λ xs. xs ++ Some (last_or head ns) ∷ []) backward ∙ ring_back ns head in
    let words : wanted_pas read (ring_wants shape head ns) ≡ words_of read shape.next shape.prev (head ∷ ns) = ap (λ xs. pa_at read head shape.next ++ (pa_at read head shape.prev ++ xs)) (nodes_pas read l head ns) in
    record {
      members = members_of head ns parts.0;
      forward = ap (λ v. v ∷ values read shape.next ns) m.hold.0 ∙ forward;
      backward = turned read shape.prev head ns ∙ ap reverse back ∙ sym (turned_some head ns);
      different = takes_distinct _ (subst (Takes []) words m.takes);
    }

ring_complete : (read : Reader) (shape : ListShape) (head : ℕ) (ns : List ℕ) → Ring read shape head ns → is_ring read shape head ns ≡ true
unfolding is_ring
ring_complete read shape head ns r =
    let one = first_is ns head in
    let l = ring_linking shape head in
    let forward = r.forward in
    let whole : value_of (read (at_offset head shape.next)) ∷ values read shape.next ns ≡ Some (get_or ns 0 head) ∷ one.0 = r.forward ∙ one.1 in
    let next : value_of (read (at_offset head shape.next)) ≡ Some (get_or ns 0 head) = cc in
    let back : values read shape.prev ns ++ value_of (read (at_offset head shape.prev)) ∷ [] ≡ map Some (head ∷ ns) =
    sym (reverse-reverse _) ∙ ap reverse (sym (turned read shape.prev head ns) ∙ r.backward ∙ turned_some head ns) ∙ reverse-reverse _ in
    let b = ring_backs read shape.prev head ns (value_of (read (at_offset head shape.prev))) back in
    let hold : AllHold read (ring_wants shape head ns) = (next, (b.0, hold_of read l head ns (ap (λ v. v ∷ values read shape.next ns) (sym next) ∙ forward) b.1)) in
    let words : words_of read shape.next shape.prev (head ∷ ns) ≡ wanted_pas read (ring_wants shape head ns) = sym (ap (λ xs. pa_at read head shape.next ++ (pa_at read head shape.prev ++ xs)) (nodes_pas read l head ns)) in
    let met = met_of read [] (ring_wants shape head ns) hold (distinct_takes _ (subst (IsDistinct nat_eq) words r.different)) in
    rw (nodes_of head ns r.members) (ap is_some met.1)

-- and those of a hash chain
hashed_test : (a b : Bool) → not (a || (b || a)) ≡ not (a || b)
hashed_test true b = refl
hashed_test false true = refl
hashed_test false false = refl

hashed : (n : ℕ) → is_node 0 n ≡ true → IsHashed n
hashed n is = sym (hashed_test (nat_eq n 0) (is_poison n)) ∙ is

unhashed : (n : ℕ) → IsHashed n → is_node 0 n ≡ true
unhashed n is = hashed_test (nat_eq n 0) (is_poison n) ∙ is

hashed_of : (ns : List ℕ) → are_nodes 0 ns ≡ true → AllByRecursion IsHashed ns
hashed_of [] are = tt
hashed_of (n ∷ ns) are = let parts = and_parts (is_node 0 n) (are_nodes 0 ns) are in (hashed n parts.0, hashed_of ns parts.1)

of_hashed : (ns : List ℕ) → AllByRecursion IsHashed ns → are_nodes 0 ns ≡ true
of_hashed [] are = refl
of_hashed (n ∷ ns) are = rw (unhashed n are.0, of_hashed ns are.1) refl

backs_are : (shape : HShape) (first : ℕ) (ns : List ℕ) → backs (Some shape.next) first ns ≡ pointers shape first ns
unfolding backs
backs_are shape first [] = refl
backs_are shape first (n ∷ ns) = ap (λ xs. first ∷ xs) (backs_are shape (at_offset n shape.next) ns)

chain_sound : (read : Reader) (shape : HShape) (head : ℕ) (ns : List ℕ) → is_hash_chain read shape head ns ≡ true → HChain read shape head ns
unfolding is_hash_chain
chain_sound read shape head ns is =
    let parts = and_parts (are_nodes 0 ns) (is_some (all_met read [] (hash_wants shape head ns))) is in
    let some = some_of (all_met read [] (hash_wants shape head ns)) parts.1 in
    let m = met_is read [] (hash_wants shape head ns) some.0 some.1 in
    let l = hash_linking shape in
    let first = at_offset head shape.first in
    let words : wanted_pas read (hash_wants shape head ns) ≡ pa_at read head shape.first ++ words_of read shape.next shape.pprev ns = ap (λ xs. pa_at read head shape.first ++ xs) (nodes_pas read l first ns) in
    record {
      members = hashed_of ns parts.0;
      forward = ap (λ v. v ∷ values read shape.next ns) m.hold.0 ∙ forward_of read l first ns m.hold.1;
      backward = backward_of read l first ns m.hold.1 ∙ ap (map Some) (backs_are shape first ns);
      different = takes_distinct _ (subst (Takes []) words m.takes);
    }

chain_complete : (read : Reader) (shape : HShape) (head : ℕ) (ns : List ℕ) → HChain read shape head ns → is_hash_chain read shape head ns ≡ true
unfolding is_hash_chain
chain_complete read shape head ns h =
    let one = first_is ns 0 in
    let l = hash_linking shape in
    let first = at_offset head shape.first in
    let whole : value_of (read first) ∷ values read shape.next ns ≡ Some (get_or ns 0 0) ∷ one.0 = h.forward ∙ one.1 in
    let next : value_of (read first) ≡ Some (get_or ns 0 0) = cc in
    let hold : AllHold read (hash_wants shape head ns) =
    (next, hold_of read l first ns (ap (λ v. v ∷ values read shape.next ns) (sym next) ∙ h.forward) (h.backward ∙ ap (map Some) (sym (backs_are shape first ns)))) in
    let words : pa_at read head shape.first ++ words_of read shape.next shape.pprev ns ≡ wanted_pas read (hash_wants shape head ns) = sym (ap (λ xs. pa_at read head shape.first ++ xs) (nodes_pas read l first ns)) in
    let met = met_of read [] (hash_wants shape head ns) hold (distinct_takes _ (subst (IsDistinct nat_eq) words h.different)) in
    rw (of_hashed ns h.members) (ap is_some met.1)

pub rings_tested : RingsAreTested
rings_tested = λ image shape head ns. (ring_complete (vword image) shape head ns, ring_sound (vword image) shape head ns)

pub chains_tested : HashChainsAreTested
chains_tested = λ image shape head ns. (chain_complete (vword image) shape head ns, chain_sound (vword image) shape head ns)
