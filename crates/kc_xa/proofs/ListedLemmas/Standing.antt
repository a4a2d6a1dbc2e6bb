-- Finite trees that stand at positions, and the slots of a node among them.
use Rattle.std.proofs.Common.{◌≡◌, ℕ, ◌+◌, ◌-◌, ◌^◌, ◌<◌, nat_lt, Bool, true, false, List, [], ◌∷◌, ◌++◌, Some, None, refl, sym, ◌∙◌, ap, subst, append_assoc}
use Rattle.std.specs.Prelude.{Ok, ⊤, if◌then◌else◌}
use Rattle.std.specs.Option.{unwrap_or}
use Rattle.std.proofs.lemmas.Bool.{lt-ltb}
use Rattle.kc_memory.specs.declared.words.VWord.{VWord}
use Rattle.kc_found.specs.declared.xarrays.XaEntry.{XaEntry}
use Rattle.kc_found.specs.declared.xarrays.XaEntry.TheVariants.{Node}
use Rattle.kc_found.specs.declared.xarrays.XaNode.{XaNode}
use Rattle.kc_found.specs.FiniteXarrays.{Bare, Down, End, IsLeaf, IsTree, Leaf, MayStand, NodeHolds, Root, Top, Tree, own, top_words, tree_words}
use Rattle.kc_found.specs.XaEntries.{fit, kind}
use Rattle.kc_found.specs.XaNodes.{XaCourse, xa_words}
use Rattle.kc_found.specs.XaSites.{index_of, xa_node}
use Rattle.kc_xa.specs.Nodes.{EntriesAreGood}
use Rattle.kc_xa.specs.declared.listed.spots.XaSpot.{XaSpot}
use Rattle.kc_xa.specs.Listed.Entries.{entries, slot_spots, top_entries}

-- what hangs at a position
abbrev pub StandsAt : XaCourse → XaSpot → Top → Type 0
StandsAt c s Bare = (s.fault ≡ None) × IsLeaf (kind c.shape.chunk s.word.value)
StandsAt c s (Root n t) =
    (s.fault ≡ None) × (kind c.shape.chunk s.word.value ≡ Node) × (xa_words c.read c.shape (s.word.value - 2) ≡ Ok n) × NodeHolds c.shape c.asked.start s.holder (s.word.value - 2) n
    × IsTree c (xa_node c.shape s.word s.index n) 0 n.slots t

-- and at positions one after another
abbrev pub Stand : XaCourse → List XaSpot → List Top → Type 0
Stand c [] [] = ⊤
Stand c [] (t ∷ ts) = ⊥
Stand c (s ∷ ss) [] = ⊥
Stand c (s ∷ ss) (t ∷ ts) = StandsAt c s t × Stand c ss ts

abbrev pub numbers : List XaSpot → List Top → List ℕ
numbers [] ts = []
numbers (s ∷ ss) [] = []
numbers (s ∷ ss) (t ∷ ts) = top_entries s.word t ++ numbers ss ts

abbrev pub all_words : List Top → List ℕ
all_words [] = []
all_words (t ∷ ts) = top_words t ++ all_words ts

-- the slots of a node as one tree, and as what hangs in each of them
abbrev pub tops_of : Tree → List Top
tops_of End = []
tops_of (Leaf t) = Bare ∷ tops_of t
tops_of (Down n b t) = Root n b ∷ tops_of t

fits_at : (b : Bool) (n : ℕ) → b ≡ true → unwrap_or (if b then Some n else None) 0 ≡ n
fits_at true n e = refl
fits_at false n e = absurd (cc)

pub fits : (n : ℕ) → n < 2 ^ 64 → unwrap_or (fit n) 0 ≡ n
fits n lt = fits_at (nat_lt n (2 ^ 64)) n (lt-ltb n (2 ^ 64) lt)

-- the index of a slot with a node
pub index_is : (chunk : ℕ) (o : XaNode) (i : ℕ) (k : XaEntry) → k ≡ Node → MayStand chunk o i k → unwrap_or (fit (index_of o i)) 0 ≡ index_of o i
index_is chunk o i k e h = fits (index_of o i) (subst (MayStand chunk o i) e h).0

regroup : (p b t r : List ℕ) → (p ++ b) ++ (t ++ r) ≡ (p ++ (b ++ t)) ++ r
regroup p b t r = append_assoc p b (t ++ r) ∙ ap (λ xs. p ++ xs) (sym (append_assoc b t r)) ∙ sym (append_assoc p (b ++ t) r)

-- what stands at the slots of a node is a tree, and the rest stands at the positions after them
pub record Slots (c : XaCourse) (o : XaNode) (i : ℕ) (ws : List VWord) (ss : List XaSpot) (ts : List Top) : Type 0 where
  pub tree : Tree
  pub rest : List Top
  pub is : IsTree c o i ws tree
  pub stand : Stand c ss rest
  pub listed : numbers (slot_spots c.shape.chunk o i ws ++ ss) ts ≡ entries ws tree ++ numbers ss rest
  pub words : all_words ts ≡ tree_words tree ++ all_words rest

pub slots_are : EntriesAreGood → (c : XaCourse) (o : XaNode) (i : ℕ) (ws : List VWord) (ss : List XaSpot) (ts : List Top) → Stand c (slot_spots c.shape.chunk o i ws ++ ss) ts → Slots c o i ws ss ts
slots_are law c o i [] ss ts st = record { tree = End; rest = ts; is = tt; stand = st; listed = refl; words = refl }
slots_are law c o i (w ∷ ws) ss [] st = absurd st
slots_are law c o i (w ∷ ws) ss (Bare ∷ ts) st =
    let q = slots_are law c o (i + 1) ws ss ts st.1 in
    record {
      tree = Leaf q.tree;
      rest = q.rest;
      is = (st.0.1, (law c.shape.chunk o i (kind c.shape.chunk w.value)).0 st.0.0, q.is);
      stand = q.stand;
      listed = ap (λ xs. w.value ∷ xs) q.listed;
      words = q.words;
    }
slots_are law c o i (w ∷ ws) ss (Root n b ∷ ts) st =
    let q = slots_are law c o (i + 1) ws ss ts st.1 in
    let may : MayStand c.shape.chunk o i (kind c.shape.chunk w.value) = (law c.shape.chunk o i (kind c.shape.chunk w.value)).0 st.0.0 in
    let same : unwrap_or (fit (index_of o i)) 0 ≡ index_of o i = index_is c.shape.chunk o i (kind c.shape.chunk w.value) st.0.1 may in
    record {
      tree = Down n b q.tree;
      rest = q.rest;
      is = (st.0.1, may, st.0.2, st.0.3, subst (λ index. IsTree c (xa_node c.shape w index n) 0 n.slots b) same st.0.4, q.is);
      stand = q.stand;
      listed = ap (λ xs. w.value ∷ (entries n.slots b ++ xs)) q.listed ∙ ap (λ xs. w.value ∷ xs) (sym (append_assoc (entries n.slots b) (entries ws q.tree) (numbers ss q.rest)));
      words = ap (λ xs. (own n ++ tree_words b) ++ xs) q.words ∙ regroup (own n) (tree_words b) (tree_words q.tree) (all_words q.rest);
    }

-- a tree stands at the slots of its node
pub slots_stand : EntriesAreGood → (c : XaCourse) (o : XaNode) (i : ℕ) (ws : List VWord) (t : Tree) (ss : List XaSpot) (ts : List Top) → IsTree c o i ws t → Stand c ss ts →
    Stand c (slot_spots c.shape.chunk o i ws ++ ss) (tops_of t ++ ts)
slots_stand law c o i [] End ss ts is st = st
slots_stand law c o i (w ∷ ws) End ss ts is st = absurd is
slots_stand law c o i [] (Leaf t) ss ts is st = absurd is
slots_stand law c o i (w ∷ ws) (Leaf t) ss ts is st = (((law c.shape.chunk o i (kind c.shape.chunk w.value)).1 is.1, is.0), slots_stand law c o (i + 1) ws t ss ts is.2 st)
slots_stand law c o i [] (Down n b t) ss ts is st = absurd is
slots_stand law c o i (w ∷ ws) (Down n b t) ss ts is st =
    let same : unwrap_or (fit (index_of o i)) 0 ≡ index_of o i = index_is c.shape.chunk o i (kind c.shape.chunk w.value) is.0 is.1 in
    (((law c.shape.chunk o i (kind c.shape.chunk w.value)).1 is.1, is.0, is.2, is.3, subst (λ index. IsTree c (xa_node c.shape w index n) 0 n.slots b) (sym same) is.4), slots_stand law c o (i + 1) ws t ss ts is.5 st)

pub slots_listed : (c : XaCourse) (o : XaNode) (i : ℕ) (ws : List VWord) (t : Tree) (ss : List XaSpot) (ts : List Top) → IsTree c o i ws t →
    numbers (slot_spots c.shape.chunk o i ws ++ ss) (tops_of t ++ ts) ≡ entries ws t ++ numbers ss ts
slots_listed c o i [] End ss ts is = refl
slots_listed c o i (w ∷ ws) End ss ts is = absurd is
slots_listed c o i [] (Leaf t) ss ts is = absurd is
slots_listed c o i (w ∷ ws) (Leaf t) ss ts is = ap (λ xs. w.value ∷ xs) (slots_listed c o (i + 1) ws t ss ts is.2)
slots_listed c o i [] (Down n b t) ss ts is = absurd is
slots_listed c o i (w ∷ ws) (Down n b t) ss ts is =
    ap (λ xs. w.value ∷ (entries n.slots b ++ xs)) (slots_listed c o (i + 1) ws t ss ts is.5) ∙ ap (λ xs. w.value ∷ xs) (sym (append_assoc (entries n.slots b) (entries ws t) (numbers ss ts)))

pub slots_words : (t : Tree) (ts : List Top) → all_words (tops_of t ++ ts) ≡ tree_words t ++ all_words ts
slots_words End ts = refl
slots_words (Leaf t) ts = slots_words t ts
slots_words (Down n b t) ts = ap (λ xs. (own n ++ tree_words b) ++ xs) (slots_words t ts) ∙ regroup (own n) (tree_words b) (tree_words t) (all_words ts)
