-- A step of each loop.
use Rattle.std.proofs.Common.{◌≡◌, ℕ, zero, suc, ◌+◌, ◌-◌, ◌<◌, ◌≤◌, false, true, nat_eq, bytes_eq, if◌then◌else◌, List, [], ◌∷◌, ◌++◌, length, drop, get_or, Result, Ok, Err, refl, sym, ap, ◌∙◌, arith}
use Rattle.std.proofs.lemmas.Bool.Decides.{nat_tests}
use Rattle.std.proofs.lemmas.List.{drop_all}
use Rattle.std.proofs.Math.Seq.{drop-cons}
use Rattle.kc_bytes.specs.Bytes.{onward}
use Rattle.kc_memory.specs.Image.{Image}
use Rattle.kc_kallsyms.specs.declared.fault.TableFault.TheVariants.{S15, S16}
use Rattle.kc_kallsyms.specs.Bytes.{eight_at, four_at}
use Rattle.kc_kallsyms.specs.Reading.{Bad, Why}
use Rattle.kc_modules.specs.declared.shape.ModuleFields.{ModuleFields}
use Rattle.kc_modules.specs.declared.shape.TypedShape.{TypedShape}
use Rattle.kc_modules.specs.Lines.{Entry, entry_at, line, lines_at, sizes_from}
use Rattle.kc_modules.specs.Lists.{nodes_from}
use Rattle.kc_modules.specs.Typed.{data_at, named_at, types_of}
use Rattle.kc_modules.proofs.Following.{all_before, prefixed, some_before}

-- nodes
node_next : (image : Image) (head room at next : ℕ) → (at ≡ head → ⊥) → eight_at image at ≡ Ok next
    → nodes_from image head (suc room) at ≡ prefixed (at ∷ []) (nodes_from image head room next)
unfolding nodes_from
node_next image head room at next other read =
    let b : nat_eq at head ≡ false = grind (arith, nat_tests) in
    rw (b, read) refl

pub nodes_more : (image : Image) (head most i at next : ℕ) (done more : List ℕ) → i < most → (at ≡ head → ⊥) → more ≡ done ++ at ∷ [] → eight_at image at ≡ Ok next
    → prefixed done (nodes_from image head (most - i) at) ≡ prefixed more (nodes_from image head (most - (i + 1)) next)
nodes_more image head most i at next done more lt other is read =
    let e : most - i ≡ suc (most - (i + 1)) = omega arith in
    ap (λ n. prefixed done (nodes_from image head n at)) e
    ∙ ap (λ (r : Result (List ℕ) Why). prefixed done r) (node_next image head (most - (i + 1)) at next other read)
    ∙ some_before done (at ∷ []) more (nodes_from image head (most - (i + 1)) next) is

node_stop : (image : Image) (head room at : ℕ) (e : Why) → (at ≡ head → ⊥) → eight_at image at ≡ Err e → nodes_from image head (suc room) at ≡ Err e
unfolding nodes_from
node_stop image head room at e other read =
    let b : nat_eq at head ≡ false = grind (arith, nat_tests) in
    rw (b, read) refl

pub nodes_stop : (image : Image) (head most i at : ℕ) (done : List ℕ) (e : Why) → i < most → (at ≡ head → ⊥) → eight_at image at ≡ Err e
    → prefixed done (nodes_from image head (most - i) at) ≡ Err e
nodes_stop image head most i at done e lt other read =
    let m : most - i ≡ suc (most - (i + 1)) = omega arith in
    ap (λ n. prefixed done (nodes_from image head n at)) m
    ∙ ap (λ (r : Result (List ℕ) Why). prefixed done r) (node_stop image head (most - (i + 1)) at e other read)

node_last : (image : Image) (head room at : ℕ) → at ≡ head → nodes_from image head (suc room) at ≡ Ok []
unfolding nodes_from
node_last image head room at is =
    let b : nat_eq at head ≡ true = grind (arith, nat_tests) in
    rw b refl

pub nodes_end : (image : Image) (head most i at : ℕ) (done : List ℕ) → i < most → at ≡ head → prefixed done (nodes_from image head (most - i) at) ≡ Ok done
nodes_end image head most i at done lt is =
    let m : most - i ≡ suc (most - (i + 1)) = omega arith in
    ap (λ n. prefixed done (nodes_from image head n at)) m
    ∙ all_before done (nodes_from image head (suc (most - (i + 1))) at) (node_last image head (most - (i + 1)) at is)

pub nodes_none : (image : Image) (head most i at : ℕ) (done : List ℕ) → most ≤ i → prefixed done (nodes_from image head (most - i) at) ≡ Err (Bad S15)
unfolding nodes_from
nodes_none image head most i at done past =
    let m : most - i ≡ zero = omega arith in
    rw m refl

-- sizes
pub sizes_more : (image : Image) (stride count i at sum size next more : ℕ) → i < count → next ≡ onward at stride → more ≡ onward sum size → four_at image at ≡ Ok size
    → sizes_from image stride (count - i) at sum ≡ sizes_from image stride (count - (i + 1)) next more
unfolding sizes_from
sizes_more image stride count i at sum size next more lt goes adds read =
    let e : count - i ≡ suc (count - (i + 1)) = omega arith in
    rw (e, goes, adds, read) refl

pub sizes_stop : (image : Image) (stride count i at sum : ℕ) (e : Why) → i < count → four_at image at ≡ Err e → sizes_from image stride (count - i) at sum ≡ Err e
unfolding sizes_from
sizes_stop image stride count i at sum e lt read =
    let m : count - i ≡ suc (count - (i + 1)) = omega arith in
    rw (m, read) refl

pub sizes_end : (image : Image) (stride count i at sum : ℕ) → count ≤ i → sizes_from image stride (count - i) at sum ≡ Ok sum
unfolding sizes_from
sizes_end image stride count i at sum past =
    let m : count - i ≡ zero = omega arith in
    rw m refl

-- the nodes from one on
here : (nodes : List ℕ) (i node : ℕ) → i < length nodes → node ≡ get_or nodes i 0 → drop i nodes ≡ node ∷ drop (i + 1) nodes
here nodes i node lt is =
    let one : suc i ≡ i + 1 = omega arith in
    drop-cons nodes i 0 lt ∙ ap (λ n. n ∷ drop (suc i) nodes) (sym is) ∙ ap (λ n. node ∷ drop n nodes) one

-- lines
line_next : (image : Image) (shape : ModuleFields) (nodes : List ℕ) (node : ℕ) (entry : Entry) → entry_at image shape node ≡ Ok entry
    → lines_at image shape (node ∷ nodes) ≡ prefixed (line entry) (lines_at image shape nodes)
unfolding lines_at
line_next image shape nodes node entry read = rw read refl

pub lines_more : (image : Image) (shape : ModuleFields) (nodes : List ℕ) (i node : ℕ) (entry : Entry) (done more : List ℕ) → i < length nodes → node ≡ get_or nodes i 0 → more ≡ done ++ line entry
    → entry_at image shape node ≡ Ok entry → prefixed done (lines_at image shape (drop i nodes)) ≡ prefixed more (lines_at image shape (drop (i + 1) nodes))
lines_more image shape nodes i node entry done more lt at is read =
    ap (λ (l : List ℕ). prefixed done (lines_at image shape l)) (here nodes i node lt at)
    ∙ ap (λ (r : Result (List ℕ) Why). prefixed done r) (line_next image shape (drop (i + 1) nodes) node entry read)
    ∙ some_before done (line entry) more (lines_at image shape (drop (i + 1) nodes)) is

line_stop : (image : Image) (shape : ModuleFields) (nodes : List ℕ) (node : ℕ) (e : Why) → entry_at image shape node ≡ Err e → lines_at image shape (node ∷ nodes) ≡ Err e
unfolding lines_at
line_stop image shape nodes node e read = rw read refl

pub lines_stop : (image : Image) (shape : ModuleFields) (nodes : List ℕ) (i node : ℕ) (done : List ℕ) (e : Why) → i < length nodes → node ≡ get_or nodes i 0 → entry_at image shape node ≡ Err e
    → prefixed done (lines_at image shape (drop i nodes)) ≡ Err e
lines_stop image shape nodes i node done e lt at read =
    ap (λ (l : List ℕ). prefixed done (lines_at image shape l)) (here nodes i node lt at)
    ∙ ap (λ (r : Result (List ℕ) Why). prefixed done r) (line_stop image shape (drop (i + 1) nodes) node e read)

no_lines : (image : Image) (shape : ModuleFields) (nodes : List ℕ) → nodes ≡ [] → lines_at image shape nodes ≡ Ok []
unfolding lines_at
no_lines image shape nodes is = rw is refl

pub lines_end : (image : Image) (shape : ModuleFields) (nodes : List ℕ) (i : ℕ) (done : List ℕ) → length nodes ≤ i → prefixed done (lines_at image shape (drop i nodes)) ≡ Ok done
lines_end image shape nodes i done past =
    all_before done (lines_at image shape (drop i nodes)) (no_lines image shape (drop i nodes) (drop_all i nodes past))

-- the module with a name

types_next : (image : Image) (shape : TypedShape) (name nodes other : List ℕ) (node : ℕ) → named_at image shape node ≡ Ok other
    → types_of image shape name (node ∷ nodes) ≡ (if bytes_eq other name then data_at image shape node else types_of image shape name nodes)
unfolding types_of
types_next image shape name nodes other node read = rw read refl

pub types_more : (image : Image) (shape : TypedShape) (name nodes other : List ℕ) (i node : ℕ) → i < length nodes → node ≡ get_or nodes i 0 → bytes_eq other name ≡ false → named_at image shape node ≡ Ok other
    → types_of image shape name (drop i nodes) ≡ types_of image shape name (drop (i + 1) nodes)
types_more image shape name nodes other i node lt at differ read =
    ap (types_of image shape name) (here nodes i node lt at) ∙ types_next image shape name (drop (i + 1) nodes) other node read
    ∙ rw differ refl

pub types_found : (image : Image) (shape : TypedShape) (name nodes other : List ℕ) (i node : ℕ) → i < length nodes → node ≡ get_or nodes i 0 → bytes_eq other name ≡ true → named_at image shape node ≡ Ok other
    → types_of image shape name (drop i nodes) ≡ data_at image shape node
types_found image shape name nodes other i node lt at same read =
    ap (types_of image shape name) (here nodes i node lt at) ∙ types_next image shape name (drop (i + 1) nodes) other node read
    ∙ rw same refl

types_none : (image : Image) (shape : TypedShape) (name nodes : List ℕ) (node : ℕ) (e : Why) → named_at image shape node ≡ Err e → types_of image shape name (node ∷ nodes) ≡ Err e
unfolding types_of
types_none image shape name nodes node e read = rw read refl

pub types_stop : (image : Image) (shape : TypedShape) (name nodes : List ℕ) (i node : ℕ) (e : Why) → i < length nodes → node ≡ get_or nodes i 0 → named_at image shape node ≡ Err e
    → types_of image shape name (drop i nodes) ≡ Err e
types_stop image shape name nodes i node e lt at read =
    ap (types_of image shape name) (here nodes i node lt at) ∙ types_none image shape name (drop (i + 1) nodes) node e read

no_types : (image : Image) (shape : TypedShape) (name nodes : List ℕ) → nodes ≡ [] → types_of image shape name nodes ≡ Err (Bad S16)
unfolding types_of
no_types image shape name nodes is = rw is refl

pub types_end : (image : Image) (shape : TypedShape) (name nodes : List ℕ) (i : ℕ) → length nodes ≤ i → types_of image shape name (drop i nodes) ≡ Err (Bad S16)
types_end image shape name nodes i past = no_types image shape name (drop i nodes) (drop_all i nodes past)
