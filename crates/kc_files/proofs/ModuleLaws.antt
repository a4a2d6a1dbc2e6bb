-- That the types of a module lie where its `struct btf` says.
use Rattle.std.proofs.Common.{◌≡◌, ℕ, ◌^◌, nat_le, Bool, true, false, if◌then◌else◌, bytes_eq, List, [], ◌∷◌, Result, Ok, Err, refl, sym, ap, ◌∙◌}
use Rattle.std.proofs.lemmas.Slice.Eq.{bytes_eq-Decides}
use Rattle.kc_bytes.specs.Bytes as memory
use Rattle.kc_bytes.specs.Bytes.{onward}
use Rattle.kc_memory.specs.Image.{Image}
use Rattle.kc_btf.specs.Btf.{btf}
use Rattle.kc_kallsyms.specs.declared.fault.ModuleList.TheVariants.{Typed}
use Rattle.kc_kallsyms.specs.declared.fault.TableFault.TheVariants.{S17}
use Rattle.kc_kallsyms.specs.Bytes.{bytes_at, eight_at, four_at}
use Rattle.kc_kallsyms.specs.Modules.{start_at}
use Rattle.kc_kallsyms.specs.Reading.{◌>>=◌, Why, judged}
use Rattle.kc_modules.specs.declared.shape.TypedShape.{TypedShape}
use Rattle.kc_modules.specs.Lists.{nodes_at}
use Rattle.kc_modules.specs.Parts.{back}
use Rattle.kc_modules.specs.Shapes.{sound, typed_shape}
use Rattle.kc_modules.specs.Typed.{checked_size, data_at, module_types_at, named_at, typed_of, types_of}
use Rattle.kc_files.specs.Laws.{LieWhereSaid, ModuleTypesLie}
use Rattle.kc_files.proofs.FileLaws.{bytes_are, not_missed, went}

abbrev number : ℕ → Result ℕ Why
number n = Ok n

abbrev text : List ℕ → Result (List ℕ) Why
text bytes = Ok bytes

-- a size that is none too large is the one that is told
by_bound : (b : Bool) (said size : ℕ) → judged (if b then Ok said else Err S17) ≡ Ok size → number said ≡ Ok size
by_bound true said size is = is
by_bound false said size is = absurd (let none : ⊥ = cc in none)

as_said : (said size : ℕ) → judged (checked_size said) ≡ Ok size → number said ≡ Ok size
as_said said size is = by_bound (nat_le said (2 ^ 26)) said size is

lie_there : (image : Image) (shape : TypedShape) (name bytes : List ℕ) (node : ℕ) → named_at image shape node ≡ Ok name → data_at image shape node ≡ Ok bytes → LieWhereSaid image shape name bytes
unfolding data_at
lie_there image shape name bytes node named is =
    let own = went (eight_at image (onward (back node shape.list) shape.btf))
    (λ types. eight_at image (onward types shape.data_at) >>= (λ start. four_at image (onward types shape.size) >>= (λ told. judged (checked_size told) >>= (λ size. bytes_at image size start)))) bytes is in
    let begun = went (eight_at image (onward own.first shape.data_at))
    (λ start. four_at image (onward own.first shape.size) >>= (λ told. judged (checked_size told) >>= (λ size. bytes_at image size start))) bytes own.then_was in
    let told = went (four_at image (onward own.first shape.size)) (λ told. judged (checked_size told) >>= (λ size. bytes_at image size begun.first)) bytes begun.then_was in
    let size = went (judged (checked_size told.first)) (λ size. bytes_at image size begun.first) bytes told.then_was in
    let whole = bytes_are image size.first begun.first bytes (not_missed (memory.bytes_at image size.first begun.first) bytes size.then_was) in
    record {
      node = node;
      types = own.first;
      start = begun.first;
      named = named;
      leads = own.was;
      starts = begun.was;
      long = told.was ∙ as_said told.first size.first size.was ∙ ap number (sym whole.long);
      stand = whole.stand;
    }

by_name : (image : Image) (shape : TypedShape) (name other nodes bytes : List ℕ) (node : ℕ) (b : Bool) → bytes_eq other name ≡ b → named_at image shape node ≡ Ok other
    → (types_of image shape name nodes ≡ Ok bytes → LieWhereSaid image shape name bytes)
    → (if b then data_at image shape node else types_of image shape name nodes) ≡ Ok bytes → LieWhereSaid image shape name bytes
by_name image shape name other nodes bytes node true same named later is =
    let called : other ≡ name = (bytes_eq-Decides other name).0 same in
    lie_there image shape name bytes node (named ∙ ap text called) is
by_name image shape name other nodes bytes node false differ named later is = later is

of_nodes : (image : Image) (shape : TypedShape) (name nodes bytes : List ℕ) → types_of image shape name nodes ≡ Ok bytes → LieWhereSaid image shape name bytes
unfolding types_of
of_nodes image shape name [] bytes is = absurd (let none : ⊥ = cc in none)
of_nodes image shape name (node ∷ nodes) bytes is =
    let one = went (named_at image shape node) (λ other. if bytes_eq other name then data_at image shape node else types_of image shape name nodes) bytes is in
    by_name image shape name one.first nodes bytes node (bytes_eq one.first name) refl one.was (of_nodes image shape name nodes bytes) one.then_was

pub module_types_lie : ModuleTypesLie
unfolding module_types_at
module_types_lie image kaslr places name bytes is =
    let start = went (start_at image kaslr places Typed) (typed_of image name) bytes is in
    let types = went (judged (sound (btf start.first.types))) (λ types. judged (typed_shape types) >>= (λ shape. nodes_at image start.first.head >>= (λ nodes. types_of image shape name nodes))) bytes start.then_was in
    let shape = went (judged (typed_shape types.first)) (λ shape. nodes_at image start.first.head >>= (λ nodes. types_of image shape name nodes)) bytes types.then_was in
    let nodes = went (nodes_at image start.first.head) (λ nodes. types_of image shape.first name nodes) bytes shape.then_was in
    (shape.first, of_nodes image shape.first name nodes.first bytes nodes.then_was)
