-- That the list of modules is the kernel's ring.
use Rattle.std.proofs.Common.{◌≡◌, ℕ, zero, suc, ◌+◌, ◌-◌, ◌%◌, ◌^◌, ◌<◌, nat_eq, Bool, true, false, if◌then◌else◌, codes, List, [], ◌∷◌, ◌++◌, length, get_or, length-drop, drop, Some, Result, Ok, Err, refl, sym, ap, subst, ◌∙◌, arith}
use Rattle.std.specs.List.{flat_map}
use Rattle.std.proofs.lemmas.Bool.Decides.{nat_tests}
use Rattle.kc_bytes.specs.Bytes as memory
use Rattle.kc_bytes.specs.Bytes.{onward}
use Rattle.kc_memory.specs.Image.{Image}
use Rattle.kc_btf.specs.declared.stop.BtfFault.{BtfFault}
use Rattle.kc_btf.specs.Btf.{Types, btf}
use Rattle.kc_kallsyms.specs.declared.fault.ModuleList.TheVariants.{Loaded}
use Rattle.kc_kallsyms.specs.declared.fault.TableFault.{TableFault}
use Rattle.kc_kallsyms.specs.declared.fault.TableFault.TheVariants.{S13}
use Rattle.kc_kallsyms.specs.Addresses.{offset_of}
use Rattle.kc_kallsyms.specs.Bytes.{bytes_at, eight_at, four_at}
use Rattle.kc_kallsyms.specs.Map.{Kernel, kernel_at}
use Rattle.kc_kallsyms.specs.Modules.{ListStart, start_at, start_between, start_of}
use Rattle.kc_kallsyms.specs.Reading.{◌>>=◌, Why, judged, wanted}
use Rattle.kc_kallsyms.specs.Types.{address_by, types_between}
use Rattle.kc_modules.specs.declared.shape.ModuleFields.{ModuleFields}
use Rattle.kc_modules.specs.Lines.{Entry, entry_at, line, lines_at, lines_of, modules_at, name_at, sizes_from, text_of}
use Rattle.kc_modules.specs.Lists.{nodes_at, nodes_from}
use Rattle.kc_modules.specs.Parts.{back}
use Rattle.kc_modules.specs.Shapes.{module_fields, sound}
use Rattle.kc_files.specs.Ring.{AreModules, FoursStand, IsModule, LeadsRound, ListsRing, ModulesAreTheRing, Once, total}
use Rattle.kc_files.proofs.FileLaws.{between, bytes_are, not_missed, there, went}

abbrev number : ℕ → Result ℕ Why
number n = Ok n

abbrev text : List ℕ → Result (List ℕ) Why
text bytes = Ok bytes

same_number : (m n : ℕ) → number m ≡ Ok n → m ≡ n
same_number m n is = cc

same_text : (xs ys : List ℕ) → text xs ≡ Ok ys → xs ≡ ys
same_text xs ys is = cc

as_judged : {A : Type 0} (r : Result A TableFault) (a : A) → judged r ≡ Ok a → r ≡ Ok a
as_judged (Ok x) a is = cc
as_judged (Err fault) a is = absurd (let none : ⊥ = cc in none)

as_sound : (r : Result Types BtfFault) (types : Types) → sound r ≡ Ok types → r ≡ Ok types
as_sound (Ok x) types is = cc
as_sound (Err fault) types is = absurd (let none : ⊥ = cc in none)

-- the nodes
head_here : (at head : ℕ) → nat_eq at head ≡ true → at ≡ head
head_here at head is = grind (arith, nat_tests)

head_elsewhere : (at head : ℕ) → nat_eq at head ≡ false → at ≡ head → ⊥
head_elsewhere at head is same = grind (arith, nat_tests)

lead_by : (image : Image) (head before at : ℕ) (nodes : List ℕ) (b : Bool) (more : Result (List ℕ) Why) → nat_eq at head ≡ b → eight_at image before ≡ Ok at
    → (more ≡ Ok nodes → (at ≡ head → ⊥) → LeadsRound image head before nodes) → (if b then text [] else more) ≡ Ok nodes → LeadsRound image head before nodes
lead_by image head before at nodes true more test next later is =
    subst (λ (l : List ℕ). LeadsRound image head before l) (same_text [] nodes is) (next ∙ ap number (head_here at head test))
lead_by image head before at nodes false more test next later is = later is (head_elsewhere at head test)

lead : (image : Image) (head room before at : ℕ) (nodes : List ℕ) → eight_at image before ≡ Ok at → nodes_from image head room at ≡ Ok nodes → LeadsRound image head before nodes
unfolding nodes_from
lead image head zero before at nodes next is = absurd (let none : ⊥ = cc in none)
lead image head (suc room) before at nodes next is =
    lead_by image head before at nodes (nat_eq at head) (eight_at image at >>= (λ n. nodes_from image head room n >>= (λ rest. text (at ∷ rest)))) refl next
    (λ come other.
    let step = went (eight_at image at) (λ n. nodes_from image head room n >>= (λ rest. text (at ∷ rest))) nodes come in
    let rest = went (nodes_from image head room step.first) (λ rest. text (at ∷ rest)) nodes step.then_was in
    subst (λ (l : List ℕ). LeadsRound image head before l) (same_text (at ∷ rest.first) nodes rest.then_was)
    (next, (other, lead image head room at step.first rest.first step.was rest.was)))
    is

-- none stands twice: from where it stands the ring goes on in one way
one_way : (image : Image) (head at : ℕ) (xs ys : List ℕ) → LeadsRound image head at xs → LeadsRound image head at ys → xs ≡ ys
one_way image head at [] [] first second = refl
one_way image head at [] (y ∷ ys) first second = absurd (second.1.0 (same_number y head (sym second.0 ∙ first)))
one_way image head at (x ∷ xs) [] first second = absurd (first.1.0 (same_number x head (sym first.0 ∙ second)))
one_way image head at (x ∷ xs) (y ∷ ys) first second =
    let same : y ≡ x = same_number y x (sym second.0 ∙ first.0) in
    ap (λ (l : List ℕ). x ∷ l) (one_way image head x xs ys first.1.1 (subst (λ n. LeadsRound image head n ys) same second.1.1))
    ∙ ap (λ n. n ∷ ys) (sym same)

goes_on : (image : Image) (head at j : ℕ) (nodes : List ℕ) → LeadsRound image head at nodes → j < length nodes → LeadsRound image head (get_or nodes j 0) (drop (suc j) nodes)
goes_on image head at j [] round lt = absurd (omega arith)
goes_on image head at zero (x ∷ xs) round lt = round.1.1
goes_on image head at (suc j) (x ∷ xs) round lt = goes_on image head x j xs round.1.1 (omega arith)

first_once : (image : Image) (head x j : ℕ) (xs : List ℕ) → LeadsRound image head x xs → j < length xs → x ≡ get_or xs j 0 → ⊥
first_once image head x j xs round lt same =
    let again = subst (λ n. LeadsRound image head n (drop (suc j) xs)) (sym same) (goes_on image head x j xs round lt) in
    let long : length xs ≡ length xs - suc j = ap length (one_way image head x xs (drop (suc j) xs) round again) ∙ length-drop (suc j) xs in
    omega (arith, long)

once : (image : Image) (head at : ℕ) (nodes : List ℕ) → LeadsRound image head at nodes → Once nodes
once image head at [] round i j before lt same = absurd (omega arith)
once image head at (x ∷ xs) round i zero before lt same = omega arith
once image head at (x ∷ xs) round zero (suc j) before lt same = first_once image head x j xs round.1.1 (omega arith) same
once image head at (x ∷ xs) round (suc i) (suc j) before lt same = once image head x xs round.1.1 i j (omega arith) (omega arith) same

-- a module
pub record Sizes (image : Image) (stride count at sum n : ℕ) : Type 0 where
  pub sizes : List ℕ
  pub long : length sizes ≡ count
  pub stand : FoursStand image stride at sizes
  pub sum_is : n ≡ (sum + total sizes) % 2 ^ 64

sizes_stand : (image : Image) (stride count at sum n : ℕ) → sum < 2 ^ 64 → sizes_from image stride count at sum ≡ Ok n → Sizes image stride count at sum n
unfolding sizes_from
sizes_stand image stride zero at sum n small is =
    let same : sum ≡ n = same_number sum n is in
    record { sizes = []; long = refl; stand = tt; sum_is = omega (arith, same) }
sizes_stand image stride (suc count) at sum n small is =
    let one = went (four_at image at) (λ size. sizes_from image stride count (onward at stride) (onward sum size)) n is in
    let rest = sizes_stand image stride count (onward at stride) (onward sum one.first) n (omega arith) one.then_was in
    record { sizes = one.first ∷ rest.sizes; long = ap suc rest.long; stand = (one.was, rest.stand); sum_is = omega (arith, rest.sum_is) }

from_none : (n more : ℕ) → n ≡ (0 + more) % 2 ^ 64 → n ≡ more % 2 ^ 64
from_none n more is = omega (arith, is)

pub record Named (image : Image) (at : ℕ) (name : List ℕ) : Type 0 where
  pub bytes : List ℕ
  pub whole : bytes_at image 56 at ≡ Ok bytes
  pub is : name ≡ text_of bytes

named : (image : Image) (at : ℕ) (name : List ℕ) → name_at image at ≡ Ok name → Named image at name
unfolding name_at
named image at name is =
    let read = went (bytes_at image 56 at) (λ bytes. text (text_of bytes)) name is in
    record { bytes = read.first; whole = read.was; is = sym (same_text (text_of read.first) name read.then_was) }

abbrev entry_of : Entry → Result Entry Why
entry_of e = Ok e

same_entry : (e f : Entry) → entry_of e ≡ Ok f → e ≡ f
same_entry e f is = cc

module_is : (image : Image) (fields : ModuleFields) (node : ℕ) (entry : Entry) → entry_at image fields node ≡ Ok entry → IsModule image fields node entry
unfolding entry_at
module_is image fields node entry is =
    let start = back node fields.list in
    let called = went (name_at image (onward start fields.name))
    (λ name. sizes_from image fields.parts.stride fields.parts.count (onward start fields.parts.size) 0 >>= (λ size. eight_at image (onward start fields.parts.base) >>= (λ base. entry_of (record { name = name; size = size; base = base })))) entry is in
    let long = went (sizes_from image fields.parts.stride fields.parts.count (onward start fields.parts.size) 0)
    (λ size. eight_at image (onward start fields.parts.base) >>= (λ base. entry_of (record { name = called.first; size = size; base = base }))) entry called.then_was in
    let based = went (eight_at image (onward start fields.parts.base)) (λ base. entry_of (record { name = called.first; size = long.first; base = base })) entry long.then_was in
    let name = named image (onward start fields.name) called.first called.was in
    let whole = bytes_are image 56 (onward start fields.name) name.bytes (not_missed (memory.bytes_at image 56 (onward start fields.name)) name.bytes name.whole) in
    let sizes = sizes_stand image fields.parts.stride fields.parts.count (onward start fields.parts.size) 0 long.first (omega arith) long.was in
    subst (IsModule image fields node) (same_entry (record { name = called.first; size = long.first; base = based.first }) entry based.then_was)
    (record {
      name = name.bytes;
      sizes = sizes.sizes;
      long = whole.long;
      stand = whole.stand;
      named = name.is;
      parts = sizes.long;
      sized = sizes.stand;
      size = from_none long.first (total sizes.sizes) sizes.sum_is;
      based = based.was;
    })

pub record Listed (image : Image) (fields : ModuleFields) (nodes all : List ℕ) : Type 0 where
  pub entries : List Entry
  pub modules : AreModules image fields nodes entries
  pub spelled : all ≡ flat_map line entries

listed : (image : Image) (fields : ModuleFields) (nodes all : List ℕ) → lines_at image fields nodes ≡ Ok all → Listed image fields nodes all
unfolding lines_at
listed image fields [] all is = record { entries = []; modules = tt; spelled = sym (same_text [] all is) }
listed image fields (node ∷ nodes) all is =
    let one = went (entry_at image fields node) (λ entry. lines_at image fields nodes >>= (λ rest. text (line entry ++ rest))) all is in
    let more = went (lines_at image fields nodes) (λ rest. text (line one.first ++ rest)) all one.then_was in
    let rest = listed image fields nodes more.first more.was in
    record {
      entries = one.first ∷ rest.entries;
      modules = (module_is image fields node one.first one.was, rest.modules);
      spelled = sym (same_text (line one.first ++ more.first) all more.then_was) ∙ ap (λ (l : List ℕ). line one.first ++ l) rest.spelled;
    }

-- where it begins
abbrev start_is : ListStart → Result ListStart Why
start_is s = Ok s

pub record Begins (image : Image) (kernel : Kernel) (start : ListStart) : Type 0 where
  pub types : types_between image kernel.frame (offset_of (codes "__start_BTF") kernel.symbols) (offset_of (codes "__stop_BTF") kernel.symbols) ≡ Ok start.types
  pub head : address_by kernel.frame (offset_of (codes "modules") kernel.symbols) ≡ Some start.head

same_start : (s t : ListStart) → start_is s ≡ Ok t → s ≡ t
same_start s t is = cc

begins : (image : Image) (kernel : Kernel) (start : ListStart) → start_of image Loaded kernel ≡ Ok start → Begins image kernel start
unfolding start_between
begins image kernel start is =
    let types = went (types_between image kernel.frame (offset_of (codes "__start_BTF") kernel.symbols) (offset_of (codes "__stop_BTF") kernel.symbols))
    (λ types. wanted (S13 Loaded) (address_by kernel.frame (offset_of (codes "modules") kernel.symbols)) >>= (λ head. start_is (record { types = types; head = head }))) start is in
    let head = went (wanted (S13 Loaded) (address_by kernel.frame (offset_of (codes "modules") kernel.symbols))) (λ head. start_is (record { types = types.first; head = head })) start types.then_was in
    subst (Begins image kernel) (same_start (record { types = types.first; head = head.first }) start head.then_was)
    (record { types = types.was; head = there (S13 Loaded) (address_by kernel.frame (offset_of (codes "modules") kernel.symbols)) head.first head.was })

ring_by : (image : Image) (kernel : Kernel) (start : ListStart) (all : List ℕ) → Begins image kernel start → lines_of image start ≡ Ok all → ListsRing image kernel all
unfolding nodes_at
ring_by image kernel start all begun is =
    let types = went (judged (sound (btf start.types))) (λ types. judged (module_fields types) >>= (λ fields. nodes_at image start.head >>= (λ nodes. lines_at image fields nodes))) all is in
    let fields = went (judged (module_fields types.first)) (λ fields. nodes_at image start.head >>= (λ nodes. lines_at image fields nodes)) all types.then_was in
    let nodes = went (nodes_at image start.head) (λ nodes. lines_at image fields.first nodes) all fields.then_was in
    let first = went (eight_at image start.head) (nodes_from image start.head (2 ^ 16)) nodes.first nodes.was in
    let round = lead image start.head (2 ^ 16) start.head first.first nodes.first first.was first.then_was in
    let lines = listed image fields.first nodes.first all nodes.then_was in
    let lie = between image kernel.frame (offset_of (codes "__start_BTF") kernel.symbols) (offset_of (codes "__stop_BTF") kernel.symbols) start.types begun.types in
    record {
      head = start.head;
      own = start.types;
      types = types.first;
      fields = fields.first;
      nodes = nodes.first;
      entries = lines.entries;
      begins = begun.head;
      lie = record { start = lie.start; end = lie.end; starts = lie.starts; ends = lie.ends; whole = lie.whole; stand = lie.stand };
      sound = as_sound (btf start.types) types.first (as_judged (sound (btf start.types)) types.first types.was);
      placed = as_judged (module_fields types.first) fields.first fields.was;
      round = round;
      once = once image start.head start.head nodes.first round;
      modules = lines.modules;
      spelled = lines.spelled;
    }

pub modules_are_ring : ModulesAreTheRing
unfolding modules_at start_at
modules_are_ring image kaslr places all is =
    let start = went (start_at image kaslr places Loaded) (lines_of image) all is in
    let k = went (kernel_at image kaslr places) (start_of image Loaded) start.first start.was in
    (k.first, (k.was, ring_by image k.first start.first all (begins image k.first start.first k.then_was) start.then_was))
