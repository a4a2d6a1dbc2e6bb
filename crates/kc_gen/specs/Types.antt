-- The file of types (kernel documentation, "BPF Type Format").
use Rattle.std.specs.Prelude.{ℕ, ◌+◌, ◌*◌, ◌^◌, true, false, Bool, if◌then◌else◌, List, [], ◌∷◌, ◌++◌, codes, flat_map, length, map}
use Rattle.std.specs.Str.{bytes_eq}
use Rattle.kc_gen.specs.Bytes.{number_bytes}

-- what a record holds: numbers of 32 bits, of which a name is the place of its text among the names
pub data Part : Type 0 where
  Number : ℕ → Part
  Name : List ℕ → Part

-- A record begins with its name, with its kind and how many members it has, and with its size or the type that it stands on.
abbrev pub a_record : List ℕ → ℕ → ℕ → List Part
a_record name kind size = Name name ∷ Number kind ∷ Number size ∷ []

-- a whole number, by its size in bytes and its bits; 2^24 says that it has a sign
abbrev pub int : List ℕ → ℕ → ℕ → List Part
int name size encoding = a_record name (1 * 2 ^ 24) size ++ Number encoding ∷ []

abbrev pub signed : ℕ
signed = 2 ^ 24

abbrev pub ptr : ℕ → List Part
ptr to = a_record [] (2 * 2 ^ 24) to

-- an array, by its length and its type; its index is an `unsigned int`
abbrev pub array : ℕ → ℕ → List Part
array length ty = a_record [] (3 * 2 ^ 24) 0 ++ Number ty ∷ Number 3 ∷ Number length ∷ []

-- a member of a struct or union, by its type and its bit
pub record Member : Type 0 where
  pub name : List ℕ
  pub ty : ℕ
  pub bit : ℕ

abbrev pub member : List ℕ → ℕ → ℕ → Member
member name ty bit = record { name = name; ty = ty; bit = bit }

-- a bit-field, by its bit and its width
abbrev pub bits : List ℕ → ℕ → ℕ → ℕ → Member
bits name ty bit width = member name ty (bit + width * 2 ^ 24)

abbrev pub member_parts : Member → List Part
member_parts m = Name m.name ∷ Number m.ty ∷ Number m.bit ∷ []

abbrev pub struct : List ℕ → ℕ → List Member → List Part
struct name size members = a_record name (4 * 2 ^ 24 + length members) size ++ flat_map member_parts members

-- a struct with bit-fields has the kind flag
abbrev pub bit_struct : List ℕ → ℕ → List Member → List Part
bit_struct name size members = a_record name (2 ^ 31 + 4 * 2 ^ 24 + length members) size ++ flat_map member_parts members

abbrev pub union : List ℕ → ℕ → List Member → List Part
union name size members = a_record name (5 * 2 ^ 24 + length members) size ++ flat_map member_parts members

-- the types, numbered from 1 on
abbrev pub types : List Part
types =
    int (codes "unsigned long") 8 64
    ++ int (codes "unsigned char") 1 8
    ++ int (codes "unsigned int") 4 32
    ++ int (codes "int") 4 (signed + 32)
    ++ ptr 0
    ++ struct (codes "list_head") 16 (member (codes "next") 7 0 ∷ member (codes "prev") 7 64 ∷ [])
    ++ ptr 6
    ++ struct (codes "hlist_node") 16 (member (codes "next") 9 0 ∷ member (codes "pprev") 5 64 ∷ [])
    ++ ptr 8
    ++ struct (codes "hlist_head") 8 (member (codes "first") 9 0 ∷ [])
    ++ struct (codes "rb_node") 24 (member (codes "__rb_parent_color") 1 0 ∷ member (codes "rb_right") 12 64 ∷ member (codes "rb_left") 12 128 ∷ [])
    ++ ptr 11
    ++ struct (codes "rb_root") 8 (member (codes "rb_node") 12 0 ∷ [])
    ++ struct (codes "rb_root_cached") 16 (member (codes "rb_root") 13 0 ∷ member (codes "rb_leftmost") 12 64 ∷ [])
    ++ array 16 5
    ++ struct (codes "xa_node") 152 (member (codes "shift") 2 0 ∷ member (codes "offset") 2 8 ∷ member (codes "count") 2 16 ∷ member (codes "nr_values") 2 24 ∷ member (codes "parent") 17 64 ∷ member (codes "array") 5 128 ∷ member (codes "slots") 15 192 ∷ [])
    ++ ptr 16
    ++ struct (codes "xarray") 16 (member (codes "xa_lock") 3 0 ∷ member (codes "xa_flags") 3 32 ∷ member (codes "xa_head") 5 64 ∷ [])
    ++ struct (codes "kmem_cache_node") 32 (member (codes "list_lock") 3 0 ∷ member (codes "nr_partial") 1 64 ∷ member (codes "partial") 6 128 ∷ [])
    ++ ptr 19
    ++ array 1 20
    ++ struct (codes "kmem_cache") 48 (member (codes "size") 3 0 ∷ member (codes "object_size") 3 32 ∷ member (codes "offset") 3 64 ∷ member (codes "red_left_pad") 3 96 ∷ member (codes "random") 1 128 ∷ member (codes "list") 6 192 ∷ member (codes "node") 21 320 ∷ [])
    ++ ptr 22
    ++ bit_struct [] 4 (bits (codes "inuse") 3 0 16 ∷ bits (codes "objects") 3 16 15 ∷ bits (codes "frozen") 3 31 1 ∷ [])
    ++ union [] 8 (member (codes "counters") 1 0 ∷ member [] 24 0 ∷ [])
    ++ struct (codes "slab") 64 (member (codes "__page_flags") 1 0 ∷ member (codes "slab_cache") 23 64 ∷ member (codes "slab_list") 6 128 ∷ member (codes "freelist") 5 256 ∷ member [] 25 320 ∷ [])
    ++ struct (codes "page") 64 (member (codes "flags") 1 0 ∷ [])
    ++ struct (codes "signal_struct") 16 (member (codes "thread_head") 6 0 ∷ [])
    ++ ptr 28
    ++ ptr 31
    ++ struct (codes "task_struct") 104 (member (codes "stack") 5 0 ∷ member (codes "tasks") 6 64 ∷ member (codes "pid") 4 192 ∷ member (codes "tgid") 4 224 ∷ member (codes "real_parent") 30 256 ∷ member (codes "children") 6 320 ∷ member (codes "sibling") 6 448 ∷ member (codes "group_leader") 30 576 ∷ member (codes "signal") 29 640 ∷ member (codes "thread_node") 6 704 ∷ [])
    ++ bit_struct (codes "item") 64 (member (codes "link") 6 0 ∷ member (codes "hnode") 8 128 ∷ member (codes "key") 4 256 ∷ bits (codes "small") 4 288 3 ∷ member (codes "rb") 11 320 ∷ [])

-- The names: an empty one, and then each once, in the order of first use.
abbrev pub is_among : List (List ℕ) → List ℕ → Bool
is_among [] name = false
is_among (n ∷ ns) name = if bytes_eq n name then true else is_among ns name

abbrev pub with_name : List (List ℕ) → List ℕ → List (List ℕ)
with_name known name = if is_among known name then known else known ++ name ∷ []

abbrev pub names_of : List (List ℕ) → List Part → List (List ℕ)
names_of known [] = known
names_of known (Number n ∷ parts) = names_of known parts
names_of known (Name name ∷ parts) = names_of (with_name known name) parts

abbrev pub names : List (List ℕ)
names = names_of ([] ∷ []) types

-- the place of a name among their texts, each of which ends with a zero
abbrev pub place : List (List ℕ) → List ℕ → ℕ
place [] name = 0
place (n ∷ ns) name = if bytes_eq n name then 0 else length n + 1 + place ns name

abbrev pub part_number : List (List ℕ) → Part → ℕ
part_number known (Number n) = n
part_number known (Name name) = place known name

abbrev pub type_numbers : List ℕ
type_numbers = map (part_number names) types

abbrev pub name_bytes : List ℕ
name_bytes = flat_map (λ name. name ++ 0 ∷ []) names

abbrev pub numbers_bytes : List ℕ → List ℕ
numbers_bytes numbers = flat_map (number_bytes 4) numbers

-- The header: the magic number with version 1 and no flags; its own length; and where the types and the names begin behind it, each with its length in bytes.
abbrev pub btf_header : ℕ → ℕ → List ℕ
btf_header of_types of_names = numbers_bytes (0x1eb9f ∷ 24 ∷ 0 ∷ of_types ∷ of_types ∷ of_names ∷ [])

unfoldable pub btf : List ℕ
btf = btf_header (4 * length type_numbers) (length name_bytes) ++ numbers_bytes type_numbers ++ name_bytes
