-- What contracts see of the index of names.
use Rattle.std.specs.Prelude.{ℕ, ◌+◌, ◌-◌, ◌*◌, ◌%◌, Bool, List, [], ◌∷◌, ◌++◌, map, length, nat_lt, slice_index, slice_index_or, if◌then◌else◌}
use Rattle.std.specs.Global.{Vec}
use Rattle.kc_syms.specs.declared.row.Row.{Row}
use Rattle.kc_syms.specs.Rows.{RowText, addresses}
use Rattle.kc_syms.specs.Views.{row_text}

-- the byte so many before a name's end
abbrev pub byte_back : List ℕ → ℕ → ℕ
byte_back name back = slice_index name (length name - back)

-- The part of the names that a name is in: any function of the name would do.
unfoldable pub part_of : List ℕ → ℕ
part_of name =
    if nat_lt (length name) 4 then length name
    else ((length name % 256 + (7 * byte_back name 1 + 31 * byte_back name 2 + 59 * byte_back name 3 + 101 * byte_back name 4)) % 256)

-- the rows of each part
abbrev pub parts : List (Vec Row) → List (List RowText)
parts = map (λ rows. map row_text rows.items)

-- the addresses of a name in the index, which are those of its part's rows
abbrev pub listed : Vec (Vec Row) → List ℕ → List ℕ
listed index name = addresses name (slice_index_or (parts index.items) (part_of name) [])

-- the address behind these, where it is said
abbrev pub put_behind : Bool → List ℕ → ℕ → List ℕ
put_behind put list address = if put then list ++ address ∷ [] else list
