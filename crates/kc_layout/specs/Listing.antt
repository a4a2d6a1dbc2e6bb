-- The members of a struct or union, line by line.
use Rattle.std.specs.Prelude.{◌≡◌, ◌<◌, ℕ, zero, suc, ◌+◌, ◌*◌, List, [], ◌∷◌, ◌++◌, length, All, Contains, Option, Some, None, option_map, ◌==◌, if◌then◌else◌}
use Rattle.std.specs.Option.{option_map_or}
use Rattle.kc_btf.specs.declared.types.IntOf.{IntOf}
use Rattle.kc_btf.specs.declared.types.Member.{Member}
use Rattle.kc_btf.specs.declared.types.TypeRef.{TypeRef}
use Rattle.kc_btf.specs.Btf.{Types}
use Rattle.kc_btf.specs.Readers.{name_at}
use Rattle.kc_layout.specs.declared.listing.Line.{Line}
use Rattle.kc_layout.specs.Bare.{members_numbered, compound_under, int_under}
use Rattle.kc_layout.specs.Search.{Lies}
use Rattle.kc_layout.specs.Size.{size}

-- the line of a member that is no bit-field and begins at a bit: a whole number lies there as its type says,
-- and another type fills its bytes
abbrev pub whole_line : Types → ℕ → Member → Option IntOf → Line
whole_line types bit m (Some int) = record { bit = bit + int.offset; width = Some int.bits; name = m.name }
whole_line types bit m None = record { bit = bit; width = option_map (λ bytes. 8 * bytes) (size types m.ty); name = m.name }

-- the line of a member that begins at a bit. A bit-field has its own width.
abbrev pub line_at : Types → ℕ → Member → Line
line_at types bit m =
    if m.width == 0 then whole_line types bit m (int_under types m.ty)
    else record { bit = bit; width = Some m.width; name = m.name }

-- the struct or union that stands without a name in place of its members
abbrev pub anonymous : Types → Member → Option TypeRef
anonymous types m = if length (name_at types.strings m.name) == 0 then compound_under types m.ty else None

-- lines, and how many members may still be looked at
pub record Listed : Type 0 where
  pub lines : List Line
  pub left : ℕ

-- what is listed, behind other lines
abbrev pub behind : List Line → Listed → Listed
behind lines listed = record { lines = lines ++ listed.lines; left = listed.left }

-- the lines so far, where no limit was passed
abbrev pub so_far : List Line → Option ℕ → Option Listed
so_far lines left = option_map (λ n. record { lines = lines; left = n }) left

-- where no limit was passed, the list goes on
abbrev pub and_list : (ℕ → Option Listed) → Option Listed → Option Listed
and_list next None = None
and_list next (Some first) = option_map (behind first.lines) (next first.left)

-- what a member lists: its line, or what a struct or union without a name does, at its bit. `inner` lists a
-- type, from a bit on, through so many members at most.
abbrev pub listed : (ℕ → ℕ → ℕ → Option Listed) → Types → ℕ → ℕ → Member → Option Listed
listed inner types base left m =
    option_map_or (λ t. inner t.id (base + m.bit) left) (anonymous types m)
    (Some (record { lines = line_at types (base + m.bit) m ∷ []; left = left }))

-- what members list in their order, of which so many may still be looked at, at a bit; none where there are more
unfoldable pub listed_all : (ℕ → ℕ → ℕ → Option Listed) → Types → ℕ → ℕ → List Member → Option Listed
listed_all inner types base left [] = Some (record { lines = []; left = left })
listed_all inner types base zero (m ∷ ms) = None
listed_all inner types base (suc left) (m ∷ ms) = and_list (λ rest. listed_all inner types base rest ms) (listed inner types base left m)

-- what a struct or union lists from a bit on, depth first, of which so many levels may be entered
unfoldable pub lists : ℕ → Types → ℕ → ℕ → ℕ → Option Listed
lists zero types id base left = None
lists (suc levels) types id base left = listed_all (lists levels types) types base left (members_numbered types id)

-- the lines of a struct or union, where at most 65,536 members are looked at, in itself and at most 32 levels
-- without a name
unfoldable pub listing : Types → ℕ → Option (List Line)
listing types id = option_map (λ l. l.lines) (lists 33 types id 0 65536)

-- the names of lines stand in the strings
abbrev pub AreNamed : Types → List Line → Type 0
AreNamed types lines = All (λ line. line.name < length types.strings) lines

-- a line is that of a member which lies in a type that begins at a bit
pub record IsLine (types : Types) (id base : ℕ) (line : Line) : Type 0 where
  pub bit : ℕ
  pub member : Member
  pub lies : Lies types (name_at types.strings member.name) id bit member
  pub same : line ≡ line_at types (base + bit) member

-- a member has a line at a bit of a type: one of the type's own, where it is no struct or union without a
-- name, or one that has its line in such a struct or union, and then the bits on the way add up
pub data HasLine : Types → ℕ → ℕ → Member → Type 0 where
  itself : (types : Types) (id : ℕ) (m : Member) → Contains (members_numbered types id) m → anonymous types m ≡ None → HasLine types id m.bit m
  inside : (types : Types) (id bit : ℕ) (m last : Member) (t : TypeRef) → Contains (members_numbered types id) m → anonymous types m ≡ Some t →
      HasLine types t.id bit last → HasLine types id (m.bit + bit) last

-- the lines of all members that have one, in a type that begins at a bit
abbrev pub AreAll : Types → ℕ → ℕ → List Line → Type 0
AreAll types id base lines = (bit : ℕ) (m : Member) → HasLine types id bit m → Contains lines (line_at types (base + bit) m)
