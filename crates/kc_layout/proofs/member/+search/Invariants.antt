use Rattle.std.proofs.Common.{◌≡◌, ◌+◌, ◌-◌, ◌*◌, ◌<◌, ◌≤◌, length}
use Rattle.std.specs.Prelude.{All}
use Rattle.kc_btf.specs.declared.types.Member.{Member}
use Rattle.kc_layout.specs.Search.{among, search}
use Rattle.kc_layout.specs.Bare.{members_numbered}
use Rattle.kc_layout.proofs.member.+search.Given as goal

abbrev pub decreases-search_lent : goal.decreases-search_lent
decreases-search_lent l = 2 * l.levels + 1

abbrev pub decreases-search_type : goal.decreases-search_type
decreases-search_type l = 2 * l.levels

-- the search through the members that are left is the whole search
abbrev pub invariant-search_type-loop-member : goal.invariant-search_type-loop-member
invariant-search_type-loop-member l = record {
  whole : among (search (l.levels - 1) l.btf l.name) l.btf l.name l.base l.remaining l.member-iterator ≡ among (search (l.levels - 1) l.btf l.name) l.btf l.name l.base l.fn.left (members_numbered l.btf l.fn.t.id);
  inside : All (λ (m : Member). (m.name < length l.btf.strings) × (m.ty ≤ length l.btf.records)) l.member-iterator;
}
