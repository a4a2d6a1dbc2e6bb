use Rattle.std.proofs.Common.{◌≡◌, ◌+◌, ◌-◌, ◌*◌, ◌<◌, ◌≤◌, length, option_map}
use Rattle.std.specs.Prelude.{All}
use Rattle.kc_btf.specs.declared.types.Member.{Member}
use Rattle.kc_layout.specs.Listing.{behind, listed_all, lists, AreNamed}
use Rattle.kc_layout.specs.Bare.{members_numbered}
use Rattle.kc_layout.proofs.listing.+listing.Given as goal

abbrev pub decreases-list_member : goal.decreases-list_member
decreases-list_member l = 2 * l.levels + 1

abbrev pub decreases-list_type : goal.decreases-list_type
decreases-list_type l = 2 * l.levels

-- what the members that are left list, behind the lines so far, is the whole list
abbrev pub invariant-list_type-loop-member : goal.invariant-list_type-loop-member
invariant-list_type-loop-member l = record {
  whole : option_map (behind l.lines.items) (listed_all (lists (l.levels - 1) l.btf) l.btf l.base l.remaining l.member-iterator) ≡ option_map (behind l.initial.lines.items) (listed_all (lists (l.levels - 1) l.btf) l.btf l.base l.fn.left (members_numbered l.btf l.fn.t.id));
  inside : All (λ (m : Member). (m.name < length l.btf.strings) × (m.ty ≤ length l.btf.records)) l.member-iterator;
  named : AreNamed l.btf l.lines.items;
}
