use Rattle.std.proofs.Common.{◌≡◌, ◌<◌, ◌≤◌, length}
use Rattle.std.specs.Prelude.{All, find}
use Rattle.kc_btf.specs.declared.types.Member.{Member}
use Rattle.kc_layout.specs.Bare.{members_numbered}
use Rattle.kc_layout.specs.MemberPath.MemberPaths.{has}
use Rattle.kc_layout.proofs.member_path.step.first_holder.Given as goal

-- the first among the members that are left is the first of all
abbrev pub invariant-loop-member : goal.invariant-loop-member
invariant-loop-member l = record {
  whole : find (has l.btf l.byte) l.member-iterator ≡ find (has l.btf l.byte) (members_numbered l.btf l.fn.t.id);
  inside : All (λ (m : Member). (m.name < length l.btf.strings) × (m.ty ≤ length l.btf.records)) l.member-iterator;
}
