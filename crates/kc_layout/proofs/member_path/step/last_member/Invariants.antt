use Rattle.std.proofs.Common.{◌≡◌, ◌<◌, ◌≤◌, length, None, IfSome}
use Rattle.std.specs.Prelude.{All}
use Rattle.kc_btf.specs.declared.types.Member.{Member}
use Rattle.kc_layout.specs.Bare.{members_numbered}
use Rattle.kc_layout.specs.MemberPath.MemberPaths.{last_or}
use Rattle.kc_layout.proofs.member_path.step.last_member.Given as goal

-- the last of the members that are left, or the one before them, is the last of all
abbrev pub invariant-loop-member : goal.invariant-loop-member
invariant-loop-member l = record {
  whole : last_or l.last l.member-iterator ≡ last_or None (members_numbered l.btf l.fn.t.id);
  inside : All (λ (m : Member). (m.name < length l.btf.strings) × (m.ty ≤ length l.btf.records)) l.member-iterator;
  last : IfSome l.last (λ (m : Member). (m.name < length l.btf.strings) × (m.ty ≤ length l.btf.records));
}
