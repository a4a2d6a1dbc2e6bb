use Rattle.std.proofs.Common.{◌<◌, ◌≤◌, length, sym, ◌∙◌}
use Rattle.std.proofs.lemmas.List.Elements.{All-tail}
use Rattle.kc_btf.specs.declared.types.Member.{Member}
use Rattle.kc_layout.specs.MemberPath.MemberPaths.{has}
use Rattle.kc_layout.proofs.MemberPathLemmas.PathLemmas.{find_on}
use Rattle.kc_layout.proofs.member_path.step.first_holder.Goals as goal

pub loop-member-preserved : goal.loop-member-preserved
loop-member-preserved c =
    record {
      whole = find_on (has c.args.btf.now c.args.byte) c.in-Some.member c.loop-member.member-iterator c.next.new.self _
          c.in-Some.ensures.steps (sym c.has.ensures ∙ c.if-has.false) c.loop-member.invariant.whole;
      inside = All-tail (λ (m : Member). (m.name < length c.args.btf.now.strings) × (m.ty ≤ length c.args.btf.now.records)) c.in-Some.member c.next.new.self (rw c.in-Some.ensures.steps at c.loop-member.invariant.inside);
    }
