use Rattle.std.proofs.Common.{◌<◌, ◌≤◌, length, sym, ◌∙◌}
use Rattle.std.proofs.lemmas.List.Elements.{All-head, All-tail}
use Rattle.kc_btf.specs.declared.types.Member.{Member}
use Rattle.kc_layout.proofs.MemberPathLemmas.PathLemmas.{last_next, last_none}
use Rattle.kc_layout.proofs.member_path.step.last_member.Goals as goal

pub loop-member-preserved : goal.loop-member-preserved
loop-member-preserved c =
    let all = rw c.in-Some.ensures.steps at c.loop-member.invariant.inside in
    record {
      whole = sym (last_next c.loop-member.last c.in-Some.member c.loop-member.member-iterator c.next.new.self c.in-Some.ensures.steps) ∙ c.loop-member.invariant.whole;
      inside = All-tail (λ (m : Member). (m.name < length c.args.btf.now.strings) × (m.ty ≤ length c.args.btf.now.records)) c.in-Some.member c.next.new.self all;
      last = All-head (λ (m : Member). (m.name < length c.args.btf.now.strings) × (m.ty ≤ length c.args.btf.now.records)) c.in-Some.member c.next.new.self all;
    }

pub returns-clause-exact : goal.returns-clause-exact
returns-clause-exact c = sym (last_none c.loop-member.last c.loop-member.member-iterator c.in-None.ensures.steps.0) ∙ c.loop-member.invariant.whole
