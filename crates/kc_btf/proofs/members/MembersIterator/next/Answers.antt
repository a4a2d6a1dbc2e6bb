use Rattle.std.proofs.Common.{◌≡◌, [], sym, ◌∙◌, arith, rules}
use Rattle.kc_btf.proofs.MemberLemmas.{members-next, members-none}
use Rattle.kc_btf.proofs.members.MembersIterator.next.Goals as goal

pub returns-then-self-eq0-clause-steps : goal.returns-then-self-eq0-clause-steps
returns-then-self-eq0-clause-steps c =
    let m = c.self.inside in
    let none : c.args.self.now ≡ [] = sym c.self.view_is ∙ members-none m.left m.at m.flag m.bytes.now c.if-self-eq0.true in
    (none, none)

pub returns-clause-steps : goal.returns-clause-steps
returns-clause-steps c =
    let m = c.self.inside in
    sym c.self.view_is ∙ members-next m.left m.at m.flag m.bytes.now c.member_at-member.result (omega arith) c.member_at-member.ensures

pub returns-clause-goes : goal.returns-clause-goes
returns-clause-goes c =
    let m = c.self.inside in
    let step = sym c.self.view_is ∙ members-next m.left m.at m.flag m.bytes.now c.member_at-member.result (omega arith) c.member_at-member.ensures in
    rw step (search rules)
