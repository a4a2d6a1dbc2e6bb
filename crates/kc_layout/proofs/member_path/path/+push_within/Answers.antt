use Rattle.std.proofs.Common.{arith, rules}
use Rattle.kc_layout.proofs.MemberPathLemmas.PathLemmas.{on_ok, path_ends, path_last, path_next}
use Rattle.kc_layout.proofs.member_path.path.+push_within.Goals as goal

pub returns-then-levels-eq0 : goal.returns-then-levels-eq0
returns-then-levels-eq0 t c = path_last c.args.levels c.args.btf.now c.args.begun c.args.ty c.args.byte c.args.text.now.items (omega arith)

pub returns-in_default : goal.returns-in_default
returns-in_default t c = path_ends c.args.levels c.args.btf.now c.args.begun c.args.ty c.args.byte c.args.text.now.items (search rules)

pub returns : goal.returns
returns t c =
    on_ok c.push_within.result (path_next c.args.levels c.args.btf.now c.args.begun c.begins-begins.result c.args.ty c.args.byte c.args.text.now.items c.push_label.new.text.items c.push_within.new.text.items
    c.in-Some.next (omega arith) (search rules) c.begins-begins.ensures c.in_ok-push_label.ensures) c.push_within.ensures
