use Rattle.std.proofs.Common.{◌≡◌, ◌<◌, ◌≤◌, length, get_or, arith, rules}
use Rattle.std.proofs.lemmas.Grind.{common_steps}
use Rattle.kc_match.proofs.BesideLemmas.{difference_ends, difference_here, difference_more, difference_none}
use Rattle.kc_match.proofs.beside.first_difference.Goals as goal

pub returns-then-file-at : goal.returns-then-file-at
returns-then-file-at c =
    let lt : c.loop-at.at < length c.args.file.now = grind (arith, common_steps) in
    let less : c.loop-at.at < length c.args.own.now = grind (arith, common_steps) in
    difference_here c.args.file.now c.args.own.now c.loop-at.at lt less c.if-file-at.true c.loop-at.invariant

pub loop-at-preserved : goal.loop-at-preserved
loop-at-preserved c =
    let lt : c.loop-at.at < length c.args.file.now = grind (arith, common_steps) in
    let less : c.loop-at.at < length c.args.own.now = grind (arith, common_steps) in
    let same : get_or c.args.file.now c.loop-at.at 0 ≡ get_or c.args.own.now c.loop-at.at 0 = grind (arith, common_steps) in
    difference_more c.args.file.now c.args.own.now c.loop-at.at lt less same c.loop-at.invariant

pub returns-then-file-own : goal.returns-then-file-own
returns-then-file-own c =
    let past : length c.args.file.now ≤ c.loop-at.at = grind (arith, common_steps) in
    let over : length c.args.own.now ≤ c.loop-at.at = grind (arith, common_steps) in
    difference_none c.args.file.now c.args.own.now c.loop-at.at past over c.loop-at.invariant

pub returns-else-file-own : goal.returns-else-file-own
returns-else-file-own c =
    difference_ends c.args.file.now c.args.own.now c.loop-at.at _ (search rules) (omega arith) c.if-file-own.false c.loop-at.invariant
