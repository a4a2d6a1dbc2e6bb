use Rattle.std.proofs.Common.{◌≡◌, ◌∙◌, Err, arith, rules}
use Rattle.kc_memory.specs.Stays.{stays_on}
use Rattle.kc_kallsyms.proofs.Loops.{string_come, string_go, string_halt, string_lacks}
use Rattle.kc_kallsyms.proofs.bytes.read_string.Goals as goal

pub loop-i-preserved : goal.loop-i-preserved
loop-i-preserved g c =
    let so_far = c.loop-i.invariant in
    record {
      goes = string_go (g.S.Space.image c.args.space.now) c.args.number 512 c.args.at c.loop-i.i c.loop-i.cursor.at _ c.in_ok-byte.byte c.loop-i.token.items _ so_far.goes
          (rw so_far.stays.same_image at c.in_ok-byte.ensures.byte) (omega arith) c.in_ok-byte.ensures.at (omega arith) c.in_ok-push.ensures.items;
      kept = c.in_ok-byte.ensures.kept;
      stays = stays_on g.S.Space.image g.S.Space.files g.S.Space.through g.S.Space.most _ _ _ so_far.stays c.in_ok-byte.ensures.stays;
      quiet = c.in_ok-byte.ensures.cause ∙ so_far.quiet;
    }

pub returns-in_err-byte-clause-token : goal.returns-in_err-byte-clause-token
returns-in_err-byte-clause-token g c =
    let so_far = c.loop-i.invariant in
    let ended : c.from_residual.result ≡ Err c.in_err-byte.field-0.0 = search rules in
    rw ended (string_halt (g.S.Space.image c.args.space.now) c.args.number 512 c.args.at c.loop-i.i c.loop-i.cursor.at c.loop-i.token.items _ so_far.goes
    (rw so_far.stays.same_image at c.in_err-byte.ensures.byte) (omega arith))

pub returns-then-byte-eq0-clause-token : goal.returns-then-byte-eq0-clause-token
returns-then-byte-eq0-clause-token g c =
    let so_far = c.loop-i.invariant in
    string_come (g.S.Space.image c.args.space.now) c.args.number 512 c.args.at c.loop-i.i c.loop-i.cursor.at c.in_ok-byte.byte c.loop-i.token so_far.goes
    (rw so_far.stays.same_image at c.in_ok-byte.ensures.byte) (omega arith) (omega arith)

pub returns-clause-token : goal.returns-clause-token
returns-clause-token g c =
    string_lacks (g.S.Space.image c.args.space.now) c.args.number 512 c.args.at c.loop-i.i c.loop-i.cursor.at c.loop-i.token.items c.loop-i.invariant.goes (omega arith)
