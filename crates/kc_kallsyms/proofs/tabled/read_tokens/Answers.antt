use Rattle.std.proofs.Common.{◌≡◌, ◌∙◌, Err, arith, rules}
use Rattle.kc_memory.specs.Stays.{stays_on}
use Rattle.kc_kallsyms.proofs.Loops.{tokens_come, tokens_go, tokens_halt}
use Rattle.kc_kallsyms.proofs.tabled.read_tokens.Goals as goal

pub loop-number-preserved : goal.loop-number-preserved
loop-number-preserved g c =
    let so_far = c.loop-number.invariant in
    record {
      goes = tokens_go (g.S.Space.image c.args.space.now) c.args.table 256 c.args.index c.loop-number.number c.loop-number.cursor.at _ c.in_ok-token.token c.loop-number.tokens.items _ so_far.goes
          (rw so_far.stays.same_image at c.in_ok-token.ensures.token) (omega arith) c.in_ok-token.ensures.at c.in_ok-push.ensures.items;
      count = search rules;
      kept = c.in_ok-token.ensures.kept;
      stays = stays_on g.S.Space.image g.S.Space.files g.S.Space.through g.S.Space.most _ _ _ so_far.stays c.in_ok-token.ensures.stays;
      quiet = c.in_ok-token.ensures.cause ∙ so_far.quiet;
    }

pub returns-in_err-token-clause-tokens : goal.returns-in_err-token-clause-tokens
returns-in_err-token-clause-tokens g c =
    let so_far = c.loop-number.invariant in
    let ended : c.from_residual.result ≡ Err c.in_err-token.field-0.0 = search rules in
    rw ended (tokens_halt (g.S.Space.image c.args.space.now) c.args.table 256 c.args.index c.loop-number.number c.loop-number.cursor.at c.loop-number.tokens.items _ so_far.goes
    (rw so_far.stays.same_image at c.in_err-token.ensures.token) (omega arith))

pub returns-clause-tokens : goal.returns-clause-tokens
returns-clause-tokens g c =
    tokens_come (g.S.Space.image c.args.space.now) c.args.table 256 c.args.index c.loop-number.number c.loop-number.cursor.at c.loop-number.tokens c.loop-number.invariant.goes (omega arith)
