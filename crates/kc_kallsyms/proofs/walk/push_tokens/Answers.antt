use Rattle.std.proofs.Common.{◌≡◌, ◌∙◌, List, ℕ, Err, ap, sym, ◌++◌, arith, rules}
use Rattle.kc_memory.specs.Stays.{stays_on}
use Rattle.kc_bytes.specs.Bytes.{onward}
use Rattle.kc_kallsyms.specs.Views.{tokens_view}
use Rattle.kc_kallsyms.proofs.Loops.{text_come, text_first, text_go, text_halt}
use Rattle.kc_kallsyms.proofs.Steps.{onward_more, token_is}
use Rattle.kc_kallsyms.proofs.walk.push_tokens.Goals as goal

pub loop-i-init : goal.loop-i-init
loop-i-init g c = record {
  goes = text_first (g.S.Space.image c.args.space.now) (tokens_view c.args.tokens.now) c.args.count c.args.cursor.now.at c.args.text.now.items;
  place = let fits = c.requires.fits in omega (arith, fits);
  kept = search rules;
  stays = search rules;
  quiet = search rules;
}

pub loop-i-preserved : goal.loop-i-preserved
loop-i-preserved g c =
    let so_far = c.loop-i.invariant in
    record {
      goes = text_go (g.S.Space.image c.args.space.now) (tokens_view c.args.tokens.now) c.args.count c.args.cursor.now.at c.loop-i.i c.loop-i.cursor.at _ c.in_ok-number.number c.args.text.now.items c.loop-i.text.items _ so_far.goes
          (rw so_far.stays.same_image at c.in_ok-number.ensures.byte) (omega arith) c.in_ok-number.ensures.at
          (c.in_ok-extend_from_slice.ensures.items ∙ ap (λ (t : List ℕ). c.loop-i.text.items ++ t) (c.deref.ensures.value ∙ sym (token_is c.args.tokens.now c.in_ok-number.number c.index-tokens-from.result (omega arith) (rw c.from.ensures at c.index-tokens-from.is))));
      place = c.in_ok-number.ensures.at ∙ ap (λ (p : ℕ). onward p 1) so_far.place ∙ onward_more c.args.cursor.now.at c.loop-i.i;
      kept = c.in_ok-number.ensures.kept;
      stays = stays_on g.S.Space.image g.S.Space.files g.S.Space.through g.S.Space.most _ _ _ so_far.stays c.in_ok-number.ensures.stays;
      quiet = c.in_ok-number.ensures.cause ∙ so_far.quiet;
    }

pub returns-in_err-number-clause-text : goal.returns-in_err-number-clause-text
returns-in_err-number-clause-text g c =
    let so_far = c.loop-i.invariant in
    let ended : c.from_residual.result ≡ Err c.in_err-number.field-0.0 = search rules in
    rw ended (text_halt (g.S.Space.image c.args.space.now) (tokens_view c.args.tokens.now) c.args.count c.args.cursor.now.at c.loop-i.i c.loop-i.cursor.at c.args.text.now.items c.loop-i.text.items _ _ so_far.goes
    (rw so_far.stays.same_image at c.in_err-number.ensures.byte) (omega arith))

pub returns-clause-text : goal.returns-clause-text
returns-clause-text g c =
    text_come (g.S.Space.image c.args.space.now) (tokens_view c.args.tokens.now) c.args.count c.args.cursor.now.at c.loop-i.i c.loop-i.cursor.at c.args.text.now.items c.loop-i.text.items c.loop-i.invariant.goes (omega arith)
