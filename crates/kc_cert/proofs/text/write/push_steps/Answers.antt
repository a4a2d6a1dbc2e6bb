use Rattle.std.proofs.lemmas.List.Elements.{All-nil}
use Rattle.kc_cert.specs.Text.CertTexts.{IsStep, step_text}
use Rattle.kc_cert.proofs.TextLemmas.TimesLoops.{all_item, texts_begin, texts_item}
use Rattle.kc_cert.proofs.text.write.push_steps.Goals as goal

pub loop-i-init : goal.loop-i-init
loop-i-init c = (
  texts_begin step_text c.args.cert.now c.len.result _ _ c.len.ensures c.in_ok-push_count.ensures,
  All-nil IsStep,
)

pub loop-i-preserved : goal.loop-i-preserved
loop-i-preserved c = (
  texts_item step_text c.args.cert.now c.loop-i.i _ _ _ _ c.get.ensures c.in_ok-push_step.ensures.added c.loop-i.invariant.0,
  all_item IsStep c.args.cert.now c.loop-i.i _ c.get.ensures c.loop-i.invariant.1 c.in_ok-push_step.ensures.keeps,
)
