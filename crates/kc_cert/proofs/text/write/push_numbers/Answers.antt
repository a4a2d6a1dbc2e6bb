use Rattle.std.proofs.Common.{ℕ, ◌<◌, ◌^◌}
use Rattle.std.proofs.lemmas.List.Elements.{All-nil}
use Rattle.kc_cert.specs.Text.CertTexts.{number_line}
use Rattle.kc_cert.proofs.TextLemmas.TimesLoops.{all_item, texts_begin, texts_item}
use Rattle.kc_cert.proofs.text.write.push_numbers.Goals as goal

pub loop-i-init : goal.loop-i-init
loop-i-init c = (
  texts_begin number_line c.args.list.now c.len.result _ _ c.len.ensures c.in_ok-push_count.ensures,
  All-nil (λ (n : ℕ). n < 2 ^ 64),
)

pub loop-i-preserved : goal.loop-i-preserved
loop-i-preserved c = (
  texts_item number_line c.args.list.now c.loop-i.i _ _ _ _ c.get.ensures c.in_ok-push_number.ensures.added c.loop-i.invariant.0,
  all_item (λ (n : ℕ). n < 2 ^ 64) c.args.list.now c.loop-i.i _ c.get.ensures c.loop-i.invariant.1 c.in_ok-push_number.ensures.fits,
)
