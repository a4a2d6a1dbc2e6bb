use Rattle.kc_sight.specs.Views.{image_symbols}
use Rattle.kc_told.proofs.SaysLemmas.{says_made}
use Rattle.kc_told.proofs.says.push_says.Goals as goal

pub returns : goal.returns
returns c =
    says_made c.push_span.result (image_symbols c.args.image.now) c.meaning_of-meaning.result c.args.va c.args.value c.args.page.now c.args.text.now.items _ _
    c.meaning_of-meaning.ensures c.in_ok-push_word_says.ensures c.push_span.ensures
