use Rattle.std.specs.Prelude.{◌++◌, codes}
use Rattle.kc_text.specs.Text.{hex}
use Rattle.kc_told.proofs.TextLemmas.{three_added}
use Rattle.kc_told.proofs.object_text.push_page.Goals as goal

pub returns : goal.returns
returns c =
    let page = c.args.page.now in
    three_added c.push.result c.args.text.now.items (codes "descriptor " ++ hex page.descriptor) (codes " page " ++ hex page.number) (codes " head " ++ hex page.head) (codes "\n") _ _ _ _
    c.in_ok-push_address.ensures c.in_ok-push_address-2.ensures c.in_ok-push_address-3.ensures c.push.ensures
