use Rattle.std.specs.Prelude.{◌++◌, codes, decimal}
use Rattle.kc_text.specs.Text.{hex}
use Rattle.kc_told.proofs.TextLemmas.{two_added}
use Rattle.kc_told.proofs.near_text.push_descriptor.Goals as goal

pub returns : goal.returns
returns c =
    two_added c.push_numbered.result c.args.text.now.items (codes "descriptor ") (hex c.args.page.number) (codes "+" ++ decimal c.args.page.byte) _ _ _
    c.in_ok-push.ensures c.in_ok-push_hex.ensures c.push_numbered.ensures
