use Rattle.kc_slabs.proofs.SlabsLemmas.{four_texts, text_after}
use Rattle.kc_slabs.proofs.text.push_spoiled.Goals as goal

pub returns : goal.returns
returns c =
    text_after c.push_places.result c.args.text.now.items _ c.push-2.new.text.items _ c.push_places.new.text.items
    (four_texts c.args.text.now.items _ _ _ _ c.push_byte.new.text.items c.push.new.text.items c.push_hex.new.text.items c.push-2.new.text.items
    c.in_ok-push_byte.ensures c.in_ok-push.ensures c.in_ok-push_hex.ensures c.in_ok-push-2.ensures)
    c.push_places.ensures
