use Rattle.std.proofs.Common.{flat_map, ◌∷◌, [], ◌+◌, ◌*◌}
use Rattle.kc_gen.specs.Array.{count, slots_bytes}
use Rattle.kc_gen.specs.Bytes.{word_bytes}
use Rattle.kc_gen.specs.Places.{array_head, image}
use Rattle.kc_gen.proofs.Loops.{three}
use Rattle.kc_gen.proofs.array.push_node.Goals as goal

pub returns : goal.returns
returns c =
    let node = c.args.node in
    three c.args.bytes.now.items (flat_map word_bytes ((4 * c.args.level + 256 * node.slot + 65536 * count c.args.n c.args.level node) ∷ node.parent ∷ image array_head ∷ []))
    (slots_bytes c.args.n c.args.level node) (word_bytes 0) c.push_words.new.bytes.items c.push_slots.new.bytes.items c.push_word.new.bytes.items
    (rw (c.from.ensures, c.count.ensures.exact, c.image.ensures) at c.in_ok-push_words.ensures) c.in_ok-push_slots.ensures c.in_ok-push_word.ensures
