use Rattle.std.proofs.Common.{[], ◌+◌, ◌<◌, drop, get_or, sym, ◌∙◌, ap, arith, length}
use Rattle.kc_found.specs.declared.blocks.Block.{Block}
use Rattle.kc_found.specs.Blocks.{free, with_blocks}
use Rattle.kc_found.proofs.Stored.{any_default, block_put, next_block, no_more, nothing_free}
use Rattle.kc_found.proofs.Table.{put_in}
use Rattle.kc_found.proofs.blocks.grown.Goals as goal

pub loop-block-preserved-then-block : goal.loop-block-preserved-then-block
loop-block-preserved-then-block c =
    let blocks = c.args.blocks.now in
    let larger = c.loop-block.larger.items in
    let i = c.loop-block.block-index in
    let rest = drop (i + 1) blocks in
    record {
      table = c.loop-block.invariant.table;
      words = λ taken.
          ap (λ t. with_blocks t rest) (sym (nothing_free (with_blocks taken larger) (get_or blocks i (record { number = 0; words = [] })) c.if-block.true))
          ∙ (sym (next_block blocks i (record { number = 0; words = [] }) (with_blocks taken larger) (omega (arith, c.loop-block-test.true))) ∙ c.loop-block.invariant.words taken);
    }

pub loop-block-preserved : goal.loop-block-preserved
loop-block-preserved c =
    let blocks = c.args.blocks.now in
    let larger = c.loop-block.larger.items in
    let i = c.loop-block.block-index in
    let rest = drop (i + 1) blocks in
    let block : Block = get_or blocks i (record { number = 0; words = [] }) in
    let within : i < length blocks = omega (arith, c.loop-block-test.true) in
    let spot = rw c.deref.ensures.value at c.in-Free.ensures in
    record {
      table = put_in larger c.in-Free.place block c.loop-block.invariant.table spot.0 spot.1 (rw (any_default blocks i (record { number = 0; words = [] }) free within) (c.requires.eight i within));
      words = λ taken.
          ap (λ t. with_blocks t rest) (block_put larger taken c.in-Free.place block spot.0.within spot.1)
          ∙ (sym (next_block blocks i (record { number = 0; words = [] }) (with_blocks taken larger) within) ∙ c.loop-block.invariant.words taken);
    }

pub returns-clause-words : goal.returns-clause-words
returns-clause-words c = λ taken. sym (no_more c.args.blocks.now c.loop-block.block-index (with_blocks taken c.loop-block.larger.items) (omega (arith, c.loop-block-test.false))) ∙ c.loop-block.invariant.words taken
