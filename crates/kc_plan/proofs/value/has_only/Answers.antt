use Rattle.kc_plan.specs.Keys.{is_one_of}
use Rattle.kc_plan.proofs.ListLemmas.{keys-all}
use Rattle.kc_plan.proofs.value.has_only.Goals as goal

pub loop-key-init : goal.loop-key-init
loop-key-init c =
    rw (c.into_iter-key-iterator.ensures.into_iter_gives, c.keys-key-items.ensures.rest) (keys-all (is_one_of c.args.keys.now) c.args.table.now.entries)
