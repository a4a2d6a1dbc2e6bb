use Rattle.std.proofs.Common.{◌∙◌, ap}
use Rattle.kc_gen.specs.Header.{core_file, dump}
use Rattle.kc_gen.proofs.files.make.Goals as goal

pub returns-clause-dump : goal.returns-clause-dump
unfolding dump
returns-clause-dump c =
    c.new.ensures ∙ c.in_ok-dump.ensures
    ∙ ap core_file (c.deref.ensures.value ∙ (rw (c.hurt_item.ensures, c.from-n.ensures) at c.in_ok-memory.ensures))
