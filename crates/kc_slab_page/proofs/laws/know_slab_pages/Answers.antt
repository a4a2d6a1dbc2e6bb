use Rattle.kc_slab_page.proofs.SlabLaws.{guards_are_kept, slabs_stand, whole_slabs}
use Rattle.kc_slab_page.proofs.laws.know_slab_pages.Goals as goal

pub returns-clause-whole : goal.returns-clause-whole
returns-clause-whole c = whole_slabs c.know_free_lists.ensures.walked

pub returns-clause-kept : goal.returns-clause-kept
returns-clause-kept c = guards_are_kept c.know_guards.ensures.hold

pub returns-clause-stand : goal.returns-clause-stand
returns-clause-stand c =
    slabs_stand (record { values = c.know_values.ensures.values; frees = c.know_free_lists.ensures.places; spoiled = c.know_guards.ensures.stand })
