use Rattle.std.proofs.Common.{◌∙◌, ap, option_and_then}
use Rattle.kc_slab_page.specs.Marks.{mask_of}
use Rattle.kc_slab_page.proofs.mark.bit_of.Goals as goal

pub returns : goal.returns
returns c = c.mask_of.ensures ∙ ap (option_and_then mask_of) c.number_of.ensures
