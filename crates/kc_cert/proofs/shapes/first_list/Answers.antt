use Rattle.kc_cert.proofs.FitsLemmas.Copying.{copy_is}
use Rattle.kc_cert.proofs.shapes.first_list.Goals as goal

pub returns : goal.returns
returns c = copy_is c.copied.result c.args.lists.now c.get.result.now c.get.ensures c.copied.ensures
