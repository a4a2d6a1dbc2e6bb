use Rattle.kc_kinds.specs.Kernels.{kernel}
use Rattle.kc_kinds.proofs.SlabLemmas.{made_of}
use Rattle.kc_kinds.proofs.slabs.slub_of.Goals as goal

pub returns-clause-exact : goal.returns-clause-exact
returns-clause-exact c =
    rw (c.vmemmap_in.ensures, c.direct_in.ensures, c.node_ids_in.ensures) (made_of (kernel c.args.known.now) c.args.list c.args.cache c.args.node c.args.slab c.args.page_size _ _)
