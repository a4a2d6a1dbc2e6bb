use Rattle.kc_cert.proofs.CertifyingLemmas.Shaping.{pids_shaped}
use Rattle.kc_cert.proofs.shapes.pid_lists.Goals as goal

pub returns-clause-shape : goal.returns-clause-shape
returns-clause-shape g c =
    pids_shaped (g.S.Space.image c.args.space.now) c.args.shape.now c.args.asked.now.audit c.args.asked.now.start c.list_pids.result c.list_pids.ensures.lists
