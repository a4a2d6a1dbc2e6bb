use Rattle.std.proofs.Common.{◌≡◌, rules, subst, sym}
use Rattle.kc_kinds.specs.declared.kind.Kind.{Kind}
use Rattle.kc_kinds.specs.declared.kind.Kind.TheVariants.{Ring, Hlist}
use Rattle.kc_cert.specs.Certifying.Certified.{ShapesAs}
use Rattle.kc_cert.proofs.CertifyingLemmas.Shaping.{chain_shaped, ring_shaped, single_shaped}
use Rattle.kc_cert.proofs.shapes.collect_shape.Goals as goal

pub returns-in-Ring-clause-shape : goal.returns-in-Ring-clause-shape
returns-in-Ring-clause-shape g c =
    let same : c.args.kind.now ≡ Ring c.in-Ring.shape = search rules in
    subst (λ (kind : Kind). ShapesAs kind c.args.asked.now.audit c.args.asked.now.start (g.S.Space.image c.args.space.now) c.single.result) (sym same)
    (single_shaped (Ring c.in-Ring.shape) c.args.asked.now.audit c.args.asked.now.start (g.S.Space.image c.args.space.now) c.ring.result c.single.result c.single.ensures
    (ring_shaped c.know_listed_rings.ensures.rings c.know_lists.ensures.rings (g.S.Space.image c.args.space.now) c.in-Ring.shape c.args.asked.now.audit c.args.asked.now.start c.ring.result c.ring.ensures.walk))

pub returns-in-Hlist-clause-shape : goal.returns-in-Hlist-clause-shape
returns-in-Hlist-clause-shape g c =
    let same : c.args.kind.now ≡ Hlist c.in-Hlist.shape = search rules in
    subst (λ (kind : Kind). ShapesAs kind c.args.asked.now.audit c.args.asked.now.start (g.S.Space.image c.args.space.now) c.single-in-Hlist.result) (sym same)
    (single_shaped (Hlist c.in-Hlist.shape) c.args.asked.now.audit c.args.asked.now.start (g.S.Space.image c.args.space.now) c.hchain.result c.single-in-Hlist.result c.single-in-Hlist.ensures
    (chain_shaped c.know_listed_rings.ensures.chains c.know_lists.ensures.hash_chains (g.S.Space.image c.args.space.now) c.in-Hlist.shape c.args.asked.now.audit c.args.asked.now.start c.hchain.result c.hchain.ensures.walk))
