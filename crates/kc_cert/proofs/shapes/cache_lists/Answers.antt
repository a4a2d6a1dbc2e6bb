use Rattle.std.proofs.Common.{rules, ◌≡◌, Err}
use Rattle.kc_cert.proofs.CertifyingLemmas.Shaping.{cache_shaped, cache_stops}
use Rattle.kc_cert.proofs.shapes.cache_lists.Goals as goal

pub returns-clause-shape : goal.returns-clause-shape
returns-clause-shape g c =
    cache_shaped c.know_given_lists.ensures.kept_caches (g.S.Space.image c.args.space.now) c.args.shape.now c.args.asked.now.audit c.args.asked.now.start c.in_ok-cache_walk_by.field-0 _ (rw c.new.ensures at c.in_ok-cache_walk_by.ensures.walk)

pub returns-in_err-cache_walk_by-clause-shape : goal.returns-in_err-cache_walk_by-clause-shape
returns-in_err-cache_walk_by-clause-shape g c =
    let ended : c.from_residual.result ≡ Err c.in_err-cache_walk_by.field-0.0 = search rules in
    rw ended (cache_stops c.know_chains.ensures.kept c.know_chains.ensures.caches (g.S.Space.image c.args.space.now) c.args.shape.now c.args.asked.now.audit c.args.asked.now.start _ c.in_err-cache_walk_by.field-0.0 (rw c.new.ensures at c.in_err-cache_walk_by.ensures.walk))
