use Rattle.kc_found.proofs.test.know_most.Goals as goal

pub returns : goal.returns
returns g c = g.met.S.Space.most_small c.args.space.now
