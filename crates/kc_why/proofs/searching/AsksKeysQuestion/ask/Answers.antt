use Rattle.std.proofs.Common.{◌≡◌}
use Rattle.kc_why.specs.Searching.{keys_of}
use Rattle.kc_why.proofs.SearchLemmas.{of_each}
use Rattle.kc_why.proofs.searching.AsksKeysQuestion.ask.Goals as goal

pub returns-clause-says : goal.returns-clause-says
returns-clause-says g c = of_each (g.M.Space.image c.args.memory.now) c.read_told.result (λ i told. told ≡ keys_of i c.args.self.now.shape.now) c.read_told.ensures.told
