use Rattle.std.proofs.Common.{rules}
use Rattle.kc_told.specs.Views.{shapes_view}
use Rattle.kc_why.proofs.LookLemmas.{asked}
use Rattle.kc_why.proofs.looking.LookingQuestion.ask.Goals as goal

pub returns-clause-says : goal.returns-clause-says
returns-clause-says g c =
    asked (g.M.Space.image c.args.memory.now) c.args.self.now.rules.now (shapes_view c.args.self.now.shapes.now) c.args.self.now.address c.args.self.now.entries.items c.in_ok-entries.entries c.read_sighted.result
    (search rules) c.read_sighted.ensures.address c.read_sighted.ensures.entries
    (record {
      word = c.read_sighted.ensures.word;
      aliases_are = c.read_sighted.ensures.aliases;
      near_are = c.read_sighted.ensures.near;
      page = c.read_sighted.ensures.page;
      told = c.read_sighted.ensures.told;
      leads = c.read_sighted.ensures.leads;
    })
