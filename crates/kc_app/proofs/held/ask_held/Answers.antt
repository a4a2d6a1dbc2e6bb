use Rattle.kc_app.proofs.held.ask_held.Goals as goal

pub returns-clause-says : goal.returns-clause-says
returns-clause-says g c = rw (c.segments-segments.ensures, c.paging_by-paging.ensures) at c.ask_dump.ensures.says
