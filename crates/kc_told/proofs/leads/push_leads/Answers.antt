use Rattle.kc_told.proofs.leads.push_leads.Goals as goal

pub returns : goal.returns
returns c = rw c.meaning_of.ensures at c.push_told_lead.ensures
