use Rattle.std.proofs.Common.{Some, None}
use Rattle.kc_layout.proofs.AllLinesLemmas.{listing-all}
use Rattle.kc_layout.proofs.ListingLemmas.{listing-whole}
use Rattle.kc_layout.proofs.LineLemmas.{listing-lines}
use Rattle.kc_layout.proofs.listing.list_members.Goals as goal

pub returns-in-Some-clause-exact : goal.returns-in-Some-clause-exact
returns-in-Some-clause-exact c = listing-whole c.args.btf.now c.args.t.id c.new-lines.result.items c.list_type.new.lines.items (Some c.in-Some.field-0) c.new-lines.ensures.items (rw c.in-Some.is at c.in_ok-list_type.ensures.exact)

pub returns-in-None-clause-exact : goal.returns-in-None-clause-exact
returns-in-None-clause-exact c = listing-whole c.args.btf.now c.args.t.id c.new-lines.result.items c.list_type.new.lines.items None c.new-lines.ensures.items (rw c.in-None.is at c.in_ok-list_type.ensures.exact)

pub returns-in-Some-clause-members : goal.returns-in-Some-clause-members
returns-in-Some-clause-members c = listing-lines c.args.btf.now c.args.t.id c.list_type.new.lines.items (returns-in-Some-clause-exact c)

pub returns-in-Some-clause-complete : goal.returns-in-Some-clause-complete
returns-in-Some-clause-complete c = listing-all c.args.btf.now c.args.t.id c.list_type.new.lines.items (returns-in-Some-clause-exact c)
