use Rattle.std.proofs.Common.{sym}
use Rattle.kc_layout.proofs.MemberLemmas.{search-finds}
use Rattle.kc_layout.proofs.member.find_member.Goals as goal

pub returns-clause-member : goal.returns-clause-member
returns-clause-member c = search-finds 33 c.args.btf.now c.args.name.now c.args.t.id c.args.base 65536 c.search_type.result (sym c.search_type.ensures.exact)
