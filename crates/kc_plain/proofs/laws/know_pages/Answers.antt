use Rattle.kc_plain.proofs.PageLaws.{page_stands, pages_end}
use Rattle.kc_plain.proofs.laws.know_pages.Goals as goal

pub returns-clause-page : goal.returns-clause-page
returns-clause-page c = page_stands

pub returns-clause-end : goal.returns-clause-end
returns-clause-end c = pages_end
