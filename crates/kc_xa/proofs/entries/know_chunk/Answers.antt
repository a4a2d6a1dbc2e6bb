use Rattle.std.proofs.Common.{subst}
use Rattle.kc_found.specs.XaLayouts.{XaLayout, IsChunk}
use Rattle.kc_xa.proofs.Rising.{chunk_small, chunk_some}
use Rattle.kc_xa.proofs.entries.know_chunk.Goals as goal

pub returns-clause-is : goal.returns-clause-is
returns-clause-is c = subst (λ (l : XaLayout). IsChunk l.chunk) c.shape.view_is c.shape.invariant

pub returns-clause-small : goal.returns-clause-small
returns-clause-small c = chunk_small c.args.shape.now.chunk (subst (λ (l : XaLayout). IsChunk l.chunk) c.shape.view_is c.shape.invariant)

pub returns-clause-some : goal.returns-clause-some
returns-clause-some c = chunk_some c.args.shape.now.chunk (subst (λ (l : XaLayout). IsChunk l.chunk) c.shape.view_is c.shape.invariant)
