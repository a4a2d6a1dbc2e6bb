use Rattle.kc_plan.proofs.DocumentLemmas.{parsed-whole, parsed-refused}
use Rattle.kc_plan.proofs.document.document_of.Goals as goal

pub returns-in-Ok : goal.returns-in-Ok
returns-in-Ok c = parsed-whole c.args.bytes.now _ c.in-Ok.ensures.ok.0 c.in-Ok.ensures.ok.1

pub returns-else-is_memory : goal.returns-else-is_memory
returns-else-is_memory c =
    parsed-refused c.args.bytes.now (c.in-Err.ensures.refused (λ memory. let told = c.is_memory.ensures.1 memory in cc))
