use Rattle.std.proofs.Common.{◌≡◌, ◌++◌, drop}
use Rattle.kc_text.specs.Compose.{texts}
use Rattle.kc_slab_page.specs.Caches.{caches_view}
use Rattle.kc_slabs.specs.Text.{cpu_text}
use Rattle.kc_slabs.proofs.text.push_cpus.Given as goal

-- what was added, and what is still to come, are the whole
abbrev pub invariant-loop-cpu : goal.invariant-loop-cpu
invariant-loop-cpu l = l.text.items ++ texts (cpu_text (caches_view l.caches)) (drop l.cpu-index l.broken) ≡ l.fn.text.items ++ texts (cpu_text (caches_view l.caches)) l.broken
