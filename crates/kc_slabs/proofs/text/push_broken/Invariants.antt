use Rattle.std.proofs.Common.{◌≡◌, ◌++◌, drop}
use Rattle.kc_text.specs.Compose.{texts}
use Rattle.kc_slab_page.specs.Caches.{caches_view}
use Rattle.kc_slabs.specs.Text.{slab_text}
use Rattle.kc_slabs.proofs.text.push_broken.Given as goal

-- what was added, and what is still to come, are the whole
abbrev pub invariant-loop-slab : goal.invariant-loop-slab
invariant-loop-slab l = l.text.items ++ texts (slab_text (caches_view l.caches)) (drop l.slab-index l.broken) ≡ l.fn.text.items ++ texts (slab_text (caches_view l.caches)) l.broken
