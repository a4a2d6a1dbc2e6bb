use Rattle.std.proofs.Common.{ℕ, [], ◌∷◌, Vec, Global, length, refl, ap, ◌∙◌, arith, length-append}
use Rattle.kc_layout.proofs.IndexLemmas.{empty_more}
use Rattle.kc_layout.proofs.names.empty_buckets.Goals as goal

pub loop-init : goal.loop-init
loop-init c = rw c.in_ok-buckets.ensures.items (record { many = refl; empty = λ bucket. refl })

pub loop-preserved : goal.loop-preserved
loop-preserved c =
    let pushed = c.in_ok-push.ensures.items in
    record {
      many = ap length pushed ∙ length-append c.loop.buckets.items (c.new.result ∷ []) ∙ omega (arith, c.loop.invariant.many);
      empty = λ bucket. rw pushed (empty_more (λ (v : Vec ℕ Global). v.items) c.loop.buckets.items c.new.result c.new.ensures.items c.loop.invariant.empty bucket);
    }
