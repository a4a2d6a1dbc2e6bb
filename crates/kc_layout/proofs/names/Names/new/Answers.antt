use Rattle.std.proofs.Common.{◌≡◌, true, false, ℕ, Vec, Global, map, sym, ◌∙◌, arith}
use Rattle.std.proofs.lemmas.List.{length-map}
use Rattle.kc_btf.specs.Readers.{name_at}
use Rattle.kc_layout.specs.Names.{is_kept, bucket_of}
use Rattle.kc_layout.proofs.IndexLemmas.{holds_none, holds_other, holds_more, stands_for, bucket_cut}
use Rattle.kc_layout.proofs.names.Names.new.Goals as goal
use Rattle.kc_layout.proofs.names.Names.new.Goals.{then-is_kept+in_ok-keep, else-is_kept}

pub loop-index-init : goal.loop-index-init
loop-index-init c =
    let seen = λ (v : Vec ℕ Global). v.items in
    holds_none c.args.btf.now (map seen c.in_ok-buckets.buckets.items) (length-map c.in_ok-buckets.buckets.items seen ∙ c.in_ok-buckets.ensures.many) c.in_ok-buckets.ensures.empty

pub loop-index-preserved : goal.loop-index-preserved
loop-index-preserved c =
    let seen = λ (v : Vec ℕ Global). v.items in
    let before = map seen c.loop-index.buckets.items in
    let t = c.ty-t.result in
    elim c.if-is_kept.branch [
      | then-is_kept+in_ok-keep w ↦
          let kept : is_kept t.kind ≡ true = sym c.is_kept.ensures ∙ w.if-is_kept.true in
          let name = name_at c.args.btf.now.strings t.name in
          let bucket : w.bucket_of-bucket.result ≡ bucket_of name = bucket_cut name w.name_start.result.now w.bucket_of-bucket.result w.name_start.ensures w.bucket_of-bucket.ensures.exact in
          let more = holds_more c.args.btf.now c.loop-index.index before t c.loop-index.invariant c.ty-t.ensures.exact kept in
          rw (w.buckets-is, w.in_ok-keep.ensures.added, bucket) more
      | else-is_kept w ↦
          let other : is_kept t.kind ≡ false = sym c.is_kept.ensures ∙ w.if-is_kept.false in
          rw w.buckets-is (holds_other c.args.btf.now c.loop-index.index before t c.loop-index.invariant c.ty-t.ensures.exact other)
    ]

pub returns : goal.returns
returns c =
    stands_for c.args.btf.now c.loop-index.index (map (λ (v : Vec ℕ Global). v.items) c.loop-index.buckets.items) (omega arith) c.loop-index.invariant
