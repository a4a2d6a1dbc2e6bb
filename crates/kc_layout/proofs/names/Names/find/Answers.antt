use Rattle.std.proofs.Common.{◌≡◌, ◌<◌, [], ℕ, Vec, Global, length, get_or, ap, ◌∙◌, arith}
use Rattle.std.proofs.lemmas.Bool.Decides.{nat_tests}
use Rattle.kc_layout.specs.Names.{bucket_of}
use Rattle.kc_layout.proofs.IndexLemmas.{bucket_read, bucket_start, sought_by}
use Rattle.kc_layout.proofs.names.Names.find.Goals as goal

pub sought_in-requires : goal.sought_in-requires
sought_in-requires c =
    let numbers = bucket_read (λ (v : Vec ℕ Global). v.items) c.self.inside.buckets.items c.args.self.now c.bucket_of-bucket.result c.index.result.now c.deref.result.now c.self.view_is c.requires.many
    c.bucket_of-bucket.ensures.there c.index.ensures c.deref.ensures.value in
    rw numbers (c.requires.numbers c.bucket_of-bucket.result c.bucket_of-bucket.ensures.there)

pub returns-clause-exact : goal.returns-clause-exact
returns-clause-exact c =
    let numbers = bucket_read (λ (v : Vec ℕ Global). v.items) c.self.inside.buckets.items c.args.self.now c.bucket_of-bucket.result c.index.result.now c.deref.result.now c.self.view_is c.requires.many
    c.bucket_of-bucket.ensures.there c.index.ensures c.deref.ensures.value in
    let bucket : c.bucket_of-bucket.result ≡ bucket_of c.args.name.now = c.bucket_of-bucket.ensures.exact ∙ bucket_start c.args.name.now c.min.result c.min.ensures in
    let some : 0 < length c.args.name.now = grind (arith, nat_tests) in
    let there = numbers ∙ ap (λ at. get_or c.args.self.now at []) bucket in
    c.sought_in.ensures.exact ∙ sought_by c.args.btf.now c.args.self.now c.args.name.now c.deref.result.now c.requires some there
