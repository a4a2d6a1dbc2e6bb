use Rattle.std.proofs.Common.{Vec, Global, ◌≡◌, ℕ, ◌+◌, ◌-◌, List, [], ◌∷◌, ◌++◌, Option, Ok, Err, IfSome, All, sym, ap, ◌∙◌, subst, arith}
use Rattle.kc_word.specs.Answers.{Tells}
use Rattle.kc_outside.specs.Files.{content}
use Rattle.kc_flattened.specs.declared.fault.FlatFault.TheVariants.{TooMany}
use Rattle.kc_flattened.specs.declared.fault.FlatStop.TheVariants.{Fault}
use Rattle.kc_flattened.specs.declared.record.Record.{Record}
use Rattle.kc_flattened.specs.Answers.{told}
use Rattle.kc_flattened.specs.Flat.{IsInside, before, record_at, records_from}
use Rattle.kc_flattened.proofs.FlatLemmas.{both, along, all_more, all_end, all_fault, all_many, tells_along, answers, answered, all_one}
use Rattle.kc_flattened.proofs.read.read_all.Goals as goal

pub returns-in-Err-clause-told : goal.returns-in-Err-clause-told
returns-in-Err-clause-told g c =
    let h = c.loop-i.invariant in
    let o : Option (List ℕ) = content (g.S.Store.files c.args.store.now) c.args.slot (g.S.Store.opened c.args.store.now c.args.slot) in
    let p : Option (List ℕ) = content (g.S.Store.files c.loop-i.store) c.args.slot (g.S.Store.opened c.loop-i.store c.args.slot) in
    let same : p ≡ o = ap (λ f. content f c.args.slot (g.S.Store.opened c.loop-i.store c.args.slot)) h.files ∙ ap (λ n. content (g.S.Store.files c.args.store.now) c.args.slot (n c.args.slot)) h.opened in
    answers {X = Vec Record Global} {Y = List Record} o (λ rs. rs.items) (Err c.in-Err.stop) (records_from 4194304 c.args.size 4096)
    (both p o
    (λ (bytes : List ℕ). Tells (told c.in-Err.stop) (record_at c.args.size c.loop-i.at bytes))
    (λ (bytes : List ℕ). before c.loop-i.records.items (records_from (4194304 - c.loop-i._i) c.args.size c.loop-i.at bytes) ≡ records_from 4194304 c.args.size 4096 bytes)
    (λ (bytes : List ℕ). Tells (told c.in-Err.stop) (records_from 4194304 c.args.size 4096 bytes))
    same
    (λ bytes tells was. tells_along c.in-Err.stop (record_at c.args.size c.loop-i.at bytes) (records_from 4194304 c.args.size 4096 bytes)
    (λ fault is. all_fault c.loop-i._i c.args.size c.loop-i.at bytes c.loop-i.records.items fault (records_from 4194304 c.args.size 4096 bytes) (omega arith) is was) tells)
    (answered {X = Option Record} {Y = Option Record} p (λ r. r) (Err c.in-Err.stop) (record_at c.args.size c.loop-i.at) c.in-Err.ensures.told)
    h.whole)

pub returns-in-None-clause-told : goal.returns-in-None-clause-told
returns-in-None-clause-told g c =
    let h = c.loop-i.invariant in
    let o : Option (List ℕ) = content (g.S.Store.files c.args.store.now) c.args.slot (g.S.Store.opened c.args.store.now c.args.slot) in
    let p : Option (List ℕ) = content (g.S.Store.files c.loop-i.store) c.args.slot (g.S.Store.opened c.loop-i.store c.args.slot) in
    let same : p ≡ o = ap (λ f. content f c.args.slot (g.S.Store.opened c.loop-i.store c.args.slot)) h.files ∙ ap (λ n. content (g.S.Store.files c.args.store.now) c.args.slot (n c.args.slot)) h.opened in
    answers {X = Vec Record Global} {Y = List Record} o (λ rs. rs.items) (Ok c.loop-i.records) (records_from 4194304 c.args.size 4096)
    (both p o
    (λ (bytes : List ℕ). record_at c.args.size c.loop-i.at bytes ≡ Ok c.in-Ok.next)
    (λ (bytes : List ℕ). before c.loop-i.records.items (records_from (4194304 - c.loop-i._i) c.args.size c.loop-i.at bytes) ≡ records_from 4194304 c.args.size 4096 bytes)
    (λ (bytes : List ℕ). records_from 4194304 c.args.size 4096 bytes ≡ Ok c.loop-i.records.items)
    same
    (λ bytes is was. all_end c.loop-i._i c.args.size c.loop-i.at bytes c.loop-i.records.items (records_from 4194304 c.args.size 4096 bytes) (omega arith) (is ∙ ap (λ x. Ok x) c.in-None.is) was)
    (answered {X = Option Record} {Y = Option Record} p (λ r. r) (Ok c.in-Ok.next) (record_at c.args.size c.loop-i.at) c.in-Ok.ensures.told)
    h.whole)

pub returns-clause-told : goal.returns-clause-told
returns-clause-told g c =
    let h = c.loop-i.invariant in
    let o : Option (List ℕ) = content (g.S.Store.files c.args.store.now) c.args.slot (g.S.Store.opened c.args.store.now c.args.slot) in
    answers {X = Vec Record Global} {Y = List Record} o (λ rs. rs.items) (Err (Fault TooMany)) (records_from 4194304 c.args.size 4096)
    (along o
    (λ (bytes : List ℕ). before c.loop-i.records.items (records_from (4194304 - c.loop-i._i) c.args.size c.loop-i.at bytes) ≡ records_from 4194304 c.args.size 4096 bytes)
    (λ (bytes : List ℕ). records_from 4194304 c.args.size 4096 bytes ≡ Err TooMany)
    (λ bytes was. all_many c.loop-i._i c.args.size c.loop-i.at bytes c.loop-i.records.items (records_from 4194304 c.args.size 4096 bytes) (omega arith) was)
    h.whole)

pub loop-i-preserved : goal.loop-i-preserved
loop-i-preserved g c =
    let h = c.loop-i.invariant in
    let s = c.in-Ok.ensures in
    let o : Option (List ℕ) = content (g.S.Store.files c.args.store.now) c.args.slot (g.S.Store.opened c.args.store.now c.args.slot) in
    let p : Option (List ℕ) = content (g.S.Store.files c.loop-i.store) c.args.slot (g.S.Store.opened c.loop-i.store c.args.slot) in
    let same : p ≡ o = ap (λ f. content f c.args.slot (g.S.Store.opened c.loop-i.store c.args.slot)) h.files ∙ ap (λ n. content (g.S.Store.files c.args.store.now) c.args.slot (n c.args.slot)) h.opened in
    let P : Option Record → Type 0 = λ x. IfSome x (IsInside c.args.size) in
    let here : IsInside c.args.size c.in-Some.record = subst P c.in-Some.is s.inside in
    let items : c.push.new.self.items ≡ c.loop-i.records.items ++ c.in-Some.record ∷ [] = c.in_ok-push.ensures.items in
    let Q : List Record → Type 0 = λ xs. All (IsInside c.args.size) xs in
    record {
      opened = s.stays.same_opened ∙ h.opened;
      sizes = s.stays.same_sizes ∙ h.sizes;
      files = s.stays.same_files ∙ h.files;
      may = λ slot n m. s.stays.may_still slot n (h.may slot n m);
      may_no_more = λ slot n m. h.may_no_more slot n (s.stays.may_no_more slot n m);
      quiet = s.counts ∙ h.quiet;
      asked_later = omega (arith, s.stays.asked_later, h.asked_later);
      within = here.1;
      inside = subst Q (sym items) (all_one (IsInside c.args.size) c.loop-i.records.items c.in-Some.record h.inside here);
      whole =
          both p o
          (λ (bytes : List ℕ). record_at c.args.size c.loop-i.at bytes ≡ Ok c.in-Ok.next)
          (λ (bytes : List ℕ). before c.loop-i.records.items (records_from (4194304 - c.loop-i._i) c.args.size c.loop-i.at bytes) ≡ records_from 4194304 c.args.size 4096 bytes)
          (λ (bytes : List ℕ). before c.push.new.self.items (records_from (4194304 - (c.loop-i._i + 1)) c.args.size (c.in-Some.record.from + c.in-Some.record.count) bytes) ≡ records_from 4194304 c.args.size 4096 bytes)
          same
          (λ bytes is was.
          ap (λ xs. before xs (records_from (4194304 - (c.loop-i._i + 1)) c.args.size (c.in-Some.record.from + c.in-Some.record.count) bytes)) items
          ∙ all_more c.loop-i._i c.args.size c.loop-i.at bytes c.loop-i.records.items c.in-Some.record (records_from 4194304 c.args.size 4096 bytes) (omega arith) (is ∙ ap (λ x. Ok x) c.in-Some.is) was)
          (answered {X = Option Record} {Y = Option Record} p (λ r. r) (Ok c.in-Ok.next) (record_at c.args.size c.loop-i.at) s.told)
          h.whole;
    }
