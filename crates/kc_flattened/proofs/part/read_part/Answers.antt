use Rattle.std.proofs.Common.{◌≡◌, ℕ, ◌+◌, ◌<◌, ◌≤◌, List, [], length, take, drop, slice_index, get_or, refl, sym, ap, ◌∙◌, arith}
use Rattle.std.proofs.lemmas.List.{take_all}
use Rattle.kc_outside.specs.Files.{content}
use Rattle.kc_flattened.specs.declared.record.Record.{Record}
use Rattle.kc_flattened.specs.Flat.{written, values, byte_of, pasted, size_of}
use Rattle.kc_flattened.proofs.FlatLemmas.{each, both, along, written_none, written_more, values_are, values_part}
use Rattle.kc_flattened.proofs.part.read_part.Goals as goal

pub loop-record-init : goal.loop-record-init
loop-record-init g c = record {
  opened = refl;
  sizes = refl;
  files = refl;
  may = λ s n h. h;
  may_no_more = λ s n h. h;
  quiet = refl;
  asked_later = omega arith;
  whole =
      each (content (g.S.Store.files c.args.store.now) c.args.slot (g.S.Store.opened c.args.store.now c.args.slot))
      (λ (bytes : List ℕ). (k : ℕ) → k < length c.clear.new.buf → slice_index c.clear.new.buf k ≡ written bytes [] (c.args.off + k) 0)
      (λ bytes k less. c.clear.ensures k (omega arith) ∙ sym (written_none bytes (c.args.off + k) 0));
}

pub loop-record-preserved : goal.loop-record-preserved
loop-record-preserved g c =
    let h = c.loop-record.invariant in
    let s = c.in_ok-read_over.ensures in
    let d : Record = record { to = 0; count = 0; from = 0 } in
    record {
      opened = s.stays.same_opened ∙ h.opened;
      sizes = s.stays.same_sizes ∙ h.sizes;
      files = s.stays.same_files ∙ h.files;
      may = λ slot n m. s.stays.may_still slot n (h.may slot n m);
      may_no_more = λ slot n m. h.may_no_more slot n (s.stays.may_no_more slot n m);
      quiet = s.quiet ∙ h.quiet;
      asked_later = omega (arith, s.stays.asked_later, h.asked_later);
      whole =
          both (content (g.S.Store.files c.loop-record.store) c.args.slot (g.S.Store.opened c.loop-record.store c.args.slot))
          (content (g.S.Store.files c.args.store.now) c.args.slot (g.S.Store.opened c.args.store.now c.args.slot))
          (λ (bytes : List ℕ). (k : ℕ) → k < length c.loop-record.buf
          → slice_index c.read_over.new.buf k ≡ byte_of bytes (get_or c.args.records.now c.loop-record.record-index d) (c.args.off + k) (slice_index c.loop-record.buf k))
          (λ (bytes : List ℕ). (k : ℕ) → k < length c.loop-record.buf → slice_index c.loop-record.buf k ≡ written bytes (take c.loop-record.record-index c.args.records.now) (c.args.off + k) 0)
          (λ (bytes : List ℕ). (k : ℕ) → k < length c.read_over.new.buf → slice_index c.read_over.new.buf k ≡ written bytes (take (c.loop-record.record-index + 1) c.args.records.now) (c.args.off + k) 0)
          (ap (λ f. content f c.args.slot (g.S.Store.opened c.loop-record.store c.args.slot)) h.files ∙ ap (λ o. content (g.S.Store.files c.args.store.now) c.args.slot (o c.args.slot)) h.opened)
          (λ bytes now was k less.
          written_more bytes c.args.records.now c.loop-record.record-index d (c.args.off + k) 0 (slice_index c.loop-record.buf k) (slice_index c.read_over.new.buf k)
          c.loop-record-test.true (now k (omega arith)) (was k (omega arith)))
          s.told h.whole;
    }

pub returns-clause-told : goal.returns-clause-told
returns-clause-told g c =
    let h = c.loop-record.invariant in
    along (content (g.S.Store.files c.args.store.now) c.args.slot (g.S.Store.opened c.args.store.now c.args.slot))
    (λ (bytes : List ℕ). (k : ℕ) → k < length c.loop-record.buf → slice_index c.loop-record.buf k ≡ written bytes (take c.loop-record.record-index c.args.records.now) (c.args.off + k) 0)
    (λ (bytes : List ℕ). c.loop-record.buf ≡ values (λ i. written bytes c.args.records.now i 0) c.args.off (length c.args.buf.now))
    (λ bytes is.
    let long : length c.loop-record.buf ≡ length c.args.buf.now = omega arith in
    values_are (λ i. written bytes c.args.records.now i 0) c.loop-record.buf c.args.off
    (λ k less. is k less ∙ ap (λ rs. written bytes rs (c.args.off + k) 0) (take_all c.loop-record.record-index c.args.records.now c.loop-record-test.false))
    ∙ ap (λ n. values (λ i. written bytes c.args.records.now i 0) c.args.off n) long)
    h.whole

pub returns-clause-part : goal.returns-clause-part
returns-clause-part g c =
    let h = c.loop-record.invariant in
    along (content (g.S.Store.files c.args.store.now) c.args.slot (g.S.Store.opened c.args.store.now c.args.slot))
    (λ (bytes : List ℕ). c.loop-record.buf ≡ values (λ i. written bytes c.args.records.now i 0) c.args.off (length c.args.buf.now))
    (λ (bytes : List ℕ). c.args.off + length c.args.buf.now ≤ size_of c.args.records.now
    → c.loop-record.buf ≡ take (length c.args.buf.now) (drop c.args.off (pasted bytes c.args.records.now)))
    (λ bytes is within.
    is ∙ sym (values_part (λ i. written bytes c.args.records.now i 0) 0 c.args.off (length c.args.buf.now) (size_of c.args.records.now) within
    ∙ ap (λ a. values (λ i. written bytes c.args.records.now i 0) a (length c.args.buf.now)) (let e : 0 + c.args.off ≡ c.args.off = omega arith in e)))
    (returns-clause-told g c)
