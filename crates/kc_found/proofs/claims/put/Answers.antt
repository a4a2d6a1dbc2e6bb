use Rattle.std.proofs.Common.{◌≡◌, ◌/◌, ◌%◌, true, false, not, get_or, length, sym, ◌∙◌, ap, arith}
use Rattle.kc_found.specs.Blocks.{free}
use Rattle.kc_found.proofs.Stored.{any_default, set_already, mark_words, first_word, misses_same, some_number}
use Rattle.kc_found.proofs.Table.{flag_is_all, free_misses, nowhere_misses, odd_misses}
use Rattle.kc_found.proofs.claims.put.Goals as goal

pub put_other-requires : goal.put_other-requires
put_other-requires c = odd_misses c.args.blocks.now.items c.args.pa c.if-pa-ne0.true

pub returns-then-words-word-clause-answer : goal.returns-then-words-word-clause-answer
returns-then-words-word-clause-answer c =
    let blocks = c.args.blocks.now.items in
    let spot = rw c.deref.ensures.value at c.in-Here.ensures in
    let stands : get_or blocks c.in-Here.place free ≡ c.index.result.now = any_default blocks c.in-Here.place free c.index.result.now spot.0.within ∙ sym c.index.ensures in
    let eight = c.requires.eight c.in-Here.place spot.0.within in
    let set-there : get_or (get_or blocks c.in-Here.place free).words (c.args.pa / 8 % 8) false ≡ true = rw stands (c.if-words-word.true) in
    sym (ap not (set_already blocks c.args.others.now.keys c.in-Here.place c.args.pa spot.0.within spot.1 (some_number c.args.pa (omega (arith, c.ranges.pa.fits))) c.if-pa-ne0.false (omega (arith, eight)) set-there))

pub put_other-requires-in-Nowhere : goal.put_other-requires-in-Nowhere
put_other-requires-in-Nowhere c =
    let spot = rw c.deref.ensures.value at c.in-Nowhere.ensures in
    nowhere_misses c.args.blocks.now.items c.args.pa c.requires spot (λ e. omega (arith, c.ranges.pa.fits))

pub returns-else-is_other-clause-answer : goal.returns-else-is_other-clause-answer
returns-else-is_other-clause-answer c =
    let blocks = c.args.blocks.now.items in
    let spot = rw c.deref.ensures.value at c.in-Here.ensures in
    let stands : get_or blocks c.in-Here.place free ≡ c.index.result.now = any_default blocks c.in-Here.place free c.index.result.now spot.0.within ∙ sym c.index.ensures in
    let not-set : get_or (get_or blocks c.in-Here.place free).words (c.args.pa / 8 % 8) false ≡ false = rw stands (c.if-words-word.false) in
    let misses = flag_is_all blocks c.args.pa c.in-Here.place c.requires spot.0 spot.1 (λ e. omega (arith, c.ranges.pa.fits)) c.if-pa-ne0.false not-set in
    sym (ap not (misses_same blocks c.args.others.now.keys c.args.pa misses ∙ (sym c.is_other.ensures ∙ c.if-is_other.false)))

pub returns-else-is_other-clause-words : goal.returns-else-is_other-clause-words
returns-else-is_other-clause-words c =
    let blocks = c.args.blocks.now.items in
    let spot = rw c.deref.ensures.value at c.in-Here.ensures in
    let stands : get_or blocks c.in-Here.place free ≡ c.index.result.now = any_default blocks c.in-Here.place free c.index.result.now spot.0.within ∙ sym c.index.ensures in
    let eight : length c.index.result.now.words ≡ 8 = sym (ap (λ b. length b.words) stands) ∙ c.requires.eight c.in-Here.place spot.0.within in
    mark_words blocks c.args.others.now.keys c.in-Here.place c.args.pa c.index.result.now.words spot.0.within spot.1 (ap (λ b. b.words) stands) (some_number c.args.pa (omega (arith, c.ranges.pa.fits))) c.if-pa-ne0.false (omega (arith, eight)) c.if-words-word.false

pub returns-else-is_other-2-clause-answer : goal.returns-else-is_other-2-clause-answer
returns-else-is_other-2-clause-answer c =
    let blocks = c.args.blocks.now.items in
    let spot = rw c.deref.ensures.value at c.in-Free.ensures in
    let misses = free_misses blocks c.args.pa c.in-Free.place c.requires spot.0 spot.1 (λ e. omega (arith, c.ranges.pa.fits)) in
    sym (ap not (misses_same blocks c.args.others.now.keys c.args.pa misses ∙ (sym c.is_other-in-Free.ensures ∙ c.if-is_other-2.false)))

pub returns-else-is_other-2-clause-words : goal.returns-else-is_other-2-clause-words
returns-else-is_other-2-clause-words c =
    let spot = rw c.deref.ensures.value at c.in-Free.ensures in
    first_word c.args.blocks.now.items c.args.others.now.keys c.in-Free.place c.args.pa spot.0.within spot.1 (some_number c.args.pa (omega (arith, c.ranges.pa.fits))) c.if-pa-ne0.false
