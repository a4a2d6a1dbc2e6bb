use Rattle.std.proofs.Common.{◌≡◌, ◌*◌, ◌%◌, ℕ, Bool, true, false, drop, get_or, sym, ap, subst, ◌∙◌}
use Rattle.std.specs.List.{list_all}
use Rattle.std.proofs.lemmas.Bool.{or_parts}
use Rattle.byteorder.specs.Endian.{little_number}
use Rattle.kc_sight.specs.Refs.Writings.{Sought, codes, has_bit}
use Rattle.kc_sight.proofs.RefsLemmas.NearLemmas.{one_less}
use Rattle.kc_sight.proofs.refs.sought.Sought.may_hold.Goals as goal

pub loop-k-preserved : goal.loop-k-preserved
loop-k-preserved c = λ none.
    let parts = or_parts c.loop-k.may c.index.result.now none in
    let near = c.self.inside.near.items in
    let law : list_all (has_bit near) (codes c.args.self.now.value c.args.self.now.direct c.args.self.now.randoms) ≡ true =
    subst (λ (s : Sought). list_all (has_bit near) (codes s.value s.direct s.randoms) ≡ true) c.self.view_is c.self.inside.near_law in
    let lacks : has_bit near (little_number 8 (drop (8 * c.loop-k.k) c.args.bytes.now)) ≡ false =
    ap (λ (n : ℕ). get_or near n false) (sym c.low_bits.ensures.low)
    ∙ ap (λ (b : Bool). get_or near c.low_bits.result b) (sym parts.1)
    ∙ sym c.index.ensures
    ∙ parts.1 in
    one_less c.args.self.now near c.args.bytes.now c.loop-k.k law (c.loop-k.invariant parts.0) lacks
