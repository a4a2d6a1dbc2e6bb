use Rattle.std.proofs.Common.{◌∙◌, ap}
use Rattle.kc_gen.specs.Bytes.{laid}
use Rattle.kc_gen.specs.Memory.{heads, tables, to_page, with_entries, with_items, with_nodes}
use Rattle.kc_gen.proofs.memory.memory.Goals as goal

pub returns : goal.returns
returns c =
    let made = c.args.made in
    c.in_ok-pad_page.ensures
    ∙ ap to_page (c.in_ok-lay_nodes.ensures
    ∙ ap (with_nodes made.n) (c.in_ok-lay_items.ensures
    ∙ ap (with_items made.n made.hurt) (c.in_ok-lay_heads.ensures
    ∙ ap (laid (heads made.n)) (c.in_ok-lay_tables.ensures ∙ ap (with_entries tables) c.new-bytes.ensures.items))))
