use Rattle.std.proofs.Common.{ap, ◌∙◌}
use Rattle.kc_expr.specs.declared.piece.Mark.{Mark}
use Rattle.kc_expr.specs.Machine.Piece.{path_part}
use Rattle.kc_expr.specs.Views.{mark_of, piece_of, state_of}
use Rattle.kc_expr.proofs.NameLemmas.{name-goes}
use Rattle.kc_expr.proofs.reader.take_name.Goals as goal

pub returns-in_ok-extend_from_slice-in-Path-InName-default-clause-same :
    goal.returns-in_ok-extend_from_slice-in-Path-InName-default-clause-same
returns-in_ok-extend_from_slice-in-Path-InName-default-clause-same c =
    let h = c.in-Path-InName-default in
    let now = c.extend_from_slice.new.self.items in
    name-goes c.args.text.now (state_of c.args.reader.now.state) (piece_of c.args.reader.now.piece) (path_part (mark_of h.field-0) now) h.name.items now c.word_length-taken.result
    (ap piece_of h.is ∙ ap (λ (m : Mark). path_part (mark_of m) h.name.items) h.field-0-is)
    (ap (λ (m : Mark). path_part (mark_of m) now) h.field-0-is)
    c.word_length-taken.ensures.exact
    c.in_ok-extend_from_slice-in-Path-InName-default.ensures.items
