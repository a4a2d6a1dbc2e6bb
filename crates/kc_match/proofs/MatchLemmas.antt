-- The answer on the rows of a map, and what standard output took of it.
use Rattle.std.proofs.Common.{◌≡◌, ℕ, List, Option, Some, Ok, option_map, sym, ap, ◌∙◌}
use Rattle.kc_btf.specs.Btf.{Types}
use Rattle.kc_syms.specs.Rows.{RowText, addresses}
use Rattle.kc_command.specs.Inputs.{rows_in}
use Rattle.kc_command.specs.declared.ends.answer.Answer.{Answer}
use Rattle.kc_command.specs.Ends.Output.{ended}
use Rattle.kc_command.specs.Ends.Answers.{written_by}
use Rattle.kc_match.specs.declared.beside.TypesBeside.{TypesBeside}
use Rattle.kc_match.specs.Match.{match_written, matched, matched_in}

-- symbols that list the addresses of the rows are those of the map
pub prints_matched : (note : List ℕ) (types : Types) (kaslr : ℕ) (told : TypesBeside) (map : List ℕ) (listed : List ℕ → List ℕ) (rows : List RowText) (answer : Answer)
    → rows_in map ≡ Some (Ok rows) → ((name : List ℕ) → listed name ≡ addresses name rows)
    → written_by answer ≡ match_written (matched note (record { types = types; listed = listed; kaslr = kaslr }) told)
    → option_map (ended match_written) (matched_in note types kaslr told map) ≡ Some (written_by answer)
prints_matched note types kaslr told map listed rows answer read same written =
    let one : listed ≡ (λ name. addresses name rows) = λ i name. same name i in
    rw read (ap (λ w. Some w) (sym (written ∙ ap (λ l. match_written (matched note (record { types = types; listed = l; kaslr = kaslr }) told)) one)))
