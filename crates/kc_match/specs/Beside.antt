-- The file of types beside the types that the dump holds.
use Rattle.std.specs.Prelude.{ℕ, suc, nat_eq, if◌then◌else◌, List, [], ◌∷◌, Option, Some, None, option_and_then, option_map}
use Rattle.std.specs.Result.{result_ok}
use Rattle.kc_question.specs.Memory.{bare_image}
use Rattle.kc_kallsyms.specs.declared.places.Places.{Places}
use Rattle.kc_kallsyms.specs.Places.{places_in}
use Rattle.kc_kallsyms.specs.Types.{types_at}
use Rattle.kc_command.specs.Kernels.{NotedAt}
use Rattle.kc_command.specs.Paging.{by_info}
use Rattle.kc_match.specs.declared.beside.TypesBeside.{TypesBeside}
use Rattle.kc_match.specs.declared.beside.TypesBeside.TheVariants.{Same, Differs, Unknown}

-- the first byte at which two files differ: where one begins the other, the one at which it ends
unfoldable pub first_difference : List ℕ → List ℕ → Option ℕ
first_difference [] [] = None
first_difference [] (c ∷ cs) = Some 0
first_difference (b ∷ bs) [] = Some 0
first_difference (b ∷ bs) (c ∷ cs) = if nat_eq b c then option_map (λ at. suc at) (first_difference bs cs) else Some 0

-- the types that a dump holds, by its bytes, its segments and the text of its VMCOREINFO, as `kfiles DUMP types` prints them
abbrev pub types_by : List ℕ → NotedAt → Places → Option (List ℕ)
types_by bytes noted places = result_ok (types_at (bare_image bytes noted.parts.segments (by_info noted.told)) noted.told.kaslr places)

abbrev pub own_types : List ℕ → NotedAt → List ℕ → Option (List ℕ)
own_types bytes noted note = option_and_then (types_by bytes noted) (result_ok (places_in note))

-- a file of types beside them
abbrev pub by_difference : Option ℕ → TypesBeside
by_difference None = Same
by_difference (Some at) = Differs at

abbrev pub beside : List ℕ → Option (List ℕ) → TypesBeside
beside file None = Unknown
beside file (Some own) = by_difference (first_difference file own)
