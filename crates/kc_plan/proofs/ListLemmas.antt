-- Lists that are read item by item, what is there of a table, and its keys.
use Rattle.std.proofs.Common.{◌≡◌, ℕ, Bool, ◌&&◌, List, [], ◌∷◌, ◌++◌, Option, Some, None, option_map, String, string_bytes, Global, refl, ap}
use Rattle.std.specs.Prelude.{is_some}
use Rattle.std.specs.List.{list_all}
use Rattle.std.specs.Map.{keys_of}
use Rattle.toml.specs.View.{members_view}
use Rattle.toml.specs.declared.value.Value.{Value}
use Rattle.kc_plan.specs.Audits.{all_keys}

-- what is left to read, behind what was read
abbrev pub with_front : {A : Type 0} → List A → Option (List A) → Option (List A)
with_front front rest = option_map (λ these. front ++ these) rest

-- the keys of a table are those of its entries
pub keys-all : (p : List ℕ → Bool) (es : List (String Global × Value)) → list_all (λ k. p (string_bytes k)) (keys_of es) ≡ all_keys p (members_view es)
keys-all p [] = refl
keys-all p (e ∷ es) = ap (λ rest. p (string_bytes e.0) && rest) (keys-all p es)

-- what is there is there however it is seen
pub is_some-map : {A B : Type 0} (f : A → B) (found : Option A) → is_some found ≡ is_some (option_map f found)
is_some-map f None = refl
is_some-map f (Some x) = refl
