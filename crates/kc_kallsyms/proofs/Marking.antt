-- The first symbol of a name, with one more symbol.
use Rattle.std.proofs.Common.{◌≡◌, ℕ, List, [], ◌∷◌, ◌++◌, Option, Some, None, option_map, refl, sym, ap, ◌∙◌}
use Rattle.std.proofs.lemmas.List.Folds.{find-append}
use Rattle.std.specs.List.{find}
use Rattle.std.specs.Option.{option_or}
use Rattle.kc_kallsyms.specs.Addresses.{is_named, offset_of}
use Rattle.kc_kallsyms.specs.Marked.{known_from}
use Rattle.kc_kallsyms.specs.Symbols.{Symbol}

or_assoc : (a b c : Option ℕ) → option_or (option_or a b) c ≡ option_or a (option_or b c)
or_assoc None b c = refl
or_assoc (Some n) b c = refl

map_or : (a b : Option Symbol) → option_map (λ (s : Symbol). s.offset) (option_or a b) ≡ option_or (option_map (λ (s : Symbol). s.offset) a) (option_map (λ (s : Symbol). s.offset) b)
map_or None b = refl
map_or (Some s) b = refl

offset-append : (name : List ℕ) (xs ys : List Symbol) → offset_of name (xs ++ ys) ≡ option_or (offset_of name xs) (offset_of name ys)
offset-append name xs ys =
    ap (λ (o : Option Symbol). option_map (λ (s : Symbol). s.offset) o) (find-append (is_named name) xs ys)
    ∙ map_or (find (is_named name) xs) (find (is_named name) ys)

pub known_more : (known old new : Option ℕ) (name : List ℕ) (done : List Symbol) (s : Symbol)
    → old ≡ known_from known name done → new ≡ option_or old (offset_of name (s ∷ []))
    → new ≡ known_from known name (done ++ s ∷ [])
known_more known old new name done s so_far more =
    more ∙ ap (λ (o : Option ℕ). option_or o (offset_of name (s ∷ []))) so_far
    ∙ or_assoc known (offset_of name done) (offset_of name (s ∷ []))
    ∙ ap (option_or known) (sym (offset-append name done (s ∷ [])))
