-- The symbols so far, and the next one.
use Rattle.std.proofs.Common.{◌≡◌, ℕ, suc, ◌+◌, ◌-◌, ◌<◌, ◌≤◌, Bool, true, false, if◌then◌else◌, List, [], ◌∷◌, Option, Some, None, refl, sym, ap, ◌∙◌, add-one, arith}
use Rattle.std.specs.Prelude.{IfSome, Ok, nat_lt, option_and_then, option_map}
use Rattle.kc_memory.specs.Image.{Image}
use Rattle.kc_found.specs.Walks.{WalksAs}
use Rattle.kc_kinds.specs.Members.{◌>>=◌}
use Rattle.kc_module_symbols.specs.declared.nearest.Best.{Best}
use Rattle.kc_module_symbols.specs.declared.nearest.Sought.{Sought}
use Rattle.kc_module_symbols.specs.declared.symbol.ElfSymbol.{ElfSymbol}
use Rattle.kc_module_symbols.specs.declared.table.SymbolTable.{SymbolTable}
use Rattle.kc_module_symbols.specs.Nearest.{best_with, if_names, may_name, nearer, nearest, nearest_of}
use Rattle.kc_module_symbols.specs.Symbols.{symbol_in, symbols_from}

abbrev pub and_others : Image → SymbolTable → ℕ → ℕ → Option ElfSymbol → Option (List ElfSymbol)
and_others i table left number s = s >>= (λ s. symbols_from i table left number >>= (λ others. Some (s ∷ others)))

pub from_next : (i : Image) (table : SymbolTable) (left number : ℕ) → symbols_from i table (suc left) number ≡ and_others i table left (suc number) (symbol_in i table number)
unfolding symbols_from
from_next i table left number = refl

pub from_none : (i : Image) (table : SymbolTable) (number : ℕ) → symbols_from i table 0 number ≡ Some []
unfolding symbols_from
from_none i table number = refl

pub nearest_one : (may : ElfSymbol → Bool) (s : ElfSymbol) (others : List ElfSymbol) → nearest may (s ∷ others) ≡ nearer (if_names may s) (nearest may others)
unfolding nearest
nearest_one may s others = refl

pub nearest_nil : (may : ElfSymbol → Bool) → nearest may [] ≡ None
unfolding nearest
nearest_nil may = refl

nearer_none : (s : Option ElfSymbol) → nearer None s ≡ s
nearer_none None = refl
nearer_none (Some s) = refl

-- the nearest of three is the same, whichever two are compared first
nearer_two : (b c : ElfSymbol) (t : Bool) → nearer None (if t then Some c else Some b) ≡ (if t then Some c else Some b)
nearer_two b c true = refl
nearer_two b c false = refl

nearer_three : (a b c : ElfSymbol) → nearer (nearer (Some a) (Some b)) (Some c) ≡ nearer (Some a) (nearer (Some b) (Some c))
nearer_three a b c = grind arith

nearer_all : (a b c : Option ElfSymbol) → nearer (nearer a b) c ≡ nearer a (nearer b c)
nearer_all a b None = refl
nearer_all a None (Some c) = refl
nearer_all None (Some b) (Some c) = sym (nearer_two b c (nat_lt b.value c.value))
nearer_all (Some a) (Some b) (Some c) = nearer_three a b c

-- the best so far, and those that are left
abbrev pub from_best : (ElfSymbol → Bool) → Option ElfSymbol → Option (List ElfSymbol) → Option ElfSymbol
from_best may best None = None
from_best may best (Some others) = nearer best (nearest may others)

begun : (may : ElfSymbol → Bool) (all : Option (List ElfSymbol)) → from_best may None all ≡ option_and_then (nearest may) all
begun may None = refl
begun may (Some all) = nearer_none (nearest may all)

-- one more
better : (may : ElfSymbol → Bool) (best next : Best) (s : Option ElfSymbol) (rest : Option (List ElfSymbol))
    → option_map (best_with may best) s ≡ Some next → from_best may best.symbol (s >>= (λ s. rest >>= (λ others. Some (s ∷ others)))) ≡ from_best may next.symbol rest
better may best next None rest is = absurd (let no : ⊥ = cc in no)
better may best next (Some s) None is = refl
better may best next (Some s) (Some others) is =
    let same : best_with may best s ≡ next = cc in
    ap (nearer best.symbol) (nearest_one may s others) ∙ sym (nearer_all best.symbol (if_names may s) (nearest may others))
    ∙ ap (λ (b : Best). nearer b.symbol (nearest may others)) same

lacking : (may : ElfSymbol → Bool) (best : Best) (s : Option ElfSymbol) (rest : Option (List ElfSymbol)) → option_map (best_with may best) s ≡ None
    → from_best may best.symbol (s >>= (λ s. rest >>= (λ others. Some (s ∷ others)))) ≡ None
lacking may best None rest is = refl
lacking may best (Some s) rest is = absurd (let no : ⊥ = cc in no)

module _ (sought : Sought) (table : SymbolTable) where
  abbrev pub OfSymbols : Option Image → ℕ → Best → Type 0
  OfSymbols image number best = IfSome image (λ i. from_best (may_name i sought) best.symbol (symbols_from i table (table.count - number) number) ≡ nearest_of i sought table)

  pub symbols_begin : (image : Option Image) → OfSymbols image 1 (record { symbol = None })
  symbols_begin None = tt
  symbols_begin (Some i) = begun (may_name i sought) (symbols_from i table (table.count - 1) 1)

  there : (i : Image) (number : ℕ) → number < table.count → symbols_from i table (table.count - number) number ≡ and_others i table (table.count - (number + 1)) (number + 1) (symbol_in i table number)
  there i number more =
      let e : table.count - number ≡ suc (table.count - (number + 1)) = omega (arith, more) in
      ap (λ (n : ℕ). symbols_from i table n number) e ∙ from_next i table (table.count - (number + 1)) number
      ∙ ap (λ (n : ℕ). and_others i table (table.count - (number + 1)) n (symbol_in i table number)) (sym (add-one number))

  pub symbols_next : (image : Option Image) (number : ℕ) (best next : Best) → number < table.count
      → WalksAs {A = Option Best} {B = Option Best} (λ b. b) (λ i. Ok (option_map (best_with (may_name i sought) best) (symbol_in i table number))) image (Ok (Some next))
      → OfSymbols image number best → OfSymbols image (number + 1) next
  symbols_next None number best next more read far = tt
  symbols_next (Some i) number best next more read far =
      let is : option_map (best_with (may_name i sought) best) (symbol_in i table number) ≡ Some next = cc in
      sym (better (may_name i sought) best next (symbol_in i table number) (symbols_from i table (table.count - (number + 1)) (number + 1)) is)
      ∙ sym (ap (from_best (may_name i sought) best.symbol) (there i number more)) ∙ far

  pub symbols_lack : (image : Option Image) (number : ℕ) (best : Best) → number < table.count
      → WalksAs {A = Option Best} {B = Option Best} (λ b. b) (λ i. Ok (option_map (best_with (may_name i sought) best) (symbol_in i table number))) image (Ok None)
      → OfSymbols image number best → WalksAs {A = Option ElfSymbol} {B = Option ElfSymbol} (λ s. s) (λ i. Ok (nearest_of i sought table)) image (Ok None)
  symbols_lack None number best more read far = tt
  symbols_lack (Some i) number best more read far =
      let is : option_map (best_with (may_name i sought) best) (symbol_in i table number) ≡ None = cc in
      ap (λ (s : Option ElfSymbol). Ok s) (sym far ∙ ap (from_best (may_name i sought) best.symbol) (there i number more)
      ∙ lacking (may_name i sought) best (symbol_in i table number) (symbols_from i table (table.count - (number + 1)) (number + 1)) is)

  pub symbols_done : (image : Option Image) (number : ℕ) (best : Best) → table.count ≤ number → OfSymbols image number best
      → WalksAs {A = Option ElfSymbol} {B = Option ElfSymbol} (λ s. s) (λ i. Ok (nearest_of i sought table)) image (Ok best.symbol)
  symbols_done None number best all far = tt
  symbols_done (Some i) number best all far =
      let e : table.count - number ≡ 0 = omega (arith, all) in
      ap (λ (s : Option ElfSymbol). Ok s) (sym far ∙ ap (λ (n : ℕ). from_best (may_name i sought) best.symbol (symbols_from i table n number)) e
      ∙ ap (from_best (may_name i sought) best.symbol) (from_none i table number) ∙ ap (nearer best.symbol) (nearest_nil (may_name i sought)))
