-- The words of slots, one after another.
use Rattle.std.proofs.Common.{◌≡◌, ℕ, zero, suc, ◌+◌, ◌-◌, ◌*◌, ◌<◌, ◌≤◌, List, [], ◌∷◌, ◌++◌, Option, None, Some, refl, ◌∙◌, ap, arith, drop, length, get_or}
use Rattle.std.specs.Prelude.{Result, Ok, Err, IfSome, map}
use Rattle.std.proofs.Math.Seq.{drop-cons}
use Rattle.std.proofs.Math.Nat.{mul-add}
use Rattle.kc_memory.specs.declared.words.Origin.TheVariants.{File}
use Rattle.kc_memory.specs.declared.words.VWord.{VWord}
use Rattle.kc_memory.specs.declared.rule.Rule.TheVariants.{A}
use Rattle.kc_memory.specs.Image.{Image}
use Rattle.kc_memory.specs.Translation.{vword}
use Rattle.kc_found.specs.declared.asked.Asked.{Asked}
use Rattle.kc_found.specs.declared.found.WalkStop.{WalkStop}
use Rattle.kc_found.specs.declared.found.WalkStop.TheVariants as ends
use Rattle.kc_found.specs.Nodes.{at_offset}
use Rattle.kc_found.specs.declared.xarrays.XaItem.{XaItem}
use Rattle.kc_found.specs.Trials.{and_then, claim, claimed, passed}
use Rattle.kc_found.specs.Violations.{Violation, breaks}
use Rattle.kc_found.specs.Walks.{IsWalk, WalksAs}
use Rattle.kc_found.specs.XaNodes.{behind_entry, first_words}

first_more : {E : Type 0} (read : ℕ → Result VWord E) (at i : ℕ) (ws : List VWord) (w : VWord) → first_words read at i ≡ Ok ws → read (at_offset at (8 * i)) ≡ Ok w → first_words read at (i + 1) ≡ Ok (ws ++ w ∷ [])
unfolding first_words
first_more read at i ws w e r = let s : i + 1 ≡ suc i = omega arith in rw s (rw (e, r) refl)

first_stops : {E : Type 0} (read : ℕ → Result VWord E) (at i : ℕ) (ws : List VWord) (f : E) → first_words read at i ≡ Ok ws → read (at_offset at (8 * i)) ≡ Err f → first_words read at (suc i) ≡ Err f
unfolding first_words
first_stops read at i ws f e r = rw (e, r) refl

stays : {E : Type 0} (read : ℕ → Result VWord E) (at i k : ℕ) (f : E) → first_words read at i ≡ Err f → first_words read at (k + i) ≡ Err f
unfolding first_words
stays read at i zero f e = let s : 0 + i ≡ i = omega arith in rw s e
stays read at i (suc k) f e = let s : suc k + i ≡ suc (k + i) = omega arith in rw s (ap (λ r. and_then r (λ ws. and_then (read (at_offset at (8 * (k + i)))) (λ w. Ok (ws ++ w ∷ [])))) (stays read at i k f e))

abbrev pub reader : Image → Asked → VWord → ℕ → Result VWord Violation
reader m asked led = behind_entry (vword m) asked (Some led)

pub reads_none : (image : Option Image) (asked : Asked) (led : VWord) (at : ℕ) → IfSome image (λ m. first_words (reader m asked led) at 0 ≡ Ok [])
unfolding first_words
reads_none None asked led at = tt
reads_none (Some m) asked led at = refl

pub reads_more : (image : Option Image) (asked : Asked) (led : VWord) (at i : ℕ) (ws : List VWord) (w : VWord) → IfSome image (λ m. first_words (reader m asked led) at i ≡ Ok ws) →
    WalksAs (λ (x : VWord). x) (λ m. reader m asked led (at_offset at (8 * i))) image (Ok w) → IfSome image (λ m. first_words (reader m asked led) at (i + 1) ≡ Ok (ws ++ w ∷ []))
reads_more None asked led at i ws w e r = tt
reads_more (Some m) asked led at i ws w e r = first_more (reader m asked led) at i ws w e r

pub reads_stop : (image : Option Image) (asked : Asked) (led : VWord) (at i n : ℕ) (ws : List VWord) (stop : WalkStop) → i < n → IfSome image (λ m. first_words (reader m asked led) at i ≡ Ok ws) →
    WalksAs (λ (x : VWord). x) (λ m. reader m asked led (at_offset at (8 * i))) image (Err stop) → WalksAs (λ (x : List VWord). x) (λ m. first_words (reader m asked led) at n) image (Err stop)
reads_stop None asked led at i n ws stop lt e r = tt
reads_stop (Some m) asked led at i n ws (ends.Broken f) lt e r = let s : n - suc i + suc i ≡ n = omega arith in rw s at (stays (reader m asked led) at (suc i) (n - suc i) f (first_stops (reader m asked led) at i ws f e r))
reads_stop (Some m) asked led at i n ws ends.Fault lt e r = tt
reads_stop (Some m) asked led at i n ws ends.NoMemory lt e r = tt

-- a word more
pub one_more : (most n old before after : ℕ) → before ≤ old + most * n → after ≤ before + most → after ≤ old + most * (n + 1)
one_more most n old before after le more = let all = mul-add most n 1 in let one : most * 1 ≡ most = omega arith in rw all (omega (arith, le, more, one))

-- the slot that a turn of a loop looks at
abbrev no_word : VWord
no_word = record { va = 0; pa = 0; off = File 0; value = 0 }

pub next_slot : (seen slots : List VWord) (i : ℕ) → seen ≡ slots → i < length seen → drop i slots ≡ get_or seen i no_word ∷ drop (i + 1) slots
next_slot seen slots i e lt = rw (← e) (let s : i + 1 ≡ suc i = omega arith in rw s (drop-cons seen i no_word lt))

-- slots that were taken, up to one that was taken before
pub slots_stop : {P Q : Type 0} (v : P → List ℕ) (u : Q → List ℕ) (asked : Asked) (old now : List ℕ) (slots rest : List VWord) (i : ℕ) (w : VWord) (stop : WalkStop) → passed {X = XaItem} old (map (claim asked) slots) ≡ passed {X = XaItem} now (map (claim asked) (drop i slots)) →
    drop i slots ≡ w ∷ rest → IsWalk v (claimed now w.pa (breaks asked A w None)) (Err stop) → IsWalk u (passed {X = XaItem} old (map (claim asked) slots)) (Err stop)
slots_stop v u asked old now slots rest i w (ends.Broken f) so at e = so ∙ ap (λ ws. passed {X = XaItem} now (map (claim asked) ws)) at ∙ ap (λ (r : Result (List ℕ) Violation). and_then r (λ more. passed {X = XaItem} more (map (claim asked) rest))) e
slots_stop v u asked old now slots rest i w ends.Fault so at e = tt
slots_stop v u asked old now slots rest i w ends.NoMemory so at e = tt
