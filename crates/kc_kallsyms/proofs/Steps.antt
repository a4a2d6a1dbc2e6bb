-- One step of each list that is read.
use Rattle.std.proofs.Common.{◌≡◌, ℕ, zero, suc, ◌+◌, ◌-◌, ◌<◌, ◌≤◌, false, nat_eq, List, [], ◌∷◌, length, map, get_or, Result, Ok, Err, refl, sym, ap, ◌∙◌, arith}
use Rattle.std.proofs.lemmas.List.{get_or-map}
use Rattle.std.proofs.lemmas.Bool.Decides.{nat_tests}
use Rattle.std.specs.Global.{Vec}
use Rattle.kc_bytes.specs.Bytes as memory
use Rattle.kc_memory.specs.Image.{Image}
use Rattle.kc_memory.specs.Stopped.{Stopped}
use Rattle.kc_memory.specs.Translation.{and_then}
use Rattle.kc_kallsyms.specs.declared.fault.TableFault.{TableFault}
use Rattle.kc_kallsyms.specs.declared.fault.TableFault.TheVariants.{S6}
use Rattle.kc_bytes.specs.Bytes.{onward}
use Rattle.kc_kallsyms.specs.Bytes.{byte_at, bytes_at, string_at}
use Rattle.kc_kallsyms.specs.Reading.{◌>>=◌, Bad, Why, judged, missed}
use Rattle.kc_kallsyms.specs.Symbols.{Entry, Spot, Symbol, entry_at, symbol_of, symbols_at}
use Rattle.kc_kallsyms.specs.Tables.{token_at, tokens_at}

-- one step of memory, and the next one
missed_then : {A B : Type 0} (r : Result A Stopped) (f : A → Result B Stopped) → missed (and_then r f) ≡ missed r >>= (λ a. missed (f a))
missed_then (Ok a) f = refl
missed_then (Err s) f = refl

-- bytes
abbrev bytes_by : Image → ℕ → ℕ → ℕ → Result (List ℕ) Stopped
bytes_by image count at byte = and_then (memory.bytes_at image count (onward at 1)) (λ rest. Ok (byte ∷ rest))

bytes_one : (image : Image) (count at : ℕ) → bytes_at image (suc count) at ≡ byte_at image at >>= (λ byte. missed (bytes_by image count at byte))
unfolding memory.bytes_at
bytes_one image count at = missed_then (memory.byte_at image at) (bytes_by image count at)

pub bytes_more : (image : Image) (count i at next byte : ℕ) → i < count → next ≡ onward at 1 → byte_at image at ≡ Ok byte
    → bytes_at image (count - i) at ≡ bytes_at image (count - (i + 1)) next >>= (λ rest. Ok (byte ∷ rest))
bytes_more image count i at next byte lt is read =
    let e : count - i ≡ suc (count - (i + 1)) = omega arith in
    ap (λ n. bytes_at image n at) e ∙ bytes_one image (count - (i + 1)) at
    ∙ ap (λ (r : Result ℕ Why). r >>= (λ b. missed (bytes_by image (count - (i + 1)) at b))) read
    ∙ missed_then (memory.bytes_at image (count - (i + 1)) (onward at 1)) (λ (rest : List ℕ). Ok (byte ∷ rest))
    ∙ ap (λ n. bytes_at image (count - (i + 1)) n >>= (λ rest. Ok (byte ∷ rest))) (sym is)

pub bytes_stop : (image : Image) (count i at : ℕ) (e : Why) → i < count → byte_at image at ≡ Err e → bytes_at image (count - i) at ≡ Err e
bytes_stop image count i at e lt read =
    let m : count - i ≡ suc (count - (i + 1)) = omega arith in
    ap (λ n. bytes_at image n at) m ∙ bytes_one image (count - (i + 1)) at
    ∙ ap (λ (r : Result ℕ Why). r >>= (λ b. missed (bytes_by image (count - (i + 1)) at b))) read

pub bytes_end : (image : Image) (count i at : ℕ) → count ≤ i → bytes_at image (count - i) at ≡ Ok []
unfolding memory.bytes_at
bytes_end image count i at past =
    let e : count - i ≡ zero = omega arith in
    rw e refl

pub bytes_all : (image : Image) (count at same : ℕ) → same ≡ at → bytes_at image (count - 0) same ≡ bytes_at image count at
bytes_all image count at same is =
    let e : count - 0 ≡ count = omega arith in
    rw (e, is) refl

-- the bytes of a token
pub string_more : (image : Image) (number room i at next byte : ℕ) → i < room → next ≡ onward at 1 → 0 < byte → byte_at image at ≡ Ok byte
    → string_at image number (room - i) at ≡ string_at image number (room - (i + 1)) next >>= (λ rest. Ok (byte ∷ rest))
unfolding string_at
string_more image number room i at next byte lt is some read =
    let e : room - i ≡ suc (room - (i + 1)) = omega arith in
    let b : nat_eq byte 0 ≡ false = grind (arith, nat_tests) in
    rw (e, is, read, b) refl

pub string_end : (image : Image) (number room i at byte : ℕ) → i < room → byte ≡ 0 → byte_at image at ≡ Ok byte
    → string_at image number (room - i) at ≡ Ok []
unfolding string_at
string_end image number room i at byte lt none read =
    let e : room - i ≡ suc (room - (i + 1)) = omega arith in
    rw (e, read, none) refl

pub string_stop : (image : Image) (number room i at : ℕ) (e : Why) → i < room → byte_at image at ≡ Err e → string_at image number (room - i) at ≡ Err e
unfolding string_at
string_stop image number room i at e lt read =
    let m : room - i ≡ suc (room - (i + 1)) = omega arith in
    rw (m, read) refl

pub string_none : (image : Image) (number room i at : ℕ) → room ≤ i → string_at image number (room - i) at ≡ Err (Bad (S6 number))
unfolding string_at
string_none image number room i at past =
    let e : room - i ≡ zero = omega arith in
    rw e refl

pub string_all : (image : Image) (number room at same : ℕ) → same ≡ at → string_at image number (room - 0) same ≡ string_at image number room at
string_all image number room at same is =
    let e : room - 0 ≡ room = omega arith in
    rw (e, is) refl

-- tokens
pub tokens_more : (image : Image) (table most i at next : ℕ) (token : List ℕ) → i < most → next ≡ onward at 2 → token_at image table i at ≡ Ok token
    → tokens_at image table (most - i) i at ≡ tokens_at image table (most - (i + 1)) (i + 1) next >>= (λ rest. Ok (token ∷ rest))
unfolding tokens_at
tokens_more image table most i at next token lt is read =
    let e : most - i ≡ suc (most - (i + 1)) = omega arith in
    rw (e, is, read) refl

pub tokens_stop : (image : Image) (table most i at : ℕ) (e : Why) → i < most → token_at image table i at ≡ Err e → tokens_at image table (most - i) i at ≡ Err e
unfolding tokens_at
tokens_stop image table most i at e lt read =
    let m : most - i ≡ suc (most - (i + 1)) = omega arith in
    rw (m, read) refl

pub tokens_end : (image : Image) (table most i at : ℕ) → most ≤ i → tokens_at image table (most - i) i at ≡ Ok []
unfolding tokens_at
tokens_end image table most i at past =
    let e : most - i ≡ zero = omega arith in
    rw e refl

pub tokens_all : (image : Image) (table most at same : ℕ) → same ≡ at → tokens_at image table (most - 0) 0 same ≡ tokens_at image table most 0 at
tokens_all image table most at same is =
    let e : most - 0 ≡ most = omega arith in
    rw (e, is) refl

-- symbols
abbrev pub symbol_read : Image → List (List ℕ) → ℕ → Spot → Result Symbol Why
symbol_read image tokens number spot = entry_at image tokens spot >>= (λ e. judged (symbol_of number e.text e.offset))

pub symbols_more : (image : Image) (tokens : List (List ℕ)) (most i : ℕ) (spot : Spot) (entry : Entry) (symbol : Symbol) → i < most → entry_at image tokens spot ≡ Ok entry → symbol_of i entry.text entry.offset ≡ Ok symbol
    → symbols_at image tokens (most - i) i spot ≡ symbols_at image tokens (most - (i + 1)) (i + 1) entry.next >>= (λ rest. Ok (symbol ∷ rest))
unfolding symbols_at
symbols_more image tokens most i spot entry symbol lt read named =
    let e : most - i ≡ suc (most - (i + 1)) = omega arith in
    rw (e, read, named) refl

pub symbols_stop : (image : Image) (tokens : List (List ℕ)) (most i : ℕ) (spot : Spot) (e : Why) → i < most → entry_at image tokens spot ≡ Err e → symbols_at image tokens (most - i) i spot ≡ Err e
unfolding symbols_at
symbols_stop image tokens most i spot e lt read =
    let m : most - i ≡ suc (most - (i + 1)) = omega arith in
    rw (m, read) refl

pub symbols_bad : (image : Image) (tokens : List (List ℕ)) (most i : ℕ) (spot : Spot) (entry : Entry) (fault : TableFault) → i < most → entry_at image tokens spot ≡ Ok entry → symbol_of i entry.text entry.offset ≡ Err fault
    → symbols_at image tokens (most - i) i spot ≡ Err (Bad fault)
unfolding symbols_at
symbols_bad image tokens most i spot entry fault lt read named =
    let m : most - i ≡ suc (most - (i + 1)) = omega arith in
    rw (m, read, named) refl

pub symbols_end : (image : Image) (tokens : List (List ℕ)) (most i : ℕ) (spot : Spot) → most ≤ i → symbols_at image tokens (most - i) i spot ≡ Ok []
unfolding symbols_at
symbols_end image tokens most i spot past =
    let e : most - i ≡ zero = omega arith in
    rw e refl

-- a token by its number, among vectors
pub token_is : (tokens : List (Vec ℕ)) (number : ℕ) (token : Vec ℕ) → number < length tokens → token ≡ get_or tokens number token
    → get_or (map (λ (t : Vec ℕ). t.items) tokens) number [] ≡ token.items
token_is tokens number token lt is =
    get_or-map (λ (t : Vec ℕ). t.items) tokens number token [] lt ∙ sym (ap (λ (t : Vec ℕ). t.items) is)

-- an address one byte further on
pub onward_more : (at i : ℕ) → onward (onward at i) 1 ≡ onward at (i + 1)
onward_more at i = omega arith
