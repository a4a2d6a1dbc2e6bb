-- The loops over memory, each with a step, a stop and an end.
use Rattle.std.proofs.Common.{◌≡◌, ℕ, ◌+◌, ◌-◌, ◌<◌, ◌≤◌, List, [], ◌∷◌, ◌++◌, map, Option, Some, None, Result, Ok, Err, refl, sym, ap, ◌∙◌, append_assoc}
use Rattle.std.proofs.lemmas.List.{append-nil, map-append}
use Rattle.std.proofs.lemmas.Grind.{flat_map-append}
use Rattle.std.specs.Global.{Vec}
use Rattle.std.specs.List.{flat_map}
use Rattle.kc_memory.specs.Image.{Image}
use Rattle.kc_kallsyms.specs.declared.fault.TableFault.{TableFault}
use Rattle.kc_kallsyms.specs.declared.fault.TableFault.TheVariants.{S6}
use Rattle.kc_kallsyms.specs.declared.stop.TableStop.{TableStop}
use Rattle.kc_kallsyms.specs.declared.stop.TableStop.TheVariants.{Table}
use Rattle.kc_bytes.specs.Bytes.{onward}
use Rattle.kc_kallsyms.specs.Bytes.{byte_at, bytes_at, string_at}
use Rattle.kc_kallsyms.specs.Going.{CameAs, GoesAs}
use Rattle.kc_kallsyms.specs.Reading.{ReadsAs, Why}
use Rattle.kc_kallsyms.specs.Symbols.{Entry, Spot, Symbol, entry_at, symbol_of, symbols_at, token_of}
use Rattle.kc_kallsyms.specs.Tables.{token_at, tokens_at}
use Rattle.kc_kallsyms.specs.Walked.{text_from}
use Rattle.kc_kallsyms.proofs.Going.{came_as, goes_ends, goes_first, goes_more, goes_stops}
use Rattle.kc_kallsyms.proofs.Steps.{bytes_all, bytes_end, bytes_more, bytes_stop, string_end, string_more, string_none, string_stop, symbols_bad, symbols_end, symbols_more, symbols_stop, tokens_end, tokens_more, tokens_stop}

abbrev Read : Option Image → (Image → Result ℕ Why) → Result ℕ TableStop → Type 0
Read o truth r = ReadsAs (λ (b : ℕ). b) truth o r

abbrev Text : Option Image → (Image → Result (List ℕ) Why) → Result (Vec ℕ) TableStop → Type 0
Text o truth r = ReadsAs (λ (v : Vec ℕ). v.items) truth o r

pushed : (old new : List ℕ) (byte : ℕ) → new ≡ old ++ byte ∷ [] → (done : List ℕ) → old ≡ done → new ≡ done ++ byte ∷ []
pushed old new byte is done so_far = is ∙ ap (λ (l : List ℕ). l ++ byte ∷ []) so_far

-- the bytes of a token
pub string_go : (o : Option Image) (number room start i at next byte : ℕ) (old new : List ℕ)
    → GoesAs (λ bs. old ≡ bs) (λ image. string_at image number room start) (λ image. string_at image number (room - i) at) o
    → Read o (λ image. byte_at image at) (Ok byte) → i < room → next ≡ onward at 1 → 0 < byte → new ≡ old ++ byte ∷ []
    → GoesAs (λ bs. new ≡ bs) (λ image. string_at image number room start) (λ image. string_at image number (room - (i + 1)) next) o
string_go o number room start i at next byte old new goes read lt is some more =
    goes_more (λ (bs : List ℕ). old ≡ bs) (λ (bs : List ℕ). new ≡ bs) (λ image. string_at image number room start) (λ image. string_at image number (room - i) at) (λ image. string_at image number (room - (i + 1)) next)
    byte (λ image. byte_at image at) (λ (b : ℕ). b) byte o goes read
    (λ image one. string_more image number room i at next byte lt is some one) (pushed old new byte more)

pub string_halt : (o : Option Image) (number room start i at : ℕ) (old : List ℕ) (stop : TableStop)
    → GoesAs (λ bs. old ≡ bs) (λ image. string_at image number room start) (λ image. string_at image number (room - i) at) o
    → Read o (λ image. byte_at image at) (Err stop) → i < room
    → Text o (λ image. string_at image number room start) (Err stop)
string_halt o number room start i at old stop goes read lt =
    goes_stops (λ (bs : List ℕ). old ≡ bs) (λ image. string_at image number room start) (λ image. string_at image number (room - i) at) (λ image. byte_at image at) (λ image. string_at image number room start)
    (λ (b : ℕ). b) (λ (v : Vec ℕ). v.items) o stop goes read (λ image e one. string_stop image number room i at e lt one) (λ image e is. is)

ending : (number room i at byte : ℕ) (o : Option Image) → Read o (λ image. byte_at image at) (Ok byte) → i < room → byte ≡ 0
    → (whole : Image → Result (List ℕ) Why) (Holds : List ℕ → Type 0) → GoesAs Holds whole (λ image. string_at image number (room - i) at) o → CameAs Holds whole o
ending number room i at byte None read lt none whole Holds goes = tt
ending number room i at byte (Some image) read lt none whole Holds goes =
    goes_ends {I = Unit {0}} Holds (λ _. whole image) (λ _. string_at image number (room - i) at) (Some tt) goes (λ _. string_end image number room i at byte lt none read)

pub string_come : (o : Option Image) (number room start i at byte : ℕ) (v : Vec ℕ)
    → GoesAs (λ bs. v.items ≡ bs) (λ image. string_at image number room start) (λ image. string_at image number (room - i) at) o
    → Read o (λ image. byte_at image at) (Ok byte) → i < room → byte ≡ 0
    → Text o (λ image. string_at image number room start) (Ok v)
string_come o number room start i at byte v goes read lt none =
    came_as (λ (bs : List ℕ). v.items ≡ bs) (λ image. string_at image number room start) (λ image. string_at image number room start) (λ (w : Vec ℕ). w.items) v o
    (ending number room i at byte o read lt none (λ image. string_at image number room start) (λ (bs : List ℕ). v.items ≡ bs) goes)
    (λ image all holds is. is ∙ ap (λ (l : List ℕ). Ok l) (sym holds))

pub string_lacks : (o : Option Image) (number room start i at : ℕ) (old : List ℕ)
    → GoesAs (λ bs. old ≡ bs) (λ image. string_at image number room start) (λ image. string_at image number (room - i) at) o → room ≤ i
    → Text o (λ image. string_at image number room start) (Err (Table (S6 number)))
string_lacks None number room start i at old goes past = tt
string_lacks (Some image) number room start i at old goes past =
    goes_stops {I = Unit {0}} (λ (bs : List ℕ). old ≡ bs) (λ _. string_at image number room start) (λ _. string_at image number (room - i) at) (λ _. string_at image number (room - i) at) (λ _. string_at image number room start)
    (λ (bs : List ℕ). bs) (λ (v : Vec ℕ). v.items) (Some tt) (Table (S6 number)) goes (string_none image number room i at past) (λ _ e is. is) (λ _ e is. is)

-- tokens
listed_more : (old new : List (Vec ℕ)) (token : Vec ℕ) → new ≡ old ++ token ∷ [] → (done : List (List ℕ)) → map (λ (t : Vec ℕ). t.items) old ≡ done
    → map (λ (t : Vec ℕ). t.items) new ≡ done ++ token.items ∷ []
listed_more old new token is done so_far =
    ap (map (λ (t : Vec ℕ). t.items)) is ∙ map-append (λ (t : Vec ℕ). t.items) old (token ∷ []) ∙ ap (λ (l : List (List ℕ)). l ++ token.items ∷ []) so_far

pub tokens_go : (o : Option Image) (table most start i at next : ℕ) (token : Vec ℕ) (old new : List (Vec ℕ))
    → GoesAs (λ ts. map (λ (t : Vec ℕ). t.items) old ≡ ts) (λ image. tokens_at image table most 0 start) (λ image. tokens_at image table (most - i) i at) o
    → Text o (λ image. token_at image table i at) (Ok token) → i < most → next ≡ onward at 2 → new ≡ old ++ token ∷ []
    → GoesAs (λ ts. map (λ (t : Vec ℕ). t.items) new ≡ ts) (λ image. tokens_at image table most 0 start) (λ image. tokens_at image table (most - (i + 1)) (i + 1) next) o
tokens_go o table most start i at next token old new goes read lt is more =
    goes_more (λ (ts : List (List ℕ)). map (λ (t : Vec ℕ). t.items) old ≡ ts) (λ (ts : List (List ℕ)). map (λ (t : Vec ℕ). t.items) new ≡ ts) (λ image. tokens_at image table most 0 start) (λ image. tokens_at image table (most - i) i at) (λ image. tokens_at image table (most - (i + 1)) (i + 1) next)
    token.items (λ image. token_at image table i at) (λ (v : Vec ℕ). v.items) token o goes read
    (λ image one. tokens_more image table most i at next token.items lt is one) (listed_more old new token more)

abbrev Tokens : Option Image → (Image → Result (List (List ℕ)) Why) → Result (Vec (Vec ℕ)) TableStop → Type 0
Tokens o truth r = ReadsAs (λ (ts : Vec (Vec ℕ)). map (λ (t : Vec ℕ). t.items) ts.items) truth o r

pub tokens_halt : (o : Option Image) (table most start i at : ℕ) (old : List (Vec ℕ)) (stop : TableStop)
    → GoesAs (λ ts. map (λ (t : Vec ℕ). t.items) old ≡ ts) (λ image. tokens_at image table most 0 start) (λ image. tokens_at image table (most - i) i at) o
    → Text o (λ image. token_at image table i at) (Err stop) → i < most
    → Tokens o (λ image. tokens_at image table most 0 start) (Err stop)
tokens_halt o table most start i at old stop goes read lt =
    goes_stops (λ (ts : List (List ℕ)). map (λ (t : Vec ℕ). t.items) old ≡ ts) (λ image. tokens_at image table most 0 start) (λ image. tokens_at image table (most - i) i at) (λ image. token_at image table i at) (λ image. tokens_at image table most 0 start)
    (λ (v : Vec ℕ). v.items) (λ (ts : Vec (Vec ℕ)). map (λ (t : Vec ℕ). t.items) ts.items) o stop goes read (λ image e one. tokens_stop image table most i at e lt one) (λ image e is. is)

pub tokens_come : (o : Option Image) (table most start i at : ℕ) (ts : Vec (Vec ℕ))
    → GoesAs (λ xs. map (λ (t : Vec ℕ). t.items) ts.items ≡ xs) (λ image. tokens_at image table most 0 start) (λ image. tokens_at image table (most - i) i at) o → most ≤ i
    → Tokens o (λ image. tokens_at image table most 0 start) (Ok ts)
tokens_come o table most start i at ts goes past =
    came_as (λ (xs : List (List ℕ)). map (λ (t : Vec ℕ). t.items) ts.items ≡ xs) (λ image. tokens_at image table most 0 start) (λ image. tokens_at image table most 0 start) (λ (w : Vec (Vec ℕ)). map (λ (t : Vec ℕ). t.items) w.items) ts o
    (goes_ends (λ (xs : List (List ℕ)). map (λ (t : Vec ℕ). t.items) ts.items ≡ xs) (λ image. tokens_at image table most 0 start) (λ image. tokens_at image table (most - i) i at) o goes (λ image. tokens_end image table most i at past))
    (λ image all holds is. is ∙ ap (λ (l : List (List ℕ)). Ok l) (sym holds))

-- the tokens of a name
abbrev Joined : List (List ℕ) → List ℕ → List ℕ → List ℕ → Type 0
Joined tokens first text numbers = text ≡ first ++ flat_map (token_of tokens) numbers

joined_more : (tokens : List (List ℕ)) (first old new : List ℕ) (number : ℕ) → new ≡ old ++ token_of tokens number → (done : List ℕ) → Joined tokens first old done
    → Joined tokens first new (done ++ number ∷ [])
joined_more tokens first old new number is done so_far =
    is ∙ ap (λ (t : List ℕ). t ++ token_of tokens number) so_far
    ∙ append_assoc first (flat_map (token_of tokens) done) (token_of tokens number)
    ∙ ap (λ (t : List ℕ). first ++ t) (ap (λ (t : List ℕ). flat_map (token_of tokens) done ++ t) (sym (append-nil (token_of tokens number)))
    ∙ sym (flat_map-append (token_of tokens) done (number ∷ [])))

pub text_first : (o : Option Image) (tokens : List (List ℕ)) (count start : ℕ) (first : List ℕ)
    → GoesAs (λ ns. first ≡ first ++ flat_map (token_of tokens) ns) (λ image. bytes_at image count start) (λ image. bytes_at image (count - 0) start) o
text_first o tokens count start first =
    goes_first (Joined tokens first first) (λ image. bytes_at image count start) (λ image. bytes_at image (count - 0) start) o (λ image. bytes_all image count start start refl) (sym (append-nil first))

pub text_go : (o : Option Image) (tokens : List (List ℕ)) (count start i at next number : ℕ) (first old new : List ℕ)
    → GoesAs (λ ns. old ≡ first ++ flat_map (token_of tokens) ns) (λ image. bytes_at image count start) (λ image. bytes_at image (count - i) at) o
    → Read o (λ image. byte_at image at) (Ok number) → i < count → next ≡ onward at 1 → new ≡ old ++ token_of tokens number
    → GoesAs (λ ns. new ≡ first ++ flat_map (token_of tokens) ns) (λ image. bytes_at image count start) (λ image. bytes_at image (count - (i + 1)) next) o
text_go o tokens count start i at next number first old new goes read lt is more =
    goes_more (Joined tokens first old) (Joined tokens first new) (λ image. bytes_at image count start) (λ image. bytes_at image (count - i) at) (λ image. bytes_at image (count - (i + 1)) next)
    number (λ image. byte_at image at) (λ (b : ℕ). b) number o goes read
    (λ image one. bytes_more image count i at next number lt is one) (joined_more tokens first old new number more)

abbrev Filled : Option Image → List ℕ → (Image → Result (List ℕ) Why) → Result (Unit {0}) TableStop → Type 0
Filled o text truth r = ReadsAs (λ (_ : Unit {0}). text) truth o r

filled-stop : (image : Image) (tokens : List (List ℕ)) (first : List ℕ) (count start : ℕ) (e : Why) → bytes_at image count start ≡ Err e → text_from image tokens first count start ≡ Err e
filled-stop image tokens first count start e is = rw is refl

filled-end : (image : Image) (tokens : List (List ℕ)) (first text all : List ℕ) (count start : ℕ) → Joined tokens first text all → bytes_at image count start ≡ Ok all → text_from image tokens first count start ≡ Ok text
filled-end image tokens first text all count start holds is = rw (is, holds) refl

pub text_halt : (o : Option Image) (tokens : List (List ℕ)) (count start i at : ℕ) (first old last : List ℕ) (stop : TableStop)
    → GoesAs (λ ns. old ≡ first ++ flat_map (token_of tokens) ns) (λ image. bytes_at image count start) (λ image. bytes_at image (count - i) at) o
    → Read o (λ image. byte_at image at) (Err stop) → i < count
    → Filled o last (λ image. text_from image tokens first count start) (Err stop)
text_halt o tokens count start i at first old last stop goes read lt =
    goes_stops (Joined tokens first old) (λ image. bytes_at image count start) (λ image. bytes_at image (count - i) at) (λ image. byte_at image at) (λ image. text_from image tokens first count start)
    (λ (b : ℕ). b) (λ (_ : Unit {0}). last) o stop goes read (λ image e one. bytes_stop image count i at e lt one) (λ image e is. filled-stop image tokens first count start e is)

pub text_come : (o : Option Image) (tokens : List (List ℕ)) (count start i at : ℕ) (first text : List ℕ)
    → GoesAs (λ ns. text ≡ first ++ flat_map (token_of tokens) ns) (λ image. bytes_at image count start) (λ image. bytes_at image (count - i) at) o → count ≤ i
    → Filled o text (λ image. text_from image tokens first count start) (Ok tt)
text_come o tokens count start i at first text goes past =
    came_as (Joined tokens first text) (λ image. bytes_at image count start) (λ image. text_from image tokens first count start) (λ (_ : Unit {0}). text) tt o
    (goes_ends (Joined tokens first text) (λ image. bytes_at image count start) (λ image. bytes_at image (count - i) at) o goes (λ image. bytes_end image count i at past))
    (λ image all holds is. filled-end image tokens first text all count start holds is)

-- symbols
pub symbols_go : {X : Type 0} (o : Option Image) (tokens : List (List ℕ)) (whole : Image → Result (List Symbol) Why) (most i : ℕ) (spot : Spot) (view : X → Entry) (x : X) (symbol : Symbol) (P Q : List Symbol → Type 0)
    → GoesAs P whole (λ image. symbols_at image tokens (most - i) i spot) o
    → ReadsAs view (λ image. entry_at image tokens spot) o (Ok x) → i < most → symbol_of i (view x).text (view x).offset ≡ Ok symbol
    → ((done : List Symbol) → P done → Q (done ++ symbol ∷ []))
    → GoesAs Q whole (λ image. symbols_at image tokens (most - (i + 1)) (i + 1) (view x).next) o
symbols_go o tokens whole most i spot view x symbol P Q goes read lt named more =
    goes_more P Q whole (λ image. symbols_at image tokens (most - i) i spot) (λ image. symbols_at image tokens (most - (i + 1)) (i + 1) (view x).next)
    symbol (λ image. entry_at image tokens spot) view x o goes read
    (λ image one. symbols_more image tokens most i spot (view x) symbol lt one named) more

pub symbols_halt : {X : Type 0} (o : Option Image) (tokens : List (List ℕ)) (whole : Image → Result (List Symbol) Why) (most i : ℕ) (spot : Spot) (P : List Symbol → Type 0) (view : X → Entry) (stop : TableStop)
    → GoesAs P whole (λ image. symbols_at image tokens (most - i) i spot) o
    → ReadsAs view (λ image. entry_at image tokens spot) o (Err stop) → i < most
    → ReadsAs (λ (xs : List Symbol). xs) whole o (Err stop)
symbols_halt o tokens whole most i spot P view stop goes read lt =
    goes_stops P whole (λ image. symbols_at image tokens (most - i) i spot) (λ image. entry_at image tokens spot) whole
    view (λ (xs : List Symbol). xs) o stop goes read (λ image e one. symbols_stop image tokens most i spot e lt one) (λ image e is. is)

pub symbols_refused : {X : Type 0} (o : Option Image) (tokens : List (List ℕ)) (whole : Image → Result (List Symbol) Why) (most i : ℕ) (spot : Spot) (view : X → Entry) (x : X) (P : List Symbol → Type 0) (fault : TableFault)
    → GoesAs P whole (λ image. symbols_at image tokens (most - i) i spot) o
    → ReadsAs view (λ image. entry_at image tokens spot) o (Ok x) → i < most → symbol_of i (view x).text (view x).offset ≡ Err fault
    → ReadsAs (λ (xs : List Symbol). xs) whole o (Err (Table fault))
symbols_refused None tokens whole most i spot view x P fault goes read lt named = tt
symbols_refused (Some image) tokens whole most i spot view x P fault goes read lt named =
    goes_stops {I = Unit {0}} P (λ _. whole image) (λ _. symbols_at image tokens (most - i) i spot) (λ _. symbols_at image tokens (most - i) i spot) (λ _. whole image)
    (λ (xs : List Symbol). xs) (λ (xs : List Symbol). xs) (Some tt) (Table fault) goes (symbols_bad image tokens most i spot (view x) fault lt read named) (λ _ e is. is) (λ _ e is. is)

pub symbols_come : (o : Option Image) (tokens : List (List ℕ)) (whole : Image → Result (List Symbol) Why) (most i : ℕ) (spot : Spot) (P : List Symbol → Type 0)
    → GoesAs P whole (λ image. symbols_at image tokens (most - i) i spot) o → most ≤ i → CameAs P whole o
symbols_come o tokens whole most i spot P goes past =
    goes_ends P whole (λ image. symbols_at image tokens (most - i) i spot) o goes (λ image. symbols_end image tokens most i spot past)
