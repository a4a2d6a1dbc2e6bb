-- Formats put together: what holds of the parts holds of the whole. And lines that are read one by one up to their end.
use Rattle.std.specs.Prelude.{◌≡◌, ℕ, ◌+◌, ◌^◌, ◌<◌, ◌≤◌, true, false, List, [], ◌∷◌, ◌++◌, length, Option, Result, Ok, Err}
use Rattle.kc_text.specs.Format.{Format, Begins, IsRead, IsFormat, IsWhole, IsPlace}
use Rattle.kc_text.specs.Readers.{IsAmong, decimal_and, decimal_below, digit_from, hex16, is_digit, is_name_byte, literal, name_and, one_of, read_one_of}
use Rattle.kc_text.specs.Compose.{EndsAt, Goes, after, both, either, ends, followed, lines, mapped, nothing}
use Rattle.kc_text.specs.Counted.{counted, ended, times}
use Rattle.kc_text.proofs.CountedLaws as counts
use Rattle.kc_text.proofs.FormatLaws as made
use Rattle.kc_text.proofs.LineLaws as lined
use Rattle.kc_text.proofs.ReaderLaws as read

-- an answer isn't an error
pub ok_not_err : {A E : Type 0} (a : A) (e : E) → ◌≡◌ {A = Result A E} (Ok a) (Err e) → ⊥
ok_not_err = made.ok_not_err

-- an answer tells its parts
pub ok_is : {A E : Type 0} (a b : A) → ◌≡◌ {A = Result A E} (Ok a) (Ok b) → a ≡ b
ok_is = made.ok_is

pub err_is : {A E : Type 0} (d e : E) → ◌≡◌ {A = Result A E} (Err d) (Err e) → d ≡ e
err_is = made.err_is

-- a literal
pub literal-law : (text : List ℕ) → IsFormat (literal text)
literal-law = read.literal-law

-- a name, up to a byte that stands in no name
pub name-law : (end : ℕ) → is_name_byte end ≡ false → IsFormat (name_and end)
name-law = read.name-law

-- a decimal number below a limit, up to a byte that is no digit
pub below-law : (limit end : ℕ) → 10 ≤ limit → limit ≤ 2 ^ 64 → is_digit end ≡ false → IsFormat (decimal_below limit end)
below-law = read.below-law

pub decimal-law : (end : ℕ) → is_digit end ≡ false → IsFormat (decimal_and end)
decimal-law = read.decimal-law

-- a number of 16 hex digits
pub hex-law : IsFormat hex16
hex-law = read.hex-law

-- one digit
pub digit-law : (low high : ℕ) → low ≤ high → IsFormat (digit_from low high)
digit-law = read.digit-law

-- one text after another, where each first value has a second
pub both-law : {X Y : Type 0} (After : List ℕ → Type 0) (f : Format X) (g : X → Format Y) → IsFormat f → ((x : X) → f.Good x → IsRead After (g x))
    → ((x : X) → f.Good x → (y : Y) × (g x).Good y) → IsRead After (both f g)
both-law = made.both-law

-- the same, where the first shows its own end or the second's first byte shows it
pub joined-law : {X Y : Type 0} (Between After : List ℕ → Type 0) (f : Format X) (g : X → Format Y) → IsRead Between f → ((x : X) → f.Good x → IsRead After (g x))
    → ((x : X) (y : Y) (more : List ℕ) → f.Good x → (g x).Good y → After more → Between ((g x).spell y ++ more))
    → ((c : ℕ) (cs ds : List ℕ) → Between (c ∷ cs) → Between (c ∷ ds))
    → ((x : X) → f.Good x → (y : Y) × (g x).Good y) → IsRead After (both f g)
joined-law = made.joined-law

-- the same texts for other values
pub mapped-law : {X Y : Type 0} (to : X → Y) (Good : Y → Type 0) (spell : Y → List ℕ) (After : List ℕ → Type 0) (f : Format X) → IsRead After f
    → ((x : X) → f.Good x → Good (to x) × (spell (to x) ≡ f.spell x)) → ((y : Y) → Good y → (x : X) × f.Good x × (to x ≡ y)) → IsRead After (mapped to Good spell f)
mapped-law = made.mapped-law

-- nothing, for one value
pub nothing-law : {X : Type 0} (x : X) → IsFormat (nothing x)
nothing-law = made.nothing-law

-- one of two formats, where no text of the first is read by the second
pub either-law : {X Y : Type 0} (After : List ℕ → Type 0) (f : Format X) (g : Format Y) → IsRead After f → IsRead After g
    → ((x : X) (more : List ℕ) → f.Good x → (t : Y × List ℕ) → g.read (f.spell x ++ more) ≡ Ok t → ⊥) → IsRead After (either f g)
either-law = made.either-law

-- a format may be read in another way that finds the same
pub reread-law : {X : Type 0} (After : List ℕ → Type 0) (f : Format X) (read : List ℕ → Result (X × List ℕ) (List ℕ)) → ((bytes : List ℕ) → read bytes ≡ f.read bytes)
    → IsRead After f → IsRead After (record { Good = f.Good; spell = f.spell; read = read })
reread-law = lined.reread-law

-- a text that always stands before a value's
pub after-law : {X : Type 0} (After : List ℕ → Type 0) (text : List ℕ) (f : Format X) → IsRead After f → (x : X) × f.Good x → IsRead After (after text f)
after-law = lined.after-law

-- and one that always stands after it
pub followed-law : {X : Type 0} (f : Format X) (text : List ℕ) → IsFormat f → IsFormat (followed f text)
followed-law = lined.followed-law

-- one of these values, each of which is read back from its text
pub one-law : {X : Type 0} (spell : X → List ℕ) (x : X) (xs : List X)
    → ((y : X) (rest : List ℕ) → IsAmong y (x ∷ xs) → read_one_of spell (x ∷ xs) (spell y ++ rest) ≡ Ok (y, rest)) → IsFormat (one_of spell (x ∷ xs))
one-law = lined.one-law

-- what may stand after lines shows in its first byte
pub ends-by-first : (end : Option ℕ) (c : ℕ) (cs ds : List ℕ) → ends end (c ∷ cs) ≡ ends end (c ∷ ds)
ends-by-first = lined.ends-by-first

-- lines up to their end, with which no line begins
pub lines-law : {X : Type 0} (end : Option ℕ) (f : Format X) → IsFormat f → ((x : X) → f.Good x → 1 ≤ length (f.spell x))
    → ((x : X) (more : List ℕ) → f.Good x → ends end (f.spell x ++ more) ≡ false) → IsRead (EndsAt end) (lines end f)
lines-law = lined.lines-law

-- a loop over lines: one more is read, and fewer bytes are left
pub goes-more : {X : Type 0} (end : Option ℕ) (f : Format X) → IsFormat f → ((x : X) → f.Good x → 1 ≤ length (f.spell x))
    → ((x : X) (more : List ℕ) → f.Good x → ends end (f.spell x ++ more) ≡ false) → (bytes : List ℕ) (done : List X) (rest next : List ℕ) (x : X)
    → Goes end f bytes done rest → ends end rest ≡ false → f.read rest ≡ Ok (x, next) → Goes end f bytes (done ++ x ∷ []) next
goes-more = lined.goes-more

pub goes-smaller : {X : Type 0} (end : Option ℕ) (f : Format X) → IsFormat f → ((x : X) → f.Good x → 1 ≤ length (f.spell x))
    → ((x : X) (more : List ℕ) → f.Good x → ends end (f.spell x ++ more) ≡ false) → (rest next : List ℕ) (x : X)
    → f.read rest ≡ Ok (x, next) → length next < length rest
goes-smaller = lined.goes-smaller

-- where it stops, reading the lines stops
pub goes-stop : {X : Type 0} (end : Option ℕ) (f : Format X) → IsFormat f → ((x : X) → f.Good x → 1 ≤ length (f.spell x))
    → ((x : X) (more : List ℕ) → f.Good x → ends end (f.spell x ++ more) ≡ false) → (bytes : List ℕ) (done : List X) (rest stop : List ℕ)
    → Goes end f bytes done rest → ends end rest ≡ false → f.read rest ≡ Err stop → (lines end f).read bytes ≡ Err stop
goes-stop = lined.goes-stop

-- where they end, the lines are read
pub goes-end : {X : Type 0} (end : Option ℕ) (f : Format X) → IsFormat f → ((x : X) → f.Good x → 1 ≤ length (f.spell x))
    → ((x : X) (more : List ℕ) → f.Good x → ends end (f.spell x ++ more) ≡ false) → (bytes : List ℕ) (done : List X) (rest : List ℕ)
    → Goes end f bytes done rest → ends end rest ≡ true → (lines end f).read bytes ≡ Ok (done, rest)
goes-end = lined.goes-end

-- where reading stops: the length of the bytes before it is that of the longest front that begins a text
pub stop-place : {X : Type 0} (f : Format X) → IsWhole f → (bytes rest : List ℕ) → f.read bytes ≡ Err rest → (n : ℕ) → n + length rest ≡ length bytes → IsPlace (Begins f) bytes n
stop-place = lined.stop-place

-- and these bytes are no value's text
pub stop-none : {X : Type 0} (f : Format X) → IsWhole f → (bytes rest : List ℕ) → f.read bytes ≡ Err rest → (x : X) → f.Good x → bytes ≡ f.spell x → ⊥
stop-none = lined.stop-none

-- so many values, each with its text
pub times-law : {X : Type 0} (f : Format X) → IsFormat f → (x : X) × f.Good x → (n : ℕ) → IsFormat (times f n)
times-law = counts.times-law

-- their number in a line, and then each with its text
pub counted-law : {X : Type 0} (f : Format X) → IsFormat f → (x : X) × f.Good x → IsFormat (counted f)
counted-law = counts.counted-law

-- a text that ends where the bytes end
pub ended-law : {X : Type 0} (f : Format X) → IsFormat f → IsWhole (ended f)
ended-law = counts.ended-law
