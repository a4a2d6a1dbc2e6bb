-- That types lie between their symbols, and what an address as linked is at run time.
use Rattle.std.proofs.Common.{◌≡◌, ℕ, zero, suc, ◌+◌, ◌-◌, ◌^◌, ◌≤◌, nat_le, Bool, true, false, ◌&&◌, if◌then◌else◌, codes, List, [], ◌∷◌, length, Option, Some, None, Result, Ok, Err, refl, ap, subst, ◌∙◌, arith}
use Rattle.std.proofs.lemmas.Bool.Decides.{nat_tests}
use Rattle.kc_bytes.specs.Bytes as memory
use Rattle.kc_bytes.specs.Bytes.{byte_in, onward, word_start}
use Rattle.kc_memory.specs.declared.words.VWord.{VWord}
use Rattle.kc_memory.specs.Image.{Image}
use Rattle.kc_memory.specs.Stopped.{Stopped}
use Rattle.kc_memory.specs.Translation.{and_then, vword}
use Rattle.kc_kallsyms.specs.declared.fault.TableFault.{TableFault}
use Rattle.kc_kallsyms.specs.declared.fault.TableFault.TheVariants.{S10, S11}
use Rattle.kc_kallsyms.specs.declared.frame.RowFrame.{RowFrame}
use Rattle.kc_kallsyms.specs.Addresses.{offset_of}
use Rattle.kc_kallsyms.specs.Bytes.{bytes_at}
use Rattle.kc_kallsyms.specs.Map.{kernel_at}
use Rattle.kc_kallsyms.specs.Reading.{◌>>=◌, Bad, Why, missed, wanted}
use Rattle.kc_kallsyms.specs.Types.{address_by, size_between, types_at, types_between, types_of}
use Rattle.kc_files.specs.Laws.{ByteStands, BytesStand, LinkedRuns, TypesLieBetween}

-- a step that went well, and the next one
pub record Went {A B : Type 0} (r : Result A Why) (f : A → Result B Why) (b : B) : Type 0 where
  pub first : A
  pub was : r ≡ Ok first
  pub then_was : f first ≡ Ok b

pub went : {A B : Type 0} (r : Result A Why) (f : A → Result B Why) (b : B) → r >>= f ≡ Ok b → Went r f b
went (Ok a) f b is = record { first = a; was = refl; then_was = is }
went (Err e) f b is = absurd (let none : ⊥ = cc in none)

-- the same of a memory
pub record Stepped {A B : Type 0} (r : Result A Stopped) (f : A → Result B Stopped) (b : B) : Type 0 where
  pub first : A
  pub was : r ≡ Ok first
  pub then_was : f first ≡ Ok b

stepped : {A B : Type 0} (r : Result A Stopped) (f : A → Result B Stopped) (b : B) → and_then r f ≡ Ok b → Stepped r f b
stepped (Ok a) f b is = record { first = a; was = refl; then_was = is }
stepped (Err s) f b is = absurd (let none : ⊥ = cc in none)

pub not_missed : {A : Type 0} (r : Result A Stopped) (a : A) → missed r ≡ Ok a → r ≡ Ok a
not_missed (Ok x) a is = cc
not_missed (Err s) a is = absurd (let none : ⊥ = cc in none)

of_word : (image : Image) (at b : ℕ) (r : Result VWord Stopped) → vword image (word_start at) ≡ r → and_then r (λ w. Ok (byte_in at w.value)) ≡ Ok b → ByteStands image at b
of_word image at b (Ok w) stands is = record { word = w; stands = stands; is = cc }
of_word image at b (Err s) stands is = absurd (let none : ⊥ = cc in none)

byte_stands : (image : Image) (at b : ℕ) → memory.byte_at image at ≡ Ok b → ByteStands image at b
unfolding memory.byte_at
byte_stands image at b is = of_word image at b (vword image (word_start at)) refl is

pub record Bytes (image : Image) (count at : ℕ) (bytes : List ℕ) : Type 0 where
  pub long : length bytes ≡ count
  pub stand : BytesStand image at bytes

abbrev read : {A : Type 0} → A → Result A Stopped
read a = Ok a

same_bytes : (xs ys : List ℕ) → read xs ≡ Ok ys → xs ≡ ys
same_bytes xs ys is = cc

pub bytes_are : (image : Image) (count at : ℕ) (bytes : List ℕ) → memory.bytes_at image count at ≡ Ok bytes → Bytes image count at bytes
unfolding memory.bytes_at
bytes_are image zero at bytes is =
    subst (λ (l : List ℕ). Bytes image 0 at l) (same_bytes [] bytes is) (record { long = refl; stand = tt })
bytes_are image (suc count) at bytes is =
    let one = stepped (memory.byte_at image at) (λ byte. and_then (memory.bytes_at image count (onward at 1)) (λ rest. Ok (byte ∷ rest))) bytes is in
    let more = stepped (memory.bytes_at image count (onward at 1)) (λ (rest : List ℕ). read (one.first ∷ rest)) bytes one.then_was in
    let all = same_bytes (one.first ∷ more.first) bytes more.then_was in
    let rest = bytes_are image count (onward at 1) more.first more.was in
    subst (λ (l : List ℕ). Bytes image (suc count) at l) all
    (record { long = ap suc rest.long; stand = (byte_stands image at one.first one.was, rest.stand) })

abbrev size : ℕ → Result ℕ Why
size n = Ok n

pub there : (fault : TableFault) (o : Option ℕ) (a : ℕ) → wanted fault o ≡ Ok a → o ≡ Some a
there fault (Some x) a is = cc
there fault None a is = absurd (let none : ⊥ = cc in none)

sized : (b c : Bool) (start end n : ℕ) → (b ≡ true → start ≤ end) → (if b && c then size (end - start) else Err (Bad S11)) ≡ Ok n → start + n ≡ end
sized true true start end n le is = let same : end - start ≡ n = cc in let less : start ≤ end = le refl in omega arith
sized true false start end n le is = absurd (let none : ⊥ = cc in none)
sized false c start end n le is = absurd (let none : ⊥ = cc in none)

less_by : (start end : ℕ) → nat_le start end ≡ true → start ≤ end
less_by start end is = grind (arith, nat_tests)

size_is : (start end n : ℕ) → size_between start end ≡ Ok n → start + n ≡ end
size_is start end n is = sized (nat_le start end) (nat_le (end - start) (2 ^ 26)) start end n (less_by start end) is

pub record Between (image : Image) (frame : RowFrame) (first last : Option ℕ) (bytes : List ℕ) : Type 0 where
  pub start : ℕ
  pub end : ℕ
  pub starts : address_by frame first ≡ Some start
  pub ends : address_by frame last ≡ Some end
  pub whole : start + length bytes ≡ end
  pub stand : BytesStand image start bytes

pub between : (image : Image) (frame : RowFrame) (first last : Option ℕ) (bytes : List ℕ) → types_between image frame first last ≡ Ok bytes → Between image frame first last bytes
unfolding types_between
between image frame first last bytes is =
    let a = went (wanted S10 (address_by frame first)) (λ start. wanted S10 (address_by frame last) >>= (λ end. size_between start end >>= (λ size. bytes_at image size start))) bytes is in
    let b = went (wanted S10 (address_by frame last)) (λ end. size_between a.first end >>= (λ size. bytes_at image size a.first)) bytes a.then_was in
    let s = went (size_between a.first b.first) (λ size. bytes_at image size a.first) bytes b.then_was in
    let all = bytes_are image s.first a.first bytes (not_missed (memory.bytes_at image s.first a.first) bytes s.then_was) in
    record {
      start = a.first;
      end = b.first;
      starts = there S10 (address_by frame first) a.first a.was;
      ends = there S10 (address_by frame last) b.first b.was;
      whole = ap (λ n. a.first + n) all.long ∙ size_is a.first b.first s.first s.was;
      stand = all.stand;
    }

pub types_lie : TypesLieBetween
unfolding types_at
types_lie image kaslr places bytes is =
    let k = went (kernel_at image kaslr places) (types_of image) bytes is in
    let lie = between image k.first.frame (offset_of (codes "__start_BTF") k.first.symbols) (offset_of (codes "__stop_BTF") k.first.symbols) bytes k.then_was in
    (k.first, k.was, record { start = lie.start; end = lie.end; starts = lie.starts; ends = lie.ends; whole = lie.whole; stand = lie.stand })

pub linked_runs : LinkedRuns
linked_runs kaslr at above small = grind (arith, nat_tests)
