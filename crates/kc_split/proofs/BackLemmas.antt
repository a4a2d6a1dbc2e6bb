-- Records that were written out are read back.
use Rattle.std.proofs.Common.{◌≡◌, ℕ, zero, suc, ◌+◌, ◌*◌, ◌/◌, ◌%◌, ◌^◌, ◌<◌, ◌≤◌, Bool, true, false, List, [], ◌∷◌, ◌++◌, length, map, drop, Some, None, cond, ◌==◌, if◌then◌else◌, Result, Ok, ap, ◌∙◌, sym, refl, arith, unwrap_or, nat_le, nat_lt}
use Rattle.std.specs.Prelude.{All}
use Rattle.std.specs.List.{flat_map}
use Rattle.std.proofs.lemmas.List.{length-append, drop-drop, append_assoc, drop_at}
use Rattle.std.proofs.lemmas.Bool.Decides.{nat_tests}
use Rattle.std.proofs.lemmas.Bool.{le-ltb, le-leb, lt-leb}
use Rattle.byteorder.specs.Endian.{little_bytes, little_number}
use Rattle.byteorder.specs.Numbers.{little_number-reads_back}
use Rattle.kc_btf.specs.declared.kind.Kind.{Kind}
use Rattle.kc_btf.specs.declared.kind.Kind.TheVariants.{Int, Ptr, Array, Struct, Union, Enum, Fwd, Typedef, Volatile, Const, Restrict, Func, FuncProto, Var, Datasec, Float, DeclTag, TypeTag, Enum64}
use Rattle.kc_btf.specs.declared.stop.BtfFault.{BtfFault}
use Rattle.kc_btf.specs.Numbers.{word, words}
use Rattle.kc_btf.specs.Kind.{kind_number, kind_of, following}
use Rattle.kc_btf.specs.Records.{Record, kind_number_at, record_of, record_at, record_size, record_fault, kind_fault, places, before}
use Rattle.kc_btf.specs.Answers.{unless}
use Rattle.kc_btf.specs.Spelling.{info, numbers, spelled, HasForm}

-- a number that was written is read back
word-back : (n at : ℕ) (bytes rest : List ℕ) → n < 2 ^ 32 → drop at bytes ≡ little_bytes 4 n ++ rest → word bytes at ≡ n
unfolding word
word-back n at bytes rest small is = ap (little_number 4) is ∙ little_number-reads_back 4 n rest (omega arith)

-- what follows it
behind : (n at : ℕ) (bytes rest : List ℕ) → drop at bytes ≡ little_bytes 4 n ++ rest → drop (at + 4) bytes ≡ rest
behind n at bytes rest is = sym (drop-drop 4 at bytes) ∙ ap (drop 4) is

-- numbers that were written are read back
pub words-back : (ns : List ℕ) (at : ℕ) (bytes rest : List ℕ) → All (λ n. n < 2 ^ 32) ns → drop at bytes ≡ flat_map (little_bytes 4) ns ++ rest → words (length ns) bytes at ≡ ns
unfolding words
words-back [] at bytes rest small is = refl
words-back (n ∷ ns) at bytes rest small is =
    let more = is ∙ append_assoc (little_bytes 4 n) (flat_map (little_bytes 4) ns) rest in
    let first = word-back n at bytes (flat_map (little_bytes 4) ns ++ rest) (small 0 0 (omega arith)) more in
    let next = words-back ns (at + 4) bytes rest (λ k d within. small (suc k) d (omega arith)) (behind n at bytes (flat_map (little_bytes 4) ns ++ rest) more) in
    ap (λ x. x ∷ words (length ns) bytes (at + 4)) first ∙ ap (λ xs. n ∷ xs) next

pub length-numbers : (ns : List ℕ) → length (flat_map (little_bytes 4) ns) ≡ 4 * length ns
length-numbers [] = refl
length-numbers (n ∷ ns) = omega (arith, length-append (little_bytes 4 n) (flat_map (little_bytes 4) ns), length-numbers ns)

-- a record takes its bytes
pub length-spelled : (r : Record) → HasForm r → length (spelled r) ≡ record_size r
unfolding spelled
length-spelled r form = omega (arith, length-numbers (numbers r), form.count)

-- a kind by its number
kind-back : (kind : Kind) → (kind_number kind < 32) × (kind_of (kind_number kind) ≡ Some kind)
kind-back Int = (omega arith, refl)
kind-back Ptr = (omega arith, refl)
kind-back Array = (omega arith, refl)
kind-back Struct = (omega arith, refl)
kind-back Union = (omega arith, refl)
kind-back Enum = (omega arith, refl)
kind-back Fwd = (omega arith, refl)
kind-back Typedef = (omega arith, refl)
kind-back Volatile = (omega arith, refl)
kind-back Const = (omega arith, refl)
kind-back Restrict = (omega arith, refl)
kind-back Func = (omega arith, refl)
kind-back FuncProto = (omega arith, refl)
kind-back Var = (omega arith, refl)
kind-back Datasec = (omega arith, refl)
kind-back Float = (omega arith, refl)
kind-back DeclTag = (omega arith, refl)
kind-back TypeTag = (omega arith, refl)
kind-back Enum64 = (omega arith, refl)

-- an info tells its parts
record Parts (w v l k h : ℕ) (f : Bool) : Type 0 where
  vlen : w % 2 ^ 16 ≡ v
  low : w / 2 ^ 16 % 2 ^ 8 ≡ l
  kind : w / 2 ^ 24 % 32 ≡ k
  high : w / 2 ^ 29 % 4 ≡ h
  flag : (w / 2 ^ 31 == 1) ≡ f

parts : (vlen low kind high : ℕ) (flag : Bool) → vlen < 2 ^ 16 → low < 2 ^ 8 → kind < 32 → high < 2 ^ 2 →
    Parts (vlen + 2 ^ 16 * low + 2 ^ 24 * kind + 2 ^ 29 * high + 2 ^ 31 * (if flag then 1 else 0)) vlen low kind high flag
parts vlen low kind high true a b c d = record {
  vlen = omega arith;
  low = omega arith;
  kind = omega arith;
  high = omega arith;
  flag = grind (arith, nat_tests);
}
parts vlen low kind high false a b c d = record {
  vlen = omega arith;
  low = omega arith;
  kind = omega arith;
  high = omega arith;
  flag = grind (arith, nat_tests);
}

-- a record that was written is read back
pub record IsBack (r : Record) (bytes : List ℕ) (at : ℕ) : Type 0 where
  pub known : kind_of (kind_number_at bytes at) ≡ Some r.kind
  pub of_kind : record_of r.kind bytes at ≡ r
  pub same : record_at bytes at ≡ r

-- the numbers of a record, one by one
record AreNumbers (r : Record) (bytes : List ℕ) (at : ℕ) : Type 0 where
  name : word bytes at ≡ r.name
  info : word bytes (at + 4) ≡ info r
  rest : word bytes (at + 8) ≡ r.rest
  words : words (following r.kind r.vlen) bytes (at + 12) ≡ r.words

are_numbers : (r : Record) (at : ℕ) (bytes rest : List ℕ) → HasForm r → drop at bytes ≡ spelled r ++ rest → AreNumbers r bytes at
unfolding spelled words
are_numbers r at bytes rest form is =
    let third : at + 4 + 4 ≡ at + 8 = omega arith in
    let next : at + 8 + 4 ≡ at + 12 = omega arith in
    let all : words (length (numbers r)) bytes at ≡ numbers r = words-back (numbers r) at bytes rest form.numbers is in
    let each : word bytes at ∷ word bytes (at + 4) ∷ word bytes (at + 8) ∷ words (length r.words) bytes (at + 12) ≡ numbers r = rw next at (rw third at all) in
    let tail : words (length r.words) bytes (at + 12) ≡ r.words = cc in
    record { name = cc; info = cc; rest = cc; words = rw form.count at tail }

pub back : (r : Record) (at : ℕ) (bytes rest : List ℕ) → HasForm r → drop at bytes ≡ spelled r ++ rest → IsBack r bytes at
unfolding record_at
back r at bytes rest form is =
    let n = are_numbers r at bytes rest form is in
    let kind = kind-back r.kind in
    let p = parts r.vlen r.low_spare (kind_number r.kind) r.high_spare r.flag form.vlen form.low_spare kind.0 form.high_spare in
    let known : kind_of (kind_number_at bytes at) ≡ Some r.kind = ap (λ w. kind_of (w / 2 ^ 24 % 32)) n.info ∙ ap kind_of p.kind ∙ kind.1 in
    let vlen : word bytes (at + 4) % 2 ^ 16 ≡ r.vlen = ap (λ w. w % 2 ^ 16) n.info ∙ p.vlen in
    let flag : (word bytes (at + 4) / 2 ^ 31 == 1) ≡ r.flag = ap (λ w. w / 2 ^ 31 == 1) n.info ∙ p.flag in
    let low : word bytes (at + 4) / 2 ^ 16 % 2 ^ 8 ≡ r.low_spare = ap (λ w. w / 2 ^ 16 % 2 ^ 8) n.info ∙ p.low in
    let high : word bytes (at + 4) / 2 ^ 29 % 4 ≡ r.high_spare = ap (λ w. w / 2 ^ 29 % 4) n.info ∙ p.high in
    let of_kind : record_of r.kind bytes at ≡ r = rw (vlen, flag, low, high, n.name, n.rest, n.words) refl in
    record {
      known = known;
      of_kind = of_kind;
      same = ap (λ o. record_of (unwrap_or o Int) bytes at) known ∙ of_kind;
    }

-- it breaks no rule
no_fault : (r : Record) (bytes : List ℕ) (at end : ℕ) → IsBack r bytes at → at + record_size r ≤ end → record_fault bytes at end ≡ None
unfolding record_fault
no_fault r bytes at end is within =
    let head : nat_lt end (at + 12) ≡ false = le-ltb end (at + 12) (omega arith) in
    let body : nat_lt end (at + record_size (record_of r.kind bytes at)) ≡ false = ap (λ (x : Record). nat_lt end (at + record_size x)) is.of_kind ∙ le-ltb end (at + record_size r) within in
    let fits : kind_fault (Some r.kind) bytes at end ≡ None = rw body refl in
    rw head (ap (λ o. kind_fault o bytes at end) is.known ∙ fits)

-- the records of a section are found, and read back
pub record ArePlaced (rs : List Record) (most : ℕ) (bytes : List ℕ) (at end : ℕ) (ps : List ℕ) : Type 0 where
  pub found : places most bytes at end ≡ Ok ps
  pub same : map (record_at bytes) ps ≡ rs

pub placed : (rs : List Record) (most at end : ℕ) (bytes rest : List ℕ) → All HasForm rs → drop at bytes ≡ flat_map spelled rs ++ rest → end ≡ at + length (flat_map spelled rs) → length (flat_map spelled rs) ≤ most →
    (ps : List ℕ) × ArePlaced rs most bytes at end ps
unfolding places
placed [] zero at end bytes rest form is stop enough = ([], record { found = refl; same = refl })
placed [] (suc most) at end bytes rest form is stop enough =
    let last : nat_le end at ≡ true = le-leb end at (omega arith) in
    ([], record { found = rw last refl; same = refl })
placed (r ∷ rs) zero at end bytes rest form is stop enough =
    absurd (omega (arith, length-append (spelled r) (flat_map spelled rs), length-spelled r (form 0 r (omega arith))))
placed (r ∷ rs) (suc most) at end bytes rest form is stop enough =
    let own : HasForm r = form 0 r (omega arith) in
    let others : All HasForm rs = λ k d within. form (suc k) d (omega arith) in
    let size = length-spelled r own in
    let sum = length-append (spelled r) (flat_map spelled rs) in
    let split = is ∙ append_assoc (spelled r) (flat_map spelled rs) rest in
    let here = back r at bytes (flat_map spelled rs ++ rest) own split in
    let next = sym (drop-drop (record_size r) at bytes) ∙ ap (drop (record_size r)) split ∙ drop_at (spelled r) (flat_map spelled rs ++ rest) (record_size r) size in
    let tail = placed rs most (at + record_size r) end bytes rest others next (omega arith) (omega arith) in
    let more : nat_le end at ≡ false = lt-leb end at (omega arith) in
    let none = no_fault r bytes at end here (omega arith) in
    let on : ℕ → Result (List ℕ) BtfFault = λ x. before at (places most bytes x end) in (
      at ∷ tail.0,
      record {
        found = ap (λ t. cond t (Ok []) (unless (record_fault bytes at end) (on (at + record_size (record_at bytes at))))) more
            ∙ ap (λ f. unless f (on (at + record_size (record_at bytes at)))) none
            ∙ ap (λ (x : Record). on (at + record_size x)) here.same
            ∙ ap (before at) tail.1.found;
        same = ap (λ x. x ∷ map (record_at bytes) tail.0) here.same ∙ ap (λ xs. r ∷ xs) tail.1.same;
      },
    )
