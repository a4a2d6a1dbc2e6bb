-- Records one after another, and values one after another.
use Rattle.std.proofs.Common.{◌≡◌, ℕ, zero, suc, ◌+◌, ◌-◌, ◌<◌, ◌≤◌, List, [], ◌∷◌, ◌++◌, length, take, drop, slice_index, Option, Some, None, Result, Ok, Err, IfSome, All, get_or, max, drop-cons, refl, sym, ap, ◌∙◌, append_assoc, subst, arith}
use Rattle.std.proofs.lemmas.List.{take_more, append-nil}
use Rattle.std.proofs.lemmas.List.Elements.{All-append}
use Rattle.kc_word.specs.Answers.{GivesTold, Tells}
use Rattle.kc_flattened.specs.declared.fault.FlatStop.{FlatStop}
use Rattle.kc_flattened.specs.declared.fault.FlatStop.TheVariants.{Fault, ReadFault, NoMemory}
use Rattle.kc_flattened.specs.Answers.{Answers, told}
use Rattle.kc_flattened.specs.declared.fault.FlatFault.{FlatFault}
use Rattle.kc_flattened.specs.declared.fault.FlatFault.TheVariants.{TooMany}
use Rattle.kc_flattened.specs.declared.record.Record.{Record}
use Rattle.kc_flattened.specs.Flat.{before, and_more, record_at, records_from, byte_of, written, values, reach, size_of}

-- the last record is written last
pub written_append : (bytes : List ℕ) (rs : List Record) (r : Record) (i b : ℕ) → written bytes (rs ++ r ∷ []) i b ≡ byte_of bytes r i (written bytes rs i b)
unfolding written
written_append bytes [] r i b = refl
written_append bytes (x ∷ rs) r i b = written_append bytes rs r i (byte_of bytes x i b)

pub written_none : (bytes : List ℕ) (i b : ℕ) → written bytes [] i b ≡ b
unfolding written
written_none bytes i b = refl

-- a list whose members are the values of a function
pub values_are : (f : ℕ → ℕ) (xs : List ℕ) (at : ℕ) → ((k : ℕ) → k < length xs → slice_index xs k ≡ f (at + k)) → xs ≡ values f at (length xs)
unfolding values
values_are f [] at each = refl
values_are f (x ∷ xs) at each =
    let first : x ≡ f at = each 0 (omega arith) ∙ ap f (let e : at + 0 ≡ at = omega arith in e) in
    let rest : xs ≡ values f (at + 1) (length xs) =
    values_are f xs (at + 1) (λ k less. each (suc k) (omega arith) ∙ ap f (let e : at + suc k ≡ at + 1 + k = omega arith in e)) in
    ap (λ y. y ∷ xs) first ∙ ap (λ ys. f at ∷ ys) rest

-- what is read goes before what is left to read
pub before_none : (r : Result (List Record) FlatFault) → before [] r ≡ r
before_none (Ok records) = refl
before_none (Err fault) = refl

pub before_twice : (xs : List Record) (x : Record) (r : Result (List Record) FlatFault) → before (xs ++ x ∷ []) r ≡ before xs (before (x ∷ []) r)
before_twice xs x (Ok records) = ap (λ ys. Ok ys) (append_assoc xs (x ∷ []) records)
before_twice xs x (Err fault) = refl

pub records_none : (size at : ℕ) (bytes : List ℕ) → records_from 0 size at bytes ≡ Err TooMany
unfolding records_from
records_none size at bytes = refl

pub records_next : (n size at : ℕ) (bytes : List ℕ) → records_from (suc n) size at bytes ≡ and_more (record_at size at bytes) (λ next. records_from n size next bytes)
unfolding records_from
records_next n size at bytes = refl

-- what holds of bytes that are told
pub each : {A : Type 0} (o : Option A) (P : A → Type 0) → ((x : A) → P x) → IfSome o P
each None P all = tt
each (Some x) P all = all x

pub both : {A : Type 0} (o p : Option A) (P Q R : A → Type 0) → o ≡ p → ((x : A) → P x → Q x → R x) → IfSome o P → IfSome p Q → IfSome p R
both {A} o p P Q R same all first second =
    let F : Option A → Type 0 = λ o. IfSome o P in at p (subst F same first) second
  where
    at : (p : Option A) → IfSome p P → IfSome p Q → IfSome p R
    at None first second = tt
    at (Some x) first second = all x first second

pub along : {A : Type 0} (o : Option A) (P Q : A → Type 0) → ((x : A) → P x → Q x) → IfSome o P → IfSome o Q
along None P Q all first = tt
along (Some x) P Q all first = all x first

-- a record more is written over what the records before it wrote
pub written_more : (bytes : List ℕ) (rs : List Record) (n : ℕ) (d : Record) (i b old new : ℕ) → n < length rs
    → new ≡ byte_of bytes (get_or rs n d) i old → old ≡ written bytes (take n rs) i b → new ≡ written bytes (take (n + 1) rs) i b
written_more bytes rs n d i b old new here is was =
    is ∙ ap (λ o. byte_of bytes (get_or rs n d) i o) was ∙ sym (written_append bytes (take n rs) (get_or rs n d) i b)
    ∙ ap (λ xs. written bytes xs i b) (sym (take_more rs n d here))

-- one more record is read
pub all_more : (i size at : ℕ) (bytes : List ℕ) (xs : List Record) (r : Record) (whole : Result (List Record) FlatFault) → i < 4194304 → record_at size at bytes ≡ Ok (Some r)
    → before xs (records_from (4194304 - i) size at bytes) ≡ whole
    → before (xs ++ r ∷ []) (records_from (4194304 - (i + 1)) size (r.from + r.count) bytes) ≡ whole
all_more i size at bytes xs r whole less is was =
    let n : 4194304 - i ≡ suc (4194304 - (i + 1)) = omega arith in
    before_twice xs r (records_from (4194304 - (i + 1)) size (r.from + r.count) bytes)
    ∙ ap (λ x. before xs (and_more x (λ next. records_from (4194304 - (i + 1)) size next bytes))) (sym is)
    ∙ ap (λ x. before xs x) (sym (records_next (4194304 - (i + 1)) size at bytes))
    ∙ ap (λ m. before xs (records_from m size at bytes)) (sym n)
    ∙ was

-- the last record is read
pub all_end : (i size at : ℕ) (bytes : List ℕ) (xs : List Record) (whole : Result (List Record) FlatFault) → i < 4194304 → record_at size at bytes ≡ Ok None
    → before xs (records_from (4194304 - i) size at bytes) ≡ whole → whole ≡ Ok xs
all_end i size at bytes xs whole less is was =
    let n : 4194304 - i ≡ suc (4194304 - (i + 1)) = omega arith in
    sym was ∙ ap (λ m. before xs (records_from m size at bytes)) n
    ∙ ap (λ x. before xs x) (records_next (4194304 - (i + 1)) size at bytes)
    ∙ ap (λ x. before xs (and_more x (λ next. records_from (4194304 - (i + 1)) size next bytes))) is
    ∙ ap (λ ys. Ok ys) (append-nil xs)

-- a record has a fault
pub all_fault : (i size at : ℕ) (bytes : List ℕ) (xs : List Record) (fault : FlatFault) (whole : Result (List Record) FlatFault) → i < 4194304 → record_at size at bytes ≡ Err fault
    → before xs (records_from (4194304 - i) size at bytes) ≡ whole → whole ≡ Err fault
all_fault i size at bytes xs fault whole less is was =
    let n : 4194304 - i ≡ suc (4194304 - (i + 1)) = omega arith in
    sym was ∙ ap (λ m. before xs (records_from m size at bytes)) n
    ∙ ap (λ x. before xs x) (records_next (4194304 - (i + 1)) size at bytes)
    ∙ ap (λ x. before xs (and_more x (λ next. records_from (4194304 - (i + 1)) size next bytes))) is

-- there are too many
pub all_many : (i size at : ℕ) (bytes : List ℕ) (xs : List Record) (whole : Result (List Record) FlatFault) → 4194304 ≤ i
    → before xs (records_from (4194304 - i) size at bytes) ≡ whole → whole ≡ Err TooMany
all_many i size at bytes xs whole many was =
    let n : 4194304 - i ≡ 0 = omega arith in
    sym was ∙ ap (λ m. before xs (records_from m size at bytes)) n ∙ ap (λ x. before xs x) (records_none size at bytes)

-- an error that tells a fault of one answer tells it of another
pub tells_along : {X Y : Type 0} (stop : FlatStop) (d : Result X FlatFault) (e : Result Y FlatFault) → ((fault : FlatFault) → d ≡ Err fault → e ≡ Err fault) → Tells (told stop) d → Tells (told stop) e
tells_along (Fault fault) d e all is = all fault is
tells_along ReadFault d e all is = tt
tells_along NoMemory d e all is = tt

-- an answer, where the bytes are told
pub answers : {X Y : Type 0} (o : Option (List ℕ)) (view : X → Y) (result : Result X FlatStop) (meant : List ℕ → Result Y FlatFault) → IfSome o (λ bytes. GivesTold told view result (meant bytes)) → Answers view o result meant
answers None view result meant h = tt
answers (Some bytes) view result meant h = h

pub answered : {X Y : Type 0} (o : Option (List ℕ)) (view : X → Y) (result : Result X FlatStop) (meant : List ℕ → Result Y FlatFault) → Answers view o result meant → IfSome o (λ bytes. GivesTold told view result (meant bytes))
answered None view result meant h = tt
answered (Some bytes) view result meant h = h

all_single : {A : Type 0} (P : A → Type 0) (x : A) → P x → All P (x ∷ [])
all_single P x h zero d less = h
all_single P x h (suc k) d less = absurd (omega arith)

-- what holds of each and of one more
pub all_one : {A : Type 0} (P : A → Type 0) (xs : List A) (x : A) → All P xs → P x → All P (xs ++ x ∷ [])
all_one P xs x hs h = All-append P xs (x ∷ []) hs (all_single P x h)

values_front : (f : ℕ → ℕ) (at n m : ℕ) → n ≤ m → take n (values f at m) ≡ values f at n
unfolding values
values_front f at zero m less = refl
values_front f at (suc n) zero less = absurd (omega arith)
values_front f at (suc n) (suc m) less = ap (λ xs. f at ∷ xs) (values_front f (at + 1) n m (omega arith))

-- a part of the values of a function
pub values_part : (f : ℕ → ℕ) (at k n m : ℕ) → k + n ≤ m → take n (drop k (values f at m)) ≡ values f (at + k) n
unfolding values
values_part f at zero n m less = values_front f at n m (omega arith) ∙ ap (λ a. values f a n) (let e : at ≡ at + 0 = omega arith in e)
values_part f at (suc k) n zero less = absurd (omega arith)
values_part f at (suc k) n (suc m) less = values_part f (at + 1) k n m (omega arith) ∙ ap (λ a. values f a n) (let e : at + 1 + k ≡ at + suc k = omega arith in e)

-- how far the records from one on reach
pub size_more : (rs : List Record) (n end : ℕ) (d : Record) → n < length rs → max (max (reach (get_or rs n d)) end) (size_of (drop (n + 1) rs)) ≡ max end (size_of (drop n rs))
unfolding size_of
size_more rs n end d less = ap (λ xs. max (max (reach (get_or rs n d)) end) (size_of xs)) refl ∙ at_drop (drop-cons rs n d less)
  where
    at_drop : drop n rs ≡ get_or rs n d ∷ drop (suc n) rs → max (max (reach (get_or rs n d)) end) (size_of (drop (n + 1) rs)) ≡ max end (size_of (drop n rs))
    at_drop is =
        let one : n + 1 ≡ suc n = omega arith in
        let a : size_of (drop n rs) ≡ max (reach (get_or rs n d)) (size_of (drop (suc n) rs)) = ap size_of is in
        let b : size_of (drop (n + 1) rs) ≡ size_of (drop (suc n) rs) = ap (λ m. size_of (drop m rs)) one in
        omega arith

pub size_none : size_of [] ≡ 0
unfolding size_of
size_none = refl
