-- The parts of rising runs are the frames that one of the runs has.
use Rattle.std.proofs.Common.{◌≡◌, ℕ, zero, suc, ◌+◌, ◌-◌, ◌*◌, ◌/◌, ◌%◌, ◌<◌, ◌≤◌, max, Bool, true, false, cond, ◌&&◌, ◌||◌, nat_eq, nat_le, nat_lt, if◌then◌else◌, List, [], ◌∷◌, ◌++◌, length, map, slice_index_or, refl, sym, ap, subst, ◌∙◌, arith}
use Rattle.std.specs.Prelude.{IfOk, Result, Ok, Err}
use Rattle.kc_word.specs.declared.memory.NoMemory.{NoMemory}
use Rattle.std.specs.Global.{Vec}
use Rattle.std.specs.List.{All, filter, flat_map, list_any, range_with_len}
use Rattle.std.specs.List.Sorted.{IsNonDecreasingBy, IsPermutation}
use Rattle.std.proofs.lemmas.Bool.{eqb-true, eqb-false, le-leb, leb-true, leb-false, le-ltb, lt-leb, lt-ltb, ltb-true, ltb-false, or_from}
use Rattle.std.proofs.lemmas.List.Elements.{All-cons, All-head, All-nil, All-tail, filter-append}
use Rattle.std.proofs.lemmas.List.Sorted.{All-permutation, list_any-IsPermutation}
use Rattle.kc_word.specs.declared.plain.Segment.{Segment}
use Rattle.kc_slab_page.specs.declared.frames.FrameRun.{FrameRun}
use Rattle.kc_slab_page.specs.Frames.Frames.{frames, frames_in, frames_of, has_frame, parted, reach, run_of}

-- a range in two parts
range_parts : (a m n : ℕ) → range_with_len a (m + n) ≡ range_with_len a m ++ range_with_len (a + m) n
range_parts a zero n =
    let e : 0 + n ≡ n = omega arith in
    let f : a + 0 ≡ a = omega arith in
    rw (e, f) refl
range_parts a (suc m) n =
    let e : suc m + n ≡ suc (m + n) = omega arith in
    let f : a + suc m ≡ a + 1 + m = omega arith in
    rw (e, f) (ap (λ (l : List ℕ). a ∷ l) (range_parts (a + 1) m n))

-- what a test answers in a range
filter_none : (f : ℕ → Bool) (a m : ℕ) → ((n : ℕ) → a ≤ n → n < a + m → f n ≡ false) → filter f (range_with_len a m) ≡ []
filter_none f a zero none = refl
filter_none f a (suc m) none =
    rw (none a (omega arith) (omega arith)) (filter_none f (a + 1) m (λ n low high. none n (omega (arith, low)) (omega (arith, high))))

filter_all : (f : ℕ → Bool) (a m : ℕ) → ((n : ℕ) → a ≤ n → n < a + m → f n ≡ true) → filter f (range_with_len a m) ≡ range_with_len a m
filter_all f a zero all = refl
filter_all f a (suc m) all =
    rw (all a (omega arith) (omega arith)) (ap (λ (l : List ℕ). a ∷ l) (filter_all f (a + 1) m (λ n low high. all n (omega (arith, low)) (omega (arith, high)))))

filter_same : (f g : ℕ → Bool) (a m : ℕ) → ((n : ℕ) → a ≤ n → n < a + m → f n ≡ g n) → filter f (range_with_len a m) ≡ filter g (range_with_len a m)
filter_same f g a zero same = refl
filter_same f g a (suc m) same =
    rw (same a (omega arith) (omega arith)) (ap (λ (l : List ℕ). cond (g a) (a ∷ l) l) (filter_same f g (a + 1) m (λ n low high. same n (omega (arith, low)) (omega (arith, high)))))

-- a run has a frame
abbrev in_run : ℕ → FrameRun → Bool
in_run n r = nat_le r.first n && nat_lt n r.end

before_run : (n : ℕ) (r : FrameRun) → n < r.first → in_run n r ≡ false
before_run n r before = rw (lt-leb r.first n before) refl

behind_run : (n : ℕ) (r : FrameRun) → r.first ≤ n → r.end ≤ n → in_run n r ≡ false
behind_run n r after behind = rw (le-leb r.first n after, le-ltb n r.end behind) refl

within_run : (n : ℕ) (r : FrameRun) → r.first ≤ n → n < r.end → in_run n r ≡ true
within_run n r after before = rw (le-leb r.first n after, lt-ltb n r.end before) refl

-- runs begin at one frame or after it, come in the order of their first frames, and end at one or before it
abbrev Begin : ℕ → List FrameRun → Type 0
Begin a [] = Unit {0}
Begin a (r ∷ rs) = (a ≤ r.first) × Begin a rs

abbrev Rise : List FrameRun → Type 0
Rise [] = Unit {0}
Rise (r ∷ rs) = Begin r.first rs × Rise rs

abbrev End : ℕ → List FrameRun → Type 0
End a [] = Unit {0}
End a (r ∷ rs) = (r.end ≤ a) × End a rs

none_before : (n : ℕ) (rs : List FrameRun) (a : ℕ) → Begin a rs → n < a → list_any (in_run n) rs ≡ false
none_before n [] a begin before = refl
none_before n (r ∷ rs) a begin before =
    or_from (in_run n r) (list_any (in_run n) rs) (before_run n r (omega (arith, begin.0))) (none_before n rs a begin.1 before)

-- a run that isn't there from a frame on
no_run : (n next : ℕ) (r : FrameRun) → r.end ≤ max r.first next → next ≤ n → (b : Bool) → nat_le r.first n ≡ b → in_run n r ≡ false
no_run n next r short from true is = behind_run n r (leb-true r.first n is) (omega (arith, leb-true r.first n is))
no_run n next r short from false is = before_run n r (leb-false r.first n is)

any_true : (b c : Bool) → b ≡ true → (b || c) ≡ true
any_true b c is = rw is refl

any_rest : (b c : Bool) → b ≡ false → (b || c) ≡ c
any_rest b c is = rw is refl

-- what is covered from each frame on, up to a limit
abbrev Covered : ℕ → List FrameRun → Type 0
Covered limit rs =
    (next count : ℕ) → next + count ≡ limit → filter (λ n. list_any (in_run n) rs) (range_with_len next count) ≡ flat_map frames_in (parted next rs)

-- the first run has frames from `first` on
run_there : (r : FrameRun) (rs : List FrameRun) (next first count limit before inside after : ℕ)
    → first ≡ max r.first next → next + before ≡ first → first + inside ≡ r.end → r.end + after ≡ limit → count ≡ before + (inside + after)
    → first < r.end → Begin r.first rs
    → filter (λ n. list_any (in_run n) rs) (range_with_len r.end after) ≡ flat_map frames_in (parted r.end rs)
    → filter (λ n. list_any (in_run n) (r ∷ rs)) (range_with_len next count) ≡ range_with_len first inside ++ flat_map frames_in (parted r.end rs)
run_there r rs next first count limit before inside after starts b i a counts some begin rest =
    let test : ℕ → Bool = λ n. list_any (in_run n) (r ∷ rs) in
    let one : filter test (range_with_len next before) ≡ [] = filter_none test next before (λ n low high.
    or_from (in_run n r) (list_any (in_run n) rs) (before_run n r (omega (arith, starts, b, low, high))) (none_before n rs r.first begin (omega (arith, starts, b, low, high)))) in
    let two : filter test (range_with_len first inside) ≡ range_with_len first inside = filter_all test first inside (λ n low high.
    any_true (in_run n r) (list_any (in_run n) rs) (within_run n r (omega (arith, starts, low)) (omega (arith, i, high)))) in
    let three : filter test (range_with_len r.end after) ≡ flat_map frames_in (parted r.end rs) =
    filter_same test (λ n. list_any (in_run n) rs) r.end after (λ n low high.
    any_rest (in_run n r) (list_any (in_run n) rs) (behind_run n r (omega (arith, starts, some, low)) low)) ∙ rest in
    let split : range_with_len next count ≡ range_with_len next before ++ (range_with_len first inside ++ range_with_len r.end after) =
    rw counts (range_parts next before (inside + after) ∙ rw b (ap (λ (l : List ℕ). range_with_len next before ++ l) (range_parts first inside after ∙ rw i refl))) in
    ap (filter test) split ∙ filter-append test (range_with_len next before) (range_with_len first inside ++ range_with_len r.end after)
    ∙ rw one (filter-append test (range_with_len first inside) (range_with_len r.end after) ∙ rw (two, three) refl)

-- by whether it has
covered_by : (r : FrameRun) (rs : List FrameRun) (next count limit : ℕ) (b : Bool) → nat_lt (max r.first next) r.end ≡ b
    → next + count ≡ limit → Begin r.first rs → r.end ≤ limit → Covered limit rs
    → filter (λ n. list_any (in_run n) (r ∷ rs)) (range_with_len next count)
    ≡ flat_map frames_in (if b then record { first = max r.first next; end = r.end } ∷ parted r.end rs else parted next rs)
covered_by r rs next count limit true is counts begin ends rest =
    let some : max r.first next < r.end = ltb-true (max r.first next) r.end is in
    run_there r rs next (max r.first next) count limit (max r.first next - next) (r.end - max r.first next) (limit - r.end)
    refl (omega arith) (omega (arith, some)) (omega (arith, ends)) (omega (arith, some, ends, counts)) some begin
    (rest r.end (limit - r.end) (omega (arith, ends)))
covered_by r rs next count limit false is counts begin ends rest =
    let short : r.end ≤ max r.first next = ltb-false (max r.first next) r.end is in
    filter_same (λ n. list_any (in_run n) (r ∷ rs)) (λ n. list_any (in_run n) rs) next count (λ n low high.
    any_rest (in_run n r) (list_any (in_run n) rs) (no_run n next r short low (nat_le r.first n) refl))
    ∙ rest next count counts

covered : (rs : List FrameRun) (limit : ℕ) → Rise rs → End limit rs → Covered limit rs
unfolding parted
covered [] limit rise end next count counts =
    filter_none (λ n. false) next count (λ n low high. refl)
covered (r ∷ rs) limit rise end next count counts =
    covered_by r rs next count limit (nat_lt (max r.first next) r.end) refl counts rise.0 end.0 (covered rs limit rise.1 end.1)

-- runs that a sort put in order rise
begins : (a : ℕ) (rs : List FrameRun) → ((j : ℕ) (d : FrameRun) → j < length rs → a ≤ (slice_index_or rs j d).first) → Begin a rs
begins a [] all = tt
begins a (r ∷ rs) all = (all 0 r (omega arith), begins a rs (λ j d below. all (suc j) d (omega (arith, below))))

rises : (rs : List FrameRun) → IsNonDecreasingBy (λ (r : FrameRun). r.first) rs → Rise rs
rises [] up = tt
rises (r ∷ rs) up = (
  begins r.first rs (λ j d below. up 0 (suc j) d (omega arith) (omega (arith, below))),
  rises rs (λ i j d le below. up (suc i) (suc j) d (omega (arith, le)) (omega (arith, below))),
)

-- and end where the last frame of their segments does
ends : (limit : ℕ) (rs : List FrameRun) → All (λ (r : FrameRun). r.end ≤ limit) rs → End limit rs
ends limit [] all = tt
ends limit (r ∷ rs) all =
    (All-head (λ (r : FrameRun). r.end ≤ limit) r rs all, ends limit rs (All-tail (λ (r : FrameRun). r.end ≤ limit) r rs all))

reached : (limit : ℕ) (segments : List Segment) → reach segments ≤ limit → All (λ (r : FrameRun). r.end ≤ limit) (map run_of segments)
reached limit [] within = All-nil (λ (r : FrameRun). r.end ≤ limit)
reached limit (s ∷ ss) within =
    All-cons (λ (r : FrameRun). r.end ≤ limit) (run_of s) (map run_of ss) (omega (arith, within)) (reached limit ss (omega (arith, within)))

-- a segment has the frames of its run
bool_same : (b c : Bool) → (b ≡ true → c ≡ true) → (c ≡ true → b ≡ true) → b ≡ c
bool_same true c to from = sym (to refl)
bool_same false true to from = from refl
bool_same false false to from = refl

up : (p n : ℕ) (b : Bool) → nat_eq (p % 4096) 0 ≡ b → p ≤ 4096 * n → p / 4096 + (if b then 0 else 1) ≤ n
up p n true is le = omega (arith, le)
up p n false is le = omega (arith, le, eqb-false (p % 4096) 0 is)

down : (p n : ℕ) (b : Bool) → nat_eq (p % 4096) 0 ≡ b → p / 4096 + (if b then 0 else 1) ≤ n → p ≤ 4096 * n
down p n true is le = omega (arith, le, eqb-true (p % 4096) 0 is)
down p n false is le = omega (arith, le)

first_same : (p n : ℕ) → nat_le p (4096 * n) ≡ nat_le (p / 4096 + (if nat_eq (p % 4096) 0 then 0 else 1)) n
first_same p n =
    bool_same (nat_le p (4096 * n)) (nat_le (p / 4096 + (if nat_eq (p % 4096) 0 then 0 else 1)) n)
    (λ is. le-leb _ n (up p n (nat_eq (p % 4096) 0) refl (leb-true p (4096 * n) is)))
    (λ is. le-leb p (4096 * n) (down p n (nat_eq (p % 4096) 0) refl (leb-true (p / 4096 + (if nat_eq (p % 4096) 0 then 0 else 1)) n is)))

last_same : (e n : ℕ) → nat_le (4096 * n + 4096) e ≡ nat_lt n (e / 4096)
last_same e n =
    bool_same (nat_le (4096 * n + 4096) e) (nat_lt n (e / 4096))
    (λ is. lt-ltb n (e / 4096) (omega (arith, leb-true (4096 * n + 4096) e is)))
    (λ is. le-leb (4096 * n + 4096) e (omega (arith, ltb-true n (e / 4096) is)))

has_same : (n : ℕ) (s : Segment) → has_frame n s ≡ in_run n (run_of s)
has_same n s = rw (first_same s.paddr n, last_same (s.paddr + s.filesz) n) refl

any_same : (n : ℕ) (segments : List Segment) → list_any (has_frame n) segments ≡ list_any (in_run n) (map run_of segments)
any_same n [] = refl
any_same n (s ∷ ss) = rw (has_same n s, any_same n ss) refl

-- the parts of runs that were sorted are the frames of their segments
parts_are : (segments : List Segment) (runs : List FrameRun) → IsPermutation (map run_of segments) runs → IsNonDecreasingBy (λ (r : FrameRun). r.first) runs
    → frames_of (parted 0 runs) ≡ frames segments
parts_are segments runs moved rising =
    let limit = reach segments in
    let within : End limit runs = ends limit runs (All-permutation (λ (r : FrameRun). r.end ≤ limit) (map run_of segments) runs moved (reached limit segments (omega arith))) in
    sym (filter_same (λ n. list_any (has_frame n) segments) (λ n. list_any (in_run n) runs) 0 limit (λ n low high.
    any_same n segments ∙ list_any-IsPermutation (in_run n) (map run_of segments) runs moved)
    ∙ covered runs limit (rises runs rising) within 0 limit (omega arith))

pub frames_covered : (segments : List Segment) (sorted lent : List FrameRun) (runs : List FrameRun) (r : Result (Vec FrameRun) NoMemory) → runs ≡ map run_of segments → IsPermutation runs sorted
    → IsNonDecreasingBy (λ (r : FrameRun). r.first) sorted → lent ≡ sorted → IfOk r (λ parts. parts.items ≡ parted 0 lent) → IfOk r (λ parts. frames_of parts.items ≡ frames segments)
frames_covered segments sorted lent runs (Ok parts) are moved rising same is =
    ap frames_of (is ∙ ap (parted 0) same) ∙ parts_are segments sorted (subst (λ (l : List FrameRun). IsPermutation l sorted) are moved) rising
frames_covered segments sorted lent runs (Err e) are moved rising same is = tt
