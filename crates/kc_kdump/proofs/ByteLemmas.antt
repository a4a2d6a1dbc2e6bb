-- Whole bytes of the bitmaps whose page frames are all of one kind.
use Rattle.std.proofs.Common.{◌≡◌, ℕ, ◌+◌, ◌<◌, List, ◌∷◌, ◌++◌, length, refl, sym, ap, ◌∙◌, subst, arith, append_assoc, Result, Ok, Err, OnOk}
use Rattle.kc_kdump.specs.declared.frame.Frame.{Frame}
use Rattle.kc_kdump.specs.declared.frame.Frame.TheVariants.{Dumped, LeftOut, Hole}
use Rattle.kc_kdump.specs.declared.run.PageRun.{PageRun}
use Rattle.kc_kdump.specs.declared.fault.KdumpStop.{KdumpStop}
use Rattle.kc_kdump.specs.declared.fault.KdumpStop.TheVariants.{Fault, ReadFault, NoMemory}
use Rattle.kc_kdump.specs.Answers.{IfTooMany}
use Rattle.kc_kdump.specs.Frames.{frames_by}
use Rattle.kc_kdump.specs.Runs.{empty_at, end_of, runs_from, shown}
use Rattle.kc_kdump.proofs.RunLemmas.{dumped_more, more_still}

-- eight page frames of a kind, before others
abbrev eight : Frame → List Frame → List Frame
eight f rest = f ∷ f ∷ f ∷ f ∷ f ∷ f ∷ f ∷ f ∷ rest

all_dumped : (m : ℕ) (rest : List Frame) → frames_by 8 m 255 ++ rest ≡ eight Dumped rest
unfolding frames_by
all_dumped m rest = refl

all_left : (rest : List Frame) → frames_by 8 255 0 ++ rest ≡ eight LeftOut rest
unfolding frames_by
all_left rest = refl

all_holes : (rest : List Frame) → frames_by 8 0 0 ++ rest ≡ eight Hole rest
unfolding frames_by
all_holes rest = refl

-- ---- in the dump

abbrev with_dumped : PageRun → ℕ → PageRun
with_dumped r n = record r { dumped = r.dumped + n }

dumped_step : (r : PageRun) (n k : ℕ) (rest : List Frame) → r.left ≡ 0 → n + 1 ≡ k → runs_from (with_dumped r n) (Dumped ∷ rest) ≡ runs_from (with_dumped r k) rest
dumped_step r n k rest none next =
    let sum : r.dumped + n + 1 ≡ r.dumped + k = omega (arith, next) in
    dumped_more (with_dumped r n) rest none ∙ ap (λ (d : ℕ). runs_from (record r { dumped = d }) rest) sum

pub dumped_byte : (rs : List PageRun) (r : PageRun) (m : ℕ) (rest : List Frame) → r.left ≡ 0
    → rs ++ runs_from (record r { dumped = r.dumped + 8 }) rest ≡ rs ++ runs_from r (frames_by 8 m 255 ++ rest)
dumped_byte rs r m rest none =
    let r1 = Dumped ∷ rest in
    let r2 = Dumped ∷ r1 in
    let r3 = Dumped ∷ r2 in
    let r4 = Dumped ∷ r3 in
    let r5 = Dumped ∷ r4 in
    let r6 = Dumped ∷ r5 in
    let r7 = Dumped ∷ r6 in
    let walked : runs_from r (Dumped ∷ r7) ≡ runs_from (with_dumped r 8) rest =
    dumped_more r r7 none
    ∙ dumped_step r 1 2 r6 none refl ∙ dumped_step r 2 3 r5 none refl ∙ dumped_step r 3 4 r4 none refl ∙ dumped_step r 4 5 r3 none refl
    ∙ dumped_step r 5 6 r2 none refl ∙ dumped_step r 6 7 r1 none refl ∙ dumped_step r 7 8 rest none refl in
    ap (λ (qs : List PageRun). rs ++ qs) (sym walked) ∙ ap (λ (fs : List Frame). rs ++ runs_from r fs) (sym (all_dumped m rest))

-- ---- left out

pub left_byte : (rs : List PageRun) (r : PageRun) (rest : List Frame) → rs ++ runs_from (record r { left = r.left + 8 }) rest ≡ rs ++ runs_from r (frames_by 8 255 0 ++ rest)
left_byte rs r rest =
    let sum : r.left + 8 ≡ r.left + 1 + 1 + 1 + 1 + 1 + 1 + 1 + 1 = omega arith in
    ap (λ (n : ℕ). rs ++ runs_from (record r { left = n }) rest) sum ∙ ap (λ (fs : List Frame). rs ++ runs_from r fs) (sym (all_left rest))

-- ---- no memory

hole_step : (k n : ℕ) (rest : List Frame) → k + 1 ≡ n → runs_from (empty_at k) (Hole ∷ rest) ≡ runs_from (empty_at n) rest
hole_step k n rest next =
    let end : end_of (empty_at k) + 1 ≡ n = omega (arith, next) in
    ap (λ (e : ℕ). runs_from (empty_at e) rest) end

holes_walked : (r : PageRun) (rest : List Frame) → runs_from r (eight Hole rest) ≡ shown r ++ runs_from (empty_at (end_of r + 8)) rest
holes_walked r rest =
    let e = end_of r in
    let r1 = Hole ∷ rest in
    let r2 = Hole ∷ r1 in
    let r3 = Hole ∷ r2 in
    let r4 = Hole ∷ r3 in
    let r5 = Hole ∷ r4 in
    let r6 = Hole ∷ r5 in
    let walked : runs_from (empty_at (e + 1)) (Hole ∷ r6) ≡ runs_from (empty_at (e + 8)) rest =
    hole_step (e + 1) (e + 2) r6 (omega arith) ∙ hole_step (e + 2) (e + 3) r5 (omega arith) ∙ hole_step (e + 3) (e + 4) r4 (omega arith)
    ∙ hole_step (e + 4) (e + 5) r3 (omega arith) ∙ hole_step (e + 5) (e + 6) r2 (omega arith) ∙ hole_step (e + 6) (e + 7) r1 (omega arith)
    ∙ hole_step (e + 7) (e + 8) rest (omega arith) in
    ap (λ (qs : List PageRun). shown r ++ qs) walked

pub holes_byte : (rs : List PageRun) (r : PageRun) (rest : List Frame) → (rs ++ shown r) ++ runs_from (empty_at (end_of r + 8)) rest ≡ rs ++ runs_from r (frames_by 8 0 0 ++ rest)
holes_byte rs r rest =
    append_assoc rs (shown r) (runs_from (empty_at (end_of r + 8)) rest)
    ∙ ap (λ (qs : List PageRun). rs ++ qs) (sym (holes_walked r rest))
    ∙ ap (λ (fs : List Frame). rs ++ runs_from r fs) (sym (all_holes rest))

pub holes_many : (rs : List PageRun) (r : PageRun) → 4194304 < length (rs ++ shown r) → (rest : List Frame) → 4194304 < length (rs ++ runs_from r (frames_by 8 0 0 ++ rest))
holes_many rs r many rest =
    subst (λ (qs : List PageRun). 4194304 < length qs) (holes_byte rs r rest) (more_still (rs ++ shown r) (runs_from (empty_at (end_of r + 8)) rest) 4194304 many)

-- a run of no page frame begins after them
pub holes_begun : (rs new : List PageRun) (r run : PageRun) (end : ℕ) (rest : List Frame) → end ≡ end_of r → new ≡ rs ++ shown r → run ≡ record { first = end + 8; dumped = 0; left = 0 }
    → new ++ runs_from run rest ≡ rs ++ runs_from r (frames_by 8 0 0 ++ rest)
holes_begun rs new r run end rest at put is =
    ap (λ (qs : List PageRun). qs ++ runs_from run rest) put
    ∙ ap (λ (q : PageRun). (rs ++ shown r) ++ runs_from q rest) is
    ∙ ap (λ (e : ℕ). (rs ++ shown r) ++ runs_from (empty_at (e + 8)) rest) at
    ∙ holes_byte rs r rest

-- ---- answers

pub on_both : {X E : Type 0} (r : Result X E) (P Q R : Type 0) → (P → Q → R) → OnOk r P → OnOk r Q → OnOk r R
on_both (Ok x) P Q R f p q = f p q
on_both (Err e) P Q R f p q = tt

pub on_many : {X : Type 0} (r : Result X KdumpStop) (P Q : Type 0) → (P → Q) → IfTooMany r P → IfTooMany r Q
on_many (Ok x) P Q f is = tt
on_many (Err (Fault fault)) P Q f is = (is.0, f is.1)
on_many (Err ReadFault) P Q f is = is
on_many (Err NoMemory) P Q f is = tt
