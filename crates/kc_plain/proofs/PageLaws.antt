-- Where a page stands.
use Rattle.std.proofs.Common.{◌≡◌, ℕ, zero, suc, ◌+◌, ◌*◌, ◌≤◌, ◌<◌, List, [], ◌++◌, length, take, drop, refl, sym, ap, ◌∙◌, arith, append_assoc, append-nil, length-append, length-drop, below_more}
use Rattle.std.proofs.lemmas.List.{drop-drop, drop-append-le, take-append-le, drop_at}
use Rattle.kc_plain.specs.Pages.{AreWhole, pages}

pub length-pages : (page : ℕ → List ℕ) (n : ℕ) → AreWhole page → length (pages page n) ≡ 4096 * n
unfolding pages
length-pages page zero whole = refl
length-pages page (suc n) whole = let rest = length-pages page n whole in omega (arith, rest, length-append (pages page n) (page n), whole n)

-- from a page's place on the list begins with the page
BeginsWith : (ℕ → List ℕ) → ℕ → ℕ → Type 0
BeginsWith page n i = (rest : List ℕ) × (drop (4096 * i) (pages page n) ≡ page i ++ rest)

pages_at : (page : ℕ → List ℕ) (n : ℕ) → AreWhole page → (i : ℕ) → i < n → BeginsWith page n i
unfolding pages BeginsWith
pages_at page zero whole i here = absurd (omega arith)
pages_at page (suc n) whole i here =
    below_more (BeginsWith page (suc n)) n
    (λ k lt.
    let before = pages_at page n whole k lt in
    let inside : 4096 * k ≤ length (pages page n) = omega (arith, length-pages page n whole) in (
      before.0 ++ page n,
      drop-append-le (4096 * k) (pages page n) (page n) inside
          ∙ ap (λ (bs : List ℕ). bs ++ page n) before.1
          ∙ append_assoc (page k) before.0 (page n),
    ))
    ([], drop_at (pages page n) (page n) (4096 * n) (length-pages page n whole) ∙ sym (append-nil (page n)))
    i (omega arith)

pub page_stands : (head : List ℕ) (page : ℕ → List ℕ) (n i k m : ℕ) → AreWhole page → i < n → k + m ≤ 4096
    → take m (drop (length head + (4096 * i + k)) (head ++ pages page n)) ≡ take m (drop k (page i))
unfolding BeginsWith
page_stands head page n i k m whole here inside =
    let at = pages_at page n whole i here in
    let long : k + m ≤ length (page i) = omega (arith, whole i) in
    let in_page : m ≤ length (drop k (page i)) = omega (arith, length-drop k (page i)) in
    ap (take m) (sym (drop-drop (4096 * i + k) (length head) (head ++ pages page n)))
    ∙ ap (λ (bs : List ℕ). take m (drop (4096 * i + k) bs)) (drop_at head (pages page n) (length head) refl)
    ∙ ap (take m) (sym (drop-drop k (4096 * i) (pages page n)))
    ∙ ap (λ (bs : List ℕ). take m (drop k bs)) at.1
    ∙ ap (take m) (drop-append-le k (page i) at.0 (omega arith))
    ∙ take-append-le m (drop k (page i)) at.0 in_page

pub head_stands : (head : List ℕ) (page : ℕ → List ℕ) (n k m : ℕ) → k + m ≤ length head
    → take m (drop k (head ++ pages page n)) ≡ take m (drop k head)
head_stands head page n k m inside =
    let in_head : m ≤ length (drop k head) = omega (arith, length-drop k head) in
    ap (take m) (drop-append-le k head (pages page n) (omega arith))
    ∙ take-append-le m (drop k head) (pages page n) in_head

pub pages_end : (head : List ℕ) (page : ℕ → List ℕ) (n : ℕ) → AreWhole page → length (head ++ pages page n) ≡ length head + 4096 * n
pages_end head page n whole = length-append head (pages page n) ∙ ap (λ (k : ℕ). length head + k) (length-pages page n whole)
