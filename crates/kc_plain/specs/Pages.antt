-- Pages one after another.
use Rattle.std.specs.Prelude.{◌≡◌, ℕ, zero, suc, ◌+◌, ◌*◌, ◌<◌, ◌≤◌, List, [], ◌++◌, length, take, drop}

-- the pages of the numbers below one, in order
unfoldable pub pages : (ℕ → List ℕ) → ℕ → List ℕ
pages page zero = []
pages page (suc n) = pages page n ++ page n

-- each page has 4096 bytes
abbrev pub AreWhole : (ℕ → List ℕ) → Type 0
AreWhole page = (i : ℕ) → length (page i) ≡ 4096

-- a part of a page stands in its place after a head
abbrev pub PageStands : Type 0
PageStands = (head : List ℕ) (page : ℕ → List ℕ) (n i k m : ℕ) → AreWhole page → i < n → k + m ≤ 4096
    → take m (drop (length head + (4096 * i + k)) (head ++ pages page n)) ≡ take m (drop k (page i))

-- and a part of the head in its own
abbrev pub HeadStands : Type 0
HeadStands = (head : List ℕ) (page : ℕ → List ℕ) (n k m : ℕ) → k + m ≤ length head
    → take m (drop k (head ++ pages page n)) ≡ take m (drop k head)

-- how long it is
abbrev pub PagesEnd : Type 0
PagesEnd = (head : List ℕ) (page : ℕ → List ℕ) (n : ℕ) → AreWhole page → length (head ++ pages page n) ≡ length head + 4096 * n
