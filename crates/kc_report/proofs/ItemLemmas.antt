-- One item more of a list.
use Rattle.std.proofs.Common.{◌≡◌, ℕ, zero, suc, ◌+◌, List, [], ◌∷◌, ◌++◌, map, take, drop, slice_get, All, IsTrue, ◌<◌, ◌^◌, Some, unwrap_or, Result, Ok, Err, OnOk, OnErr, sym, ap, ◌∙◌, subst, true, add-one, append_assoc}
use Rattle.kc_word.specs.declared.memory.NoMemory.{NoMemory}
use Rattle.kc_memory.specs.declared.words.Place.{Place}
use Rattle.kc_text.specs.Compose.{texts}
use Rattle.kc_text.specs.Readers.{is_name}
use Rattle.kc_found.specs.declared.verdict.AuditCount.{AuditCount}
use Rattle.kc_report.specs.Copies.{IsCounted, counted, name_of}
use Rattle.kc_report.specs.Lines.{place_line, place_lines}
use Rattle.kc_report.specs.Names.{are_names}
use Rattle.kc_report.specs.Report.{AuditLine, BrokenLines, IsBroken, IsNumber, IsShown, IsStopNumber, is_stop_at, stop_levels}
use Rattle.std.proofs.lemmas.Bool.{and_from, and_parts}
use Rattle.std.proofs.lemmas.List.{map-append}
use Rattle.std.proofs.lemmas.List.Elements.{All-head, All-push, All-tail}

drop_next : {X : Type 0} (xs : List X) (i : ℕ) (x : X) → slice_get xs i ≡ Some x → drop i xs ≡ x ∷ drop (suc i) xs
drop_next [] i x is = absurd (let none : ⊥ = cc in none)
drop_next (y ∷ ys) zero x is = let same : y ≡ x = cc in ap (λ z. z ∷ ys) same
drop_next (y ∷ ys) (suc i) x is = drop_next ys i x is

take_next : {X : Type 0} (xs : List X) (i : ℕ) (x : X) → slice_get xs i ≡ Some x → take (suc i) xs ≡ take i xs ++ x ∷ []
take_next [] i x is = absurd (let none : ⊥ = cc in none)
take_next (y ∷ ys) zero x is = let same : y ≡ x = cc in ap (λ z. z ∷ []) same
take_next (y ∷ ys) (suc i) x is = ap (λ l. y ∷ l) (take_next ys i x is)

pub take_item : {X : Type 0} (xs : List X) (i : ℕ) (x : X) → slice_get xs i ≡ Some x → take (i + 1) xs ≡ take i xs ++ x ∷ []
take_item xs i x is = rw add-one (take_next xs i x is)

-- one item more that has what all before it have
pub all_item : {X : Type 0} (P : X → Type 0) (xs : List X) (i : ℕ) (x : X) → slice_get xs i ≡ Some x → All P (take i xs) → P x → All P (take (i + 1) xs)
all_item P xs i x is before here = subst (All P) (sym (take_item xs i x is)) (All-push P (take i xs) x before here)

-- a text that grows by an item's, in front of those of the items that are left
pub texts_item : {X : Type 0} (spell : X → List ℕ) (xs : List X) (i : ℕ) (x : X) (text grown whole : List ℕ) → slice_get xs i ≡ Some x → grown ≡ text ++ spell x
    → text ++ texts spell (drop i xs) ≡ whole → grown ++ texts spell (drop (i + 1) xs) ≡ whole
texts_item spell xs i x text grown whole is grows before =
    let next : drop i xs ≡ x ∷ drop (i + 1) xs = rw add-one (drop_next xs i x is) in
    ap (λ l. l ++ texts spell (drop (i + 1) xs)) grows ∙ append_assoc text (spell x) (texts spell (drop (i + 1) xs)) ∙ ap (λ l. text ++ texts spell l) (sym next) ∙ before

pub place_item : (ps : List Place) (i : ℕ) (p : Place) (text grown whole : List ℕ) → slice_get ps i ≡ Some p → grown ≡ text ++ place_line p
    → text ++ place_lines (drop i ps) ≡ whole → grown ++ place_lines (drop (i + 1) ps) ≡ whole
place_item ps i p text grown whole is grows before =
    let next : drop i ps ≡ p ∷ drop (i + 1) ps = rw add-one (drop_next ps i p is) in
    ap (λ l. l ++ place_lines (drop (i + 1) ps)) grows ∙ append_assoc text (place_line p) (place_lines (drop (i + 1) ps)) ∙ ap (λ l. text ++ place_lines l) (sym next) ∙ before

-- three pieces that are added, the last perhaps
pub three_pieces : (r : Result (Unit {0}) NoMemory) (text one two all first second third : List ℕ) → one ≡ text ++ first → two ≡ one ++ second → OnOk r (all ≡ two ++ third)
    → OnOk r (all ≡ text ++ (first ++ second ++ third))
three_pieces (Err e) text one two all first second third a b c = tt
three_pieces (Ok u) text one two all first second third a b c =
    c ∙ ap (λ l. l ++ third) (b ∙ ap (λ l. l ++ second) a ∙ append_assoc text first second) ∙ append_assoc text (first ++ second) third

-- the names of audits
pub names-push : (names : List (List ℕ)) (name : List ℕ) → are_names names ≡ true → is_name name ≡ true → are_names (names ++ name ∷ []) ≡ true
names-push [] name good fits = and_from (is_name name) true fits (λ i. true)
names-push (n ∷ ns) name good fits =
    let parts = and_parts (is_name n) (are_names ns) good in
    and_from (is_name n) (are_names (ns ++ name ∷ [])) parts.0 (names-push ns name parts.1 fits)

pub names-get : (names : List (List ℕ)) (i : ℕ) (name : List ℕ) → are_names names ≡ true → slice_get names i ≡ Some name → is_name name ≡ true
names-get [] i name good is = absurd (let none : ⊥ = cc in none)
names-get (n ∷ ns) zero name good is = let same : n ≡ name = cc in let P : List ℕ → Type 0 = λ n. is_name n ≡ true in subst P same (and_parts (is_name n) (are_names ns) good).0
names-get (n ∷ ns) (suc i) name good is = names-get ns i name (and_parts (is_name n) (are_names ns) good).1 is

-- one audit more, and those that are left
pub counted_item : (names : List (List ℕ)) (counts : List AuditCount) (i : ℕ) (line : AuditLine) (lines grown whole : List AuditLine) → IsCounted names counts i line
    → grown ≡ lines ++ line ∷ [] → lines ++ counted (drop i names) (drop i counts) ≡ whole → grown ++ counted (drop (i + 1) names) (drop (i + 1) counts) ≡ whole
counted_item names counts i line lines grown whole is grows before =
    let name : drop i names ≡ is.name ∷ drop (i + 1) names = rw add-one (drop_next names i is.name is.named) in
    let count : drop i counts ≡ is.count ∷ drop (i + 1) counts = rw add-one (drop_next counts i is.count is.counted) in
    let both : counted (drop i names) (drop i counts) ≡ line ∷ counted (drop (i + 1) names) (drop (i + 1) counts) =
    ap (λ l. counted l (drop i counts)) name ∙ ap (counted (is.name ∷ drop (i + 1) names)) count
    ∙ ap (λ l. l ∷ counted (drop (i + 1) names) (drop (i + 1) counts)) (sym is.same) in
    ap (λ l. l ++ counted (drop (i + 1) names) (drop (i + 1) counts)) grows
    ∙ append_assoc lines (line ∷ []) (counted (drop (i + 1) names) (drop (i + 1) counts))
    ∙ ap (λ l. lines ++ l) (sym both) ∙ before

pub names-keep : (r : Result (Unit {0}) NoMemory) (names new : List (List ℕ)) (name : List ℕ) → OnOk r (new ≡ names ++ name ∷ []) → OnErr r (new ≡ names)
    → are_names names ≡ true → is_name name ≡ true → are_names new ≡ true
names-keep (Ok u) names new name added kept good fits = ap are_names added ∙ names-push names name good fits
names-keep (Err e) names new name added kept good fits = ap are_names kept ∙ good

-- what a report of a violation keeps, of its parts
pub keeps_all : (r : Result (Unit {0}) NoMemory) (b : BrokenLines) → IsTrue (is_name b.audit) → b.start < 2 ^ 64 → b.at < 2 ^ 64 → OnOk r (IsNumber b.expected)
    → OnOk r (IsTrue (is_stop_at (stop_levels b.rule) b.stop)) → OnOk r (IsStopNumber b.stop) → OnOk r (All IsShown b.places) → OnOk r (IsBroken b)
keeps_all (Err e) b name start at expected stop number places = tt
keeps_all (Ok u) b name start at expected stop number places =
    record { audit = name; start = start; at = at; expected = expected; stop = stop; stop_number = number; places = places }

-- one item more of a list that a function was applied to
pub mapped_item : {X Y : Type 0} (f : X → Y) (xs : List X) (i : ℕ) (x : X) (y : Y) (done grown : List Y) → slice_get xs i ≡ Some x → y ≡ f x → grown ≡ done ++ y ∷ []
    → done ≡ map f (take i xs) → grown ≡ map f (take (i + 1) xs)
mapped_item f xs i x y done grown is same grows before =
    grows ∙ ap (λ l. l ++ y ∷ []) before ∙ ap (λ z. map f (take i xs) ++ z ∷ []) same
    ∙ sym (ap (map f) (take_item xs i x is) ∙ map-append f (take i xs) (x ∷ []))

-- what holds of all items holds of one
pub all_get : {X : Type 0} (P : X → Type 0) (xs : List X) (i : ℕ) (x : X) → slice_get xs i ≡ Some x → All P xs → P x
all_get P [] i x is good = absurd (let none : ⊥ = cc in none)
all_get P (y ∷ ys) zero x is good = let same : y ≡ x = cc in subst P same (All-head P y ys good)
all_get P (y ∷ ys) (suc i) x is good = all_get P ys i x is (All-tail P y ys good)

pub named : (names : List (List ℕ)) (audit : ℕ) (name : List ℕ) → slice_get names audit ≡ Some name → name ≡ name_of names audit
named names audit name is = sym (ap (λ o. unwrap_or o []) is)
