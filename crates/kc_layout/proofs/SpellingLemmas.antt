-- The steps of a path, spelled out, are its text.
use Rattle.std.proofs.Common.{◌≡◌, ℕ, zero, suc, ◌+◌, ◌-◌, ◌<◌, ◌≤◌, Bool, true, false, List, [], ◌∷◌, ◌++◌, length, get_or, take, drop, Option, Some, None, option_map, option_and_then, ◌==◌, not, cond, nat_lt, ℤ, pos, negsuc, subst, ap, ◌∙◌, sym, refl, arith, append_assoc}
use Rattle.std.specs.Prelude.{All}
use Rattle.std.specs.List.{position_or_len}
use Rattle.std.proofs.Math.Seq.{take-append_seam, drop-append_seam}
use Rattle.std.proofs.lemmas.Bool.Decides.{nat_tests}
use Rattle.std.proofs.lemmas.List.{get_or-take, length-take-le, length-append, take-append-drop}
use Rattle.std.proofs.lemmas.List.Sums.{fails_before_first, prefix_len-le-length}
use Rattle.kc_word.specs.Decimal.{decimal_number}
use Rattle.kc_layout.specs.Path.{Step, Cut, is_digit, is_word, begins_name, word_length, digits_length, name_cut, natural, index_of, behind_bracket, index_cut, by, cut_arrow, cut, steps_from, path_steps}
use Rattle.kc_layout.specs.Path.Step.{Member, Element, Pointee}
use Rattle.kc_layout.specs.Spelling.{IsName, IsIndex, Writes, Spells, PathsAreSpelled}
use Rattle.kc_layout.proofs.PathLemmas.{steps-empty, steps-next, some_text}

-- characters that pass come first: up to the first that doesn't, and no further
passes-front : (p : ℕ → Bool) (text : List ℕ) → All (λ c. p c ≡ true) (take (position_or_len (λ c. not (p c)) text) text)
passes-front p text k d more =
    let n = position_or_len (λ c. not (p c)) text in
    let within : n ≤ length text = prefix_len-le-length (λ c. not (not (p c))) text in
    let size : length (take n text) ≡ n = length-take-le n text within in
    let fails = fails_before_first (λ c. not (p c)) text k d (omega arith) in
    ap p (get_or-take n text k d (omega arith)) ∙ twice (p (get_or text k d)) fails
  where
    twice : (b : Bool) → not b ≡ false → b ≡ true
    twice true is = refl
    twice false is = let none : ⊥ = cc in absurd none

front-ends : (p : ℕ → Bool) (front rest : List ℕ) → All (λ c. p c ≡ true) front → position_or_len (λ c. not (p c)) rest ≡ 0 → position_or_len (λ c. not (p c)) (front ++ rest) ≡ length front
front-ends p [] rest all stops = stops
front-ends p (x ∷ front) rest all stops =
    let here : p x ≡ true = all 0 0 (omega arith) in
    let more = front-ends p front rest (λ k d less. all (suc k) d (omega arith)) stops in
    rw (here, more) (omega arith)

-- a name that was cut off
named : (b : Bool) (x c : List ℕ × List ℕ) → cond b (Some x) None ≡ Some c → (b ≡ true) × (x ≡ c)
named true x c is = (refl, cc)
named false x c is = let none : ⊥ = cc in absurd none

begins-take : (text : List ℕ) → begins_name text ≡ true → begins_name (take (word_length text) text) ≡ true
begins-take [] is = let none : ⊥ = cc in absurd none
begins-take (x ∷ xs) is =
    let size : word_length (x ∷ xs) ≡ suc (word_length xs) = rw is (omega arith) in
    rw size is

name-sound : (text : List ℕ) (c : List ℕ × List ℕ) → name_cut text ≡ Some c → IsName c.0 × (text ≡ c.0 ++ c.1)
name-sound text c is =
    let n = word_length text in
    let parts = named (begins_name text) (take n text, drop n text) c is in
    subst (λ (c : List ℕ × List ℕ). IsName c.0 × (text ≡ c.0 ++ c.1)) parts.1
    (record { begins = begins-take text parts.0; words = passes-front is_word text }, sym (take-append-drop n text))

begins-on : (name rest : List ℕ) → begins_name name ≡ true → begins_name (name ++ rest) ≡ true
begins-on [] rest is = let none : ⊥ = cc in absurd none
begins-on (x ∷ xs) rest is = is

name-parts : (text name rest : List ℕ) → begins_name text ≡ true → take (word_length text) text ≡ name → drop (word_length text) text ≡ rest → name_cut text ≡ Some (name, rest)
name-parts text name rest begins front back = rw (begins, front, back) refl

name-complete : (name rest : List ℕ) → IsName name → word_length rest ≡ 0 → name_cut (name ++ rest) ≡ Some (name, rest)
name-complete name rest is stops =
    let text = name ++ rest in
    let size : word_length text ≡ length name = front-ends is_word name rest is.words stops in
    name-parts text name rest (begins-on name rest is.begins)
    (ap (λ n. take n text) size ∙ take-append_seam name rest)
    (ap (λ n. drop n text) size ∙ drop-append_seam name rest)

-- an index that was cut off
worth : (z : Option ℤ) (index : ℕ) → option_and_then natural z ≡ Some index → z ≡ Some (pos index)
worth None index is = let none : ⊥ = cc in absurd none
worth (Some (pos n)) index is = let same : n ≡ index = cc in ap (λ n. Some (pos n)) same
worth (Some (negsuc n)) index is = let none : ⊥ = cc in absurd none

few-digits : (b : Bool) (z : Option ℤ) (index : ℕ) → cond b None (option_and_then natural z) ≡ Some index → (b ≡ false) × (z ≡ Some (pos index))
few-digits true z index is = let none : ⊥ = cc in absurd none
few-digits false z index is = (refl, worth z index is)

bracketed : (text rest : List ℕ) → behind_bracket text ≡ Some rest → text ≡ 93 ∷ rest
bracketed [] rest is = let none : ⊥ = cc in absurd none
bracketed (c ∷ cs) rest is = closed (c == 93) c cs rest refl is
  where
    closed : (b : Bool) (c : ℕ) (cs rest : List ℕ) → (c == 93) ≡ b → cond b (Some cs) None ≡ Some rest → (c ∷ cs) ≡ 93 ∷ rest
    closed true c cs rest at is =
        let here : c ≡ 93 = grind (arith, nat_tests) in
        let same : cs ≡ rest = cc in
        rw (here, same) refl
    closed false c cs rest at is = let none : ⊥ = cc in absurd none

indexed : (i : Option ℕ) (r : Option (List ℕ)) (c : ℕ × List ℕ) → option_and_then (λ index. option_map (λ rest. (index, rest)) r) i ≡ Some c → (i ≡ Some c.0) × (r ≡ Some c.1)
indexed None r c is = let none : ⊥ = cc in absurd none
indexed (Some i) None c is = let none : ⊥ = cc in absurd none
indexed (Some i) (Some r) c is =
    let same : (i, r) ≡ c = cc in
    (ap (λ (x : ℕ × List ℕ). Some x.0) same, ap (λ (x : ℕ × List ℕ). Some x.1) same)

index-sound : (text : List ℕ) (c : ℕ × List ℕ) → index_cut text ≡ Some c → (digits : List ℕ) × IsIndex c.0 digits × (text ≡ digits ++ 93 ∷ c.1)
index-sound text c is =
    let n = digits_length text in
    let digits = take n text in
    let parts = indexed (index_of digits) (behind_bracket (drop n text)) c is in
    let number = few-digits (nat_lt 10 (length digits)) (decimal_number digits) c.0 parts.0 in
    let few : length digits ≤ 10 = let off = number.0 in grind (arith, nat_tests) in
    let behind = bracketed (drop n text) c.1 parts.1 in
    (digits, record { few = few; decimal = passes-front is_digit text; number = number.1 }, sym (take-append-drop n text) ∙ ap (λ rest. digits ++ rest) behind)

index-parts : (text digits rest : List ℕ) (index : ℕ) → take (digits_length text) text ≡ digits → drop (digits_length text) text ≡ 93 ∷ rest → index_of digits ≡ Some index → index_cut text ≡ Some (index, rest)
index-parts text digits rest index front back number = rw (front, back, number) refl

index-complete : (index : ℕ) (digits rest : List ℕ) → IsIndex index digits → index_cut (digits ++ 93 ∷ rest) ≡ Some (index, rest)
index-complete index digits rest is =
    let text = digits ++ 93 ∷ rest in
    let size : digits_length text ≡ length digits = front-ends is_digit digits (93 ∷ rest) is.decimal refl in
    let few : nat_lt 10 (length digits) ≡ false = let few = is.few in grind (arith, nat_tests) in
    let number : index_of digits ≡ Some index = ap (λ b. cond b None (option_and_then natural (decimal_number digits))) few ∙ ap (option_and_then natural) is.number in
    index-parts text digits rest index
    (ap (λ n. take n text) size ∙ take-append_seam digits (93 ∷ rest))
    (ap (λ n. drop n text) size ∙ drop-append_seam digits (93 ∷ rest)) number

-- a step that was cut off
by-is : {X : Type 0} (step : X → Step) (o : Option (X × List ℕ)) (here : Cut) → by step o ≡ Some here → (c : X × List ℕ) × (o ≡ Some c) × (record { step = step c.0; rest = c.1 } ≡ here)
by-is step None here is = let none : ⊥ = cc in absurd none
by-is step (Some c) here is = (c, refl, cc)

-- a step's text, and what stands after it
abbrev pub IsCut : Bool → List ℕ → Cut → Type 0
IsCut first text here = (word : List ℕ) × Writes first here.step word × (text ≡ word ++ here.rest)

first-sound : (text : List ℕ) (here : Cut) → by (λ name. Member name) (name_cut text) ≡ Some here → IsCut true text here
first-sound text here is =
    let c = by-is (λ name. Member name) (name_cut text) here is in
    let name = name-sound text c.0 c.1 in
    subst (IsCut true text) c.2 (c.0.0, (name.0, refl), name.1)

member-sound : (text : List ℕ) (here : Cut) → by (λ name. Member name) (name_cut text) ≡ Some here → IsCut false (46 ∷ text) here
member-sound text here is =
    let c = by-is (λ name. Member name) (name_cut text) here is in
    let name = name-sound text c.0 c.1 in
    subst (IsCut false (46 ∷ text)) c.2 (46 ∷ c.0.0, (name.0, refl), ap (λ t. 46 ∷ t) name.1)

element-sound : (text : List ℕ) (here : Cut) → by (λ index. Element index) (index_cut text) ≡ Some here → IsCut false (91 ∷ text) here
element-sound text here is =
    let c = by-is (λ index. Element index) (index_cut text) here is in
    let index = index-sound text c.0 c.1 in
    let whole : 91 ∷ text ≡ (91 ∷ index.0 ++ 93 ∷ []) ++ c.0.1 = ap (λ t. 91 ∷ t) (index.2 ∙ sym (append_assoc index.0 (93 ∷ []) c.0.1)) in
    subst (IsCut false (91 ∷ text)) c.2 (91 ∷ index.0 ++ 93 ∷ [], (index.0, index.1, refl), whole)

pointee-sound : (text : List ℕ) (here : Cut) → cut_arrow text ≡ Some here → IsCut false (45 ∷ text) here
pointee-sound [] here is = let none : ⊥ = cc in absurd none
pointee-sound (c ∷ cs) here is = arrow (c == 62) c cs here refl is
  where
    arrow : (b : Bool) (c : ℕ) (cs : List ℕ) (here : Cut) → (c == 62) ≡ b → cond b (by (λ name. Pointee name) (name_cut cs)) None ≡ Some here → IsCut false (45 ∷ c ∷ cs) here
    arrow false c cs here at is = let none : ⊥ = cc in absurd none
    arrow true c cs here at is =
        let head : c ≡ 62 = grind (arith, nat_tests) in
        let cut = by-is (λ name. Pointee name) (name_cut cs) here is in
        let name = name-sound cs cut.0 cut.1 in
        rw head (subst (IsCut false (45 ∷ 62 ∷ cs)) cut.2 (45 ∷ 62 ∷ cut.0.0, (name.0, refl), ap (λ t. 45 ∷ 62 ∷ t) name.1))

next-sound : (dot bracket dash : Bool) (c : ℕ) (cs : List ℕ) (here : Cut) → (c == 46) ≡ dot → (c == 91) ≡ bracket → (c == 45) ≡ dash →
    cond dot (by (λ name. Member name) (name_cut cs)) (cond bracket (by (λ index. Element index) (index_cut cs)) (cond dash (cut_arrow cs) None)) ≡ Some here → IsCut false (c ∷ cs) here
next-sound true bracket dash c cs here d b a is = let head : c ≡ 46 = grind (arith, nat_tests) in rw head (member-sound cs here is)
next-sound false true dash c cs here d b a is = let head : c ≡ 91 = grind (arith, nat_tests) in rw head (element-sound cs here is)
next-sound false false true c cs here d b a is = let head : c ≡ 45 = grind (arith, nat_tests) in rw head (pointee-sound cs here is)
next-sound false false false c cs here d b a is = let none : ⊥ = cc in absurd none

cut-sound : (first : Bool) (text : List ℕ) (here : Cut) → cut first text ≡ Some here → IsCut first text here
cut-sound true text here is = first-sound text here is
cut-sound false [] here is = let none : ⊥ = cc in absurd none
cut-sound false (c ∷ cs) here is = next-sound (c == 46) (c == 91) (c == 45) c cs here refl refl refl is

-- where a text's steps come from
record GoesOn (next : List ℕ → Option (List Step)) (o : Option Cut) (steps : List Step) : Type 0 where
  here : Cut
  more : List Step
  first : o ≡ Some here
  rest : next here.rest ≡ Some more
  all : steps ≡ here.step ∷ more

goes-on : (next : List ℕ → Option (List Step)) (o : Option Cut) (steps : List Step) → option_and_then (λ here. option_map (λ more. here.step ∷ more) (next here.rest)) o ≡ Some steps → GoesOn next o steps
goes-on next None steps is = let none : ⊥ = cc in absurd none
goes-on next (Some here) steps is = then-more next here (next here.rest) steps refl is
  where
    then-more : (next : List ℕ → Option (List Step)) (here : Cut) (more : Option (List Step)) (steps : List Step) → next here.rest ≡ more → option_map (λ more. here.step ∷ more) more ≡ Some steps → GoesOn next (Some here) steps
    then-more next here None steps rest is = let none : ⊥ = cc in absurd none
    then-more next here (Some more) steps rest is = record { here = here; more = more; first = refl; rest = rest; all = cc }

-- what is read is spelled
sound : (most : ℕ) (first : Bool) (text : List ℕ) (steps : List Step) → steps_from most first text ≡ Some steps → Spells first steps text
unfolding steps_from Spells
sound zero first [] steps is = let none : [] ≡ steps = cc in rw (← none) refl
sound (suc most) first [] steps is = let none : [] ≡ steps = cc in rw (← none) refl
sound zero first (c ∷ cs) steps is = let none : ⊥ = cc in absurd none
sound (suc most) first (c ∷ cs) steps is =
    let on = goes-on (steps_from most false) (cut first (c ∷ cs)) steps is in
    let word = cut-sound first (c ∷ cs) on.here on.first in
    let rest = sound most false on.here.rest on.more on.rest in
    rw on.all (word.0, on.here.rest, word.1, rest, word.2)

-- no name goes on where a step begins, or the text ends
writes-stops : (step : Step) (word rest : List ℕ) → Writes false step word → word_length (word ++ rest) ≡ 0
writes-stops (Member name) word rest is = rw is.1 refl
writes-stops (Element index) word rest is = rw is.2 refl
writes-stops (Pointee name) word rest is = rw is.1 refl

stops : (steps : List Step) (text : List ℕ) → Spells false steps text → word_length text ≡ 0
unfolding Spells
stops [] text is = rw is refl
stops (step ∷ steps) text is = rw is.4 (writes-stops step is.0 is.1 is.2)

-- what is spelled is cut off
cut-complete : (first : Bool) (step : Step) (word rest : List ℕ) → Writes first step word → word_length rest ≡ 0 → cut first (word ++ rest) ≡ Some (record { step = step; rest = rest })
cut-complete true (Member name) word rest is stop = rw is.1 (ap (by (λ name. Member name)) (name-complete name rest is.0 stop))
cut-complete false (Member name) word rest is stop = rw is.1 (ap (by (λ name. Member name)) (name-complete name rest is.0 stop))
cut-complete false (Element index) word rest is stop =
    let whole : (is.0 ++ 93 ∷ []) ++ rest ≡ is.0 ++ 93 ∷ rest = append_assoc is.0 (93 ∷ []) rest in
    rw is.2 (ap (λ t. by (λ index. Element index) (index_cut t)) whole ∙ ap (by (λ index. Element index)) (index-complete index is.0 rest is.1))
cut-complete false (Pointee name) word rest is stop = rw is.1 (ap (by (λ name. Pointee name)) (name-complete name rest is.0 stop))
cut-complete true (Element index) word rest is stop = absurd is
cut-complete true (Pointee name) word rest is stop = absurd is

complete : (most : ℕ) (first : Bool) (steps : List Step) (text : List ℕ) → length text ≤ most → Spells first steps text → steps_from most first text ≡ Some steps
unfolding Spells
complete most first [] text few is = steps-empty most first text (rw is refl)
complete most first (step ∷ steps) text few is =
    let word = is.0 in
    let rest = is.1 in
    let here : Cut = record { step = step; rest = rest } in
    let cuts : Some here ≡ cut first text = rw is.4 (sym (cut-complete first step word rest is.2 (stops steps rest is.3))) in
    let some = some_text first text here cuts in
    let long : 0 < length text = grind (arith, nat_tests) in
    let wrote : 0 < length word = writes-some first step word is.2 in
    let size : length text ≡ length word + length rest = rw is.4 (length-append word rest) in
    steps-next most first text here (omega arith) some cuts ∙ ap (option_map (λ more. step ∷ more)) (complete (most - 1) false steps rest (omega arith) is.3)
  where
    writes-some : (first : Bool) (step : Step) (word : List ℕ) → Writes first step word → 0 < length word
    writes-some true (Member []) word is = let begins = is.0.begins in let none : ⊥ = cc in absurd none
    writes-some true (Member (c ∷ cs)) word is = rw is.1 (omega arith)
    writes-some false (Member name) word is = rw is.1 (omega arith)
    writes-some false (Element index) word is = rw is.2 (omega arith)
    writes-some false (Pointee name) word is = rw is.1 (omega arith)
    writes-some true (Element index) word is = absurd is
    writes-some true (Pointee name) word is = absurd is

short : (b : Bool) (o : Option (List Step)) (steps : List Step) → cond b None o ≡ Some steps → (b ≡ false) × (o ≡ Some steps)
short true o steps is = let none : ⊥ = cc in absurd none
short false o steps is = (refl, is)

pub paths-spelled : PathsAreSpelled
paths-spelled text steps = (reads text steps, writes text steps)
  where
    reads : (text : List ℕ) (steps : List Step) → path_steps text ≡ Some steps → (length text ≤ 256) × Spells true steps text
    reads text steps is =
        let parts = short (nat_lt 256 (length text)) (steps_from 256 true text) steps is in
        let off = parts.0 in
        let few : length text ≤ 256 = grind (arith, nat_tests) in
        (few, sound 256 true text steps parts.1)

    writes : (text : List ℕ) (steps : List Step) → (length text ≤ 256) × Spells true steps text → path_steps text ≡ Some steps
    writes text steps is =
        let few = is.0 in
        let off : nat_lt 256 (length text) ≡ false = grind (arith, nat_tests) in
        rw off (complete 256 true steps text is.0 is.1)
