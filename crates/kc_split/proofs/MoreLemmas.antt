-- What lies inside lies inside more.
use Rattle.std.proofs.Common.{◌≡◌, ℕ, suc, ◌+◌, ◌-◌, ◌<◌, ◌≤◌, true, false, not, ◌&&◌, ◌||◌, ◌==◌, List, [], ◌∷◌, ◌++◌, length, map, Some, None, option_map, cond, ap, ◌∙◌, refl, arith, slice_index, subst}
use Rattle.std.specs.Prelude.{All, IsTrue, nat_lt}
use Rattle.std.specs.List.{find}
use Rattle.std.proofs.lemmas.Bool.{and_parts, and_from, eqb-true, ltb-true, lt-ltb}
use Rattle.std.proofs.lemmas.Bool.Decides.{nat_tests}
use Rattle.std.proofs.lemmas.List.{append-nil, length-append, get_or_append_left, get_or-append_right}
use Rattle.kc_btf.specs.declared.kind.Kind.{Kind}
use Rattle.kc_btf.specs.declared.kind.Role.{Role}
use Rattle.kc_btf.specs.declared.kind.Role.TheVariants.{ToName, ToType, Plain}
use Rattle.kc_btf.specs.declared.stop.BRule.TheVariants.{B8}
use Rattle.kc_btf.specs.Btf.{outside_fault}
use Rattle.kc_btf.specs.Header.{are_strings}
use Rattle.kc_btf.specs.Role.{is_inside, role_of, rest_role}
use Rattle.kc_btf.specs.Records.{Record, record_at, words_inside, refers_inside}
use Rattle.kc_split.specs.Split.{are_more_strings}

inside-more : (a b c d : ℕ) (role : Role) (n : ℕ) → a ≤ c → b ≤ d → is_inside a b role n ≡ true → is_inside c d role n ≡ true
inside-more a b c d ToName n strings types is = grind (arith, nat_tests)
inside-more a b c d ToType n strings types is = grind (arith, nat_tests)
inside-more a b c d Plain n strings types is = refl

words-more : (a b c d : ℕ) (kind : Kind) (i : ℕ) (ws : List ℕ) → a ≤ c → b ≤ d → words_inside a b kind i ws ≡ true → words_inside c d kind i ws ≡ true
unfolding words_inside
words-more a b c d kind i [] strings types is = refl
words-more a b c d kind i (w ∷ ws) strings types is =
    let both = and_parts (is_inside a b (role_of kind i) w) (words_inside a b kind (i + 1) ws) is in
    and_from (is_inside c d (role_of kind i) w) (words_inside c d kind (i + 1) ws) (inside-more a b c d (role_of kind i) w strings types both.0) (words-more a b c d kind (i + 1) ws strings types both.1)

pub refers-more : (a b c d : ℕ) (r : Record) → a ≤ c → b ≤ d → refers_inside a b r ≡ true → refers_inside c d r ≡ true
unfolding refers_inside
refers-more a b c d r strings types is =
    let outer = and_parts (is_inside a b ToName r.name && is_inside a b (rest_role r.kind) r.rest) (words_inside a b r.kind 0 r.words) is in
    let inner = and_parts (is_inside a b ToName r.name) (is_inside a b (rest_role r.kind) r.rest) outer.0 in
    let head = and_from (is_inside c d ToName r.name) (is_inside c d (rest_role r.kind) r.rest) (inside-more a b c d ToName r.name strings types inner.0) (inside-more a b c d (rest_role r.kind) r.rest strings types inner.1) in
    and_from (is_inside c d ToName r.name && is_inside c d (rest_role r.kind) r.rest) (words_inside c d r.kind 0 r.words) head (words-more a b c d r.kind 0 r.words strings types outer.1)

-- no record refers outside
none_found : (bytes : List ℕ) (strings types : ℕ) (ps : List ℕ) → All (λ r. IsTrue (refers_inside strings types r)) (map (record_at bytes) ps) →
    find (λ place. not (refers_inside strings types (record_at bytes place))) ps ≡ None
none_found bytes strings types [] all = refl
none_found bytes strings types (p ∷ ps) all =
    let first : refers_inside strings types (record_at bytes p) ≡ true = all 0 (record_at bytes p) (omega arith) in
    let rest = none_found bytes strings types ps (λ k d within. all (suc k) d (omega arith)) in
    ap (λ t. cond (not t) (Some p) (find (λ place. not (refers_inside strings types (record_at bytes place))) ps)) first ∙ rest

pub none_outside : (bytes : List ℕ) (strings types : ℕ) (ps : List ℕ) → All (λ r. IsTrue (refers_inside strings types r)) (map (record_at bytes) ps) → outside_fault bytes strings types ps ≡ None
none_outside bytes strings types ps all = ap (option_map (λ place. record { rule = B8; at = place })) (none_found bytes strings types ps all)

-- strings with more strings behind them
last_of : (xs ys : List ℕ) → slice_index xs (length xs - 1) ≡ 0 → 0 < length xs → are_more_strings ys ≡ true → slice_index (xs ++ ys) (length (xs ++ ys) - 1) ≡ 0
last_of xs [] ended some more = rw (append-nil xs) ended
last_of xs (y ∷ ys) ended some more =
    let sum = length-append xs (y ∷ ys) in
    let none : (length (y ∷ ys) == 0) ≡ false = grind (arith, nat_tests) in
    let ended_too : (slice_index (y ∷ ys) (length (y ∷ ys) - 1) == 0) ≡ true = subst (λ b. (b || (slice_index (y ∷ ys) (length (y ∷ ys) - 1) == 0)) ≡ true) none more in
    let last : slice_index (y ∷ ys) (length (y ∷ ys) - 1) ≡ 0 = eqb-true (slice_index (y ∷ ys) (length (y ∷ ys) - 1)) 0 ended_too in
    let place : length (xs ++ y ∷ ys) - 1 - length xs ≡ length (y ∷ ys) - 1 = omega arith in
    get_or-append_right xs (y ∷ ys) (length xs) (length (xs ++ y ∷ ys) - 1) 0 refl (omega arith) ∙ ap (slice_index (y ∷ ys)) place ∙ last

pub strings-more : (xs ys : List ℕ) → are_strings xs ≡ true → are_more_strings ys ≡ true → are_strings (xs ++ ys) ≡ true
strings-more xs ys are more =
    let outer = and_parts (nat_lt 0 (length xs) && (slice_index xs 0 == 0)) (slice_index xs (length xs - 1) == 0) are in
    let inner = and_parts (nat_lt 0 (length xs)) (slice_index xs 0 == 0) outer.0 in
    let some : 0 < length xs = ltb-true 0 (length xs) inner.0 in
    let first : slice_index (xs ++ ys) 0 ≡ 0 = get_or_append_left xs ys 0 0 some ∙ eqb-true (slice_index xs 0) 0 inner.1 in
    let last = last_of xs ys (eqb-true (slice_index xs (length xs - 1)) 0 outer.1) some more in
    let long : nat_lt 0 (length (xs ++ ys)) ≡ true = lt-ltb 0 (length (xs ++ ys)) (omega (arith, length-append xs ys)) in
    rw (long, first, last) refl
