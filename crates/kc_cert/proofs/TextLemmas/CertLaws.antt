-- The laws of a certificate's formats: they come from those of their parts, and the texts are the same.
use Rattle.std.proofs.Common.{◌≡◌, ℕ, suc, ◌-◌, ◌<◌, ◌≤◌, ◌^◌, Bool, true, false, eqb, List, [], ◌∷◌, ◌++◌, length, take, codes, decimal, Result, Ok, Err, inl, inr, refl, sym, ap, ◌∙◌, subst, arith, lit<, lit≤, append_assoc}
use Rattle.std.specs.Prelude.{◌↔◌}
use Rattle.std.specs.Borrow.{Bor}
use Rattle.std.proofs.lemmas.Bool.{eqb-true, eqb-false}
use Rattle.std.proofs.lemmas.Bool.Decides.{leb_tells}
use Rattle.std.proofs.lemmas.List.{append-nil, length-append}
use Rattle.std.proofs.lemmas.List.Elements.{All-nil}
use Rattle.kc_text.specs.Compose.{both, after, followed}
use Rattle.kc_text.specs.Counted.{counted, counted_text, ended_by}
use Rattle.kc_text.specs.Format.{Format, Anything, Begins, IsFormat, IsWhole}
use Rattle.kc_text.specs.Readers.{decimal_below, hex16}
use Rattle.kc_text.specs.Reading.{and_then}
use Rattle.kc_laws.specs.Formats.{after-law, below-law, both-law, counted-law, ended-law, followed-law, hex-law, mapped-law, stop-none, stop-place}
use Rattle.kc_cert.specs.declared.text.certificate.CertStep.{CertStep}
use Rattle.kc_cert.specs.declared.text.read.TextStop.{TextStop}
use Rattle.kc_cert.specs.declared.text.read.TextStop.TheVariants.{At}
use Rattle.kc_cert.specs.Text.CertTexts.{BeginsCertificate, IsCertificate, IsList, IsNoCertificate, IsStep, TextsTold, cert_format, cert_in, cert_text, line_format, list_format, list_text, placed, step_format, step_of, step_parts, step_text, steps_format}
use Rattle.kc_cert.specs.Text.Readings.{AddsAll}

small : 0 < 2 ^ 64
small = lit< tt

line-law : IsFormat line_format
line-law = followed-law hex16 (codes "\n") hex-law

-- each format has a value: the empty list
some_list : (ns : List ℕ) × list_format.Good ns
some_list = ([], (small, All-nil (λ (n : ℕ). n < 2 ^ 64)))

list-law : IsFormat list_format
list-law = after-law Anything (codes "list ") (counted line_format) (counted-law line_format line-law (0, small)) some_list

abbrev lists_part : Format (List (List ℕ))
lists_part = after (codes "lists ") (counted list_format)

some_lists : (ls : List (List ℕ)) × lists_part.Good ls
some_lists = ([], (small, All-nil IsList))

lists-law : IsFormat lists_part
lists-law = after-law Anything (codes "lists ") (counted list_format) (counted-law list_format list-law some_list) some_lists

abbrev start_part : Format (ℕ × List (List ℕ))
start_part = after (codes "start ") (both (followed hex16 (codes " ")) (λ _. lists_part))

some_start : (p : ℕ × List (List ℕ)) × start_part.Good p
some_start = ((0, some_lists.0), (small, some_lists.1))

start-law : IsFormat start_part
start-law =
    after-law Anything (codes "start ") (both (followed hex16 (codes " ")) (λ _. lists_part))
    (both-law Anything (followed hex16 (codes " ")) (λ _. lists_part) (followed-law hex16 (codes " ") hex-law) (λ n good. lists-law) (λ n good. some_lists))
    some_start

pub audit-law : IsFormat (decimal_below (2 ^ 32) 32)
audit-law = below-law (2 ^ 32) 32 (lit≤ tt) (lit≤ tt) refl

parts-law : IsFormat step_parts
parts-law =
    after-law Anything (codes "step ") (both (decimal_below (2 ^ 32) 32) (λ _. start_part))
    (both-law Anything (decimal_below (2 ^ 32) 32) (λ _. start_part) audit-law (λ n good. start-law) (λ n good. some_start))
    ((0, some_start.0), (lit< tt, some_start.1))

step-same : (d h more : List ℕ) → codes "step " ++ d ++ codes " start " ++ h ++ codes " lists " ++ more ≡ codes "step " ++ ((d ++ 32 ∷ []) ++ (codes "start " ++ ((h ++ codes " ") ++ (codes "lists " ++ more))))
step-same d h more = simp append_assoc

step-law : IsFormat step_format
step-law =
    mapped-law step_of IsStep step_text Anything step_parts parts-law
    (λ p good. (record { audit = good.0; start = good.1.0; lists = good.1.1 }, step-same (decimal p.0) (hex16.spell p.1.0) (counted_text list_text p.1.1)))
    (λ s good. ((s.audit, (s.start, s.lists)), (good.audit, (good.start, good.lists)), refl))

some_step : (s : CertStep) × step_format.Good s
some_step = (record { audit = 0; start = 0; lists = [] }, record { audit = lit< tt; start = small; lists = (small, All-nil IsList) })

some_steps : (steps : List CertStep) × steps_format.Good steps
some_steps = ([], (small, All-nil IsStep))

steps-law : IsFormat steps_format
steps-law = after-law Anything (codes "certificate ") (counted step_format) (counted-law step_format step-law some_step) some_steps

cert-law : IsWhole cert_format
cert-law = ended-law steps_format steps-law

ended_none : (x : List CertStep) (rest : List ℕ) → length rest ≡ 0 → ended_by x rest ≡ Ok (x, [])
ended_none x [] none = refl
ended_none x (c ∷ cs) none = absurd (omega (arith, none))

ended_more : (x : List CertStep) (rest : List ℕ) → 1 ≤ length rest → ended_by x rest ≡ Err rest
ended_more x [] long = absurd (omega (arith, long))
ended_more x (c ∷ cs) long = refl

-- what is read is a certificate whose text the bytes are
pub cert_is : (bytes : List ℕ) (steps : List CertStep) → cert_format.read bytes ≡ Ok (steps, []) → IsCertificate bytes steps
cert_is bytes steps read =
    let t = cert-law.takes bytes [] steps read in
    record { keeps = t.0; spelled = t.2 ∙ append-nil (cert_text steps) }

-- and reading gives it
cert_read : (bytes : List ℕ) (steps : List CertStep) → IsCertificate bytes steps → cert_format.read bytes ≡ Ok (steps, [])
cert_read bytes steps is = ap cert_format.read (is.spelled ∙ sym (append-nil (cert_text steps))) ∙ cert-law.again steps [] is.keeps refl

abbrev steps_in : Result (List CertStep × List ℕ) (List ℕ) → List CertStep
steps_in (Ok r) = r.0
steps_in (Err rest) = []

-- no two certificates have one text
pub only_one : (bytes : List ℕ) (one other : List CertStep) → IsCertificate bytes one → IsCertificate bytes other → one ≡ other
only_one bytes one other is it = ap steps_in (sym (cert_read bytes one is) ∙ cert_read bytes other it)

pub rest_within : (bytes rest : List ℕ) → cert_format.read bytes ≡ Err rest → length rest ≤ length bytes
rest_within bytes rest read =
    let s = cert-law.stops bytes rest read in
    let sum = ap length s.parts ∙ length-append s.front rest in
    omega (arith, sum)

begins_from : (front : List ℕ) → Begins cert_format front → BeginsCertificate front
begins_from front b = (b.0, b.1, record { keeps = b.2; spelled = b.3 })

begins_to : (front : List ℕ) → BeginsCertificate front → Begins cert_format front
begins_to front b = (b.0, b.1, b.2.keeps, b.2.spelled)

-- where reading stops there is no certificate, and the place is where the longest front ends
pub refused_is : (bytes rest : List ℕ) → cert_format.read bytes ≡ Err rest → IsNoCertificate bytes (length bytes - length rest)
refused_is bytes rest read =
    let within = rest_within bytes rest read in
    let p = stop-place cert_format cert-law bytes rest read (length bytes - length rest) (omega (arith, within)) in
    record {
      none = λ steps is. stop-none cert_format cert-law bytes rest read steps is.keeps is.spelled;
      place = record {
        within = p.within;
        begins = begins_from (take (length bytes - length rest) bytes) p.begins;
        longest = λ m past inside begins. p.longest m past inside (begins_to (take m bytes) begins);
      };
    }

-- the steps that were read, and what is left behind them
pub all_end : (bytes : List ℕ) (old cert : List CertStep) (rest : Bor (List ℕ)) → old ≡ [] → length rest.now ≡ 0 → AddsAll (steps_format.read bytes) old cert (Ok rest) → cert_format.read bytes ≡ Ok (cert, [])
all_end bytes old cert rest none short adds =
    let same : cert ≡ adds.0 = adds.2 ∙ ap (λ l. l ++ adds.0) none in
    ap (λ (r : Result (List CertStep × List ℕ) (List ℕ)). and_then {B = List CertStep × List ℕ} r (λ r. ended_by r.0 r.1)) adds.1 ∙ ended_none adds.0 rest.now short ∙ ap (λ l. Ok (l, [])) (sym same)

pub all_more : (bytes : List ℕ) (old cert : List CertStep) (rest : Bor (List ℕ)) → 1 ≤ length rest.now → AddsAll (steps_format.read bytes) old cert (Ok rest) → cert_format.read bytes ≡ Err rest.now
all_more bytes old cert rest long adds =
    ap (λ (r : Result (List CertStep × List ℕ) (List ℕ)). and_then {B = List CertStep × List ℕ} r (λ r. ended_by r.0 r.1)) adds.1 ∙ ended_more adds.0 rest.now long

pub all_stop : (bytes : List ℕ) (old cert : List CertStep) (stop : TextStop) (rest : Bor (List ℕ)) → stop ≡ At rest → AddsAll (steps_format.read bytes) old cert (Err stop) → cert_format.read bytes ≡ Err rest.now
all_stop bytes old cert stop rest is adds =
    let P : TextStop → Type 0 = λ e. AddsAll (steps_format.read bytes) old cert (Err e) in
    ap (λ (r : Result (List CertStep × List ℕ) (List ℕ)). and_then {B = List CertStep × List ℕ} r (λ r. ended_by r.0 r.1)) (subst P is adds)

pub some_left : (b : Bool) (n : ℕ) → b ≡ eqb n 0 → b ≡ false → 1 ≤ n
some_left b n is none = let other = eqb-false n 0 (sym is ∙ none) in omega (arith, other)

pub none_left : (b : Bool) (n : ℕ) → b ≡ eqb n 0 → b ≡ true → n ≡ 0
none_left b n is none = eqb-true n 0 (sym is ∙ none)

-- a text is read as its certificate, and only it
cert_told : (bytes : List ℕ) (steps : List CertStep) → cert_in bytes ≡ Ok steps ↔ IsCertificate bytes steps
cert_told bytes steps = (by_read (cert_format.read bytes) refl, λ is. ap (placed bytes) (cert_read bytes steps is))
  where
    by_read : (r : Result (List CertStep × List ℕ) (List ℕ)) → cert_format.read bytes ≡ r → placed bytes r ≡ Ok steps → IsCertificate bytes steps
    by_read (Ok r) read is =
        let same : r.0 ≡ steps = cc in
        let t = cert-law.takes bytes r.1 r.0 read in
        let none : r.1 ≡ [] = t.1 in
        subst (λ (s : List CertStep). IsCertificate bytes s) same (cert_is bytes r.0 (read ∙ ap (λ (l : List ℕ). Ok (r.0, l)) none))
    by_read (Err rest) read is = absurd (let no : ⊥ = cc in no)

-- two places of one text are the same
one_place : (bytes : List ℕ) (m n : ℕ) → IsNoCertificate bytes m → IsNoCertificate bytes n → m ≡ n
one_place bytes m n one other =
    elim (leb_tells (suc m) n) [
      | inl less ↦ absurd (one.place.longest n (omega (arith, less.1)) other.place.within other.place.begins)
      | inr late ↦
          elim (leb_tells (suc n) m) [
            | inl more ↦ absurd (other.place.longest m (omega (arith, more.1)) one.place.within one.place.begins)
            | inr early ↦ omega (arith, late.1, early.1)
          ]
    ]

refused_told : (bytes : List ℕ) (at : ℕ) → cert_in bytes ≡ Err at ↔ IsNoCertificate bytes at
refused_told bytes at = (by_read (cert_format.read bytes) refl, is_read (cert_format.read bytes) refl)
  where
    by_read : (r : Result (List CertStep × List ℕ) (List ℕ)) → cert_format.read bytes ≡ r → placed bytes r ≡ Err at → IsNoCertificate bytes at
    by_read (Ok r) read is = absurd (let no : ⊥ = cc in no)
    by_read (Err rest) read is =
        let same : (length bytes - length rest) ≡ at = cc in
        subst (λ (n : ℕ). IsNoCertificate bytes n) same (refused_is bytes rest read)

    is_read : (r : Result (List CertStep × List ℕ) (List ℕ)) → cert_format.read bytes ≡ r → IsNoCertificate bytes at → placed bytes r ≡ Err at
    is_read (Ok r) read none =
        let t = cert-law.takes bytes r.1 r.0 read in
        let end : r.1 ≡ [] = t.1 in
        absurd (none.none r.0 (cert_is bytes r.0 (read ∙ ap (λ (l : List ℕ). Ok (r.0, l)) end)))
    is_read (Err rest) read none = ap (λ (n : ℕ). Err n) (one_place bytes (length bytes - length rest) at (refused_is bytes rest read) none)

pub texts_told : TextsTold
texts_told bytes = record { cert = cert_told bytes; refused = refused_told bytes }
