-- The laws of a report's formats: they come from those of their parts, and the texts are the same.
use Rattle.std.proofs.Common.{◌≡◌, ℕ, zero, suc, ◌<◌, ◌≤◌, ◌^◌, ◌⊎◌, Bool, true, false, ◌&&◌, leb, ltb, List, [], ◌∷◌, ◌++◌, length, codes, decimal, Option, Some, None, Result, Ok, Err, All, IsTrue, refl, sym, ap, ◌∙◌, subst, inl, inr, arith, lit<, lit≤, append_assoc}
use Rattle.std.proofs.lemmas.List.Elements.{All-nil, All-cons, All-head, All-tail}
use Rattle.std.proofs.lemmas.Bool.{lt-ltb}
use Rattle.std.proofs.lemmas.Bool.Decides.{nat_tests}
use Rattle.kc_memory.specs.declared.rule.Rule.{Rule}
use Rattle.kc_memory.specs.declared.rule.Rule.TheVariants.{M1, M3, M4, M5, M6}
use Rattle.kc_memory.specs.declared.words.Origin.{Origin}
use Rattle.kc_memory.specs.declared.words.Origin.TheVariants.{File, Tail}
use Rattle.kc_memory.specs.declared.words.Place.{Place}
use Rattle.kc_word.specs.Hex.{hex_digits}
use Rattle.kc_text.specs.Format.{Format, Anything, Nothing, NoMore, Stops, IsRead, IsFormat, IsWhole}
use Rattle.kc_text.specs.Reading.{and_then}
use Rattle.kc_text.specs.Readers.{literal, name_and, decimal_and, decimal_below, hex16, read_hex_digits, digit_from}
use Rattle.kc_text.specs.Compose.{EndsAt, both, mapped, either, ends, after, followed, texts, lines}
use Rattle.kc_laws.specs.Formats.{both-law, joined-law, mapped-law, nothing-law, either-law, ok_is, err_is, ok_not_err, literal-law, name-law, below-law, decimal-law, hex-law, digit-law, after-law, followed-law, reread-law, ends-by-first, lines-law}
use Rattle.kc_rules.specs.Codes.{rule_format}
use Rattle.kc_rules.proofs.RuleLaws.{rule-law}
use Rattle.kc_report.specs.declared.report.Report.{Report}
use Rattle.kc_report.specs.declared.report.Report.TheVariants as report
use Rattle.kc_report.specs.declared.report.RootResult.{RootResult}
use Rattle.kc_report.specs.declared.report.RootResult.TheVariants as root
use Rattle.kc_report.specs.IsReport.{Keeps, report_text}
use Rattle.kc_report.specs.Lines.{rule_code, address_text, origin_text, place_line, place_lines}
use Rattle.kc_report.specs.Report.{AuditLine, BrokenLines, IsNumber, IsOrigin, IsStopNumber, IsLine, IsShown, IsBroken, stop_levels, is_stop_at}
use Rattle.kc_report.specs.ReportText.{audit_line, expected_text, stop_lines, broken_lines, clean_text}
use Rattle.kc_report.specs.Roots.{RootLines, KeepsResult, IsRoot, IsEach, result_text, root_text, each_text}
use Rattle.kc_report.specs.Formats.{line_of, line_parts, line_format, number_or_none, address_format, expected_format, offset_text, offset_format, origin_of, origin_format, place_of, place_parts, place_format, stop_parts, stop_format, end_of, Parts, broken_of, broken_parts, broken_format, clean_format, result_of, result_format, root_of, root_format, read_end, read_roots, roots_format, each_format, report_from, report_format}

small : 0 < 2 ^ 64
small = lit< tt

-- an audit of a clean report
abbrev elements_format : Format ℕ
elements_format = after (codes "elements ") (decimal_and 10)

elements-law : IsFormat elements_format
elements-law = after-law Anything (codes "elements ") (decimal_and 10) (decimal-law 10 refl) (0, small)

abbrev walks_format : Format (ℕ × ℕ)
walks_format = after (codes "walks ") (both (decimal_and 32) (λ _. elements_format))

walks-law : IsFormat walks_format
walks-law =
    after-law Anything (codes "walks ") (both (decimal_and 32) (λ _. elements_format))
    (both-law Anything (decimal_and 32) (λ _. elements_format) (decimal-law 32 refl) (λ n good. elements-law) (λ n good. (0, small)))
    ((0, 0), (small, small))

line-parts-law : IsFormat line_parts
line-parts-law =
    after-law Anything (codes "audit ") (both (name_and 32) (λ _. walks_format))
    (both-law Anything (name_and 32) (λ _. walks_format) (name-law 32 refl) (λ name good. walks-law) (λ name good. ((0, 0), (small, small))))
    ((97 ∷ [], (0, 0)), (refl, (small, small)))

line-text : (p : List ℕ × (ℕ × ℕ)) → audit_line (line_of p) ≡ line_parts.spell p
line-text p = simp append_assoc

pub line-law : IsFormat line_format
line-law =
    mapped-law line_of IsLine audit_line Anything line_parts line-parts-law
    (λ p good. (record { name = good.0; walks = good.1.0; elements = good.1.1 }, line-text p))
    (λ l good. ((l.name, (l.walks, l.elements)), (good.name, (good.walks, good.elements)), refl))

pub line-some : (l : AuditLine) → IsLine l → 1 ≤ length (audit_line l)
line-some l good = omega arith

-- no such line begins as that of a root does
pub line-goes : (more : Bool) (l : AuditLine) (after : List ℕ) → IsLine l → ends (end_of more) (audit_line l ++ after) ≡ false
line-goes false l after good = refl
line-goes true l after good = refl

-- a number, or a word in place of one
none-apart : (text : List ℕ) → ((more : List ℕ) → read_hex_digits 16 0 (text ++ more) ≡ Err (text ++ more)) → (u : Unit {0}) (more : List ℕ) → Unit {0} → (t : ℕ × List ℕ)
    → hex16.read ((literal text).spell u ++ more) ≡ Ok t → ⊥
none-apart text stops u more good t is = ok_not_err t (text ++ more) (sym is ∙ stops more)

module _ (text : List ℕ) (stops : (more : List ℕ) → read_hex_digits 16 0 (text ++ more) ≡ Err (text ++ more)) (spell : Option ℕ → List ℕ)
    (none : spell None ≡ text) (some : (n : ℕ) → spell (Some n) ≡ hex_digits 16 n) where
  number_good : (z : Unit {0} ⊎ ℕ) → (either (literal text) hex16).Good z → IsNumber (number_or_none z) × (spell (number_or_none z) ≡ (either (literal text) hex16).spell z)
  number_good (inl u) good = (tt, none)
  number_good (inr n) good = (good, some n)

  number_back : (o : Option ℕ) → IsNumber o → (z : Unit {0} ⊎ ℕ) × (either (literal text) hex16).Good z × (number_or_none z ≡ o)
  number_back None good = (inl tt, tt, refl)
  number_back (Some n) good = (inr n, good, refl)

  number-law : IsFormat (mapped number_or_none IsNumber spell (either (literal text) hex16))
  number-law =
      mapped-law number_or_none IsNumber spell Anything (either (literal text) hex16)
      (either-law Anything (literal text) hex16 (literal-law text) hex-law (none-apart text stops)) number_good number_back

dash-stops : (more : List ℕ) → read_hex_digits 16 0 (codes "-" ++ more) ≡ Err (codes "-" ++ more)
unfolding read_hex_digits
dash-stops more = refl

none-stops : (more : List ℕ) → read_hex_digits 16 0 (codes "none" ++ more) ≡ Err (codes "none" ++ more)
unfolding read_hex_digits
none-stops more = refl

address-law : IsFormat address_format
address-law = number-law (codes "-") dash-stops address_text refl (λ n. refl)

expected-law : IsFormat expected_format
expected-law = number-law (codes "none") none-stops expected_text refl (λ n. refl)

tail-stops : (more : List ℕ) → read_hex_digits 16 0 (codes "tail" ++ more) ≡ Err (codes "tail" ++ more)
unfolding read_hex_digits
tail-stops more = refl

offset-law : IsFormat offset_format
offset-law = number-law (codes "tail") tail-stops offset_text refl (λ n. refl)

origin_good : (o : Option ℕ) → IsNumber o → IsOrigin (origin_of o) × (origin_text (origin_of o) ≡ offset_text o)
origin_good None good = (tt, refl)
origin_good (Some off) good = (good, refl)

origin_back : (origin : Origin) → IsOrigin origin → (o : Option ℕ) × IsNumber o × (origin_of o ≡ origin)
origin_back (File off) good = (Some off, good, refl)
origin_back Tail good = (None, tt, refl)

origin-law : IsFormat origin_format
origin-law = mapped-law origin_of IsOrigin origin_text Anything offset_format offset-law origin_good origin_back

-- a place
abbrev value_format : Format ℕ
value_format = after (codes " ") (followed hex16 (codes "\n"))

value-law : IsFormat value_format
value-law = after-law Anything (codes " ") (followed hex16 (codes "\n")) (followed-law hex16 (codes "\n") hex-law) (0, small)

abbrev off_format : Format (Origin × ℕ)
off_format = after (codes " ") (both origin_format (λ _. value_format))

off-law : IsFormat off_format
off-law =
    after-law Anything (codes " ") (both origin_format (λ _. value_format)) (both-law Anything origin_format (λ _. value_format) origin-law (λ o good. value-law) (λ o good. (0, small)))
    ((Tail, 0), (tt, small))

abbrev pa_format : Format (ℕ × (Origin × ℕ))
pa_format = after (codes " ") (both hex16 (λ _. off_format))

pa-law : IsFormat pa_format
pa-law =
    after-law Anything (codes " ") (both hex16 (λ _. off_format)) (both-law Anything hex16 (λ _. off_format) hex-law (λ n good. off-law) (λ n good. ((Tail, 0), (tt, small))))
    ((0, (Tail, 0)), (small, (tt, small)))

place-parts-law : IsFormat place_parts
place-parts-law =
    after-law Anything (codes "place ") (both address_format (λ _. pa_format))
    (both-law Anything address_format (λ _. pa_format) address-law (λ va good. pa-law) (λ va good. ((0, (Tail, 0)), (small, (tt, small)))))
    ((None, (0, (Tail, 0))), (tt, (small, (tt, small))))

place-text : (p : Option ℕ × (ℕ × (Origin × ℕ))) → place_line (place_of p) ≡ place_parts.spell p
place-text p = simp append_assoc

pub place-law : IsFormat place_format
place-law =
    mapped-law place_of IsShown place_line Anything place_parts place-parts-law
    (λ p good. (record { va = good.0; pa = good.1.0; off = good.1.1.0; value = good.1.1.1 }, place-text p))
    (λ p good. ((p.va, (p.pa, (p.off, p.value))), (good.va, (good.pa, (good.off, good.value))), refl))

-- a stop
IsLevels : Option (ℕ × ℕ) → Type 0
IsLevels None = Unit {0}
IsLevels (Some levels) = levels.0 ≤ levels.1

levels_ordered : (rule : Rule) → IsLevels (stop_levels rule)
unfolding IsLevels
levels_ordered M3 = lit≤ tt
levels_ordered M4 = lit≤ tt
levels_ordered M5 = lit≤ tt
levels_ordered M6 = lit≤ tt
levels_ordered rule = tt

abbrev stop_pa_format : Format ℕ
stop_pa_format = after (codes " ") (followed hex16 (codes "\n"))

stop-parts-law : (levels : ℕ × ℕ) → levels.0 ≤ levels.1 → IsFormat (stop_parts levels)
stop-parts-law levels some =
    after-law Anything (codes "stop ") (both (digit_from levels.0 levels.1) (λ _. stop_pa_format))
    (both-law Anything (digit_from levels.0 levels.1) (λ _. stop_pa_format) (digit-law levels.0 levels.1 some) (λ level good. value-law) (λ level good. (0, small)))
    ((levels.0, 0), ((omega arith, some), small))

stop-text : (levels stop : ℕ × ℕ) → stop_lines (Some stop) ≡ (stop_parts levels).spell stop
stop-text levels stop = simp append_assoc

stop_inside : (low high level : ℕ) → (leb low level && leb level high) ≡ true → (low ≤ level) × (level ≤ high)
stop_inside low high level is = (grind (arith, nat_tests), grind (arith, nat_tests))

stop_within : (low high level : ℕ) → low ≤ level → level ≤ high → (leb low level && leb level high) ≡ true
stop_within low high level above below = grind (arith, nat_tests)

IsStopOf : Option (ℕ × ℕ) → Option (ℕ × ℕ) → Type 0
IsStopOf levels stop = IsTrue (is_stop_at levels stop) × IsStopNumber stop

stop_back : (levels : ℕ × ℕ) (o : Option (ℕ × ℕ)) → IsTrue (is_stop_at (Some levels) o) × IsStopNumber o → (stop : ℕ × ℕ) × (stop_parts levels).Good stop × (Some stop ≡ o)
stop_back levels None good = absurd (let wrong = good.0 in let none : ⊥ = cc in none)
stop_back levels (Some stop) good = (stop, (stop_inside levels.0 levels.1 stop.0 good.0, good.1), refl)

stop-law : (levels : Option (ℕ × ℕ)) → IsLevels levels → IsFormat (stop_format levels)
unfolding IsLevels
stop-law None some = nothing-law None
stop-law (Some levels) some =
    mapped-law (λ stop. Some stop) (λ stop. IsTrue (is_stop_at (Some levels) stop) × IsStopNumber stop) stop_lines Anything (stop_parts levels) (stop-parts-law levels some)
    (λ stop good. ((stop_within levels.0 levels.1 stop.0 good.0.0 good.0.1, good.1), stop-text levels stop))
    (stop_back levels)

-- what the format of a stop says of it, and what says that it has a text
stop_good : (levels stop : Option (ℕ × ℕ)) → (stop_format levels).Good stop → IsStopOf levels stop
unfolding IsStopOf
stop_good None None good = (refl, tt)
stop_good None (Some stop) good = absurd (let none : ⊥ = cc in none)
stop_good (Some levels) stop good = good

stop_has : (levels stop : Option (ℕ × ℕ)) → IsStopOf levels stop → (stop_format levels).Good stop
unfolding IsStopOf
stop_has None None good = refl
stop_has None (Some stop) good = absurd (let wrong = good.0 in let none : ⊥ = cc in none)
stop_has (Some levels) stop good = good

stop_spelled : (levels stop : Option (ℕ × ℕ)) → (stop_format levels).Good stop → (stop_format levels).spell stop ≡ stop_lines stop
stop_spelled None None good = refl
stop_spelled None (Some stop) good = absurd (let none : ⊥ = cc in none)
stop_spelled (Some levels) stop good = refl

stop_some : (levels : Option (ℕ × ℕ)) → IsLevels levels → (stop : Option (ℕ × ℕ)) × (stop_format levels).Good stop
unfolding IsLevels
stop_some None some = (None, refl)
stop_some (Some levels) some = (Some (levels.0, 0), (stop_within levels.0 levels.1 levels.0 (omega arith) some, small))

-- the places
pub place-some : (p : Place) → IsShown p → 1 ≤ length (place_line p)
place-some p good = omega arith

pub place-goes : (more : Bool) (p : Place) (after : List ℕ) → IsShown p → ends (end_of more) (place_line p ++ after) ≡ false
place-goes false p after good = refl
place-goes true p after good = refl

pub place_lines-texts : (ps : List Place) → place_lines ps ≡ texts place_line ps
place_lines-texts [] = refl
place_lines-texts (p ∷ ps) = ap (λ l. place_line p ++ l) (place_lines-texts ps)

-- a report of a violation, from its end, and what may stand after it
module _ (more : Bool) where
  abbrev Ended : List ℕ → Type 0
  Ended = EndsAt (end_of more)

  places-law : IsRead Ended (lines (end_of more) place_format)
  places-law = lines-law (end_of more) place_format place-law place-some (place-goes more)

  abbrev end_format : Rule → Format (Option (ℕ × ℕ) × List Place)
  end_format rule = both (stop_format (stop_levels rule)) (λ _. lines (end_of more) place_format)

  end-law : (rule : Rule) → IsRead Ended (end_format rule)
  end-law rule =
      both-law Ended (stop_format (stop_levels rule)) (λ _. lines (end_of more) place_format) (stop-law (stop_levels rule) (levels_ordered rule)) (λ stop good. places-law) (λ stop good. ([], All-nil IsShown))

  end_some : (rule : Rule) → (e : Option (ℕ × ℕ) × List Place) × (end_format rule).Good e
  end_some rule =
      let s = stop_some (stop_levels rule) (levels_ordered rule) in
      ((s.0, []), (s.1, All-nil IsShown))

  abbrev expected_end : Rule → Format (Option ℕ × (Option (ℕ × ℕ) × List Place))
  expected_end rule = after (codes "expected ") (both (followed expected_format (codes "\n")) (λ _. end_format rule))

  expected_some : (rule : Rule) → (e : Option ℕ × (Option (ℕ × ℕ) × List Place)) × (expected_end rule).Good e
  expected_some rule = let e = end_some rule in ((None, e.0), (tt, e.1))

  expected-end-law : (rule : Rule) → IsRead Ended (expected_end rule)
  expected-end-law rule =
      after-law Ended (codes "expected ") (both (followed expected_format (codes "\n")) (λ _. end_format rule))
      (both-law Ended (followed expected_format (codes "\n")) (λ _. end_format rule) (followed-law expected_format (codes "\n") expected-law) (λ o good. end-law rule) (λ o good. end_some rule))
      (expected_some rule)

  abbrev at_end : Rule → Format (ℕ × (Option ℕ × (Option (ℕ × ℕ) × List Place)))
  at_end rule = after (codes "at ") (both (followed hex16 (codes "\n")) (λ _. expected_end rule))

  at_some : (rule : Rule) → (e : ℕ × (Option ℕ × (Option (ℕ × ℕ) × List Place))) × (at_end rule).Good e
  at_some rule = let e = expected_some rule in ((0, e.0), (small, e.1))

  at-end-law : (rule : Rule) → IsRead Ended (at_end rule)
  at-end-law rule =
      after-law Ended (codes "at ") (both (followed hex16 (codes "\n")) (λ _. expected_end rule))
      (both-law Ended (followed hex16 (codes "\n")) (λ _. expected_end rule) (followed-law hex16 (codes "\n") hex-law) (λ n good. expected-end-law rule) (λ n good. expected_some rule))
      (at_some rule)

  abbrev RuleEnd : Type 0
  RuleEnd = Rule × (ℕ × (Option ℕ × (Option (ℕ × ℕ) × List Place)))

  abbrev rule_end : Format RuleEnd
  rule_end = after (codes "rule ") (both (followed rule_format (codes "\n")) (λ rule. at_end rule))

  rule_some : (e : RuleEnd) × rule_end.Good e
  rule_some = let e = at_some M1 in ((M1, e.0), (tt, e.1))

  rule-end-law : IsRead Ended rule_end
  rule-end-law =
      after-law Ended (codes "rule ") (both (followed rule_format (codes "\n")) (λ rule. at_end rule))
      (both-law Ended (followed rule_format (codes "\n")) (λ rule. at_end rule) (followed-law rule_format (codes "\n") rule-law) (λ rule good. at-end-law rule) (λ rule good. at_some rule))
      rule_some

  abbrev start_end : Format (ℕ × RuleEnd)
  start_end = after (codes "start ") (both (followed hex16 (codes "\n")) (λ _. rule_end))

  start_some : (e : ℕ × RuleEnd) × start_end.Good e
  start_some = let e = rule_some in ((0, e.0), (small, e.1))

  start-end-law : IsRead Ended start_end
  start-end-law =
      after-law Ended (codes "start ") (both (followed hex16 (codes "\n")) (λ _. rule_end))
      (both-law Ended (followed hex16 (codes "\n")) (λ _. rule_end) (followed-law hex16 (codes "\n") hex-law) (λ n good. rule-end-law) (λ n good. rule_some))
      start_some

  parts_some : (p : Parts) × (broken_parts more).Good p
  parts_some = let e = start_some in ((97 ∷ [], e.0), (refl, e.1))

  broken-parts-law : IsRead Ended (broken_parts more)
  broken-parts-law =
      after-law Ended (codes "broken\naudit ") (both (name_and 10) (λ _. start_end))
      (both-law Ended (name_and 10) (λ _. start_end) (name-law 10 refl) (λ name good. start-end-law) (λ name good. start_some))
      parts_some

-- the text, whatever its end, grouped in the two ways
grouped : (a n c b s d r e t f x stop places : List ℕ)
    → (a ++ n ++ ((c ++ b) ++ s ++ c)) ++ (d ++ r ++ (c ++ e) ++ t ++ c) ++ (f ++ x ++ c ++ stop ++ places)
    ≡ a ++ ((n ++ c) ++ (b ++ ((s ++ c) ++ (d ++ ((r ++ c) ++ (e ++ ((t ++ c) ++ (f ++ ((x ++ c) ++ (stop ++ places))))))))))
grouped a n c b s d r e t f x stop places = simp append_assoc

module _ (p : Parts) (stop places : List ℕ) where
  abbrev lines_with : List ℕ
  lines_with =
      (codes "broken\naudit " ++ p.0 ++ (codes "\nstart " ++ hex_digits 16 p.1.0 ++ codes "\n"))
      ++ (codes "rule " ++ rule_code p.1.1.0 ++ codes "\nat " ++ hex_digits 16 p.1.1.1.0 ++ codes "\n")
      ++ (codes "expected " ++ expected_text p.1.1.1.1.0 ++ codes "\n" ++ stop ++ places)

  abbrev parts_with : List ℕ
  parts_with =
      codes "broken\naudit " ++ ((p.0 ++ 10 ∷ []) ++ (codes "start " ++ ((hex_digits 16 p.1.0 ++ codes "\n") ++ (codes "rule " ++ ((rule_code p.1.1.0 ++ codes "\n")
      ++ (codes "at " ++ ((hex_digits 16 p.1.1.1.0 ++ codes "\n") ++ (codes "expected " ++ ((expected_text p.1.1.1.1.0 ++ codes "\n") ++ (stop ++ places))))))))))

  same_lines : lines_with ≡ parts_with
  same_lines =
      grouped (codes "broken\naudit ") p.0 (codes "\n") (codes "start ") (hex_digits 16 p.1.0) (codes "rule ") (rule_code p.1.1.0) (codes "at ") (hex_digits 16 p.1.1.1.0)
      (codes "expected ") (expected_text p.1.1.1.1.0) stop places

module _ (more : Bool) where
  broken-text : (p : Parts) → (broken_parts more).Good p → broken_lines (broken_of p) ≡ (broken_parts more).spell p
  broken-text p good =
      let rule = p.1.1.0 in
      let stop = p.1.1.1.1.1.0 in
      let places = p.1.1.1.1.1.1 in
      same_lines p (stop_lines stop) (place_lines places)
      ∙ ap (parts_with p (stop_lines stop)) (place_lines-texts places)
      ∙ ap (λ l. parts_with p l (texts place_line places)) (sym (stop_spelled (stop_levels rule) stop good.1.1.1.1.1.0))

  broken_good : (p : Parts) → (broken_parts more).Good p → IsBroken (broken_of p)
  unfolding IsStopOf
  broken_good p good =
      let s = stop_good (stop_levels p.1.1.0) p.1.1.1.1.1.0 good.1.1.1.1.1.0 in
      record {
        audit = good.0;
        start = good.1.0;
        at = good.1.1.1.0;
        expected = good.1.1.1.1.0;
        stop = s.0;
        stop_number = s.1;
        places = good.1.1.1.1.1.1;
      }

  broken_back : (b : BrokenLines) → IsBroken b → (p : Parts) × (broken_parts more).Good p × (broken_of p ≡ b)
  unfolding IsStopOf
  broken_back b good = (
    (b.audit, (b.start, (b.rule, (b.at, (b.expected, (b.stop, b.places)))))),
    (good.audit, (good.start, (tt, (good.at, (good.expected, (stop_has (stop_levels b.rule) b.stop (good.stop, good.stop_number), good.places)))))),
    refl,
  )

  pub broken-law : IsRead (EndsAt (end_of more)) (broken_format more)
  broken-law =
      mapped-law broken_of IsBroken broken_lines (EndsAt (end_of more)) (broken_parts more) (broken-parts-law more) (λ p good. (broken_good p good, broken-text p good)) broken_back

  clean-law : IsRead (EndsAt (end_of more)) (clean_format more)
  clean-law = after-law (EndsAt (end_of more)) (codes "clean\n") (lines (end_of more) line_format) (lines-law (end_of more) line_format line-law line-some (line-goes more)) ([], All-nil IsLine)

  abbrev form : Format (List AuditLine ⊎ BrokenLines)
  form = either (clean_format more) (broken_format more)

  form-law : IsRead (EndsAt (end_of more)) form
  form-law =
      either-law (EndsAt (end_of more)) (clean_format more) (broken_format more) clean-law broken-law
      (λ ls after good t is. ok_not_err t ((clean_format more).spell ls ++ after) (sym is))

  result_good : (z : List AuditLine ⊎ BrokenLines) → form.Good z → KeepsResult (result_of z) × (result_text (result_of z) ≡ form.spell z)
  result_good (inl lines) good = (good, refl)
  result_good (inr broken) good = (good, refl)

  result_back : (r : RootResult) → KeepsResult r → (z : List AuditLine ⊎ BrokenLines) × form.Good z × (result_of z ≡ r)
  result_back (root.Clean lines) good = (inl lines, good, refl)
  result_back (root.Broken broken) good = (inr broken, good, refl)

  pub result-law : IsRead (EndsAt (end_of more)) (result_format more)
  result-law = mapped-law result_of KeepsResult result_text (EndsAt (end_of more)) form form-law result_good result_back

  abbrev root_parts : Format (List ℕ × RootResult)
  root_parts = after (codes "root ") (both (name_and 32) (λ _. result_format more))

  root-parts-law : IsRead (EndsAt (end_of more)) root_parts
  root-parts-law =
      after-law (EndsAt (end_of more)) (codes "root ") (both (name_and 32) (λ _. result_format more))
      (both-law (EndsAt (end_of more)) (name_and 32) (λ _. result_format more) (name-law 32 refl) (λ name good. result-law) (λ name good. (root.Clean [], All-nil IsLine)))
      ((97 ∷ [], root.Clean []), (refl, All-nil IsLine))

  root-line : (p : List ℕ × RootResult) → root_text (root_of p) ≡ root_parts.spell p
  root-line p = simp append_assoc

  pub root-law : IsRead (EndsAt (end_of more)) (root_format more)
  root-law =
      mapped-law root_of IsRoot root_text (EndsAt (end_of more)) root_parts root-parts-law
      (λ p good. (record { name = good.0; verdict = good.1 }, root-line p))
      (λ r good. ((r.name, r.verdict), (good.name, good.verdict), refl))

-- roots to the end of the bytes
abbrev AreRoots : ℕ → List RootLines → Type 0
AreRoots many roots = (length roots ≡ many) × All IsRoot roots

no-roots-again : (roots : List RootLines) (rest : List ℕ) → AreRoots 0 roots → rest ≡ [] → read_end (texts root_text roots ++ rest) ≡ Ok (roots, rest)
no-roots-again [] [] good none = refl
no-roots-again [] (c ∷ cs) good none = absurd (let wrong : ⊥ = cc in wrong)
no-roots-again (r ∷ rs) rest good none = absurd (let long = good.0 in omega arith)

NoRoots : List ℕ → List RootLines × List ℕ → Type 0
NoRoots bytes q = AreRoots 0 q.0 × (q.1 ≡ []) × (bytes ≡ texts root_text q.0 ++ q.1)

no-roots-takes : (bytes : List ℕ) (q : List RootLines × List ℕ) → read_end bytes ≡ Ok q → NoRoots bytes q
unfolding NoRoots
no-roots-takes [] q is = subst (NoRoots []) (ok_is ([], []) q is) ((refl, All-nil IsRoot), refl, refl)
no-roots-takes (c ∷ cs) q is = absurd (ok_not_err q (c ∷ cs) (sym is))

no-roots-stops : (bytes rest : List ℕ) → read_end bytes ≡ Err rest → Stops Nothing (roots_format 0) bytes rest
no-roots-stops [] rest is = absurd (ok_not_err ([], []) rest is)
no-roots-stops (c ∷ cs) rest is =
    subst (Stops Nothing (roots_format 0) (c ∷ cs)) (err_is (c ∷ cs) rest is) (record {
      front = [];
      parts = refl;
      begins = ([], [], (refl, All-nil IsRoot), refl);
      none = λ roots tail more good after text.
          elim roots as (λ roots. AreRoots 0 roots → c ∷ tail ≡ texts root_text roots ++ more → ⊥) [
            | [] ↦ λ good text. (let wrong : c ∷ tail ≡ [] = text ∙ after in let none : ⊥ = cc in none)
            | r ∷ rs ↦ λ good text. (let long = good.0 in omega arith)
          ] good text;
    })

-- one root, and those after it
module _ (left : ℕ) where
  abbrev Between : List ℕ → Type 0
  Between = EndsAt (end_of (ltb 0 left))

  abbrev one_more : Format (RootLines × List RootLines)
  one_more = both (root_format (ltb 0 left)) (λ _. roots_format left)

  abbrev roots_more : Format (List RootLines)
  roots_more = mapped (λ p. p.0 ∷ p.1) (AreRoots (suc left)) (texts root_text) one_more

  rest-same : (r : RootLines) (s : Result (List RootLines × List ℕ) (List ℕ)) → and_then {B = List RootLines × List ℕ} s (λ s. Ok (r ∷ s.0, s.1))
      ≡ and_then (and_then {B = (RootLines × List RootLines) × List ℕ} s (λ s. Ok ((r, s.0), s.1))) (λ r. Ok (r.0.0 ∷ r.0.1, r.1))
  rest-same r (Ok t) = refl
  rest-same r (Err e) = refl

  roots-same : (r : Result (RootLines × List ℕ) (List ℕ)) → and_then {B = List RootLines × List ℕ} r (λ r. and_then (read_roots left r.1) (λ s. Ok (r.0 ∷ s.0, s.1)))
      ≡ and_then (and_then {B = (RootLines × List RootLines) × List ℕ} r (λ r. and_then (read_roots left r.1) (λ s. Ok ((r.0, s.0), s.1)))) (λ r. Ok (r.0.0 ∷ r.0.1, r.1))
  roots-same (Ok t) = rest-same t.0 (read_roots left t.1)
  roots-same (Err e) = refl

pub roots-step : (left : ℕ) (bytes : List ℕ) → read_roots (suc left) bytes
    ≡ and_then ((root_format (ltb 0 left)).read bytes) (λ r. and_then (read_roots left r.1) (λ s. Ok (r.0 ∷ s.0, s.1)))
unfolding read_roots
roots-step left bytes = refl

pub roots-none : (bytes : List ℕ) → read_roots 0 bytes ≡ read_end bytes
unfolding read_roots
roots-none bytes = refl

-- what comes after a root shows where its lines end
opens : (left : ℕ) (roots : List RootLines) (more : List ℕ) → AreRoots left roots → more ≡ [] → EndsAt (end_of (ltb 0 left)) (texts root_text roots ++ more)
opens zero [] more good none = ap (ends None) none
opens zero (r ∷ rs) more good none = absurd (let long = good.0 in omega arith)
opens (suc left) [] more good none = absurd (let short = good.0 in omega arith)
opens (suc left) (r ∷ rs) more good none =
    let some : ltb 0 (suc left) ≡ true = lt-ltb 0 (suc left) (omega arith) in
    ap (λ b. ends (end_of b) (texts root_text (r ∷ rs) ++ more)) some

roots_some : (left : ℕ) → (roots : List RootLines) × AreRoots left roots
roots_some zero = ([], (refl, All-nil IsRoot))
roots_some (suc left) =
    let some = roots_some left in
    let one : RootLines = record { name = 97 ∷ []; verdict = root.Clean [] } in
    (one ∷ some.0, (ap suc some.1.0, All-cons IsRoot one some.0 (record { name = refl; verdict = All-nil IsLine }) some.1.1))

more_back : (left : ℕ) (roots : List RootLines) → AreRoots (suc left) roots → (p : RootLines × List RootLines) × (one_more left).Good p × (p.0 ∷ p.1 ≡ roots)
more_back left [] good = absurd (let short = good.0 in omega arith)
more_back left (r ∷ rs) good = ((r, rs), (All-head IsRoot r rs good.1, ((let long = good.0 in omega arith), All-tail IsRoot r rs good.1)), refl)

pub roots-law : (left : ℕ) → IsWhole (roots_format left)
unfolding NoRoots
roots-law zero = record {
  again = λ roots rest good after. roots-none (texts root_text roots ++ rest) ∙ no-roots-again roots rest good after;
  takes = λ bytes rest roots is. no-roots-takes bytes (roots, rest) (sym (roots-none bytes) ∙ is);
  stops = λ bytes rest is. no-roots-stops bytes rest (sym (roots-none bytes) ∙ is);
}
roots-law (suc left) =
    reread-law Nothing (roots_more left) (read_roots (suc left)) (λ bytes. roots-step left bytes ∙ roots-same left ((root_format (ltb 0 left)).read bytes))
    (mapped-law (λ p. p.0 ∷ p.1) (AreRoots (suc left)) (texts root_text) Nothing (one_more left)
    (joined-law (Between left) Nothing (root_format (ltb 0 left)) (λ _. roots_format left) (root-law (ltb 0 left)) (λ r good. roots-law left)
    (λ r roots more good goods after. opens left roots more goods after)
    (λ c cs ds at. sym (ends-by-first (end_of (ltb 0 left)) c cs ds) ∙ at)
    (λ r good. roots_some left))
    (λ p good. ((ap suc good.1.0, All-cons IsRoot p.0 p.1 good.0 good.1.1), refl))
    (more_back left))

-- a report with one verdict for each root
abbrev counted_roots : Format (ℕ × List RootLines)
counted_roots = after (codes "roots ") (both (decimal_below 257 10) roots_format)

counted-roots-law : IsWhole counted_roots
counted-roots-law =
    after-law Nothing (codes "roots ") (both (decimal_below 257 10) roots_format)
    (both-law Nothing (decimal_below 257 10) roots_format (below-law 257 10 (lit≤ tt) (lit≤ tt) refl) (λ many good. roots-law many) (λ many good. roots_some many))
    ((0, []), (lit< tt, (refl, All-nil IsRoot)))

each-same : (many : ℕ) (roots : List ℕ) → codes "roots " ++ decimal many ++ codes "\n" ++ roots ≡ codes "roots " ++ ((decimal many ++ 10 ∷ []) ++ roots)
each-same many roots = simp append_assoc

each-text : (many : ℕ) (roots : List RootLines) → length roots ≡ many → each_text roots ≡ counted_roots.spell (many, roots)
each-text many roots long =
    ap (λ n. codes "roots " ++ decimal n ++ codes "\n" ++ texts root_text roots) long
    ∙ each-same many (texts root_text roots)

each-law : IsWhole each_format
each-law =
    mapped-law (λ p. p.1) IsEach each_text Nothing counted_roots counted-roots-law
    (λ p good. (record { few = let long = good.1.0 in let most = good.0 in omega arith; each = good.1.1 }, each-text p.0 p.1 good.1.0))
    (λ roots good. ((length roots, roots), ((let few = good.few in omega arith), (refl, good.each)), refl))

-- lines that end where the bytes do
none_left : (rest : List ℕ) → ends None rest ≡ true → rest ≡ []
none_left [] at = refl
none_left (c ∷ cs) at = absurd (let none : ⊥ = cc in none)

module _ {X : Type 0} (f : Format X) (F : IsRead (EndsAt None) f) where
  whole-none : (front rest : List ℕ) → NoMore (EndsAt None) f front rest → NoMore Nothing f front rest
  whole-none front [] none = tt
  whole-none front (c ∷ cs) none = λ x tail more good after is. none x tail more good (ap (ends None) after) is

  whole-law : IsWhole f
  whole-law = record {
    again = λ x rest good after. F.again x rest good (ap (ends None) after);
    takes = λ bytes rest x is. let t = F.takes bytes rest x is in (t.0, none_left rest t.1, t.2);
    stops = λ bytes rest is. let s = F.stops bytes rest is in record { front = s.front; parts = s.parts; begins = s.begins; none = whole-none s.front rest s.none };
  }

-- a report of any form
abbrev any_form : Format (RootResult ⊎ List RootLines)
any_form = either (result_format false) each_format

each-apart : (r : RootResult) (more : List ℕ) → KeepsResult r → (t : List RootLines × List ℕ) → each_format.read (result_text r ++ more) ≡ Ok t → ⊥
each-apart (root.Clean lines) more good t is = ok_not_err t (clean_text lines ++ more) (sym is)
each-apart (root.Broken broken) more good t is = ok_not_err t (broken_lines broken ++ more) (sym is)

any-law : IsWhole any_form
any-law = either-law Nothing (result_format false) each_format (whole-law (result_format false) (result-law false)) each-law each-apart

report_good : (z : RootResult ⊎ List RootLines) → any_form.Good z → Keeps (report_from z) × (report_text (report_from z) ≡ any_form.spell z)
report_good (inl (root.Clean lines)) good = (good, refl)
report_good (inl (root.Broken broken)) good = (good, refl)
report_good (inr roots) good = (good, refl)

report_back : (r : Report) → Keeps r → (z : RootResult ⊎ List RootLines) × any_form.Good z × (report_from z ≡ r)
report_back (report.Clean lines) good = (inl (root.Clean lines), good, refl)
report_back (report.Broken broken) good = (inl (root.Broken broken), good, refl)
report_back (report.Each roots) good = (inr roots, good, refl)

pub report-law : IsWhole report_format
report-law = mapped-law report_from Keeps report_text Nothing any_form any-law report_good report_back
