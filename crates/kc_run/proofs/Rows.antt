-- Examples of the definition: audits in one another over a few words.
use Rattle.std.proofs.Common.{◌≡◌, ℕ, ◌+◌, ◌*◌, ◌/◌, nat_eq, Bool, true, false, if◌then◌else◌, List, [], ◌∷◌, None, Some, Result, Ok, Err, refl}
use Rattle.std.specs.Prelude.{pos, codes}
use Rattle.kc_memory.specs.declared.rule.Rule.TheVariants.{M6, L1}
use Rattle.kc_memory.specs.declared.words.Origin.TheVariants.{File}
use Rattle.kc_memory.specs.declared.words.VWord.{VWord}
use Rattle.kc_memory.specs.Bits.{Number}
use Rattle.kc_memory.specs.Places.{place_of}
use Rattle.kc_memory.specs.Stopped.{Stopped}
use Rattle.kc_view.specs.Typed.{bytes_on}
use Rattle.kc_found.specs.declared.verdict.Verdict.TheVariants.{Clean, Broken}
use Rattle.kc_found.specs.Chains.{chain_sites, chain_trials}
use Rattle.kc_found.specs.Rings.{ring_chain}
use Rattle.kc_found.specs.Trials.{Reader, judged}
use Rattle.kc_found.specs.Violations.{Violation, breaks, missed}
use Rattle.kc_kinds.specs.declared.kind.Kind.{Kind}
use Rattle.kc_kinds.specs.declared.kind.Kind.TheVariants.{Ring}
use Rattle.kc_expr.specs.Tree.Tree.{field}
use Rattle.kc_plan.specs.Checks.{fails}
use Rattle.kc_plan.specs.Planned.{AuditAt, CheckAt}
use Rattle.kc_plan.specs.Planned.StartAt.{RootAt, FromAt}
use Rattle.kc_plan.specs.Seen.{PathEnd, EndsAt, NullAt, World, null_pointer, seen}
use Rattle.kc_plan.specs.Verdicts.{verdict_in}

abbrev no_word : ℕ → Stopped
no_word va = record { va = va; rule = M6; level = 0; pa = va; entry = None }

abbrev look : List VWord → Reader
look [] va = Err (no_word va)
look (w ∷ ws) va = if nat_eq w.va va then Ok w else look ws va

abbrev word : ℕ → ℕ → VWord
word va value = record { va = va; pa = va; off = File (va + 0x2000); value = value }

-- on from a pointer at an address
abbrev on_from : ℕ → Result VWord Stopped → (ℕ → Result PathEnd Stopped) → Result PathEnd Stopped
on_from at (Err s) go = Err s
on_from at (Ok w) go = if nat_eq w.value 0 then Ok (NullAt (place_of w) at) else go w.value

abbrev path : List VWord → ℕ → List ℕ → ℕ → Result PathEnd Stopped
path ws at [] byte = Ok (EndsAt (bytes_on at byte))
path ws at (offset ∷ offsets) byte = on_from (bytes_on at offset) (look ws (bytes_on at offset)) (λ next. path ws next offsets byte)

abbrev nodes : List VWord → Kind → ℕ → ℕ → Result (List ℕ) Violation
nodes ws (Ring shape) n start = judged (chain_sites (ring_chain (look ws) shape (record { audit = n; start = start })) 12)
nodes ws _ n start = Ok []

-- a field of one word, which no pointer leads to
abbrev one_word : VWord → Number
one_word w = record { value = pos w.value; first = place_of w; second = None }

abbrev number : Result VWord Stopped → Result Number Stopped
number (Ok w) = Ok (one_word w)
number (Err s) = Err s

abbrev dump : List VWord → World
dump ws = record { paths = λ to at. path ws at to.hops to.byte; walks = nodes ws; numbers = λ element f. number (look ws (bytes_on element (f.bits.bit / 8))) }

-- a ring of tasks, each with a ring of threads behind a pointer
abbrev tasks_with : List CheckAt → AuditAt
tasks_with checks = record {
  name = [];
  kind = Ring (record { next = 0; prev = 8 });
  start = RootAt 0xb000 2 (record { hops = []; byte = 8; ty = 1 });
  element = Some 2;
  link = 8;
  checks = checks;
  each = 1 ∷ [];
}

abbrev tasks : AuditAt
tasks = tasks_with []

-- that a word of a task isn't 0
abbrev not_null : List ℕ → ℕ → CheckAt
not_null path byte = record {
  tree = field path;
  fields = record { hops = []; bits = record { bit = 8 * byte; width = 64; signed = false }; ty = 1 } ∷ [];
}

abbrev threads : Bool → AuditAt
threads optional = record {
  name = [];
  kind = Ring (record { next = 0; prev = 8 });
  start = FromAt (record { hops = 0x50 ∷ []; byte = 0; ty = 1 }) optional;
  element = Some 2;
  link = 0x58;
  checks = [];
  each = [];
}

-- two tasks, the first one with two threads; the second one's pointer is missing
abbrev torn : List VWord
torn = word 0xb008 0xd008 ∷ word 0xb010 0xe008 ∷ word 0xd008 0xe008 ∷ word 0xd010 0xb008 ∷ word 0xe008 0xb008 ∷ word 0xe010 0xd008
    ∷ word 0xd050 0xd080 ∷ word 0xd080 0xd058 ∷ word 0xd088 0xd158 ∷ word 0xd058 0xd158 ∷ word 0xd060 0xd080 ∷ word 0xd158 0xd080 ∷ word 0xd160 0xd058
    ∷ []

-- the second one has none
abbrev good : List VWord
good = word 0xe050 0xe080 ∷ word 0xe080 0xe080 ∷ word 0xe088 0xe080 ∷ torn

all_good : verdict_in (dump good) (tasks ∷ threads false ∷ []) ≡ Clean (record { walks = 1; elements = 2 } ∷ record { walks = 2; elements = 2 } ∷ [])
unfolding seen chain_trials
all_good = refl

-- the second task's pointer is null
null_pointer_breaks : verdict_in (dump (word 0xe050 0 ∷ good)) (tasks ∷ threads false ∷ []) ≡ Broken (null_pointer (record { audit = 1; start = 0xe000 }) (place_of (word 0xe050 0)) 0xe050)
unfolding seen chain_trials
null_pointer_breaks = refl

null_pointer_is_passed_over : verdict_in (dump (word 0xe050 0 ∷ good)) (tasks ∷ threads true ∷ []) ≡ Clean (record { walks = 1; elements = 2 } ∷ record { walks = 1; elements = 2 } ∷ [])
unfolding seen chain_trials
null_pointer_is_passed_over = refl

-- it can't be read, or leads where nothing can be
pointer_is_torn : verdict_in (dump torn) (tasks ∷ threads false ∷ []) ≡ Broken (missed (record { audit = 1; start = 0xe000 }) None (no_word 0xe050))
unfolding seen chain_trials
pointer_is_torn = refl

head_is_torn : verdict_in (dump (word 0xe050 0x7000 ∷ good)) (tasks ∷ threads false ∷ []) ≡ Broken (missed (record { audit = 1; start = 0x7000 }) None (no_word 0x7000))
unfolding seen chain_trials
head_is_torn = refl

-- a ring is judged whole before what lies below its elements, and what lies below the first before what lies below the second
outer_comes_first : verdict_in (dump (word 0xb010 0xd008 ∷ word 0xd050 0 ∷ good)) (tasks ∷ threads false ∷ []) ≡ Broken (breaks (record { audit = 0; start = 0xb008 }) L1 (word 0xb010 0xd008) (Some 0xe008))
unfolding seen chain_trials
outer_comes_first = refl

first_element_comes_first : verdict_in (dump (word 0xd060 0xd158 ∷ word 0xe050 0 ∷ good)) (tasks ∷ threads false ∷ []) ≡ Broken (breaks (record { audit = 1; start = 0xd080 }) L1 (word 0xd060 0xd158) (Some 0xd080))
unfolding seen chain_trials
first_element_comes_first = refl

-- a task is checked before what lies below it, by the start of its ring; what lies below it comes before the next task's checks
check_comes_first : verdict_in (dump (word 0xd018 0 ∷ word 0xd050 0 ∷ good)) (tasks_with (not_null (codes "pid") 0x18 ∷ []) ∷ threads false ∷ []) ≡ Broken (fails (record { audit = 0; start = 0xb008 }) 0xd000 (one_word (word 0xd018 0) ∷ []))
unfolding seen chain_trials
check_comes_first = refl

next_check_comes_later : verdict_in (dump (word 0xd018 1 ∷ word 0xe018 0 ∷ word 0xd050 0 ∷ good)) (tasks_with (not_null (codes "pid") 0x18 ∷ []) ∷ threads false ∷ []) ≡ Broken (null_pointer (record { audit = 1; start = 0xd000 }) (place_of (word 0xd050 0)) 0xd050)
unfolding seen chain_trials
next_check_comes_later = refl

-- a field that can't be read, of the second check
field_is_torn : verdict_in (dump (word 0xd018 1 ∷ good)) (tasks_with (not_null (codes "pid") 0x18 ∷ not_null (codes "tgid") 0x1c0 ∷ []) ∷ threads false ∷ []) ≡ Broken (missed (record { audit = 0; start = 0xb008 }) None (no_word 0xd1c0))
unfolding seen chain_trials
field_is_torn = refl
