-- Examples of the definitions: an xarray over a few words.
use Rattle.std.proofs.Common.{◌≡◌, ℕ, ◌+◌, nat_eq, Bool, true, false, List, [], ◌∷◌, None, Some, refl}
use Rattle.std.specs.Prelude.{Ok, Err, if◌then◌else◌}
use Rattle.kc_found.specs.Trials.{Reader, judged}
use Rattle.kc_found.specs.Violations.{breaks}
use Rattle.kc_found.specs.XaEntries.{kind}
use Rattle.kc_found.specs.XaNodes.{XaCourse, breaks_in, first_words, byte_in, xa_words, filled, odd, has_sibling, xa_rules}
use Rattle.kc_found.specs.XaSites.{node_trials, xa_trials}
use Rattle.kc_found.specs.declared.asked.Asked.{Asked}
use Rattle.kc_memory.specs.Stopped.{Stopped}
use Rattle.kc_memory.specs.declared.rule.Rule.TheVariants.{X5, X7, X8, M6}
use Rattle.kc_memory.specs.declared.words.Origin.TheVariants.{File}
use Rattle.kc_memory.specs.declared.words.VWord.{VWord}

abbrev stop_at : ℕ → Stopped
stop_at va = record { va = va; rule = M6; level = 0; pa = 0; entry = None }

abbrev look : List VWord → Reader
look [] va = Err (stop_at va)
look (w ∷ ws) va = if nat_eq w.va va then Ok w else look ws va

abbrev word : ℕ → ℕ → VWord
word va value = record { va = va; pa = va; off = File (va + 0x2000); value = value }

abbrev asked : Asked
asked = record { audit = 0; start = 0xb110 }

abbrev walked : Bool → List VWord → XaCourse
walked idr ws = record { read = look ws; shape = record { head = 8; shift = 0; offset = 1; count = 2; nr_values = 3; parent = 8; array = 16; slots = 24; chunk = 16; idr = idr }; asked = asked }

abbrev ids : List VWord
ids = word 0xb118 0x10002 ∷ word 0x10000 0x1020000 ∷ word 0x10008 0 ∷ word 0x10010 0xb110 ∷ word 0x10018 0 ∷ word 0x10020 0x11000 ∷ word 0x10028 7 ∷ word 0x10030 0 ∷ word 0x10038 0 ∷ word 0x10040 0
    ∷ word 0x10048 0 ∷ word 0x10050 0 ∷ word 0x10058 0 ∷ word 0x10060 0 ∷ word 0x10068 0 ∷ word 0x10070 0 ∷ word 0x10078 0 ∷ word 0x10080 0 ∷ word 0x10088 0 ∷ word 0x10090 0 ∷ []

good_row : judged (xa_trials (walked false ids) 1) ≡ Ok ((record { index = 1; entry = 0x11000 }) ∷ [])
unfolding node_trials kind first_words byte_in xa_words filled odd has_sibling xa_rules
good_row = refl

-- a sibling of the null slot 0
abbrev sibling : List VWord
sibling = word 0x10000 0x1030000 ∷ word 0x10030 2 ∷ ids

sibling_row : judged (xa_trials (walked false sibling) 1) ≡ Err (breaks asked X8 (word 0x10030 2) None)
unfolding node_trials kind first_words byte_in xa_words filled odd has_sibling xa_rules
sibling_row = refl

-- an error entry
abbrev error : List VWord
error = word 0x10020 0xffffffffffffc006 ∷ ids

error_row : judged (xa_trials (walked false error) 1) ≡ Err (breaks asked X7 (word 0x10020 0xffffffffffffc006) None)
unfolding node_trials kind first_words byte_in xa_words filled odd has_sibling xa_rules
error_row = refl

-- the head is a pointer
abbrev single : List VWord
single = word 0xb118 0x11000 ∷ ids

single_row : judged (xa_trials (walked false single) 1) ≡ Ok ((record { index = 0; entry = 0x11000 }) ∷ [])
unfolding node_trials kind first_words byte_in xa_words filled odd has_sibling xa_rules
single_row = refl

-- a count that is too high, and the same for an IDR
abbrev counted : List VWord
counted = word 0x10000 0x1030000 ∷ ids

count_row : judged (xa_trials (walked false counted) 1) ≡ Err (breaks_in asked X5 0x10002 (word 0x10000 0x1030000) (Some 2))
unfolding node_trials kind first_words byte_in xa_words filled odd has_sibling xa_rules
count_row = refl

idr_row : judged (xa_trials (walked true counted) 1) ≡ Ok ((record { index = 1; entry = 0x11000 }) ∷ [])
unfolding node_trials kind first_words byte_in xa_words filled odd has_sibling xa_rules
idr_row = refl
