-- That the words which an output shows are true of the dump.
use Rattle.std.proofs.Common.{◌≡◌, ℕ, nat_eq, Bool, true, false, cond, List, [], ◌∷◌, Option, Some, None, option_map, IfSome, Result, Ok, Err}
use Rattle.std.specs.Prelude.{find, option_and_then}
use Rattle.std.specs.List.{AllByRecursion}
use Rattle.std.specs.Str.{bytes_eq}
use Rattle.kc_word.specs.Hex.{hex_number}
use Rattle.kc_outside.specs.declared.store.Slot.{Slot}
use Rattle.kc_outside.specs.declared.store.Slot.TheVariants.{Dump, Btf, Map, Plan, Module}
use Rattle.kc_memory.specs.declared.words.VWord.{VWord}
use Rattle.kc_memory.specs.Bits.{Number, number_places}
use Rattle.kc_memory.specs.Image.{Image}
use Rattle.kc_memory.specs.Laws.{PlacesStand}
use Rattle.kc_memory.specs.Places.{AllStandIn, places_of}
use Rattle.kc_memory.specs.Stopped.{Stopped}
use Rattle.kc_memory.specs.Translation.{vword}
use Rattle.kc_btf.specs.Btf.{Types}
use Rattle.kc_layout.specs.declared.fault.QRule.TheVariants.{Q5}
use Rattle.kc_layout.specs.Bare.{compound_under}
use Rattle.kc_layout.specs.Find as types
use Rattle.kc_layout.specs.Listing.{listing}
use Rattle.kc_gen.specs.Header as made
use Rattle.kc_gen.specs.Texts.{map, plan}
use Rattle.kc_gen.specs.Types.{btf}
use Rattle.kc_view.specs.Laws.{ValuesStand}
use Rattle.kc_plan.specs.Roots.{root_verdicts}
use Rattle.kc_plan.specs.Seen.{roots}
use Rattle.kc_plan.specs.Verdicts.{verdict}
use Rattle.kc_run.specs.Laws.{RootVerdictsStand, VerdictsStand}
use Rattle.kc_command.specs.declared.refusal.Refusal.TheVariants.{NoType, Path}
use Rattle.kc_command.specs.Inputs.{types_in}
use Rattle.kc_command.specs.Made.{◌>>=◌, Made, gives, wanted}
use Rattle.kc_command.specs.Ends.Asked.{Asked}
use Rattle.kc_command.specs.Ends.Output.{Output, Usage, Ends, output_of}
use Rattle.kc_audit.specs.Audits.{names_of}
use Rattle.kc_app.specs.Check.{Audited, audited, audited_shown, check_asks, check_made, roots_shown, verdict_shown}
use Rattle.kc_app.specs.CheckModule.{audited_with, check_form, checks_asks, module_made}
use Rattle.kc_app.specs.Commands.{command, forms}
use Rattle.kc_app.specs.Form.{Form}
use Rattle.kc_app.specs.Layout.{layout_asks, layout_made, layout_of}
use Rattle.kc_app.specs.Selftest.{count_in, selftest_asked, selftest_asks}
use Rattle.kc_app.specs.Show.{Question, number_read, number_shown, show_asks, show_made, show_sought}
use Rattle.kc_app.specs.Shown.{IsTrueOfDump, Listed, Shown}
use Rattle.kc_app.specs.Word.{numbers_asked, table_word, word_asks, word_image, word_made, word_shown}
use Rattle.kc_app.proofs.Ends.{shown_by}
use Rattle.kc_app.proofs.Rooted.{roots_shown_stand}

-- the words that the output of a command shows, if it shows some
abbrev pub ShowsTrue : Output Shown → Type 0
ShowsTrue Usage = Unit {0}
ShowsTrue (Ends (Ok shown)) = IsTrueOfDump shown
ShowsTrue (Ends (Err refusal)) = Unit {0}

-- what steps make shows such words
abbrev MadeStands : Made Shown → Type 0
MadeStands made = IfSome (option_map Ends made) ShowsTrue

bound : {A : Type 0} (m : Made A) (f : A → Made Shown) → ((a : A) → MadeStands (f a)) → MadeStands (m >>= f)
bound None f each = tt
bound (Some (Err refusal)) f each = tt
bound (Some (Ok a)) f each = each a

word_one : (image : Image) (r : Result VWord Stopped) → AllStandIn image (places_of r) → IsTrueOfDump (word_shown image r)
word_one image (Ok w) there = there
word_one image (Err s) there = there

word_stands : (most : ℕ) → PlacesStand → (table : Option ℕ) (address : ℕ) (file : Option (List ℕ)) → MadeStands (word_made most table address file)
word_stands most law table address file =
    bound (word_image most table file) (λ image. gives (word_shown image (vword image address))) (λ image. word_one image (vword image address) (law image address))

number_one : (image : Image) (r : Result Number Stopped) → AllStandIn image (number_places r) → IsTrueOfDump (number_shown image r)
number_one image (Ok n) there = there
number_one image (Err s) there = there

show_stands : (most : ℕ) → ValuesStand → (question : Question) (dump btf map : Option (List ℕ)) → MadeStands (show_made most question dump btf map)
show_stands most law question dump btf map =
    bound (show_sought most question dump btf map) (λ sought. gives (number_shown sought.image (number_read sought.image sought.target)))
    (λ sought. number_one sought.image (number_read sought.image sought.target) (law sought.image sought.target.at sought.target.number.hops sought.target.number.bits))

layout_stands : (name : List ℕ) (file : Option (List ℕ)) → MadeStands (layout_made name file)
layout_stands name file =
    bound (types_in file) (λ types. layout_of types name) (λ known.
    bound (wanted NoType (option_and_then (compound_under known) (types.find known name)))
    (λ t. wanted (Path (record { rule = Q5; step = 0 })) (listing known t.id) >>= (λ lines. gives (Listed known.strings t name lines))) (λ t.
    bound (wanted (Path (record { rule = Q5; step = 0 })) (listing known t.id)) (λ lines. gives (Listed known.strings t name lines)) (λ lines. tt)))

-- the laws of the words that are read, of numbers, and of verdicts
pub record Known : Type 0 where
  pub places : PlacesStand
  pub values : ValuesStand
  pub verdicts : VerdictsStand
  pub roots : RootVerdictsStand

audited_stands : Known → (all : Audited) (each : Bool) → IsTrueOfDump (shown_by each all)
audited_stands known all true = roots_shown_stand known.roots all.image (names_of all.audits) all.audits (roots 0 all.audits)
audited_stands known all false = known.verdicts all.image all.audits

check_stands : (most : ℕ) → Known → (dump btf map plan : Option (List ℕ)) → MadeStands (check_made most dump btf map plan)
check_stands most known dump btf map plan = bound (audited most dump btf map plan) (λ all. gives (audited_shown all)) (λ all. audited_stands known all (nat_eq all.version 2))

module_stands : (most : ℕ) → Known → (dump btf split map plan : Option (List ℕ)) → MadeStands (module_made most dump btf split map plan)
module_stands most known dump btf split map plan =
    bound (audited_with most dump btf split map plan) (λ all. gives (audited_shown all)) (λ all. audited_stands known all (nat_eq all.version 2))

-- and so does what words ask for
abbrev pub AskStands : (Slot → Option (List ℕ)) → Option (Asked Shown) → Type 0
AskStands files asked = IfSome (output_of asked files) ShowsTrue

numbers_stand : (most : ℕ) → Known → (files : Slot → Option (List ℕ)) (dump : List ℕ) (table : Option (Option ℕ)) (address : Option ℕ) → AskStands files (numbers_asked most dump table address)
numbers_stand most known files dump (Some table) (Some address) = word_stands most known.places table address (files Dump)
numbers_stand most known files dump (Some table) None = tt
numbers_stand most known files dump None address = tt

word_ask : (most : ℕ) → Known → (files : Slot → Option (List ℕ)) (words : List (List ℕ)) → AskStands files (word_asks most words)
word_ask most known files [] = tt
word_ask most known files (a ∷ []) = tt
word_ask most known files (a ∷ b ∷ []) = tt
word_ask most known files (dump ∷ table ∷ address ∷ []) = numbers_stand most known files dump (table_word table) (hex_number address)
word_ask most known files (a ∷ b ∷ c ∷ d ∷ words) = tt

layout_ask : (files : Slot → Option (List ℕ)) (words : List (List ℕ)) → AskStands files (layout_asks words)
layout_ask files [] = tt
layout_ask files (a ∷ []) = tt
layout_ask files (btf ∷ ty ∷ []) = layout_stands ty (files Btf)
layout_ask files (a ∷ b ∷ c ∷ words) = tt

show_ask : (most : ℕ) → Known → (files : Slot → Option (List ℕ)) (words : List (List ℕ)) → AskStands files (show_asks most words)
show_ask most known files [] = tt
show_ask most known files (a ∷ []) = tt
show_ask most known files (a ∷ b ∷ []) = tt
show_ask most known files (a ∷ b ∷ c ∷ []) = tt
show_ask most known files (a ∷ b ∷ c ∷ d ∷ []) = tt
show_ask most known files (a ∷ b ∷ c ∷ d ∷ e ∷ []) = tt
show_ask most known files (dump ∷ btf ∷ map ∷ symbol ∷ ty ∷ path ∷ []) =
    show_stands most known.values (record { dump = dump; btf = btf; map = map; symbol = symbol; name = ty; path = path }) (files Dump) (files Btf) (files Map)
show_ask most known files (a ∷ b ∷ c ∷ d ∷ e ∷ f ∷ g ∷ words) = tt

checks_ask : (most : ℕ) → Known → (files : Slot → Option (List ℕ)) (words : List (List ℕ)) → AskStands files (checks_asks most words)
checks_ask most known files [] = tt
checks_ask most known files (a ∷ []) = tt
checks_ask most known files (a ∷ b ∷ []) = tt
checks_ask most known files (a ∷ b ∷ c ∷ []) = tt
checks_ask most known files (dump ∷ btf ∷ map ∷ plan ∷ []) = check_stands most known (files Dump) (files Btf) (files Map) (files Plan)
checks_ask most known files (dump ∷ btf ∷ map ∷ plan ∷ split ∷ []) = module_stands most known (files Dump) (files Btf) (files Module) (files Map) (files Plan)
checks_ask most known files (a ∷ b ∷ c ∷ d ∷ e ∷ f ∷ words) = tt

count_stands : Known → (files : Slot → Option (List ℕ)) (n : Option ℕ) → AskStands files (option_map selftest_asked n)
count_stands known files None = tt
count_stands known files (Some n) = check_stands 65536 known (Some (made.dump n None)) (Some btf) (Some map) (Some plan)

selftest_ask : Known → (files : Slot → Option (List ℕ)) (words : List (List ℕ)) → AskStands files (selftest_asks words)
selftest_ask known files [] = tt
selftest_ask known files (n ∷ []) = count_stands known files (count_in n)
selftest_ask known files (a ∷ b ∷ words) = tt

-- of each command
abbrev FormStands : Form Shown → Type 0
FormStands form = (files : Slot → Option (List ℕ)) (words : List (List ℕ)) → AskStands files (form.asks words)

found_stands : (files : Slot → Option (List ℕ)) (name : List ℕ) (words : List (List ℕ)) (fs : List (Form Shown)) → AllByRecursion FormStands fs
    → AskStands files (option_and_then (λ (form : Form Shown). form.asks words) (find (λ form. bytes_eq name form.name) fs))
found_stands files name words [] all = tt
found_stands files name words (f ∷ fs) all = by_test (bytes_eq name f.name) (found_stands files name words fs all.1)
  where
    by_test : (b : Bool) → AskStands files (option_and_then (λ (form : Form Shown). form.asks words) (find (λ form. bytes_eq name form.name) fs))
        → AskStands files (option_and_then (λ (form : Form Shown). form.asks words) (cond b (Some f) (find (λ form. bytes_eq name form.name) fs)))
    by_test true later = all.0 files words
    by_test false later = later

pub commands_stand : (most : ℕ) → Known → (words : List (List ℕ)) (files : Slot → Option (List ℕ)) → AskStands files (command most words)
commands_stand most known [] files = tt
commands_stand most known (name ∷ words) files =
    found_stands files name words (forms most) (word_ask most known, (layout_ask, (show_ask most known, (checks_ask most known, (selftest_ask known, tt)))))
