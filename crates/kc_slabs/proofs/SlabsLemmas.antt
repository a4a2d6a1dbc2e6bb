-- What is printed, by what is made of the files.
use Rattle.std.proofs.Common.{◌≡◌, ℕ, Bool, List, [], ◌++◌, append_assoc, OnOk, Option, Some, None, option_map, sym, ap, ◌∙◌, subst}
use Rattle.std.specs.Prelude.{if◌then◌else◌, IfOk, IfSome, Result, Ok, Err}
use Rattle.std.specs.Global.{Vec}
use Rattle.kc_word.specs.declared.plain.Segment.{Segment}
use Rattle.kc_outside.specs.declared.store.Slot.TheVariants as slot
use Rattle.kc_outside.specs.Files.{Files, named}
use Rattle.kc_btf.specs.Btf.{Types}
use Rattle.kc_notes.specs.declared.info.Info.{Info}
use Rattle.kc_notes.specs.Notes.{text_in}
use Rattle.kc_syms.specs.Rows.{RowText, addresses}
use Rattle.kc_memory.specs.Image.{Image}
use Rattle.kc_found.specs.declared.failed.ReadFailed.{ReadFailed}
use Rattle.kc_found.specs.Violations.{Violation}
use Rattle.kc_command.specs.Halts.{NotRefused}
use Rattle.kc_command.specs.declared.halt.Halt.{Halt}
use Rattle.kc_command.specs.declared.halt.Halt.TheVariants.{Refused, Store, Memory}
use Rattle.kc_command.specs.declared.kernel.Noted.{Noted}
use Rattle.kc_command.specs.declared.refusal.Refusal.TheVariants.{Notes}
use Rattle.kc_command.specs.Inputs.{map_in, rows_in, types_in, view_headers}
use Rattle.kc_command.specs.Kernels.{NotedAt, noted_in, noted_view}
use Rattle.kc_command.specs.Made.{◌>>=◌, Halts, IsOf, Made, checked, gives}
use Rattle.kc_command.specs.declared.ends.answer.Answer.{Answer}
use Rattle.kc_command.specs.declared.ends.status.Status.TheVariants.{Done, Broken}
use Rattle.kc_command.specs.Ends.Answers.{Prints, PrintsOf, PrintsOfBytes, written_by}
use Rattle.kc_command.specs.Ends.Output.{ended}
use Rattle.kc_command.specs.Ends.Written.{Written}
use Rattle.kc_slabs.specs.declared.looking.SlabShapes.{SlabShapes}
use Rattle.kc_slabs.specs.declared.looking.SlabsSeen.{SlabsSeen}
use Rattle.kc_slabs.specs.Looking.{Seen, seen_in, told_view}
use Rattle.kc_slabs.specs.Text.{are_sound, told_text}
use Rattle.kc_slabs.specs.Slabs.{kernel_by, kernel_with, seen_by, seen_made, shape_made, slabs_made, slabs_written}

-- the rows of a map that was read are those that its symbols list
by_rows : (cache : Option (List ℕ)) (bytes : List ℕ) (segments : List Segment) (told : Info) (note : List ℕ) (types : Types) (map : List ℕ) (symbols : List ℕ → List ℕ) (rows : List RowText)
    → rows_in map ≡ Some (Ok rows) → ((name : List ℕ) → symbols name ≡ addresses name rows)
    → seen_made cache bytes segments told note types map ≡ (shape_made (kernel_with types symbols told) note >>= (λ shape. gives (seen_by cache bytes segments told shape)))
by_rows cache bytes segments told note types map symbols rows read same =
    let one : symbols ≡ (λ name. addresses name rows) = λ i name. same name i in
    ap (λ (r : Made (List RowText)). r >>= (λ rows. shape_made (kernel_by types rows told) note >>= (λ shape. gives (seen_by cache bytes segments told shape)))) read
    ∙ sym (ap (λ (s : List ℕ → List ℕ). shape_made (kernel_with types s told) note >>= (λ shape. gives (seen_by cache bytes segments told shape))) one)

-- what was seen is printed
pub prints_seen : (content : Option (List ℕ)) (cache : Option (List ℕ)) (segments : List Segment) (told : Info) (note : List ℕ) (types : Types) (map : List ℕ) (symbols : List ℕ → List ℕ) (rows : List RowText)
    (shape : SlabShapes) (seen : Result Seen Violation) (answer : Answer)
    → rows_in map ≡ Some (Ok rows) → ((name : List ℕ) → symbols name ≡ addresses name rows) → shape_made (kernel_with types symbols told) note ≡ Some (Ok shape)
    → IfSome content (λ bytes. seen ≡ seen_by cache bytes segments told shape) → written_by answer ≡ slabs_written seen
    → PrintsOfBytes slabs_written (λ bytes. seen_made cache bytes segments told note types map) content (Ok answer)
prints_seen None cache segments told note types map symbols rows shape seen answer read same made is written = tt
prints_seen (Some bytes) cache segments told note types map symbols rows shape seen answer read same made is written =
    ap (λ (m : Made (Result Seen Violation)). option_map (ended slabs_written) m)
    (by_rows cache bytes segments told note types map symbols rows read same
    ∙ ap (λ (m : Made SlabShapes). m >>= (λ shape. gives (seen_by cache bytes segments told shape))) made)
    ∙ ap (λ (s : Result Seen Violation). Some (slabs_written s)) (sym is) ∙ ap (λ (w : Written). Some w) (sym written)

-- and a refusal of the types is told
halts_by : (m : Made SlabShapes) (halt : Halt) (next : SlabShapes → Made (Result Seen Violation)) → Halts m halt → Halts (m >>= next) halt
halts_by m (Refused refusal) next is = ap (λ (k : Made SlabShapes). k >>= next) is
halts_by m Store next is = tt
halts_by m Memory next is = tt

pub prints_halt : (content : Option (List ℕ)) (cache : Option (List ℕ)) (segments : List Segment) (told : Info) (note : List ℕ) (types : Types) (map : List ℕ) (symbols : List ℕ → List ℕ) (rows : List RowText) (halt : Halt)
    → rows_in map ≡ Some (Ok rows) → ((name : List ℕ) → symbols name ≡ addresses name rows) → Halts (shape_made (kernel_with types symbols told) note) halt
    → PrintsOfBytes slabs_written (λ bytes. seen_made cache bytes segments told note types map) content (Err halt)
prints_halt None cache segments told note types map symbols rows halt read same halts = tt
prints_halt (Some bytes) cache segments told note types map symbols rows halt read same halts =
    subst (λ (m : Made (Result Seen Violation)). Halts m halt) (sym (by_rows cache bytes segments told note types map symbols rows read same))
    (halts_by (shape_made (kernel_with types symbols told) note) halt (λ shape. gives (seen_by cache bytes segments told shape)) halts)

-- a failure of the store or want of memory says nothing of the files
unrefused : (made : Made (Result Seen Violation)) (halt : Halt) → NotRefused {A = Result SlabsSeen Violation} (Err halt) → Halts made halt
unrefused made (Refused refusal) is = absurd is
unrefused made Store is = tt
unrefused made Memory is = tt

pub prints_unrefused : (content : Option (List ℕ)) (made : List ℕ → Made (Result Seen Violation)) (halt : Halt) → NotRefused {A = Result SlabsSeen Violation} (Err halt)
    → PrintsOfBytes slabs_written made content (Err halt)
prints_unrefused None made halt is = tt
prints_unrefused (Some bytes) made halt is = unrefused (made bytes) halt is

pub none_left : (content : Option (List ℕ)) (made : List ℕ → Made (Result Seen Violation)) (r : Result Answer Halt) → r ≡ Err Memory → PrintsOfBytes slabs_written made content r
none_left content made r is = subst (λ (r : Result Answer Halt). PrintsOfBytes slabs_written made content r) (sym is) (prints_unrefused content made Memory tt)

-- three numbers with their names, one after the other
pub three_counted : {A E : Type 0} (r : Result A E) (old a b c d e f one two new : List ℕ) → one ≡ old ++ (a ++ b) → two ≡ one ++ (c ++ d) → OnOk r (new ≡ two ++ (e ++ f))
    → OnOk r (new ≡ old ++ (a ++ b ++ c ++ d ++ e ++ f))
three_counted (Ok x) old a b c d e f one two new begins goes ends =
    ends ∙ ap (λ (l : List ℕ). l ++ (e ++ f)) (goes ∙ ap (λ (l : List ℕ). l ++ (c ++ d)) begins) ∙ simp append_assoc
three_counted (Err x) old a b c d e f one two new begins goes ends = tt

-- and what comes after two of them
pub two_counted : {A E : Type 0} (r : Result A E) (old a b c d f one two new : List ℕ) → one ≡ old ++ (a ++ b) → two ≡ one ++ (c ++ d) → OnOk r (new ≡ two ++ f)
    → OnOk r (new ≡ old ++ (a ++ b ++ c ++ d ++ f))
two_counted (Ok x) old a b c d f one two new begins goes ends =
    ends ∙ ap (λ (l : List ℕ). l ++ f) (goes ∙ ap (λ (l : List ℕ). l ++ (c ++ d)) begins) ∙ simp append_assoc
two_counted (Err x) old a b c d f one two new begins goes ends = tt

-- what is answered is what is written of what was seen
pub answered : (seen : Result Seen Violation) (text : List ℕ) (sound : Bool) → text ≡ told_text seen → sound ≡ are_sound seen
    → ◌≡◌ {A = Written} (record { out = text; err = []; status = if sound then Done else Broken }) (slabs_written seen)
answered seen text sound told is =
    ap (λ (t : List ℕ). record { out = t; err = []; status = if sound then Done else Broken }) told
    ∙ ap (λ (b : Bool). record { out = told_text seen; err = []; status = if b then Done else Broken }) is

-- what is answered is seen of the memory of the dump
pub told_of : (content : Option (List ℕ)) (image : List ℕ → Image) (shapes : SlabShapes) (cache : Option (List ℕ)) (runs all : List ℕ) (r : Result (Result SlabsSeen Violation) ReadFailed)
    → runs ≡ all → IfSome content (λ bytes. IfOk r (λ told. seen_in (image bytes) shapes cache runs ≡ told_view told))
    → IfOk r (λ told. IfSome content (λ bytes. told_view told ≡ seen_in (image bytes) shapes cache all))
told_of None image shapes cache runs all (Ok told) same says = tt
told_of None image shapes cache runs all (Err stop) same says = tt
told_of (Some bytes) image shapes cache runs all (Ok told) same says = sym says ∙ ap (λ (ns : List ℕ). seen_in (image bytes) shapes cache ns) same
told_of (Some bytes) image shapes cache runs all (Err stop) same says = tt

-- what is printed of files that were read is made of them
made_of : (cache dump btf map : Option (List ℕ)) (noted : NotedAt) (note : List ℕ) (types : Types) (listed : List ℕ) (r : Result Answer Halt)
    → noted_in view_headers dump ≡ Some (Ok noted) → checked Notes (text_in noted.parts.notes) ≡ Some (Ok note) → types_in btf ≡ Some (Ok types) → map_in map ≡ Some (Ok listed)
    → PrintsOfBytes slabs_written (λ bytes. seen_made cache bytes noted.parts.segments noted.told note types listed) dump r → Prints slabs_written (slabs_made cache dump btf map) r
made_of cache None btf map noted note types listed r is told typed mapped prints = absurd (let none : ⊥ = cc in none)
made_of cache (Some bytes) btf map noted note types listed r is told typed mapped prints = rw (is, told, typed, mapped) prints

pub prints_made : (cache : Option (List ℕ)) (files : Option Files) (dump btf map : List ℕ) (noted : Noted) (note : List ℕ) (types : Types) (listed : Vec ℕ) (content : Option (List ℕ)) (r : Result Answer Halt)
    → IsOf noted_view (λ told. noted_in view_headers (told slot.Dump dump)) files (Ok noted) → checked Notes (text_in noted.core.notes) ≡ Some (Ok note)
    → IsOf {X = Types} (λ x. x) (λ told. types_in (told slot.Btf btf)) files (Ok types)
    → IsOf {X = Vec ℕ} (λ m. m.items) (λ told. map_in (told slot.Map map)) files (Ok listed) → content ≡ named files slot.Dump dump
    → PrintsOfBytes slabs_written (λ bytes. seen_made cache bytes noted.core.segments noted.info note types listed.items) content r
    → PrintsOf slabs_written (λ told. slabs_made cache (told slot.Dump dump) (told slot.Btf btf) (told slot.Map map)) files r
prints_made cache None dump btf map noted note types listed content r is told typed mapped same prints = tt
prints_made cache (Some files) dump btf map noted note types listed content r is told typed mapped same prints =
    made_of cache (files slot.Dump dump) (files slot.Btf btf) (files slot.Map map) (noted_view noted) note types listed.items r is told typed mapped
    (subst (λ (c : Option (List ℕ)). PrintsOfBytes slabs_written (λ bytes. seen_made cache bytes noted.core.segments noted.info note types listed.items) c r) same prints)

-- a text that is put after another one
pub text_after : {A E : Type 0} (r : Result A E) (old first mid rest new : List ℕ) → mid ≡ old ++ first → OnOk r (new ≡ mid ++ rest) → OnOk r (new ≡ old ++ (first ++ rest))
text_after (Err e) old first mid rest new one two = tt
text_after (Ok a) old first mid rest new one two = two ∙ ap (λ (l : List ℕ). l ++ rest) one ∙ append_assoc old first rest

-- four texts, one after the other
pub four_texts : (old a b c d one two three four : List ℕ) → one ≡ old ++ a → two ≡ one ++ b → three ≡ two ++ c → four ≡ three ++ d → four ≡ old ++ (a ++ b ++ c ++ d)
four_texts old a b c d one two three four first second third fourth =
    let both : two ≡ old ++ (a ++ b) = second ∙ ap (λ (l : List ℕ). l ++ b) first ∙ append_assoc old a b in
    let more : three ≡ old ++ (a ++ b ++ c) = third ∙ ap (λ (l : List ℕ). l ++ c) both ∙ append_assoc old (a ++ b) c in
    fourth ∙ ap (λ (l : List ℕ). l ++ d) more ∙ append_assoc old (a ++ b ++ c) d

-- four texts, of which the first is one of a list and the last one of a number, and the last of them by a call that may fail
pub seen_after : {A E B : Type 0} (r : Result A E) (old : List ℕ) (a : List B → List ℕ) (xs ys : List B) (b c : List ℕ) (d : ℕ → List ℕ) (n m : ℕ) (one two three new : List ℕ)
    → xs ≡ ys → n ≡ m → one ≡ old ++ a xs → two ≡ one ++ b → three ≡ two ++ c → OnOk r (new ≡ three ++ d n) → OnOk r (new ≡ old ++ (a ys ++ b ++ c ++ d m))
seen_after (Err e) old a xs ys b c d n m one two three new same count first second third fourth = tt
seen_after (Ok x) old a xs ys b c d n m one two three new same count first second third fourth =
    four_texts old (a ys) b c (d m) one two three new (first ∙ ap (λ zs. old ++ a zs) same) second third (fourth ∙ ap (λ k. three ++ d k) count)
