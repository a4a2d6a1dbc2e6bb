-- The lines of the log, piece by piece.
use Rattle.std.proofs.Common.{◌≡◌, ℕ, ◌/◌, ◌%◌, Bool, true, false, List, [], ◌∷◌, ◌++◌, length, codes, Ok, Err, sym, ap, ◌∙◌, append_assoc, eq-eqb}
use Rattle.std.specs.Prelude.{OnOk, Result, decimal, replicate, if◌then◌else◌, nat_eq}
use Rattle.std.proofs.lemmas.Bool.{ne_eqb}
use Rattle.kc_text.specs.Text.{hex}
use Rattle.kc_printk.specs.declared.record.LogRule.{LogRule}
use Rattle.kc_printk.specs.Records.{code_of}
use Rattle.kc_printk.specs.Texts.{escaped, is_plain, padded, prefix, record_line, shown_byte, shown_text, unknown_line}

pub on_ok : {A E P Q : Type 0} (r : Result A E) → (P → Q) → OnOk r P → OnOk r Q
on_ok (Ok a) go p = go p
on_ok (Err e) go p = tt

-- a byte by its three cases
pub byte_newline : (indent byte : ℕ) (old mid new : List ℕ) → byte ≡ 10 → mid ≡ old ++ codes "\n" → new ≡ mid ++ replicate indent 32 → new ≡ old ++ shown_byte indent byte
unfolding shown_byte
byte_newline indent byte old mid new is one two =
    let test : nat_eq byte 10 ≡ true = eq-eqb byte 10 is in
    two ∙ ap (λ (l : List ℕ). l ++ replicate indent 32) one ∙ append_assoc old (codes "\n") (replicate indent 32)
    ∙ ap (λ (b : Bool). old ++ (if b then codes "\n" ++ replicate indent 32 else (if is_plain byte then byte ∷ [] else escaped byte))) (sym test)

pub byte_plain : (indent byte : ℕ) (old new : List ℕ) → (byte ≡ 10 → ⊥) → is_plain byte ≡ true → new ≡ old ++ byte ∷ [] → new ≡ old ++ shown_byte indent byte
unfolding shown_byte
byte_plain indent byte old new ne plain one =
    let test : nat_eq byte 10 ≡ false = ne_eqb byte 10 ne in
    one ∙ ap (λ (b : Bool). old ++ (if b then byte ∷ [] else escaped byte)) (sym plain)
    ∙ ap (λ (b : Bool). old ++ (if b then codes "\n" ++ replicate indent 32 else (if is_plain byte then byte ∷ [] else escaped byte))) (sym test)

pub byte_escaped : (indent byte : ℕ) (old new : List ℕ) → (byte ≡ 10 → ⊥) → is_plain byte ≡ false → new ≡ old ++ escaped byte → new ≡ old ++ shown_byte indent byte
unfolding shown_byte
byte_escaped indent byte old new ne plain one =
    let test : nat_eq byte 10 ≡ false = ne_eqb byte 10 ne in
    one ∙ ap (λ (b : Bool). old ++ (if b then byte ∷ [] else escaped byte)) (sym plain)
    ∙ ap (λ (b : Bool). old ++ (if b then codes "\n" ++ replicate indent 32 else (if is_plain byte then byte ∷ [] else escaped byte))) (sym test)

-- pieces that are added one after the other
two_pieces : (o a b : List ℕ) → (o ++ a) ++ b ≡ o ++ (a ++ b)
two_pieces o a b = append_assoc o a b

three_pieces : (o a b c : List ℕ) → ((o ++ a) ++ b) ++ c ≡ o ++ ((a ++ b) ++ c)
three_pieces o a b c = ap (λ (l : List ℕ). l ++ c) (two_pieces o a b) ∙ append_assoc o (a ++ b) c

five_pieces : (o a b c d e : List ℕ) → ((((o ++ a) ++ b) ++ c) ++ d) ++ e ≡ o ++ ((((a ++ b) ++ c) ++ d) ++ e)
five_pieces o a b c d e =
    let three : List ℕ = (a ++ b) ++ c in
    ap (λ (l : List ℕ). (l ++ d) ++ e) (three_pieces o a b c) ∙ ap (λ (l : List ℕ). l ++ e) (append_assoc o three d) ∙ append_assoc o (three ++ d) e

pub prefix_made : (time : ℕ) (old one two three four new : List ℕ) → one ≡ old ++ codes "[" → two ≡ one ++ padded 5 32 (time / 1000000000) → three ≡ two ++ codes "."
    → four ≡ three ++ padded 6 48 (time % 1000000000 / 1000) → new ≡ four ++ codes "] " → new ≡ old ++ prefix time
unfolding prefix
prefix_made time old one two three four new a b c d e =
    let seconds : List ℕ = padded 5 32 (time / 1000000000) in
    let micros : List ℕ = padded 6 48 (time % 1000000000 / 1000) in
    e ∙ ap (λ (l : List ℕ). l ++ codes "] ") (d ∙ ap (λ (l : List ℕ). l ++ micros) (c ∙ ap (λ (l : List ℕ). l ++ codes ".") (b ∙ ap (λ (l : List ℕ). l ++ seconds) a)))
    ∙ five_pieces old (codes "[") seconds (codes ".") micros (codes "] ")

pub record_made : (time indent : ℕ) (bytes old one two new : List ℕ) → one ≡ old ++ prefix time → two ≡ one ++ shown_text indent bytes → indent ≡ length (prefix time)
    → new ≡ two ++ codes "\n" → new ≡ old ++ record_line time bytes
unfolding record_line
record_made time indent bytes old one two new a b is c =
    let text : ℕ → List ℕ = λ n. shown_text n bytes in
    c ∙ ap (λ (l : List ℕ). l ++ codes "\n") (b ∙ ap (λ (l : List ℕ). l ++ text indent) a ∙ ap (λ n. (old ++ prefix time) ++ text n) is)
    ∙ three_pieces old (prefix time) (text (length (prefix time))) (codes "\n")

pub unknown_made : (index at : ℕ) (rule : LogRule) (code old one two three four five new : List ℕ) → one ≡ old ++ (codes "record " ++ decimal index) → two ≡ one ++ codes " unknown " → code ≡ code_of rule → three ≡ two ++ code
    → four ≡ three ++ codes " " → five ≡ four ++ hex at → new ≡ five ++ codes "\n" → new ≡ old ++ unknown_line index rule at
unfolding unknown_line
unknown_made index at rule code old one two three four five new a b is c d e f =
    let first : List ℕ = codes "record " ++ decimal index in
    let kind : List ℕ = code_of rule in
    f ∙ ap (λ (l : List ℕ). l ++ codes "\n") (e ∙ ap (λ (l : List ℕ). l ++ hex at) (d ∙ ap (λ (l : List ℕ). l ++ codes " ") (c ∙ ap (λ (l : List ℕ). two ++ l) is ∙ ap (λ (l : List ℕ). l ++ kind) (b ∙ ap (λ (l : List ℕ). l ++ codes " unknown ") a ∙ two_pieces old first (codes " unknown ")))))
    ∙ five_pieces old (first ++ codes " unknown ") kind (codes " ") (hex at) (codes "\n")
