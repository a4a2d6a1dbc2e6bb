-- The text at an address, byte by byte.
use Rattle.std.proofs.Common.{◌≡◌, ◌≢◌, ℕ, zero, suc, nat_eq, ◌-◌, Bool, true, false, if◌then◌else◌, List, [], ◌∷◌, ◌++◌, Option, Some, None, Result, Ok, Err, arith, refl, sym, ap, ◌∙◌, append_assoc}
use Rattle.std.specs.Prelude.{IfSome, OnOk}
use Rattle.std.proofs.lemmas.List.{append-nil}
use Rattle.kc_memory.specs.Image.{Image}
use Rattle.kc_found.specs.Nodes.{at_offset}
use Rattle.kc_found.specs.Walks.{WalksAs}
use Rattle.kc_owner.specs.Texts.{byte_at, text, text_from}

abbrev pub Adds : List ℕ → List ℕ → ℕ → ℕ → Option Image → Type 0
Adds old new left at image = IfSome image (λ i. new ≡ old ++ text i left at)

abbrev pub Reads : ℕ → Option Image → Option ℕ → Type 0
Reads at image found = WalksAs {A = Option ℕ} (λ n. n) (λ i. Ok (byte_at i at)) image (Ok found)

byte_is : (image : Image) (at : ℕ) (found : Option ℕ) → Reads at (Some image) found → byte_at image at ≡ found
byte_is image at found reads = cc

-- no byte is left
pub text_full : (image : Option Image) (left at : ℕ) (old : List ℕ) → left ≡ 0 → Adds old old left at image
unfolding text
text_full None left at old full = tt
text_full (Some i) zero at old full = sym (append-nil old)
text_full (Some i) (suc left) at old full = absurd (omega arith)

-- a byte can't be read, or is a NUL
pub text_ends : (image : Option Image) (left at : ℕ) (old : List ℕ) → left ≢ 0 → Reads at image None → Adds old old left at image
unfolding text
text_ends None left at old some reads = tt
text_ends (Some i) zero at old some reads = absurd (some refl)
text_ends (Some i) (suc left) at old some reads =
    sym (append-nil old) ∙ ap (λ (b : Option ℕ). old ++ text_from b (text i left (at_offset at 1))) (sym (byte_is i at None reads))

pub text_nul : (image : Option Image) (left at byte : ℕ) (old : List ℕ) → left ≢ 0 → Reads at image (Some byte) → nat_eq byte 0 ≡ true → Adds old old left at image
unfolding text
text_nul None left at byte old some reads unseen = tt
text_nul (Some i) zero at byte old some reads unseen = absurd (some refl)
text_nul (Some i) (suc left) at byte old some reads unseen =
    sym (append-nil old) ∙ ap (λ (b : Bool). old ++ (if b then [] else byte ∷ text i left (at_offset at 1))) (sym unseen)
    ∙ ap (λ (b : Option ℕ). old ++ text_from b (text i left (at_offset at 1))) (sym (byte_is i at (Some byte) reads))

-- one byte, and those after it
pub text_goes : (image : Option Image) (left at byte : ℕ) (old mid new : List ℕ) → left ≢ 0 → Reads at image (Some byte) → nat_eq byte 0 ≡ false → mid ≡ old ++ byte ∷ []
    → Adds mid new (left - 1) (at_offset at 1) image → Adds old new left at image
unfolding text
text_goes None left at byte old mid new some reads is added rest = tt
text_goes (Some i) zero at byte old mid new some reads is added rest = absurd (some refl)
text_goes (Some i) (suc left) at byte old mid new some reads is added rest =
    let same : suc left - 1 ≡ left = omega arith in
    rest ∙ ap (λ (m : List ℕ). m ++ text i (suc left - 1) (at_offset at 1)) added ∙ append_assoc old (byte ∷ []) (text i (suc left - 1) (at_offset at 1))
    ∙ ap (λ (k : ℕ). old ++ byte ∷ text i k (at_offset at 1)) same
    ∙ ap (λ (b : Bool). old ++ (if b then [] else byte ∷ text i left (at_offset at 1))) (sym is)
    ∙ ap (λ (b : Option ℕ). old ++ text_from b (text i left (at_offset at 1))) (sym (byte_is i at (Some byte) reads))

pub on_ok : {A E P Q : Type 0} (r : Result A E) → (P → Q) → OnOk r P → OnOk r Q
on_ok (Ok a) go p = go p
on_ok (Err e) go p = tt
