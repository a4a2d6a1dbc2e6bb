-- Texts that are added one after the other.
use Rattle.std.proofs.Common.{◌≡◌, ℕ, List, ◌++◌, Result, Ok, Err, OnOk, ap, ◌∙◌, append_assoc}

pub added_on : {A E : Type 0} (r : Result A E) (old first rest mid new : List ℕ) → mid ≡ old ++ first → OnOk r (new ≡ mid ++ rest) → OnOk r (new ≡ old ++ (first ++ rest))
added_on (Ok a) old first rest mid new one then_all = then_all ∙ ap (λ (l : List ℕ). l ++ rest) one ∙ append_assoc old first rest
added_on (Err e) old first rest mid new one then_all = tt

pub two_added : {A E : Type 0} (r : Result A E) (old first second rest one two new : List ℕ) → one ≡ old ++ first → two ≡ one ++ second → OnOk r (new ≡ two ++ rest) → OnOk r (new ≡ old ++ ((first ++ second) ++ rest))
two_added r old first second rest one two new begins goes then_all =
    added_on r old (first ++ second) rest two new (goes ∙ ap (λ (l : List ℕ). l ++ second) begins ∙ append_assoc old first second) then_all

pub three_added : {A E : Type 0} (r : Result A E) (old first second third rest one two three new : List ℕ) → one ≡ old ++ first → two ≡ one ++ second → three ≡ two ++ third → OnOk r (new ≡ three ++ rest)
    → OnOk r (new ≡ old ++ (first ++ second ++ third ++ rest))
three_added r old first second third rest one two three new begins goes on then_all =
    two_added r old (first ++ second) third rest two three new (goes ∙ ap (λ (l : List ℕ). l ++ second) begins ∙ append_assoc old first second) on then_all
