-- The words of a node are the same, whatever a miss is told as.
use Rattle.std.proofs.Common.{◌≡◌, ℕ, zero, suc, ◌*◌, List, [], ◌∷◌, ◌++◌, refl, sym, ◌∙◌, ap}
use Rattle.std.specs.Prelude.{Result, Ok, Err}
use Rattle.kc_found.specs.Nodes.{at_offset}
use Rattle.kc_found.specs.Trials.{Reader, and_then}
use Rattle.kc_found.specs.Violations.{Violation}
use Rattle.kc_found.specs.XaLayouts.{XaLayout}
use Rattle.kc_found.specs.XaNodes.{found_by, first_words, word_of, xa_words}
use Rattle.kc_found.specs.declared.xarrays.XaWords.{XaWords}
use Rattle.kc_memory.specs.Stopped.{Stopped}
use Rattle.kc_memory.specs.declared.words.VWord.{VWord}

told_then : {A B : Type 0} (stop : Stopped → Violation) (r : Result A Stopped) (f : A → Result B Stopped) (h : A → Result B Violation) → ((x : A) → h x ≡ found_by stop (f x)) → and_then (found_by stop r) h ≡ found_by stop (and_then r f)
told_then stop (Ok x) f h e = e x
told_then stop (Err m) f h e = refl

first_told : (stop : Stopped → Violation) (read : Reader) (at n : ℕ) → first_words (λ va. found_by stop (read va)) at n ≡ found_by stop (first_words read at n)
unfolding first_words
first_told stop read at zero = refl
first_told stop read at (suc n) =
    ap (λ (r : Result (List VWord) Violation). and_then r (λ ws. and_then (found_by stop (read (at_offset at (8 * n)))) (λ w. Ok (ws ++ w ∷ [])))) (first_told stop read at n)
    ∙ told_then stop (first_words read at n) (λ ws. and_then (read (at_offset at (8 * n))) (λ w. Ok (ws ++ w ∷ []))) (λ ws. and_then (found_by stop (read (at_offset at (8 * n)))) (λ w. Ok (ws ++ w ∷ [])))
    (λ ws. told_then stop (read (at_offset at (8 * n))) (λ w. Ok (ws ++ w ∷ [])) (λ w. Ok (ws ++ w ∷ [])) (λ w. refl))

pub node_told : (stop : Stopped → Violation) (read : Reader) (shape : XaLayout) (node : ℕ) → xa_words (λ va. found_by stop (read va)) shape node ≡ found_by stop (xa_words read shape node)
unfolding xa_words
node_told stop read shape node =
    told_then stop (read (at_offset node shape.parent)) _ _ (λ parent. told_then stop (read (at_offset node shape.array)) _ _ (λ array.
    ap (λ (r : Result (List VWord) Violation). and_then r (λ slots. and_then (found_by stop (read (word_of (at_offset node shape.shift)))) (λ shift. and_then (found_by stop (read (word_of (at_offset node shape.offset)))) (λ offset. and_then (found_by stop (read (word_of (at_offset node shape.count)))) (λ count. and_then (found_by stop (read (word_of (at_offset node shape.nr_values)))) (λ values.
    Ok (record { parent = parent; array = array; slots = slots; shift = shift; offset = offset; count = count; values = values }))))))) (first_told stop read (at_offset node shape.slots) shape.chunk)
    ∙ told_then stop (first_words read (at_offset node shape.slots) shape.chunk) _ _ (λ slots. told_then stop (read (word_of (at_offset node shape.shift))) _ _ (λ shift. told_then stop (read (word_of (at_offset node shape.offset))) _ _ (λ offset.
    told_then stop (read (word_of (at_offset node shape.count))) _ _ (λ count. told_then stop (read (word_of (at_offset node shape.nr_values))) _ _ (λ values. refl)))))))

pub ok_told : {A : Type 0} (stop : Stopped → Violation) (r : Result A Stopped) (x : A) → found_by stop r ≡ Ok x → r ≡ Ok x
ok_told stop (Ok y) x e = let same : y ≡ x = cc in ap Ok same
ok_told stop (Err m) x e = absurd (cc)

pub words_plain : (stop : Stopped → Violation) (read : Reader) (shape : XaLayout) (node : ℕ) (n : XaWords) → xa_words (λ va. found_by stop (read va)) shape node ≡ Ok n → xa_words read shape node ≡ Ok n
words_plain stop read shape node n e = ok_told stop (xa_words read shape node) n (sym (node_told stop read shape node) ∙ e)

pub words_told : (stop : Stopped → Violation) (read : Reader) (shape : XaLayout) (node : ℕ) (n : XaWords) → xa_words read shape node ≡ Ok n → xa_words (λ va. found_by stop (read va)) shape node ≡ Ok n
words_told stop read shape node n e = node_told stop read shape node ∙ ap (λ (r : Result XaWords Stopped). found_by stop r) e
