-- How a reading of a list goes on.
use Rattle.std.proofs.Common.{◌≡◌, List, [], ◌∷◌, ◌++◌, Option, Some, None, Result, Ok, Err, refl, sym, ap, ◌∙◌, append_assoc}
use Rattle.std.proofs.lemmas.List.{append-nil}
use Rattle.kc_kallsyms.specs.declared.stop.TableStop.{TableStop}
use Rattle.kc_kallsyms.specs.declared.stop.TableStop.TheVariants.{Miss, Fault, Table, NoMemory}
use Rattle.kc_kallsyms.specs.Going.{CameAs, GoesAs}
use Rattle.kc_kallsyms.specs.Reading.{◌>>=◌, Bad, Missed, ReadsAs, Why}

again : {X : Type 0} (r : Result (List X) Why) → r >>= (λ xs. Ok ([] ++ xs)) ≡ r
again (Ok xs) = refl
again (Err e) = refl

-- nothing was read
pub goes_first : {I X : Type 0} (Holds : List X → Type 0) (whole rest : I → Result (List X) Why) (o : Option I) → ((i : I) → rest i ≡ whole i) → Holds [] → GoesAs Holds whole rest o
goes_first Holds whole rest None same holds = tt
goes_first Holds whole rest (Some image) same holds = record { done = []; holds = holds; same = again (rest image) ∙ same image }

joined : {X : Type 0} (done : List X) (x : X) (next : Result (List X) Why)
    → next >>= (λ xs. Ok ((done ++ x ∷ []) ++ xs)) ≡ (next >>= (λ xs. Ok (x ∷ xs))) >>= (λ xs. Ok (done ++ xs))
joined {X} done x (Ok xs) = ap (λ (l : List X). Ok l) (append_assoc done (x ∷ []) xs)
joined done x (Err e) = refl

-- one more was read
pub goes_more : {I X Y Z : Type 0} (P Q : List X → Type 0) (whole rest next : I → Result (List X) Why) (x : X) (one : I → Result Y Why) (view : Z → Y) (z : Z) (o : Option I)
    → GoesAs P whole rest o → ReadsAs view one o (Ok z)
    → ((i : I) → one i ≡ Ok (view z) → rest i ≡ next i >>= (λ xs. Ok (x ∷ xs)))
    → ((done : List X) → P done → Q (done ++ x ∷ []))
    → GoesAs Q whole next o
goes_more P Q whole rest next x one view z None goes read step more = tt
goes_more {X = X} P Q whole rest next x one view z (Some image) goes read step more = record {
  done = goes.done ++ x ∷ [];
  holds = more goes.done goes.holds;
  same = joined goes.done x (next image) ∙ ap (λ (r : Result (List X) Why). r >>= (λ xs. Ok (goes.done ++ xs))) (sym (step image read)) ∙ goes.same;
}

ended : {X : Type 0} (done : List X) (whole rest : Result (List X) Why) (e : Why) → rest >>= (λ xs. Ok (done ++ xs)) ≡ whole → rest ≡ Err e → whole ≡ Err e
ended {X} done whole rest e same stops = sym same ∙ ap (λ (r : Result (List X) Why). r >>= (λ xs. Ok (done ++ xs))) stops

-- the next can't be read
pub goes_stops : {I X Y Z A W : Type 0} (P : List X → Type 0) (whole rest : I → Result (List X) Why) (one : I → Result Y Why) (truth : I → Result A Why) (view : Z → Y) (seen : W → A) (o : Option I) (stop : TableStop)
    → GoesAs P whole rest o → ReadsAs view one o (Err stop)
    → ((i : I) (e : Why) → one i ≡ Err e → rest i ≡ Err e)
    → ((i : I) (e : Why) → whole i ≡ Err e → truth i ≡ Err e)
    → ReadsAs seen truth o (Err stop)
goes_stops P whole rest one truth view seen None stop goes read step on = tt
goes_stops P whole rest one truth view seen (Some image) (Miss s) goes read step on =
    on image (Missed s) (ended goes.done (whole image) (rest image) (Missed s) goes.same (step image (Missed s) read))
goes_stops P whole rest one truth view seen (Some image) Fault goes read step on = tt
goes_stops P whole rest one truth view seen (Some image) (Table f) goes read step on =
    on image (Bad f) (ended goes.done (whole image) (rest image) (Bad f) goes.same (step image (Bad f) read))
goes_stops P whole rest one truth view seen (Some image) NoMemory goes read step on = tt

-- nothing is left
pub goes_ends : {I X : Type 0} (P : List X → Type 0) (whole rest : I → Result (List X) Why) (o : Option I)
    → GoesAs P whole rest o → ((i : I) → rest i ≡ Ok []) → CameAs P whole o
goes_ends P whole rest None goes none = tt
goes_ends {X = X} P whole rest (Some image) goes none = record {
  all = goes.done;
  holds = goes.holds;
  is = sym goes.same ∙ ap (λ (r : Result (List X) Why). r >>= (λ xs. Ok (goes.done ++ xs))) (none image) ∙ ap (λ (l : List X). Ok l) (append-nil goes.done);
}

-- so the whole, and what is made of it, is what the code has
pub came_as : {I X A W : Type 0} (P : List X → Type 0) (whole : I → Result (List X) Why) (truth : I → Result A Why) (seen : W → A) (w : W) (o : Option I)
    → CameAs P whole o → ((i : I) (all : List X) → P all → whole i ≡ Ok all → truth i ≡ Ok (seen w)) → ReadsAs seen truth o (Ok w)
came_as P whole truth seen w None came on = tt
came_as P whole truth seen w (Some image) came on = on image came.all came.holds came.is
