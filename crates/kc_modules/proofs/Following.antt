-- What a loop says of the whole that it was begun for: what is left to be done gives it.
use Rattle.std.proofs.Common.{◌≡◌, List, [], ◌++◌, Option, Some, None, Result, Ok, Err, refl, sym, ap, ◌∙◌, append_assoc}
use Rattle.std.specs.Prelude.{⊤}
use Rattle.std.proofs.lemmas.List.{append-nil}
use Rattle.kc_kallsyms.specs.declared.stop.TableStop.{TableStop}
use Rattle.kc_kallsyms.specs.declared.stop.TableStop.TheVariants.{Miss, Fault, Table, NoMemory}
use Rattle.kc_kallsyms.specs.declared.fault.TableFault.{TableFault}
use Rattle.kc_kallsyms.specs.Reading.{◌>>=◌, Bad, Missed, ReadsAs, Why}

-- what is left gives the whole
abbrev pub Follows : {I X : Type 0} → Option I → (I → Result X Why) → (I → Result X Why) → Type 0
Follows None whole rest = ⊤
Follows (Some i) whole rest = whole i ≡ rest i

-- at first all is left
pub follows_first : {I X : Type 0} (o : Option I) (whole rest : I → Result X Why) → ((i : I) → whole i ≡ rest i) → Follows o whole rest
follows_first None whole rest same = tt
follows_first (Some i) whole rest same = same i

-- one more was read
pub follows_more : {I X Y Z : Type 0} (o : Option I) (whole rest next : I → Result X Why) (one : I → Result Y Why) (view : Z → Y) (z : Z)
    → Follows o whole rest → ReadsAs view one o (Ok z) → ((i : I) → one i ≡ Ok (view z) → rest i ≡ next i) → Follows o whole next
follows_more None whole rest next one view z so_far read step = tt
follows_more (Some i) whole rest next one view z so_far read step = so_far ∙ step i read

-- the next can't be read
pub follows_stops : {I X Y Z W : Type 0} (o : Option I) (whole rest : I → Result X Why) (one : I → Result Y Why) (view : Z → Y) (seen : W → X) (stop : TableStop)
    → Follows o whole rest → ReadsAs view one o (Err stop) → ((i : I) (e : Why) → one i ≡ Err e → rest i ≡ Err e) → ReadsAs seen whole o (Err stop)
follows_stops None whole rest one view seen stop so_far read step = tt
follows_stops (Some i) whole rest one view seen (Miss s) so_far read step = so_far ∙ step i (Missed s) read
follows_stops (Some i) whole rest one view seen Fault so_far read step = tt
follows_stops (Some i) whole rest one view seen (Table f) so_far read step = so_far ∙ step i (Bad f) read
follows_stops (Some i) whole rest one view seen NoMemory so_far read step = tt

-- it is refused here
pub follows_bad : {I X W : Type 0} (o : Option I) (whole rest : I → Result X Why) (seen : W → X) (f : TableFault)
    → Follows o whole rest → ((i : I) → rest i ≡ Err (Bad f)) → ReadsAs seen whole o (Err (Table f))
follows_bad None whole rest seen f so_far is = tt
follows_bad (Some i) whole rest seen f so_far is = so_far ∙ is i

-- nothing is left
pub follows_ends : {I X W : Type 0} (o : Option I) (whole rest : I → Result X Why) (seen : W → X) (w : W)
    → Follows o whole rest → ((i : I) → rest i ≡ Ok (seen w)) → ReadsAs seen whole o (Ok w)
follows_ends None whole rest seen w so_far is = tt
follows_ends (Some i) whole rest seen w so_far is = so_far ∙ is i

-- the rest is read at once
pub follows_read : {I X Y Z W : Type 0} (o : Option I) (whole rest next : I → Result X Why) (one : I → Result Y Why) (view : Z → Y) (z : Z) (seen : W → X) (r : Result W TableStop)
    → Follows o whole rest → ReadsAs view one o (Ok z) → ((i : I) → one i ≡ Ok (view z) → rest i ≡ next i) → ReadsAs seen next o r → ReadsAs seen whole o r
follows_read None whole rest next one view z seen r so_far read step is = tt
follows_read (Some i) whole rest next one view z seen (Ok w) so_far read step is = so_far ∙ step i read ∙ is
follows_read (Some i) whole rest next one view z seen (Err (Miss s)) so_far read step is = so_far ∙ step i read ∙ is
follows_read (Some i) whole rest next one view z seen (Err Fault) so_far read step is = tt
follows_read (Some i) whole rest next one view z seen (Err (Table f)) so_far read step is = so_far ∙ step i read ∙ is
follows_read (Some i) whole rest next one view z seen (Err NoMemory) so_far read step is = tt

-- a list that was begun, and what is still to come
abbrev pub prefixed : {X : Type 0} → List X → Result (List X) Why → Result (List X) Why
prefixed done rest = rest >>= (λ xs. Ok (done ++ xs))

pub none_before : {X : Type 0} (done : List X) (r : Result (List X) Why) → done ≡ [] → r ≡ prefixed done r
none_before {X} done (Ok xs) is = ap (λ (d : List X). let r : Result (List X) Why = Ok (d ++ xs) in r) (sym is)
none_before done (Err e) is = refl

pub some_before : {X : Type 0} (done piece more : List X) (r : Result (List X) Why) → more ≡ done ++ piece → prefixed done (prefixed piece r) ≡ prefixed more r
some_before {X} done piece more (Ok xs) is =
    ap (λ (l : List X). let r : Result (List X) Why = Ok l in r) (sym (append_assoc done piece xs))
    ∙ ap (λ (m : List X). let r : Result (List X) Why = Ok (m ++ xs) in r) (sym is)
some_before done piece more (Err e) is = refl

pub all_before : {X : Type 0} (done : List X) (r : Result (List X) Why) → r ≡ Ok [] → prefixed done r ≡ Ok done
all_before {X} done r is = ap (λ (q : Result (List X) Why). prefixed done q) is ∙ ap (λ (l : List X). let r : Result (List X) Why = Ok l in r) (append-nil done)
