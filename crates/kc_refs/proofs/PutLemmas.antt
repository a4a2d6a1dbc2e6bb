-- What is written of words, and of more of them.
use Rattle.std.proofs.Common.{◌≡◌, ℕ, [], ◌∷◌, ◌++◌, ◌+◌, List, length, take, Option, Some, None, Result, Ok, Err, OnErr, append-nil, refl, sym, ap, subst, ◌∙◌, arith}
use Rattle.std.proofs.Math.Seq.{take-append-add, take-length}
use Rattle.std.proofs.lemmas.List.{append_assoc, length-append, take-append-le}
use Rattle.kc_outside.specs.Texts.{with_piece}
use Rattle.kc_text.specs.Compose.{texts}
use Rattle.kc_sight.specs.declared.refs.place.FoundWord.{FoundWord}
use Rattle.kc_sight.specs.Refs.Stops.{Told}
use Rattle.kc_command.specs.Ends.Ends.{TookPrefix}
use Rattle.kc_owner.specs.declared.object.keys.CacheKey.{CacheKey}
use Rattle.kc_refs.specs.Lines.{found_lines}
use Rattle.kc_refs.specs.Put.{Wrote}

pub with_two : (old : Option (List ℕ)) (one two : List ℕ) → with_piece (with_piece old one) two ≡ with_piece old (one ++ two)
with_two None one two = refl
with_two (Some o) one two = ap (λ (t : List ℕ). Some t) (append_assoc o one two)

pub with_none : (old : Option (List ℕ)) → old ≡ with_piece old []
with_none None = refl
with_none (Some o) = ap (λ (t : List ℕ). Some t) (sym (append-nil o))

pub texts_joined : {X : Type 0} (f : X → List ℕ) (xs ys : List X) → texts f (xs ++ ys) ≡ texts f xs ++ texts f ys
texts_joined f [] ys = refl
texts_joined f (x ∷ xs) ys = ap (λ (t : List ℕ). f x ++ t) (texts_joined f xs ys) ∙ sym (append_assoc (f x) (texts f xs) (texts f ys))

wrote_none : (keys : List CacheKey) (old : Option (List ℕ)) → Wrote keys [] old old 0
wrote_none keys old = record { took = with_none old; counted = refl }

wrote_more : (keys : List CacheKey) (found more : List FoundWord) (old mid new : Option (List ℕ)) (n m : ℕ) → Wrote keys found old mid n → Wrote keys more mid new m
    → Wrote keys (found ++ more) old new (n + m)
wrote_more keys found more old mid new n m first second = record {
  took = second.took
      ∙ ap (λ (t : Option (List ℕ)). with_piece t (texts (found_lines keys) more)) first.took
      ∙ with_two old (texts (found_lines keys) found) (texts (found_lines keys) more)
      ∙ ap (with_piece old) (sym (texts_joined (found_lines keys) found more));
  counted = omega (arith, length-append found more, first.counted, second.counted);
}

-- a first part of a text after another
prefix_after : (old mid new : Option (List ℕ)) (one two rest : List ℕ) → mid ≡ with_piece old one → TookPrefix mid new two → TookPrefix old new (one ++ (two ++ rest))
prefix_after old mid new one two rest is took = record {
  count = length one + took.count;
  within = omega (arith, took.within, length-append one (two ++ rest), length-append two rest);
  took = took.took
      ∙ ap (λ (t : Option (List ℕ)). with_piece t (take took.count two)) is
      ∙ with_two old one (take took.count two)
      ∙ ap (λ (t : List ℕ). with_piece old (one ++ t)) (sym (take-append-le took.count two rest took.within))
      ∙ ap (with_piece old) (sym (take-append-add one (two ++ rest) took.count));
}

wrote_part : (keys : List CacheKey) (found more rest : List FoundWord) (old mid new : Option (List ℕ)) (n : ℕ) → Wrote keys found old mid n
    → TookPrefix mid new (texts (found_lines keys) more) → TookPrefix old new (texts (found_lines keys) (found ++ (more ++ rest)))
wrote_part keys found more rest old mid new n first took =
    subst (TookPrefix old new)
    (sym (texts_joined (found_lines keys) found (more ++ rest) ∙ ap (λ (t : List ℕ). texts (found_lines keys) found ++ t) (texts_joined (found_lines keys) more rest)))
    (prefix_after old mid new (texts (found_lines keys) found) (texts (found_lines keys) more) (texts (found_lines keys) rest) first.took took)

-- nothing of a text, and all of it
took_none : (old : Option (List ℕ)) (text : List ℕ) → TookPrefix old old text
took_none old text = record { count = 0; within = omega arith; took = with_none old }

took_all : (keys : List CacheKey) (found : List FoundWord) (old new : Option (List ℕ)) (n : ℕ) → Wrote keys found old new n → TookPrefix old new (texts (found_lines keys) found)
took_all keys found old new n wrote = record {
  count = length (texts (found_lines keys) found);
  within = omega arith;
  took = wrote.took ∙ ap (with_piece old) (sym (take-length (texts (found_lines keys) found)));
}

-- the same of a dump's bytes, where they are told
pub told_none : (content : Option (List ℕ)) (keys : List CacheKey) (found : List ℕ → List FoundWord) (old : Option (List ℕ)) → ((bytes : List ℕ) → found bytes ≡ [])
    → Told content (λ bytes. Wrote keys (found bytes) old old 0)
told_none None keys found old none = tt
told_none (Some bytes) keys found old none = subst (λ (l : List FoundWord). Wrote keys l old old 0) (sym (none bytes)) (wrote_none keys old)

pub told_more : (content : Option (List ℕ)) (keys : List CacheKey) (found more all : List ℕ → List FoundWord) (old mid new : Option (List ℕ)) (n m sum : ℕ)
    → ((bytes : List ℕ) → all bytes ≡ found bytes ++ more bytes) → sum ≡ n + m
    → Told content (λ bytes. Wrote keys (found bytes) old mid n) → Told content (λ bytes. Wrote keys (more bytes) mid new m)
    → Told content (λ bytes. Wrote keys (all bytes) old new sum)
told_more None keys found more all old mid new n m sum joined is first second = tt
told_more (Some bytes) keys found more all old mid new n m sum joined is first second =
    subst (λ (k : ℕ). Wrote keys (all bytes) old new k) (sym is)
    (subst (λ (l : List FoundWord). Wrote keys l old new (n + m)) (sym (joined bytes)) (wrote_more keys (found bytes) (more bytes) old mid new n m first second))

pub told_part : (content : Option (List ℕ)) (keys : List CacheKey) (found more rest all : List ℕ → List FoundWord) (old mid new : Option (List ℕ)) (n : ℕ)
    → ((bytes : List ℕ) → all bytes ≡ found bytes ++ (more bytes ++ rest bytes))
    → Told content (λ bytes. Wrote keys (found bytes) old mid n) → Told content (λ bytes. TookPrefix mid new (texts (found_lines keys) (more bytes)))
    → Told content (λ bytes. TookPrefix old new (texts (found_lines keys) (all bytes)))
told_part None keys found more rest all old mid new n joined first took = tt
told_part (Some bytes) keys found more rest all old mid new n joined first took =
    subst (λ (l : List FoundWord). TookPrefix old new (texts (found_lines keys) l)) (sym (joined bytes))
    (wrote_part keys (found bytes) (more bytes) (rest bytes) old mid new n first took)

pub told_whole : (content : Option (List ℕ)) (keys : List CacheKey) (found : List ℕ → List FoundWord) (old new : Option (List ℕ)) (n : ℕ)
    → Told content (λ bytes. Wrote keys (found bytes) old new n) → Told content (λ bytes. TookPrefix old new (texts (found_lines keys) (found bytes)))
told_whole None keys found old new n wrote = tt
told_whole (Some bytes) keys found old new n wrote = took_all keys (found bytes) old new n wrote

pub told_nothing : (content : Option (List ℕ)) (keys : List CacheKey) (found : List ℕ → List FoundWord) (old : Option (List ℕ))
    → Told content (λ bytes. TookPrefix old old (texts (found_lines keys) (found bytes)))
told_nothing None keys found old = tt
told_nothing (Some bytes) keys found old = took_none old (texts (found_lines keys) (found bytes))

-- the text of what was found was put
pub told_put : (content : Option (List ℕ)) (keys : List CacheKey) (found : List FoundWord) (all : List ℕ → List FoundWord) (text : List ℕ) (old new : Option (List ℕ)) (n : ℕ)
    → Told content (λ bytes. found ≡ all bytes) → text ≡ texts (found_lines keys) found → new ≡ with_piece old text → n ≡ length found
    → Told content (λ bytes. Wrote keys (all bytes) old new n)
told_put None keys found all text old new n is spelled put counted = tt
told_put (Some bytes) keys found all text old new n is spelled put counted =
    subst (λ (l : List FoundWord). Wrote keys l old new n) is (record { took = put ∙ ap (with_piece old) spelled; counted = counted })

pub told_cut : (content : Option (List ℕ)) (keys : List CacheKey) (found : List FoundWord) (all : List ℕ → List FoundWord) (text : List ℕ) (old new : Option (List ℕ))
    → Told content (λ bytes. found ≡ all bytes) → text ≡ texts (found_lines keys) found → TookPrefix old new text
    → Told content (λ bytes. TookPrefix old new (texts (found_lines keys) (all bytes)))
told_cut None keys found all text old new is spelled took = tt
told_cut (Some bytes) keys found all text old new is spelled took =
    subst (λ (l : List FoundWord). TookPrefix old new (texts (found_lines keys) l)) is (subst (TookPrefix old new) spelled took)

-- what is said of a dump's bytes is said of the same
pub told_alike : (content : Option (List ℕ)) (P Q : List ℕ → Type 0) → ((bytes : List ℕ) → P bytes → Q bytes) → Told content P → Told content Q
told_alike None P Q then told = tt
told_alike (Some bytes) P Q then told = then bytes told

-- what is said where there is no answer
pub on_err_of : {A E P : Type 0} (r : Result A E) → P → OnErr r P
on_err_of (Ok a) p = tt
on_err_of (Err e) p = p
