-- Pages and pieces of the plain core file.
use Rattle.std.proofs.Common.{◌≡◌, ℕ, ◌+◌, ◌-◌, ◌*◌, ◌<◌, ◌≤◌, List, ◌++◌, length, take, drop, Option, Some, None, IfSome, Result, Ok, Err, IfOk, OnOk, min, refl, sym, ap, ◌∙◌, subst, arith, length-take, length-drop}
use Rattle.std.proofs.lemmas.List.{drop-drop, drop_at, length-take-le, take-append-le, take_at}
use borrow.Rule.Slice.PartMut.{post_of, put_mid, same_len_mid}
use Rattle.std.proofs.Math.Seq.{take-add}
use Rattle.kc_outside.specs.declared.store.Slot.{Slot}
use Rattle.kc_outside.specs.Files.{Files, HasLength}
use Rattle.kc_kdump.specs.Stays.{StoreStays}
use Rattle.kc_kdump.specs.declared.descriptor.Descriptor.{Descriptor}
use Rattle.kc_kdump.specs.declared.layout.Layout.{Layout}
use Rattle.kc_kdump.specs.Bytes.{part}
use Rattle.kc_kdump.specs.Dump.{descriptor_at}
use Rattle.kc_plain.specs.Pages.{AreWhole, HeadStands, PageStands, pages}
use Rattle.kc_plain.specs.Unpack.Plain.{page_at}
use Rattle.kc_plain.specs.Unpack.Unpacked.{descriptor_fault, page_of, page_or_zeros, unless, unpacked}
use Rattle.kc_plain_store.specs.Kept.{IsKept}
use Rattle.kc_plain_store.specs.declared.place.PagePlace.{PagePlace}

-- what a descriptor's bytes are unpacked to is its page
got : (layout : Layout) (bytes page : List ℕ) (index size : ℕ) (d : Descriptor) → d ≡ descriptor_at layout bytes index → size ≡ length bytes → descriptor_fault size d ≡ None
    → unpacked d.flags (part d.offset d.size bytes) ≡ Ok page → page_at layout bytes index ≡ page
unfolding page_of
got layout bytes page index size d is long none packed =
    ap (λ (e : Descriptor). page_or_zeros (page_of bytes e)) (sym is)
    ∙ ap (λ (n : ℕ). page_or_zeros (unless (descriptor_fault n d) (unpacked d.flags (part d.offset d.size bytes)))) (sym long)
    ∙ ap (λ f. page_or_zeros (unless f (unpacked d.flags (part d.offset d.size bytes)))) none
    ∙ ap page_or_zeros packed

pub page_got : (content one : Option (List ℕ)) (layout : Layout) (page : List ℕ) (index size : ℕ) (d : Descriptor) → one ≡ content
    → IfSome content (λ bytes. d ≡ descriptor_at layout bytes index) → HasLength content size → descriptor_fault size d ≡ None
    → IfSome one (λ bytes. unpacked d.flags (part d.offset d.size bytes) ≡ Ok page)
    → IfSome content (λ bytes. page_at layout bytes index ≡ page)
page_got None one layout page index size d same is long none packed = tt
page_got (Some bytes) one layout page index size d same is long none packed =
    got layout bytes page index size d is long none (subst (λ (c : Option (List ℕ)). IfSome c (λ bytes. unpacked d.flags (part d.offset d.size bytes) ≡ Ok page)) same packed)

-- a place that is filled
pub place_full : (content : Option (List ℕ)) (layout : Layout) (place : PagePlace) (index : ℕ) → place.number ≡ Some index
    → IfSome content (λ bytes. page_at layout bytes index ≡ place.bytes.items) → IsKept content layout place
place_full None layout place index full is = λ number here bytes told. absurd (let none : ⊥ = cc in none)
place_full (Some file) layout place index full is = λ number here bytes told.
    let same : index ≡ number = cc in
    let whole : file ≡ bytes = cc in
    subst (λ (b : List ℕ). page_at layout b number ≡ place.bytes.items) whole (subst (λ (n : ℕ). page_at layout file n ≡ place.bytes.items) same is)

-- a piece of a page that is kept
pub kept_piece : (content : Option (List ℕ)) (layout : Layout) (place : PagePlace) (piece : List ℕ) (index inside n : ℕ) → IsKept content layout place → place.number ≡ Some index
    → take n piece ≡ take n (drop inside place.bytes.items) → IfSome content (λ bytes. take n piece ≡ take n (drop inside (page_at layout bytes index)))
kept_piece None layout place piece index inside n kept here is = tt
kept_piece (Some bytes) layout place piece index inside n kept here is = is ∙ ap (λ (xs : List ℕ). take n (drop inside xs)) (sym (kept index here bytes refl))

-- a piece of the head
pub head_piece : HeadStands → (content : Option (List ℕ)) (layout : Layout) (head piece : List ℕ) (count at n : ℕ) → at + n ≤ length head
    → take n piece ≡ take n (drop at head) → IfSome content (λ bytes. take n piece ≡ take n (drop at (head ++ pages (page_at layout bytes) count)))
head_piece law None layout head piece count at n inside is = tt
head_piece law (Some bytes) layout head piece count at n inside is = is ∙ sym (law head (page_at layout bytes) count at n inside)

-- a piece of a page
pub page_piece : PageStands → ((layout : Layout) (bytes : List ℕ) → AreWhole (page_at layout bytes)) → (content : Option (List ℕ)) (layout : Layout) (head piece : List ℕ) (count at index inside n : ℕ)
    → at ≡ length head + (4096 * index + inside) → index < count → inside + n ≤ 4096
    → IfSome content (λ bytes. take n piece ≡ take n (drop inside (page_at layout bytes index)))
    → IfSome content (λ bytes. take n piece ≡ take n (drop at (head ++ pages (page_at layout bytes) count)))
page_piece law whole None layout head piece count at index inside n place here short is = tt
page_piece law whole (Some bytes) layout head piece count at index inside n place here short is =
    is ∙ sym (ap (λ (k : ℕ). take n (drop k (head ++ pages (page_at layout bytes) count))) place
    ∙ law head (page_at layout bytes) count index inside n (whole layout bytes) here short)

-- a piece more
pub piece_more : (content one : Option (List ℕ)) (whole : List ℕ → List ℕ) (buf new piece : List ℕ) (off at done n : ℕ) → one ≡ content → at ≡ off + done → take (done + n) new ≡ take done buf ++ take n piece
    → IfSome content (λ bytes. take done buf ≡ take done (drop off (whole bytes)))
    → IfSome one (λ bytes. take n piece ≡ take n (drop at (whole bytes)))
    → IfSome content (λ bytes. take (done + n) new ≡ take (done + n) (drop off (whole bytes)))
piece_more None one whole buf new piece off at done n same place is before next = tt
piece_more (Some bytes) one whole buf new piece off at done n same place is before next =
    let now : take n piece ≡ take n (drop at (whole bytes)) = subst (λ (c : Option (List ℕ)). IfSome c (λ bytes. take n piece ≡ take n (drop at (whole bytes)))) same next in
    is
    ∙ ap (λ (xs : List ℕ). xs ++ take n piece) before
    ∙ ap (λ (xs : List ℕ). take done (drop off (whole bytes)) ++ xs) (now ∙ ap (λ (k : ℕ). take n (drop k (whole bytes))) place)
    ∙ ap (λ (xs : List ℕ). take done (drop off (whole bytes)) ++ take n xs) (sym (drop-drop done off (whole bytes)))
    ∙ sym (take-add done n (drop off (whole bytes)))

-- no piece yet, and no piece more
pub piece_none : (content : Option (List ℕ)) (whole : List ℕ → List ℕ) (buf : List ℕ) (off : ℕ) → IfSome content (λ bytes. take 0 buf ≡ take 0 (drop off (whole bytes)))
piece_none None whole buf off = tt
piece_none (Some bytes) whole buf off = refl

-- ---- answers of calls

pub on_ok : {X E : Type 0} (r : Result X E) (P Q : Type 0) → (P → Q) → OnOk r P → OnOk r Q
on_ok (Ok x) P Q f is = f is
on_ok (Err e) P Q f is = tt

pub piece_of_page : {E : Type 0} (r : Result ℕ E) → PageStands → ((layout : Layout) (bytes : List ℕ) → AreWhole (page_at layout bytes)) → (content : Option (List ℕ)) (layout : Layout) (head piece : List ℕ) (count at index inside room : ℕ)
    → at ≡ length head + (4096 * index + inside) → index < count → inside < 4096
    → IfOk r (λ n. n ≡ min (4096 - inside) room)
    → IfOk r (λ n. IfSome content (λ bytes. take n piece ≡ take n (drop inside (page_at layout bytes index))))
    → IfOk r (λ n. IfSome content (λ bytes. take n piece ≡ take n (drop at (head ++ pages (page_at layout bytes) count))))
piece_of_page (Ok n) law whole content layout head piece count at index inside room place here short many is =
    page_piece law whole content layout head piece count at index inside n place here (omega (arith, many)) is
piece_of_page (Err e) law whole content layout head piece count at index inside room place here short many is = tt

-- ---- a piece of a buffer

pub mid_piece : (buf piece : List ℕ) (done k n : ℕ) → done ≤ length buf → n ≤ length piece → take (done + n) (put_mid done k buf piece) ≡ take done buf ++ take n piece
mid_piece buf piece done k n inside fits =
    let first = take done buf in
    let long : length first ≡ done = length-take-le done buf inside in
    let rest = piece ++ post_of done k buf in
    take-add done n (first ++ rest)
    ∙ ap (λ (xs : List ℕ). xs ++ take n (drop done (first ++ rest))) (take_at first rest done long)
    ∙ ap (λ (xs : List ℕ). first ++ take n xs) (drop_at first rest done long)
    ∙ ap (λ (xs : List ℕ). first ++ xs) (take-append-le n piece (post_of done k buf) fits)

pub mid_long : (buf piece : List ℕ) (done : ℕ) → done ≤ length buf → length piece ≡ length buf - done → length (put_mid done (length buf - done) buf piece) ≡ length buf
mid_long buf piece done inside long =
    same_len_mid done (length buf - done) buf piece (omega (arith, long, length-take (length buf - done) (drop done buf), length-drop done buf))

-- what stays over two calls
pub stays_on : {M : Type 0} (opened : M → Slot → Option (List ℕ)) (sizes : M → Slot → Option ℕ) (files : M → Option Files) (may : M → Slot → List ℕ → Type 0) (asked : M → ℕ) (a b c : M)
    → StoreStays opened sizes files may asked a b → StoreStays opened sizes files may asked b c → StoreStays opened sizes files may asked a c
stays_on opened sizes files may asked a b c one two = record {
  same_opened = two.same_opened ∙ one.same_opened;
  same_sizes = two.same_sizes ∙ one.same_sizes;
  same_files = two.same_files ∙ one.same_files;
  may_still = λ s n is. two.may_still s n (one.may_still s n is);
  may_no_more = λ s n is. one.may_no_more s n (two.may_no_more s n is);
  asked_later = omega (arith, one.asked_later, two.asked_later);
}
