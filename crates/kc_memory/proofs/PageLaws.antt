-- A page moves whole.
use Rattle.std.proofs.Common.{◌≡◌, ℕ, zero, suc, ◌+◌, ◌-◌, ◌*◌, ◌/◌, ◌%◌, ◌^◌, ◌<◌, Bool, true, false, if◌then◌else◌, ◌&&◌, nat_eq, Option, Some, None, Result, Ok, Err, refl, sym, ap, ◌∙◌, subst, arith}
use Rattle.std.proofs.lemmas.Nat.{pow-add}
use Rattle.std.proofs.Math.Nat.{div-div-eq-div-mul}
use Rattle.std.specs.Prelude.{⊤}
use Rattle.kc_memory.specs.declared.rule.Rule.{Rule}
use Rattle.kc_memory.specs.declared.words.PWord.{PWord}
use Rattle.kc_memory.specs.Stopped.{Stopped}
use Rattle.kc_memory.specs.Image.{Physical, pword}
use Rattle.kc_memory.specs.Translation.{Way, Table, Large, address_from, in_page, is_set, judged, refusal, cleared, entered, entered_by, entry_address, index_at, follow, and_then, xlate}
use Rattle.kc_memory.specs.Laws.{PagesMoveWhole}

-- where another address of the page goes
abbrev moved : ℕ → ℕ → ℕ
moved other pa = pa / 4096 * 4096 + other % 4096

record Moves (va other : ℕ) (pa pb : ℕ) : Type 0 where
  keeps : pa % 4096 ≡ va % 4096
  small : pa < 2 ^ 52
  goes : pb ≡ moved other pa

large30 : (entry va other : ℕ) → other / 4096 ≡ va / 4096 → Moves va other (in_page 30 entry va) (in_page 30 entry other)
large30 entry va other same = record { keeps = omega arith; small = omega arith; goes = omega arith }

large21 : (entry va other : ℕ) → other / 4096 ≡ va / 4096 → Moves va other (in_page 21 entry va) (in_page 21 entry other)
large21 entry va other same = record { keeps = omega arith; small = omega arith; goes = omega arith }

-- the address of a page
abbrev IsPage : ℕ → Type 0
IsPage table = (table % 4096 ≡ 0) × (table < 2 ^ 52)

small_page : (table va other : ℕ) → IsPage table → other / 4096 ≡ va / 4096 → Moves va other (table + va % 4096) (table + other % 4096)
small_page table va other page same = record { keeps = omega (arith, page.0); small = omega (arith, page.0, page.1); goes = omega (arith, page.0) }

a_page : (entry : ℕ) → IsPage (address_from 12 entry)
a_page entry = (omega arith, omega arith)

higher : (k n : ℕ) → n / 2 ^ (12 + k) ≡ n / 4096 / 2 ^ k
higher k n = rw (pow-add 2 12 k) (sym (div-div-eq-div-mul n 4096 (2 ^ k)))

same_index : (level va other : ℕ) → other / 4096 ≡ va / 4096 → index_at level other ≡ index_at level va
same_index level va other same =
    let k = 9 * (level - 1) in
    ap (λ n. n % 512) (higher k other ∙ ap (λ n. n / 2 ^ k) same ∙ sym (higher k va))

-- the same entry leads the two addresses of a page to the same table, or to their places in one page
abbrev Leads : ℕ → ℕ → Way → Way → Type 0
Leads va other (Table a) (Table b) = IsPage a × (b ≡ a)
Leads va other (Table a) (Large pb) = ⊥
Leads va other (Large pa) (Table b) = ⊥
Leads va other (Large pa) (Large pb) = Moves va other pa pb

abbrev way_by : Bool → Bool → ℕ → ℕ → Way
way_by gib mib entry va = if gib then Large (in_page 30 entry va) else (if mib then Large (in_page 21 entry va) else Table (address_from 12 entry))

leads_by : (gib mib : Bool) (entry va other : ℕ) → other / 4096 ≡ va / 4096 → Leads va other (way_by gib mib entry va) (way_by gib mib entry other)
leads_by true mib entry va other same = large30 entry va other same
leads_by false true entry va other same = large21 entry va other same
leads_by false false entry va other same = (a_page entry, refl)

-- the same answer, moved to the other address
abbrev Follows : ℕ → ℕ → Result Way Stopped → Result Way Stopped → Type 0
Follows va other (Err s) r = ⊤
Follows va other (Ok w) (Err s) = ⊥
Follows va other (Ok w) (Ok v) = Leads va other w v

judged_follows : (va other level pa : ℕ) (word : PWord) (entry : ℕ) (r : Option Rule) → other / 4096 ≡ va / 4096 → Follows va other (judged va level pa word entry r) (judged other level pa word entry r)
judged_follows va other level pa word entry (Some rule) same = tt
judged_follows va other level pa word entry None same = leads_by (is_set 7 entry && nat_eq level 3) (is_set 7 entry && nat_eq level 2) entry va other same

entered_follows : (mask va other level pa : ℕ) (o : Option PWord) → other / 4096 ≡ va / 4096 → Follows va other (entered_by mask va level pa o) (entered_by mask other level pa o)
entered_follows mask va other level pa None same = tt
entered_follows mask va other level pa (Some word) same = judged_follows va other level pa word (cleared mask word.value) (refusal level (cleared mask word.value)) same

enters_same : (physical : Physical) (mask va other level table : ℕ) → other / 4096 ≡ va / 4096 → Follows va other (entered physical mask va level table) (entered physical mask other level table)
enters_same physical mask va other level table same =
    let here = entry_address level table va in
    let at_same : entry_address level table other ≡ here = ap (λ i. table + 8 * i) (same_index level va other same) in
    let P : ℕ → Type 0 = λ pa. Follows va other (entered physical mask va level table) (entered_by mask other level pa (pword physical pa)) in
    subst P (sym at_same) (entered_follows mask va other level here (pword physical here) same)

-- what a table has to be: at level 0 a page
abbrev Begins : ℕ → ℕ → Type 0
Begins zero table = IsPage table
Begins (suc level) table = ⊤

begins : (level table : ℕ) → IsPage table → Begins level table
begins zero table page = page
begins (suc level) table page = tt

-- two addresses of one page on their way down
both_move : (physical : Physical) (mask level table va other pa : ℕ) → Begins level table → other / 4096 ≡ va / 4096 → xlate physical mask va level table ≡ Ok pa
    → (pb : ℕ) × (xlate physical mask other level table ≡ Ok pb) × Moves va other pa pb
unfolding xlate
both_move physical mask zero table va other pa page same is =
    let at_page : table + va % 4096 ≡ pa = cc in
    (table + other % 4096, refl, subst (λ p. Moves va other p (table + other % 4096)) at_page (small_page table va other page same))
both_move physical mask (suc level) table va other pa begun same is =
    by_way (entered physical mask va (suc level) table) (entered physical mask other (suc level) table) (enters_same physical mask va other (suc level) table same) is
    (λ t page next. both_move physical mask level t va other pa (begins level t page) same next)
  where
    by_way : (r q : Result Way Stopped) → Follows va other r q → and_then r (λ w. follow w (xlate physical mask va level)) ≡ Ok pa
        → ((t : ℕ) → IsPage t → xlate physical mask va level t ≡ Ok pa → (pb : ℕ) × (xlate physical mask other level t ≡ Ok pb) × Moves va other pa pb)
        → (pb : ℕ) × (and_then q (λ w. follow w (xlate physical mask other level)) ≡ Ok pb) × Moves va other pa pb
    by_way (Err s) q follows stops below = let none : ⊥ = cc in absurd none
    by_way (Ok w) (Err s) follows stops below = absurd follows
    by_way (Ok (Table a)) (Ok (Table b)) follows stops below = subst (λ c. (pb : ℕ) × (xlate physical mask other level c ≡ Ok pb) × Moves va other pa pb) (sym follows.1) (below a follows.0 stops)
    by_way (Ok (Table a)) (Ok (Large pb)) follows stops below = absurd follows
    by_way (Ok (Large p)) (Ok (Table b)) follows stops below = absurd follows
    by_way (Ok (Large p)) (Ok (Large pb)) follows stops below = let same_pa : p ≡ pa = cc in (pb, refl, subst (λ x. Moves va other x pb) same_pa follows)

-- an address of a page, from any table
pub arrives : (physical : Physical) (mask level table va pa : ℕ) → xlate physical mask va (suc level) table ≡ Ok pa → (pa % 4096 ≡ va % 4096) × (pa < 2 ^ 52)
arrives physical mask level table va pa is =
    let self = both_move physical mask (suc level) table va va pa tt refl is in
    (self.2.keeps, self.2.small)

pub pages_move_whole : PagesMoveWhole
pages_move_whole physical mask zero table va pa some is = absurd (omega arith)
pages_move_whole physical mask (suc level) table va pa some is =
    let self = arrives physical mask level table va pa is in
    (self.0, λ other same. let both = both_move physical mask (suc level) table va other pa tt same is in both.1 ∙ ap (λ (p : ℕ). Ok p) both.2.goes)
