-- What holds of the audits of a plan.
use Rattle.std.proofs.Common.{◌≡◌, ℕ, zero, suc, ◌+◌, ◌<◌, ◌≤◌, Bool, true, false, not, ◌&&◌, List, [], ◌∷◌, ◌++◌, length, Option, Some, None, Result, Ok, refl, ap, sym, subst, ◌∙◌, arith, append_assoc, option_map, slice_get}
use Rattle.std.proofs.lemmas.List.{length-map}
use Rattle.std.proofs.lemmas.List.Sums.{sum_by-cons}
use Rattle.std.proofs.lemmas.Option.{slice_get-map}
use Rattle.std.specs.Prelude.{is_some, ⊤, nat_le, nat_lt, ◌==◌, if◌then◌else◌, unwrap_or}
use Rattle.std.specs.List.{count_by}
use Rattle.std.specs.Option.{ok_or}
use Rattle.std.proofs.lemmas.Bool.{and_from, and_parts, eq-eqb, eqb-false, eqb-true, leb-true, lt-leb, le-leb, lt-ltb}
use Rattle.kc_layout.specs.Ends.{BitsAt, ByteAt, located}
use Rattle.kc_btf.specs.Btf.{Types}
use Rattle.kc_text.specs.Readers.{is_name}
use Rattle.toml.specs.Data.{Members}
use Rattle.kc_expr.specs.declared.keys.fault.PRule.TheVariants.{P9, P10, P11}
use Rattle.kc_expr.specs.declared.keys.fault.PlanFault.{PlanFault}
use Rattle.kc_expr.specs.declared.keys.fault.PlanKey.TheVariants as key
use Rattle.kc_plan.specs.declared.item.PlanWords.{PlanWords}
use Rattle.kc_plan.specs.declared.item.Link.{Link}
use Rattle.kc_kinds.specs.declared.kind.Kind.{Kind}
use Rattle.kc_plan.specs.declared.planned.Audit.{Audit}
use Rattle.kc_kinds.specs.declared.row.Row.{Row}
use Rattle.kc_plan.specs.Audits.{AuditText, StartText}
use Rattle.kc_plan.specs.Kept.{are_between, are_later, have_names, named_once, times_named}
use Rattle.kc_kinds.specs.Kernels.{Kernel, address_in}
use Rattle.kc_plan.specs.Links.{links_for}
use Rattle.kc_plan.specs.CheckTexts.{checks_for}
use Rattle.kc_plan.specs.Planned.{AuditAt, CheckAt, StartAt, audit_seen, audits_seen, is_from}
use Rattle.kc_plan.specs.Planned.StartAt.{RootAt, FromAt}
use Rattle.kc_plan.specs.Plans.{addressed, all_planned, begun, children, element_above, element_at, first_byte, from_at, is_headless, key_for, kind_in, link_for, needs_in, plan_of, planned, root_at, root_for, struct_at, type_named}
use Rattle.kc_plan.specs.Steps.{written_for}
use Rattle.kc_plan.specs.Values.{◌>>=◌, at, refuse_if}
use Rattle.kc_plan.specs.Views.{audit_text, audit_texts, plan_text}
use Rattle.kc_plan.proofs.LinkLaws.{AllLead, AreAllLinks, Leads, from_within, has_from, links_are, one_if, same_truth, times_linked}
use Rattle.kc_plan.proofs.StepLemmas.{bound, same_ok}
use Rattle.kc_plan.proofs.WrittenLaws.{AreWritten, are_written}

-- an audit keeps its name, begins where it is written to, and names those to which links lead from it
pub record IsPlanned (links : List Link) (n : ℕ) (text : AuditText) (audit : AuditAt) : Type 0 where
  pub name : audit.name ≡ text.name
  pub start : is_from audit.start ≡ not (is_some text.start.root)
  pub each : audit.each ≡ children links n

abbrev pub ArePlanned : List Link → ℕ → List AuditText → List AuditAt → Type 0
ArePlanned links n [] [] = Unit {0}
ArePlanned links n [] (audit ∷ audits) = ⊥
ArePlanned links n (text ∷ texts) [] = ⊥
ArePlanned links n (text ∷ texts) (audit ∷ audits) = IsPlanned links n text audit × ArePlanned links (suc n) texts audits

root_begins : (types : Types) (needs : Row) (n address : ℕ) (type : Option (List ℕ)) (path : List ℕ) (start : StartAt)
    → root_at types needs n address type path ≡ Ok start → is_from start ≡ false
root_begins types needs n address None path start e =
    subst (λ start. is_from start ≡ false) (same_ok (RootAt address (unwrap_or needs.head 0) (first_byte (unwrap_or needs.head 0))) start e) refl
root_begins types needs n address (Some name) path start e =
    let led : ℕ → Result ByteAt PlanFault = λ ty. at (Some n) key.RootPath (struct_at types needs.head (located types ty path)) in
    let ty = bound (at (Some n) key.RootType (type_named types name)) (λ ty. led ty >>= λ to. Ok (RootAt address ty to)) start e in
    let to = bound (led ty.0) (λ to. Ok (RootAt address ty.0 to)) start ty.2 in
    subst (λ start. is_from start ≡ false) (same_ok (RootAt address ty.0 to.0) start to.2) refl

begins : (types : Types) (needs : Row) (n : ℕ) (above : Option ℕ) (text : StartText) (root : Option ℕ) (start : StartAt)
    → begun types needs n above text root ≡ Ok start → is_from start ≡ not (is_some root)
begins types needs n above text None start e =
    let to = bound (at (Some n) key.From (from_at types needs above (unwrap_or text.from []))) (λ to. Ok (FromAt to text.optional)) start e in
    subst (λ start. is_from start ≡ true) (same_ok (FromAt to.0 text.optional) start to.2) refl
begins types needs n above text (Some address) start e =
    root_begins types needs n address text.root_type (unwrap_or text.root_path []) start e

-- a root audit has an address, and no other
root_is : (kernel : Kernel) (n : ℕ) (name : Option (List ℕ)) (root : Option ℕ) → root_for kernel n name ≡ Ok root → is_some root ≡ is_some name
root_is kernel n None root e = subst (λ root. is_some root ≡ false) (same_ok None root e) refl
root_is kernel n (Some name) root e =
    let address = bound (at (Some n) key.Root (addressed (address_in kernel name))) (λ address. Ok (Some address)) root e in
    subst (λ root. is_some root ≡ true) (same_ok (Some address.0) root address.2) refl

planned_from : (links : List Link) (n : ℕ) (text : AuditText) (start : StartAt) (element : Option ℕ) (link : ℕ) (kind : Kind) (checks : List CheckAt) (audit : AuditAt)
    → ◌≡◌ {A = Result AuditAt PlanFault} (Ok (record { name = text.name; kind = kind; start = start; element = element; link = link; checks = checks; each = children links n })) (Ok audit)
    → is_from start ≡ not (is_some text.start.root) → IsPlanned links n text audit
planned_from links n text start element link kind checks audit e from =
    subst (IsPlanned links n text)
    (same_ok (record { name = text.name; kind = kind; start = start; element = element; link = link; checks = checks; each = children links n }) audit e)
    (record { name = refl; start = from; each = refl })

one_planned : (kernel : Kernel) (links : List Link) (before : List AuditAt) (n : ℕ) (text : AuditText) (audit : AuditAt) → planned kernel links before n text ≡ Ok audit → IsPlanned links n text audit
unfolding planned
one_planned kernel links before n text audit e =
    let needs : Row = needs_in kernel text in
    let above : Option ℕ = element_above links before n in
    let tested : Result ⊤ PlanFault = at (Some n) key.Kind (refuse_if (not needs.clear) P9) in
    let headed : Result ⊤ PlanFault = at (Some n) key.Root (refuse_if (is_headless needs text.start) P10) in
    let made : StartAt → Option ℕ → ℕ → Kind → List CheckAt → AuditAt = λ start element link kind checks. record { name = text.name; kind = kind; start = start; element = element; link = link; checks = checks; each = children links n } in
    let with_kind : StartAt → Option ℕ → ℕ → Kind → Result AuditAt PlanFault = λ start element link kind. checks_for kernel.types n element text.parts.checks >>= λ checks. Ok (made start element link kind checks) in
    let with_bits : StartAt → Option ℕ → ℕ → Option BitsAt → Result AuditAt PlanFault = λ start element link bits. at (Some n) key.Kind (ok_or (kind_in kernel text link bits) P11) >>= λ kind. with_kind start element link kind in
    let with_link : StartAt → Option ℕ → ℕ → Result AuditAt PlanFault = λ start element link. key_for kernel.types n element text.parts.tree.key >>= λ bits. with_bits start element link bits in
    let with_element : StartAt → Option ℕ → Result AuditAt PlanFault = λ start element. link_for kernel.types needs n element text.parts.link >>= λ link. with_link start element link in
    let with_start : StartAt → Result AuditAt PlanFault = λ start. at (Some n) key.Element (element_at kernel.types needs.element text.parts.element) >>= λ element. with_element start element in
    let with_root : Option ℕ → Result AuditAt PlanFault = λ root. begun kernel.types needs n above text.start root >>= λ start. with_start start in
    let root = bound (root_for kernel n text.start.root) (λ root. tested >>= λ clear. headed >>= λ named. with_root root) audit e in
    let clear = bound tested (λ clear. headed >>= λ named. with_root root.0) audit root.2 in
    let named = bound headed (λ named. with_root root.0) audit clear.2 in
    let start = bound (begun kernel.types needs n above text.start root.0) with_start audit named.2 in
    let element = bound (at (Some n) key.Element (element_at kernel.types needs.element text.parts.element)) (with_element start.0) audit start.2 in
    let link = bound (link_for kernel.types needs n element.0 text.parts.link) (with_link start.0 element.0) audit element.2 in
    let bits = bound (key_for kernel.types n element.0 text.parts.tree.key) (with_bits start.0 element.0 link.0) audit link.2 in
    let kind = bound (at (Some n) key.Kind (ok_or (kind_in kernel text link.0 bits.0) P11)) (with_kind start.0 element.0 link.0) audit bits.2 in
    let checks = bound (checks_for kernel.types n element.0 text.parts.checks) (λ checks. Ok (made start.0 element.0 link.0 kind.0 checks)) audit kind.2 in
    planned_from links n text start.0 element.0 link.0 kind.0 checks.0 audit checks.2
    (begins kernel.types needs n above text.start root.0 start.0 start.1 ∙ ap not (root_is kernel n text.start.root root.0 root.1))

-- the audits behind those that are planned already
record Follow (links : List Link) (before : List AuditAt) (texts : List AuditText) (out : List AuditAt) : Type 0 where
  rest : List AuditAt
  whole : out ≡ before ++ rest
  planned : ArePlanned links (length before) texts rest

append_nil : {X : Type 0} (xs : List X) → xs ++ [] ≡ xs
append_nil [] = refl
append_nil (x ∷ xs) = ap (λ ys. x ∷ ys) (append_nil xs)

length_push : {X : Type 0} (xs : List X) (x : X) → length (xs ++ x ∷ []) ≡ suc (length xs)
length_push [] x = omega arith
length_push (y ∷ ys) x = let rest : length (ys ++ x ∷ []) ≡ suc (length ys) = length_push ys x in omega arith

follow : (kernel : Kernel) (links : List Link) (before : List AuditAt) (texts : List AuditText) (out : List AuditAt) → all_planned kernel links before texts ≡ Ok out → Follow links before texts out
follow kernel links before [] out e = record { rest = []; whole = sym (same_ok before out e) ∙ sym (append_nil before); planned = tt }
follow kernel links before (text ∷ texts) out e =
    let one = bound (planned kernel links before (length before) text) (λ one. all_planned kernel links (before ++ one ∷ []) texts) out e in
    let more : Follow links (before ++ one.0 ∷ []) texts out = follow kernel links (before ++ one.0 ∷ []) texts out one.2 in
    record {
      rest = one.0 ∷ more.rest;
      whole = more.whole ∙ append_assoc before (one.0 ∷ []) more.rest;
      planned = (one_planned kernel links before (length before) text one.0 one.1, subst (λ n. ArePlanned links n texts more.rest) (length_push before one.0) more.planned);
    }

-- names
names_kept : (links : List Link) (n : ℕ) (texts : List AuditText) (audits : List AuditAt) → ArePlanned links n texts audits → AreWritten texts → have_names audits ≡ true
names_kept links n [] [] made written = refl
names_kept links n [] (audit ∷ audits) made written = absurd made
names_kept links n (text ∷ texts) [] made written = absurd made
names_kept links n (text ∷ texts) (audit ∷ audits) made written =
    and_from (is_name audit.name) (have_names audits) (subst (λ name. is_name name ≡ true) (sym made.0.name) written.0.name) (names_kept links (suc n) texts audits made.1 written.1)

same_length : (links : List Link) (n : ℕ) (texts : List AuditText) (audits : List AuditAt) → ArePlanned links n texts audits → length texts ≡ length audits
same_length links n [] [] made = refl
same_length links n [] (audit ∷ audits) made = absurd made
same_length links n (text ∷ texts) [] made = absurd made
same_length links n (text ∷ texts) (audit ∷ audits) made = ap suc (same_length links (suc n) texts audits made.1)

-- what an audit names is later
between_more : (texts : List AuditText) (link : Link) (n : ℕ) (below : List ℕ) (here : Bool) → (link.above == n) ≡ here → Leads texts link → are_between n (length texts) below ≡ true
    → are_between n (length texts) (if here then link.below ∷ below else below) ≡ true
between_more texts link n below true is leads rest =
    let above : link.above ≡ n = eqb-true link.above n is in
    let later : n < link.below = let lead : link.above < link.below = leads.later in omega arith in
    and_from (nat_lt n link.below && nat_lt link.below (length texts)) (are_between n (length texts) below)
    (and_from (nat_lt n link.below) (nat_lt link.below (length texts)) (lt-ltb n link.below later) (lt-ltb link.below (length texts) (from_within texts link.below leads.from))) rest
between_more texts link n below false is leads rest = rest

children_between : (texts : List AuditText) (links : List Link) (n : ℕ) → AllLead texts links → are_between n (length texts) (children links n) ≡ true
children_between texts [] n all = refl
children_between texts (link ∷ links) n all = between_more texts link n (children links n) (link.above == n) refl all.0 (children_between texts links n all.1)

later_kept : (whole : List AuditText) (links : List Link) (n : ℕ) (texts : List AuditText) (audits : List AuditAt) → AllLead whole links → ArePlanned links n texts audits → are_later n (length whole) audits ≡ true
later_kept whole links n [] [] all made = refl
later_kept whole links n [] (audit ∷ audits) all made = absurd made
later_kept whole links n (text ∷ texts) [] all made = absurd made
later_kept whole links n (text ∷ texts) (audit ∷ audits) all made =
    and_from (are_between n (length whole) audit.each) (are_later (suc n) (length whole) audits)
    (subst (λ below. are_between n (length whole) below ≡ true) (sym made.0.each) (children_between whole links n all))
    (later_kept whole links (suc n) texts audits all made.1)

-- how many links lead from an audit with this number or a later one to m
abbrev times_from : ℕ → ℕ → List Link → ℕ
times_from n m [] = 0
times_from n m (link ∷ links) = one_if (nat_le n link.above && (link.below == m)) + times_from n m links

none_behind : (texts : List AuditText) (links : List Link) (n m : ℕ) → AllLead texts links → length texts ≤ n → times_from n m links ≡ 0
none_behind texts [] n m all last = refl
none_behind texts (link ∷ links) n m all last =
    let within : link.below < length texts = from_within texts link.below all.0.from in
    let later : link.above < link.below = all.0.later in
    let none : nat_le n link.above ≡ false = lt-leb n link.above (omega arith) in
    let rest : times_from n m links ≡ 0 = none_behind texts links n m all.1 last in
    rw none (omega arith)

-- another number is at or behind n just where it is behind n
behind_other : (above n : ℕ) → (above == n) ≡ false → nat_le n above ≡ nat_le (suc n) above
behind_other above n other =
    let apart : above ≡ n → ⊥ = eqb-false above n other in
    same_truth (nat_le n above) (nat_le (suc n) above)
    (λ from. let le : n ≤ above = leb-true n above from in le-leb (suc n) above (omega arith))
    (λ past. let le : suc n ≤ above = leb-true (suc n) above past in le-leb n above (omega arith))

split_at : (above n : ℕ) (here : Bool) → (above == n) ≡ here → (is : Bool) → one_if (nat_le n above && is) ≡ (if here then one_if is else 0) + one_if (nat_le (suc n) above && is)
split_at above n true same is =
    let at : above ≡ n = eqb-true above n same in
    let from : nat_le n above ≡ true = le-leb n above (omega arith) in
    let past : nat_le (suc n) above ≡ false = lt-leb (suc n) above (omega arith) in
    rw (from, past) (omega arith)
split_at above n false other is = rw (behind_other above n other) (omega arith)

count_if : (m x : ℕ) (xs : List ℕ) (here : Bool) → count_by (λ b. b == m) (if here then x ∷ xs else xs) ≡ (if here then one_if (x == m) else 0) + count_by (λ b. b == m) xs
count_if m x xs true = sum_by-cons (λ b. if b == m then 1 else 0) x xs
count_if m x xs false = omega arith

add_up : (one rest a b c d e : ℕ) → one ≡ a + b → rest ≡ c + d → e ≡ a + c → one + rest ≡ e + (b + d)
add_up one rest a b c d e first second third = omega arith

times_split : (links : List Link) (n m : ℕ) → times_from n m links ≡ count_by (λ b. b == m) (children links n) + times_from (suc n) m links
times_split [] n m = omega arith
times_split (link ∷ links) n m =
    let here : Bool = link.above == n in
    let one : one_if (nat_le n link.above && (link.below == m)) ≡ (if here then one_if (link.below == m) else 0) + one_if (nat_le (suc n) link.above && (link.below == m)) = split_at link.above n here refl (link.below == m) in
    let count : count_by (λ b. b == m) (if here then link.below ∷ children links n else children links n) ≡ (if here then one_if (link.below == m) else 0) + count_by (λ b. b == m) (children links n) = count_if m link.below (children links n) here in
    let rest : times_from n m links ≡ count_by (λ b. b == m) (children links n) + times_from (suc n) m links = times_split links n m in
    add_up (one_if (nat_le n link.above && (link.below == m))) (times_from n m links) (if here then one_if (link.below == m) else 0) (one_if (nat_le (suc n) link.above && (link.below == m))) (count_by (λ b. b == m) (children links n)) (times_from (suc n) m links) (count_by (λ b. b == m) (if here then link.below ∷ children links n else children links n)) one rest count

times_at_zero : (links : List Link) (m : ℕ) → times_from 0 m links ≡ times_linked m links
times_at_zero [] m = refl
times_at_zero (link ∷ links) m =
    let first : nat_le 0 link.above ≡ true = le-leb 0 link.above (omega arith) in
    rw first (ap (λ n. one_if (link.below == m) + n) (times_at_zero links m))

-- how often the audits name m
times_kept : (whole : List AuditText) (links : List Link) (n m : ℕ) (texts : List AuditText) (audits : List AuditAt) → AllLead whole links → length whole ≡ n + length texts → ArePlanned links n texts audits
    → times_named m audits ≡ times_from n m links
times_kept whole links n m [] [] all size made = sym (none_behind whole links n m all (let last : length whole ≡ n + 0 = size in omega arith))
times_kept whole links n m [] (audit ∷ audits) all size made = absurd made
times_kept whole links n m (text ∷ texts) [] all size made = absurd made
times_kept whole links n m (text ∷ texts) (audit ∷ audits) all size made =
    let next : length whole ≡ suc n + length texts = let this : length whole ≡ n + suc (length texts) = size in omega arith in
    sum_by-cons (λ (audit : AuditAt). count_by (λ b. b == m) audit.each) audit audits
    ∙ ap (λ each. count_by (λ b. b == m) each + times_named m audits) made.0.each
    ∙ ap (λ k. count_by (λ b. b == m) (children links n) + k) (times_kept whole links (suc n) m texts audits all next made.1)
    ∙ sym (times_split links n m)

-- an audit is named once where it begins at a `from`, and else never
named_kept : (whole : List AuditAt) (all : List AuditText) (links : List Link) (n : ℕ) (texts : List AuditText) (audits : List AuditAt) → ((m : ℕ) → times_named m whole ≡ one_if (has_from all m))
    → ((i : ℕ) → has_from all (n + i) ≡ has_from texts i) → AreWritten texts → ArePlanned links n texts audits → named_once whole n audits ≡ true
named_kept whole all links n [] [] times from written made = refl
named_kept whole all links n [] (audit ∷ audits) times from written made = absurd made
named_kept whole all links n (text ∷ texts) [] times from written made = absurd made
named_kept whole all links n (text ∷ texts) (audit ∷ audits) times from written made =
    let number : n + 0 ≡ n = omega arith in
    let begins : has_from all n ≡ is_from audit.start =
    subst (λ k. has_from all k ≡ is_some text.start.from) number (from 0) ∙ written.0.start ∙ sym made.0.start in
    let here : times_named n whole ≡ one_if (is_from audit.start) = times n ∙ ap one_if begins in
    let next : (i : ℕ) → has_from all (suc n + i) ≡ has_from texts i = λ i. let past : n + suc i ≡ suc n + i = omega arith in subst (λ k. has_from all k ≡ has_from texts i) past (from (suc i)) in
    and_from (times_named n whole == one_if (is_from audit.start)) (named_once whole (suc n) audits) (eq-eqb (times_named n whole) (one_if (is_from audit.start)) here)
    (named_kept whole all links (suc n) texts audits times next written.1 made.1)

-- what a plan keeps
pub record IsKept (texts : List AuditText) (audits : List AuditAt) : Type 0 where
  pub size : length texts ≡ length audits
  pub names : have_names audits ≡ true
  pub later : are_later 0 (length audits) audits ≡ true
  pub once : named_once audits 0 audits ≡ true

kept : (texts : List AuditText) (links : List Link) (audits : List AuditAt) → AreWritten texts → AreAllLinks texts links → ArePlanned links 0 texts audits → IsKept texts audits
kept texts links audits written all made =
    let size : length texts ≡ length audits = same_length links 0 texts audits made in
    let times : (m : ℕ) → times_named m audits ≡ one_if (has_from texts m) = λ m.
    times_kept texts links 0 m texts audits all.are.lead (omega arith) made ∙ times_at_zero links m ∙ all.are.once m ∙ ap one_if (all.named m) in
    let from : (i : ℕ) → has_from texts (0 + i) ≡ has_from texts i = λ i. let same : i ≡ 0 + i = omega arith in subst (λ k. has_from texts k ≡ has_from texts i) same refl in
    record {
      size = size;
      names = names_kept links 0 texts audits made written;
      later = subst (λ count. are_later 0 count audits ≡ true) size (later_kept texts links 0 texts audits all.are.lead made);
      once = named_kept audits texts links 0 texts audits times from written made;
    }

pub plan_kept : (kernel : Kernel) (texts : List AuditText) (audits : List AuditAt) → AreWritten texts → plan_of kernel texts ≡ Ok audits → IsKept texts audits
unfolding plan_of
plan_kept kernel texts audits written e =
    let links = bound (links_for texts) (λ links. all_planned kernel links [] texts) audits e in
    let behind : Follow links.0 [] texts audits = follow kernel links.0 [] texts audits links.2 in
    let made : ArePlanned links.0 0 texts audits = subst (ArePlanned links.0 0 texts) (sym behind.whole) behind.planned in
    kept texts links.0 audits written (links_are texts links.0 links.1) made

-- and what a plan of the code keeps
pub record KeepsAll (audits : List Audit) : Type 0 where
  pub few : length audits ≤ 256
  pub names : have_names (audits_seen audits) ≡ true
  pub later : are_later 0 (length audits) (audits_seen audits) ≡ true
  pub once : named_once (audits_seen audits) 0 (audits_seen audits) ≡ true

pub keeps_all : (kernel : Kernel) (table : Members) (written : PlanWords) (audits : List Audit) → written_for table ≡ Ok (plan_text written)
    → plan_of kernel (audit_texts written.audits) ≡ Ok (audits_seen audits) → KeepsAll audits
keeps_all kernel table written audits texts plan =
    let is : IsKept (audit_texts written.audits) (audits_seen audits) = plan_kept kernel (audit_texts written.audits) (audits_seen audits) (are_written table (plan_text written) texts) plan in
    let size : length (audits_seen audits) ≡ length audits = length-map audits audit_seen in
    let number : length (audit_texts written.audits) ≡ length written.audits.items = length-map written.audits.items audit_text in
    let same : length (audit_texts written.audits) ≡ length (audits_seen audits) = is.size in
    let few : length written.audits.items ≤ 256 = written.few in
    record {
      few = omega arith;
      names = is.names;
      later = subst (λ count. are_later 0 count (audits_seen audits) ≡ true) size is.later;
      once = is.once;
    }

-- the audit with a number
later_at : (audits : List AuditAt) (k count n : ℕ) (audit : AuditAt) → are_later k count audits ≡ true → slice_get audits n ≡ Some audit → are_between (k + n) count audit.each ≡ true
later_at [] k count n audit all is = absurd (let none : ⊥ = cc in none)
later_at (a ∷ rest) k count zero audit all is =
    let same : a ≡ audit = cc in
    let number : k ≡ k + 0 = omega arith in
    subst (λ n. are_between n count audit.each ≡ true) number (subst (λ (a : AuditAt). are_between k count a.each ≡ true) same (and_parts (are_between k count a.each) (are_later (suc k) count rest) all).0)
later_at (a ∷ rest) k count (suc n) audit all is =
    let number : suc k + n ≡ k + suc n = omega arith in
    subst (λ n. are_between n count audit.each ≡ true) number (later_at rest (suc k) count n audit (and_parts (are_between k count a.each) (are_later (suc k) count rest) all).1 is)

name_at : (audits : List AuditAt) (n : ℕ) (audit : AuditAt) → have_names audits ≡ true → slice_get audits n ≡ Some audit → is_name audit.name ≡ true
name_at [] n audit all is = absurd (let none : ⊥ = cc in none)
name_at (a ∷ rest) zero audit all is =
    let same : a ≡ audit = cc in
    subst (λ (a : AuditAt). is_name a.name ≡ true) same (and_parts (is_name a.name) (have_names rest) all).0
name_at (a ∷ rest) (suc n) audit all is = name_at rest n audit (and_parts (is_name a.name) (have_names rest) all).1 is

pub seen_at : (audits : List Audit) (n : ℕ) (audit : Audit) → slice_get audits n ≡ Some audit → slice_get (audits_seen audits) n ≡ Some (audit_seen audit)
seen_at audits n audit is = slice_get-map audit_seen audits n ∙ ap (option_map audit_seen) is

pub between_at : (audits : List Audit) (count n : ℕ) (audit : Audit) → are_later 0 count (audits_seen audits) ≡ true → slice_get audits n ≡ Some audit → are_between n count audit.each ≡ true
between_at audits count n audit all is =
    let number : 0 + n ≡ n = omega arith in
    subst (λ n. are_between n count audit.each ≡ true) number (later_at (audits_seen audits) 0 count n (audit_seen audit) all (seen_at audits n audit is))

pub formed_at : (audits : List Audit) (n : ℕ) (audit : Audit) → have_names (audits_seen audits) ≡ true → slice_get audits n ≡ Some audit → is_name audit.name ≡ true
formed_at audits n audit all is = name_at (audits_seen audits) n (audit_seen audit) all (seen_at audits n audit is)
