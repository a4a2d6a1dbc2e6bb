-- What is seen of an address, once its memory was asked.
use Rattle.std.proofs.Common.{◌≡◌, ℕ, List, Option, Some, None, Result, Ok, Err, option_map, sym, subst, ap, ◌∙◌}
use Rattle.std.specs.Prelude.{IfOk, IfSome}
use Rattle.std.specs.Global.{Vec}
use Rattle.kc_word.specs.declared.plain.Tail.TheVariants as Tail
use Rattle.kc_memory.specs.Image.{Image, Physical}
use Rattle.kc_memory.specs.Translation.{vword}
use Rattle.kc_mem.specs.Paged.{with_paging}
use Rattle.kc_phys.specs.Stored.{stored}
use Rattle.kc_sight.specs.declared.aliases.Rules.{Rules}
use Rattle.kc_sight.specs.declared.entries.TableEntry.{TableEntry}
use Rattle.kc_found.specs.declared.failed.ReadFailed.{ReadFailed}
use Rattle.kc_sight.specs.Aliases.{aliases}
use Rattle.kc_sight.specs.Entries.{entries}
use Rattle.kc_sight.specs.Looks.{LooksAs, words}
use Rattle.kc_sight.specs.Sights.{near, page_start, word_start}
use Rattle.kc_command.specs.Kernels.{KernelAt}
use Rattle.kc_command.specs.Paging.{by_info}
use Rattle.kc_told.specs.declared.told.Sighted.{Sighted}
use Rattle.kc_told.specs.Near.{near_of}
use Rattle.kc_told.specs.Objects.{Shapes, told_of}
use Rattle.kc_told.specs.Views.{told_view}
use Rattle.kc_why.specs.Looking.{IsSeen, LeadsAs, SightsAs, TellsAs}
use Rattle.kc_why.specs.Memory.{memory_of}

-- the parts of what is seen, of a memory
pub record Parts (image : Option Image) (rules : Rules) (shapes : Shapes) (address : ℕ) (r : Result Sighted ReadFailed) : Type 0 where
  pub word : LooksAs (λ (s : Sighted). s.sight.word) (λ i. vword i (word_start address)) image r
  pub aliases_are : LooksAs (λ (s : Sighted). s.sight.aliases) (λ i. aliases i rules (vword i (word_start address))) image r
  pub near_are : LooksAs (λ (s : Sighted). s.sight.near.items) (λ i. near i address) image r
  pub page : LooksAs (λ (s : Sighted). s.sight.page.items) (λ i. words i (page_start address) 512) image r
  pub told : LooksAs (λ (s : Sighted). told_view s.told) (λ i. told_of i shapes address) image r
  pub leads : LooksAs (λ (s : Sighted). s.near.items) (λ i. near_of i shapes address) image r

pub asked : (image : Option Image) (rules : Rules) (shapes : Shapes) (address : ℕ) (own : List TableEntry) (copy : Vec TableEntry) (r : Result Sighted ReadFailed) → copy.items ≡ own
    → IfOk r (λ s. s.sight.address ≡ address) → IfOk r (λ s. ◌≡◌ {A = Result (Vec TableEntry) ReadFailed} (Ok copy) (Ok s.sight.entries)) → Parts image rules shapes address r
    → IfSome image (λ i. IfOk r (IsSeen i rules shapes address own))
asked None rules shapes address own copy r copied at way parts = tt
asked (Some i) rules shapes address own copy (Err e) copied at way parts = tt
asked (Some i) rules shapes address own copy (Ok s) copied at way parts =
    let same : copy ≡ s.sight.entries = cc in
    record {
      address_is = at;
      entries_are = ap (λ (v : Vec TableEntry). v.items) (sym same) ∙ copied;
      word = parts.word;
      aliases_are = parts.aliases_are;
      near_are = parts.near_are;
      page = parts.page;
      told = parts.told;
      leads = parts.leads;
    }

-- what is said of an answer
pub record Shown (image : Option Image) (rules : Rules) (shapes : Shapes) (address : ℕ) (r : Result Sighted ReadFailed) : Type 0 where
  pub sight : SightsAs image rules address r
  pub told : TellsAs image shapes address r
  pub leads : LeadsAs image shapes address r

abbrev Entered : KernelAt → ℕ → Vec TableEntry → Option Physical → Type 0
Entered kernel address es physical =
    LooksAs (λ (v : Vec TableEntry). v.items) (λ p. entries (record { physical = p; paging = by_info kernel.told }) (word_start address)) physical (Ok es)

abbrev Said : KernelAt → Rules → Shapes → ℕ → Vec TableEntry → Result Sighted ReadFailed → Option Physical → Type 0
Said kernel rules shapes address es r physical = IfSome (with_paging (by_info kernel.told) physical) (λ i. IfOk r (IsSeen i rules shapes address es.items))

shown_of : (content : Option (List ℕ)) (kernel : KernelAt) (rules : Rules) (shapes : Shapes) (address : ℕ) (es : Vec TableEntry) (r : Result Sighted ReadFailed)
    → Entered kernel address es (stored kernel.segments Tail.Absent content) → Said kernel rules shapes address es r (stored kernel.segments Tail.Absent content)
    → Shown (option_map (memory_of kernel) content) rules shapes address r
shown_of None kernel rules shapes address es r entered said = record { sight = tt; told = tt; leads = tt }
shown_of (Some bytes) kernel rules shapes address es (Err e) entered said = record { sight = tt; told = tt; leads = tt }
shown_of (Some bytes) kernel rules shapes address es (Ok s) entered said =
    let way = said.entries_are ∙ entered in
    record {
      sight = λ i. record { address = said.address_is i; entries = way i; word = said.word i; aliases = said.aliases_are i; near = said.near_are i; page = said.page i };
      told = said.told;
      leads = said.leads;
    }

-- the memory that is asked is that of the dump's bytes
pub shown : (content : Option (List ℕ)) (kernel : KernelAt) (rules : Rules) (shapes : Shapes) (address : ℕ) (es : Vec TableEntry) (r : Result Sighted ReadFailed) (before after : Option Physical)
    → before ≡ stored kernel.segments Tail.Absent content → after ≡ stored kernel.segments Tail.Absent content
    → Entered kernel address es before → Said kernel rules shapes address es r after → Shown (option_map (memory_of kernel) content) rules shapes address r
shown content kernel rules shapes address es r before after is stays entered said =
    shown_of content kernel rules shapes address es r (subst (Entered kernel address es) is entered) (subst (Said kernel rules shapes address es r) stays said)
