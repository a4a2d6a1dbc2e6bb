-- The types that a dump holds, by what the code answers of them.
use Rattle.std.proofs.Common.{◌≡◌, ℕ, ◌≤◌, List, Option, Some, None, option_map, Result, Ok, Err, refl, arith}
use Rattle.std.specs.Global.{Vec}
use Rattle.std.specs.Prelude.{IfSome}
use Rattle.kc_outside.specs.Counts.{Rose}
use Rattle.kc_memory.specs.Image.{Image}
use Rattle.kc_question.specs.Memory.{bare_image}
use Rattle.kc_kallsyms.specs.declared.fault.TableFault.{TableFault}
use Rattle.kc_kallsyms.specs.declared.places.Places.{Places}
use Rattle.kc_kallsyms.specs.declared.stop.TableStop.{TableStop}
use Rattle.kc_kallsyms.specs.declared.stop.TableStop.TheVariants.{Miss, Fault, Table, NoMemory}
use Rattle.kc_kallsyms.specs.Places.{places_in}
use Rattle.kc_kallsyms.specs.Reading.{CountsReadFaults, ReadsAs, Why}
use Rattle.kc_kallsyms.specs.Types.{types_at}
use Rattle.kc_command.specs.declared.halt.Halt.{Halt}
use Rattle.kc_command.specs.Halts.{NotRefused, OnStore, UnlessStore}
use Rattle.kc_command.specs.Kernels.{NotedAt}
use Rattle.kc_command.specs.Paging.{by_info}
use Rattle.kc_match.specs.Own.{FindsOwn, IsOwn}

-- what is read of a dump whose bytes are told
pub told : (content : Option (List ℕ)) (image : List ℕ → Image) (truth : Image → Result (List ℕ) Why) (r : Result (Vec ℕ) TableStop)
    → IfSome content (λ bytes. ReadsAs (λ (v : Vec ℕ). v.items) truth (Some (image bytes)) r) → ReadsAs (λ (v : Vec ℕ). v.items) truth (option_map image content) r
told None image truth r is = tt
told (Some bytes) image truth r is = is

-- they are found, or memory doesn't give them
pub own_found : (content : Option (List ℕ)) (noted : NotedAt) (note : List ℕ) (places : Places) (bytes : Result (Vec ℕ) TableStop) (r : Result (Option (Vec ℕ)) Halt)
    → places_in note ≡ Ok places
    → ReadsAs (λ (v : Vec ℕ). v.items) (λ image. types_at image noted.told.kaslr places) (option_map (λ b. bare_image b noted.parts.segments (by_info noted.told)) content) bytes
    → IsOwn bytes r → FindsOwn noted note content r
own_found None noted note places bytes r is read own = tt
own_found (Some b) noted note places (Ok v) r is read own = rw (own, is, read) refl
own_found (Some b) noted note places (Err (Miss s)) r is read own = rw (own, is, read) refl
own_found (Some b) noted note places (Err Fault) r is read own = rw own tt
own_found (Some b) noted note places (Err (Table fault)) r is read own = rw (own, is, read) refl
own_found (Some b) noted note places (Err NoMemory) r is read own = rw own tt

-- the note doesn't lead to them
pub own_none : (content : Option (List ℕ)) (noted : NotedAt) (note : List ℕ) (fault : TableFault) (r : Result (Option (Vec ℕ)) Halt)
    → places_in note ≡ Err fault → r ≡ Ok None → FindsOwn noted note content r
own_none None noted note fault r is none = tt
own_none (Some b) noted note fault r is none = rw (none, is) refl

-- the count of failures of the store
pub record Counted (r : Result (Option (Vec ℕ)) Halt) (before after : ℕ) : Type 0 where
  pub later : before ≤ after
  pub quiet : UnlessStore r (after ≡ before)
  pub cause : OnStore r (Rose before after)

same : (before after : ℕ) → after ≡ before → before ≤ after
same before after is = omega arith

pub counted : (bytes : Result (Vec ℕ) TableStop) (r : Result (Option (Vec ℕ)) Halt) (before after : ℕ) → CountsReadFaults bytes before after → IsOwn bytes r → Counted r before after
counted (Ok v) r before after quiet own = record { later = same before after quiet; quiet = rw own quiet; cause = rw own tt }
counted (Err (Miss s)) r before after quiet own = record { later = same before after quiet; quiet = rw own quiet; cause = rw own tt }
counted (Err Fault) r before after rose own = record { later = rose.0; quiet = rw own tt; cause = rw own rose.1 }
counted (Err (Table fault)) r before after quiet own = record { later = same before after quiet; quiet = rw own quiet; cause = rw own tt }
counted (Err NoMemory) r before after quiet own = record { later = same before after quiet; quiet = rw own quiet; cause = rw own tt }

-- nothing is refused
pub not_refused : (bytes : Result (Vec ℕ) TableStop) (r : Result (Option (Vec ℕ)) Halt) → IsOwn bytes r → NotRefused r
not_refused (Ok v) r own = rw own tt
not_refused (Err (Miss s)) r own = rw own tt
not_refused (Err Fault) r own = rw own tt
not_refused (Err (Table fault)) r own = rw own tt
not_refused (Err NoMemory) r own = rw own tt
