-- What is read of a dump whose bytes are told.
use Rattle.std.proofs.Common.{ℕ, List, Option, Some, None, option_map, Result}
use Rattle.std.specs.Prelude.{IfSome}
use Rattle.std.specs.Global.{Vec}
use Rattle.kc_memory.specs.Image.{Image}
use Rattle.kc_files.specs.declared.unread.Unread.{Unread}
use Rattle.kc_files.specs.Reading.{ReadsAs, Why}

pub told : (content : Option (List ℕ)) (image : List ℕ → Image) (truth : Image → Result (List ℕ) Why) (r : Result (Vec ℕ) Unread)
    → IfSome content (λ bytes. ReadsAs (λ (v : Vec ℕ). v.items) truth (Some (image bytes)) r) → ReadsAs (λ (v : Vec ℕ). v.items) truth (option_map image content) r
told None image truth r is = tt
told (Some bytes) image truth r is = is
