-- Words beside an address with what they lead to, one after the other.
use Rattle.std.proofs.Common.{◌≡◌, ℕ, ◌≤◌, length, List, ◌++◌, drop, map, Option, Some, None, Result, Ok, sym, ap, ◌∙◌}
use Rattle.std.specs.Global.{Vec}
use Rattle.std.specs.Prelude.{IfSome}
use Rattle.std.proofs.lemmas.List.{append-nil, drop_all}
use Rattle.kc_memory.specs.declared.words.VWord.{VWord}
use Rattle.kc_memory.specs.Image.{Image}
use Rattle.kc_memory.specs.Stopped.{Stopped}
use Rattle.kc_told.specs.declared.told.PageWords.{PageWords}
use Rattle.kc_slab_scan.specs.declared.cpu_words.CpuShape.{CpuShape}
use Rattle.kc_sight.specs.Looks.{LooksAs}
use Rattle.kc_told.specs.declared.near.NearWord.{NearWord}
use Rattle.kc_told.specs.Near.{near_word, near_words}

-- where no word is left, all have been told
pub all_near : (image : Option Image) (words : Option PageWords) (cpus : Option CpuShape) (near : List (Result VWord Stopped)) (i : ℕ) (told : Vec NearWord) → length near ≤ i
    → IfSome image (λ m. told.items ++ map (near_word m words cpus) (drop i near) ≡ map (near_word m words cpus) near)
    → LooksAs (λ (v : Vec NearWord). v.items) (λ m. near_words m words cpus near) image (Ok told)
unfolding near_words
all_near None words cpus near i told past so_far = tt
all_near (Some m) words cpus near i told past so_far =
    sym (append-nil told.items) ∙ ap (λ l. told.items ++ map (near_word m words cpus) l) (sym (drop_all i near past)) ∙ so_far
