-- The nodes of a list of the kernel, from its head on. The first word of a node is the address of the next one, and that of the last one is
-- the head (include/linux/types.h, `struct list_head`: `next` comes first).
use Rattle.std.specs.Prelude.{ℕ, zero, suc, ◌^◌, nat_eq, if◌then◌else◌, List, [], ◌∷◌, Result, Ok, Err}
use Rattle.kc_memory.specs.Image.{Image}
use Rattle.kc_kallsyms.specs.declared.fault.TableFault.TheVariants.{S15}
use Rattle.kc_kallsyms.specs.Bytes.{eight_at}
use Rattle.kc_kallsyms.specs.Reading.{◌>>=◌, Why, Bad}

-- those from one on, of which there are fewer than so many
unfoldable pub nodes_from : Image → ℕ → ℕ → ℕ → Result (List ℕ) Why
nodes_from image head zero at = Err (Bad S15)
nodes_from image head (suc room) at =
    if nat_eq at head then Ok []
    else (eight_at image at >>= (λ next. nodes_from image head room next >>= (λ rest. Ok (at ∷ rest))))

-- all of them, fewer than 65,536
unfoldable pub nodes_at : Image → ℕ → Result (List ℕ) Why
nodes_at image head = eight_at image head >>= nodes_from image head (2 ^ 16)
