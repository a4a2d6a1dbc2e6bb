-- What words show of how they came to be wrong. Source: the kernel's include/linux/types.h, `struct list_head`, whose `prev` comes 8 bytes after its `next`;
-- include/linux/list.h, `__list_add`, which writes the node's own pointers and those of its new neighbours, and `list_del`, which leaves LIST_POISON1 in `next`
-- and LIST_POISON2 in `prev` (include/linux/poison.h; x86 adds CONFIG_ILLEGAL_POINTER_VALUE, dead000000000000).
use Rattle.std.specs.Prelude.{ℕ, ◌*◌, ◌/◌, ◌%◌, ◌^◌, ◌==◌, ◌&&◌, not, Bool, true, false, if◌then◌else◌, List, [], ◌++◌, codes, length, slice_get, Option, Some, None, option_map, option_and_then}
use Rattle.std.specs.Option.{option_map_or}
use Rattle.kc_memory.specs.declared.rule.Rule.{Rule}
use Rattle.kc_memory.specs.declared.rule.Rule.TheVariants.{L1, H1, R1, X3, X4, T1, T3, U1, G1, G2}
use Rattle.kc_memory.specs.declared.words.VWord.{VWord}
use Rattle.kc_memory.specs.Image.{Image}
use Rattle.kc_memory.specs.Translation.{vword}
use Rattle.kc_text.specs.Text.{hex}
use Rattle.kc_found.specs.Nodes.{at_offset, readable}
use Rattle.kc_found.specs.Violations.{Violation}
use Rattle.kc_repair.specs.declared.suspect.suspect.Suspect.{Suspect}
use Rattle.kc_repair.specs.Suspect.Links.{node_of}
use Rattle.kc_cause.specs.declared.signs.Sign.{Sign}
use Rattle.kc_cause.specs.declared.signs.Sign.TheVariants.{Twice, Deleted, Copied}

abbrev pub sign_line : Sign → List ℕ
sign_line (Twice node) = codes "twice " ++ hex node ++ codes "\n"
sign_line (Deleted node) = codes "deleted " ++ hex node ++ codes "\n"
sign_line (Copied node) = codes "copy of " ++ hex node ++ codes "\n"

abbrev pub sign_lines : Option Sign → List ℕ
sign_lines sign = option_map_or sign_line sign []

-- ---- by two words that repair together

-- Two links that hold a node, and become links to each other: the node was added once more, and was left where it stood. The first is the `next` of a
-- node, and the second the `prev` of the node that it becomes.
abbrev pub is_twice : Suspect → Suspect → Bool
is_twice a b = (a.now == b.now) && ((at_offset a.value 8 == b.va) && (b.value == a.va))

-- the two words of a node that was taken out
abbrev pub is_deleted : Suspect → Suspect → Bool
is_deleted a b = (a.now == 16045481047390945536) && ((b.now == 16045481047390945570) && (at_offset a.va 8 == b.va))

abbrev pub sign_by : Suspect → Suspect → Option Sign
sign_by a b =
    if is_twice a b then Some (Twice a.now)
    else (if is_deleted a b then Some (Deleted a.va) else (if is_deleted b a then Some (Deleted b.va) else None))

abbrev pub sign_of : List Suspect → Option Sign
sign_of words = if length words == 2 then option_and_then (λ (a : Suspect). option_and_then (sign_by a) (slice_get words 1)) (slice_get words 0) else None

-- ---- by the words beside a violation

-- the number at an address, where it can be read
abbrev pub number_at : Image → ℕ → Option ℕ
number_at image at = option_map (λ (w : VWord). w.value) (readable (vword image at))

abbrev pub is_some_of : ℕ → Option ℕ → Bool
is_some_of value found = option_map_or (λ (n : ℕ). n == value) found false

-- whether two addresses hold the same number, which isn't 0
abbrev pub is_shared : Option ℕ → ℕ → Bool
is_shared found n = not (n == 0) && is_some_of n found

abbrev pub same_at : Image → ℕ → ℕ → Bool
same_at image one other = option_map_or (is_shared (number_at image one)) (number_at image other) false

-- A ring's node whose `prev` is a node that isn't the one before, or a hash chain's node whose `pprev` is a link that isn't the one that led here. Where that
-- one leads to another node, which leads back to it and has the same `next`, the node's bytes are those of the other one. (`struct hlist_node` has `pprev` 8
-- bytes after its `next`.)
abbrev pub is_copied : Image → ℕ → ℕ → ℕ → Bool
is_copied image node prev other = not (other == node) && (is_some_of prev (number_at image (at_offset other 8)) && same_at image node other)

abbrev pub led_sign : Image → ℕ → ℕ → ℕ → Option Sign
led_sign image node prev other = if is_copied image node prev other then Some (Copied other) else None

abbrev pub prev_sign : Image → ℕ → ℕ → Option Sign
prev_sign image node prev = option_and_then (led_sign image node prev) (number_at image prev)

abbrev pub list_sign : Image → Violation → Option Sign
list_sign image v = option_and_then (prev_sign image (node_of v.at 8)) (number_at image v.at)

abbrev pub is_of_links : Rule → Bool
is_of_links L1 = true
is_of_links H1 = true
is_of_links _ = false

-- Which rules expect a pointer in a whole word, of a tree's node one that has the colour in its lowest bits (include/linux/rbtree_augmented.h, `rb_parent`), or
-- a process id's number, an `int` (include/linux/pid.h, `struct upid`). Not `real_parent`, which mostly stands in the next word, `parent`, too (include/linux/sched.h).
abbrev pub is_of_pointer : Rule → Bool
is_of_pointer L1 = true
is_of_pointer H1 = true
is_of_pointer R1 = true
is_of_pointer X3 = true
is_of_pointer X4 = true
is_of_pointer T1 = true
is_of_pointer T3 = true
is_of_pointer U1 = true
is_of_pointer G1 = true
is_of_pointer G2 = true
is_of_pointer _ = false

abbrev pub is_of_parent : Rule → Bool
is_of_parent R1 = true
is_of_parent _ = false

abbrev pub is_of_process : Rule → Bool
is_of_process G1 = true
is_of_process _ = false

abbrev pub pointer_of : Rule → ℕ → ℕ
pointer_of rule value = if is_of_parent rule then value / 4 * 4 else (if is_of_process rule then value % 2 ^ 32 else value)

-- the number that is expected stands beside its place, as in an object that was moved, or where a pointer to it is off
unfoldable pub beside_line : Image → Rule → ℕ → ℕ → List ℕ
beside_line image rule number at =
    if option_map_or (λ (n : ℕ). pointer_of rule n == number) (number_at image at) false then codes "beside " ++ hex at ++ codes "\n" else []

-- after its place, and before it: the word before the `prev` of a list's node is its `next`, which in a list of one node is the same
abbrev pub is_of_list : Rule → Bool
is_of_list L1 = true
is_of_list _ = false

abbrev pub behind_lines : Image → Rule → ℕ → ℕ → List ℕ
behind_lines image rule number at = beside_line image rule number (node_of at 8) ++ beside_line image rule number (node_of at 16)

abbrev pub before_lines : Image → Rule → ℕ → ℕ → List ℕ
before_lines image rule number at = if is_of_list rule then [] else behind_lines image rule number at

abbrev pub around_lines : Image → Rule → ℕ → ℕ → List ℕ
around_lines image rule at number =
    beside_line image rule number (at_offset at 8) ++ beside_line image rule number (at_offset at 16) ++ before_lines image rule number at

-- A null pointer is everywhere: it counts where the word before its place stands in its place, too, as where the words from there on were moved by 8 bytes.
abbrev pub is_shifted : Image → ℕ → Bool
is_shifted image at = same_at image (node_of at 8) at && is_some_of 0 (number_at image (at_offset at 8))

abbrev pub null_lines : Image → ℕ → List ℕ
null_lines image at = if is_shifted image at then codes "beside " ++ hex (at_offset at 8) ++ codes "\n" else []

abbrev pub pointer_lines : Image → Rule → ℕ → ℕ → List ℕ
pointer_lines image rule at number = if number == 0 then null_lines image at else around_lines image rule at number

abbrev pub beside_lines : Image → Violation → List ℕ
beside_lines image v = if is_of_pointer v.rule then option_map_or (pointer_lines image v.rule v.at) v.expected [] else []
