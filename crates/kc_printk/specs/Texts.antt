-- The lines of the log, as `makedumpfile --dump-dmesg` prints those of records that are in order (version 1.7.2).
use Rattle.std.specs.Prelude.{ℕ, ◌-◌, ◌/◌, ◌%◌, Bool, ◌&&◌, ◌||◌, nat_eq, nat_le, nat_lt, List, [], ◌∷◌, ◌++◌, length, codes, decimal, replicate, if◌then◌else◌}
use Rattle.kc_text.specs.Compose.{texts}
use Rattle.kc_text.specs.Text.{hex}
use Rattle.kc_word.specs.Hex.{hex_digit}
use Rattle.kc_printk.specs.declared.record.LogRule.{LogRule}
use Rattle.kc_printk.specs.Records.{code_of}

-- a number in decimal, after so many bytes that it is so wide
abbrev pub padded : ℕ → ℕ → ℕ → List ℕ
padded width fill n = replicate (width - length (decimal n)) fill ++ decimal n

-- the time in seconds and microseconds: [%5lld.%06ld] and a space
unfoldable pub prefix : ℕ → List ℕ
prefix time = codes "[" ++ padded 5 32 (time / 1000000000) ++ codes "." ++ padded 6 48 (time % 1000000000 / 1000) ++ codes "] "

-- a visible character of ASCII, a space, a tab, a vertical tab, a form feed or a carriage return
abbrev pub is_plain : ℕ → Bool
is_plain byte = nat_eq byte 9 || (nat_le 11 byte && nat_le byte 13) || (nat_le 32 byte && nat_le byte 126)

-- Another byte is in hex. It is printed as a signed number of 32 bits, so one from 128 on has six digits f first.
abbrev pub escaped : ℕ → List ℕ
escaped byte = (if nat_lt byte 128 then codes "\\x" else codes "\\xffffff") ++ hex_digit (byte / 16) ∷ hex_digit (byte % 16) ∷ []

-- the lines after a newline are set in so far
unfoldable pub shown_byte : ℕ → ℕ → List ℕ
shown_byte indent byte =
    if nat_eq byte 10 then codes "\n" ++ replicate indent 32
    else (if is_plain byte then byte ∷ [] else escaped byte)

abbrev pub shown_text : ℕ → List ℕ → List ℕ
shown_text indent bytes = texts (shown_byte indent) bytes

-- the time, the text, whose further lines are set in as far as the time reaches, and a newline
unfoldable pub record_line : ℕ → List ℕ → List ℕ
record_line time bytes = prefix time ++ shown_text (length (prefix time)) bytes ++ codes "\n"

-- a record that can't be read: the number of its descriptor in the ring, the rule, and the address that shows it
unfoldable pub unknown_line : ℕ → LogRule → ℕ → List ℕ
unknown_line index rule at = codes "record " ++ decimal index ++ codes " unknown " ++ code_of rule ++ codes " " ++ hex at ++ codes "\n"
