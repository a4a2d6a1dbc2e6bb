-- A document of bytes in UTF-8.
use Rattle.std.proofs.Common.{◌≡◌, ℕ, List, Bool, true, false, Some, None, Ok, Err, refl, IsUtf8}
use Rattle.std.specs.Str.{is_utf8}
use Rattle.std.proofs.lemmas.Str.{IsUtf8-from_is_utf8, is_utf8-from_IsUtf8}
use Rattle.toml.specs.Data.{Members}
use Rattle.toml.specs.Parse.{parse_document}
use Rattle.kc_expr.specs.declared.keys.fault.PRule.TheVariants.{P1}
use Rattle.kc_plan.specs.Steps.{document, parsed}

pub parsed-whole : (bytes : List ℕ) (table : Members) → IsUtf8 bytes → parse_document bytes ≡ Some table → parsed (document bytes) ≡ Ok table
parsed-whole bytes table utf8 meant = rw (is_utf8-from_IsUtf8 bytes utf8, meant)

refused-by : (bytes : List ℕ) (b : Bool) → is_utf8 bytes ≡ b → (IsUtf8 bytes → parse_document bytes ≡ None) → parsed (document bytes) ≡ Err (record { rule = P1; audit = None; key = None })
refused-by bytes true e none = rw (e, none (IsUtf8-from_is_utf8 bytes e))
refused-by bytes false e none = rw e

pub parsed-refused : (bytes : List ℕ) → (IsUtf8 bytes → parse_document bytes ≡ None) → parsed (document bytes) ≡ Err (record { rule = P1; audit = None; key = None })
parsed-refused bytes none = refused-by bytes (is_utf8 bytes) refl none
