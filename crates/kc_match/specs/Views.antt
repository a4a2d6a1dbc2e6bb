-- What contracts see of the code's data.
use Rattle.std.specs.Prelude.{ℕ, List, Option}
use Rattle.std.specs.Borrow.{Bor}
use Rattle.kc_btf.specs.Btf.{Types}
use Rattle.kc_layout.specs.Size.{size}
use Rattle.kc_syms.specs.Symbols.{symbol}
use Rattle.kc_match.specs.declared.fact.Fact.{Fact as CodeFact}
use Rattle.kc_match.specs.declared.fact.Fact.TheVariants as code
use Rattle.kc_match.specs.declared.finding.Finding.{Finding as CodeFinding}
use Rattle.kc_match.specs.declared.kernel.Compared.{Compared as CodeKernel}
use Rattle.kc_match.specs.declared.kernel.Measure.{Measure}
use Rattle.kc_match.specs.declared.kernel.Measure.TheVariants as measure
use Rattle.kc_match.specs.Facts.{Fact, Symbol, Size, Offset}
use Rattle.kc_match.specs.Findings.{Finding}
use Rattle.kc_match.specs.Outcomes.{Compared, byte_of}

abbrev pub parts_view : Bor (List ℕ) × Bor (List ℕ) → List ℕ × List ℕ
parts_view p = (p.0.now, p.1.now)

abbrev pub fact_view : CodeFact → Fact
fact_view (code.Symbol name address) = Symbol name.now address
fact_view (code.Size name size) = Size name.now size
fact_view (code.Offset name member byte) = Offset name.now member.now byte

abbrev pub finding_view : CodeFinding → Finding
finding_view f = record { line = f.line.now; outcome = f.outcome }

abbrev pub kernel_view : CodeKernel → Compared
kernel_view k = record { types = k.types.now; listed = symbol k.symbols.now; kaslr = k.kaslr }

-- what a type tells
abbrev pub measured : Types → Measure → ℕ → Option ℕ
measured types measure.Size id = size types id
measured types (measure.Start member) id = byte_of types member.now id
