-- What is found of a kernel.
use Rattle.std.proofs.Common.{◌≡◌, ℕ, List, codes, Option, Some, None, Result, Ok, Err, refl, sym, ap, ◌∙◌}
use Rattle.kc_memory.specs.Image.{Image}
use Rattle.kc_kallsyms.specs.declared.fault.TableFault.TheVariants.{S9}
use Rattle.kc_kallsyms.specs.declared.kernel.Kernel.{Kernel as CodeKernel}
use Rattle.kc_kallsyms.specs.declared.marks.Marks.{Marks}
use Rattle.kc_kallsyms.specs.declared.places.Places.{Places}
use Rattle.kc_kallsyms.specs.declared.reading.Reading.{Reading}
use Rattle.kc_kallsyms.specs.declared.stop.TableStop.{TableStop}
use Rattle.kc_kallsyms.specs.declared.stop.TableStop.TheVariants.{Miss, Fault, Table, NoMemory}
use Rattle.kc_kallsyms.specs.declared.tables.Tables.{Tables as CodeTables}
use Rattle.kc_kallsyms.specs.Addresses.{offset_of, reading_by}
use Rattle.kc_kallsyms.specs.Found.{FindsAs}
use Rattle.kc_kallsyms.specs.Going.{CameAs}
use Rattle.kc_kallsyms.specs.Map.{Kernel, frame_of, kernel_at, kernel_by}
use Rattle.kc_kallsyms.specs.Marked.{MarksFrom}
use Rattle.kc_kallsyms.specs.Reading.{Bad, Missed, ReadsAs, Why}
use Rattle.kc_kallsyms.specs.Symbols.{Symbol, symbols_in}
use Rattle.kc_kallsyms.specs.Tables.{Tables, tables_at}
use Rattle.kc_kallsyms.specs.Views.{tables_view}

-- no symbol is known at first
abbrev pub unmarked : Marks
unmarked = record { text = None; processors = None; start = None; end = None; loaded = None; typed = None }

-- the tables can't be read
kernel-no_tables : (image : Image) (kaslr : ℕ) (places : Places) (e : Why) → tables_at image places ≡ Err e → kernel_at image kaslr places ≡ Err e
unfolding kernel_at
kernel-no_tables image kaslr places e is = rw is refl

-- a symbol can't be read
kernel-no_symbols : (image : Image) (kaslr : ℕ) (places : Places) (tables : Tables) (e : Why) → tables_at image places ≡ Ok tables → symbols_in image places tables ≡ Err e → kernel_at image kaslr places ≡ Err e
unfolding kernel_at
kernel-no_symbols image kaslr places tables e read is = rw (read, is) refl

-- all were read
kernel-symbols : (image : Image) (kaslr : ℕ) (places : Places) (tables : Tables) (symbols : List Symbol) (text : Option ℕ) (reading : Option Reading) → tables_at image places ≡ Ok tables → symbols_in image places tables ≡ Ok symbols
    → offset_of (codes "_stext") symbols ≡ text → reading_by places.text tables.base text ≡ reading
    → kernel_at image kaslr places ≡ kernel_by tables.base kaslr symbols reading
unfolding kernel_at
kernel-symbols image kaslr places tables symbols text reading read is found by = rw (read, is, found, by) refl

pub no_tables : (o : Option Image) (kaslr : ℕ) (places : Places) (stop : TableStop) → ReadsAs tables_view (λ image. tables_at image places) o (Err stop) → FindsAs kaslr places o (Err stop)
no_tables None kaslr places stop read = tt
no_tables (Some image) kaslr places (Miss s) read = kernel-no_tables image kaslr places (Missed s) read
no_tables (Some image) kaslr places Fault read = tt
no_tables (Some image) kaslr places (Table f) read = kernel-no_tables image kaslr places (Bad f) read
no_tables (Some image) kaslr places NoMemory read = tt

pub no_symbols : (o : Option Image) (kaslr : ℕ) (places : Places) (tables : CodeTables) (stop : TableStop) → ReadsAs tables_view (λ image. tables_at image places) o (Ok tables)
    → ReadsAs (λ (xs : List Symbol). xs) (λ image. symbols_in image places (tables_view tables)) o (Err stop) → FindsAs kaslr places o (Err stop)
no_symbols None kaslr places tables stop read is = tt
no_symbols (Some image) kaslr places tables (Miss s) read is = kernel-no_symbols image kaslr places (tables_view tables) (Missed s) read is
no_symbols (Some image) kaslr places tables Fault read is = tt
no_symbols (Some image) kaslr places tables (Table f) read is = kernel-no_symbols image kaslr places (tables_view tables) (Bad f) read is
no_symbols (Some image) kaslr places tables NoMemory read is = tt

-- neither reading fits
pub no_reading : (o : Option Image) (kaslr : ℕ) (places : Places) (tables : CodeTables) (marks : Marks) → ReadsAs tables_view (λ image. tables_at image places) o (Ok tables)
    → CameAs (MarksFrom unmarked marks) (λ image. symbols_in image places (tables_view tables)) o → reading_by places.text tables.base marks.text ≡ None
    → FindsAs kaslr places o (Err (Table S9))
no_reading None kaslr places tables marks read came by = tt
no_reading (Some image) kaslr places tables marks read came by =
    kernel-symbols image kaslr places (tables_view tables) came.all marks.text None read came.is (sym came.holds.text) by

-- one does
pub found : (o : Option Image) (kaslr : ℕ) (places : Places) (kernel : CodeKernel) (reading : Reading) → ReadsAs tables_view (λ image. tables_at image places) o (Ok kernel.tables)
    → CameAs (MarksFrom unmarked kernel.marks) (λ image. symbols_in image places (tables_view kernel.tables)) o → reading_by places.text kernel.tables.base kernel.marks.text ≡ Some reading
    → kernel.frame ≡ record { reading = reading; base = kernel.tables.base; kaslr = kaslr; processors = kernel.marks.processors }
    → FindsAs kaslr places o (Ok kernel)
found None kaslr places kernel reading read came by frame = tt
found (Some image) kaslr places kernel reading read came by frame =
    let framed : kernel.frame ≡ frame_of kernel.tables.base kaslr reading came.all = frame ∙ ap (λ (p : Option ℕ). record { reading = reading; base = kernel.tables.base; kaslr = kaslr; processors = p }) came.holds.processors in
    record {
      symbols = came.all;
      listed = came.is;
      kernel = kernel-symbols image kaslr places (tables_view kernel.tables) came.all kernel.marks.text (Some reading) read came.is (sym came.holds.text) by
          ∙ ap (λ f. let r : Result Kernel Why = Ok (record { symbols = came.all; frame = f }) in r) (sym framed);
      start = came.holds.start;
      end = came.holds.end;
      loaded = came.holds.loaded;
      typed = came.holds.typed;
    }
