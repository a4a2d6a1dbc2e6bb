-- A map and types of what was found.
use Rattle.std.proofs.Common.{◌≡◌, ℕ, codes, List, [], ◌++◌, Option, Some, None, Result, Ok, Err, refl, sym, ap, ◌∙◌}
use Rattle.std.specs.Global.{Vec}
use Rattle.kc_memory.specs.Image.{Image}
use Rattle.kc_kallsyms.specs.declared.kernel.Kernel.{Kernel as CodeKernel}
use Rattle.kc_kallsyms.specs.declared.map.Lines.{Lines}
use Rattle.kc_kallsyms.specs.declared.places.Places.{Places}
use Rattle.kc_kallsyms.specs.declared.stop.TableStop.{TableStop}
use Rattle.kc_kallsyms.specs.declared.stop.TableStop.TheVariants.{Miss, Fault, Table, NoMemory}
use Rattle.kc_kallsyms.specs.Addresses.{offset_of}
use Rattle.kc_kallsyms.specs.Found.{FindsAs, IsFound}
use Rattle.kc_kallsyms.specs.Going.{CameAs}
use Rattle.kc_kallsyms.specs.Lined.{LinesFrom}
use Rattle.kc_kallsyms.specs.Map.{Kernel, kernel_at, lines, map_at}
use Rattle.kc_kallsyms.specs.Reading.{Bad, Missed, ReadsAs, Why}
use Rattle.kc_kallsyms.specs.Symbols.{Symbol, symbols_in}
use Rattle.kc_kallsyms.specs.Types.{types_at, types_between, types_of}
use Rattle.kc_kallsyms.specs.Views.{tables_view}

abbrev Texts : Option Image → (Image → Result (List ℕ) Why) → Result (Vec ℕ) TableStop → Type 0
Texts o truth r = ReadsAs (λ (v : Vec ℕ). v.items) truth o r

map-stops : (image : Image) (kaslr : ℕ) (places : Places) (e : Why) → kernel_at image kaslr places ≡ Err e → map_at image kaslr places ≡ Err e
unfolding map_at
map-stops image kaslr places e is = rw is refl

types-stops : (image : Image) (kaslr : ℕ) (places : Places) (e : Why) → kernel_at image kaslr places ≡ Err e → types_at image kaslr places ≡ Err e
unfolding types_at
types-stops image kaslr places e is = rw is refl

pub map_stops : (o : Option Image) (kaslr : ℕ) (places : Places) (stop : TableStop) → FindsAs kaslr places o (Err stop) → Texts o (λ image. map_at image kaslr places) (Err stop)
map_stops None kaslr places stop is = tt
map_stops (Some image) kaslr places (Miss s) is = map-stops image kaslr places (Missed s) is
map_stops (Some image) kaslr places Fault is = tt
map_stops (Some image) kaslr places (Table f) is = map-stops image kaslr places (Bad f) is
map_stops (Some image) kaslr places NoMemory is = tt

pub types_stops : (o : Option Image) (kaslr : ℕ) (places : Places) (stop : TableStop) → FindsAs kaslr places o (Err stop) → Texts o (λ image. types_at image kaslr places) (Err stop)
types_stops None kaslr places stop is = tt
types_stops (Some image) kaslr places (Miss s) is = types-stops image kaslr places (Missed s) is
types_stops (Some image) kaslr places Fault is = tt
types_stops (Some image) kaslr places (Table f) is = types-stops image kaslr places (Bad f) is
types_stops (Some image) kaslr places NoMemory is = tt

map-is : (image : Image) (kaslr : ℕ) (places : Places) (kernel : Kernel) (text : List ℕ) → kernel_at image kaslr places ≡ Ok kernel → text ≡ lines kernel.frame kernel.symbols → map_at image kaslr places ≡ Ok text
unfolding map_at
map-is image kaslr places kernel text is made = rw (is, made) refl

same_symbols : (r : Result (List Symbol) Why) (xs ys : List Symbol) → r ≡ Ok xs → r ≡ Ok ys → xs ≡ ys
same_symbols r xs ys is too = cc

pub mapped : (o : Option Image) (kaslr : ℕ) (places : Places) (kernel : CodeKernel) (first last : Lines) → FindsAs kaslr places o (Ok kernel)
    → CameAs (LinesFrom first last) (λ image. symbols_in image places (tables_view kernel.tables)) o → first.frame ≡ kernel.frame → first.text.items ≡ []
    → Texts o (λ image. map_at image kaslr places) (Ok last.text)
mapped None kaslr places kernel first last found came frame empty = tt
mapped (Some image) kaslr places kernel first last found came frame empty =
    let same = same_symbols (symbols_in image places (tables_view kernel.tables)) came.all found.symbols came.is found.listed in
    map-is image kaslr places (record { symbols = found.symbols; frame = kernel.frame }) last.text.items found.kernel
    (came.holds.text ∙ ap (λ (t : List ℕ). t ++ lines first.frame came.all) empty ∙ ap (λ f. lines f came.all) frame ∙ ap (lines kernel.frame) same)

types-are : (image : Image) (kaslr : ℕ) (places : Places) (kernel : Kernel) → kernel_at image kaslr places ≡ Ok kernel → types_at image kaslr places ≡ types_of image kernel
unfolding types_at
types-are image kaslr places kernel is = rw is refl

types-by : (image : Image) (kaslr : ℕ) (places : Places) (kernel : CodeKernel) → IsFound image kaslr places kernel
    → types_at image kaslr places ≡ types_between image kernel.frame kernel.marks.start kernel.marks.end
types-by image kaslr places kernel found =
    types-are image kaslr places (record { symbols = found.symbols; frame = kernel.frame }) found.kernel
    ∙ ap (λ (s : Option ℕ). types_between image kernel.frame s (offset_of (codes "__stop_BTF") found.symbols)) (sym found.start)
    ∙ ap (λ (s : Option ℕ). types_between image kernel.frame kernel.marks.start s) (sym found.end)

pub typed : (o : Option Image) (kaslr : ℕ) (places : Places) (kernel : CodeKernel) (r : Result (Vec ℕ) TableStop) → FindsAs kaslr places o (Ok kernel)
    → Texts o (λ image. types_between image kernel.frame kernel.marks.start kernel.marks.end) r → Texts o (λ image. types_at image kaslr places) r
typed None kaslr places kernel r found read = tt
typed (Some image) kaslr places kernel (Ok v) found read = types-by image kaslr places kernel found ∙ read
typed (Some image) kaslr places kernel (Err (Miss s)) found read = types-by image kaslr places kernel found ∙ read
typed (Some image) kaslr places kernel (Err Fault) found read = tt
typed (Some image) kaslr places kernel (Err (Table f)) found read = types-by image kaslr places kernel found ∙ read
typed (Some image) kaslr places kernel (Err NoMemory) found read = tt
