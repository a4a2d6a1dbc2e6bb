-- Where a list of modules begins, of what was found.
use Rattle.std.proofs.Common.{◌≡◌, ℕ, codes, List, Option, Some, None, Result, Ok, Err, refl, sym, ap, ◌∙◌}
use Rattle.kc_memory.specs.Image.{Image}
use Rattle.kc_kallsyms.specs.declared.fault.ModuleList.{ModuleList}
use Rattle.kc_kallsyms.specs.declared.fault.ModuleList.TheVariants.{Loaded, Typed}
use Rattle.kc_kallsyms.specs.declared.kernel.Kernel.{Kernel as CodeKernel}
use Rattle.kc_kallsyms.specs.declared.kernel.ListStart.{ListStart}
use Rattle.kc_kallsyms.specs.declared.places.Places.{Places}
use Rattle.kc_kallsyms.specs.declared.stop.TableStop.{TableStop}
use Rattle.kc_kallsyms.specs.declared.stop.TableStop.TheVariants.{Miss, Fault, Table, NoMemory}
use Rattle.kc_kallsyms.specs.Addresses.{offset_of}
use Rattle.kc_kallsyms.specs.Found.{FindsAs, IsFound}
use Rattle.kc_kallsyms.specs.Map.{Kernel, kernel_at}
use Rattle.kc_kallsyms.specs.Marked.{head_in}
use Rattle.kc_kallsyms.specs.Modules.{list_key, start_at, start_between, start_of}
use Rattle.kc_kallsyms.specs.Reading.{Bad, Missed, Reads, ReadsAs, Why}
use Rattle.kc_kallsyms.specs.Views.{start_view}

start-stops : (image : Image) (kaslr : ℕ) (places : Places) (list : ModuleList) (e : Why) → kernel_at image kaslr places ≡ Err e → start_at image kaslr places list ≡ Err e
unfolding start_at
start-stops image kaslr places list e is = rw is refl

pub start_stops : (o : Option Image) (kaslr : ℕ) (places : Places) (list : ModuleList) (stop : TableStop) → FindsAs kaslr places o (Err stop)
    → ReadsAs start_view (λ image. start_at image kaslr places list) o (Err stop)
start_stops None kaslr places list stop is = tt
start_stops (Some image) kaslr places list (Miss s) is = start-stops image kaslr places list (Missed s) is
start_stops (Some image) kaslr places list Fault is = tt
start_stops (Some image) kaslr places list (Table f) is = start-stops image kaslr places list (Bad f) is
start_stops (Some image) kaslr places list NoMemory is = tt

start-is : (image : Image) (kaslr : ℕ) (places : Places) (list : ModuleList) (kernel : Kernel) → kernel_at image kaslr places ≡ Ok kernel → start_at image kaslr places list ≡ start_of image list kernel
unfolding start_at
start-is image kaslr places list kernel is = rw is refl

head-is : (image : Image) (kaslr : ℕ) (places : Places) (list : ModuleList) (kernel : CodeKernel) (found : IsFound image kaslr places kernel)
    → offset_of (list_key list) found.symbols ≡ head_in kernel.marks list
head-is image kaslr places Loaded kernel found = sym found.loaded
head-is image kaslr places Typed kernel found = sym found.typed

start-by : (image : Image) (kaslr : ℕ) (places : Places) (list : ModuleList) (kernel : CodeKernel) → IsFound image kaslr places kernel
    → start_at image kaslr places list ≡ start_between image kernel.frame list kernel.marks.start kernel.marks.end (head_in kernel.marks list)
start-by image kaslr places list kernel found =
    start-is image kaslr places list (record { symbols = found.symbols; frame = kernel.frame }) found.kernel
    ∙ ap (λ (s : Option ℕ). start_between image kernel.frame list s (offset_of (codes "__stop_BTF") found.symbols) (offset_of (list_key list) found.symbols)) (sym found.start)
    ∙ ap (λ (s : Option ℕ). start_between image kernel.frame list kernel.marks.start s (offset_of (list_key list) found.symbols)) (sym found.end)
    ∙ ap (λ (s : Option ℕ). start_between image kernel.frame list kernel.marks.start kernel.marks.end s) (head-is image kaslr places list kernel found)

pub started : (o : Option Image) (kaslr : ℕ) (places : Places) (list : ModuleList) (kernel : CodeKernel) (r : Result ListStart TableStop) → FindsAs kaslr places o (Ok kernel)
    → ReadsAs start_view (λ image. start_between image kernel.frame list kernel.marks.start kernel.marks.end (head_in kernel.marks list)) o r
    → ReadsAs start_view (λ image. start_at image kaslr places list) o r
started None kaslr places list kernel r found read = tt
started (Some image) kaslr places list kernel (Ok v) found read = start-by image kaslr places list kernel found ∙ read
started (Some image) kaslr places list kernel (Err (Miss s)) found read = start-by image kaslr places list kernel found ∙ read
started (Some image) kaslr places list kernel (Err Fault) found read = tt
started (Some image) kaslr places list kernel (Err (Table f)) found read = start-by image kaslr places list kernel found ∙ read
started (Some image) kaslr places list kernel (Err NoMemory) found read = tt
