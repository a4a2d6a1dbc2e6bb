-- What a kernel has to tell of an address, by the rows of its map.
use Rattle.std.proofs.Common.{◌≡◌, ℕ, List, Option, Ok, ap, ◌∙◌}
use Rattle.kc_btf.specs.Btf.{Types}
use Rattle.kc_memory.specs.Image.{Image}
use Rattle.kc_notes.specs.declared.info.Info.{Info}
use Rattle.kc_syms.specs.Rows.{RowText, addresses, rows}
use Rattle.kc_sight.specs.declared.symbol.ImageMap.{ImageMap}
use Rattle.kc_sight.specs.declared.symbol.ImageParts.{ImageParts}
use Rattle.kc_sight.specs.Holders.{holders}
use Rattle.kc_sight.specs.Laws.{HoldersAreRows, SymbolsAreRows, SymbolsFromAreRows}
use Rattle.kc_sight.specs.Nearest.{image_parts, parts_by}
use Rattle.kc_sight.specs.Views.{symbols_holding}
use Rattle.kc_owner.specs.declared.area.shape.AreaShape.{AreaShape}
use Rattle.kc_owner.specs.Area.Shapes.{area_shape}
use Rattle.kc_told.specs.declared.told.PageWords.{PageWords}
use Rattle.kc_slab_scan.specs.declared.cpu_words.CpuShape.{CpuShape}
use Rattle.kc_slab_scan.specs.CpuShapes.{cpu_shape}
use Rattle.kc_module_symbols.specs.declared.shape.SymbolShape.{SymbolShape}
use Rattle.kc_module_symbols.specs.Shapes.{symbol_shape}
use Rattle.kc_told.specs.Objects.{kernel_by, kernel_with, page_words, shapes_by}
use Rattle.kc_told.specs.SeenText.{map_symbols, symbols_by}
use Rattle.kc_told.specs.Views.{shapes_view}

-- the symbols of a map that was read are those of its rows
pub symbols_read : SymbolsAreRows → SymbolsFromAreRows → (m : ImageMap) (read : List RowText) → rows m.map.now ≡ Ok read → m.parts ≡ image_parts m.kaslr read → map_symbols m ≡ symbols_by m.kaslr read
symbols_read law above m read is parts = λ i. record { image = λ address. law m read address is parts i; from = λ from address. above m read from address is i }

-- the parts of the image are those of its rows
pub parts_read : (kaslr : ℕ) (listed : List ℕ → List ℕ) (read : List RowText) → ((name : List ℕ) → listed name ≡ addresses name read) → parts_by kaslr listed ≡ image_parts kaslr read
parts_read kaslr listed read same = let one : listed ≡ (λ name. addresses name read) = λ i name. same name i in ap (parts_by kaslr) one

-- what a kernel has to tell is what its rows make of it
pub shapes_read : HoldersAreRows → (types : Types) (info : Info) (note : List ℕ) (listed : List ℕ → List ℕ) (m : ImageMap) (read : List RowText) (objects : Option PageWords) (cpus : Option CpuShape) (areas : AreaShape) (symbols : Option SymbolShape) → rows m.map.now ≡ Ok read
    → ((name : List ℕ) → listed name ≡ addresses name read) → m.kaslr ≡ info.kaslr → m.parts ≡ parts_by info.kaslr listed
    → objects ≡ page_words (kernel_with types listed info) note → cpus ≡ cpu_shape (kernel_with types listed info) → areas ≡ area_shape (kernel_with types listed info) → symbols ≡ symbol_shape (kernel_with types listed info)
    → shapes_view (record { words = record { objects = objects; cpus = cpus; areas = areas; symbols = symbols }; map = m }) ≡ shapes_by types read info note
shapes_read law types info note listed m read objects cpus areas symbols is same moved parts object cpu area table =
    let one : listed ≡ (λ name. addresses name read) = λ i name. same name i in
    let parts_are : m.parts ≡ image_parts info.kaslr read = parts ∙ parts_read info.kaslr listed read same in
    let held : (image : Image) (value : ℕ) → symbols_holding image m value ≡ holders image (image_parts info.kaslr read) info.kaslr value read =
    λ image value. law image m read value is ∙ ap (λ (p : ImageParts). holders image p m.kaslr value read) parts_are
    ∙ ap (λ (k : ℕ). holders image (image_parts info.kaslr read) k value read) moved in
    let objects_are : objects ≡ page_words (kernel_by types read info) note = object ∙ ap (λ (f : List ℕ → List ℕ). page_words (kernel_with types f info) note) one in
    let cpus_are : cpus ≡ cpu_shape (kernel_by types read info) = cpu ∙ ap (λ (f : List ℕ → List ℕ). cpu_shape (kernel_with types f info)) one in
    let areas_are : areas ≡ area_shape (kernel_by types read info) = area ∙ ap (λ (f : List ℕ → List ℕ). area_shape (kernel_with types f info)) one in
    let symbols_are : symbols ≡ symbol_shape (kernel_by types read info) = table ∙ ap (λ (f : List ℕ → List ℕ). symbol_shape (kernel_with types f info)) one in
    λ i. record { objects = objects_are i; cpus = cpus_are i; areas = areas_are i; symbols = symbols_are i; end = (parts_are i).end; holding = λ image value. held image value i }
