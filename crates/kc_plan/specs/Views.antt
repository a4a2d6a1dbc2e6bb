-- What contracts see of a plan and its audits, and of both as they are written.
use Rattle.std.specs.Prelude.{ℕ, List, map, String}
use Rattle.std.specs.BTreeMap.{BTreeMap}
use Rattle.std.specs.Option.{option_copied}
use Rattle.std.specs.Borrow.{Bor}
use Rattle.std.specs.Global.{Global, Vec}
use Rattle.toml.specs.Data.{Members}
use Rattle.toml.specs.View.{table_view}
use Rattle.toml.specs.declared.value.Value.{Value}
use Rattle.kc_syms.specs.Symbols.{symbol}
use Rattle.kc_btf.specs.Btf.{Types}
use Rattle.kc_notes.specs.declared.info.Info.{Info}
use Rattle.kc_syms.specs.declared.symbols.Symbols.{Symbols}
use Rattle.kc_plan.specs.declared.plan.Plan.{Plan}
use Rattle.kc_plan.specs.Planned.{AuditAt, PlanAt, audits_seen}
use Rattle.kc_kinds.specs.Kernels.{Kernel}
use Rattle.kc_plan.specs.declared.item.AuditWords.{AuditWords}
use Rattle.kc_plan.specs.declared.item.Link.{Link}
use Rattle.kc_plan.specs.declared.item.PartWords.{PartWords}
use Rattle.kc_plan.specs.declared.item.PlanWords.{PlanWords}
use Rattle.kc_plan.specs.declared.item.StartWords.{StartWords}
use Rattle.kc_plan.specs.declared.item.TreeWords.{TreeWords}
use Rattle.kc_plan.specs.Audits.{AuditText, PartText, PlanText, StartText, TreeText}

abbrev pub text : Bor (List ℕ) → List ℕ
text word = word.now

abbrev pub texts : Vec (Bor (List ℕ)) → List (List ℕ)
texts words = map text words.items

abbrev pub TableRef : Type 0
TableRef = Bor (BTreeMap (String Global) Value)

abbrev pub tables_in : List TableRef → List Members
tables_in tables = map (λ table. table_view table.now) tables

abbrev pub tables_seen : Vec TableRef → List Members
tables_seen tables = tables_in tables.items

abbrev pub start_text : StartWords → StartText
start_text start = record {
  root = option_copied start.root;
  root_type = option_copied start.root_type;
  root_path = option_copied start.root_path;
  from = option_copied start.from;
  optional = start.optional;
}

abbrev pub tree_text : TreeWords → TreeText
tree_text tree = record { key = option_copied tree.key; unique = tree.unique; cached = tree.cached }

abbrev pub part_text : PartWords → PartText
part_text parts = record { element = option_copied parts.element; link = option_copied parts.link; tree = tree_text parts.tree; checks = texts parts.checks; each = texts parts.each }

abbrev pub audit_text : AuditWords → AuditText
audit_text audit = record { name = audit.name.now; sort = audit.sort; start = start_text audit.start; parts = part_text audit.parts }

abbrev pub audit_texts : Vec AuditWords → List AuditText
audit_texts audits = map audit_text audits.items

abbrev pub plan_text : PlanWords → PlanText
plan_text plan = record { version = plan.version; tail = plan.tail; audits = audit_texts plan.audits }

abbrev pub links_in : Vec Link → List Link
links_in links = links.items

abbrev pub plan_seen : Plan → List AuditAt
plan_seen plan = audits_seen plan.audits

abbrev pub plan_whole : Plan → PlanAt
plan_whole plan = record { version = plan.version; tail = plan.tail; audits = plan_seen plan }

abbrev pub kernel_of : Types → Symbols → Info → Kernel
kernel_of types symbols info = record { types = types; symbols = symbol symbols; kaslr = info.kaslr; five = info.five }
