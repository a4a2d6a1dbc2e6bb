-- The line of a refusal.
use Rattle.std.specs.Prelude.{ℕ, List, [], ◌++◌, codes, decimal, Option, Some, None}
use Rattle.kc_outside.specs.declared.store.Slot.{Slot}
use Rattle.kc_outside.specs.declared.store.Slot.TheVariants.{Dump, Btf, Map, Plan, Report, Module}
use Rattle.kc_elf.specs.declared.fault.CoreFault.{CoreFault}
use Rattle.kc_elf.specs.declared.fault.CoreFault.TheVariants.{E1, E2, E3, E4, E5, E6, E7, E8, E9, E10}
use Rattle.kc_notes.specs.declared.fault.NoteFault.{NoteFault}
use Rattle.kc_notes.specs.declared.fault.NoteFault.TheVariants.{V1, V2, V3, V4, V5, V6, V7}
use Rattle.kc_notes.specs.declared.fault.NoteKey.{NoteKey}
use Rattle.kc_notes.specs.declared.fault.NoteKey.TheVariants.{L5, Offset, Sme}
use Rattle.kc_kallsyms.specs.declared.fault.TableFault.{TableFault}
use Rattle.kc_kallsyms.specs.declared.fault.TableFault.TheVariants.{S4, S5, S6, S7, S8, S9, S10, S11, S12, S13, S14, S15, S16, S17}
use Rattle.kc_kallsyms.specs.Modules.{list_key, member_key}
use Rattle.kc_kallsyms.specs.Places.{line_key}
use Rattle.kc_printk.specs.declared.fault.LogFault.{LogFault}
use Rattle.kc_printk.specs.declared.fault.LogFault.TheVariants as logs
use Rattle.kc_printk.specs.Note.{key_of}
use Rattle.kc_btf.specs.declared.stop.BtfFault.{BtfFault}
use Rattle.kc_btf.specs.declared.stop.BRule.{BRule}
use Rattle.kc_btf.specs.declared.stop.BRule.TheVariants.{B1, B2, B3, B4, B5, B6, B7, B8}
use Rattle.kc_layout.specs.declared.fault.QRule.{QRule}
use Rattle.kc_layout.specs.declared.fault.QRule.TheVariants.{Q2, Q3, Q4, Q5, Q6, Q7, Q8}
use Rattle.kc_syms.specs.declared.fault.SymFault.{SymFault}
use Rattle.kc_syms.specs.declared.fault.SymFault.TheVariants.{S2, S3}
use Rattle.kc_expr.specs.declared.keys.fault.PlanFault.{PlanFault}
use Rattle.kc_expr.specs.declared.keys.fault.PlanKey.{PlanKey}
use Rattle.kc_expr.specs.declared.keys.fault.PRule.{PRule}
use Rattle.kc_expr.specs.declared.keys.fault.PRule.TheVariants.{P1, P2, P3, P4, P5, P6, P7, P8, P9, P10, P11, P12}
use Rattle.kc_expr.specs.Keys.Keys.{spelled}
use Rattle.kc_text.specs.Text.{hex}
use Rattle.kc_command.specs.declared.refusal.Refusal.{Refusal}
use Rattle.kc_command.specs.declared.refusal.Refusal.TheVariants.{Core, Notes, Tables, Log, TooLong, Types, Module as of_module, MapLine, Symbol, NoType, Path, Plan as of_plan, Certificate, Report as of_report}
use Rattle.kc_command.specs.declared.refusal.ReportFault.{ReportFault}
use Rattle.kc_command.specs.declared.refusal.ReportFault.TheVariants.{F1, Y1, Y2}

-- the code of a core file's fault, with the index of a program header
abbrev pub core_code : CoreFault → List ℕ
core_code E1 = codes "E1"
core_code E2 = codes "E2"
core_code E3 = codes "E3"
core_code E4 = codes "E4"
core_code E5 = codes "E5"
core_code E6 = codes "E6"
core_code E7 = codes "E7"
core_code E8 = codes "E8"
core_code (E9 index) = codes "E9 index " ++ decimal index
core_code E10 = codes "E10"

-- a key of VMCOREINFO
abbrev pub key_text : NoteKey → List ℕ
key_text L5 = codes "NUMBER(pgtable_l5_enabled)"
key_text Offset = codes "KERNELOFFSET"
key_text Sme = codes "NUMBER(sme_mask)"

-- the code of a fault of the notes, with its part and place, or its key
abbrev pub note_code : NoteFault → List ℕ
note_code (V1 part at) = codes "V1 index " ++ decimal part ++ codes " at " ++ decimal at
note_code V2 = codes "V2"
note_code V3 = codes "V3"
note_code V4 = codes "V4"
note_code V5 = codes "V5"
note_code (V6 key) = codes "V6 key " ++ key_text key
note_code V7 = codes "V7"

-- the code of a fault of the dump's own symbol table, with the line, the symbol or the member that is missing, or the number of symbols, of the
-- token or of the symbol
abbrev pub table_code : TableFault → List ℕ
table_code (S4 line) = codes "S4 key " ++ line_key line
table_code (S5 count) = codes "S5 count " ++ decimal count
table_code (S6 number) = codes "S6 token " ++ decimal number
table_code (S7 number) = codes "S7 symbol " ++ decimal number
table_code (S8 number) = codes "S8 symbol " ++ decimal number
table_code S9 = codes "S9"
table_code S10 = codes "S10"
table_code S11 = codes "S11"
table_code S12 = codes "S12"
table_code (S13 list) = codes "S13 key " ++ list_key list
table_code (S14 member) = codes "S14 key " ++ member_key member
table_code S15 = codes "S15"
table_code S16 = codes "S16"
table_code S17 = codes "S17"

-- the code of a fault of the dump's own log, with the line of the note that is missing
abbrev pub log_code : LogFault → List ℕ
log_code (logs.P1 line) = codes "P1 key " ++ key_of line
log_code logs.P2 = codes "P2"
log_code logs.P3 = codes "P3"
log_code logs.P4 = codes "P4"

-- the code of a rule of the file of types
abbrev pub btf_code : BRule → List ℕ
btf_code B1 = codes "B1"
btf_code B2 = codes "B2"
btf_code B3 = codes "B3"
btf_code B4 = codes "B4"
btf_code B5 = codes "B5"
btf_code B6 = codes "B6"
btf_code B7 = codes "B7"
btf_code B8 = codes "B8"

-- the code with the place in the file
abbrev pub btf_text : BtfFault → List ℕ
btf_text fault = btf_code fault.rule ++ codes " at " ++ decimal fault.at

-- the code of a rule of paths
abbrev pub path_code : QRule → List ℕ
path_code Q2 = codes "Q2"
path_code Q3 = codes "Q3"
path_code Q4 = codes "Q4"
path_code Q5 = codes "Q5"
path_code Q6 = codes "Q6"
path_code Q7 = codes "Q7"
path_code Q8 = codes "Q8"

-- the code of a symbol's fault, with two of its addresses
abbrev pub symbol_code : SymFault → List ℕ
symbol_code S2 = codes "S2"
symbol_code (S3 first other) = codes "S3 " ++ hex first ++ codes " " ++ hex other

-- the code of a rule of plans
abbrev pub plan_rule : PRule → List ℕ
plan_rule P1 = codes "P1"
plan_rule P2 = codes "P2"
plan_rule P3 = codes "P3"
plan_rule P4 = codes "P4"
plan_rule P5 = codes "P5"
plan_rule P6 = codes "P6"
plan_rule P7 = codes "P7"
plan_rule P8 = codes "P8"
plan_rule P9 = codes "P9"
plan_rule P10 = codes "P10"
plan_rule P11 = codes "P11"
plan_rule P12 = codes "P12"

-- the audit of a plan, by its number from 0, and the key, where a fault has them
abbrev pub audit_part : Option ℕ → List ℕ
audit_part None = []
audit_part (Some number) = codes " audit " ++ decimal number

abbrev pub key_part : Option PlanKey → List ℕ
key_part None = []
key_part (Some key) = codes " key " ++ spelled key

abbrev pub plan_code : PlanFault → List ℕ
plan_code fault = plan_rule fault.rule ++ audit_part fault.audit ++ key_part fault.key

-- the name of a slot
abbrev pub slot_name : Slot → List ℕ
slot_name Dump = codes "dump"
slot_name Btf = codes "btf"
slot_name Map = codes "map"
slot_name Plan = codes "plan"
slot_name Report = codes "cert"
slot_name Module = codes "module"

-- the code of a report's fault, with the place in its file
abbrev pub report_code : ReportFault → List ℕ
report_code F1 = codes "F1"
report_code (Y1 at) = codes "Y1 at " ++ decimal at
report_code Y2 = codes "Y2"

-- what is refused, and by which rule
abbrev pub refusal_text : Refusal → List ℕ
refusal_text (Core fault) = codes "dump " ++ core_code fault
refusal_text (Notes fault) = codes "dump " ++ note_code fault
refusal_text (Tables fault) = codes "dump " ++ table_code fault
refusal_text (Log fault) = codes "log " ++ log_code fault
refusal_text (TooLong slot) = slot_name slot ++ codes " F1"
refusal_text (Types fault) = codes "btf " ++ btf_text fault
refusal_text (of_module fault) = codes "module " ++ btf_text fault
refusal_text (MapLine line) = codes "map S1 line " ++ decimal line
refusal_text (Symbol fault) = codes "symbol " ++ symbol_code fault
refusal_text NoType = codes "path Q1 step 0"
refusal_text (Path fault) = codes "path " ++ path_code fault.rule ++ codes " step " ++ decimal fault.step
refusal_text (of_plan fault) = codes "plan " ++ plan_code fault
refusal_text (Certificate at) = codes "cert Z1 at " ++ decimal at
refusal_text (of_report fault) = codes "report " ++ report_code fault

abbrev pub refusal_line : Refusal → List ℕ
refusal_line refusal = codes "refused " ++ refusal_text refusal ++ codes "\n"
