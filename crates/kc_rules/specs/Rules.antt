-- The rules, and what is said of each.
use Rattle.std.specs.Prelude.{ℕ, List, [], ◌∷◌, codes}
use Rattle.kc_memory.specs.declared.rule.Rule.{Rule}
use Rattle.kc_memory.specs.declared.rule.Rule.TheVariants.{M1, M2, M3, M4, M5, M6, N, K, A, L1, H1, R1, R2, R3, R4, R5, R6, X1, X2, X3, X4, X5, X6, X7, X8, X9, U1, U2, U3, U4, U5, U6, U7, T1, T2, T3, T4, T5, T6, T7, G1, G2, C}
use Rattle.kc_rules.specs.declared.table.RuleRow.{RuleRow}
use Rattle.kc_rules.specs.declared.way.Way.{Way}
use Rattle.kc_rules.specs.declared.way.Way.TheVariants.{Led, Met, Word, Byte, Bytes, Count, Member, Named, Own, Before, Pointed, Parent, Top, Colour, Balance, Entry, Free, Listed, Laid, Check, Process, Shown}

-- a rule's code, what is wrong where it is broken, and what may be wrong then
pub record Row : Type 0 where
  pub code : List ℕ
  pub says : List ℕ
  pub way : Way

abbrev pub row_view : RuleRow → Row
row_view r = record { code = r.code.now; says = r.says.now; way = r.way }

abbrev row : List ℕ → List ℕ → Way → Row
row code says way = record { code = code; says = says; way = way }

-- rules with the same suspects have one way
abbrev pub row_of : Rule → Row
row_of M1 = row (codes "M1") (codes "the address of a word isn't a multiple of 8") Led
row_of M2 = row (codes "M2") (codes "the address of a word isn't canonical") Led
row_of M3 = row (codes "M3") (codes "an entry of the page tables isn't in the dump") Led
row_of M4 = row (codes "M4") (codes "an entry of the page tables isn't present") Led
row_of M5 = row (codes "M5") (codes "an entry of the page tables has a reserved bit set") Led
row_of M6 = row (codes "M6") (codes "the word at the address isn't in the dump") Led
row_of N = row (codes "N") (codes "a pointer is null where one must lead on") Led
row_of K = row (codes "K") (codes "a list's pointer is the value of a node that was taken out") Led
row_of A = row (codes "A") (codes "a word is met twice in one walk") Met
row_of L1 = row (codes "L1") (codes "prev isn't the node before") Before
row_of H1 = row (codes "H1") (codes "pprev isn't the address of the pointer that leads here") Pointed
row_of R1 = row (codes "R1") (codes "the parent isn't the node above") Parent
row_of R2 = row (codes "R2") (codes "the node at the top is red") Top
row_of R3 = row (codes "R3") (codes "a red node is below a red one") Colour
row_of R4 = row (codes "R4") (codes "the key is out of order against a node above") Shown
row_of R5 = row (codes "R5") (codes "a way down passes another number of black nodes than the first") Balance
row_of R6 = row (codes "R6") (codes "rb_leftmost isn't the first node") Word
row_of X1 = row (codes "X1") (codes "shift isn't that of the node's level") Bytes
row_of X2 = row (codes "X2") (codes "offset isn't the number of the node's slot") Byte
row_of X3 = row (codes "X3") (codes "parent isn't the node above") Word
row_of X4 = row (codes "X4") (codes "array isn't the xarray") Word
row_of X5 = row (codes "X5") (codes "count isn't the number of slots in use") Count
row_of X6 = row (codes "X6") (codes "nr_values isn't the number of slots with values") Byte
row_of X7 = row (codes "X7") (codes "an entry can't stand in its slot") Entry
row_of X8 = row (codes "X8") (codes "a sibling entry names no entry that has siblings") Entry
row_of X9 = row (codes "X9") (codes "a node hangs below the lowest level") Entry
row_of U1 = row (codes "U1") (codes "the slab names another cache") Named
row_of U2 = row (codes "U2") (codes "the slab belongs to a processor") Member
row_of U3 = row (codes "U3") (codes "a size or a number of objects can't be") Shown
row_of U4 = row (codes "U4") (codes "the slab isn't a page's descriptor") Laid
row_of U5 = row (codes "U5") (codes "a free pointer leads to no object of the slab") Free
row_of U6 = row (codes "U6") (codes "the free list isn't as long as objects less inuse") Listed
row_of U7 = row (codes "U7") (codes "the list of partial slabs isn't as long as nr_partial") Member
row_of T1 = row (codes "T1") (codes "group_leader isn't the leader of the thread") Member
row_of T2 = row (codes "T2") (codes "the leader's pid isn't its tgid") Own
row_of T3 = row (codes "T3") (codes "signal isn't the leader's") Member
row_of T4 = row (codes "T4") (codes "tgid isn't the leader's") Member
row_of T5 = row (codes "T5") (codes "real_parent isn't the task that lists the child") Member
row_of T6 = row (codes "T6") (codes "the magic number at the end of the stack is gone") Word
row_of T7 = row (codes "T7") (codes "the leader isn't among its threads") Shown
row_of G1 = row (codes "G1") (codes "the number of the process id isn't its index in the table") Process
row_of G2 = row (codes "G2") (codes "thread_pid isn't the process id whose chain the task is on") Member
row_of C = row (codes "C") (codes "a check of the plan isn't met") Check

-- in the order in which their codes are tried
abbrev pub rules : List Rule
rules =
    M1 ∷ M2 ∷ M3 ∷ M4 ∷ M5 ∷ M6 ∷ N ∷ K ∷ A ∷ L1 ∷ H1 ∷ R1 ∷ R2 ∷ R3 ∷ R4 ∷ R5 ∷ R6
    ∷ X1 ∷ X2 ∷ X3 ∷ X4 ∷ X5 ∷ X6 ∷ X7 ∷ X8 ∷ X9 ∷ U1 ∷ U2 ∷ U3 ∷ U4 ∷ U5 ∷ U6 ∷ U7
    ∷ T1 ∷ T2 ∷ T3 ∷ T4 ∷ T5 ∷ T6 ∷ T7 ∷ G1 ∷ G2 ∷ C ∷ []
