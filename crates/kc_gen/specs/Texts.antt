-- The texts: the note of the dump, the map and the plan.
use Rattle.std.specs.Prelude.{ℕ, List, ◌++◌, codes}

unfoldable pub note : List ℕ
note =
    codes "PAGESIZE=4096\n"
    ++ codes "NUMBER(phys_base)=0\n"
    ++ codes "SYMBOL(init_top_pgt)=ffffffff80001000\n"
    ++ codes "NUMBER(pgtable_l5_enabled)=0\n"
    ++ codes "KERNELOFFSET=0\n"
    ++ codes "NUMBER(sme_mask)=0\n"

unfoldable pub map : List ℕ
map =
    codes "ffffffff8000b000 D init_task\n"
    ++ codes "ffffffff8000b100 D slab_caches\n"
    ++ codes "ffffffff8000b110 D my_xa\n"
    ++ codes "ffffffff8000b120 D my_ring\n"
    ++ codes "ffffffff8000b130 D my_rb\n"
    ++ codes "ffffffff8000b140 D my_hl\n"
    ++ codes "ffff888000011000 D an_item\n"
    ++ codes "ffffea00000003c0 D a_slab\n"
    ++ codes "ffff888000020000 D far_ring\n"

unfoldable pub plan : List ℕ
plan =
    codes "version = 1\n"
    ++ codes "[[audit]]\nname = \"ring\"\nkind = \"ring\"\nroot = \"my_ring\"\nelement = \"item\"\nlink = \"link\"\n"
    ++ codes "[[audit]]\nname = \"tree\"\nkind = \"rbtree\"\nroot = \"my_rb\"\nelement = \"item\"\nlink = \"rb\"\nkey = \"key\"\nunique = true\n"
    ++ codes "[[audit]]\nname = \"array\"\nkind = \"xarray\"\nroot = \"my_xa\"\nelement = \"item\"\n"
