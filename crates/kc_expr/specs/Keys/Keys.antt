-- The keys of a plan.
use Rattle.std.specs.Prelude.{ℕ, List, codes}
use Rattle.kc_expr.specs.declared.keys.fault.PlanKey.{PlanKey}
use Rattle.kc_expr.specs.declared.keys.fault.PlanKey.TheVariants as key

-- how a key is spelled. A key that isn't for its table, whatever the kind, is told as `other`; none is
-- asked for as that.
abbrev pub spelled : PlanKey → List ℕ
spelled key.Version = codes "version"
spelled key.Tail = codes "tail"
spelled key.Audit = codes "audit"
spelled key.Name = codes "name"
spelled key.Kind = codes "kind"
spelled key.Root = codes "root"
spelled key.RootType = codes "root_type"
spelled key.RootPath = codes "root_path"
spelled key.From = codes "from"
spelled key.Optional = codes "optional"
spelled key.Element = codes "element"
spelled key.Link = codes "link"
spelled key.Key = codes "key"
spelled key.Unique = codes "unique"
spelled key.Cached = codes "cached"
spelled key.Check = codes "check"
spelled key.Each = codes "each"
spelled key.Other = codes "other"
