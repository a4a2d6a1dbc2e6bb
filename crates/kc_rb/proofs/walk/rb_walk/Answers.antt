use Rattle.std.proofs.Common.{List, ℕ}
use Rattle.kc_rb.proofs.Law.{tree_of, none_of}
use Rattle.kc_rb.proofs.Order.{rising_of}
use Rattle.kc_rb.proofs.walk.rb_walk.Goals as goal

pub returns-clause-finite : goal.returns-clause-finite
returns-clause-finite g c = tree_of (λ (w : List ℕ). w) (g.S.Space.image c.args.space.now) c.args.shape.now (record { audit = c.args.audit; start = c.args.start }) c.walk_tree.result c.walk_tree.ensures.walk

pub returns-clause-rising : goal.returns-clause-rising
returns-clause-rising g c = rising_of (λ (w : List ℕ). w) (g.S.Space.image c.args.space.now) c.args.shape.now c.args.start c.walk_tree.result (returns-clause-finite g c)

pub returns-clause-none : goal.returns-clause-none
returns-clause-none g c = none_of (λ (w : List ℕ). w) (g.S.Space.image c.args.space.now) c.args.shape.now (record { audit = c.args.audit; start = c.args.start }) c.walk_tree.result c.walk_tree.ensures.walk
