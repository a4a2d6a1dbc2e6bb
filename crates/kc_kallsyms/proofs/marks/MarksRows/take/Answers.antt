use Rattle.std.proofs.Common.{codes}
use Rattle.kc_kallsyms.specs.Views.{symbol_view}
use Rattle.kc_kallsyms.proofs.Marking.{known_more}
use Rattle.kc_kallsyms.proofs.marks.MarksRows.take.Goals as goal

pub returns : goal.returns
returns c = λ first done taken. record {
  text = known_more first.text c.args.self.now.text c.first-self.result (codes "_stext") done (symbol_view c.args.symbol.now) taken.text c.first-self.ensures;
  processors = known_more first.processors c.args.self.now.processors c.first-self-2.result (codes "__per_cpu_end") done (symbol_view c.args.symbol.now) taken.processors c.first-self-2.ensures;
  start = known_more first.start c.args.self.now.start c.first-self-3.result (codes "__start_BTF") done (symbol_view c.args.symbol.now) taken.start c.first-self-3.ensures;
  end = known_more first.end c.args.self.now.end c.first-self-4.result (codes "__stop_BTF") done (symbol_view c.args.symbol.now) taken.end c.first-self-4.ensures;
  loaded = known_more first.loaded c.args.self.now.loaded c.first-self-5.result (codes "modules") done (symbol_view c.args.symbol.now) taken.loaded c.first-self-5.ensures;
  typed = known_more first.typed c.args.self.now.typed c.first-self-6.result (codes "btf_modules") done (symbol_view c.args.symbol.now) taken.typed c.first-self-6.ensures;
}
