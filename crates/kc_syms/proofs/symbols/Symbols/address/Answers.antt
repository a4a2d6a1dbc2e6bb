use Rattle.std.proofs.Common.{◌≡◌, arith}
use Rattle.std.proofs.lemmas.Grind.{common_steps}
use Rattle.kc_syms.specs.Addresses.{common_of}
use Rattle.kc_syms.specs.Symbols.{symbol}
use Rattle.kc_syms.proofs.AgreementLaws.{agrees}
use Rattle.kc_syms.proofs.symbols.Symbols.address.Goals as goal

pub returns-in-Some-clause-agrees : goal.returns-in-Some-clause-agrees
unfolding Rattle.kc_syms.specs.Symbols.symbol
returns-in-Some-clause-agrees c =
    let listed = symbol c.args.self.now c.args.name.now in
    let exact : c.common.result ≡ common_of c.args.kaslr listed = grind (arith, common_steps) in
    agrees c.args.kaslr listed c.common.result exact
