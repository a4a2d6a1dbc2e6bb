-- No trial of a node breaks a rule exactly where X1 to X6 hold.
use Rattle.std.proofs.Common.{◌-◌, Option}
use Rattle.kc_laws.specs.Trials.{unbroken_parts, unbroken_whole}
use Rattle.kc_found.specs.XaNodes.{XaCourse, xa_claims, xa_rules}
use Rattle.kc_found.specs.declared.xarrays.XaHolder.{XaHolder}
use Rattle.kc_found.specs.declared.xarrays.XaWords.{XaWords}
use Rattle.kc_memory.specs.declared.words.VWord.{VWord}
use Rattle.kc_xa.proofs.Growing.{node_behind, node_plain}
use Rattle.kc_xa.proofs.Quiet.{site_claimed}
use Rattle.kc_xa.proofs.Shaping.{claims_unbroken, holds, unheld}
use Rattle.kc_xa.specs.Nodes.{NodeSite}

pub node_site_is : (c : XaCourse) (holder : Option XaHolder) (led : VWord) (n : XaWords) → NodeSite c holder led n
node_site_is c holder led n = record {
  plain = node_plain c led n;
  told = node_behind c led n;
  holds = λ u. holds c.shape c.asked holder (led.value - 2) n (unbroken_parts (xa_claims c.asked n) (xa_rules c.shape c.asked holder (led.value - 2) n) u).1;
  unbroken = λ h. unbroken_whole (xa_claims c.asked n) (xa_rules c.shape c.asked holder (led.value - 2) n) (claims_unbroken c.asked n) (unheld c.shape c.asked holder (led.value - 2) n h);
  claims = site_claimed c.shape c.asked holder (led.value - 2) n;
}
