use Rattle.std.proofs.Common.{[], sym}
use Rattle.kc_memory.specs.Translation.{vword}
use Rattle.kc_list.specs.Listed.{all_met, are_nodes, is_hash_chain, hash_wants}
use Rattle.kc_list.proofs.ListedLemmas.Meeting.{tests_go, tests_halt}
use Rattle.kc_list.proofs.listed.test_chain.Goals as goal

pub returns-then-not-are_nodes-clause-test : goal.returns-then-not-are_nodes-clause-test
unfolding is_hash_chain
returns-then-not-are_nodes-clause-test g c =
    tests_halt _ (g.S.Space.image c.args.space.now) (are_nodes 0 c.args.nodes.now) (λ i. all_met (vword i) [] (hash_wants c.args.shape.now c.args.head c.args.nodes.now)) (sym c.if-not-are_nodes.ensures)

pub returns-clause-test : goal.returns-clause-test
unfolding is_hash_chain
returns-clause-test g c =
    tests_go (g.S.Space.image c.args.space.now) (are_nodes 0 c.args.nodes.now) (λ i. all_met (vword i) [] (hash_wants c.args.shape.now c.args.head c.args.nodes.now)) c.meet_chain.new.claims c.meet_chain.result (sym c.if-not-are_nodes.ensures)
    (rw c.new-claims.ensures at c.meet_chain.ensures.met)
