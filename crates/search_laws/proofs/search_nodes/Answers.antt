use Rattle.crew_terms.specs.Limits.{root_limits}
use Rattle.search_laws.proofs.Inside.{inside_self, child_node}
use Rattle.search_laws.proofs.Ways.{node_at}
use Rattle.search_laws.proofs.Steps.{run_stands}
use Rattle.search_laws.proofs.search_nodes.Goals as goal

pub returns : goal.returns
returns c = record {
  root = λ i is. record { limits = c.root_is_limits.ensures i is; inside = inside_self (root_limits i) };
  children = child_node c.children_are_limits.ensures;
  search = λ i budget s way is run.
      node_at c.children_are_limits.ensures (root_limits i) s.tree way (record { limits = c.root_is_limits.ensures i is; inside = inside_self (root_limits i) }) (run_stands i budget s run).valid;
}
