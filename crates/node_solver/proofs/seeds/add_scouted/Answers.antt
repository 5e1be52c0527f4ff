use Rattle.std.proofs.Common.{All, sym, subst}
use Rattle.search_terms.specs.Search.{IsColumn}
use Rattle.node_solver.proofs.Growing.{extends_none}
use Rattle.node_solver.proofs.seeds.add_scouted.Goals as goal

pub returns-in_err-scouted-clause-extends : goal.returns-in_err-scouted-clause-extends
returns-in_err-scouted-clause-extends g c = extends_none c.args.limits.now.limits (g.C.Columns.columns c.args.columns.now)

pub add_routes-requires : goal.add_routes-requires
add_routes-requires g c = subst (All (IsColumn c.args.limits.now.limits)) (sym c.deref.ensures.value) c.in_ok-scouted.ensures.fresh.columns
