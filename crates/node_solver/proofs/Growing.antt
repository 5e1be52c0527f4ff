-- columns only grow
use Rattle.std.proofs.Common.{◌<◌, ◌≤◌, ℕ, List, [], ◌∷◌, ◌++◌, sym, ap, subst, ◌∙◌, append_assoc, arith}
use Rattle.std.specs.Prelude.{All}
use Rattle.std.proofs.lemmas.List.{append-nil}
use Rattle.std.proofs.lemmas.List.Elements.{All-nil, All-cons, All-append, All-weaker}
use Rattle.column_arena.specs.Columns.{IsAdded}
use Rattle.column_arena.specs.Columns.IsAdded.{Stood, Last}
use Rattle.crew_terms.specs.Limits.{Limits, Route, tasks_in}
use Rattle.crew_terms.specs.declared.TheConstants.{MOST_TASKS}
use Rattle.crew_terms.specs.declared.Visit.{Visit}
use Rattle.search_terms.specs.Search.{Extends, IsColumn}
use Rattle.master_run.specs.Legal.{tasks_known}

pub extends_none : (n : Limits) (cs : List Route) → Extends n cs cs
extends_none n cs = record { added = []; all = sym (append-nil cs); routes = All-nil (IsColumn n) }

pub extends_more : (n : Limits) (a b c : List Route) → Extends n a b → Extends n b c → Extends n a c
extends_more n a b c h g = record {
  added = h.added ++ g.added;
  all = g.all ∙ ap (λ xs. xs ++ g.added) h.all ∙ append_assoc a h.added g.added;
  routes = All-append (IsColumn n) h.added g.added h.routes g.routes;
}

-- a column of the node that is added
pub extends_added : (n : Limits) (a b : List Route) (r : Route) (id : ℕ) → IsColumn n r → IsAdded a r id b → Extends n a b
extends_added n a b r id is (Stood known equal same) = subst (Extends n a) (sym same) (extends_none n a)
extends_added n a b r id is (Last fresh number last) =
    record { added = r ∷ []; all = last; routes = All-cons (IsColumn n) r [] is (All-nil (IsColumn n)) }

-- its tasks can be named
pub column_tasks : (n : Limits) (r : Route) → IsColumn n r → tasks_in n ≤ MOST_TASKS → All (λ (v : Visit). v.task < MOST_TASKS) r.visits
column_tasks n r is few =
    All-weaker (λ (v : Visit). v.task < tasks_in n) (λ (v : Visit). v.task < MOST_TASKS) (λ v below. omega arith) r.visits
    (tasks_known n r.team r.visits is.legal.route)
