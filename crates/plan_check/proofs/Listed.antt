-- the turns of a team as its visits
use Rattle.std.proofs.Common.{◌<◌, inl, inr, ℕ, List, length, get_or, map, arith, sym, ap, ◌∙◌}
use Rattle.std.specs.Prelude.{Contains, AllPairs}
use Rattle.std.proofs.lemmas.List.{get_or-map, length-map}
use Rattle.std.proofs.lemmas.List.Elements.{Contains-get_or}
use Rattle.crew_terms.specs.Instance.{Instance}
use Rattle.crew_terms.specs.Plan.{Plan, Does}
use Rattle.crew_terms.specs.Legal.{IsLegal}
use Rattle.crew_terms.specs.Verdict.{IsBefore}
use Rattle.crew_terms.specs.declared.Visit.{Visit}
use Rattle.crew_laws.specs.Visits.{AreVisitsOf, visit}
use Rattle.crew_instance.specs.declared.turns.Turn.{Turn}
use Rattle.crew_instance.specs.Turns.{AreTurns}
use Rattle.plan_check.specs.Visits.{AreTasksOf}
use Rattle.crew_terms.specs.Nodes.{task_known}

abbrev pub turn : ℕ → ℕ → Turn
turn j t = record { start = t; task = j }

abbrev pub visit_of : Turn → Visit
visit_of v = visit v.task v.start

abbrev pub turn_of : Visit → Turn
turn_of v = turn v.task v.start

module _ (vs : List Turn) where
  -- the visits are in the list of those of the turns
  visited : (v : Turn) → Contains vs v → Contains (map visit_of vs) (visit_of v)
  visited v (i, l, e) =
      let long = length-map vs visit_of in
      (i, omega arith, get_or-map visit_of vs i v (visit_of v) l ∙ ap visit_of e)

  turned : (w : Visit) → Contains (map visit_of vs) w → Contains vs (turn_of w)
  turned w (i, l, e) =
      let long = length-map vs visit_of in
      let m : i < length vs = omega arith in
      (i, m, ap turn_of (sym (get_or-map visit_of vs i (turn_of w) w m) ∙ e))

module _ (p : Plan) (k : ℕ) where
  -- the turns of a team are its tasks in order
  pub tasks_from_turns : (vs : List Turn) → AreTurns p k (length p) vs → AreTasksOf p k (map visit_of vs)
  tasks_from_turns vs are = record {
    each = λ j t. ((λ c. (are.done (turn j t) (turned vs (visit j t) c)).0), (λ d. visited vs (turn j t) (are.all j t (task_known p k j t d) d)));
    order = order;
  }
    where
      order : AllPairs (λ (a b : Visit). IsBefore a.start a.task b.start b.task) (map visit_of vs)
      order a b d l m =
          let long = length-map vs visit_of in
          let n : b < length vs = omega arith in
          let first = get_or-map visit_of vs a (turn_of d) d (omega arith) in
          let second = get_or-map visit_of vs b (turn_of d) d n in
          rw (first, second) (are.order a b (turn_of d) l n)

  -- in a legal plan no two of them begin together
  pub visits_from_tasks : (visits : List Visit) → AreTasksOf p k visits → (i : Instance) → IsLegal i p → AreVisitsOf p k visits
  visits_from_tasks visits are i legal = record { each = are.each; rising = rising }
    where
      done : (a : ℕ) (d : Visit) → a < length visits → Does p k (get_or visits a d).task (get_or visits a d).start
      done a d l = (are.each (get_or visits a d).task (get_or visits a d).start).0 (Contains-get_or visits a d l)

      apart : (a b : ℕ) (d : Visit) → a < length visits → b < length visits
          → IsBefore (get_or visits a d).start (get_or visits a d).task (get_or visits b d).start (get_or visits b d).task → (get_or visits a d).start < (get_or visits b d).start
      apart a b d l m (inl n) = n
      apart a b d l m (inr n) = absurd (legal.feasible.apart k (get_or visits a d).task (get_or visits b d).task (get_or visits a d).start (get_or visits b d).start
          (done a d l) (done b d m) (λ e. let x = n.1 in omega arith) n.0)

      rising : AllPairs (λ (a b : Visit). a.start < b.start) visits
      rising a b d l m = apart a b d (omega arith) m (are.order a b d l m)
