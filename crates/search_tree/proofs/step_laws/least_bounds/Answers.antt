use Rattle.std.proofs.Common.{◌≡◌, ◌≤◌, ◌∙◌, ℕ, ℤ, zero, suc, List, None, Some, ap, sym, subst, arith, length}
use Rattle.std.specs.Prelude.{◌≤ℤ◌}
use Rattle.std.proofs.lemmas.Int.{ints}
use Rattle.crew_terms.specs.Leaf.{Proves}
use Rattle.crew_terms.specs.Limits.{root_limits}
use Rattle.crew_terms.specs.declared.Side.{Side}
use Rattle.node_queue.specs.Waits.{Waits, found}
use Rattle.search_terms.specs.Proven.{PricesProve}
use Rattle.search_terms.specs.WayLimits.{tasks_at}
use Rattle.search_terms.specs.Ways.{limits_at, prices_at}
use Rattle.search_tree.specs.Numbered.{tree_of, way_of}
use Rattle.search_tree.proofs.step_laws.least_bounds.Goals as goal

-- a greater bound proves as much
more_proves : (l : ℕ) (b c : ℤ) → b ≤ℤ c → Proves b l → Proves c l
more_proves zero b c h proves = tt
more_proves (suc l) b c h proves = omega (arith, ints)

pub returns-clause-none : goal.returns-clause-none
returns-clause-none x = λ i left p c plan k keyed none. record {
  proved = record {
    plan = omega arith;
    leaves = (x.ways_are_leaves.ensures.each (root_limits i) (tree_of p c k.nodes) _).1 (λ way o.
        let r = x.ways_are_of_nodes.ensures.only p c k.nodes way keyed.numbered o in
        let w = keyed.all r.0 r.1 in
        let e : None ≡ Some (record { bound = w.1; item = r.0 }) = ap (λ (q : Waits). found q w.0) (sym none) ∙ w.2 in
        cc);
  };
  greatest = λ l h. h.plan;
}

pub returns-clause-some : goal.returns-clause-some
returns-clause-some x = λ i left key n b bound p c plan k keyed bounds least w is.
    let t = tree_of p c k.nodes in
    let root = root_limits i in
    record {
      proved = record {
        plan = is.most;
        leaves = (x.ways_are_leaves.ensures.each root t b).1 (λ way o.
            let r = x.ways_are_of_nodes.ensures.only p c k.nodes way keyed.numbered o in
            let v = keyed.all r.0 r.1 in
            let most = is.most in
            let known = is.known in
            let fits : b ≤ length i.tasks = omega arith in
            let here : PricesProve (limits_at root t (way_of k.nodes r.0)) (prices_at t (way_of k.nodes r.0)) b =
            (bounds v.0 r.0 v.1 v.2 b (tasks_at root t (way_of k.nodes r.0) b fits)).1 (more_proves b bound v.1 (least n bound w v.0 r.0 v.1 v.2) is.proves) in
            subst (λ (y : List Side). PricesProve (limits_at root t y) (prices_at t y) b) r.2 here);
      };
      greatest = λ l h.
          let o = keyed.leaves key n bound w in
          let leads = x.ways_are_of_nodes.ensures.leads p c k.nodes n o.1 keyed.numbered o.0 o.2 in
          let few = h.plan in
          let known = is.known in
          let fits : l ≤ length i.tasks = omega arith in
          is.greatest l few ((bounds key n bound w l (tasks_at root t (way_of k.nodes n) l fits)).0 ((x.ways_are_leaves.ensures.each root t l).0 h.leaves (way_of k.nodes n) leads));
    }
