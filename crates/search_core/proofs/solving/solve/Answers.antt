use Rattle.std.proofs.Common.{◌∙◌, ◌++◌, [], List, Result, Ok, Err, ap, sym, subst, arith, rules, append_assoc}
use Rattle.std.specs.Prelude.{IfOk, option_copied}
use Rattle.std.proofs.lemmas.Grind.{common_steps}
use Rattle.std.proofs.lemmas.List.{append-nil}
use Rattle.crew_terms.specs.Instance.{Instance}
use Rattle.crew_terms.specs.Leaf.{zero_prices}
use Rattle.crew_terms.specs.Limits.{Route, root_limits}
use Rattle.search_tree.specs.Aged.{leaves_of, leaves_without}
use Rattle.search_core.specs.Searching.{state_of, way_to}
use Rattle.search_core.specs.Steps.{IsDone, IsOutcome, IsShownOutcome, IsSolved}
use Rattle.search_core.specs.declared.causes.Outcome.{Outcome}
use Rattle.search_terms.specs.BestFirst.{AgedLeaf, Begins, ComeOf, IsBestFirst, Takes}
use Rattle.search_terms.specs.Caused.{AreLooseShown}
use Rattle.search_terms.specs.Search.{Goes, IsSearchRun, IsSearchStep, Starts}
use Rattle.search_terms.specs.SearchTree.{SearchTree}
use Rattle.search_terms.specs.declared.TheConstants.{PIVOTS}
use Rattle.plan_again.specs.Stays.{StaysOrBetters}
use Rattle.search_core.proofs.NearPlans.{step_begun}
use Rattle.search_core.proofs.Showing.{start_shown}
use Rattle.search_core.proofs.solving.solve.Goals as goal

ok_both : {X E : Type 0} {A B C : X → Type 0} (r : Result X E) → ((x : X) → A x → B x → C x) → IfOk r A → IfOk r B → IfOk r C
ok_both (Ok x) f a b = f x a b
ok_both (Err e) f a b = tt

ok_then : {X E : Type 0} {A C : X → Type 0} (r : Result X E) → ((x : X) → A x → C x) → IfOk r A → IfOk r C
ok_then (Ok x) f a = f x a
ok_then (Err e) f a = tt

pub loop-key-init : goal.loop-key-init
loop-key-init g c = record {
  run = λ held. Starts (state_of held c.in_ok-search.search) (c.in_ok-search.ensures.start held);
  order = λ held.
      let root = c.in_ok-search.ensures.root in
      let kept = g.C.Columns.columns c.args.columns.now in
      subst (λ (leaves : List AgedLeaf). IsBestFirst c.args.instance.now c.args.nodes kept kept (state_of held c.in_ok-search.search) leaves) (sym root.2)
      (Begins (state_of held c.in_ok-search.search) root.0 (c.in_ok-search.ensures.start held) root.1);
  instance = c.in_ok-search.ensures.instance;
  priced = λ rest. subst (λ (t : SearchTree). AreLooseShown (root_limits c.in_ok-search.search.instance) t)
      (sym (c.in_ok-search.ensures.start (g.C.Columns.columns c.args.columns.now ++ rest)).tree) tt;
  shown = start_shown (g.C.Columns.columns c.args.columns.now) c.in_ok-search.search (zero_prices (root_limits c.args.instance.now)) (c.in_ok-search.ensures.start []).tree;
  stays = c.in_ok-search.ensures.stays;
  grown = record { added = []; all = sym (append-nil (g.C.Columns.columns c.args.columns.now)) };
}

pub loop-key-preserved : goal.loop-key-preserved
loop-key-preserved g c =
    let inv = c.loop-key.invariant in
    let was = g.C.Columns.columns c.loop-key.columns in
    let pool = g.C.Columns.columns c.step.new.columns in
    let s = c.loop-key.search in
    let t = c.step.new.self in
    let way = way_to s c.in-Some.key in
    let step = c.in_ok-step.ensures.ok in
    let more = c.in_ok-step.ensures.columns in
    record {
      run = λ held. Goes was pool (state_of held s) (state_of held t) way (inv.run held)
          (subst (λ (i : Instance). IsSearchStep i way PIVOTS was pool (state_of held s) (state_of held t)) inv.instance (step.step held));
      order = λ held.
          let aged = step.aged held in
          let due = c.in-Some.ensures.oldest in
          subst (λ (leaves : List AgedLeaf). IsBestFirst c.args.instance.now c.args.nodes (g.C.Columns.columns c.args.columns.now) pool (state_of held t) leaves)
          (sym aged.leaves)
          (Takes was pool (state_of held s) (state_of held t) (leaves_of s.keyed) (leaves_without s.keyed c.in-Some.key) aged.new
          (record { way = way; bound = due.0 }) (inv.order held) due.1
          (subst (λ (i : Instance). IsSearchStep i way PIVOTS was pool (state_of held s) (state_of held t)) inv.instance (step.step held))
          (subst (λ (i : Instance). ComeOf (root_limits i) way (state_of held s).tree (state_of held t).tree aged.new) inv.instance aged.come));
      instance = step.instance ∙ inv.instance;
      shown = step.shown inv.shown;
      priced = step.priced inv.priced;
      stays = step_begun s.instance (option_copied c.args.begin) s.plan t.plan (step.step []).plan inv.stays;
      grown = record {
        added = inv.grown.added ++ more.added;
        all = more.all ∙ ap (λ (xs : List Route). xs ++ more.added) inv.grown.all
            ∙ append_assoc (g.C.Columns.columns c.args.columns.now) inv.grown.added more.added;
      };
    }

pub returns-clause-outcome : goal.returns-clause-outcome
returns-clause-outcome g c =
    let inv = c.loop-key.invariant in
    let s = c.loop-key.search in
    let kept = g.C.Columns.columns c.args.columns.now in
    let pool = g.C.Columns.columns c.loop-key.columns in
    let done : IsDone s.instance (state_of pool s) = first_of (search rules, grind (arith, common_steps, c.due.ensures.done pool)) in
    subst (λ (i : Instance). IfOk c.close.result (IsSolved i c.args.nodes kept pool)) inv.instance
    (ok_both c.close.result (λ (o : Outcome) (is : IsOutcome s.instance pool (state_of pool s) o) (shows : IsShownOutcome s.instance pool (state_of pool s) o). record {
      state = state_of pool s;
      run = subst (λ (i : Instance). IsSearchRun i c.args.nodes kept pool (state_of pool s)) (sym inv.instance) (inv.run pool);
      leaves = leaves_of s.keyed;
      order = subst (λ (i : Instance). IsBestFirst i c.args.nodes kept pool (state_of pool s) (leaves_of s.keyed)) (sym inv.instance) (inv.order pool);
      outcome = is;
      shown = shows;
      loose = subst (λ (cs : List Route). AreLooseShown (root_limits s.instance) (state_of cs s).tree) (append-nil pool) (inv.priced []);
      done = done;
    }) (c.close.ensures.outcome pool) (c.close.ensures.shown pool inv.shown))

pub returns-clause-stays : goal.returns-clause-stays
returns-clause-stays g c =
    let inv = c.loop-key.invariant in
    let s = c.loop-key.search in
    let pool = g.C.Columns.columns c.loop-key.columns in
    ok_then c.close.result (λ (o : Outcome) (is : IsOutcome s.instance pool (state_of pool s) o).
    subst (StaysOrBetters (option_copied c.args.begin)) (sym is.plan) inv.stays) (c.close.ensures.outcome pool)
