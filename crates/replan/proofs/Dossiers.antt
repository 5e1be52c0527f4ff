-- what is written of an outcome of the search is a dossier of the round
use Rattle.std.specs.Result.{IsErr, IsErrAnd}
use Rattle.std.proofs.Common.{◌≡◌, ◌≤◌, ◌∙◌, ℕ, List, Option, Result, Ok, Err, length, map, ap, subst, sym, refl, arith}
use Rattle.std.specs.Prelude.{All, take}
use Rattle.crew_io.specs.Puts.{TellsWrites}
use Rattle.crew_laws.specs.Faultless.{legal_is_plan}
use Rattle.crew_io.specs.declared.sink.Sink.{Ghosts}
use Rattle.branch_tree.specs.Trees.{BranchTree, preorder}
use Rattle.cert_write.specs.Dossiers.{IsDossierOf, IsPricedTree, WritesDossier, causes_of}
use Rattle.cert_write.specs.declared.faults.PutFault.{PutFault}
use Rattle.cert_write.specs.declared.faults.PutFault.TheVariants.{WriteFault, OutOfMemory}
use Rattle.cert_write.specs.Given.{AreWritable, Given}
use Rattle.crew_terms.specs.Instance.{Instance}
use Rattle.crew_terms.specs.Legal.{IsLegal, IsPacked}
use Rattle.crew_terms.specs.Verdict.{IsPlanOf}
use Rattle.day_terms.specs.Work.{jobs_by_names}
use Rattle.crew_terms.specs.Limits.{Route, root_limits}
use Rattle.crew_terms.specs.Plan.{Plan, unassigned_count}
use Rattle.crew_terms.specs.Rules.{IsInstance}
use Rattle.crew_terms.specs.Tree.{Tree}
use Rattle.crew_terms.specs.declared.TheConstants.{MOST_NODES, MOST_NUMBER}
use Rattle.column_arena.specs.Columns.{AreColumns}
use Rattle.dossier_terms.specs.Causes.{Cause}
use Rattle.dossier_terms.specs.Dossier.{Dossier, IsGood, IsPooled, tree_of}
use Rattle.replan.specs.Counts.{counts_of}
use Rattle.replan.specs.Given.{IsOfOutcome, kept_in, parts_of}
use Rattle.replan.specs.Planning.{IsRoundPut, fault_of_put}
use Rattle.replan.specs.Staying.{LosesNoTask}
use Rattle.replan.specs.declared.faults.SessionFault.{SessionFault}
use Rattle.replan.specs.declared.faults.SessionFault.TheVariants as session
use Rattle.replan.specs.declared.round.Planned.{Planned}
use Rattle.replan.specs.Rounds.{EachLeftProves, IsLeastLeft, IsRoundDossier, kept_of, outcome_of}
use Rattle.replan.proofs.Trees.{KeepPrices, handed_proves, no_more, priced_as}
use Rattle.route_terms.specs.Kept.{AreKeptIn}
use Rattle.route_terms.specs.Named.{NamedRoute, by_names}
use Rattle.search_core.specs.Searching.{split_cause}
use Rattle.search_core.specs.Steps.{IsOutcome, IsSolved}
use Rattle.search_core.specs.declared.causes.Cause.{Cause as SplitReason}
use Rattle.search_core.specs.declared.causes.Outcome.{Outcome}
use Rattle.search_terms.specs.Caused.{AreLooseShown, IsCaused}
use Rattle.search_terms.specs.Search.{IsHandedOut, IsSearchRun, IsSearched, SearchOutcome, SearchState}
use Rattle.search_terms.specs.SearchTree.{SplitCause, causes}
use Rattle.written_laws.specs.Solved.{IsProvedOutcome}
use Rattle.search_core.specs.Outline.{IsPricedAs, handed_out}
use Rattle.written_laws.specs.Told.{AreTold, Tell}
use Rattle.written_laws.specs.Proved.{AreCauses, IsProvedGiven, IsProvedTree, proved_is_writable}

-- ---- the laws that stand below

abbrev pub BoundsHold : Type 0
BoundsHold = (d : Dossier) (p : Plan) → IsGood d → IsLegal d.instance p → d.bound ≤ unassigned_count p

abbrev pub OneTree : Type 0
OneTree = (t u : BranchTree) → preorder t ≡ preorder u → t ≡ u

abbrev pub AreSearched : Type 0
AreSearched = (i : Instance) (budget : ℕ) (kept pool : List Route) (s : SearchState) (o : Outcome) (t : Tree) → IsSearchRun i budget kept pool s → IsOutcome i pool s o
    → IsPricedAs (handed_out s) t → IsSearched i budget kept (record { plan = o.plan; tree = t; pool = pool }) s

abbrev pub AreCaused : Type 0
AreCaused = (i : Instance) (budget : ℕ) (kept : List Route) (o : SearchOutcome) (s : SearchState) → IsSearched i budget kept o s → AreLooseShown (root_limits i) s.tree
    → IsCaused i budget kept o (causes s.tree)

abbrev pub CausesTell : Type 0
CausesTell = (pool : List Route) (cs : List SplitReason) (told : List Cause) → AreTold cs told → Tell pool told (map (split_cause pool) cs)

abbrev pub PoolsAreOf : Type 0
PoolsAreOf = (i : Instance) (nodes : ℕ) (kept pool : List Route) (s : SearchState) → IsInstance i → IsSearchRun i nodes kept pool s → All (IsPooled i) kept → All (IsPooled i) pool

abbrev pub AreProved : Type 0
AreProved = (i : Instance) (nodes : ℕ) (kept pool : List Route) (o : Outcome) → IsSolved i nodes kept pool o → IsProvedOutcome i nodes o

abbrev pub MayBeTold : Type 0
MayBeTold = (i : Instance) (nodes : ℕ) (kept pool : List Route) (o : Outcome) (tree : BranchTree) (told : List Cause) → IsSolved i nodes kept pool o → length pool ≤ MOST_NUMBER
    → o.tree ≡ preorder tree → AreTold o.causes.items told → AreCauses pool (unassigned_count o.plan) (root_limits i) tree told

abbrev pub ToldCount : Type 0
ToldCount = (o : Outcome) (told : List Cause) → AreTold o.causes.items told → length told ≡ length o.causes.items

abbrev pub AreGood : Type 0
AreGood = (g : Given) (d : Dossier) → IsDossierOf g d → IsProvedGiven g → IsGood d

-- ---- the parts

pub of_outcome : (i : Instance) (nodes kept : ℕ) (columns : List Route) (o : Outcome) (told : List Cause) → IsInstance i → nodes ≤ MOST_NODES → kept ≤ length columns → AreColumns columns
    → length columns ≤ MOST_NUMBER → All (IsPooled i) (take kept columns) → IsSolved i nodes (take kept columns) columns o → AreTold o.causes.items told
    → IsOfOutcome (parts_of i nodes kept columns o told) o
of_outcome i nodes kept columns o told is budget known are few pooled solved causes = record {
  instance = is;
  nodes = budget;
  kept = known;
  columns = are;
  few = few;
  pooled = pooled;
  solved = solved;
  plan = refl;
  bound = refl;
  tree = refl;
  causes = causes;
}

module _ (proved : AreProved) (count : ToldCount) (g : Given) (o : Outcome) (of : IsOfOutcome g o) where
  outcome : IsProvedOutcome g.instance g.nodes o
  outcome = proved g.instance g.nodes (kept_in g) g.columns o of.solved

  -- they can be written
  pub writable : AreWritable g
  writable = record {
    tree = outcome.tree;
    nodes = of.tree ∙ outcome.nodes;
    valid = proved_is_writable (root_limits g.instance) o.bound (unassigned_count o.plan) outcome.tree outcome.proved;
    causes = count o g.causes of.causes ∙ outcome.causes;
  }

  -- there are no more causes than steps
  pub few_causes : length g.causes ≤ g.nodes
  few_causes =
      let told = count o g.causes of.causes in
      let splits = outcome.causes in
      let within = outcome.within in
      omega (arith, told, splits, within)

  -- the plan is one of the instance
  pub a_plan : IsPlanOf g.instance g.plan
  a_plan = subst (IsPlanOf g.instance) (sym of.plan) (legal_is_plan g.instance o.plan outcome.plan.legal)

  tree_proved : IsProvedTree (root_limits g.instance) g.bound (unassigned_count g.plan) outcome.tree
  tree_proved =
      subst (λ (b : ℕ). IsProvedTree (root_limits g.instance) b (unassigned_count g.plan) outcome.tree) (sym of.bound)
      (subst (λ (p : Plan). IsProvedTree (root_limits g.instance) o.bound (unassigned_count p) outcome.tree) (sym of.plan) outcome.proved)

  -- and are proved
  pub parts_proved : PoolsAreOf → MayBeTold → IsProvedGiven g
  parts_proved pools may =
      let left = ap unassigned_count of.plan in
      let b = of.bound in
      record {
        instance = of.instance;
        budget = of.nodes;
        kept = of.kept;
        pool_length = of.few;
        pool = pools g.instance g.nodes (kept_in g) g.columns of.solved.state of.instance of.solved.run of.pooled;
        differ = of.columns.apart;
        plan = subst (IsLegal g.instance) (sym of.plan) outcome.plan.legal;
        bound = (let l = outcome.bound in omega (arith, b, l));
        tree = outcome.tree;
        nodes = of.tree ∙ outcome.nodes;
        proved = tree_proved;
        causes = subst (λ (u : ℕ). AreCauses g.columns u (root_limits g.instance) outcome.tree g.causes) (sym left)
            (may g.instance g.nodes (kept_in g) g.columns o outcome.tree g.causes of.solved of.few outcome.nodes of.causes);
        within = outcome.within;
        spent = λ below. outcome.spent (omega (arith, below, b, left));
      }

-- ---- the dossier

module _ (proved : AreProved) (count : ToldCount) (may : MayBeTold) (pools : PoolsAreOf) (goods : AreGood) (keep : KeepPrices) (bounds : BoundsHold) (one : OneTree) (searched : AreSearched) (caused : AreCaused) (tell : CausesTell)
    (handed : List NamedRoute) (g : Given) (o : Outcome) (d : Dossier) (of : IsOfOutcome g o) (kept : AreKeptIn (root_limits g.instance) handed (kept_in g)) (is : IsDossierOf g d) where
  abbrev state : SearchState
  state = of.solved.state

  is_good : IsGood d
  is_good = goods g d is (parts_proved proved count g o of pools may)

  abbrev tree : Tree
  tree = tree_of (root_limits d.instance) d.tree

  -- the tree that is given is that which the search hands out
  same_tree : (t : BranchTree) → g.tree ≡ preorder t → t ≡ handed_out state
  same_tree t nodes = one t (handed_out state) (sym nodes ∙ of.tree ∙ of.solved.outcome.tree)

  root_proved : IsProvedTree (root_limits g.instance) g.bound (unassigned_count g.plan) (handed_out state)
  root_proved =
      let p = outcome proved count g o of in
      subst (IsProvedTree (root_limits g.instance) g.bound (unassigned_count g.plan)) (same_tree p.tree (of.tree ∙ p.nodes)) (tree_proved proved count g o of)

  as_given : IsPricedAs (handed_out state) tree
  as_given =
      let t = is.tree in
      let priced = subst (λ (b : BranchTree). IsPricedTree (root_limits g.instance) b d.tree) (same_tree t.tree t.nodes) t.same in
      subst (λ (i : Instance). IsPricedAs (handed_out state) (tree_of (root_limits i) d.tree)) (sym is.instance)
      (priced_as keep (root_limits g.instance) of.instance g.bound (unassigned_count g.plan) (handed_out state) d.tree root_proved priced)

  kept_same : kept_of d ≡ kept_in g
  kept_same = ap (λ (k : ℕ). take k d.pool) is.kept ∙ ap (take g.kept) is.pool

  is_searched : IsSearched d.instance d.budget (kept_of d) (outcome_of d) state
  is_searched =
      let at_given = searched g.instance g.nodes (kept_in g) g.columns state o tree of.solved.run of.solved.outcome as_given in
      let plan : o.plan ≡ d.plan = sym (is.plan ∙ of.plan) in
      let a = subst (λ (p : Plan). IsSearched g.instance g.nodes (kept_in g) (record { plan = p; tree = tree; pool = g.columns }) state) plan at_given in
      let b = subst (λ (pool : List Route). IsSearched g.instance g.nodes (kept_in g) (record { plan = d.plan; tree = tree; pool = pool }) state) (sym is.pool) a in
      let c = subst (λ (k : List Route). IsSearched g.instance g.nodes k (outcome_of d) state) (sym kept_same) b in
      let e = subst (λ (n : ℕ). IsSearched g.instance n (kept_of d) (outcome_of d) state) (sym is.budget) c in
      subst (λ (i : Instance). IsSearched i d.budget (kept_of d) (outcome_of d) state) (sym is.instance) e

  is_caused : IsCaused d.instance d.budget (kept_of d) (outcome_of d) (causes state.tree)
  is_caused = caused d.instance d.budget (kept_of d) (outcome_of d) state is_searched
      (subst (λ (i : Instance). AreLooseShown (root_limits i) state.tree) (sym is.instance) of.solved.loose)

  -- the causes that it tells are those of the search
  causes_told : Tell d.pool (causes_of d.tree) (causes state.tree)
  causes_told =
      let at_given = subst (λ (cs : List SplitCause). Tell g.columns g.causes cs) of.solved.outcome.causes (tell g.columns o.causes.items g.causes of.causes) in
      let a = subst (λ (cs : List Cause). Tell g.columns cs (causes state.tree)) (sym is.tree.causes) at_given in
      subst (λ (pool : List Route). Tell pool (causes_of d.tree) (causes state.tree)) (sym is.pool) a

  same_best : unassigned_count d.plan ≡ unassigned_count state.plan
  same_best = ap unassigned_count (is.plan ∙ of.plan ∙ of.solved.outcome.plan)

  is_least : IsLeastLeft d
  is_least =
      let out : IsHandedOut state tree = is_searched.tree in
      let bound = of.solved.outcome.bound in
      let same : d.bound ≡ o.bound = is.bound ∙ of.bound in
      let below = bound.proved.plan in
      let n = root_limits g.instance in
      let at_root = ap root_limits is.instance in
      record {
        left = record {
          plan = omega (arith, same, below, same_best);
          leaves = subst (λ l. EachLeftProves l d.bound tree) (sym at_root) (subst (λ (b : ℕ). EachLeftProves n b tree) (sym same)
              (handed_proves n state tree o.bound out below bound.proved.leaves));
        };
        greatest = λ l h.
            let few = h.plan in
            let leaves = subst (λ m. EachLeftProves m l tree) at_root h.leaves in
            let more = no_more n state tree l o.bound out (λ open_ones. bound.greatest l (record { plan = omega (arith, few, same_best); leaves = open_ones })) leaves in
            omega (arith, same, more);
      }

  -- the dossier is one of the round
  pub round_dossier : IsRoundDossier handed (record { instance = g.instance; nodes = g.nodes }) d
  round_dossier = record {
    good = is_good;
    form = is.form;
    instance = is.instance;
    budget = is.budget;
    legal = subst (λ (i : Instance). IsLegal i d.plan) (sym is.instance) (subst (IsLegal g.instance) (sym (is.plan ∙ of.plan)) (outcome proved count g o of).plan.legal);
    packed = subst (λ (i : Instance). IsPacked i d.plan) (sym is.instance) (subst (IsPacked g.instance) (sym (is.plan ∙ of.plan)) (outcome proved count g o of).plan.packed);
    least = λ p legal. bounds d p is_good legal;
    bound = is_least;
    kept = subst (AreKeptIn (root_limits d.instance) handed) (sym kept_same) (subst (λ (i : Instance). AreKeptIn (root_limits i) handed (kept_in g)) (sym is.instance) kept);
    causes = causes state.tree;
    told = causes_told;
    caused = is_caused;
  }

-- ---- what was written

-- the answer is this fault
pub err_is : {X E : Type 0} (r : Result X E) (fault : E) → IsErr r → IsErrAnd r (λ (e : E). e ≡ fault) → r ≡ Err fault
err_is (Ok x) fault is same = absurd (cc)
err_is (Err e) fault is same = ap Err same

abbrev pub IsRoundOf : List NamedRoute → Given → Dossier → Type 0
IsRoundOf handed g d = IsRoundDossier handed (record { instance = g.instance; nodes = g.nodes }) d

-- the dossier was not written whole
pub put_failed : {K : Type 0} (sink : Ghosts K) (handed : List NamedRoute) (last : Option Plan) (g : Given) (old new : K) (fault : PutFault) → ((d : Dossier) → IsDossierOf g d → IsRoundOf handed g d)
    → LosesNoTask g.instance last g.plan → WritesDossier sink g old new (Err fault)
    → IsRoundPut handed last (record { instance = g.instance; nodes = g.nodes }) (Err (fault_of_put fault)) (sink.got old) (sink.got new)
put_failed sink handed last g old new WriteFault rounds loses w = (w.dossier, rounds w.dossier w.parts, w.puts.part, subst (LosesNoTask g.instance last) (sym w.parts.plan) loses)
put_failed sink handed last g old new OutOfMemory rounds loses w = ap sink.got w

-- it was written
pub put_whole : {K : Type 0} (sink : Ghosts K) (handed : List NamedRoute) (last : Option Plan) (g : Given) (old new : K) (planned : Planned) → ((d : Dossier) → IsDossierOf g d → IsRoundOf handed g d)
    → ((d : Dossier) → IsDossierOf g d → planned.counts ≡ counts_of d) → planned.carry ≡ map (by_names g.instance) g.columns
    → planned.jobs ≡ jobs_by_names g.instance g.plan → LosesNoTask g.instance last g.plan → WritesDossier sink g old new (Ok tt)
    → IsRoundPut handed last (record { instance = g.instance; nodes = g.nodes }) (Ok planned) (sink.got old) (sink.got new)
put_whole sink handed last g old new planned rounds counts carry jobs loses w =
    let of = w.parts in (
      w.dossier,
      rounds w.dossier of,
      counts w.dossier of,
      carry ∙ ap (λ (i : Instance). map (by_names i) g.columns) (sym of.instance) ∙ ap (map (by_names w.dossier.instance)) (sym of.pool),
      jobs ∙ ap (λ (i : Instance). jobs_by_names i g.plan) (sym of.instance) ∙ ap (jobs_by_names w.dossier.instance) (sym of.plan),
      w.puts.all,
      subst (LosesNoTask g.instance last) (sym of.plan) loses,
    )

-- ---- what is told of faults

-- of a dossier that was not written whole
pub tells_failed : {K X : Type 0} (sink : Ghosts K) (g : Given) (old new : K) (fault : PutFault) (r : Result X SessionFault) → r ≡ Err (fault_of_put fault)
    → WritesDossier sink g old new (Err fault) → TellsWrites sink old new (r ≡ Err session.WriteFault)
tells_failed sink g old new WriteFault r is w = record {
  cause = λ _. w.puts.cause refl;
  told = λ none. absurd (none is);
  later = w.puts.later;
  steady = λ h. let t = w.puts.steady h in (t.0, λ _. t.1 refl);
}
tells_failed sink g old new OutOfMemory r is w =
    let none : r ≡ Err session.WriteFault → ⊥ = λ e. let f = sym is ∙ e in absurd (cc) in record {
      cause = λ e. absurd (none e);
      told = λ _. ap sink.faults w;
      later = (let e = ap sink.faults w in omega (arith, e));
      steady = λ h. (subst sink.steady (sym w) h, λ e. absurd (none e));
    }

-- and of one that was
pub tells_whole : {K X : Type 0} (sink : Ghosts K) (g : Given) (old new : K) (x : X) → WritesDossier sink g old new (Ok tt)
    → TellsWrites sink old new (◌≡◌ {A = Result X SessionFault} (Ok x) (Err session.WriteFault))
tells_whole sink g old new x w = record {
  cause = λ e. absurd (cc);
  told = λ _. w.puts.told;
  later = w.puts.later;
  steady = λ h. ((w.puts.steady h).0, λ e. absurd (cc));
}
