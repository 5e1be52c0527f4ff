-- where no job is frozen, the limits of the root are those of an instance that is alike
use Rattle.std.proofs.Common.{◌≡◌, ◌<◌, ℕ, List, [], length, map, ap, subst, sym, ◌∙◌, arith, ext_get_or}
use Rattle.std.specs.Prelude.{All}
use Rattle.std.specs.List.{range_with_len}
use Rattle.std.proofs.lemmas.List.FromFn.{length-map-range_with_len, get_or-map-range_with_len}
use Rattle.std.proofs.lemmas.List.Elements.{All-nil, All-weaker}
use Rattle.crew_terms.specs.Instance.{Instance, task_of}
use Rattle.crew_terms.specs.Limits.{Limits, IsLimits, root_limits, root_pair, root_window}
use Rattle.crew_terms.specs.Plan.{job_of}
use Rattle.crew_terms.specs.declared.Pair.{Pair}
use Rattle.crew_terms.specs.declared.Pair.TheVariants.{Free}
use Rattle.node_limits.specs.Rest.{NodeState, Rest, limits_over}
use Rattle.node_limits.specs.Roots.{root_row_of}
use Rattle.cert_checker.specs.Due.{IsRoot}
use Rattle.cert_checker.specs.Rooms.{HaveSameRoots}

-- what two functions give of the first numbers is the same where they give the same of each
map_same : {X : Type 0} (d : X) (f g : ℕ → X) (n : ℕ) → ((j : ℕ) → j < n → f j ≡ g j) → map f (range_with_len 0 n) ≡ map g (range_with_len 0 n)
map_same d f g n h = ext_get_or d (map f (range_with_len 0 n)) (map g (range_with_len 0 n))
    (length-map-range_with_len f 0 n ∙ sym (length-map-range_with_len g 0 n))
    (λ i l. let b : i < n = (let m = length-map-range_with_len f 0 n in omega arith) in
    get_or-map-range_with_len f 0 n i i d b (omega arith) ∙ h i b ∙ sym (get_or-map-range_with_len g 0 n i i d b (omega arith)))

module _ (i h : Instance) (same : HaveSameRoots i h) where
  tasks : length i.tasks ≡ length h.tasks
  tasks = same.alike.windows.tasks

  there : (j : ℕ) → j < length i.tasks → j < length h.tasks
  there j below = subst (λ n. j < n) tasks below

  here : (j : ℕ) → j < length h.tasks → j < length i.tasks
  here j below = subst (λ n. j < n) (sym tasks) below

  windows : (root_limits i).windows ≡ (root_limits h).windows
  windows =
      let f : ℕ → ℕ × ℕ = λ j. root_window (task_of i j) (job_of i.frozen j) in
      let g : ℕ → ℕ × ℕ = λ j. root_window (task_of h j) (job_of h.frozen j) in
      map_same (0, 0) f g (length i.tasks) (λ j below.
      ap (root_window (task_of i j)) (same.free j below)
      ∙ ap (λ e. (e, (task_of i j).latest)) (same.alike.windows.earliest j below)
      ∙ ap (λ l. ((task_of h j).earliest, l)) (same.alike.windows.latest j below)
      ∙ sym (ap (root_window (task_of h j)) (same.free_too j (there j below))))
      ∙ ap (λ n. map g (range_with_len 0 n)) tasks

  row : (k : ℕ) → root_row_of i k ≡ root_row_of h k
  row k =
      let g : ℕ → Pair = λ j. root_pair (job_of h.frozen j) k in
      map_same Free (λ j. root_pair (job_of i.frozen j) k) g (length i.tasks) (λ j below.
      ap (λ o. root_pair o k) (same.free j below) ∙ sym (ap (λ o. root_pair o k) (same.free_too j (there j below))))
      ∙ ap (λ n. map g (range_with_len 0 n)) tasks

  pairs : (root_limits i).pairs ≡ (root_limits h).pairs
  pairs = map_same [] (root_row_of i) (root_row_of h) (length i.teams) (λ k below. row k) ∙ ap (λ n. map (root_row_of h) (range_with_len 0 n)) same.alike.teams

  -- limits over the one instance are limits over the other
  limits_too : (s : NodeState) → IsLimits (limits_over i s) → IsLimits (limits_over h s)
  limits_too s are = record {
    windows = are.windows ∙ tasks;
    rows = are.rows ∙ same.alike.teams;
    columns = All-weaker (λ (r : List Pair). length r ≡ length i.tasks) (λ (r : List Pair). length r ≡ length h.tasks) (λ r e. e ∙ tasks) s.pairs are.columns;
    order = λ j below. are.order j (here j below);
    early = λ j below. let e = same.alike.windows.earliest j (here j below) in let le = are.early j (here j below) in omega arith;
    late = λ j below. let e = same.alike.windows.latest j (here j below) in let le = are.late j (here j below) in omega arith;
  }

  -- the limits of the root are the same
  pub same_root : (r : Rest) → IsRoot i r → IsRoot h r
  same_root r root = record {
    over = record {
      present = limits_too r.present root.over.present;
      past = subst (λ (ps : List NodeState). All (λ s. IsLimits (limits_over h s)) ps) (sym root.past) (All-nil (λ s. IsLimits (limits_over h s)));
    };
    root =
        ap (λ w. limits_over h (record { windows = w; pairs = r.present.pairs })) (ap (λ (n : Limits). n.windows) root.root ∙ windows)
        ∙ ap (λ p. limits_over h (record { windows = (root_limits h).windows; pairs = p })) (ap (λ (n : Limits). n.pairs) root.root ∙ pairs);
    past = root.past;
  }
