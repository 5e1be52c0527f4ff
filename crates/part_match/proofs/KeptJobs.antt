-- the frozen jobs of a part, one by one
use Rattle.std.proofs.Common.{◌≡◌, ◌≤◌, ◌<◌, ◌∙◌, ℕ, List, None, length, get_or, ap, sym, arith}
use Rattle.std.proofs.lemmas.List.{get_or-map, length-map}
use Rattle.crew_terms.specs.Instance.{Instance}
use Rattle.crew_terms.specs.Plan.{Plan, job_of}
use Rattle.crew_terms.specs.Rules.{IsInstance}
use Rattle.part_terms.specs.Parts.{cut_down}
use Rattle.part_match.proofs.OneList.{one_list}

module _ (i j : Instance) (tasks : List ℕ) where
  -- where each task has its job, all do
  pub one_plan : (is : IsInstance j) (n : ℕ) → length tasks ≡ length j.tasks → length j.tasks ≤ n
      → ((k : ℕ) → k < n → job_of j.frozen k ≡ job_of i.frozen (get_or tasks k 0)) → j.frozen ≡ cut_down i.frozen tasks
  one_plan is n many le same =
      let whole : length j.frozen ≡ length j.tasks = is.frozen.whole in
      let cut : length (cut_down i.frozen tasks) ≡ length tasks = length-map tasks (job_of i.frozen) in
      one_list None j.frozen (cut_down i.frozen tasks) (length j.frozen) (omega arith) (omega arith)
      (λ k l. same k (omega arith) ∙ sym (get_or-map (job_of i.frozen) tasks k 0 None (omega arith)))

  -- where all do, each does
  pub one_job : (k : ℕ) → k < length tasks → j.frozen ≡ cut_down i.frozen tasks → job_of j.frozen k ≡ job_of i.frozen (get_or tasks k 0)
  one_job k l same = ap (λ (p : Plan). job_of p k) same ∙ get_or-map (job_of i.frozen) tasks k 0 None l
