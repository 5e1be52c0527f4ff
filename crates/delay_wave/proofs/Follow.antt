-- late tasks, one by one
use Rattle.std.proofs.Common.{◌≡◌, ◌≢◌, ◌<◌, ◌≤◌, ◌+◌, ◌++◌, ℕ, List, [], ◌∷◌, length, get_or, take, IsSome, arith, sym, subst, ◌∙◌}
use Rattle.std.specs.List.{All, AllPairs}
use Rattle.std.proofs.lemmas.List.{get_or-take, get_or_default, length-take-le, take_more}
use Rattle.std.proofs.lemmas.List.Elements.{All-push}
use Rattle.std.proofs.lemmas.List.Quantifiers.{all_pairs_push}
use Rattle.crew_terms.specs.Plan.{Plan, job_of}
use Rattle.delay_wave.specs.declared.lates.Late.{Late}
use Rattle.delay_wave.specs.declared.lates.TheConstants.{LATEST_END}
use Rattle.delay_wave.specs.Ends.{AreLates, MayFollow}

module _ (p : Plan) (lates : List Late) (n : ℕ) (d : Late) (below : n < length lates) where
  pub one_more : MayFollow p (take n lates) (get_or lates n d) → AreLates p (take n lates) → AreLates p (take (n + 1) lates)
  one_more may are =
      subst (AreLates p) (sym (take_more lates n d below))
      (record {
        assigned = All-push (λ (l : Late). IsSome (job_of p l.task)) (take n lates) (get_or lates n d) are.assigned may.assigned;
        differ = all_pairs_push (λ (a b : Late). a.task ≢ b.task) (take n lates) (get_or lates n d) are.differ may.new;
        ends = All-push (λ (l : Late). l.end ≤ LATEST_END) (take n lates) (get_or lates n d) are.ends may.end;
      })

  pub each_may : AreLates p lates → MayFollow p (take n lates) (get_or lates n d)
  each_may are = record { assigned = are.assigned n d below; end = are.ends n d below; new = new }
    where
      new : All (λ (l : Late). l.task ≢ (get_or lates n d).task) (take n lates)
      new k e l =
          let m : k < n = let len = length-take-le n lates (omega arith) in omega arith in
          subst (λ (x : Late). x.task ≢ (get_or lates n d).task) (sym (get_or-take n lates k e m))
          (subst (λ (x : Late). (get_or lates k e).task ≢ x.task) (get_or_default lates n e d below) (are.differ k n e m below))
