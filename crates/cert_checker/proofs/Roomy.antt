-- room for the tree of an instance is room for that of one that is alike
use Rattle.std.proofs.Common.{◌≡◌, ◌+◌, ℤ, List, length, arith, refl, sym, subst, ap, ◌∙◌}
use Rattle.std.proofs.lemmas.List.Elements.{All-weaker}
use Rattle.crew_terms.specs.Instance.{Instance, task_of}
use Rattle.crew_terms.specs.Limits.{Limits as NodeLimits, root_limits}
use Rattle.leaf_check.specs.declared.reader.LeafReader.{LeafReader}
use Rattle.leaf_check.specs.declared.reader.LeafDue.TheVariants.{Price}
use Rattle.share_check.specs.Summed.{HasRoom}
use Rattle.share_check.specs.declared.sums.ShareSums.{ShareSums}
use Rattle.cert_checker.specs.Rooms.{IsAlike, IsReaderFor}

module _ (i h : Instance) (alike : IsAlike i h) where
  tasks : length i.tasks ≡ length h.tasks
  tasks = alike.windows.tasks

  pub sums_for : (n : NodeLimits) → n.instance ≡ h → (s : ShareSums) → HasRoom (root_limits i) s → HasRoom n s
  sums_for n at s room =
      let ts : length i.tasks ≡ length n.instance.tasks = tasks ∙ ap (λ (x : Instance). length x.tasks) (sym at) in
      let ks : length i.teams ≡ length n.instance.teams = alike.teams ∙ ap (λ (x : Instance). length x.teams) (sym at) in
      record {
        all = room.all ∙ ts;
        count = room.count ∙ ks;
        teams = λ k d below. room.teams k d (omega arith) ∙ ts;
      }

  pub reader_for : (r new : LeafReader) → IsReaderFor i r → new ≡ record r { due = Price } → IsReaderFor h new
  reader_for r new ready is =
      let n = ready.0 in
      let is_ready = ready.2 in
      let at : n.instance ≡ i = ready.1 in
      let ts : length n.instance.tasks ≡ length h.tasks = ap (λ (x : Instance). length x.tasks) at ∙ tasks in
      let ks : length n.instance.teams ≡ length h.teams = ap (λ (x : Instance). length x.teams) at ∙ alike.teams in
      subst (IsReaderFor h) (sym is) (
        root_limits h,
        refl,
        record {
          prices = record {
            prices = record { tasks = is_ready.prices.prices.tasks ∙ ts; teams = is_ready.prices.prices.teams ∙ ks };
            columns = All-weaker (λ (row : List ℤ). length row ≡ length n.instance.tasks) (λ (row : List ℤ). length row ≡ length h.tasks) (λ row e. e ∙ ts) r.prices.rho is_ready.prices.columns;
          };
          table = record {
            tasks = is_ready.table.tasks ∙ ts;
            first = λ j below. is_ready.table.first j (omega arith) ∙ ap (λ (x : Instance). (task_of x j).earliest) at ∙ alike.windows.earliest j (let t = tasks in omega arith);
            minutes = λ j below. is_ready.table.minutes j (omega arith) ∙ ap (λ (x : Instance). (task_of x j).latest + 1) at ∙ ap (λ t. t + 1) (alike.windows.latest j (let t = tasks in omega arith));
          };
          room = is_ready.room ∙ ts;
          worths = is_ready.worths ∙ ks;
          due = tt;
        },
      )
