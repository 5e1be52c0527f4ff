use Rattle.std.proofs.Common.{◌≤◌, ◌+◌, arith, ap, subst, sym, length, length-append, ◌∷◌, [], ℕ}
use Rattle.arrayvec.specs.ArrayVec.{ArrayVec}
use Rattle.team_days.specs.Free.{IsFreeFor}
use Rattle.plan_builder.specs.Schedules.{Schedule}
use Rattle.plan_builder.proofs.Listed.{AreBelow, below_yes, below_no, below_all}
use Rattle.plan_builder.proofs.schedule.Schedule.free_teams.Goals.{then-is_free, else-is_free}
use Rattle.plan_builder.proofs.schedule.Schedule.free_teams.Goals as goal

pub loop-k-preserved : goal.loop-k-preserved
loop-k-preserved c =
    let P : ℕ → Type 0 = λ k. IsFreeFor c.args.self.now.instance c.args.self.now.plan k c.args.j c.args.t in
    elim c.if-is_free.branch [
      | then-is_free w ↦
          let e = w.push.ensures.items in
          let few = c.loop-k.invariant.0 in
          let more = below_yes P c.loop-k.k c.loop-k.free.items c.loop-k.invariant.1 (c.is_free.ensures.0 w.if-is_free.true) in
          let of_push : (length w.push.new.self.items ≤ c.loop-k.k + 1) × AreBelow P (c.loop-k.k + 1) w.push.new.self.items = rw e (let long = length-append c.loop-k.free.items (c.loop-k.k ∷ []) in omega arith, more) in
          subst (λ (v : ArrayVec ℕ). (length v.items ≤ c.loop-k.k + 1) × AreBelow P (c.loop-k.k + 1) v.items) (sym w.free-is) of_push
      | else-is_free w ↦
          let few = c.loop-k.invariant.0 in
          let more = below_no P c.loop-k.k c.loop-k.free.items c.loop-k.invariant.1 (λ free. let t = c.is_free.ensures.1 free in let f = w.if-is_free.false in cc) in
          subst (λ (v : ArrayVec ℕ). (length v.items ≤ c.loop-k.k + 1) × AreBelow P (c.loop-k.k + 1) v.items) (sym w.free-is) (omega arith, more)
    ]

pub returns : goal.returns
returns c =
    below_all (λ k. IsFreeFor c.args.self.now.instance c.args.self.now.plan k c.args.j c.args.t) c.loop-k.k c.loop-k.free.items
    (λ h free.
    let l = free.known in
    let m = c.loop-k-test.false in
    let a = c.teams-k-end.ensures.count in
    let b = ap (λ (s : Schedule). length s.instance.teams) c.self.view_is in
    omega arith) c.loop-k.invariant.1
