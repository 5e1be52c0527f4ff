use Rattle.std.proofs.Common.{◌<◌, ℕ, below_more, arith}
use Rattle.crew_terms.specs.Limits.{tasks_in}
use Rattle.master_run.specs.Rounding.{IsPairRounded}
use Rattle.master_run.proofs.Rounded.{kept_all, kept_then}
use Rattle.master_run.proofs.run.Run.round_teams.Goals as goal

pub loop-k-init : goal.loop-k-init
loop-k-init c = record {
  shape = c.requires.shape;
  required = c.requires.required;
  here = λ k j below known. absurd (omega arith);
  keeps = kept_all c.args.limits.now.limits c.args.self.now.master.rows c.args.prices.now;
}

pub loop-k-preserved : goal.loop-k-preserved
loop-k-preserved c =
    let n = c.args.limits.now.limits in
    let t = c.args.self.now.master.rows in
    let all = below_more (λ k. (j : ℕ) → j < tasks_in n → IsPairRounded n t c.round_team.new.prices k j) c.loop-k.k
    (λ k below j known. c.round_team.ensures.keeps.pairs k j (c.loop-k.invariant.here k j below known)) c.in_ok-round_team.ensures.here in
    record {
      shape = c.round_team.ensures.shape;
      required = c.round_team.ensures.required;
      here = λ k j below known. all k below j known;
      keeps = kept_then n t c.args.prices.now c.loop-k.prices c.round_team.new.prices c.loop-k.invariant.keeps c.round_team.ensures.keeps;
    }

pub returns-in_err-round_team-clause-keeps : goal.returns-in_err-round_team-clause-keeps
returns-in_err-round_team-clause-keeps c =
    kept_then c.args.limits.now.limits c.args.self.now.master.rows c.args.prices.now c.loop-k.prices c.round_team.new.prices c.loop-k.invariant.keeps c.round_team.ensures.keeps
