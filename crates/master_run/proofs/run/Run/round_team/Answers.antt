use Rattle.std.proofs.Common.{below_more, arith}
use Rattle.master_run.specs.Rounding.{IsPairRounded}
use Rattle.master_run.proofs.Rounded.{kept_all, kept_then}
use Rattle.master_run.proofs.run.Run.round_team.Goals as goal

pub loop-j-init : goal.loop-j-init
loop-j-init c = record {
  shape = c.requires.shape;
  required = c.requires.required;
  here = λ j below. absurd (omega arith);
  keeps = kept_all c.args.limits.now.limits c.args.self.now.master.rows c.args.prices.now;
}

pub loop-j-preserved : goal.loop-j-preserved
loop-j-preserved c =
    let n = c.args.limits.now.limits in
    let t = c.args.self.now.master.rows in
    record {
      shape = c.round_pair.ensures.shape;
      required = c.round_pair.ensures.required;
      here = below_more (λ j. IsPairRounded n t c.round_pair.new.prices c.args.k j) c.loop-j.j
          (λ j below. c.round_pair.ensures.keeps.pairs c.args.k j (c.loop-j.invariant.here j below)) c.in_ok-round_pair.ensures.here;
      keeps = kept_then n t c.args.prices.now c.loop-j.prices c.round_pair.new.prices c.loop-j.invariant.keeps c.round_pair.ensures.keeps;
    }

pub returns-in_err-round_pair-clause-keeps : goal.returns-in_err-round_pair-clause-keeps
returns-in_err-round_pair-clause-keeps c =
    kept_then c.args.limits.now.limits c.args.self.now.master.rows c.args.prices.now c.loop-j.prices c.round_pair.new.prices c.loop-j.invariant.keeps c.round_pair.ensures.keeps
