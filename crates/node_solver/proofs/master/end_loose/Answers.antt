use Rattle.std.proofs.Common.{◌≤◌, ◌<◌, ◌+◌, ◌-◌, ◌*◌, ℕ, pos, ◌*ℤ◌, ◌+ℤ◌, ◌≤ℤ◌, All, rules, sym, subst, arith}
use Rattle.std.specs.Int.{w128}
use Rattle.std.specs.Prelude.{FitsSigned, unsigned_abs}
use Rattle.std.proofs.lemmas.Int.{to_z-of_z}
use Rattle.crew_terms.specs.Leaf.{Proves, bound_of, worth_of}
use Rattle.crew_terms.specs.declared.TheConstants.{D}
use Rattle.frac_master.specs.Shares.{parts_at}
use Rattle.master_run.specs.Legal.{legal_are}
use Rattle.master_run.specs.Shares.{fractional_of}
use Rattle.master_run.specs.State.{routes_of}
use Rattle.master_laws.specs.declared.losses.TheConstants.{MOST_LOSS}
use Rattle.search_terms.specs.Earned.{AreWorths as EarnedWorths, BeatsRoutes}
use Rattle.share_terms.specs.Shares.{IsLoose, choice_value}
use Rattle.node_solver.specs.Loose.{AreHeld, IsShownLoose}
use Rattle.node_solver.proofs.MeetingLemmas.{met_unbeaten}
use Rattle.column_arena.specs.Legal.{IsLegalColumn}
use Rattle.crew_terms.specs.Limits.{tasks_in, teams_in}
use Rattle.frac_master.specs.declared.shares.Share.{Share}
use Rattle.node_solver.specs.Plans.{IsBestOf}
use Rattle.split_uses.specs.Permitted.{IsPermittedSpan}
use Rattle.node_solver.proofs.Ending.{proved_required, settled_loose}
use Rattle.node_solver.proofs.master.end_loose.Goals as goal

pub returns-then-answer-best-clause-ends : goal.returns-then-answer-best-clause-ends
returns-then-answer-best-clause-ends g c =
    c.less_is_proved.ensures c.args.limits.now.limits c.args.answer.prices c.args.answer.proved c.try_uses.new.self.unassigned
    c.if-answer-best.true c.requires.count.proved

pub returns-then-answer-best-clause-best : goal.returns-then-answer-best-clause-best
returns-then-answer-best-clause-best g c = λ b.
    subst (λ i. IsBestOf i b c.args.best.now → IsBestOf i b c.try_uses.new.self) c.instance.ensures.instance (c.try_uses.ensures.best b)

pub spans_of-requires : goal.spans_of-requires
spans_of-requires g c =
    let n = c.args.limits.now.limits in
    let cs = g.C.Columns.columns c.args.columns.now in
    subst (All (λ (s : Share). IsLegalColumn n cs s.column)) (sym c.deref-3.ensures.value) (c.in_ok-solution.ensures.legal n cs c.requires.settled.over)

pub choice_of-requires-clause-spans : goal.choice_of-requires-clause-spans
choice_of-requires-clause-spans g c =
    subst (All (IsPermittedSpan c.args.limits.now.limits)) (sym c.deref-4.ensures.value) c.in_ok-spans.ensures

pub returns-in_err-spans-clause-best : goal.returns-in_err-spans-clause-best
returns-in_err-spans-clause-best g c = λ b.
    subst (λ i. IsBestOf i b c.args.best.now → IsBestOf i b c.try_uses.new.self) c.instance.ensures.instance (c.try_uses.ensures.best b)

pub returns-in_err-choice-clause-best : goal.returns-in_err-choice-clause-best
returns-in_err-choice-clause-best g c = λ b.
    subst (λ i. IsBestOf i b c.args.best.now → IsBestOf i b c.try_uses.new.self) c.instance.ensures.instance (c.try_uses.ensures.best b)

pub returns-clause-ends : goal.returns-clause-ends
returns-clause-ends g c =
    let n = c.args.limits.now.limits in
    let now = c.try_uses.new.self.unassigned in
    let most : now ≤ tasks_in n = omega (arith, c.try_uses.ensures.fewer, c.requires.most) in
    record {
      valid = c.in_ok-choice.ensures;
      some = omega (arith, c.if-answer-best.false);
      earned = settled_loose n now c.args.answer.proved (g.C.Columns.columns c.args.columns.now) c.args.run.now c.args.answer.prices
          c.requires.settled c.requires.count most c.if-answer-best.false;
    }

pub returns-clause-best : goal.returns-clause-best
returns-clause-best g c = λ b.
    subst (λ i. IsBestOf i b c.args.best.now → IsBestOf i b c.try_uses.new.self) c.instance.ensures.instance (c.try_uses.ensures.best b)

pub returns-clause-shown : goal.returns-clause-shown
returns-clause-shown g c =
    let n = c.args.limits.now.limits in
    let cs = g.C.Columns.columns c.args.columns.now in
    let p = c.args.answer.prices in
    let s = c.requires.settled in
    let at = s.over.at in
    let r = c.args.run.now in
    let routes = routes_of cs r.ids in
    let t = r.master.rows in
    let made = at.along.made in
    let now = c.try_uses.new.self.unassigned in
    let den = c.in_ok-solution.solution.den in
    let out = c.in_ok-solution.solution.shares.items in
    let opened = c.in_ok-solution.solution.left_open.items in
    let whole = unsigned_abs den in
    let most : now ≤ tasks_in n = omega (arith, c.try_uses.ensures.fewer, c.requires.most) in
    let some : 1 ≤ now = omega (arith, c.if-answer-best.false) in
    let run = c.lists_are_runs.ensures n routes made t at.along.follows.run in
    let all = legal_are n cs routes s.over.legal in
    let worth : EarnedWorths n p s.worths = record { count = s.worth.count; each = s.worth.each } in
    let unbeaten : (k : ℕ) → k < teams_in n → BeatsRoutes routes k p (worth_of s.worths k) → ⊥ =
    λ k known beats. met_unbeaten n cs routes k p (worth_of s.worths k) s.over.legal (s.met k known) beats in
    let unproved : Proves (bound_of n p s.worths) now → ⊥ =
    λ proves. let b = c.requires.count.greatest now most ((s.decides now most).1 proves) in
    let l = c.if-answer-best.false in omega arith in
    let parts = c.in_ok-solution.ensures.parts n cs s.over in
    let basic = c.in_ok-solution.ensures.basic n cs s.over in
    let choice = c.in_ok-solution.ensures.choice n cs s.over in
    let is = c.instance.ensures.is_instance in
    let loose = c.unproved_shares_are_loose.ensures n routes made t p s.worths whole (parts_at t whole) now is run at.done all s.rounded worth unbeaten parts some unproved in
    let near = c.rounded_prices_are_near.ensures n routes made t p s.worths whole (parts_at t whole) is run at.done all s.rounded worth unbeaten parts in
    let whole_choice = fractional_of cs den out opened in
    let shown : IsShownLoose n now p whole_choice = record {
      fractional = choice.fractional;
      loose = subst (λ ch. IsLoose n ch (1000 * (now - 1) + 1) 1000) (sym basic) loose;
      worths = s.worths;
      worth = s.worth;
      near = subst (λ ch. (pos D *ℤ choice_value n ch) ≤ℤ (pos ch.whole *ℤ (bound_of n p s.worths +ℤ pos MOST_LOSS))) (sym basic) near;
    } in
    let fits : FitsSigned w128 den = search rules in
    simp to_z-of_z
    (subst (λ l. IsShownLoose n now p (fractional_of cs den l c.of-2.result)) (sym c.of.ensures)
    (subst (λ l. IsShownLoose n now p (fractional_of cs den out l)) (sym c.of-2.ensures) shown))

pub returns-then-answer-best-clause-required : goal.returns-then-answer-best-clause-required
returns-then-answer-best-clause-required g c = proved_required c.args.limits.now.limits c.args.answer.prices c.args.answer.proved c.requires.count.proved

pub returns-clause-required : goal.returns-clause-required
returns-clause-required g c = proved_required c.args.limits.now.limits c.args.answer.prices c.args.answer.proved c.requires.count.proved

pub returns-clause-held : goal.returns-clause-held
returns-clause-held g c =
    let n = c.args.limits.now.limits in
    let cs = g.C.Columns.columns c.args.columns.now in
    let den = c.in_ok-solution.solution.den in
    let out = c.in_ok-solution.solution.shares.items in
    let opened = c.in_ok-solution.solution.left_open.items in
    let held : AreHeld n cs den out opened = record {
      legal = c.in_ok-solution.ensures.legal n cs c.requires.settled.over;
      positive = c.in_ok-solution.ensures.positive n cs c.requires.settled.over;
      rise = c.in_ok-solution.ensures.rise n cs c.requires.settled.over;
    } in
    let fits : FitsSigned w128 den = search rules in
    simp to_z-of_z
    (subst (λ l. AreHeld n cs den l c.of-2.result) (sym c.of.ensures)
    (subst (λ l. AreHeld n cs den out l) (sym c.of-2.ensures) held))
