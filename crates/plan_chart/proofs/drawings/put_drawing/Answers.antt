use Rattle.std.proofs.Common.{◌≡◌, ◌*◌, ℕ, ap, ◌∙◌}
use Rattle.crew_io.specs.Chains.{puts_then}
use Rattle.each_out.specs.Laws.{cut_first_of_three, cut_second_of_three, puts_as}
use Rattle.plan_chart.specs.declared.hours.Hours.{Hours}
use Rattle.plan_chart.specs.Drawings.{drawing_of, frame_of, ground_of, work_of}
use Rattle.plan_chart.proofs.drawings.put_drawing.Goals as goal

-- the same with the hours and the height by name
frame_is : (hours other : Hours) (bottom height : ℕ) → hours ≡ other → bottom ≡ height → frame_of hours bottom ≡ frame_of other height
frame_is hours other bottom height h b = ap (λ (x : Hours). frame_of x bottom) h ∙ ap (frame_of other) b

pub returns-in_err-put_frame : goal.returns-in_err-put_frame
unfolding drawing_of
returns-in_err-put_frame g c =
    cut_first_of_three g.K.Sink _ _ _ _ _ _ c.from_residual.result c.from_residual.ensures.0
    (puts_as g.K.Sink _ _ _ _ _ c.in_err-put_frame.ensures (frame_is _ _ _ _ c.hours_of-hours.ensures.hours c.bottom-bottom.ensures.bottom))

pub returns-in_err-put_ground : goal.returns-in_err-put_ground
unfolding drawing_of
returns-in_err-put_ground g c =
    let i = c.args.instance.now in
    let p = c.args.plan.now in
    cut_second_of_three g.K.Sink _ _ _ _ _ _ _ _ c.from_residual-in_err-put_ground.result c.from_residual-in_err-put_ground.ensures.0
    (puts_as g.K.Sink _ _ _ _ _ c.in_ok-put_frame.ensures (frame_is _ _ _ _ c.hours_of-hours.ensures.hours c.bottom-bottom.ensures.bottom))
    (puts_as g.K.Sink _ _ _ _ _ c.in_err-put_ground.ensures
    (ap (λ (x : Hours). ground_of i p x c.bottom-bottom.result) c.hours_of-hours.ensures.hours ∙ ap (ground_of i p _) c.bottom-bottom.ensures.bottom))

pub returns : goal.returns
unfolding drawing_of
returns g c =
    let i = c.args.instance.now in
    let p = c.args.plan.now in
    puts_then g.K.Sink _ _ _ _ _ _ _
    (puts_then g.K.Sink _ _ _ _ _ _ _
    (puts_as g.K.Sink _ _ _ _ _ c.in_ok-put_frame.ensures (frame_is _ _ _ _ c.hours_of-hours.ensures.hours c.bottom-bottom.ensures.bottom))
    (puts_as g.K.Sink _ _ _ _ _ c.in_ok-put_ground.ensures
    (ap (λ (x : Hours). ground_of i p x c.bottom-bottom.result) c.hours_of-hours.ensures.hours ∙ ap (ground_of i p _) c.bottom-bottom.ensures.bottom)))
    (puts_as g.K.Sink _ _ _ _ _ c.put_work.ensures (ap (λ (x : Hours). work_of i p c.args.before.now c.args.now.now (x.first * 60)) c.hours_of-hours.ensures.hours))
