use Rattle.team_days.proofs.obstacles.goes_on_late.Goals as goal

pub returns-else-can_follow : goal.returns-else-can_follow
returns-else-can_follow c = (c.in_ok-next.next.start, c.in_ok-next.was, λ h. let t = c.can_follow.ensures.1 h in let f = c.if-can_follow.false in cc)
