use Rattle.plan_chart.specs.Pages.{page_head}
use Rattle.plan_chart.proofs.pages.put_page_head.Goals as goal

pub returns : goal.returns
unfolding page_head
returns g c = c.put_all.ensures.puts
