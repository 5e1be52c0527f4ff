-- the page on which charts stand
use Rattle.std.specs.Prelude.{◌==◌, ◌++◌, ℕ, List, if◌then◌else◌}
use Rattle.plan_chart.specs.declared.pages.TheConstants.{NO_CHART, PAGE_END, PAGE_HEAD}

-- how a page begins
unfoldable pub page_head : List ℕ
page_head = PAGE_HEAD.now

-- how a page without a chart ends: it says so
unfoldable pub empty_end : List ℕ
empty_end = NO_CHART.now ++ PAGE_END.now

-- how a page of so many charts ends
unfoldable pub page_end : ℕ → List ℕ
page_end charts = if charts == 0 then empty_end else PAGE_END.now
