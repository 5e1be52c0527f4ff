use Rattle.std.proofs.Common.{◌≡◌, ◌∙◌, true, false, ap, sym}
use Rattle.part_terms.specs.Parts.{cut_down}
use Rattle.part_match.proofs.FoundTasks.{one_list_of_numbers}
use Rattle.part_match.proofs.restricts.restriction.Goals as goal

pub returns-then-not-has_same_jobs : goal.returns-then-not-has_same_jobs
returns-then-not-has_same_jobs c = λ tasks r.
    let whole = c.args.whole.now in
    let part = c.args.part.now in
    let found = rw c.in-Some.is at c.in_ok-tasks.ensures in
    let same : tasks ≡ c.in-Some.tasks.items =
    one_list_of_numbers whole part c.tasks.ensures.limits tasks c.in-Some.tasks.items (record { known = r.known; rising = r.rising; kept = r.kept }) found in
    let frozen : part.frozen ≡ cut_down whole.frozen c.deref.result.now = r.frozen ∙ ap (cut_down whole.frozen) (same ∙ sym c.deref.ensures.value) in
    let yes : c.has_same_jobs.result ≡ true = c.has_same_jobs.ensures.1 frozen in
    let no : c.has_same_jobs.result ≡ false = c.if-not-has_same_jobs.true in
    cc
