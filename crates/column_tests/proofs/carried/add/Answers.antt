use Rattle.std.proofs.Common.{◌<◌, [], ℕ, List, length, All, sym, subst}
use Rattle.std.proofs.lemmas.List.Elements.{All-push, All-cons, All-nil}
use Rattle.crew_terms.specs.Instance.{Instance}
use Rattle.crew_terms.specs.Limits.{Route}
use Rattle.crew_terms.specs.declared.Visit.{Visit}
use Rattle.route_terms.specs.Named.{IsOfInstance}
use Rattle.column_arena.specs.Columns.{IsAdded}
use Rattle.column_arena.specs.Columns.IsAdded.{Stood, Last}
use Rattle.column_tests.proofs.carried.add.Goals as goal

all_added : (i : Instance) (old new : List Route) (c : Route) (id : ℕ) → All (IsOfInstance i) old → IsOfInstance i c → IsAdded old c id new → All (IsOfInstance i) new
all_added i old new c id all is (Stood k e s) = subst (All (IsOfInstance i)) (sym s) all
all_added i old new c id all is (Last f n e) = subst (All (IsOfInstance i)) (sym e) (All-push (IsOfInstance i) old c all is)

pub returns : goal.returns
returns g c =
    let at : Visit = record { task = c.args.task; start = 420 } in
    let P = λ (v : Visit). v.task < length c.args.instance.now.tasks in
    all_added _ _ _ _ _ c.requires.of_instance (record { team = c.requires.team; tasks = All-cons P at [] c.requires.task (All-nil P) }) c.in_ok-add.ensures.added
