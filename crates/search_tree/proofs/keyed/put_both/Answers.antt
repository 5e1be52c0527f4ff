use Rattle.std.proofs.Common.{◌∙◌, ap, sym, subst, ℕ}
use Rattle.std.specs.Prelude.{Contains}
use Rattle.node_queue.specs.Waits.{Waits, keys_of, without}
use Rattle.search_tree.proofs.Found.{key_stays, last_key, none_found, without_last}
use Rattle.search_tree.proofs.keyed.put_both.Goals as goal

pub returns-in-Ok-clause-other : goal.returns-in-Ok-clause-other
returns-in-Ok-clause-other c = λ x.
    c.in-Ok.ensures.fresh (subst (λ (q : Waits). Contains (keys_of q) c.in-Ok.high) (sym c.in_ok-low.ensures.last) (key_stays c.args.queue.now _ c.in-Ok.high x))

pub returns-in-Ok-clause-differ : goal.returns-in-Ok-clause-differ
returns-in-Ok-clause-differ c = λ e.
    c.in-Ok.ensures.fresh (subst (λ (k : ℕ). Contains (keys_of c.put.new.self) k) e
    (subst (λ (q : Waits). Contains (keys_of q) c.in_ok-low.low) (sym c.in_ok-low.ensures.last) (last_key c.args.queue.now c.in_ok-low.low _)))

pub returns-in-Err-clause-err : goal.returns-in-Err-clause-err
returns-in-Err-clause-err c =
    c.take.ensures.rest
    ∙ ap (λ (q : Waits). without q c.in_ok-low.low) (c.in-Err.ensures.err ∙ c.in_ok-low.ensures.last)
    ∙ without_last c.args.queue.now c.in_ok-low.low _ (none_found c.args.queue.now c.in_ok-low.low c.in_ok-low.ensures.fresh)
