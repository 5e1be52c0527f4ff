use Rattle.written_laws.proofs.Pools.{pool_of}
use Rattle.written_laws.proofs.solved.solved_pools_are_of_the_instance.Goals as goal

pub returns : goal.returns
returns x = λ i budget kept pool s inst run all.
    pool_of i budget kept pool s (λ t way is. x.search_nodes.ensures.search i budget t way inst is)
    (λ columns t is. x.search_run_is_run.ensures i budget kept columns t is) run all
