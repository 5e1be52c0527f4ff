use Rattle.column_arena.proofs.store.Store.using.Goals as goal

pub returns : goal.returns
returns c = rw (c.using.ensures, c.deref.ensures.value, ← c.self.view_is) (c.self.invariant.uses c.args.team c.args.task c.requires.team c.requires.task)
