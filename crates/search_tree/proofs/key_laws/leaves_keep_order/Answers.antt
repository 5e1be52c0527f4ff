use Rattle.search_tree.proofs.Aged.{due, taken, turned}
use Rattle.search_tree.proofs.key_laws.leaves_keep_order.Goals as goal

pub returns-clause-due : goal.returns-clause-due
returns-clause-due c = due

pub returns-clause-taken : goal.returns-clause-taken
returns-clause-taken c = taken

pub returns-clause-turned : goal.returns-clause-turned
returns-clause-turned c = λ old new key n cause prices bound choice bounds keyed waiting is.
    let leaf = keyed.leaves key n bound waiting in
    turned old new key n cause prices choice bounds keyed is (c.split_ways.ensures.first old.nodes n cause prices choice keyed.numbered leaf)
    (c.split_ways.ensures.second old.nodes n cause prices choice keyed.numbered leaf)
