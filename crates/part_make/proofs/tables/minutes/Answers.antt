use Rattle.std.proofs.Common.{arith}
use Rattle.std.proofs.lemmas.List.{get_or_read}
use Rattle.part_make.proofs.KeptRows.{row_length, row_minutes}
use Rattle.part_make.proofs.tables.minutes.Goals as goal

pub index-requires : goal.index-requires
index-requires c =
    let n = row_length c.args.rows.now c.requires.table c.args.a c.requires.from c.index-rows-a.result c.index-rows-a.is in
    let l = c.index-rows-a.result.ok.0 in
    let b = c.requires.to in
    omega arith

pub returns-clause-limit : goal.returns-clause-limit
returns-clause-limit c =
    let n = row_length c.args.rows.now c.requires.table c.args.a c.requires.from c.index-rows-a.result c.index-rows-a.is in
    let few = row_minutes c.args.rows.now c.requires.table c.args.a c.requires.from c.index-rows-a.result c.index-rows-a.is c.args.c c.requires.to in
    let b = c.requires.to in
    let e = get_or_read c.index-rows-a.result.items c.args.c c.index.result.now (omega arith) c.index.ensures 0 in
    omega arith
