use Rattle.std.proofs.Common.{Bor, List, ℕ, ◌≡◌, ◌<◌, ◌∙◌, sym, subst, rules, inl, inr, true, Some, Ok, Err, length, []}
use Rattle.std.specs.Result.{is_ok}
use Rattle.csv.specs.Reading.{default_config, strip_bom}
use Rattle.csv.specs.Records.{fields_of}
use Rattle.csv.specs.declared.parser.State.TheVariants as st
use Rattle.csv.proofs.ReadFacts.{rows-end, rows-more}
use Rattle.day_terms.specs.Days.{ReadsRecord}
use Rattle.day_records.proofs.InRanges.{day_range}
use Rattle.day_records.proofs.Turns.{last_some}
use Rattle.day_records.proofs.Takings.{taken_none, taken_more, taken_all, taken_bad}
use Rattle.day_records.proofs.day.read_day.Goals as goal

pub loop-row-init : goal.loop-row-init
loop-row-init c =
    let fr = c.from_reader-rdr.ensures in
    let e = c.flexible.ensures in
    let h = c.has_headers.ensures in
    let start = c.into_iter-row-iterator.ensures.into_iter_gives in
    let rdr = c.into_byte_records-row-items.ensures.rdr in
    let left = c.into_byte_records-row-items.ensures.left in
    rw (start, rdr, c.new-entries.ensures.items) (
      rw (e, h) at fr.trim ∙ c.new.ensures.trim,
      inr (inr (rw (e, h) at fr.has_headers, fr.headers)),
      left,
      rw (e, h) at fr.config ∙ c.new.ensures.config,
      strip_bom c.args.text.now,
      fr.source,
      taken_none c.args.text.now _ fr.state,
    )

pub read_record-requires : goal.read_record-requires
read_record-requires c =
    let inv = c.loop-row.invariant in
    let f = fields_of c.in-Ok.row in
    let s = rw (c.in-Some.is, c.in-Ok.is) at ((c.next.ensures.steps inv.2 inv.0).0 inv.1) in
    let m = rows-more (λ (s : Bor (List ℕ)). Some s.now) c.loop-row.row-iterator.rdr c.next.new.self.rdr f default_config st.StartRecord (strip_bom c.args.text.now) inv.4 inv.6.rows inv.3 inv.5 inv.6.reached s.0 in
    subst (λ r. 0 < length r) (sym c.new-in-loop-row.ensures) (last_some st.StartRecord _ (strip_bom c.args.text.now) m.0 inv.6.rows f m.2)

pub returns-in-Err-clause-says : goal.returns-in-Err-clause-says
returns-in-Err-clause-says c =
    let inv = c.loop-row.invariant in
    let f = fields_of c.in-Ok.row in
    let s = rw (c.in-Some.is, c.in-Ok.is) at ((c.next.ensures.steps inv.2 inv.0).0 inv.1) in
    let m = rows-more (λ (s : Bor (List ℕ)). Some s.now) c.loop-row.row-iterator.rdr c.next.new.self.rdr f default_config st.StartRecord (strip_bom c.args.text.now) inv.4 inv.6.rows inv.3 inv.5 inv.6.reached s.0 in
    let bad = subst (λ r. ReadsRecord r (Err c.in-Err.cause)) c.new-in-loop-row.ensures c.in-Err.ensures in
    taken_bad c.args.text.now _ _ inv.4 m.0 c.loop-row.entries.items c.new-in-Err.result f c.in-Err.cause c.len.result inv.6 m.2 bad c.new-in-Err.ensures (search rules)

pub loop-row-preserved : goal.loop-row-preserved
loop-row-preserved c =
    let inv = c.loop-row.invariant in
    let f = fields_of c.in-Ok.row in
    let s = rw (c.in-Some.is, c.in-Ok.is) at ((c.next.ensures.steps inv.2 inv.0).0 inv.1) in
    let m = rows-more (λ (s : Bor (List ℕ)). Some s.now) c.loop-row.row-iterator.rdr c.next.new.self.rdr f default_config st.StartRecord (strip_bom c.args.text.now) inv.4 inv.6.rows inv.3 inv.5 inv.6.reached s.0 in
    let good : is_ok c.push.result ≡ true = search rules in
    let items = rw good at c.push.ensures.items in
    let said = subst (λ r. ReadsRecord r (Ok c.in-Ok-read_record.entry)) c.new-in-loop-row.ensures c.in-Ok-read_record.ensures in
    (s.0.3 ∙ inv.0, inl s.1, s.2, s.0.2 ∙ inv.3, m.0, m.1, taken_more c.args.text.now _ _ inv.4 m.0 c.loop-row.entries.items _ f c.in-Ok-read_record.entry inv.6 m.2 said items)

pub returns-clause-says : goal.returns-clause-says
returns-clause-says c =
    let inv = c.loop-row.invariant in
    let s = rw c.in-None.is at ((c.next.ensures.steps inv.2 inv.0).0 inv.1) in
    taken_all c.args.text.now _ inv.4 c.loop-row.entries.items c.new-2.result inv.6
    (rows-end (λ (s : Bor (List ℕ)). Some s.now) c.loop-row.row-iterator.rdr c.next.new.self.rdr [] default_config inv.4 inv.3 inv.5 s) c.new-2.ensures

pub returns-in-Err-clause-in_range : goal.returns-in-Err-clause-in_range
returns-in-Err-clause-in_range c = day_range c.args.text.now _ _ (returns-in-Err-clause-says c)

pub returns-clause-in_range : goal.returns-clause-in_range
returns-clause-in_range c = day_range c.args.text.now _ _ (returns-clause-says c)
