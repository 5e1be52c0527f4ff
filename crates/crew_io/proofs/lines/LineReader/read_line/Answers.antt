use Rattle.std.proofs.Common.{◌≡◌, ◌≤◌, ◌<◌, ◌∙◌, Ok, ap, sym, subst, arith, length}
use Rattle.std.proofs.lemmas.Bool.{false≢true}
use Rattle.crew_terms.specs.declared.TheConstants.{LONGEST_LINE}
use Rattle.crew_io.specs.Lines.{Reader, rest_of, allowance, took_line, Advances}
use Rattle.crew_io.specs.declared.lines.Progress.{Progress}
use Rattle.crew_io.specs.declared.lines.Progress.TheVariants.{TooLong, TooMuch, End, ReadFault}
use Rattle.crew_io.proofs.Stream.{line_fits, end_fits, line_advances, long_advances, much_advances, end_advances, fault_advances, stopped_after}
use Rattle.crew_io.proofs.lines.LineReader.read_line.Goals as goal

pub returns-then-is_too_long-clause-advances : goal.returns-then-is_too_long-clause-advances
returns-then-is_too_long-clause-advances g c =
    let left = g.S.Source.left c.args.src.now in
    let later = g.S.Source.left c.loop-self.src in
    let mid = c.loop-self.self in
    let s = c.loop-self.invariant.same in
    let same = c.search-front.ensures.same in
    let p = s.handed in
    let q = s.limit in
    let long = c.is_too_long.ensures.0 c.if-is_too_long.true in
    subst (λ (a : Progress). Advances c.args.self.now left a c.stop.new.self later) (sym c.stop.ensures.value)
    (long_advances c.args.self.now mid c.stop.new.self left later c.search-front.result s (omega arith) (omega arith) c.search-front.ensures.front (omega arith) long.1
    (stopped_after mid c.search-front.new.self c.stop.new.self later later TooLong (ap (λ (r : Reader). r.limit) same) (ap (λ (r : Reader). r.handed) same) (ap (λ (r : Reader). rest_of r later) same) c.stop.ensures.stopped))

pub returns-then-is_too_much-clause-advances : goal.returns-then-is_too_much-clause-advances
returns-then-is_too_much-clause-advances g c =
    let left = g.S.Source.left c.args.src.now in
    let later = g.S.Source.left c.loop-self.src in
    let mid = c.loop-self.self in
    let s = c.loop-self.invariant.same in
    let same = c.search-front.ensures.same in
    let p = s.handed in
    let q = s.limit in
    let much = c.is_too_much.ensures.0 c.if-is_too_much.true in
    let held : length c.search-front.new.self.held ≡ length mid.held = ap (λ (r : Reader). length r.held) same in
    let new = c.stop-then-is_too_much.new.self in
    subst (λ (a : Progress). Advances c.args.self.now left a new later) (sym c.stop-then-is_too_much.ensures.value)
    (much_advances c.args.self.now mid new left later c.search-front.result s (omega arith) (omega arith) c.search-front.ensures.front (omega arith) (omega arith) (omega arith)
    (stopped_after mid c.search-front.new.self new later later TooMuch (ap (λ (r : Reader). r.limit) same) (ap (λ (r : Reader). r.handed) same) (ap (λ (r : Reader). rest_of r later) same) c.stop-then-is_too_much.ensures.stopped))

pub returns-then-front-held-clause-advances : goal.returns-then-front-held-clause-advances
returns-then-front-held-clause-advances g c =
    let left = g.S.Source.left c.args.src.now in
    let later = g.S.Source.left c.loop-self.src in
    let mid = c.loop-self.self in
    let s = c.loop-self.invariant.same in
    let same = c.search-front.ensures.same in
    let p = s.handed in
    let q = s.limit in
    let held : length c.search-front.new.self.held ≡ length mid.held = ap (λ (r : Reader). length r.held) same in
    let n = c.search-front.result in
    let allowed : c.allowance-allowed.result ≡ allowance mid = omega arith in
    let fits = line_fits n c.held-held.result c.allowance-allowed.result (λ x. false≢true (sym c.if-is_too_long.false ∙ c.is_too_long.ensures.1 x)) (λ x. false≢true (sym c.if-is_too_much.false ∙ c.is_too_much.ensures.1 x)) c.if-front-held.true in
    line_advances c.args.self.now mid c.take_line.new.self left later n s (omega arith) (omega arith) c.search-front.ensures.front (omega arith) fits.0 (omega arith) (c.take_line.ensures ∙ ap (λ (r : Reader). took_line r n) same)

pub returns-in-Ok-eq0-clause-advances : goal.returns-in-Ok-eq0-clause-advances
returns-in-Ok-eq0-clause-advances g c =
    let left = g.S.Source.left c.args.src.now in
    let later = g.S.Source.left c.loop-self.src in
    let mid = c.loop-self.self in
    let s = c.loop-self.invariant.same in
    let same = c.search-front.ensures.same in
    let p = s.handed in
    let q = s.limit in
    let held : length c.search-front.new.self.held ≡ length mid.held = ap (λ (r : Reader). length r.held) same in
    let new = c.stop-in-Ok-eq0.new.self in
    let filled = c.fill.new.self in
    let end = c.fill.ensures.end (c.in-Ok-eq0.is ∙ ap Ok c.in-Ok-eq0.field-0-test) in
    let kept = c.fill.ensures.same in
    let allowed : c.allowance-allowed.result ≡ allowance mid = omega arith in
    let w = c.search-front.ensures.front.within in
    let n : c.search-front.result ≡ c.held-held.result = omega arith in
    let all : c.held-held.result ≡ length mid.held = omega arith in
    let fits = end_fits c.held-held.result c.allowance-allowed.result (λ x. false≢true (sym c.if-is_too_long.false ∙ c.is_too_long.ensures.1 (x.0, subst (λ k. LONGEST_LINE < k) (sym n) x.1))) (λ x. false≢true (sym c.if-is_too_much.false ∙ c.is_too_much.ensures.1 (x.0, subst (λ k. c.allowance-allowed.result ≤ k) (sym n) x.1, x.2))) in
    subst (λ (a : Progress). Advances c.args.self.now left a new (g.S.Source.left c.fill.new.src)) (sym c.stop-in-Ok-eq0.ensures.value)
    (end_advances c.args.self.now mid new left later (g.S.Source.left c.fill.new.src) c.search-front.result c.held-held.result s (omega arith) (omega arith) c.search-front.ensures.front (n ∙ all) all (omega arith) (omega arith) end.0
    (stopped_after mid filled new later (g.S.Source.left c.fill.new.src) (End c.held-held.result) (ap (λ (r : Reader). r.limit) kept ∙ ap (λ (r : Reader). r.limit) same) (ap (λ (r : Reader). r.handed) kept ∙ ap (λ (r : Reader). r.handed) same) (c.fill.ensures.rest ∙ ap (λ (r : Reader). rest_of r later) same) c.stop-in-Ok-eq0.ensures.stopped))

pub returns-in-Err-clause-advances : goal.returns-in-Err-clause-advances
returns-in-Err-clause-advances g c =
    let left = g.S.Source.left c.args.src.now in
    let later = g.S.Source.left c.loop-self.src in
    let mid = c.loop-self.self in
    let s = c.loop-self.invariant.same in
    let same = c.search-front.ensures.same in
    let p = s.handed in
    let q = s.limit in
    let held : length c.search-front.new.self.held ≡ length mid.held = ap (λ (r : Reader). length r.held) same in
    let new = c.stop-in-Err.new.self in
    let filled = c.fill.new.self in
    let kept = c.fill.ensures.same in
    let allowed : c.allowance-allowed.result ≡ allowance mid = omega arith in
    let w = c.search-front.ensures.front.within in
    let n : c.search-front.result ≡ c.held-held.result = omega arith in
    let all : c.held-held.result ≡ length mid.held = omega arith in
    let fits = end_fits c.held-held.result c.allowance-allowed.result (λ x. false≢true (sym c.if-is_too_long.false ∙ c.is_too_long.ensures.1 (x.0, subst (λ k. LONGEST_LINE < k) (sym n) x.1))) (λ x. false≢true (sym c.if-is_too_much.false ∙ c.is_too_much.ensures.1 (x.0, subst (λ k. c.allowance-allowed.result ≤ k) (sym n) x.1, x.2))) in
    subst (λ (a : Progress). Advances c.args.self.now left a new (g.S.Source.left c.fill.new.src)) (sym c.stop-in-Err.ensures.value)
    (fault_advances c.args.self.now mid new left later (g.S.Source.left c.fill.new.src) c.search-front.result s (omega arith) (omega arith) c.search-front.ensures.front (n ∙ all) (omega arith) (omega arith)
    (ap (λ (r : Reader). r.held) c.stop-in-Err.ensures.stopped ∙ c.in-Err.ensures.nothing ∙ ap (λ (r : Reader). r.held) same)
    (stopped_after mid filled new later (g.S.Source.left c.fill.new.src) ReadFault (ap (λ (r : Reader). r.limit) kept ∙ ap (λ (r : Reader). r.limit) same) (ap (λ (r : Reader). r.handed) kept ∙ ap (λ (r : Reader). r.handed) same) (c.fill.ensures.rest ∙ ap (λ (r : Reader). rest_of r later) same) c.stop-in-Err.ensures.stopped))
