use Rattle.std.proofs.Common.{◌≡◌, ℕ, Vec, Global, length, true, ap, subst, refl, arith}
use Rattle.std.proofs.lemmas.List.{length-map}
use Rattle.crew_instance.specs.Draft.{rows_of}
use Rattle.crew_terms.specs.Words.{line_text}
use Rattle.part_texts.specs.Lines.{count_words}
use Rattle.bundle_write.specs.Bundles.{AreApart}
use Rattle.bundle_write.proofs.piece.put_count.Goals as goal

pub returns-in-Err-clause-put : goal.returns-in-Err-clause-put
returns-in-Err-clause-put g c = λ d day.
    let lists = rows_of c.in_ok-parts_of.field-0.items in
    let n : c.len-count.result ≡ length lists = (let e = c.len-count.ensures in let f = length-map c.in_ok-parts_of.field-0.items (λ (r : Vec ℕ Global). r.items) in omega (arith, e, f)) in (
      record { proved = true; text = line_text (count_words c.len-count.result) },
      record { lists = lists; apart = subst (λ i. AreApart i lists) day.instance c.in_ok-parts_of.ensures; is = ap (λ k. line_text (count_words k)) n; proves = refl },
      c.in-Err.ensures.part,
    )
