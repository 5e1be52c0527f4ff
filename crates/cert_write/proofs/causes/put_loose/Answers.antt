use Rattle.std.proofs.Common.{◌≡◌, ◌++◌, ◌∷◌, [], ◌∙◌, ℕ, ℤ, List, length, map, ap, sym, append_assoc, append-nil, unsigned_abs, to_z, of_z}
use Rattle.std.specs.Int.{w128}
use Rattle.std.specs.Prelude.{FitsSigned}
use Rattle.std.proofs.lemmas.Int.{to_z-of_z}
use Rattle.std.proofs.lemmas.List.{length-map}
use Rattle.std.proofs.lemmas.List.Concat.{flat_map-append}
use Rattle.crew_terms.specs.Words.{Words, line_text}
use Rattle.crew_io.specs.Chains.{puts_then, puts_same, puts_front}
use Rattle.dossier_terms.specs.Lines.{loose_line, share_line, spare_line}
use Rattle.cert_write.specs.Causes.{part_of}
use Rattle.frac_master.specs.declared.shares.Share.{Share}
use Rattle.dossier_out.specs.Texts.{front_of, front_1, text}
use Rattle.cert_write.proofs.causes.put_loose.Goals as goal

-- the text of a first line, of others and of a last one
between : (first : Words) (lines : List Words) (last : Words) → text (first ∷ (lines ++ last ∷ [])) ≡ (line_text first ++ text lines) ++ line_text last
between first lines last =
    ap (λ t. line_text first ++ t) (flat_map-append line_text lines (last ∷ []) ∙ ap (λ t. text lines ++ t) (append-nil (line_text last)))
    ∙ sym (append_assoc (line_text first) (text lines) (line_text last))

first_is : (now : ℕ) (den : ℤ) (shares : List Share) → FitsSigned w128 den
    → line_text (loose_line now (unsigned_abs (to_z w128 (of_z w128 den))) (length shares)) ≡ line_text (loose_line now (unsigned_abs den) (length (map part_of shares)))
first_is now den shares fits =
    ap (λ z. line_text (loose_line now (unsigned_abs z) (length shares))) (to_z-of_z w128 den fits)
    ∙ ap (λ k. line_text (loose_line now (unsigned_abs den) k)) (sym (length-map shares part_of))

module _ (now : ℕ) (den : ℤ) (shares : List Share) (left_open : List ℤ) where
  abbrev pub first : Words
  first = loose_line now (unsigned_abs den) (length (map part_of shares))

  abbrev pub parts : List Words
  parts = map share_line (map part_of shares)

  abbrev pub last : Words
  last = spare_line (map unsigned_abs left_open)

pub returns-in_err-put_first : goal.returns-in_err-put_first
returns-in_err-put_first g c =
    let now = c.args.now in
    let den = c.args.den in
    let shares = c.args.shares.now in
    let opens = c.args.left_open.now in
    puts_front g.K.Sink _ _ _ _ _ c.from_residual.result c.from_residual.ensures.0
    (puts_same g.K.Sink _ _ _ _ _ (first_is now den shares c.ranges.den) c.in_err-put_first.ensures)
    (front_1 (line_text (first now den shares opens)) (text (parts now den shares opens)) (line_text (last now den shares opens)) _
    (between (first now den shares opens) (parts now den shares opens) (last now den shares opens)))

pub returns-in_err-put_shares : goal.returns-in_err-put_shares
returns-in_err-put_shares g c =
    let now = c.args.now in
    let den = c.args.den in
    let shares = c.args.shares.now in
    let opens = c.args.left_open.now in
    puts_front g.K.Sink _ _ _ _ _ c.from_residual-in_err-put_shares.result c.from_residual-in_err-put_shares.ensures.0
    (puts_then g.K.Sink _ _ _ _ _ _ _
    (puts_same g.K.Sink _ _ _ _ _ (first_is now den shares c.ranges.den) c.in_ok-put_first.ensures) c.in_err-put_shares.ensures)
    (front_of (line_text (first now den shares opens) ++ text (parts now den shares opens)) (line_text (last now den shares opens)) _
    (between (first now den shares opens) (parts now den shares opens) (last now den shares opens)))

pub returns : goal.returns
returns g c =
    let now = c.args.now in
    let den = c.args.den in
    let shares = c.args.shares.now in
    let opens = c.args.left_open.now in
    puts_same g.K.Sink _ _ _ _ _ (sym (between (first now den shares opens) (parts now den shares opens) (last now den shares opens)))
    (puts_then g.K.Sink _ _ _ _ _ _ _
    (puts_then g.K.Sink _ _ _ _ _ _ _
    (puts_same g.K.Sink _ _ _ _ _ (first_is now den shares c.ranges.den) c.in_ok-put_first.ensures) c.in_ok-put_shares.ensures)
    c.put_spare.ensures)
