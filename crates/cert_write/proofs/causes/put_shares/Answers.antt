use Rattle.std.proofs.Common.{◌≡◌, ℕ, pos, List, map, ◌∙◌}
use Rattle.std.specs.List.{flat_map}
use Rattle.crew_terms.specs.Words.{line_text}
use Rattle.crew_io.specs.Chains.{puts_nothing, puts_same, puts_more, puts_more_front, puts_all}
use Rattle.dossier_terms.specs.Causes.{Part}
use Rattle.dossier_terms.specs.Lines.{share_line}
use Rattle.cert_write.specs.Causes.{part_of}
use Rattle.frac_master.specs.declared.shares.Share.{Share}
use Rattle.dossier_out.specs.Texts.{of_mapped}
use Rattle.cert_write.proofs.causes.put_shares.Goals as goal

-- the line of one share
abbrev one : Share → List ℕ
one s = line_text (share_line (part_of s))

lines_are : (shares : List Share) → flat_map one shares ≡ flat_map line_text (map share_line (map part_of shares))
lines_are shares = of_mapped (λ (p : Part). line_text (share_line p)) part_of shares ∙ of_mapped line_text share_line (map part_of shares)

pub loop-share-init : goal.loop-share-init
loop-share-init g c = puts_nothing g.K.Sink c.args.out.now

pub loop-share-preserved : goal.loop-share-preserved
loop-share-preserved g c =
    puts_more g.K.Sink one c.args.shares.now c.loop-share.share-index (record { column = 0; num = pos 0 }) c.loop-share-test.true _ _ _ _ _
    c.loop-share.invariant c.in_ok-put_share.ensures

pub returns-in_err-put_share : goal.returns-in_err-put_share
returns-in_err-put_share g c =
    puts_same g.K.Sink _ _ _ _ _ (lines_are c.args.shares.now)
    (puts_more_front g.K.Sink one c.args.shares.now c.loop-share.share-index (record { column = 0; num = pos 0 }) c.loop-share-test.true _ _ _ _ _
    c.from_residual.result c.from_residual.ensures.0 c.loop-share.invariant c.in_err-put_share.ensures)

pub returns : goal.returns
returns g c =
    puts_same g.K.Sink _ _ _ _ _ (lines_are c.args.shares.now)
    (puts_all g.K.Sink one c.args.shares.now c.loop-share.share-index _ _ _ _ c.loop-share-test.false c.loop-share.invariant)
