-- the lines behind the instance: the limits of the root, and what is kept behind a line
use Rattle.std.proofs.Common.{◌≡◌, ℕ, ap, subst, sym, ◌∙◌}
use Rattle.std.specs.Prelude.{Ok, Err}
use Rattle.crew_terms.specs.Instance.{Instance}
use Rattle.crew_terms.specs.Limits.{Limits, root_limits}
use Rattle.line_in.specs.declared.refusals.Refusal.{Refusal}
use Rattle.line_in.specs.declared.refusals.Refusal.TheVariants.{No, OutOfMemory}
use Rattle.node_limits.specs.Rest.{Rest, IsRestOver, limits_over, trail_over}
use Rattle.node_limits.specs.Trail.{Trail}
use Rattle.sheet_terms.specs.Reading.{SheetReading, SheetAnswer, More as Goes}
use Rattle.sheet_reader.specs.Reader.{SheetTells, StandsFor}
use Rattle.sheet_reader.specs.declared.reader.SheetReader.{SheetReader}
use Rattle.sheet_reader.specs.declared.reader.SheetStep.TheVariants as steps
use Rattle.sheet_checker.specs.Due.{AreRoot, IsInBody, Tells}
use Rattle.sheet_checker.specs.declared.due.SheetDraft.{SheetDraft}

-- limits of the root that are put to rest
pub rests : (i : Instance) (t : Trail) (rest : Rest) → t.limits ≡ root_limits i → trail_over t.limits.instance rest ≡ t → IsRestOver t.limits.instance rest → AreRoot i rest
rests i t rest e same over =
    let of : t.limits.instance ≡ i = ap (λ (n : Limits). n.instance) e in record {
      over = subst (λ x. IsRestOver x rest) of over;
      root = ap (λ x. limits_over x rest.present) (sym of) ∙ ap (λ (x : Trail). x.limits) same ∙ e;
    }

-- those that woke
pub wakes : (i : Instance) (rest : Rest) (t : Trail) → AreRoot i rest → t ≡ trail_over i rest → t.limits ≡ root_limits i
wakes i rest t root woke = ap (λ (x : Trail). x.limits) woke ∙ root.root

-- ---- behind a line

module _ (held : SheetDraft) (t : Trail) (root : AreRoot held.base.instance held.root) (woke : t ≡ trail_over held.base.instance held.root) where
  pub woke_at : t.limits ≡ root_limits held.base.instance
  woke_at = wakes held.base.instance held.root t root woke

  pub woke_over : t.limits.instance ≡ held.base.instance
  woke_over = ap (λ (n : Limits). n.instance) woke_at

  -- they are the limits of the root of their instance
  pub woke_root : t.limits ≡ root_limits t.limits.instance
  woke_root = woke_at ∙ ap root_limits (sym woke_over)

  pub more_told : (Rules : SheetAnswer → Type 0) (new : SheetReader) (rest : Rest) → trail_over t.limits.instance rest ≡ t → IsRestOver t.limits.instance rest
      → SheetTells t.limits.instance held.base.nodes Rules (Ok steps.More) new → (next : SheetReading) × Rules (Goes next) × IsInBody (record held { root = rest; reader = new }) next
  more_told Rules new rest same over h = (
    h.0,
    h.1,
    record { root = rests held.base.instance t rest woke_at same over; stands = subst (λ j. StandsFor j held.base.nodes new h.0) woke_over h.2 },
  )

pub refused_told : (i : Instance) (budget : ℕ) (Rules : SheetAnswer → Type 0) (refusal : Refusal) (new : SheetReader) → SheetTells i budget Rules (Err refusal) new → Tells Rules (Err refusal)
refused_told i budget Rules (No reason) new h = h
refused_told i budget Rules OutOfMemory new h = tt

-- what is held is what is kept
pub body_in : (draft held : SheetDraft) (reading : SheetReading) → held ≡ draft → IsInBody draft reading → IsInBody held reading
body_in draft held reading is body = subst (λ (d : SheetDraft). IsInBody d reading) (sym is) body
