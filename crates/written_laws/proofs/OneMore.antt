-- causes that are told one after the other
use Rattle.std.proofs.Common.{◌≡◌, ◌<◌, ◌+◌, ◌++◌, ◌∙◌, ◌∷◌, [], ℕ, List, All, get_or, length, map, take, ap, sym, subst}
use Rattle.std.proofs.lemmas.List.{map-append, take_more}
use Rattle.std.proofs.lemmas.List.Elements.{All-push}
use Rattle.cert_write.specs.Causes.{cause_of}
use Rattle.cert_write.specs.declared.causes.Cause.{Cause as GivenCause}
use Rattle.dossier_terms.specs.Causes.{Cause as Told}
use Rattle.search_core.specs.declared.causes.Cause.{Cause}
use Rattle.written_laws.specs.Told.{AreTold, IsInRange, told_of}

-- one cause more
pub told_more : (causes : List Cause) (i : ℕ) (d cause : Cause) (items after : List GivenCause) (x : GivenCause) → i < length causes
    → AreTold (take i causes) (map cause_of items) → cause ≡ get_or causes i d → cause_of x ≡ told_of cause → IsInRange cause.why → after ≡ items ++ x ∷ []
    → AreTold (take (i + 1) causes) (map cause_of after)
told_more causes i d cause items after x below told is here range put =
    let more : take (i + 1) causes ≡ take i causes ++ cause ∷ [] =
    take_more causes i d below ∙ ap (λ (c : Cause). take i causes ++ c ∷ []) (sym is) in
    record {
      each = ap (map cause_of) put ∙ map-append cause_of items (x ∷ []) ∙ ap (λ (ts : List Told). ts ++ cause_of x ∷ []) told.each
          ∙ ap (λ (t : Told). map told_of (take i causes) ++ t ∷ []) here ∙ sym (map-append told_of (take i causes) (cause ∷ []))
          ∙ ap (map told_of) (sym more);
      range = subst (All (λ (c : Cause). IsInRange c.why)) (sym more) (All-push (λ (c : Cause). IsInRange c.why) (take i causes) cause told.range range);
    }
