-- a word is refused for one cause
use Rattle.std.proofs.Common.{◌≡◌, ℕ, List, ap, refl, ◌∙◌}
use Rattle.field_table.specs.Fields.{Refuses}
use Rattle.field_table.specs.declared.fields.Cause.{Cause}
use Rattle.field_table.specs.declared.fields.Cause.TheVariants.{Count, Spelling, Range}
use Rattle.field_table.specs.declared.fields.Field.{Field}
use Rattle.field_table.specs.declared.fields.FieldFault.{FieldFault}

-- two causes for which it is refused are one
pub one_cause : (field : Field) (word : List ℕ) (a b : Cause) → Refuses field word a → Refuses field word b → a ≡ b
one_cause field word Count b r s = absurd r
one_cause field word a Count r s = absurd s
one_cause field word Spelling Spelling r s = refl
one_cause field word Range Range r s = refl
one_cause field word Spelling Range r (z, s, out) = absurd (r z s)
one_cause field word Range Spelling (z, s, out) r = absurd (r z s)

-- a fault is its place and its cause
pub one_fault : (f g : FieldFault) → f.place ≡ g.place → f.cause ≡ g.cause → f ≡ g
one_fault f g p c = ap (λ n. record f { place = n }) p ∙ ap (λ (x : Cause). record g { cause = x }) c
