-- the ranges of prices and potentials
use Rattle.std.proofs.Common.{◌≡◌, [], ◌∷◌, ℤ, pos, negsuc, neg_ℤ, ◌≤ℤ◌, List, map, drop, refl, arith}
use Rattle.std.proofs.lemmas.Int.{ints}
use Rattle.std.specs.Prelude.{FitsSigned}
use Rattle.std.specs.Int.{w64}
use Rattle.std.specs.List.{AllByRecursion}
use Rattle.crew_terms.specs.Leaf.{IsPrice}
use Rattle.crew_terms.specs.Words.{Words}
use Rattle.crew_terms.specs.declared.TheConstants.{MOST_PRICE}
use Rattle.dossier_terms.specs.Dossier.{IsSigned}
use Rattle.field_table.specs.declared.fields.Field.{Field}
use Rattle.field_table.specs.declared.fields.Kind.TheVariants.{Number}
use Rattle.line_in.specs.Fields.{IsIn, SpellIn, SpellPrices}

abbrev pub price_field : Field
price_field = record { low = neg_ℤ (pos MOST_PRICE); high = pos MOST_PRICE; kind = Number }

abbrev pub potential_field : Field
potential_field = record { low = negsuc 9223372036854775807; high = pos 9223372036854775807; kind = Number }

pub fits : (n : ℤ) → negsuc 9223372036854775807 ≤ℤ n → n ≤ℤ pos 9223372036854775807 → FitsSigned w64 n
fits (pos n) low high = record { sfits = omega (arith, ints) }
fits (negsuc n) low high = record { sfits = omega (arith, ints) }

pub price_fits : (n : ℤ) → IsPrice n → FitsSigned w64 n
price_fits n is = let low = is.least in let high = is.most in fits n (omega (arith, ints)) (omega (arith, ints))

pub price_in : (n : ℤ) → IsPrice n → IsIn price_field n
price_in n is = record { fits = price_fits n is; low = is.least; high = is.most }

pub in_price : (n : ℤ) → IsIn price_field n → IsPrice n
in_price n is = record { least = is.low; most = is.high }

pub signed_in : (n : ℤ) → IsSigned n → IsIn potential_field n
signed_in n is = record { fits = is; low = grind (arith, ints, is); high = grind (arith, ints, is) }

pub in_signed : (n : ℤ) → IsIn potential_field n → IsSigned n
in_signed n is = is.fits

-- ---- lists of numbers

pub each_as : {P Q : ℤ → Type 0} → ((n : ℤ) → P n → Q n) → (ns : List ℤ) → AllByRecursion P ns → AllByRecursion Q ns
each_as f [] h = tt
each_as f (n ∷ ns) h = (f n h.0, each_as f ns h.1)

pub prices_of : (ns : List ℤ) (ws : Words) → SpellIn price_field ns ws → SpellPrices ns ws
prices_of ns ws s = record { each = each_as in_price ns s.each; spelled = s.spelled }

pub of_prices : (ns : List ℤ) (ws : Words) → SpellPrices ns ws → SpellIn price_field ns ws
of_prices ns ws s = record { each = each_as price_in ns s.each; spelled = s.spelled }
