-- the lines of a leaf and of a route, from the numbers that are read
use Rattle.std.proofs.Common.{◌≡◌, ◌<◌, ◌+◌, ◌*◌, ◌^◌, [], ◌∷◌, ℕ, suc, ℤ, pos, negsuc, neg_ℤ, ◌≤ℤ◌, ◌+ℤ◌, List, length, map, take, drop, get_or, ap, sym, refl, ◌∙◌, subst, arith}
use Rattle.std.proofs.lemmas.Int.{ints}
use Rattle.std.proofs.lemmas.List.{length-map}
use Rattle.std.specs.Prelude.{codes, FitsSigned}
use Rattle.std.specs.Int.{w64}
use Rattle.std.specs.List.{AllByRecursion, flat_map}
use Rattle.std.specs.Fmt.{decimal, signed_decimal}
use Rattle.crew_terms.specs.Words.{Words}
use Rattle.crew_terms.specs.Leaf.{IsPrice}
use Rattle.crew_terms.specs.declared.Visit.{Visit}
use Rattle.crew_terms.specs.declared.TheConstants.{MOST_PRICE}
use Rattle.dossier_terms.specs.Dossier.{IsWorthNumber, IsSigned}
use Rattle.dossier_terms.specs.Rules.{IsShape, Begins}
use Rattle.dossier_terms.specs.Ranges.{AreNumbers, IsPairs}
use Rattle.dossier_terms.specs.Lines.{route_line, visit_words}
use Rattle.field_table.specs.Fields.{AreValues}
use Rattle.field_table.specs.declared.fields.Field.{Field}
use Rattle.field_table.specs.declared.fields.Kind.TheVariants.{Number}
use Rattle.cert_format.specs.declared.kinds.LineKind.{LineKind}
use Rattle.cert_format.specs.declared.kinds.LineKind.TheVariants as kinds
use Rattle.line_in.specs.Fields.{IsIn, SpellIn, SpellPrices, SpellVisits, IsRowOf}
use Rattle.dossier_terms.specs.Ranges.{IsRouteLine}
use Rattle.dossier_terms.specs.Counted.{visits_length}
use Rattle.cert_format.specs.Lines.{IsRouteOf, IsPriceLine, IsExtraLine, IsWorthLine, IsPhiLine}
use Rattle.line_in.proofs.Accepted.{cast, number_field, row_of}
use Rattle.line_in.proofs.Fields.{accepted}
use Rattle.line_in.proofs.NoneRead.{NoneRead, none_of}
use Rattle.line_in.proofs.PriceRanges.{potential_field, fits, signed_in, in_signed, each_as}

-- ---- as many numbers as are due

pub worth_fits : (n : ℤ) → IsWorthNumber n → FitsSigned w64 n
worth_fits n is = let low = is.least in let high = is.most in fits n (omega (arith, ints)) (omega (arith, ints))

counted : {In : ℤ → Type 0} (field : Field) → ((n : ℤ) → IsIn field n → In n) → (count : ℕ) (ns : List ℤ) (ws : Words) → SpellIn field ns ws → length ws ≡ count → AreNumbers In count ns
counted field f count ns ws s all = record { count = sym (length-map ns signed_decimal) ∙ ap length (sym s.spelled) ∙ all; each = each_as f ns s.each }

spelled : {In : ℤ → Type 0} (field : Field) → ((n : ℤ) → In n → IsIn field n) → (count : ℕ) (ns : List ℤ) (ws : Words) → AreNumbers In count ns → ws ≡ map signed_decimal ns → SpellIn field ns ws
spelled field f count ns ws are is = record { each = each_as f ns are.each; spelled = is }

priced : (count : ℕ) (ns : List ℤ) (ws : Words) → SpellPrices ns ws → length ws ≡ count → AreNumbers IsPrice count ns
priced count ns ws s all = record { count = sym (length-map ns signed_decimal) ∙ ap length (sym s.spelled) ∙ all; each = s.each }

-- ---- prices, extras and potentials

pub price_line_of : (tasks : ℕ) (ws : Words) (ns : List ℤ) → IsShape (codes "price") tasks ws → SpellPrices ns (drop 1 ws) → IsPriceLine tasks ws (kinds.Price ns)
price_line_of tasks ws ns (rest, is, all) s =
    let here : drop 1 ws ≡ rest = ap (drop 1) is in (
      priced tasks ns (drop 1 ws) s (ap length here ∙ all),
      is ∙ ap (λ xs. codes "price" ∷ xs) (sym here ∙ s.spelled),
    )

pub no_price : (tasks : ℕ) (ws : Words) → ((ns : List ℤ) → SpellPrices ns (drop 1 ws) → ⊥) → (kind : LineKind) → IsPriceLine tasks ws kind → ⊥
no_price tasks ws none (kinds.Price ns) (are, is) = none ns (record { each = are.each; spelled = ap (drop 1) is })
no_price tasks ws none _ h = absurd h

pub extra_line_of : (task count : ℕ) (ws : Words) (ns : List ℤ) → IsRowOf (codes "extra") task count ws → SpellPrices ns (drop 2 ws) → IsExtraLine task count ws (kinds.Extra task ns)
extra_line_of task count ws ns (rest, is, all) s =
    let here : drop 2 ws ≡ rest = ap (drop 2) is in (
      refl,
      priced count ns (drop 2 ws) s (ap length here ∙ all),
      is ∙ ap (λ xs. codes "extra" ∷ decimal task ∷ xs) (sym here ∙ s.spelled),
    )

pub no_extra : (task count : ℕ) (ws : Words) → ((ns : List ℤ) → SpellPrices ns (drop 2 ws) → ⊥) → (kind : LineKind) → IsExtraLine task count ws kind → ⊥
no_extra task count ws none (kinds.Extra j ns) (same, are, is) = none ns (record { each = are.each; spelled = ap (drop 2) is })
no_extra task count ws none _ h = absurd h

pub phi_line_of : (task count : ℕ) (ws : Words) (ns : List ℤ) → IsRowOf (codes "phi") task count ws → SpellIn potential_field ns (drop 2 ws) → IsPhiLine task count ws (kinds.Phi task ns)
phi_line_of task count ws ns (rest, is, all) s =
    let here : drop 2 ws ≡ rest = ap (drop 2) is in (
      refl,
      counted potential_field in_signed count ns (drop 2 ws) s (ap length here ∙ all),
      is ∙ ap (λ xs. codes "phi" ∷ decimal task ∷ xs) (sym here ∙ s.spelled),
    )

pub no_phi : (task count : ℕ) (ws : Words) → ((ns : List ℤ) → SpellIn potential_field ns (drop 2 ws) → ⊥) → (kind : LineKind) → IsPhiLine task count ws kind → ⊥
no_phi task count ws none (kinds.Phi j ns) (same, are, is) = none ns (spelled potential_field signed_in count ns (drop 2 ws) are (ap (drop 2) is))
no_phi task count ws none _ h = absurd h

-- ---- worths

abbrev pub worth_fields : List Field
worth_fields = number_field 0 (pos 9223372036854775807) ∷ []

pub worth_wrong : (ws : Words) → NoneRead worth_fields ws → (kind : LineKind) → IsWorthLine ws kind → ⊥
worth_wrong ws none (kinds.Worth v) (is, e) =
    none (v ∷ []) (subst (λ (xs : Words). AreValues worth_fields xs (v ∷ [])) (sym e)
    (record { enough = omega arith; accepted = (accepted (number_field 0 (pos 9223372036854775807)) (signed_decimal v) v refl (record { fits = worth_fits v is; low = is.least; high = is.most }) refl, tt) }))
worth_wrong ws none _ h = absurd h

-- ---- routes

pub pairs_after_team : (ws : Words) → IsPairs ws → (k : ℕ) × (length ws ≡ 2 + 2 * k)
pairs_after_team ws (k, all) = (suc k, omega arith)

first_word : (ws : Words) (w : List ℕ) → IsPairs ws → take 1 (drop 1 ws) ≡ w ∷ [] → get_or ws 1 [] ≡ w
first_word [] w pairs e = absurd (let all = pairs.1 in omega arith)
first_word (x ∷ []) w pairs e = absurd (let all = pairs.1 in omega arith)
first_word (x ∷ y ∷ ws) w pairs e = ap (λ vs. get_or vs 0 []) e

-- the team of a route, by the row that reads it
pub route_team : (ws : Words) (zs : List ℤ) (last : ℤ) → IsPairs ws → AreValues (number_field 0 last ∷ []) ws zs
    → (pos 0 ≤ℤ pos (cast (get_or zs 0 (pos 0)))) × (pos (cast (get_or zs 0 (pos 0))) ≤ℤ last) × (get_or ws 1 [] ≡ decimal (cast (get_or zs 0 (pos 0))))
route_team ws zs last pairs a =
    let row = row_of (number_field 0 last ∷ []) ws zs (refl, omega (arith, ints), tt) a in
    (row.0.1, row.0.2, first_word ws (decimal (cast (get_or zs 0 (pos 0)))) pairs row.1)

pub route_line_of : (teams tasks team : ℕ) (ws : Words) (vs : List Visit) → Begins (codes "route") ws → IsPairs ws → team < teams → get_or ws 1 [] ≡ decimal team
    → SpellVisits tasks vs (drop 2 ws) → IsRouteLine teams tasks (record { team = team; visits = vs }) × (ws ≡ route_line (record { team = team; visits = vs }))
route_line_of teams tasks team ws vs ([], is) pairs known first s = absurd (let all = pairs.1 in let l = ap length is in omega arith)
route_line_of teams tasks team ws vs (x ∷ rest, is) pairs known first s =
    let here : drop 2 ws ≡ rest = ap (drop 2) is in
    let word : x ≡ decimal team = ap (λ xs. get_or xs 1 []) (sym is) ∙ first in
    let visits : rest ≡ flat_map visit_words vs = sym here ∙ s.spelled in
    let all = pairs.1 in
    let whole = ap length is in
    let size = ap length visits ∙ visits_length vs in (
      record { team = known; some = omega arith; tasks = s.known; starts = s.starts },
      is ∙ ap (λ w. codes "route" ∷ w ∷ rest) word ∙ ap (λ xs. codes "route" ∷ decimal team ∷ xs) visits,
    )

pub team_wrong : (teams tasks : ℕ) (ws : Words) (last : ℤ) → last +ℤ pos 1 ≡ pos teams → teams < 2 ^ 32 → NoneRead (number_field 0 last ∷ []) ws
    → (kind : LineKind) → IsRouteOf teams tasks ws kind → ⊥
team_wrong teams tasks ws last e few none (kinds.Route team visits) (vs, f, route, is) =
    let known = route.team in
    none_of (number_field 0 last ∷ []) ws (codes "route") (team ∷ []) (flat_map visit_words vs) none (refl, omega (arith, ints), omega (arith, ints), omega arith, tt) is
team_wrong teams tasks ws last e few none _ h = absurd h
