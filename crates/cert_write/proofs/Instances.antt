-- the parts of lines, and of an instance
use Rattle.std.proofs.Common.{◌≡◌, ◌≢◌, ◌<◌, ◌+◌, ◌++◌, ◌∷◌, [], ℕ, Bool, true, false, List, length, take, map, cond, ap, sym, ◌∙◌, refl, arith, append_assoc, append-nil}
use Rattle.std.specs.Prelude.{◌==◌, codes, slice_index_or}
use Rattle.std.specs.List.{filter, flat_map, range_with_len}
use Rattle.std.specs.Fmt.{decimal}
use Rattle.std.specs.Int.{bit_at}
use Rattle.std.proofs.lemmas.Bool.{eqb-true}
use Rattle.std.proofs.lemmas.List.{take_more, map-append}
use Rattle.std.proofs.lemmas.List.Elements.{filter-append, All-get_or}
use Rattle.std.proofs.lemmas.List.Concat.{flat_map-append}
use Rattle.crew_io.specs.Chains.{first_front}
use Rattle.crew_terms.specs.Words.{Words, line_text}
use Rattle.crew_terms.specs.Instance.{Instance, minutes_between}
use Rattle.crew_terms.specs.Rules.{IsInstance}
use Rattle.crew_terms.specs.Listed.{range_more}
use Rattle.dossier_terms.specs.Lines.{instance_text, size_of, size_line, place_line, travel_line, team_line, task_line}
use Rattle.line_out.specs.Parts.{part_word}
use Rattle.line_out.specs.declared.Part.{Part}
use Rattle.line_out.specs.declared.Part.TheVariants.{Number}
use Rattle.crew_io.specs.Fronts.{IsFront, front_within}

-- ---- skills of a set, one after another

-- the numbers below n of skills of the set
abbrev pub skills_below : ℕ → ℕ → List ℕ
skills_below mask n = filter (λ s. bit_at mask s == 1) (range_with_len 0 n)

pub skill_more : (mask n : ℕ) → bit_at mask n ≡ 1 → skills_below mask (n + 1) ≡ skills_below mask n ++ n ∷ []
skill_more mask n h =
    ap (filter (λ s. bit_at mask s == 1)) (range_more n) ∙ filter-append (λ s. bit_at mask s == 1) (range_with_len 0 n) (n ∷ [])
    ∙ ap (λ b. skills_below mask n ++ b) (ap (λ m. cond (m == 1) (n ∷ []) []) h)

pub skill_not : (mask n : ℕ) → bit_at mask n ≢ 1 → skills_below mask (n + 1) ≡ skills_below mask n
skill_not mask n h =
    ap (filter (λ s. bit_at mask s == 1)) (range_more n) ∙ filter-append (λ s. bit_at mask s == 1) (range_with_len 0 n) (n ∷ [])
    ∙ ap (λ b. skills_below mask n ++ b) (none (bit_at mask n == 1) refl) ∙ append-nil (skills_below mask n)
  where
    none : (b : Bool) → (bit_at mask n == 1) ≡ b → cond b (n ∷ []) [] ≡ []
    none true e = absurd (h (eqb-true (bit_at mask n) 1 e))
    none false e = refl

-- one skill more was added to a line
pub skill_pushed : (mask n : ℕ) (old new : List Part) (part : Part) (before : Words) → part ≡ Number n → new ≡ old ++ part ∷ [] → bit_at mask n ≡ 1
    → map part_word old ≡ before ++ map decimal (skills_below mask n) → map part_word new ≡ before ++ map decimal (skills_below mask (n + 1))
skill_pushed mask n old new part before is pushed has so =
    ap (map part_word) pushed ∙ map-append part_word old (part ∷ []) ∙ ap (λ x. map part_word old ++ part_word x ∷ []) is ∙ ap (λ ws. ws ++ decimal n ∷ []) so
    ∙ append_assoc before (map decimal (skills_below mask n)) (decimal n ∷ [])
    ∙ ap (λ ws. before ++ ws) (sym (map-append decimal (skills_below mask n) (n ∷ [])) ∙ ap (map decimal) (sym (skill_more mask n has)))

-- one travel time more was added to a line
pub time_pushed : (i : Instance) (a b minutes : ℕ) (old new : List Part) (part : Part) → IsInstance i → a < length i.places → b < length i.places
    → minutes ≡ minutes_between i a b → part ≡ Number minutes → new ≡ old ++ part ∷ [] → map part_word old ≡ codes "travel" ∷ map decimal (take b (slice_index_or i.travel a []))
    → map part_word new ≡ codes "travel" ∷ map decimal (take (b + 1) (slice_index_or i.travel a []))
time_pushed i a b minutes old new part is from to time part_is pushed so =
    let row = slice_index_or i.travel a [] in
    let n : length row ≡ length i.places = All-get_or (λ r. length r ≡ length i.places) i.travel a [] (let r = is.times.rows in omega (arith, from, r)) is.times.columns in
    ap (map part_word) pushed ∙ map-append part_word old (part ∷ []) ∙ ap (λ x. map part_word old ++ part_word x ∷ []) (part_is ∙ ap Number time) ∙ ap (λ ws. ws ++ decimal (minutes_between i a b) ∷ []) so
    ∙ ap (λ ws. codes "travel" ∷ ws) (sym (map-append decimal (take b row) (minutes_between i a b ∷ [])) ∙ ap (map decimal) (sym (take_more row b 0 (omega (arith, n, to)))))

-- ---- the parts of an instance, one after another

module _ (i : Instance) (nodes : ℕ) where
  abbrev size : List ℕ
  size = line_text (size_line (size_of i nodes))

  abbrev places : List ℕ
  places = flat_map line_text (map place_line i.places)

  abbrev travels : List ℕ
  travels = flat_map line_text (map travel_line i.travel)

  abbrev teams : List ℕ
  teams = flat_map line_text (map team_line i.teams)

  abbrev tasks : List ℕ
  tasks = flat_map line_text (map task_line i.tasks)

  -- the whole text, part by part
  pub all_parts : instance_text i nodes ≡ (((size ++ places) ++ travels) ++ teams) ++ tasks
  all_parts =
      let p = map place_line i.places in
      let r = map travel_line i.travel in
      let m = map team_line i.teams in
      let n = map task_line i.tasks in
      ap (λ x. size ++ x) (flat_map-append line_text ((p ++ r) ++ m) n
      ∙ ap (λ x. x ++ tasks) (flat_map-append line_text (p ++ r) m ∙ ap (λ x. x ++ teams) (flat_map-append line_text p r)))
      ∙ sym (append_assoc size ((places ++ travels) ++ teams) tasks)
      ∙ ap (λ x. x ++ tasks) (sym (append_assoc size (places ++ travels) teams) ∙ ap (λ x. x ++ teams) (sym (append_assoc size places travels)))

  pub teams_front : IsFront (((size ++ places) ++ travels) ++ teams) (instance_text i nodes)
  teams_front = record { rest = tasks; is = all_parts }

  pub travels_front : IsFront ((size ++ places) ++ travels) (instance_text i nodes)
  travels_front = front_within _ _ _ (first_front ((size ++ places) ++ travels) teams) teams_front

  pub places_front : IsFront (size ++ places) (instance_text i nodes)
  places_front = front_within _ _ _ (first_front (size ++ places) travels) travels_front

  pub size_front : IsFront size (instance_text i nodes)
  size_front = front_within _ _ _ (first_front size places) places_front
