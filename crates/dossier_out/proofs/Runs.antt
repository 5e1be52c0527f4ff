-- runs, minute by minute
use Rattle.std.proofs.Common.{◌≡◌, ◌≢◌, ◌<◌, ◌≤◌, ◌+◌, ◌-◌, ◌++◌, ◌∷◌, [], ℕ, suc, List, Bool, true, false, length, map, ap, sym, refl, ◌∙◌, append_assoc, append-nil, arith}
use Rattle.std.specs.Prelude.{ℤ, Option, None, Some, if◌then◌else◌}
use Rattle.std.specs.List.{flat_map, range_with_len}
use Rattle.std.specs.Ordering.{int_eq}
use Rattle.std.proofs.lemmas.Bool.Decides.{Decides-int_eq}
use Rattle.std.proofs.lemmas.List.{map-append}
use Rattle.std.proofs.lemmas.List.Concat.{flat_map-append}
use Rattle.std.proofs.lemmas.List.FromFn.{length-map-range_with_len, map-range_with_len_more}
use Rattle.crew_terms.specs.Ranges.{range_append}
use Rattle.crew_io.specs.Fronts.{IsFront}
use Rattle.dossier_terms.specs.Lines.{run_words}
use Rattle.dossier_terms.specs.Runs.{Run, runs_of, runs_after}
use Rattle.line_out.specs.Parts.{next_word}
use Rattle.potentials.specs.Table.{PotentialRow, phi}
use Rattle.dossier_out.specs.Steps.{last_behind, row_of, run_at}

-- the runs of these numbers from minute t on, behind a last one, if there is one
abbrev pub runs_behind : Option ℤ → ℕ → List ℤ → List Run
runs_behind last t [] = []
runs_behind last t (v ∷ vs) = run_at last t v ++ runs_behind (Some v) (t + 1) vs

after : (last : ℤ) (t : ℕ) (vs : List ℤ) → runs_after last t vs ≡ runs_behind (Some last) t vs
after last t [] = refl
after last t (v ∷ vs) = by (int_eq v last) refl (λ w. after w (suc t) vs ∙ ap (λ n. runs_behind (Some w) n vs) (let e : suc t ≡ t + 1 = omega arith in e))
  where
    by : (b : Bool) → int_eq v last ≡ b → ((w : ℤ) → runs_after w (suc t) vs ≡ runs_behind (Some w) (t + 1) vs)
        → (if int_eq v last then runs_after last (suc t) vs else record { from = t; value = v } ∷ runs_after v (suc t) vs) ≡ (if int_eq v last then [] else record { from = t; value = v } ∷ []) ++ runs_behind (Some v) (t + 1) vs
    by true is next = rw is (next last ∙ ap (λ w. runs_behind (Some w) (t + 1) vs) (sym ((Decides-int_eq v last).0 is)))
    by false is next = rw is (ap (λ r. record { from = t; value = v } ∷ r) (next v))

pub runs_are : (t : ℕ) (vs : List ℤ) → runs_of t vs ≡ runs_behind None t vs
runs_are t [] = refl
runs_are t (v ∷ vs) = ap (λ r. record { from = t; value = v } ∷ r) (after v (suc t) vs ∙ ap (λ n. runs_behind (Some v) n vs) (let e : suc t ≡ t + 1 = omega arith in e))

runs_append : (last : Option ℤ) (t : ℕ) (vs ws : List ℤ) → runs_behind last t (vs ++ ws) ≡ runs_behind last t vs ++ runs_behind (last_behind last vs) (t + length vs) ws
runs_append last t [] ws = ap (λ n. runs_behind last n ws) (let e : t ≡ t + 0 = omega arith in e)
runs_append last t (v ∷ vs) ws =
    ap (λ r. run_at last t v ++ r) (runs_append (Some v) (t + 1) vs ws ∙ ap (λ n. runs_behind (Some v) (t + 1) vs ++ runs_behind (last_behind (Some v) vs) n ws) (shift t (length vs)))
    ∙ sym (append_assoc (run_at last t v) (runs_behind (Some v) (t + 1) vs) (runs_behind (last_behind (Some v) vs) (t + suc (length vs)) ws))
  where
    shift : (a b : ℕ) → (a + 1) + b ≡ a + suc b
    shift a b = omega arith

last_append : (last : Option ℤ) (vs : List ℤ) (v : ℤ) → last_behind last (vs ++ v ∷ []) ≡ Some v
last_append last [] v = refl
last_append last (u ∷ us) v = last_append (Some u) us v

-- ---- the words of runs

-- the words of these runs, behind others of a line
abbrev pub runs_text : List Run → List ℕ
runs_text runs = flat_map next_word (flat_map run_words runs)

text_append : (r s : List Run) → runs_text (r ++ s) ≡ runs_text r ++ runs_text s
text_append r s = ap (flat_map next_word) (flat_map-append run_words r s) ∙ flat_map-append next_word (flat_map run_words r) (flat_map run_words s)

module _ (table : List PotentialRow) (j first : ℕ) where
  -- the runs of the first m minutes
  abbrev pub runs_below : ℕ → List Run
  runs_below m = runs_behind None first (row_of table j first m)

  row_more : (m : ℕ) → row_of table j first (m + 1) ≡ row_of table j first m ++ phi table j (first + m) ∷ []
  row_more m = map-range_with_len_more (phi table j) first m (first + m) refl

  row_length : (m : ℕ) → length (row_of table j first m) ≡ m
  row_length m = length-map-range_with_len (phi table j) first m

  pub last_more : (m : ℕ) → last_behind None (row_of table j first (m + 1)) ≡ Some (phi table j (first + m))
  last_more m = ap (last_behind None) (row_more m) ∙ last_append None (row_of table j first m) (phi table j (first + m))

  -- the numbers behind minute m, and their runs
  abbrev row_later : ℕ → ℕ → List ℤ
  row_later m count = map (phi table j) (range_with_len (first + m + 1) (count - (m + 1)))

  abbrev runs_later : ℕ → ℕ → List Run
  runs_later m count = runs_behind (Some (phi table j (first + m))) (first + m + 1) (row_later m count)

  row_parts : (m count : ℕ) → m < count → row_of table j first count ≡ row_of table j first m ++ phi table j (first + m) ∷ row_later m count
  row_parts m count below =
      ap (λ n. row_of table j first n) (let e : count ≡ m + suc (count - (m + 1)) = omega arith in e)
      ∙ ap (map (phi table j)) (range_append first m (suc (count - (m + 1))))
      ∙ map-append (phi table j) (range_with_len first m) (range_with_len (first + m) (suc (count - (m + 1))))

  module _ (last : Option ℤ) (m : ℕ) (is : last ≡ last_behind None (row_of table j first m)) where
    runs_then : (ws : List ℤ) → runs_behind None first (row_of table j first m ++ ws) ≡ runs_below m ++ runs_behind last (first + m) ws
    runs_then ws =
        runs_append None first (row_of table j first m) ws
        ∙ ap (λ n. runs_below m ++ runs_behind (last_behind None (row_of table j first m)) (first + n) ws) (row_length m)
        ∙ ap (λ o. runs_below m ++ runs_behind o (first + m) ws) (sym is)

    -- the words of one minute more
    pub runs_more : runs_text (runs_below (m + 1)) ≡ runs_text (runs_below m) ++ runs_text (run_at last (first + m) (phi table j (first + m)))
    runs_more =
        let v = phi table j (first + m) in
        ap (λ vs. runs_text (runs_behind None first vs)) (row_more m)
        ∙ ap runs_text (runs_then (v ∷ []) ∙ ap (λ r. runs_below m ++ r) (append-nil (run_at last (first + m) v)))
        ∙ text_append (runs_below m) (run_at last (first + m) v)

    -- these are a front of the words of more minutes
    pub runs_front : (count : ℕ) → m < count
        → IsFront (runs_text (runs_below m) ++ runs_text (run_at last (first + m) (phi table j (first + m)))) (runs_text (runs_of first (row_of table j first count)))
    runs_front count below = record {
      rest = runs_text (runs_later m count);
      is =
          let v = phi table j (first + m) in
          ap runs_text (runs_are first (row_of table j first count) ∙ ap (runs_behind None first) (row_parts m count below) ∙ runs_then (v ∷ row_later m count))
          ∙ text_append (runs_below m) (run_at last (first + m) v ++ runs_later m count)
          ∙ ap (λ t. runs_text (runs_below m) ++ t) (text_append (run_at last (first + m) v) (runs_later m count))
          ∙ sym (append_assoc (runs_text (runs_below m)) (runs_text (run_at last (first + m) v)) (runs_text (runs_later m count)));
    }

  -- what is written at minute t
  pub change_is : (last : Option ℤ) (t : ℕ) (v : ℤ) → first ≤ t → v ≡ phi table j t
      → runs_text (run_at last t v) ≡ runs_text (run_at last (first + (t - first)) (phi table j (first + (t - first))))
  change_is last t v from is =
      ap (λ w. runs_text (run_at last t w)) is ∙ ap (λ u. runs_text (run_at last u (phi table j u))) (let e : t ≡ first + (t - first) = omega arith in e)

  -- the number at the minute before
  pub last_at : (t : ℕ) (v : ℤ) → first ≤ t → t ≢ first → v ≡ phi table j (t - 1) → Some v ≡ last_behind None (row_of table j first (t - first))
  last_at t v from other is =
      ap Some (is ∙ ap (phi table j) (let e : t - 1 ≡ first + (t - 1 - first) = omega arith in e)) ∙ sym (last_more (t - 1 - first))
      ∙ ap (λ m. last_behind None (row_of table j first m)) (let e : (t - 1 - first) + 1 ≡ t - first = omega arith in e)

  pub none_yet : (t : ℕ) → t ≡ first → None ≡ last_behind None (row_of table j first (t - first))
  none_yet t is = ap (λ m. last_behind None (row_of table j first m)) (let e : 0 ≡ t - first = omega arith in e)

  pub nothing_yet : [] ≡ runs_text (runs_below (first - first))
  nothing_yet = ap (λ m. runs_text (runs_below m)) (let e : 0 ≡ first - first = omega arith in e)

  pub more_at : (last : Option ℤ) (t : ℕ) → first ≤ t → last ≡ last_behind None (row_of table j first (t - first))
      → runs_text (runs_below (t - first)) ++ runs_text (run_at last (first + (t - first)) (phi table j (first + (t - first)))) ≡ runs_text (runs_below ((t + 1) - first))
  more_at last t from is =
      sym (runs_more last (t - first) is) ∙ ap (λ m. runs_text (runs_below m)) (let e : (t - first) + 1 ≡ (t + 1) - first = omega arith in e)
