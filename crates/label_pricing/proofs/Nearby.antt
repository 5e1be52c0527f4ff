-- cells of a minute, with the tasks that may be begun then
use Rattle.std.proofs.Common.{◌≡◌, ◌≤◌, ◌<◌, ◌+◌, ◌++◌, ◌∷◌, [], ℕ, ℤ, List, length, ◌⊎◌, inl, inr, sym, subst, refl, arith, length-append}
use Rattle.std.proofs.lemmas.Bool.{cases_lt}
use Rattle.std.proofs.lemmas.List.{get_or_append_left, get_or_push}
use Rattle.crew_terms.specs.Limits.{Limits, IsPermittedVisit, tasks_in}
use Rattle.label_pricing.specs.Cells.{IsCell, IsSeen, AreCellsFor, cell_of}
use Rattle.label_pricing.specs.Near.{AreNear, IsBetween, near_at}
use Rattle.label_pricing.specs.Turns.{AreTurns}
use Rattle.label_pricing.specs.declared.labels.Cell.{Cell}
use Rattle.label_pricing.specs.declared.turns.Turn.{Turn}

-- task m lies behind the first i of the list, and not behind the next
pub record IsReached (n : Limits) (near : List ℕ) (i m : ℕ) : Type 0 where
  pub above : (h : ℕ) → h < i → near_at near h < m
  pub below : i < length near → m ≤ near_at near i
  pub few : m ≤ tasks_in n

module _ (n : Limits) (k : ℕ) (w : ℕ → ℕ → ℤ) where
  -- tasks that can't be begun at the minute change no cell
  passed : (t m l : ℕ) (grid : List Cell) → AreCellsFor n k w t m grid → ((j : ℕ) → m ≤ j → j < l → IsPermittedVisit n k j t → ⊥) → AreCellsFor n k w t l grid
  passed t m l grid before none q b = record {
    first = is.first;
    second = is.second;
    other = is.other;
    most = λ j u seen at r (here, on). is.most j u (less j u seen here) at r (here, on);
    most_other = λ j u seen at ne r (here, on). is.most_other j u (less j u seen here) at ne r (here, on);
  }
    where
      is : IsCell n k w q t m (cell_of (length n.instance.places) grid q t)
      is = before q b

      less : (j u : ℕ) → IsSeen t l j u → IsPermittedVisit n k j u → IsSeen t m j u
      less j u seen here = record { late = seen.late; below = λ e. by e (cases_lt j m) }
        where
          by : u ≡ t → (j < m) ⊎ (m ≤ j) → j < m
          by e (inl lt) = lt
          by e (inr ge) = absurd (none j ge (seen.below e) (subst (IsPermittedVisit n k j) e here))

  -- nor do those between two that stand next to each other in the list
  pub skipped_to : (t i m l : ℕ) (turns : List Turn) (near : List ℕ) (grid : List Cell) → AreTurns n k turns → AreNear turns t near → i ≤ length near → ((h : ℕ) → h < i → near_at near h < m) → IsReached n near i l
      → AreCellsFor n k w t m grid → AreCellsFor n k w t l grid
  skipped_to t i m l turns near grid are is inside below reached before = passed t m l grid before (λ j ge lt here.
      let count = are.count in
      let few = reached.few in
      let known : j < length turns = omega arith in
      let minutes = ((are.each j here.known).each t).0 here in
      is.all i j inside known (record {
        above = λ h b. let a = below h b in omega arith;
        below = λ b. let a = reached.below b in omega arith;
      }) minutes.0 minutes.1)

-- the first i + 1 of the list are below what is behind the next one
pub one_more_below : (near : List ℕ) (i : ℕ) → ((h : ℕ) → h < i → near_at near h < near_at near i) → (h : ℕ) → h < i + 1 → near_at near h < near_at near i + 1
one_more_below near i rising h b = by (cases_lt h i)
  where
    by : (h < i) ⊎ (i ≤ h) → near_at near h < near_at near i + 1
    by (inl lt) = let a = rising h lt in omega arith
    by (inr ge) = let e : h ≡ i = omega arith in let P = λ (g : ℕ). near_at near g < near_at near i + 1 in subst P (sym e) (omega arith)

-- one more task at the end of the list, above all that it has
module _ (near : List ℕ) (j : ℕ) (known : (i : ℕ) → i < length near → near_at near i < j) where
  old_at : (i : ℕ) → i < length near → near_at (near ++ j ∷ []) i ≡ near_at near i
  old_at i l = get_or_append_left near (j ∷ []) 0 i l

  new_at : (i : ℕ) → i ≡ length near → near_at (near ++ j ∷ []) i ≡ j
  new_at i e = get_or_push near j 0 i (sym e)

  pub pushed_known : (i : ℕ) → i < length near + 1 → near_at (near ++ j ∷ []) i < j + 1
  pushed_known i l = by (cases_lt i (length near))
    where
      by : (i < length near) ⊎ (length near ≤ i) → near_at (near ++ j ∷ []) i < j + 1
      by (inl lt) = let a = known i lt in let b = old_at i lt in omega arith
      by (inr ge) = let b = new_at i (omega arith) in omega arith

  pub pushed_rising : ((h i : ℕ) → h < i → i < length near → near_at near h < near_at near i) → (h i : ℕ) → h < i → i < length near + 1 → near_at (near ++ j ∷ []) h < near_at (near ++ j ∷ []) i
  pushed_rising rising h i lt l = by (cases_lt i (length near))
    where
      by : (i < length near) ⊎ (length near ≤ i) → near_at (near ++ j ∷ []) h < near_at (near ++ j ∷ []) i
      by (inl b) = let a = rising h i lt b in let d = old_at i b in let e = old_at h (omega arith) in omega arith
      by (inr ge) = let before : h < length near = omega arith in let a = known h before in let d = new_at i (omega arith) in let e = old_at h before in omega arith

  -- what stands between two of the longer list stands between the same two of the other
  pub between_before : (i h : ℕ) → i ≤ length near + 1 → h < j + 1 → IsBetween (near ++ j ∷ []) i h → (h < j) × (i ≤ length near) × IsBetween near i h
  between_before i h l lt is = by (cases_lt i (length near)) (cases_lt (length near) i)
    where
      length_now : length (near ++ j ∷ []) ≡ length near + 1
      length_now = length-append near (j ∷ [])

      by : (i < length near) ⊎ (length near ≤ i) → (length near < i) ⊎ (i ≤ length near) → (h < j) × (i ≤ length near) × IsBetween near i h
      by (inl b) _ =
          let count = length_now in
          let below = is.below (omega arith) in
          let a = old_at i b in
          let d = known i b in
          (omega arith, omega arith, record { above = λ g m. let x = is.above g m in let y = old_at g (omega arith) in omega arith; below = λ _. omega arith })
      by (inr ge) (inl gt) = let x = is.above (length near) gt in let y = new_at (length near) refl in absurd (omega arith)
      by (inr ge) (inr le) =
          let count = length_now in
          let below = is.below (omega arith) in
          let y = new_at i (omega arith) in
          (omega arith, le, record { above = λ g m. let x = is.above g m in let z = old_at g (omega arith) in omega arith; below = λ b. absurd (omega arith) })
