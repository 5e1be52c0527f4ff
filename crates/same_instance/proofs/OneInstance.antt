-- instances are one where all parts of them are
use Rattle.std.proofs.Common.{◌≡◌, ◌≤◌, ◌<◌, ◌∙◌, ℕ, List, [], None, length, get_or, ap, sym, arith, ext_get_or}
use Rattle.crew_terms.specs.Instance.{Instance, minutes_between}
use Rattle.crew_terms.specs.Plan.{job_of}
use Rattle.crew_terms.specs.Rules.{IsInstance}

-- lists of one length are one where their first elements are, up to that length
pub one_list : {X : Type 0} (d : X) (xs ys : List X) (n : ℕ) → length xs ≡ length ys → length xs ≤ n
    → ((i : ℕ) → i < n → get_or xs i d ≡ get_or ys i d) → xs ≡ ys
one_list d xs ys n e le h = ext_get_or d xs ys e (λ i l. h i (omega arith))

module _ (a b : Instance) (is : IsInstance a) (is_too : IsInstance b) where
  -- the minutes from one place
  pub one_row : (p n : ℕ) → a.places ≡ b.places → p < length a.places → length a.places ≤ n
      → ((q : ℕ) → q < n → minutes_between a p q ≡ minutes_between b p q) → get_or a.travel p [] ≡ get_or b.travel p []
  one_row p n places below le h =
      let there : length a.places ≡ length b.places = ap length places in
      let here : length (get_or a.travel p []) ≡ length a.places = is.times.columns p [] (let r = is.times.rows in omega arith) in
      let other : length (get_or b.travel p []) ≡ length b.places = is_too.times.columns p [] (let r = is_too.times.rows in omega arith) in
      one_list 0 (get_or a.travel p []) (get_or b.travel p []) n (here ∙ there ∙ sym other) (omega arith) h

  -- the travel times
  pub one_table : (n : ℕ) → a.places ≡ b.places → length a.places ≤ n
      → ((p : ℕ) → p < n → get_or a.travel p [] ≡ get_or b.travel p []) → a.travel ≡ b.travel
  one_table n places le h =
      one_list [] a.travel b.travel n (is.times.rows ∙ ap length places ∙ sym is_too.times.rows) (let r = is.times.rows in omega arith) h

  -- the frozen jobs
  pub one_plan : (n : ℕ) → a.tasks ≡ b.tasks → length a.tasks ≤ n
      → ((j : ℕ) → j < n → job_of a.frozen j ≡ job_of b.frozen j) → a.frozen ≡ b.frozen
  one_plan n tasks le h =
      one_list None a.frozen b.frozen n (is.frozen.whole ∙ ap length tasks ∙ sym is_too.frozen.whole) (let w = is.frozen.whole in omega arith) h
