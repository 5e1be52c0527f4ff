-- sets of teams, a bit for each
use Rattle.std.proofs.Common.{◌≡◌, ◌≤◌, ◌<◌, ◌+◌, ◌*◌, ◌^◌, ◌%◌, ◌++◌, ◌⊎◌, inl, inr, ℕ, List, ◌∷◌, [], Option, None, Some, length, get_or, bit_or, arith, refl, subst, ap, ◌∙◌}
use Rattle.std.specs.Prelude.{Contains}
use Rattle.std.specs.Int.{bit_at, w64}
use Rattle.std.proofs.lemmas.Bool.{cases_eq, cases_lt}
use Rattle.std.proofs.lemmas.List.{get_or_append_left, get_or_default, get_or_push, length_push}
use Rattle.std.proofs.lemmas.Nat.Bits.{bit_at_set_same, bit_at_set_other}
use Rattle.crew_terms.specs.Plan.{Plan, Job, Does, job_of}
use Rattle.crew_instance.specs.Teams.{job_teams}
use Rattle.crew_instance.specs.Turns.{AreTeamSets}

-- the first n of these are in the set
abbrev pub HasFirst : List ℕ → ℕ → ℕ → Type 0
HasFirst ks n set = (i : ℕ) → i < n → bit_at set (get_or ks i 0) ≡ 1

-- one more is put into it
pub has_more : (ks : List ℕ) (n set : ℕ) → get_or ks n 0 < 64 → HasFirst ks n set → HasFirst ks (n + 1) (bit_or set (1 * 2 ^ get_or ks n 0 % 2 ^ 64))
has_more ks n set small before i l = at (cases_eq (get_or ks i 0) (get_or ks n 0))
  where
    k : ℕ
    k = get_or ks n 0

    at : (get_or ks i 0 ≡ k) ⊎ (get_or ks i 0 ≡ k → ⊥) → bit_at (bit_or set (1 * 2 ^ k % 2 ^ 64)) (get_or ks i 0) ≡ 1
    at (inl e) = rw e (bit_at_set_same w64 set k small)
    at (inr ne) =
        let other : i ≡ n → ⊥ = λ e. ne (ap (λ j. get_or ks j 0) e) in
        let earlier : i < n = omega arith in
        bit_at_set_other w64 set k small (get_or ks i 0) ne ∙ before i earlier

-- where all are put into it, each is in it
pub has_all : (ks : List ℕ) (n set : ℕ) → length ks ≡ n → HasFirst ks n set → (k : ℕ) → Contains ks k → bit_at set k ≡ 1
has_all ks n set all first k c =
    let e : get_or ks c.0 0 ≡ k = get_or_default ks c.0 0 k c.1 ∙ c.2 in
    let l = c.1 in
    subst (λ x. bit_at set x ≡ 1) e (first c.0 (omega arith))

-- who is one of a task's teams does it
pub team_does : (p : Plan) (j k : ℕ) → Contains (job_teams (job_of p j)) k → (t : ℕ) × Does p k j t
team_does p j k c = at (job_of p j) refl c
  where
    at : (o : Option Job) → job_of p j ≡ o → Contains (job_teams o) k → (t : ℕ) × Does p k j t
    at None e d = let l = d.1 in absurd (omega arith)
    at (Some job) e d = (job.start, (job, e, refl, d))

-- and the other way round
pub does_team : (p : Plan) (j k t : ℕ) → Does p k j t → Contains (job_teams (job_of p j)) k
does_team p j k t does = rw does.1 does.3

-- the set of one more task
pub sets_more : (p : Plan) (sets : List ℕ) (n set : ℕ) → length sets ≡ n → AreTeamSets p sets
    → ((k : ℕ) → Contains (job_teams (job_of p n)) k → bit_at set k ≡ 1) → AreTeamSets p (sets ++ set ∷ [])
sets_more p sets n set count before here k j t l does = at (cases_lt j n)
  where
    at : (j < n) ⊎ (n ≤ j) → bit_at (get_or (sets ++ set ∷ []) j 0) k ≡ 1
    at (inl m) =
        let inside : j < length sets = omega arith in
        rw (get_or_append_left sets (set ∷ []) 0 j inside) (before k j t inside does)
    at (inr m) =
        let size : length (sets ++ set ∷ []) ≡ length sets + 1 = length_push sets set in
        let e : j ≡ n = omega arith in
        rw (get_or_push sets set 0 j (omega arith)) (here k (subst (λ h. Contains (job_teams (job_of p h)) k) e (does_team p j k t does)))
