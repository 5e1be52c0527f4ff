-- the jobs of a plan, task by task
use Rattle.std.proofs.Common.{◌≡◌, ◌<◌, ◌≤◌, ◌+◌, ◌++◌, ◌∷◌, [], ℕ, suc, List, length, map, take, get_or, ap, sym, refl, ◌∙◌, append-nil, arith}
use Rattle.std.specs.Prelude.{Option, None, Some}
use Rattle.std.specs.Option.{option_map}
use Rattle.std.specs.Fmt.{decimal}
use Rattle.std.specs.List.{flat_map, enumerate_from}
use Rattle.std.proofs.lemmas.List.{length-append, take_more}
use Rattle.std.proofs.lemmas.List.Concat.{flat_map-append}
use Rattle.std.proofs.lemmas.List.FromFn.{get_or-enumerate_from, length-enumerate_from}
use Rattle.crew_terms.specs.Words.{Words, line_text}
use Rattle.crew_terms.specs.Plan.{Plan, Job, job_of}
use Rattle.crew_instance.specs.Teams.{job_by, job_teams}
use Rattle.dossier_terms.specs.Lines.{jobs_from}
use Rattle.dossier_out.specs.Jobs.{job_list}
use Rattle.dossier_out.specs.Texts.{text}

-- the line of task j, if it has a job
abbrev pub job_text : (ℕ × Job → Words) → ℕ × Option Job → List ℕ
job_text line p = text (map line (job_list p.0 p.1))

-- the lines of the jobs from task a on are those of each task
pub jobs_texts : (line : ℕ × Job → Words) (a : ℕ) (p : Plan) → flat_map (job_text line) (enumerate_from a p) ≡ text (map line (jobs_from a p))
jobs_texts line a [] = refl
jobs_texts line a (None ∷ p) = jobs_texts line (a + 1) p ∙ ap (λ n. text (map line (jobs_from n p))) (let e : a + 1 ≡ suc a = omega arith in e)
jobs_texts line a (Some job ∷ p) =
    ap (λ t. t ++ flat_map (job_text line) (enumerate_from (a + 1) p)) (append-nil (line_text (line (a, job))))
    ∙ ap (λ t. line_text (line (a, job)) ++ t) (jobs_texts line (a + 1) p ∙ ap (λ n. text (map line (jobs_from n p))) (let e : a + 1 ≡ suc a = omega arith in e))

-- the item of task j
pub job_item : (p : Plan) (j : ℕ) → j < length p → get_or (enumerate_from 0 p) j (0, None) ≡ (j, job_of p j)
job_item p j below = get_or-enumerate_from 0 p j (0, None) below ∙ ap (λ n. (n, job_of p j)) (let e : 0 + j ≡ j = omega arith in e)

pub items_below : (p : Plan) (j : ℕ) → j < length p → j < length (enumerate_from 0 p)
items_below p j h = let l = length-enumerate_from 0 p in omega (arith, l)

pub items_past : (p : Plan) (j : ℕ) → length p ≤ j → length (enumerate_from 0 p) ≤ j
items_past p j h = let l = length-enumerate_from 0 p in omega (arith, l)

-- ---- the line of one task

abbrev pub counts_line : List ℕ → ℕ × Job → Words
counts_line word p = word ∷ decimal p.0 ∷ decimal p.1.start ∷ map decimal p.1.teams

pub no_job : (line : ℕ × Job → Words) (j : ℕ) (o : Option Job) → o ≡ None → [] ≡ text (map line (job_list j o))
no_job line j o is = ap (λ x. text (map line (job_list j x))) (sym is)

pub some_job : (word : List ℕ) (j start : ℕ) (teams : List ℕ) (o : Option Job) → o ≡ Some (job_by start teams)
    → line_text (word ∷ decimal j ∷ decimal start ∷ map decimal teams) ≡ text (map (counts_line word) (job_list j o))
some_job word j start teams o is = sym (append-nil _) ∙ ap (λ x. text (map (counts_line word) (job_list j x))) (sym is)

pub some_begun : (o : Option Job) (start : ℕ) (teams : List ℕ) → option_map (λ (job : Job). job.start) o ≡ Some start → teams ≡ job_teams o → o ≡ Some (job_by start teams)
some_begun None start teams is are = cc
some_begun (Some job) start teams is are = ap Some (by (let e : job.start ≡ start = cc in e) (sym are))
  where
    by : job.start ≡ start → job.teams ≡ teams → job ≡ job_by start teams
    by e f = ap (λ s. job_by s job.teams) e ∙ ap (job_by start) f

-- ---- how many jobs there are

pub jobs_are : (a : ℕ) (p : Plan) → flat_map (λ (q : ℕ × Option Job). job_list q.0 q.1) (enumerate_from a p) ≡ jobs_from a p
jobs_are a [] = refl
jobs_are a (None ∷ p) = jobs_are (a + 1) p ∙ ap (λ n. jobs_from n p) (let e : a + 1 ≡ suc a = omega arith in e)
jobs_are a (Some job ∷ p) = ap (λ r. (a, job) ∷ r) (jobs_are (a + 1) p ∙ ap (λ n. jobs_from n p) (let e : a + 1 ≡ suc a = omega arith in e))

pub job_count : (p : Plan) (j : ℕ) → j < length p
    → length (flat_map (λ (q : ℕ × Option Job). job_list q.0 q.1) (take (j + 1) (enumerate_from 0 p))) ≡ length (flat_map (λ (q : ℕ × Option Job). job_list q.0 q.1) (take j (enumerate_from 0 p))) + length (job_list j (job_of p j))
job_count p j below =
    let items = enumerate_from 0 p in
    let f : ℕ × Option Job → List (ℕ × Job) = λ q. job_list q.0 q.1 in
    ap (λ is. length (flat_map f is)) (take_more items j (0, None) (items_below p j below))
    ∙ ap length (flat_map-append f (take j items) (get_or items j (0, None) ∷ []))
    ∙ length-append (flat_map f (take j items)) (flat_map f (get_or items j (0, None) ∷ []))
    ∙ ap (λ (q : ℕ × Option Job). length (flat_map f (take j items)) + length (job_list q.0 q.1 ++ [])) (job_item p j below)
    ∙ ap (λ l. length (flat_map f (take j items)) + length l) (append-nil (job_list j (job_of p j)))
