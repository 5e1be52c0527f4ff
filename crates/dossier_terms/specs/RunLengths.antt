-- runs stand for one number a minute
use Rattle.std.proofs.Common.{◌≡◌, ◌+◌, ◌-◌, ℕ, List, [], ◌∷◌, length, replicate, ap, ◌∙◌, arith, append-nil, length-append}
use Rattle.std.proofs.lemmas.List.{length-replicate}
use Rattle.dossier_terms.specs.Runs.{Run, AreRuns, RunsGoOn, values_of}

-- a run and those behind it
pub go_on_length : (r : Run) (past : ℕ) (rs : List Run) → RunsGoOn r past rs → length (values_of past (r ∷ rs)) ≡ past - r.from
go_on_length r past [] h = ap length (append-nil (replicate (past - r.from) r.value)) ∙ length-replicate (past - r.from) r.value
go_on_length r past (s ∷ rs) h =
    let a = go_on_length s past rs h.3 in
    length-append (replicate (s.from - r.from) r.value) (values_of past (s ∷ rs))
    ∙ (let n : length (replicate (s.from - r.from) r.value) + length (values_of past (s ∷ rs)) ≡ past - r.from = omega (arith, length-replicate (s.from - r.from) r.value, h.0, h.1) in n)

-- all the runs of a row
pub values_length : (first past : ℕ) (rs : List Run) → AreRuns first past rs → length (values_of past rs) ≡ past - first
values_length first past [] h = absurd h
values_length first past (r ∷ rs) h = go_on_length r past rs h.1 ∙ ap (λ t. past - t) h.0
