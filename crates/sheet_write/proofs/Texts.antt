-- the lines of prices and of teams, one after another
use Rattle.std.proofs.Common.{◌≡◌, ◌<◌, ◌≤◌, ◌+◌, ◌++◌, ◌∷◌, [], ℕ, suc, List, length, get_or, ap, sym, refl, ◌∙◌, append_assoc, append-nil, arith}
use Rattle.std.specs.Prelude.{ℤ}
use Rattle.std.specs.List.{enumerate_from, flat_map}
use Rattle.std.proofs.lemmas.List.Concat.{flat_map-append}
use Rattle.std.proofs.lemmas.List.FromFn.{get_or-enumerate_from, length-enumerate_from}
use Rattle.crew_terms.specs.Instance.{Instance}
use Rattle.crew_terms.specs.Limits.{Limits}
use Rattle.crew_terms.specs.Minutes.{first_minute, open_tasks}
use Rattle.crew_terms.specs.Words.{Words, line_text}
use Rattle.dossier_out.specs.Tables.{team_lines}
use Rattle.dossier_out.specs.Texts.{text}
use Rattle.dossier_terms.specs.Dossier.{Potentials}
use Rattle.dossier_terms.specs.Lines.{potentials_line, rows_lines, table_lines, worth_line}
use Rattle.dossier_terms.specs.declared.DossierForm.TheVariants.{Two}
use Rattle.sheet_terms.specs.Lines.{minutes_line, minutes_lines}
use Rattle.squeeze_terms.specs.MinutePrices.{MinutePrices}
use Rattle.sheet_write.specs.Teams.{AreTeamTables}

-- ---- prices

-- the line of the prices of one of the numbered tasks
abbrev pub minutes_text : Instance → ℕ × List ℤ → List ℕ
minutes_text i q = line_text (minutes_line i q.0 q.1)

pub minutes_texts : (i : Instance) (a : ℕ) (p : MinutePrices) → flat_map (minutes_text i) (enumerate_from a p) ≡ text (minutes_lines i a p)
minutes_texts i a [] = refl
minutes_texts i a (vs ∷ p) =
    ap (λ r. minutes_text i (a, vs) ++ r) (minutes_texts i (a + 1) p ∙ ap (λ m. text (minutes_lines i m p)) (let e : a + 1 ≡ suc a = omega arith in e))

pub rows_below : (p : MinutePrices) (j : ℕ) → j < length p → j < length (enumerate_from 0 p)
rows_below p j h = let l = length-enumerate_from 0 p in omega (arith, l)

pub rows_past : (p : MinutePrices) (j : ℕ) → length p ≤ j → length (enumerate_from 0 p) ≤ j
rows_past p j h = let l = length-enumerate_from 0 p in omega (arith, l)

pub row_item : (p : MinutePrices) (j : ℕ) → j < length p → (j, get_or p j []) ≡ get_or (enumerate_from 0 p) j (0, [])
row_item p j h = sym (get_or-enumerate_from 0 p j (0, []) h ∙ ap (λ m. (m, get_or p j [])) (let e : 0 + j ≡ j = omega arith in e))

-- ---- teams

-- the lines of the potentials of team k
abbrev potential_lines : Limits → ℕ → Potentials → List Words
potential_lines n k t = rows_lines (λ j. potentials_line Two (first_minute n k j) j) (open_tasks n k) t.phi

one_team : (n : Limits) (k : ℕ) (t : Potentials) → table_lines Two n k (t ∷ []) ≡ team_lines n k t
one_team n k t = ap (λ lines. worth_line t.worth ∷ lines) (append-nil (potential_lines n k t))

lines_append : (n : Limits) (p : MinutePrices) (a b : ℕ) (ts us : List Potentials) → AreTeamTables n p a b ts → table_lines Two n a (ts ++ us) ≡ table_lines Two n a ts ++ table_lines Two n b us
lines_append n p a b [] us are = ap (λ m. table_lines Two n m us) are
lines_append n p a b (t ∷ ts) us are =
    ap (λ lines. worth_line t.worth ∷ (potential_lines n a t ++ lines)) (lines_append n p (suc a) b ts us are.1)
    ∙ ap (λ lines. worth_line t.worth ∷ lines) (sym (append_assoc (potential_lines n a t) (table_lines Two n (suc a) ts) (table_lines Two n b us)))

-- the text of one team more
pub text_more : (n : Limits) (p : MinutePrices) (k : ℕ) (ts : List Potentials) (t : Potentials) → AreTeamTables n p 0 k ts
    → text (table_lines Two n 0 ts) ++ text (team_lines n k t) ≡ text (table_lines Two n 0 (ts ++ t ∷ []))
text_more n p k ts t are =
    sym (ap text (lines_append n p 0 k ts (t ∷ []) are) ∙ flat_map-append line_text (table_lines Two n 0 ts) (table_lines Two n k (t ∷ []))
    ∙ ap (λ lines. text (table_lines Two n 0 ts) ++ text lines) (one_team n k t))

-- it goes on with the teams behind
pub text_further : (n : Limits) (p : MinutePrices) (k : ℕ) (ts us : List Potentials) (t : Potentials) → AreTeamTables n p 0 k ts
    → text (table_lines Two n 0 (ts ++ t ∷ us)) ≡ (text (table_lines Two n 0 ts) ++ text (team_lines n k t)) ++ text (table_lines Two n (suc k) us)
text_further n p k ts us t are =
    ap text (lines_append n p 0 k ts (t ∷ us) are) ∙ flat_map-append line_text (table_lines Two n 0 ts) (table_lines Two n k (t ∷ us))
    ∙ ap (λ x. text (table_lines Two n 0 ts) ++ x) (flat_map-append line_text (team_lines n k t) (table_lines Two n (suc k) us))
    ∙ sym (append_assoc (text (table_lines Two n 0 ts)) (text (team_lines n k t)) (text (table_lines Two n (suc k) us)))
