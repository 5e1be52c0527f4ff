-- lines that end a dossier are its lines, and it is good
use Rattle.std.proofs.Common.{◌≡◌, ℕ, List, [], ◌∷◌, ◌++◌, ap, sym, ◌∙◌, append_assoc, append-nil, drop, get_or, subst, inl, inr}
use Rattle.crew_terms.specs.Instance.{Instance}
use Rattle.dossier_terms.specs.Dossier.{Dossier, IsGood}
use Rattle.crew_terms.specs.Words.{Words}
use Rattle.dossier_terms.specs.declared.DossierForm.{DossierForm}
use Rattle.dossier_terms.specs.declared.DossierForm.TheVariants.{Two}
use Rattle.dossier_terms.specs.Lines.{lines_of, form_line, instance_lines, frozen_lines}
use Rattle.dossier_terms.specs.Reading.{Reading, Answer, More, Whole, Form, Sizes, Places, Travels, Teams, Tasks, Frozens, Keeps, Pools, Routes, Plans, Jobs, Trees, Nodes, Whys, Parts, Spares, Prices, Extras, Worths, Phis, Ends}
use Rattle.dossier_terms.specs.Apart.{form_one}
use Rattle.dossier_terms.specs.Table.{Says, Ended, Reaches}
use Rattle.dossier_laws.specs.Law.{IsHeadOf}
use Rattle.dossier_laws.proofs.SoFar.{IsReading, spelled, Follows}
use Rattle.dossier_laws.proofs.HeadReads.{form_follows, size_follows, place_follows, travel_follows, team_follows, task_follows}
use Rattle.dossier_laws.proofs.Frozen.{frozen_follows, keep_follows}
use Rattle.dossier_laws.proofs.Pool.{pool_follows, route_follows}
use Rattle.dossier_laws.proofs.Plan.{plan_follows, job_follows}
use Rattle.dossier_laws.proofs.NodeReads.{tree_follows, node_follows, end_follows}
use Rattle.dossier_laws.proofs.CauseReads.{why_follows, share_follows, spare_follows}
use Rattle.dossier_laws.proofs.LeafReads.{price_follows, extra_follows, worth_follows, table_follows}

pub says_follows : (s : Reading) (ws : Words) (said : Answer) → IsReading s → Says s ws said → Follows s ws said
says_follows Form ws said r h = form_follows ws said h
says_follows (Sizes form) ws said r h = size_follows form ws said h
says_follows (Places o k i) ws said r h = place_follows o k i ws said r h
says_follows (Travels o k i) ws said r h = travel_follows o k i ws said r h
says_follows (Teams o k i) ws said r h = team_follows o k i ws said r h
says_follows (Tasks o k i) ws said r h = task_follows o k i ws said r h
says_follows (Frozens o i) ws said r h = frozen_follows o i ws said r h
says_follows (Keeps o k from i) ws said r h = keep_follows o k from i ws said r h
says_follows (Pools form i budget) ws said r h = pool_follows form i budget ws said r h
says_follows (Routes b k) ws said r h = route_follows b k ws said r h
says_follows (Plans b) ws said r h = plan_follows b ws said r h
says_follows (Jobs b k from) ws said r h = job_follows b k from ws said r h
says_follows (Trees b) ws said r h = tree_follows b ws said r h
says_follows (Nodes b c above) ws said r h = node_follows b c above ws said r h
says_follows (Whys p) ws said r h = why_follows p ws said r h
says_follows (Parts p now read left from) ws said r h = share_follows p now read left from ws said r h
says_follows (Spares p now read) ws said r h = spare_follows p now read ws said r h
says_follows (Prices a) ws said r h = price_follows a ws said r h
says_follows (Extras a leaf j js) ws said r h = extra_follows a leaf j js ws said r h
says_follows (Worths a leaf left) ws said r h = worth_follows a leaf left ws said r h
says_follows (Phis a leaf left table j js) ws said r h = table_follows a leaf left table j js ws said r h
says_follows (Ends b c t) ws said r h = end_follows b c t ws said r h

ended_from : (s : Reading) (lines : List Words) (d : Dossier) → IsReading s → Ended s lines d → (spelled s ++ lines ≡ lines_of d) × IsGood d
ended_from s [] d r h = absurd h
ended_from s (ws ∷ lines) d r (inl h) =
    let a = says_follows s ws (Whole d) r h.0 in
    (ap (λ ls. spelled s ++ ws ∷ ls) h.1 ∙ sym a.0, a.1)
ended_from s (ws ∷ lines) d r (inr h) =
    let a = says_follows s ws (More h.0) r h.1 in
    let b = ended_from h.0 lines d a.1 h.2 in
    (sym (append_assoc (spelled s) (ws ∷ []) lines) ∙ ap (λ ls. ls ++ lines) (sym a.0) ∙ b.0, b.1)

pub ended_good : (lines : List Words) (d : Dossier) → Ended Form lines d → (lines ≡ lines_of d) × IsGood d
ended_good lines d h = ended_from Form lines d tt h

-- ---- heads

-- the lines that lead from one state to another follow its lines, and what has been read holds
reached_from : (s : Reading) (lines : List Words) (t : Reading) → IsReading s → Reaches s lines t → (spelled s ++ lines ≡ spelled t) × IsReading t
reached_from s [] t r h = (append-nil (spelled s) ∙ ap spelled h, subst IsReading h r)
reached_from s (ws ∷ lines) t r h =
    let a = says_follows s ws (More h.0) r h.1 in
    let b = reached_from h.0 lines t a.1 h.2 in
    (sym (append_assoc (spelled s) (ws ∷ []) lines) ∙ ap (λ ls. ls ++ lines) (sym a.0) ∙ b.0, b.1)

pub head_is_good : (lines : List Words) (form : DossierForm) (i : Instance) (budget : ℕ) → Reaches (Sizes Two) lines (Pools form i budget) → (form ≡ Two) × IsHeadOf lines i budget
head_is_good lines form i budget h =
    let a = reached_from (Sizes Two) lines (Pools form i budget) tt h in
    let line : form_line Two ≡ form_line form = ap (λ ls. get_or ls 0 []) a.0 in
    let is : form ≡ Two = sym (form_one Two form line) in
    (is, record { spelled = ap (drop 1) a.0 ∙ ap (λ f. instance_lines i budget ++ frozen_lines f i.frozen) is; instance = a.1.instance; budget = a.1.budget })
