-- a fault of the line that is due is told by its row of the table
use Rattle.std.proofs.Common.{◌≡◌, ℕ, true, false, List, [], ◌∷◌, length, map, ap, sym, refl, ◌∙◌, arith, ◌⊎◌, inl, inr}
use Rattle.std.specs.Prelude.{ℤ, pos, codes}
use Rattle.std.specs.Str.{bytes_eq}
use Rattle.std.proofs.lemmas.Slice.Eq.{bytes_eq-Decides}
use Rattle.std.proofs.lemmas.Bool.{cases_Bool}
use Rattle.crew_terms.specs.Words.{Words}
use Rattle.dossier_terms.specs.Rules.{Holds, Fails, Unspelled, Then, Else, IsShape, Begins}
use Rattle.dossier_terms.specs.Reading.{Reading, Answer, No as Refuses, Form, Sizes, Places, Travels, Teams, Tasks, Frozens, Keeps, Pools, Routes, Plans, Jobs, Trees, Nodes, Whys, Parts, Spares, Prices, Extras, Worths, Phis, Ends, limits_of}
use Rattle.dossier_terms.specs.declared.DossierForm.{DossierForm}
use Rattle.dossier_terms.specs.declared.DossierForm.TheVariants.{One, Two}
use Rattle.dossier_terms.specs.LeafTable.{potentials_row}
use Rattle.dossier_terms.specs.Table.{Says}
use Rattle.dossier_terms.specs.Apart.{not_both, pair_not_window}
use Rattle.std.specs.List.{flat_map}
use Rattle.crew_terms.specs.Limits.{Limits}
use Rattle.crew_terms.specs.Minutes.{minute_count}
use Rattle.line_in.specs.Fields.{visit_numbers, run_numbers}
use Rattle.cert_format.specs.Lines.{IsFaultOf, HasNodeShape, WindowShape, PairShape, BareShape, OpenShape, ClosedShape, HasWhyShape, NoneShape, LooseShape, OverflowShape, SpentShape}
use Rattle.cert_format.specs.declared.kinds.LineKind.TheVariants as kinds
use Rattle.line_in.specs.declared.faults.LineFault.{LineFault}
use Rattle.line_in.specs.declared.faults.LineFault.TheVariants.{Shape, Number, Name}
use Rattle.cert_format.proofs.CauseLines.{begins_why, one_why}
use Rattle.cert_format.specs.Expected.{expect_of, potentials_expect}
use Rattle.line_in.specs.Faults.{reason_for}

-- whether a line begins with a word
begins : (w : List ℕ) (ws : Words) → Begins w ws ⊎ (Begins w ws → ⊥)
begins w [] = inr (λ b. let e = b.1 in cc)
begins w (x ∷ ws) = at (cases_Bool (bytes_eq x w))
  where
    at : (bytes_eq x w ≡ true) ⊎ (bytes_eq x w ≡ false) → Begins w (x ∷ ws) ⊎ (Begins w (x ∷ ws) → ⊥)
    at (inl e) = inl (ws, ap (λ y. y ∷ ws) ((bytes_eq-Decides x w).0 e))
    at (inr e) = inr (λ b. let f : x ≡ w = (let g = b.1 in cc) in let h : bytes_eq x w ≡ true = (bytes_eq-Decides x w).1 f in let i : true ≡ false = sym h ∙ e in cc)

-- whether a line is a word and one more
is_pair : (w : List ℕ) (ws : Words) → IsShape w 1 ws ⊎ (IsShape w 1 ws → ⊥)
is_pair w [] = inr (λ s. let e = s.1 in cc)
is_pair w (x ∷ []) = inr (λ s. let n : length s.0 ≡ 1 = s.2 in let e : [] ≡ s.0 = (let g = s.1 in cc) in let f : length {A = List ℕ} [] ≡ length s.0 = ap length e in absurd (omega arith))
is_pair w (x ∷ y ∷ []) = at (begins w (x ∷ y ∷ []))
  where
    at : Begins w (x ∷ y ∷ []) ⊎ (Begins w (x ∷ y ∷ []) → ⊥) → IsShape w 1 (x ∷ y ∷ []) ⊎ (IsShape w 1 (x ∷ y ∷ []) → ⊥)
    at (inl b) = inl (b.0, b.1, (let e : y ∷ [] ≡ b.0 = (let g = b.1 in cc) in let f = ap length e in omega arith))
    at (inr b) = inr (λ s. b (s.0, s.1))
is_pair w (x ∷ y ∷ z ∷ ws) = inr (λ s. let n : length s.0 ≡ 1 = s.2 in let e : y ∷ z ∷ ws ≡ s.0 = (let g = s.1 in cc) in let f = ap length e in absurd (omega arith))

-- a fault of a line of potentials
potentials_fault : (form : DossierForm) (n : Limits) (k j : ℕ) (ws : Words) (rest : List ℤ → Answer → Type 0) (fault : LineFault)
    → IsFaultOf (potentials_expect form j (minute_count n k j)) ws fault → potentials_row form n k j ws rest (Refuses (reason_for fault))
potentials_fault One n k j ws rest Shape h = Fails h refl
potentials_fault One n k j ws rest Number h = Holds h.0 (Unspelled (λ vs fits is. h.2 (kinds.Phi j vs) (refl, fits, is)) refl)
potentials_fault One n k j ws rest Name h = absurd (h.1 tt)
potentials_fault Two n k j ws rest Shape h = Fails h refl
potentials_fault Two n k j ws rest Number h = Holds h.0 (Unspelled (λ runs fits is. h.2 (kinds.Steps j (flat_map run_numbers runs)) (runs, refl, refl, fits, is)) refl)
potentials_fault Two n k j ws rest Name h = absurd (h.1 tt)

pub fault_says : (due : Reading) (ws : Words) (fault : LineFault) → IsFaultOf (expect_of due) ws fault → Says due ws (Refuses (reason_for fault))
fault_says Form ws Shape h = Unspelled (λ form fits is. h (form, is)) refl
fault_says Form ws Number h = absurd (h.2 (kinds.Form h.0.0) h.0.1)
fault_says Form ws Name h = absurd (h.1 tt)
fault_says (Sizes form) ws Shape h = Fails h refl
fault_says (Sizes form) ws Number h = Holds h.0 (Unspelled (λ z fits is. h.2 (kinds.Size z) (fits, is)) refl)
fault_says (Sizes form) ws Name h = absurd (h.1 tt)
fault_says (Places o k i) ws Shape h = Fails h refl
fault_says (Places o k i) ws Number h = absurd (h.2 (kinds.Place h.1.0) (h.1.1, h.1.2))
fault_says (Places o k i) ws Name h = Holds h.0 (Unspelled (λ name fits is. h.1 (name, fits, is)) refl)
fault_says (Travels o k i) ws Shape h = Fails h refl
fault_says (Travels o k i) ws Number h = Holds h.0 (Unspelled (λ row fits is. h.2 (kinds.Travel (map pos row)) (row, refl, fits, is)) refl)
fault_says (Travels o k i) ws Name h = absurd (h.1 tt)
fault_says (Teams o k i) ws Shape h = Fails h refl
fault_says (Teams o k i) ws Number h = Holds h.0 (Holds h.1 (Unspelled (λ p fits is. h.2 (kinds.Team p.0.name p.0.home p.0.from p.0.until (map pos p.1))
    (p.1, refl, record { name = fits.name; home = fits.home; from = fits.from; until = fits.until; none = refl; skills = fits.skills }, is)) refl))
fault_says (Teams o k i) ws Name h = Holds h.0 (Fails h.1 refl)
fault_says (Tasks o k i) ws Shape h = Fails h refl
fault_says (Tasks o k i) ws Number h = Holds h.0 (Holds h.1 (Unspelled (λ p fits is. h.2 (kinds.Task p.0.name p.0.place p.0.earliest p.0.latest p.0.minutes p.0.teams (map pos p.1))
    (p.1, refl, record { name = fits.name; place = fits.place; earliest = fits.earliest; latest = fits.latest; some_minutes = fits.some_minutes; minutes = fits.minutes; teams = fits.teams; none = refl; skills = fits.skills }, is)) refl))
fault_says (Tasks o k i) ws Name h = Holds h.0 (Fails h.1 refl)
fault_says (Frozens o i) ws Shape h = Fails h refl
fault_says (Frozens o i) ws Number h = Holds h.0 (Unspelled (λ count fits is. h.2 (kinds.Frozen count) (fits, is)) refl)
fault_says (Frozens o i) ws Name h = absurd (h.1 tt)
fault_says (Keeps o k from i) ws Shape h = Fails h refl
fault_says (Keeps o k from i) ws Number h = Holds h.0 (Unspelled (λ p fits is. h.2 (kinds.Keep p.0 p.1.start (map pos p.1.teams))
    (p.1.teams, refl, record { task = fits.task; start = fits.start; teams = fits.teams }, is)) refl)
fault_says (Keeps o k from i) ws Name h = absurd (h.1 tt)
fault_says (Pools form i budget) ws Shape h = Fails h refl
fault_says (Pools form i budget) ws Number h = Holds h.0 (Unspelled (λ p fits is. h.2 (kinds.Pool (pos p.0) (pos p.1)) (p.0, p.1, refl, refl, fits.0, fits.1, is)) refl)
fault_says (Pools form i budget) ws Name h = absurd (h.1 tt)
fault_says (Routes b k) ws Shape h = Fails h refl
fault_says (Routes b k) ws Number h = Holds h.0 (Unspelled (λ r fits is. h.2 (kinds.Route r.team (map pos (flat_map visit_numbers r.visits)))
    (r.visits, refl, record { team = fits.team; some = fits.some; tasks = fits.tasks; starts = fits.starts }, is)) refl)
fault_says (Routes b k) ws Name h = absurd (h.1 tt)
fault_says (Plans b) ws Shape h = Fails h refl
fault_says (Plans b) ws Number h = Holds h.0 (Unspelled (λ p fits is. h.2 (kinds.Plan p.0 p.1) (fits.0, fits.1, is)) refl)
fault_says (Plans b) ws Name h = absurd (h.1 tt)
fault_says (Jobs b k from) ws Shape h = Fails h refl
fault_says (Jobs b k from) ws Number h = Holds h.0 (Unspelled (λ p fits is. h.2 (kinds.Job p.0 p.1.start (map pos p.1.teams))
    (p.1.teams, refl, record { task = fits.task; start = fits.start; teams = fits.teams }, is)) refl)
fault_says (Jobs b k from) ws Name h = absurd (h.1 tt)
fault_says (Trees b) ws Shape h = Fails h refl
fault_says (Trees b) ws Number h = Holds h.0 (Unspelled (λ c fits is. h.2 (kinds.Tree c) (fits, is)) refl)
fault_says (Trees b) ws Name h = absurd (h.1 tt)
fault_says (Nodes b c above) ws Shape h = elim (begins (codes "window") ws) [
  | inl w ↦ Then w (Fails (λ s. h (WindowShape s)) refl)
  | inr w ↦ Else w (elim (begins (codes "pair") ws) [
    | inl p ↦ Then p (Fails (λ s. h (PairShape s)) refl)
    | inr p ↦ Else p (elim (is_pair (codes "leaf") ws) [
      | inl s ↦ Holds s (Else (λ e. h (BareShape e)) (Else (λ e. h (OpenShape e)) (Fails (λ e. h (ClosedShape e)) refl)))
      | inr s ↦ Fails s refl
    ])
  ])
]
fault_says (Nodes b c above) ws Number h = at h.0
  where
    at : HasNodeShape ws → Says (Nodes b c above) ws (Refuses (reason_for Number))
    at (WindowShape s) = Then (s.0, s.1) (Holds s (Unspelled (λ p fits is. h.2 (kinds.Window p.0 p.1) (fits.0, fits.1, is)) refl))
    at (PairShape s) = Else (not_both (codes "pair") (codes "window") ws pair_not_window (s.0, s.1))
        (Then (s.0, s.1) (Holds s (Unspelled (λ p fits is. h.2 (kinds.Pair p.0 p.1) (fits.0, fits.1, is)) refl)))
    at (BareShape e) = absurd (h.2 kinds.LeafBare e)
    at (OpenShape e) = absurd (h.2 kinds.LeafOpen e)
    at (ClosedShape e) = absurd (h.2 kinds.LeafClosed e)
fault_says (Nodes b c above) ws Name h = absurd (h.1 tt)
fault_says (Whys p) ws Shape h = elim (begins_why (codes "loose") ws) [
  | inl w ↦ Then w (Fails (λ s. h (LooseShape s)) refl)
  | inr w ↦ Else w (elim (begins_why (codes "overflow") ws) [
    | inl o ↦ Then o (Fails (λ s. h (OverflowShape s)) refl)
    | inr o ↦ Else o (elim (begins_why (codes "spent") ws) [
      | inl s ↦ Then s (Fails (λ z. h (SpentShape z)) refl)
      | inr s ↦ Else s (Fails (λ e. h (NoneShape e)) refl)
    ])
  ])
]
fault_says (Whys p) ws Number h = at h.0
  where
    at : HasWhyShape ws → Says (Whys p) ws (Refuses (reason_for Number))
    at (NoneShape e) = absurd (h.2 kinds.WhyNone e)
    at (LooseShape s) = Then (s.0, s.1) (Holds s (Unspelled (λ z fits is. h.2 (kinds.WhyLoose z.0 z.1 z.2) (fits, is)) refl))
    at (OverflowShape s) = Else (λ b. one_why (codes "loose") (codes "overflow") ws (λ e. omega arith) b (_, s.4))
        (Then (_, s.4) (Holds s (Unspelled (λ z fits is. h.2 (kinds.WhyOverflow z.0 z.1) (fits, is)) refl)))
    at (SpentShape s) = Else (λ b. one_why (codes "loose") (codes "spent") ws (λ e. omega arith) b (s.0, s.1))
        (Else (λ b. one_why (codes "overflow") (codes "spent") ws (λ e. omega arith) b (s.0, s.1))
        (Then (s.0, s.1) (Holds s (Unspelled (λ now fits is. h.2 (kinds.WhySpent now) (fits, is)) refl))))
fault_says (Whys p) ws Name h = absurd (h.1 tt)
fault_says (Parts p now read left from) ws Shape h = Fails h refl
fault_says (Parts p now read left from) ws Number h = Holds h.0 (Unspelled (λ part fits is. h.2 (kinds.Share part.column part.parts) (read.whole, refl, record { known = fits.known; some = fits.some; most = fits.most }, is)) refl)
fault_says (Parts p now read left from) ws Name h = absurd (h.1 tt)
fault_says (Spares p now read) ws Shape h = Fails h refl
fault_says (Spares p now read) ws Number h = Holds h.0 (Unspelled (λ spare fits is. h.2 (kinds.Spare spare) (read.whole, refl, fits, is)) refl)
fault_says (Spares p now read) ws Name h = absurd (h.1 tt)
fault_says (Prices a) ws Shape h = Fails h refl
fault_says (Prices a) ws Number h = Holds h.0 (Unspelled (λ vs fits is. h.2 (kinds.Price vs) (fits, is)) refl)
fault_says (Prices a) ws Name h = absurd (h.1 tt)
fault_says (Extras a leaf j js) ws Shape h = Fails h refl
fault_says (Extras a leaf j js) ws Number h = Holds h.0 (Unspelled (λ vs fits is. h.2 (kinds.Extra j vs) (refl, fits, is)) refl)
fault_says (Extras a leaf j js) ws Name h = absurd (h.1 tt)
fault_says (Worths a leaf k) ws Shape h = Fails h refl
fault_says (Worths a leaf k) ws Number h = Holds h.0 (Unspelled (λ v fits is. h.2 (kinds.Worth v) (fits, is)) refl)
fault_says (Worths a leaf k) ws Name h = absurd (h.1 tt)
fault_says (Phis a leaf k table j js) ws fault h = potentials_fault a.begun.form (limits_of a) (length leaf.tables) j ws _ fault h
fault_says (Ends b c t) ws Shape h = Fails h refl
fault_says (Ends b c t) ws Number h = absurd (h.2 kinds.End h.0)
fault_says (Ends b c t) ws Name h = absurd (h.1 tt)
