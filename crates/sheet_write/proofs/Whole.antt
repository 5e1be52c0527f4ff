-- the parts of a sheet, one after another
use Rattle.std.proofs.Common.{◌≡◌, ◌++◌, ◌∷◌, [], ℕ, List, ap, sym, refl, ◌∙◌, append_assoc, append-nil}
use Rattle.std.proofs.lemmas.List.Concat.{flat_map-append}
use Rattle.crew_terms.specs.Limits.{root_limits}
use Rattle.crew_terms.specs.Words.{Words, line_text}
use Rattle.crew_io.specs.Fronts.{IsFront}
use Rattle.dossier_out.specs.Texts.{front_of, front_1, front_2, text}
use Rattle.dossier_terms.specs.Dossier.{Potentials}
use Rattle.dossier_terms.specs.Lines.{end_line, frozen_lines, instance_lines, instance_text, table_lines}
use Rattle.dossier_terms.specs.declared.DossierForm.TheVariants.{Two}
use Rattle.sheet_terms.specs.Lines.{bound_line, lines_of_sheet, minutes_lines, squeeze_line, text_of_sheet}
use Rattle.sheet_write.specs.Given.{SheetGiven}
use Rattle.sheet_write.specs.Sheets.{head_lines}
use Rattle.sheet_write.proofs.Good.{sheet_with}

module _ (g : SheetGiven) where
  -- ---- the lines before the prices

  abbrev first : List ℕ
  first = line_text squeeze_line

  abbrev instance : List ℕ
  instance = instance_text g.instance g.budget

  abbrev frozen : List ℕ
  frozen = text (frozen_lines Two g.instance.frozen)

  abbrev bound : List ℕ
  bound = line_text (bound_line g.bound)

  pub head_text : ((first ++ instance) ++ frozen) ++ bound ≡ text (head_lines g)
  head_text =
      let is = instance_lines g.instance g.budget in
      let fs = frozen_lines Two g.instance.frozen in
      ap (λ x. x ++ bound) (append_assoc first instance frozen)
      ∙ append_assoc first (instance ++ frozen) bound
      ∙ ap (λ x. first ++ (x ++ bound)) (sym (flat_map-append line_text is fs))
      ∙ ap (λ x. first ++ (text (is ++ fs) ++ x)) (sym (append-nil bound))
      ∙ ap (λ x. first ++ x) (sym (flat_map-append line_text (is ++ fs) (bound_line g.bound ∷ [])))

  pub head_front_1 : IsFront first (text (head_lines g))
  head_front_1 = front_2 first instance frozen bound _ (sym head_text)

  pub head_front_2 : IsFront (first ++ instance) (text (head_lines g))
  head_front_2 = front_1 (first ++ instance) frozen bound _ (sym head_text)

  pub head_front_3 : IsFront ((first ++ instance) ++ frozen) (text (head_lines g))
  head_front_3 = front_of ((first ++ instance) ++ frozen) bound _ (sym head_text)

  -- ---- the whole

  module _ (ts : List Potentials) where
    abbrev prices : List Words
    prices = minutes_lines g.instance 0 g.prices

    abbrev tables : List Words
    tables = table_lines Two (root_limits g.instance) 0 ts

    abbrev end : List ℕ
    end = line_text end_line

    lines_are : head_lines g ++ (prices ++ tables ++ end_line ∷ []) ≡ lines_of_sheet (sheet_with g ts)
    lines_are =
        ap (λ lines. squeeze_line ∷ lines)
        (append_assoc (instance_lines g.instance g.budget ++ frozen_lines Two g.instance.frozen) (bound_line g.bound ∷ []) (prices ++ tables ++ end_line ∷ []))

    pub sheet_text : ((text (head_lines g) ++ text prices) ++ text tables) ++ end ≡ text_of_sheet (sheet_with g ts)
    sheet_text =
        let h = text (head_lines g) in
        ap (λ x. x ++ end) (append_assoc h (text prices) (text tables))
        ∙ append_assoc h (text prices ++ text tables) end
        ∙ ap (λ x. h ++ (x ++ end)) (sym (flat_map-append line_text prices tables))
        ∙ ap (λ x. h ++ (text (prices ++ tables) ++ x)) (sym (append-nil end))
        ∙ ap (λ x. h ++ x) (sym (flat_map-append line_text (prices ++ tables) (end_line ∷ [])))
        ∙ sym (flat_map-append line_text (head_lines g) (prices ++ tables ++ end_line ∷ []))
        ∙ ap text lines_are

    pub front_of_head : IsFront (text (head_lines g)) (text_of_sheet (sheet_with g ts))
    front_of_head = front_2 (text (head_lines g)) (text prices) (text tables) end _ (sym sheet_text)

    pub front_of_prices : IsFront (text (head_lines g) ++ text prices) (text_of_sheet (sheet_with g ts))
    front_of_prices = front_1 (text (head_lines g) ++ text prices) (text tables) end _ (sym sheet_text)

    pub front_of_tables : IsFront ((text (head_lines g) ++ text prices) ++ text tables) (text_of_sheet (sheet_with g ts))
    front_of_tables = front_of ((text (head_lines g) ++ text prices) ++ text tables) end _ (sym sheet_text)
