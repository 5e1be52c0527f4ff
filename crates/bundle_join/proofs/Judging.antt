-- a text in memory, read as a dossier
use Rattle.std.proofs.Common.{◌≡◌, ◌++◌, ℕ, List, [], Option, Some, ap, subst, sym, refl, ◌∙◌, append-nil, arith}
use Rattle.std.proofs.lemmas.List.Elements.{All-nil}
use Rattle.crew_io.specs.Lines.{Reader, fresh_reader}
use Rattle.crew_terms.specs.declared.TheConstants.{LONGEST_INPUT}
use Rattle.cert_checker.specs.Checked.{Checked, IsWholeAt, fresh_checker, verdict_of}
use Rattle.cert_checker.specs.declared.checker.Verdict.{Verdict}
use Rattle.dossier_commands.specs.Input.{HasRead, IsBetween, IsNextDossier, no_front}
use Rattle.dossier_terms.specs.Dossier.{Dossier, IsGood}
use Rattle.dossier_terms.specs.Lines.{text_of}
use Rattle.dossier_terms.specs.Reading.{Form}

none_read : (input : List ℕ) → HasRead no_front input [] [] input Form
none_read input = record { text = refl; within = omega arith; good = All-nil _; each = All-nil _; leads = refl }

-- nothing is read yet
pub begins : (input : List ℕ) (reader : Reader) (left : Option (List ℕ)) (checker : Checked) → reader ≡ fresh_reader LONGEST_INPUT → left ≡ Some input → checker ≡ fresh_checker
    → IsBetween no_front input [] reader left checker
begins input reader left checker e l f =
    subst (IsBetween no_front input [] reader left) (sym f) (subst (λ x. IsBetween no_front input [] reader x fresh_checker) (sym l) (subst (λ r. IsBetween no_front input [] r (Some input) fresh_checker) (sym e) (record {
      rest = input;
      is = refl;
      read = none_read input;
      handed = refl;
      number = refl;
      ended = ((λ ended. absurd ended.1), (λ some. absurd (some refl)));
    })))

-- the dossier that is found is the one whose text it is
pub is_found : ((d e : Dossier) (x y : List ℕ) → IsGood d → IsGood e → text_of d ++ x ≡ text_of e ++ y → (d ≡ e) × (x ≡ y))
    → (input : List ℕ) (verdict : Verdict) (reader : Reader) (left : Option (List ℕ)) (checker : Checked) (d : Dossier) → IsGood d → input ≡ text_of d
    → (n : IsNextDossier no_front input [] verdict reader left checker) → IsWholeAt checker.at d × (verdict ≡ verdict_of d)
is_found one input verdict reader left checker d good is n =
    let e : text_of d ++ [] ≡ text_of n.dossier ++ n.between.rest =
    append-nil (text_of d) ∙ sym is ∙ n.between.read.text ∙ ap (λ x. x ++ n.between.rest) (append-nil (text_of n.dossier ++ []) ∙ append-nil (text_of n.dossier)) in
    let same = sym (one d n.dossier [] n.between.rest good n.true_yes.good e).0 in
    (subst (IsWholeAt checker.at) same n.whole, n.says ∙ ap verdict_of same)
