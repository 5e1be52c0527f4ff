-- laws that tell words and lines from one another
use Rattle.std.proofs.Common.{◌≡◌, ℕ, List, [], ◌∷◌, ap, sym, refl, arith}
use Rattle.std.specs.Prelude.{codes, slice_index, slice_index_or}
use Rattle.crew_num.specs.declared.Op.{Op}
use Rattle.crew_num.specs.declared.Op.TheVariants.{Add, Sub, Mul}
use Rattle.crew_terms.specs.Words.{Words}
use Rattle.dossier_terms.specs.Lines.{form_line, op_word}
use Rattle.dossier_terms.specs.Rules.{Begins}
use Rattle.dossier_terms.specs.declared.DossierForm.{DossierForm}
use Rattle.dossier_terms.specs.declared.DossierForm.TheVariants.{One, Two}

-- a line doesn't begin with two words
pub not_both : (v w : List ℕ) (ws : Words) → (v ≡ w → ⊥) → Begins v ws → Begins w ws → ⊥
not_both v w ws differ a b = differ (let e = a.1 in let f = b.1 in cc)

-- these words are two
pub pair_not_window : codes "pair" ≡ codes "window" → ⊥
pair_not_window e = let f : ◌≡◌ {A = ℕ} 112 119 = cc in absurd (omega arith)

-- the first byte of word k
abbrev pub first_byte : ℕ → Words → ℕ
first_byte k ws = slice_index (slice_index_or ws k []) 0

-- a cause of another kind
pub other_why : (kind : List ℕ) (ws : Words) → (slice_index kind 0 ≡ first_byte 1 ws → ⊥) → (rest : Words) × (ws ≡ codes "why" ∷ kind ∷ rest) → ⊥
other_why kind ws other e = other (sym (ap (first_byte 1) e.1))

-- forms with one line are one
pub form_one : (x y : DossierForm) → form_line x ≡ form_line y → x ≡ y
form_one One One e = refl
form_one One Two e = absurd (let n : 49 ≡ 50 = ap (λ ws. slice_index_or (slice_index_or ws 2 []) 0 0) e in omega arith)
form_one Two One e = absurd (let n : 50 ≡ 49 = ap (λ ws. slice_index_or (slice_index_or ws 2 []) 0 0) e in omega arith)
form_one Two Two e = refl

-- the first letter of an operation
abbrev letter : Op → ℕ
letter op = slice_index_or (op_word op) 0 0

-- operations with one word are one
pub op_one : (x y : Op) → op_word x ≡ op_word y → x ≡ y
op_one Add Add e = refl
op_one Add Sub e = absurd (let l : letter Add ≡ letter Sub = ap (λ word. slice_index_or word 0 0) e in omega arith)
op_one Add Mul e = absurd (let l : letter Add ≡ letter Mul = ap (λ word. slice_index_or word 0 0) e in omega arith)
op_one Sub Add e = absurd (let l : letter Sub ≡ letter Add = ap (λ word. slice_index_or word 0 0) e in omega arith)
op_one Sub Sub e = refl
op_one Sub Mul e = absurd (let l : letter Sub ≡ letter Mul = ap (λ word. slice_index_or word 0 0) e in omega arith)
op_one Mul Add e = absurd (let l : letter Mul ≡ letter Add = ap (λ word. slice_index_or word 0 0) e in omega arith)
op_one Mul Sub e = absurd (let l : letter Mul ≡ letter Sub = ap (λ word. slice_index_or word 0 0) e in omega arith)
op_one Mul Mul e = refl
