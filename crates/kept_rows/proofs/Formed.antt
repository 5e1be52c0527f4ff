-- the numbers that are formed at a column
use Rattle.std.proofs.Common.{◌≡◌, ◌<◌, ◌∙◌, ℕ, List, length, get_or, ap, sym, subst, arith}
use Rattle.std.specs.Prelude.{ℤ}
use Rattle.crew_num.specs.declared.Overflow.{Overflow}
use Rattle.crew_num.specs.Exact.{FitsI128, StepsFit, IsFirstOf, IsOverflow}
use Rattle.search_terms.specs.Rows.{Row, number}
use Rattle.kept_rows.specs.Columns.{entry_in, full}
use Rattle.kept_rows.specs.Replacement.{IsFirstFault}
use Rattle.kept_rows.specs.declared.columns.Column.{Column}
use Rattle.kept_rows.proofs.Entries.{full_at, full_length}

pub formed_at : (columns : List Column) (row : Row) (i : ℕ) (d : Column) → i < length columns → d ≡ get_or columns i d → number (full columns row) i ≡ entry_in row d
formed_at columns row i d lt is = full_at columns row i d lt ∙ ap (entry_in row) (sym is)

pub formed_fits : (columns : List Column) (row : Row) (i : ℕ) (d : Column) → i < length columns → d ≡ get_or columns i d
    → ((j : ℕ) → j < length columns → FitsI128 (number (full columns row) j)) → FitsI128 (entry_in row d)
formed_fits columns row i d lt is all = subst FitsI128 (formed_at columns row i d lt is) (all i lt)

pub formed_steps : (columns : List Column) (row pivot : Row) (p e a b : ℤ) (i : ℕ) (d : Column) → i < length columns → d ≡ get_or columns i d
    → a ≡ entry_in row d → b ≡ entry_in pivot d → StepsFit p a e b → StepsFit p (number (full columns row) i) e (number (full columns pivot) i)
formed_steps columns row pivot p e a b i d lt is ea eb s =
    subst (λ y. StepsFit p (number (full columns row) i) e y) (eb ∙ sym (formed_at columns pivot i d lt is))
    (subst (λ x. StepsFit p x e b) (ea ∙ sym (formed_at columns row i d lt is)) s)

pub formed_fault : (columns : List Column) (row pivot : Row) (v : ℕ) (p e a b : ℤ) (i : ℕ) (d : Column) (f : Overflow) → i < length columns → d ≡ get_or columns i d
    → a ≡ entry_in row d → b ≡ entry_in pivot d → p ≡ number (full columns pivot) v → e ≡ number (full columns row) v
    → ((j : ℕ) → j < i → StepsFit p (number (full columns row) j) e (number (full columns pivot) j))
    → IsOverflow f → IsFirstOf p a e b f → IsFirstFault (full columns pivot) v (full columns row) f
formed_fault columns row pivot v p e a b i d f lt is ea eb ep ee before leaves how = record {
  at = i;
  known = omega (arith, lt, full_length columns row);
  earlier = λ j below. subst (λ q. StepsFit q (number (full columns row) j) (number (full columns row) v) (number (full columns pivot) j)) ep
      (subst (λ q. StepsFit p (number (full columns row) j) q (number (full columns pivot) j)) ee (before j below));
  leaves = leaves;
  how = subst (λ y. IsFirstOf (number (full columns pivot) v) (number (full columns row) i) (number (full columns row) v) y f) (eb ∙ sym (formed_at columns pivot i d lt is))
      (subst (λ x. IsFirstOf (number (full columns pivot) v) x (number (full columns row) v) b f) (ea ∙ sym (formed_at columns row i d lt is))
      (subst (λ q. IsFirstOf (number (full columns pivot) v) a q b f) ee (subst (λ q. IsFirstOf q a e b f) ep how)));
}
