-- the numbers of a tree, one by one
use Rattle.std.proofs.Common.{◌≡◌, ℕ, refl}
use Rattle.crew_terms.specs.declared.TreeCounts.{TreeCounts}

-- the four numbers
abbrev pub counts : ℕ → ℕ → ℕ → ℕ → TreeCounts
counts a b c d = record { splits = a; closed = b; left_open = c; depth = d }

-- where each is the same, all are
pub same_counts : (a b c d e f g h : ℕ) → a ≡ e → b ≡ f → c ≡ g → d ≡ h → counts a b c d ≡ counts e f g h
same_counts a b c d e f g h p q r s = rw (p, q, r, s) refl
