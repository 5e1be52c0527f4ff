-- how rules are met, and what follows from what they say
use Rattle.std.proofs.Common.{append_assoc, append-nil, suc, ◌≡◌, ◌<◌, ℕ, List, [], ◌∷◌, ◌++◌, length, ap, sym, ◌∙◌, subst}
use Rattle.std.specs.Prelude.{map}
use Rattle.dossier_terms.specs.declared.Reason.{Reason}
use Rattle.crew_terms.specs.Words.{Words}
use Rattle.dossier_terms.specs.Reading.{Reading, Answer, More, Whole}
use Rattle.dossier_terms.specs.Dossier.{Dossier}
use Rattle.dossier_terms.specs.Rules.{Must, Holds, Fails, MustEach, HoldsOfAll, FailsAt, MustBy, HoldsBy, FailsBy, When, Then, Else, MustSpell, Spelled, Unspelled, Goes, On}
use Rattle.dossier_terms.specs.Table.{Says, Reaches, Finishes, Finish}
use Rattle.dossier_laws.proofs.SoFar.{Follows}

-- ---- what follows from a line, if it follows from the facts of its rules

pub must_then : {P : Type 0} {r : Reason} {rest : Answer → Type 0} (s : Reading) (ws : Words) (said : Answer)
    → (P → rest said → Follows s ws said) → Must P r rest said → Follows s ws said
must_then s ws said k (Holds f o) = k f o
must_then s ws said k (Fails b t) = subst (Follows s ws) (sym t) tt

pub each_then : {n : ℕ} {P : ℕ → Type 0} {reason : ℕ → Reason} {rest : Answer → Type 0} (s : Reading) (ws : Words) (said : Answer)
    → (((j : ℕ) → j < n → P j) → rest said → Follows s ws said) → MustEach n P reason rest said → Follows s ws said
each_then s ws said k (HoldsOfAll f o) = k f o
each_then s ws said k (FailsAt j l first b t) = subst (Follows s ws) (sym t) tt

pub by_then : {P : Type 0} {Breaks : Reason → Type 0} {rest : Answer → Type 0} (s : Reading) (ws : Words) (said : Answer)
    → (P → rest said → Follows s ws said) → MustBy P Breaks rest said → Follows s ws said
by_then s ws said k (HoldsBy f o) = k f o
by_then s ws said k (FailsBy r how b t) = subst (Follows s ws) (sym t) tt

pub when_then : {P : Type 0} {yes no : Answer → Type 0} (s : Reading) (ws : Words) (said : Answer)
    → (P → yes said → Follows s ws said) → (no said → Follows s ws said) → When P yes no said → Follows s ws said
when_then s ws said k l (Then f o) = k f o
when_then s ws said k l (Else b o) = l o

pub spells_then : {A : Type 0} {spell : A → Words} {In : A → Type 0} {r : Reason} {rest : A → Answer → Type 0} (s : Reading) (ws : Words) (said : Answer)
    → ((a : A) → In a → ws ≡ spell a → rest a said → Follows s ws said) → MustSpell spell In ws r rest said → Follows s ws said
spells_then s ws said k (Spelled a i e o) = k a i e o
spells_then s ws said k (Unspelled b t) = subst (Follows s ws) (sym t) tt

pub goes_then : {next : Reading} (s : Reading) (ws : Words) (said : Answer) → Follows s ws (More next) → Goes next said → Follows s ws said
goes_then s ws said h (On e) = subst (Follows s ws) (sym e) h

pub finish_then : {d : Dossier} (s : Reading) (ws : Words) (said : Answer) → Follows s ws (Whole d) → Finishes d said → Follows s ws said
finish_then s ws said h (Finish e) = subst (Follows s ws) (sym e) h

-- ---- runs

pub reaches-append : (s : Reading) (xs : List Words) (m : Reading) (ys : List Words) (t : Reading) → Reaches s xs m → Reaches m ys t → Reaches s (xs ++ ys) t
reaches-append s [] m ys t h k = subst (λ z. Reaches z ys t) (sym h) k
reaches-append s (x ∷ xs) m ys t h k = (h.0, h.1, reaches-append h.0 xs m ys t h.2 k)

-- the lines of the items that are left lead through the states of the items so far
pub reaches_all : {A : Type 0} (line : A → Words) (state : List A → ℕ → Reading) (all : List A)
    → ((ys : List A) (x : A) (zs : List A) → all ≡ ys ++ x ∷ zs → Says (state ys (suc (length zs))) (line x) (More (state (ys ++ x ∷ []) (length zs))))
    → (ys zs : List A) → all ≡ ys ++ zs → Reaches (state ys (length zs)) (map line zs) (state all 0)
reaches_all line state all one ys [] e = ap (λ v. state v 0) (sym (e ∙ append-nil ys))
reaches_all line state all one ys (x ∷ zs) e = (
  state (ys ++ x ∷ []) (length zs),
  one ys x zs e,
  reaches_all line state all one (ys ++ x ∷ []) zs (e ∙ sym (append_assoc ys (x ∷ []) zs)),
)
