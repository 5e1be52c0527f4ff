-- columns that grow by one, and the routes of their numbers
use Rattle.std.proofs.Common.{◌≡◌, ◌<◌, ℕ, List, [], ◌∷◌, ◌++◌, length, All, Contains, sym, ap, subst, refl, ◌∙◌, append_assoc}
use Rattle.std.proofs.lemmas.List.{append-nil, get_or_append_left, get_or_push, map-append}
use Rattle.std.proofs.lemmas.List.Elements.{All-nil, All-cons, All-head, All-tail, All-append, Contains-push, Contains-get_or}
use Rattle.crew_terms.specs.Limits.{Limits, Route}
use Rattle.search_terms.specs.Earned.{AreLegalOf}
use Rattle.search_terms.specs.Earned.AreLegalOf.{None, Kept, Left}
use Rattle.search_terms.specs.Search.{Extends, IsColumn}
use Rattle.share_terms.specs.Shares.{IsRouteIn}
use Rattle.column_arena.specs.Columns.{IsAdded, column_of, no_column}
use Rattle.master_run.specs.State.{routes_of}
use Rattle.column_arena.specs.Columns.IsAdded.{Stood, Last}

-- a legal column more is a route more
pub legal_one : (n : Limits) (cs rs : List Route) (c : Route) → AreLegalOf n cs rs → IsRouteIn n c → AreLegalOf n (cs ++ c ∷ []) (rs ++ c ∷ [])
legal_one n cs rs c None is = Kept c is None
legal_one n cs rs c (Kept r legal rest) is = Kept r legal (legal_one n _ _ c rest is)
legal_one n cs rs c (Left r illegal rest) is = Left r illegal (legal_one n _ _ c rest is)

-- numbers name the same columns among more
pub routes_of-grown : (cs : List Route) (c : Route) (ids : List ℕ) → All (λ id. id < length cs) ids → routes_of (cs ++ c ∷ []) ids ≡ routes_of cs ids
routes_of-grown cs c [] known = refl
routes_of-grown cs c (id ∷ ids) known =
    ap (λ r. r ∷ routes_of (cs ++ c ∷ []) ids) (get_or_append_left cs (c ∷ []) no_column id (All-head (λ id. id < length cs) id ids known))
    ∙ ap (λ rs. column_of cs id ∷ rs) (routes_of-grown cs c ids (All-tail (λ id. id < length cs) id ids known))

-- the routes of the numbers with that of the last column
pub routes_of-last : (cs : List Route) (c : Route) (ids : List ℕ) → All (λ id. id < length cs) ids
    → routes_of (cs ++ c ∷ []) (ids ++ length cs ∷ []) ≡ routes_of cs ids ++ c ∷ []
routes_of-last cs c ids known =
    map-append (column_of (cs ++ c ∷ [])) ids (length cs ∷ [])
    ∙ ap (λ rs. rs ++ column_of (cs ++ c ∷ []) (length cs) ∷ []) (routes_of-grown cs c ids known)
    ∙ ap (λ r. routes_of cs ids ++ r ∷ []) (get_or_push cs c no_column (length cs) refl)

-- ---- columns only grow

pub extends_none : (n : Limits) (cs : List Route) → Extends n cs cs
extends_none n cs = record { added = []; all = sym (append-nil cs); routes = All-nil (IsColumn n) }

pub extends_more : (n : Limits) (a b c : List Route) → Extends n a b → Extends n b c → Extends n a c
extends_more n a b c h g = record {
  added = h.added ++ g.added;
  all = g.all ∙ ap (λ xs. xs ++ g.added) h.all ∙ append_assoc a h.added g.added;
  routes = All-append (IsColumn n) h.added g.added h.routes g.routes;
}

pub extends_added : (n : Limits) (cs more : List Route) (c : Route) (id : ℕ) → IsAdded cs c id more → IsColumn n c → Extends n cs more
extends_added n cs more c id (Stood known equal same) is = subst (Extends n cs) (sym same) (extends_none n cs)
extends_added n cs more c id (Last fresh number last) is = record { added = c ∷ []; all = last; routes = All-cons (IsColumn n) c [] is (All-nil (IsColumn n)) }

pub held_added : (cs more : List Route) (c : Route) (id : ℕ) → IsAdded cs c id more → Contains more c
held_added cs more c id (Stood known equal same) =
    subst (λ l. Contains l c) (sym same) (subst (Contains cs) equal (Contains-get_or cs id no_column known))
held_added cs more c id (Last fresh number last) = subst (λ l. Contains l c) (sym last) (Contains-push cs c)
