-- routes that may be added to the columns, as one is added
use Rattle.std.proofs.Common.{◌≡◌, ◌≢◌, true, false, List, [], ◌∷◌, ◌++◌, length, get_or, sym, ◌∙◌, arith, true≢false}
use Rattle.std.specs.List.{list_any}
use Rattle.std.proofs.lemmas.List.Elements.{All-push}
use Rattle.std.proofs.lemmas.List.Folds.{list_any_at}
use Rattle.std.proofs.lemmas.List.Quantifiers.{all_pairs_push}
use Rattle.crew_terms.specs.Limits.{Limits, Route}
use Rattle.column_scout.specs.Fresh.{AreFresh}
use Rattle.route_terms.specs.Keys.{same_route}
use Rattle.route_terms.specs.KeyLaws.{same_route_decides}
use Rattle.route_terms.specs.Routes.{IsNew}
use Rattle.search_terms.specs.Search.{IsColumn}

pub none_same : (rs : List Route) (r : Route) → list_any (λ (o : Route). same_route o r) rs ≡ false → IsNew rs r
none_same rs r none k d below same =
    true≢false (sym (list_any_at (λ (o : Route). same_route o r) rs k d below ((same_route_decides (get_or rs k d) r).1 same)) ∙ none)

pub none_fresh : (n : Limits) (held : List Route) → AreFresh n held []
none_fresh n held = record {
  columns = λ k d l. absurd (omega arith);
  fresh = λ k d l. absurd (omega arith);
  apart = λ i j d l m. absurd (omega arith);
}

pub fresh_more : (n : Limits) (held rs : List Route) (r : Route) → AreFresh n held rs → IsColumn n r → IsNew held r → IsNew rs r → AreFresh n held (rs ++ r ∷ [])
fresh_more n held rs r fresh is new other = record {
  columns = All-push (IsColumn n) rs r fresh.columns is;
  fresh = All-push (IsNew held) rs r fresh.fresh new;
  apart = all_pairs_push (λ (a b : Route). a ≢ b) rs r fresh.apart other;
}
