-- one more branch of a walk
use Rattle.std.proofs.Common.{◌≡◌, ◌<◌, ◌+◌, ◌++◌, ◌∙◌, ℕ, List, [], ◌∷◌, length, get_or, take, refl, ap, sym}
use Rattle.std.proofs.lemmas.List.{take_more}
use Rattle.crew_terms.specs.Tree.{child}
use Rattle.crew_terms.specs.declared.Choice.TheVariants as choices
use Rattle.crew_terms.specs.declared.Side.TheVariants.{First}
use Rattle.node_limits.specs.Trail.{Trail, changed}
use Rattle.node_limits.specs.declared.walks.Branch.{Branch}
use Rattle.node_limits.specs.Walks.{IsBack, walked}

abbrev pub no_branch : Branch
no_branch = record { choice = choices.Window 0 0; side = First }

-- the last branch is the last change
pub walked_on : (t : Trail) (branches : List Branch) (branch : Branch)
    → walked t (branches ++ branch ∷ []) ≡ changed (walked t branches) (child (walked t branches).limits branch.choice branch.side)
walked_on t [] branch = refl
walked_on t (x ∷ branches) branch = walked_on (changed t (child t.limits x.choice x.side)) branches branch

-- a change is taken back
pub one_back : (from old new : Trail) (path : List Branch) (m : ℕ) → m < length path → IsBack old (walked from (take (m + 1) path))
    → old.past ≡ new.limits ∷ new.past → IsBack new (walked from (take m path))
one_back from old new path m l back undone =
    let to : Trail = walked from (take m path) in
    let branch : Branch = get_or path m no_branch in
    let e : walked from (take (m + 1) path) ≡ changed to (child to.limits branch.choice branch.side) =
    ap (λ (x : List Branch). walked from x) (take_more path m no_branch l) ∙ walked_on from (take m path) branch in
    let past : new.limits ∷ new.past ≡ to.limits ∷ to.past = sym undone ∙ back.past ∙ ap (λ (x : Trail). x.past) e in
    record { limits = cc past; past = cc past }

-- the whole path, where none of it is left out
pub whole_path : (path : List Branch) (n : ℕ) → length path ≡ n → take n path ≡ path
whole_path [] n e = rw (sym e) refl
whole_path (x ∷ path) n e = ap (λ m. take m (x ∷ path)) (sym e) ∙ ap (λ (r : List Branch). x ∷ r) (whole_path path (length path) refl)
