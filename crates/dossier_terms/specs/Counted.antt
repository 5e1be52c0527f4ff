-- laws of the numbers and the nodes of trees, of the words of routes, and of numbers in their ranges
use Rattle.std.proofs.Common.{◌≡◌, ◌≤◌, ◌+◌, ◌-◌, ◌*◌, ℕ, ℤ, List, [], ◌∷◌, length, refl, ◌∙◌, arith, length-append}
use Rattle.std.specs.Prelude.{pos, negsuc, ◌≤ℤ◌}
use Rattle.std.specs.List.{flat_map}
use Rattle.std.proofs.lemmas.Int.{ints}
use Rattle.crew_num.specs.Exact.{FitsI128}
use Rattle.crew_terms.specs.Branches.{LeafNode, SplitNode, Bare, Open, Closed, splits, closed, left_open, depth, split_of, side_of}
use Rattle.crew_terms.specs.Leaf.{IsPrice}
use Rattle.crew_terms.specs.Limits.{Limits, Route}
use Rattle.crew_terms.specs.Nodes.{child_instance}
use Rattle.crew_terms.specs.declared.Visit.{Visit}
use Rattle.crew_terms.specs.declared.TheConstants.{MOST_NUMBER}
use Rattle.dossier_terms.specs.Dossier.{Written, unshown, IsWorthNumber, IsSigned}
use Rattle.dossier_terms.specs.Causes.{Cause, NoCause, Loose, Overflowed, Spent, unshown_in}
use Rattle.dossier_terms.specs.Reading.{Above, limits_below}
use Rattle.dossier_terms.specs.Runs.{Run}
use Rattle.dossier_terms.specs.Lines.{visit_words, route_line, run_words, steps_line}
use Rattle.dossier_terms.specs.Ranges.{IsPairs}

-- a tree has one leaf more than splits
pub leaves_of : (t : Written) → closed t + left_open t ≡ splits t + 1
leaves_of (LeafNode Bare) = refl
leaves_of (LeafNode (Open leaf)) = refl
leaves_of (LeafNode (Closed leaf)) = refl
leaves_of (SplitNode split first second) = let a = leaves_of first in let b = leaves_of second in omega arith

-- it is no deeper than it has splits
pub depth_le : (t : Written) → depth t ≤ splits t
depth_le (LeafNode claim) = omega arith
depth_le (SplitNode split first second) = let a = depth_le first in let b = depth_le second in omega arith

-- a cause is unshown or not
pub unshown_le : (c : Cause) → unshown_in c ≤ 1
unshown_le NoCause = omega arith
unshown_le (Loose now shares) = omega arith
unshown_le (Overflowed now fault) = omega arith
unshown_le (Spent now) = omega arith

-- so no more splits are unshown than there are
pub unshown_fits : (t : Written) → unshown t ≤ splits t
unshown_fits (LeafNode claim) = omega arith
unshown_fits (SplitNode split first second) =
    let a = unshown_fits first in
    let b = unshown_fits second in
    let c = unshown_le split.cause in
    omega arith

-- each node is over the instance of the root
pub instance_below : (root : Limits) (above : List Above) → (limits_below root above).instance ≡ root.instance
instance_below root [] = refl
instance_below root (frame ∷ above) = child_instance (limits_below root above) (split_of frame).choice (side_of frame) ∙ instance_below root above

-- visits have two words each
pub visits_length : (vs : List Visit) → length (flat_map visit_words vs) ≡ 2 * length vs
visits_length [] = refl
visits_length (v ∷ vs) = let a = visits_length vs in omega (arith, length-append (visit_words v) (flat_map visit_words vs))

-- the words of a route have the shape of its line
pub route_pairs : (r : Route) → 1 ≤ length r.visits → IsPairs (route_line r)
route_pairs r some = let a = visits_length r.visits in (length r.visits - 1, omega arith)

-- runs have two words each
pub runs_length : (rs : List Run) → length (flat_map run_words rs) ≡ 2 * length rs
runs_length [] = refl
runs_length (r ∷ rs) = let a = runs_length rs in omega (arith, length-append (run_words r) (flat_map run_words rs))

-- the words of a line `steps` have the shape of such a line
pub steps_pairs : (j : ℕ) (rs : List Run) → 1 ≤ length rs → IsPairs (steps_line j rs)
steps_pairs j rs some = let a = runs_length rs in (length rs - 1, omega arith)

-- fits 64 bits, with a sign
pub record IsWide (z : ℤ) : Type 0 where
  pub least : negsuc MOST_NUMBER ≤ℤ z
  pub most : z ≤ℤ pos MOST_NUMBER

-- fits 128 bits, with a sign
pub record IsVast (z : ℤ) : Type 0 where
  pub least : negsuc 170141183460469231731687303715884105727 ≤ℤ z
  pub most : z ≤ℤ pos 170141183460469231731687303715884105727

-- a price fits 64 bits
pub price_wide : (z : ℤ) → IsPrice z → IsWide z
price_wide z h = let p = h.least in let q = h.most in record { least = omega (arith, ints); most = omega (arith, ints) }

-- a worth does
pub worth_wide : (z : ℤ) → IsWorthNumber z → IsWide z
worth_wide z h = let p = h.least in let q = h.most in record { least = omega (arith, ints); most = omega (arith, ints) }

-- a potential does
pub signed_wide : (z : ℤ) → IsSigned z → IsWide z
signed_wide z h = record { least = grind (arith, ints, h); most = grind (arith, ints, h) }

-- an operand fits 128 bits
pub vast : (z : ℤ) → FitsI128 z → IsVast z
vast z h = record { least = grind (arith, ints, h); most = grind (arith, ints, h) }
