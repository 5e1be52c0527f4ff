-- a line has one answer where a kind is due
use Rattle.std.proofs.Common.{◌≡◌, ◌≤◌, ◌<◌, [], ◌∷◌, ℕ, ℤ, pos, List, Result, Ok, Err, length, map, get_or, ap, sym, refl, ◌∙◌, subst, arith}
use Rattle.std.specs.Prelude.{codes, FitsSigned}
use Rattle.std.specs.Int.{w64}
use Rattle.std.specs.List.{AllByRecursion, flat_map}
use Rattle.std.specs.Fmt.{decimal, signed_decimal}
use Rattle.std.proofs.lemmas.Fmt.{decimal_injective, signed_decimal_injective}
use Rattle.std.proofs.lemmas.List.{length-map}
use Rattle.std.proofs.lemmas.List.Elements.{recursion_from_All}
use Rattle.crew_terms.specs.Words.{Words}
use Rattle.crew_terms.specs.Name.{IsName}
use Rattle.crew_terms.specs.Leaf.{IsPrice}
use Rattle.crew_terms.specs.declared.Visit.{Visit}
use Rattle.crew_terms.specs.declared.TreeCounts.{TreeCounts}
use Rattle.dossier_terms.specs.declared.Size.{Size}
use Rattle.dossier_terms.specs.Counted.{visits_length, runs_length}
use Rattle.dossier_terms.specs.Apart.{form_one}
use Rattle.crew_terms.specs.declared.TheConstants.{SKILLS, LAST_MINUTE}
use Rattle.cert_format.specs.declared.kinds.Expect.{Expect}
use Rattle.cert_format.specs.declared.kinds.Expect.TheVariants as expected
use Rattle.cert_format.specs.declared.kinds.LineKind.{LineKind}
use Rattle.cert_format.specs.declared.kinds.LineKind.TheVariants as kinds
use Rattle.line_in.specs.declared.faults.LineFault.{LineFault}
use Rattle.line_in.specs.declared.faults.LineFault.TheVariants.{Shape, Number, Name}
use Rattle.cert_format.specs.Lines.{IsFormLine, IsSizeLine, IsFrozenLine, IsKeepLine, IsStepsOf, IsPlaceLine, IsTimesLine, IsTeamOf, IsTaskOf, IsPoolLine, IsRouteOf, IsPlanLine, IsJobLine, IsTreeLine, IsNodeLine, IsPriceLine, IsExtraLine, IsWorthLine, IsPhiLine, IsEndLine, IsLineOf, WindowShape, PairShape, BareShape, OpenShape, ClosedShape, HasShape, HasNames, IsFaultOf, ReadsLine}
use Rattle.line_in.specs.Fields.{visit_numbers, run_numbers}
use Rattle.cert_format.specs.Counts.{HasCounts}
use Rattle.cert_format.proofs.LeafLines.{worth_fits}
use Rattle.line_in.proofs.PriceRanges.{price_fits}
use Rattle.line_in.proofs.Visits.{visits_map}
use Rattle.line_in.proofs.Runs.{runs_signed, runs_fit}
use Rattle.cert_format.proofs.CauseLines.{why_one, share_one, spare_one, why_shape}

-- ---- numbers have one spelling

abbrev IsWide : ℕ → Type 0
IsWide n = n < 18446744073709551616

wider : (past : ℕ) (ns : List ℕ) → past ≤ 4294967296 → AllByRecursion (λ n. n < past) ns → AllByRecursion IsWide ns
wider past [] few h = tt
wider past (n ∷ ns) few h = (omega (arith, h.0), wider past ns few h.1)

one_list : (ns ms : List ℕ) → AllByRecursion IsWide ns → AllByRecursion IsWide ms → map decimal ns ≡ map decimal ms → ns ≡ ms
one_list [] [] a b e = refl
one_list [] (m ∷ ms) a b e = absurd cc
one_list (n ∷ ns) [] a b e = absurd cc
one_list (n ∷ ns) (m ∷ ms) a b e =
    let f : decimal n ≡ decimal m = cc in
    let g : map decimal ns ≡ map decimal ms = cc in
    let p = decimal_injective n m (omega (arith, a.0)) (omega (arith, b.0)) f in
    let q = one_list ns ms a.1 b.1 g in
    cc

-- what follows the first word
behind : (w : List ℕ) (ws xs ys : Words) → ws ≡ w ∷ xs → ws ≡ w ∷ ys → xs ≡ ys
behind w ws xs ys e f = let g : w ∷ xs ≡ w ∷ ys = sym e ∙ f in cc

-- and the name after it
behind_name : (w x y : List ℕ) (ws xs ys : Words) → ws ≡ w ∷ x ∷ xs → ws ≡ w ∷ y ∷ ys → (x ≡ y) × (xs ≡ ys)
behind_name w x y ws xs ys e f = let g : w ∷ x ∷ xs ≡ w ∷ y ∷ ys = sym e ∙ f in (cc, cc)

-- ---- a line says one thing

form_line_one : (ws : Words) (a b : LineKind) → IsFormLine ws a → IsFormLine ws b → a ≡ b
form_line_one ws (kinds.Form a) (kinds.Form b) h g = ap kinds.Form (form_one a b (sym h ∙ g))
form_line_one ws (kinds.Form a) _ h g = absurd g
form_line_one ws _ _ h g = absurd h

end_one : (ws : Words) (a b : LineKind) → IsEndLine ws a → IsEndLine ws b → a ≡ b
end_one ws kinds.End kinds.End h g = refl
end_one ws kinds.End _ h g = absurd g
end_one ws _ _ h g = absurd h

same_sizes : (s r : Size) → s.teams ≡ r.teams → s.tasks ≡ r.tasks → s.places ≡ r.places → s.nodes ≡ r.nodes → s ≡ r
same_sizes s r teams tasks places nodes =
    ap (λ n. record s { teams = n }) teams ∙ ap (λ n. record s { teams = r.teams; tasks = n }) tasks
    ∙ ap (λ n. record r { places = n; nodes = s.nodes }) places ∙ ap (λ n. record r { nodes = n }) nodes

size_one : (ws : Words) (a b : LineKind) → IsSizeLine ws a → IsSizeLine ws b → a ≡ b
size_one ws (kinds.Size s) (kinds.Size r) (z, e) (y, f) =
    let same = one_list (s.teams ∷ s.tasks ∷ s.places ∷ s.nodes ∷ []) (r.teams ∷ r.tasks ∷ r.places ∷ r.nodes ∷ [])
    (omega (arith, z.teams), (omega (arith, z.tasks), (omega (arith, z.places), (omega (arith, z.nodes), tt))))
    (omega (arith, y.teams), (omega (arith, y.tasks), (omega (arith, y.places), (omega (arith, y.nodes), tt)))) (behind (codes "size") ws _ _ e f) in
    ap kinds.Size (same_sizes s r (cc) (cc) (cc) (cc))
size_one ws (kinds.Size s) _ h g = absurd g
size_one ws _ _ h g = absurd h

place_one : (ws : Words) (a b : LineKind) → IsPlaceLine ws a → IsPlaceLine ws b → a ≡ b
place_one ws (kinds.Place x) (kinds.Place y) (named, e) (other, f) = ap (λ (n : List ℕ). kinds.Place n) (behind_name (codes "place") x y ws [] [] e f).0
place_one ws (kinds.Place x) _ h g = absurd g
place_one ws _ _ h g = absurd h

minutes_wide : (ns : List ℕ) → AllByRecursion (λ t. t ≤ LAST_MINUTE) ns → AllByRecursion IsWide ns
minutes_wide [] h = tt
minutes_wide (n ∷ ns) h = (omega (arith, h.0), minutes_wide ns h.1)

times_one : (places : ℕ) (ws : Words) (a b : LineKind) → IsTimesLine places ws a → IsTimesLine places ws b → a ≡ b
times_one places ws (kinds.Travel u) (kinds.Travel v) (ns, p, t, e) (ms, q, s, f) =
    let same = one_list ns ms (minutes_wide ns (recursion_from_All (λ t. t ≤ LAST_MINUTE) ns t.minutes)) (minutes_wide ms (recursion_from_All (λ t. t ≤ LAST_MINUTE) ms s.minutes)) (behind (codes "travel") ws _ _ e f) in
    ap (λ (zs : List ℤ). kinds.Travel zs) (p ∙ ap (map pos) same ∙ sym q)
times_one places ws (kinds.Travel u) _ h g = absurd g
times_one places ws _ _ h g = absurd h

team_one : (places : ℕ) (ws : Words) (a b : LineKind) → places < 4294967296 → IsTeamOf places ws a → IsTeamOf places ws b → a ≡ b
team_one places ws (kinds.Team x h f u ks) (kinds.Team x' h' f' u' ks') few (ss, p, t, e) (rs, q, s, g) =
    let parts = behind_name (codes "team") x x' ws _ _ e g in
    let same = one_list (h ∷ f ∷ u ∷ ss) (h' ∷ f' ∷ u' ∷ rs)
    (omega (arith, t.home), (omega (arith, t.from), (omega (arith, t.until), wider SKILLS ss (omega arith) t.skills)))
    (omega (arith, s.home), (omega (arith, s.from), (omega (arith, s.until), wider SKILLS rs (omega arith) s.skills))) parts.1 in
    let skills : ss ≡ rs = cc in
    let numbers : ks ≡ ks' = p ∙ ap (map pos) skills ∙ sym q in
    let name = parts.0 in
    cc
team_one places ws (kinds.Team x h f u ks) _ few t s = absurd s
team_one places ws _ _ few t s = absurd t

task_one : (places : ℕ) (ws : Words) (a b : LineKind) → places < 4294967296 → IsTaskOf places ws a → IsTaskOf places ws b → a ≡ b
task_one places ws (kinds.Task x h f u d r ks) (kinds.Task x' h' f' u' d' r' ks') few (ss, p, t, e) (rs, q, s, g) =
    let parts = behind_name (codes "task") x x' ws _ _ e g in
    let same = one_list (h ∷ f ∷ u ∷ d ∷ r ∷ ss) (h' ∷ f' ∷ u' ∷ d' ∷ r' ∷ rs)
    (omega (arith, t.place), (omega (arith, t.earliest), (omega (arith, t.latest), (omega (arith, t.minutes), (omega (arith, t.teams.few), wider SKILLS ss (omega arith) t.skills)))))
    (omega (arith, s.place), (omega (arith, s.earliest), (omega (arith, s.latest), (omega (arith, s.minutes), (omega (arith, s.teams.few), wider SKILLS rs (omega arith) s.skills))))) parts.1 in
    let skills : ss ≡ rs = cc in
    let numbers : ks ≡ ks' = p ∙ ap (map pos) skills ∙ sym q in
    let name = parts.0 in
    cc
task_one places ws (kinds.Task x h f u d r ks) _ few t s = absurd s
task_one places ws _ _ few t s = absurd t

frozen_one : (most : ℕ) (ws : Words) (a b : LineKind) → most < 4294967296 → IsFrozenLine most ws a → IsFrozenLine most ws b → a ≡ b
frozen_one most ws (kinds.Frozen n) (kinds.Frozen m) few (p, e) (q, f) =
    let same = one_list (n ∷ []) (m ∷ []) (omega arith, tt) (omega arith, tt) (behind (codes "frozen") ws _ _ e f) in
    cc
frozen_one most ws (kinds.Frozen n) _ few h g = absurd g
frozen_one most ws _ _ few h g = absurd h

keep_one : (teams tasks : ℕ) (ws : Words) (a b : LineKind) → teams < 4294967296 → tasks < 4294967296 → IsKeepLine teams tasks ws a → IsKeepLine teams tasks ws b → a ≡ b
keep_one teams tasks ws (kinds.Keep j t ks) (kinds.Keep j' t' ks') some few (ns, p, h, e) (ms, q, g, f) =
    let same = one_list (j ∷ t ∷ ns) (j' ∷ t' ∷ ms)
    (omega (arith, h.task), (omega (arith, h.start), wider teams ns (omega arith) h.teams))
    (omega (arith, g.task), (omega (arith, g.start), wider teams ms (omega arith) g.teams)) (behind (codes "keep") ws _ _ e f) in
    let numbers : ns ≡ ms = cc in
    let known : ks ≡ ks' = p ∙ ap (map pos) numbers ∙ sym q in
    cc
keep_one teams tasks ws (kinds.Keep j t ks) _ some few h g = absurd g
keep_one teams tasks ws _ _ some few h g = absurd h

pool_one : (ws : Words) (a b : LineKind) → IsPoolLine ws a → IsPoolLine ws b → a ≡ b
pool_one ws (kinds.Pool u v) (kinds.Pool u' v') (k, c, p, q, few, less, e) (k', c', p', q', few', less', f) =
    let same = one_list (k ∷ c ∷ []) (k' ∷ c' ∷ []) (omega arith, (omega arith, tt)) (omega arith, (omega arith, tt)) (behind (codes "pool") ws _ _ e f) in
    let kept : k ≡ k' = cc in
    let routes : c ≡ c' = cc in
    let a : u ≡ u' = p ∙ ap pos kept ∙ sym p' in
    let b : v ≡ v' = q ∙ ap pos routes ∙ sym q' in
    cc
pool_one ws (kinds.Pool u v) _ h g = absurd g
pool_one ws _ _ h g = absurd h

visits_wide : (tasks : ℕ) (vs : List Visit) → tasks < 4294967296 → AllByRecursion (λ (v : Visit). v.task < tasks) vs → AllByRecursion (λ (v : Visit). v.start ≤ LAST_MINUTE) vs
    → AllByRecursion IsWide (flat_map visit_numbers vs)
visits_wide tasks [] few known starts = tt
visits_wide tasks (v ∷ vs) few known starts = (omega (arith, known.0), (omega (arith, starts.0), visits_wide tasks vs few known.1 starts.1))

route_one : (teams tasks : ℕ) (ws : Words) (a b : LineKind) → teams < 4294967296 → tasks < 4294967296 → IsRouteOf teams tasks ws a → IsRouteOf teams tasks ws b → a ≡ b
route_one teams tasks ws (kinds.Route k v) (kinds.Route l u) some few (vs, p, h, e) (us, q, g, f) =
    let spelled : map decimal (k ∷ flat_map visit_numbers vs) ≡ map decimal (l ∷ flat_map visit_numbers us) =
    ap (λ xs. decimal k ∷ xs) (sym (visits_map vs)) ∙ behind (codes "route") ws _ _ e f ∙ ap (λ xs. decimal l ∷ xs) (visits_map us) in
    let same = one_list (k ∷ flat_map visit_numbers vs) (l ∷ flat_map visit_numbers us)
    (omega (arith, h.team), visits_wide tasks vs few h.tasks h.starts) (omega (arith, g.team), visits_wide tasks us few g.tasks g.starts) spelled in
    let numbers : flat_map visit_numbers vs ≡ flat_map visit_numbers us = cc in
    let visits : v ≡ u = p ∙ ap (map pos) numbers ∙ sym q in
    cc
route_one teams tasks ws (kinds.Route k v) _ some few h g = absurd g
route_one teams tasks ws _ _ some few h g = absurd h

plan_one : (tasks : ℕ) (ws : Words) (a b : LineKind) → tasks < 4294967296 → IsPlanLine tasks ws a → IsPlanLine tasks ws b → a ≡ b
plan_one tasks ws (kinds.Plan u l) (kinds.Plan u' l') few (p, q, e) (p', q', f) =
    let same = one_list (u ∷ l ∷ []) (u' ∷ l' ∷ []) (omega arith, (omega arith, tt)) (omega arith, (omega arith, tt)) (behind (codes "plan") ws _ _ e f) in
    cc
plan_one tasks ws (kinds.Plan u l) _ few h g = absurd g
plan_one tasks ws _ _ few h g = absurd h

job_one : (teams tasks : ℕ) (ws : Words) (a b : LineKind) → teams < 4294967296 → tasks < 4294967296 → IsJobLine teams tasks ws a → IsJobLine teams tasks ws b → a ≡ b
job_one teams tasks ws (kinds.Job j t ks) (kinds.Job j' t' ks') some few (ns, p, h, e) (ms, q, g, f) =
    let same = one_list (j ∷ t ∷ ns) (j' ∷ t' ∷ ms)
    (omega (arith, h.task), (omega (arith, h.start), wider teams ns (omega arith) h.teams))
    (omega (arith, g.task), (omega (arith, g.start), wider teams ms (omega arith) g.teams)) (behind (codes "do") ws _ _ e f) in
    let numbers : ns ≡ ms = cc in
    let known : ks ≡ ks' = p ∙ ap (map pos) numbers ∙ sym q in
    cc
job_one teams tasks ws (kinds.Job j t ks) _ some few h g = absurd g
job_one teams tasks ws _ _ some few h g = absurd h

same_counts : (c d : TreeCounts) → c.splits ≡ d.splits → c.closed ≡ d.closed → c.left_open ≡ d.left_open → c.depth ≡ d.depth → c ≡ d
same_counts c d splits closed left_open depth =
    ap (λ n. record c { splits = n }) splits ∙ ap (λ n. record c { splits = d.splits; closed = n }) closed
    ∙ ap (λ n. record d { left_open = n; depth = c.depth }) left_open ∙ ap (λ n. record d { depth = n }) depth

tree_one : (ws : Words) (a b : LineKind) → IsTreeLine ws a → IsTreeLine ws b → a ≡ b
tree_one ws (kinds.Tree c) (kinds.Tree d) (z, e) (y, f) =
    let same = one_list (c.splits ∷ c.closed ∷ c.left_open ∷ c.depth ∷ []) (d.splits ∷ d.closed ∷ d.left_open ∷ d.depth ∷ [])
    (omega (arith, z.splits), (omega (arith, z.closed), (omega (arith, z.left_open), (omega (arith, z.depth), tt))))
    (omega (arith, y.splits), (omega (arith, y.closed), (omega (arith, y.left_open), (omega (arith, y.depth), tt)))) (behind (codes "tree") ws _ _ e f) in
    ap kinds.Tree (same_counts c d (cc) (cc) (cc) (cc))
tree_one ws (kinds.Tree c) _ h g = absurd g
tree_one ws _ _ h g = absurd h

-- the first byte of the first word, and of the second
abbrev first : Words → ℕ
first ws = get_or (get_or ws 0 []) 0 0

abbrev second : Words → ℕ
second ws = get_or (get_or ws 1 []) 0 0

node_one : (teams tasks : ℕ) (ws : Words) (a b : LineKind) → teams < 4294967296 → tasks < 4294967296 → IsNodeLine teams tasks ws a → IsNodeLine teams tasks ws b → a ≡ b
node_one teams tasks ws (kinds.Window j c) (kinds.Window j' c') some few (p, q, e) (p', q', f) =
    let same = one_list (j ∷ c ∷ []) (j' ∷ c' ∷ []) (omega arith, (omega arith, tt)) (omega arith, (omega arith, tt)) (behind (codes "window") ws _ _ e f) in
    cc
node_one teams tasks ws (kinds.Pair k j) (kinds.Pair k' j') some few (p, q, e) (p', q', f) =
    let same = one_list (k ∷ j ∷ []) (k' ∷ j' ∷ []) (omega arith, (omega arith, tt)) (omega arith, (omega arith, tt)) (behind (codes "pair") ws _ _ e f) in
    cc
node_one teams tasks ws kinds.LeafBare kinds.LeafBare some few h g = refl
node_one teams tasks ws kinds.LeafOpen kinds.LeafOpen some few h g = refl
node_one teams tasks ws kinds.LeafClosed kinds.LeafClosed some few h g = refl
node_one teams tasks ws (kinds.Window j c) (kinds.Pair k i) some few (p, q, h) (r, s, g) = let e = ap first (sym h ∙ g) in absurd (omega arith)
node_one teams tasks ws (kinds.Window j c) kinds.LeafBare some few (p, q, h) g = let e = ap first (sym h ∙ g) in absurd (omega arith)
node_one teams tasks ws (kinds.Window j c) kinds.LeafOpen some few (p, q, h) g = let e = ap first (sym h ∙ g) in absurd (omega arith)
node_one teams tasks ws (kinds.Window j c) kinds.LeafClosed some few (p, q, h) g = let e = ap first (sym h ∙ g) in absurd (omega arith)
node_one teams tasks ws (kinds.Pair k i) (kinds.Window j c) some few (p, q, h) (r, s, g) = let e = ap first (sym h ∙ g) in absurd (omega arith)
node_one teams tasks ws (kinds.Pair k i) kinds.LeafBare some few (p, q, h) g = let e = ap first (sym h ∙ g) in absurd (omega arith)
node_one teams tasks ws (kinds.Pair k i) kinds.LeafOpen some few (p, q, h) g = let e = ap first (sym h ∙ g) in absurd (omega arith)
node_one teams tasks ws (kinds.Pair k i) kinds.LeafClosed some few (p, q, h) g = let e = ap first (sym h ∙ g) in absurd (omega arith)
node_one teams tasks ws kinds.LeafBare (kinds.Window j c) some few h (r, s, g) = let e = ap first (sym h ∙ g) in absurd (omega arith)
node_one teams tasks ws kinds.LeafBare (kinds.Pair k i) some few h (r, s, g) = let e = ap first (sym h ∙ g) in absurd (omega arith)
node_one teams tasks ws kinds.LeafBare kinds.LeafOpen some few h g = let e = ap second (sym h ∙ g) in absurd (omega arith)
node_one teams tasks ws kinds.LeafBare kinds.LeafClosed some few h g = let e = ap second (sym h ∙ g) in absurd (omega arith)
node_one teams tasks ws kinds.LeafOpen (kinds.Window j c) some few h (r, s, g) = let e = ap first (sym h ∙ g) in absurd (omega arith)
node_one teams tasks ws kinds.LeafOpen (kinds.Pair k i) some few h (r, s, g) = let e = ap first (sym h ∙ g) in absurd (omega arith)
node_one teams tasks ws kinds.LeafOpen kinds.LeafBare some few h g = let e = ap second (sym h ∙ g) in absurd (omega arith)
node_one teams tasks ws kinds.LeafOpen kinds.LeafClosed some few h g = let e = ap second (sym h ∙ g) in absurd (omega arith)
node_one teams tasks ws kinds.LeafClosed (kinds.Window j c) some few h (r, s, g) = let e = ap first (sym h ∙ g) in absurd (omega arith)
node_one teams tasks ws kinds.LeafClosed (kinds.Pair k i) some few h (r, s, g) = let e = ap first (sym h ∙ g) in absurd (omega arith)
node_one teams tasks ws kinds.LeafClosed kinds.LeafBare some few h g = let e = ap second (sym h ∙ g) in absurd (omega arith)
node_one teams tasks ws kinds.LeafClosed kinds.LeafOpen some few h g = let e = ap second (sym h ∙ g) in absurd (omega arith)
node_one teams tasks ws (kinds.Window j c) _ some few h g = absurd g
node_one teams tasks ws (kinds.Pair k i) _ some few h g = absurd g
node_one teams tasks ws kinds.LeafBare _ some few h g = absurd g
node_one teams tasks ws kinds.LeafOpen _ some few h g = absurd g
node_one teams tasks ws kinds.LeafClosed _ some few h g = absurd g
node_one teams tasks ws _ _ some few h g = absurd h

signed_list : (us vs : List ℤ) → AllByRecursion (FitsSigned w64) us → AllByRecursion (FitsSigned w64) vs → map signed_decimal us ≡ map signed_decimal vs → us ≡ vs
signed_list [] [] a b e = refl
signed_list [] (v ∷ vs) a b e = absurd cc
signed_list (u ∷ us) [] a b e = absurd cc
signed_list (u ∷ us) (v ∷ vs) a b e =
    let f : signed_decimal u ≡ signed_decimal v = cc in
    let g : map signed_decimal us ≡ map signed_decimal vs = cc in
    let p = signed_decimal_injective u v a.0.sfits b.0.sfits f in
    let q = signed_list us vs a.1 b.1 g in
    cc

prices_fit : (vs : List ℤ) → AllByRecursion IsPrice vs → AllByRecursion (FitsSigned w64) vs
prices_fit [] h = tt
prices_fit (v ∷ vs) h = (price_fits v h.0, prices_fit vs h.1)

-- what follows the first two words
behind_two : (w x : List ℕ) (ws xs ys : Words) → ws ≡ w ∷ x ∷ xs → ws ≡ w ∷ x ∷ ys → xs ≡ ys
behind_two w x ws xs ys e f = let g : w ∷ x ∷ xs ≡ w ∷ x ∷ ys = sym e ∙ f in cc

price_one : (tasks : ℕ) (ws : Words) (a b : LineKind) → IsPriceLine tasks ws a → IsPriceLine tasks ws b → a ≡ b
price_one tasks ws (kinds.Price us) (kinds.Price vs) (h, e) (g, f) =
    ap (λ (zs : List ℤ). kinds.Price zs) (signed_list us vs (prices_fit us h.each) (prices_fit vs g.each) (behind (codes "price") ws _ _ e f))
price_one tasks ws (kinds.Price us) _ h g = absurd g
price_one tasks ws _ _ h g = absurd h

extra_one : (task count : ℕ) (ws : Words) (a b : LineKind) → IsExtraLine task count ws a → IsExtraLine task count ws b → a ≡ b
extra_one task count ws (kinds.Extra i us) (kinds.Extra j vs) (p, h, e) (q, g, f) =
    let same = signed_list us vs (prices_fit us h.each) (prices_fit vs g.each) (behind_two (codes "extra") (decimal task) ws _ _ e f) in
    cc
extra_one task count ws (kinds.Extra i us) _ h g = absurd g
extra_one task count ws _ _ h g = absurd h

worth_one : (ws : Words) (a b : LineKind) → IsWorthLine ws a → IsWorthLine ws b → a ≡ b
worth_one ws (kinds.Worth u) (kinds.Worth v) (h, e) (g, f) =
    let same = signed_list (u ∷ []) (v ∷ []) (worth_fits u h, tt) (worth_fits v g, tt) (behind (codes "worth") ws _ _ e f) in
    cc
worth_one ws (kinds.Worth u) _ h g = absurd g
worth_one ws _ _ h g = absurd h

phi_one : (task count : ℕ) (ws : Words) (a b : LineKind) → IsPhiLine task count ws a → IsPhiLine task count ws b → a ≡ b
phi_one task count ws (kinds.Phi i us) (kinds.Phi j vs) (p, h, e) (q, g, f) =
    let same = signed_list us vs h.each g.each (behind_two (codes "phi") (decimal task) ws _ _ e f) in
    cc
phi_one task count ws (kinds.Phi i us) _ h g = absurd g
phi_one task count ws _ _ h g = absurd h

steps_one : (task : ℕ) (ws : Words) (a b : LineKind) → IsStepsOf task ws a → IsStepsOf task ws b → a ≡ b
steps_one task ws (kinds.Steps i us) (kinds.Steps j vs) (rs, k, p, h, e) (qs, l, q, g, f) =
    let spelled : map signed_decimal (flat_map run_numbers rs) ≡ map signed_decimal (flat_map run_numbers qs) =
    sym (runs_signed rs) ∙ behind_two (codes "steps") (decimal task) ws _ _ e f ∙ runs_signed qs in
    let same = signed_list (flat_map run_numbers rs) (flat_map run_numbers qs) (runs_fit rs h.minutes h.numbers) (runs_fit qs g.minutes g.numbers) spelled in
    let pairs : us ≡ vs = k ∙ same ∙ sym l in
    cc
steps_one task ws (kinds.Steps i us) _ h g = absurd g
steps_one task ws _ _ h g = absurd h

one_kind : (expect : Expect) (ws : Words) (a b : LineKind) → HasCounts expect → IsLineOf expect ws a → IsLineOf expect ws b → a ≡ b
one_kind expected.Form ws a b few h g = form_line_one ws a b h g
one_kind expected.Size ws a b few h g = size_one ws a b h g
one_kind expected.Place ws a b few h g = place_one ws a b h g
one_kind (expected.Travel places) ws a b few h g = times_one places ws a b h g
one_kind (expected.Team places) ws a b few h g = team_one places ws a b (omega arith) h g
one_kind (expected.Task places) ws a b few h g = task_one places ws a b (omega arith) h g
one_kind (expected.Frozen most) ws a b few h g = frozen_one most ws a b (omega arith) h g
one_kind (expected.Keep teams tasks) ws a b few h g = keep_one teams tasks ws a b (omega arith) (omega arith) h g
one_kind expected.Pool ws a b few h g = pool_one ws a b h g
one_kind (expected.Route teams tasks) ws a b few h g = route_one teams tasks ws a b (omega arith) (omega arith) h g
one_kind (expected.Plan tasks) ws a b few h g = plan_one tasks ws a b (omega arith) h g
one_kind (expected.Job teams tasks) ws a b few h g = job_one teams tasks ws a b (omega arith) (omega arith) h g
one_kind expected.Tree ws a b few h g = tree_one ws a b h g
one_kind (expected.Node teams tasks) ws a b few h g = node_one teams tasks ws a b (omega arith) (omega arith) h g
one_kind (expected.Why tasks) ws a b few h g = why_one tasks ws a b (omega arith) h g
one_kind (expected.Share columns whole) ws a b few h g = share_one columns whole ws a b few.0 few.1 h g
one_kind (expected.Spare tasks whole) ws a b few h g = spare_one tasks whole ws a b few.1 h g
one_kind (expected.Price tasks) ws a b few h g = price_one tasks ws a b h g
one_kind (expected.Extra task count) ws a b few h g = extra_one task count ws a b h g
one_kind expected.Worth ws a b few h g = worth_one ws a b h g
one_kind (expected.Phi task count) ws a b few h g = phi_one task count ws a b h g
one_kind (expected.Steps task) ws a b few h g = steps_one task ws a b h g
one_kind expected.End ws a b few h g = end_one ws a b h g

-- ---- a line that is read has the shape and the names of its kind

abbrev Fits : Expect → Words → LineKind → Type 0
Fits expect ws kind = IsLineOf expect ws kind → HasShape expect ws × HasNames expect ws

form_fits : (ws : Words) (kind : LineKind) → Fits expected.Form ws kind
form_fits ws (kinds.Form form) h = ((form, h), tt)
form_fits ws _ h = absurd h

size_fits : (ws : Words) (kind : LineKind) → Fits expected.Size ws kind
size_fits ws (kinds.Size s) (z, is) = ((_, is, refl), tt)
size_fits ws _ h = absurd h

place_fits : (ws : Words) (kind : LineKind) → Fits expected.Place ws kind
place_fits ws (kinds.Place name) (named, is) = ((_, is, refl), (name, named, is))
place_fits ws _ h = absurd h

times_fits : (places : ℕ) (ws : Words) (kind : LineKind) → Fits (expected.Travel places) ws kind
times_fits places ws (kinds.Travel times) (row, e, fits, is) = ((map decimal row, is, length-map row decimal ∙ fits.count), tt)
times_fits places ws _ h = absurd h

has_name : (ws : Words) (w name : List ℕ) (rest : Words) → ws ≡ w ∷ name ∷ rest → IsName name → IsName (get_or ws 1 [])
has_name ws w name rest is named = subst (λ (xs : Words). IsName (get_or xs 1 [])) (sym is) named

team_fits : (places : ℕ) (ws : Words) (kind : LineKind) → Fits (expected.Team places) ws kind
team_fits places ws (kinds.Team name home from until skills) (ss, e, t, is) = ((_, is, omega arith), has_name ws (codes "team") name _ is t.name)
team_fits places ws _ h = absurd h

task_fits : (places : ℕ) (ws : Words) (kind : LineKind) → Fits (expected.Task places) ws kind
task_fits places ws (kinds.Task name place earliest latest minutes teams skills) (ss, e, t, is) = ((_, is, omega arith), has_name ws (codes "task") name _ is t.name)
task_fits places ws _ h = absurd h

frozen_fits : (most : ℕ) (ws : Words) (kind : LineKind) → Fits (expected.Frozen most) ws kind
frozen_fits most ws (kinds.Frozen count) (few, is) = ((_, is, refl), tt)
frozen_fits most ws _ h = absurd h

keep_fits : (teams tasks : ℕ) (ws : Words) (kind : LineKind) → Fits (expected.Keep teams tasks) ws kind
keep_fits teams tasks ws (kinds.Keep task start ks) (ns, e, job, is) = ((_, is, omega arith), tt)
keep_fits teams tasks ws _ h = absurd h

pool_fits : (ws : Words) (kind : LineKind) → Fits expected.Pool ws kind
pool_fits ws (kinds.Pool kept routes) (k, c, e, f, few, less, is) = ((_, is, refl), tt)
pool_fits ws _ h = absurd h

route_fits : (teams tasks : ℕ) (ws : Words) (kind : LineKind) → Fits (expected.Route teams tasks) ws kind
route_fits teams tasks ws (kinds.Route team visits) ([], e, route, is) = absurd (let some = route.some in omega arith)
route_fits teams tasks ws (kinds.Route team visits) (v ∷ vs, e, route, is) =
    let all = ap length is in
    let more = visits_length vs in
    (((_, is), (length vs, omega arith)), tt)
route_fits teams tasks ws _ h = absurd h

plan_fits : (tasks : ℕ) (ws : Words) (kind : LineKind) → Fits (expected.Plan tasks) ws kind
plan_fits tasks ws (kinds.Plan u l) (a, b, is) = ((_, is, refl), tt)
plan_fits tasks ws _ h = absurd h

job_fits : (teams tasks : ℕ) (ws : Words) (kind : LineKind) → Fits (expected.Job teams tasks) ws kind
job_fits teams tasks ws (kinds.Job task start ks) (ns, e, job, is) = ((_, is, omega arith), tt)
job_fits teams tasks ws _ h = absurd h

tree_fits : (ws : Words) (kind : LineKind) → Fits expected.Tree ws kind
tree_fits ws (kinds.Tree c) (z, is) = ((_, is, refl), tt)
tree_fits ws _ h = absurd h

node_fits : (teams tasks : ℕ) (ws : Words) (kind : LineKind) → Fits (expected.Node teams tasks) ws kind
node_fits teams tasks ws (kinds.Window task cut) (a, b, is) = (WindowShape (_, is, refl), tt)
node_fits teams tasks ws (kinds.Pair team task) (a, b, is) = (PairShape (_, is, refl), tt)
node_fits teams tasks ws kinds.LeafBare is = (BareShape is, tt)
node_fits teams tasks ws kinds.LeafOpen is = (OpenShape is, tt)
node_fits teams tasks ws kinds.LeafClosed is = (ClosedShape is, tt)
node_fits teams tasks ws _ h = absurd h

why_fits : (tasks : ℕ) (ws : Words) (kind : LineKind) → Fits (expected.Why tasks) ws kind
why_fits tasks ws kind h = (why_shape tasks ws kind h, tt)

share_fits : (columns : ℕ) (whole : ℤ) (ws : Words) (kind : LineKind) → Fits (expected.Share columns whole) ws kind
share_fits columns whole ws (kinds.Share column parts) (w, e, h, is) = ((_, is, refl), tt)
share_fits columns whole ws _ h = absurd h

spare_fits : (tasks : ℕ) (whole : ℤ) (ws : Words) (kind : LineKind) → Fits (expected.Spare tasks whole) ws kind
spare_fits tasks whole ws (kinds.Spare spare) (w, e, h, is) = ((map decimal spare, is, length-map spare decimal ∙ h.count), tt)
spare_fits tasks whole ws _ h = absurd h

price_line_fits : (tasks : ℕ) (ws : Words) (kind : LineKind) → Fits (expected.Price tasks) ws kind
price_line_fits tasks ws (kinds.Price vs) (h, is) = ((map signed_decimal vs, is, length-map vs signed_decimal ∙ h.count), tt)
price_line_fits tasks ws _ h = absurd h

extra_fits : (task count : ℕ) (ws : Words) (kind : LineKind) → Fits (expected.Extra task count) ws kind
extra_fits task count ws (kinds.Extra j vs) (e, h, is) = ((map signed_decimal vs, is, length-map vs signed_decimal ∙ h.count), tt)
extra_fits task count ws _ h = absurd h

worth_line_fits : (ws : Words) (kind : LineKind) → Fits expected.Worth ws kind
worth_line_fits ws (kinds.Worth v) (h, is) = ((_, is, refl), tt)
worth_line_fits ws _ h = absurd h

phi_fits : (task count : ℕ) (ws : Words) (kind : LineKind) → Fits (expected.Phi task count) ws kind
phi_fits task count ws (kinds.Phi j vs) (e, h, is) = ((map signed_decimal vs, is, length-map vs signed_decimal ∙ h.count), tt)
phi_fits task count ws _ h = absurd h

steps_fits : (task : ℕ) (ws : Words) (kind : LineKind) → Fits (expected.Steps task) ws kind
steps_fits task ws (kinds.Steps j pairs) ([], e, same, h, is) = absurd (let some = h.some in omega arith)
steps_fits task ws (kinds.Steps j pairs) (r ∷ rs, e, same, h, is) =
    let all = ap length is in
    let more = runs_length rs in
    (((_, is), (length rs, omega arith)), tt)
steps_fits task ws _ h = absurd h

end_fits : (ws : Words) (kind : LineKind) → Fits expected.End ws kind
end_fits ws kinds.End h = (h, tt)
end_fits ws _ h = absurd h

line_fits : (expect : Expect) (ws : Words) (kind : LineKind) → Fits expect ws kind
line_fits expected.Form ws kind = form_fits ws kind
line_fits expected.Size ws kind = size_fits ws kind
line_fits expected.Place ws kind = place_fits ws kind
line_fits (expected.Travel places) ws kind = times_fits places ws kind
line_fits (expected.Team places) ws kind = team_fits places ws kind
line_fits (expected.Task places) ws kind = task_fits places ws kind
line_fits (expected.Frozen most) ws kind = frozen_fits most ws kind
line_fits (expected.Keep teams tasks) ws kind = keep_fits teams tasks ws kind
line_fits expected.Pool ws kind = pool_fits ws kind
line_fits (expected.Route teams tasks) ws kind = route_fits teams tasks ws kind
line_fits (expected.Plan tasks) ws kind = plan_fits tasks ws kind
line_fits (expected.Job teams tasks) ws kind = job_fits teams tasks ws kind
line_fits expected.Tree ws kind = tree_fits ws kind
line_fits (expected.Node teams tasks) ws kind = node_fits teams tasks ws kind
line_fits (expected.Why tasks) ws kind = why_fits tasks ws kind
line_fits (expected.Share columns whole) ws kind = share_fits columns whole ws kind
line_fits (expected.Spare tasks whole) ws kind = spare_fits tasks whole ws kind
line_fits (expected.Price tasks) ws kind = price_line_fits tasks ws kind
line_fits (expected.Extra task count) ws kind = extra_fits task count ws kind
line_fits expected.Worth ws kind = worth_line_fits ws kind
line_fits (expected.Phi task count) ws kind = phi_fits task count ws kind
line_fits (expected.Steps task) ws kind = steps_fits task ws kind
line_fits expected.End ws kind = end_fits ws kind

-- ---- one answer

one_fault : (expect : Expect) (ws : Words) (a b : LineFault) → IsFaultOf expect ws a → IsFaultOf expect ws b → a ≡ b
one_fault expect ws Shape Shape h g = refl
one_fault expect ws Name Name h g = refl
one_fault expect ws Number Number h g = refl
one_fault expect ws Shape Name h g = absurd (h g.0)
one_fault expect ws Shape Number h g = absurd (h g.0)
one_fault expect ws Name Shape h g = absurd (g h.0)
one_fault expect ws Number Shape h g = absurd (g h.0)
one_fault expect ws Name Number h g = absurd (h.1 g.1)
one_fault expect ws Number Name h g = absurd (g.1 h.1)

not_both : (expect : Expect) (ws : Words) (kind : LineKind) (fault : LineFault) → IsLineOf expect ws kind → IsFaultOf expect ws fault → ⊥
not_both expect ws kind Shape h g = g (line_fits expect ws kind h).0
not_both expect ws kind Name h g = g.1 (line_fits expect ws kind h).1
not_both expect ws kind Number h g = g.2 kind h

pub one_answer : (expect : Expect) (ws : Words) (a b : Result LineKind LineFault) → HasCounts expect → ReadsLine expect ws a → ReadsLine expect ws b → a ≡ b
one_answer expect ws (Ok a) (Ok b) few h g = ap Ok (one_kind expect ws a b few h g)
one_answer expect ws (Ok a) (Err g) few h f = absurd (not_both expect ws a g h f)
one_answer expect ws (Err f) (Ok b) few h g = absurd (not_both expect ws b f g h)
one_answer expect ws (Err f) (Err g) few h k = ap Err (one_fault expect ws f g h k)
