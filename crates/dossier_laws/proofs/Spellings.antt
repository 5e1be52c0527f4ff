-- no two values have one spelling
use Rattle.std.proofs.Common.{◌≡◌, ◌<◌, ◌≤◌, ◌+◌, ◌-◌, ◌*◌, ℕ, suc, ℤ, pos, negsuc, List, [], ◌∷◌, drop, ap, sym, refl, ◌∙◌, arith, rules, true, false}
use Rattle.std.proofs.lemmas.Int.{ints}
use Rattle.std.specs.Prelude.{map, codes, ◌≤ℤ◌}
use Rattle.std.specs.List.{AllByRecursion, flat_map}
use Rattle.std.specs.Fmt.{decimal, signed_decimal}
use Rattle.std.specs.Str.{all_ascii_digits}
use Rattle.std.proofs.lemmas.Str.Parse.{IsNumeralModel, numerals_by_fold}
use Rattle.std.proofs.lemmas.Fmt.{decimal_injective, digits_decimal}
use Rattle.crew_terms.specs.Name.{IsName}
use Rattle.crew_terms.specs.Plan.{Job}
use Rattle.crew_terms.specs.declared.Team.{Team}
use Rattle.crew_terms.specs.declared.Task.{Task}
use Rattle.crew_terms.specs.declared.Visit.{Visit}
use Rattle.crew_terms.specs.declared.TheConstants.{LAST_MINUTE, MOST_PLACES, MOST_TASKS, MOST_TEAMS, SKILLS, MOST_NUMBER}
use Rattle.dossier_terms.specs.declared.Size.{Size}
use Rattle.dossier_terms.specs.Dossier.{IsWorthNumber, IsSigned}
use Rattle.crew_terms.specs.Limits.{Route}
use Rattle.crew_terms.specs.Leaf.{IsPrice}
use Rattle.dossier_terms.specs.Lines.{size_line, place_line, travel_line, team_words, task_words, pool_line, route_line, visit_words, plan_line, do_line, tree_line, window_line, pair_line, worth_line, frozen_line, keep_line, run_words, steps_line}
use Rattle.dossier_terms.specs.Runs.{Run}
use Rattle.crew_terms.specs.declared.TreeCounts.{TreeCounts}
use Rattle.dossier_terms.specs.Ranges.{IsSize, IsTravel, IsTeamLine, IsTaskLine, IsRouteLine, IsDoLine, IsCounts, AreNumbers, IsStepsLine}
use Rattle.dossier_terms.specs.Counted.{IsWide, price_wide, worth_wide, signed_wide}
use Rattle.std.proofs.lemmas.List.Elements.{recursion_from_All}

-- ---- numbers

pub dec : (m n : ℕ) → m < 18446744073709551616 → n < 18446744073709551616 → decimal m ≡ decimal n → m ≡ n
dec m n a b e = decimal_injective m n (omega arith) (omega arith) e

abbrev pub read_on : ℕ → List ℕ → ℕ
read_on n [] = n
read_on n (c ∷ cs) = read_on (10 * n + (c - 48)) cs

pub own : IsNumeralModel (λ ds. all_ascii_digits ds ≡ true) (read_on 0)
own = numerals_by_fold _ (search rules) read_on (search rules)

no_sign : (n : ℕ) (ds : List ℕ) → n < 18446744073709551616 → decimal n ≡ 45 ∷ ds → ⊥
no_sign n ds h e = let a : true ≡ false = sym (digits_decimal own n (omega arith)) ∙ ap all_ascii_digits e in absurd cc

small : (m : ℕ) → IsWide (pos m) → m < 18446744073709551616
small m a = let p : pos m ≤ℤ pos MOST_NUMBER = a.most in omega (arith, ints)

small_neg : (m : ℕ) → IsWide (negsuc m) → suc m < 18446744073709551616
small_neg m a = let p : negsuc MOST_NUMBER ≤ℤ negsuc m = a.least in omega (arith, ints)

pub sdec : (y z : ℤ) → IsWide y → IsWide z → signed_decimal y ≡ signed_decimal z → y ≡ z
sdec (pos m) (pos n) a b e = ap pos (dec m n (small m a) (small n b) e)
sdec (pos m) (negsuc n) a b e = absurd (no_sign m (decimal (suc n)) (small m a) e)
sdec (negsuc m) (pos n) a b e = absurd (no_sign n (decimal (suc m)) (small n b) (sym e))
sdec (negsuc m) (negsuc n) a b e =
    let f : decimal (suc m) ≡ decimal (suc n) = cc in
    let g : suc m ≡ suc n = dec (suc m) (suc n) (small_neg m a) (small_neg n b) f in
    ap negsuc (omega arith)

pub map_one : {A : Type 0} (f : A → List ℕ) (In : A → Type 0) → ((x y : A) → In x → In y → f x ≡ f y → x ≡ y)
    → (xs ys : List A) → AllByRecursion In xs → AllByRecursion In ys → map f xs ≡ map f ys → xs ≡ ys
map_one f In one [] [] h k e = refl
map_one f In one [] (y ∷ ys) h k e = absurd cc
map_one f In one (x ∷ xs) [] h k e = absurd cc
map_one f In one (x ∷ xs) (y ∷ ys) h k e =
    let a : f x ≡ f y = cc in
    let b : map f xs ≡ map f ys = cc in
    let c = one x y h.0 k.0 a in
    let d = map_one f In one xs ys h.1 k.1 b in
    cc

-- ---- lines

pub size_one : (x y : Size) → IsSize x → IsSize y → size_line x ≡ size_line y → x ≡ y
size_one x y a b e =
    let p = dec x.teams y.teams (omega (arith, a.teams)) (omega (arith, b.teams)) cc in
    let q = dec x.tasks y.tasks (omega (arith, a.tasks)) (omega (arith, b.tasks)) cc in
    let r = dec x.places y.places (omega (arith, a.places)) (omega (arith, b.places)) cc in
    let s = dec x.nodes y.nodes (omega (arith, a.nodes)) (omega (arith, b.nodes)) cc in
    ap (λ n. record x { teams = n }) p ∙ ap (λ n. record x { teams = y.teams; tasks = n }) q ∙ ap (λ n. record y { places = n; nodes = x.nodes }) r ∙ ap (λ n. record y { nodes = n }) s

pub name_one : (x y : List ℕ) → IsName x → IsName y → place_line x ≡ place_line y → x ≡ y
name_one x y a b e = cc

-- numbers that are at most a bound
small_one : (most : ℕ) → most < 18446744073709551616 → (m n : ℕ) → m ≤ most → n ≤ most → decimal m ≡ decimal n → m ≡ n
small_one most l m n a b e = dec m n (omega arith) (omega arith) e

below_one : (most : ℕ) → most < 18446744073709551616 → (m n : ℕ) → m < most → n < most → decimal m ≡ decimal n → m ≡ n
below_one most l m n a b e = dec m n (omega arith) (omega arith) e

pub travel_one : (places : ℕ) (x y : List ℕ) → IsTravel places x → IsTravel places y → travel_line x ≡ travel_line y → x ≡ y
travel_one places x y a b e = map_one decimal (λ t. t ≤ LAST_MINUTE) (small_one LAST_MINUTE (omega arith)) x y (recursion_from_All (λ t. t ≤ LAST_MINUTE) x a.minutes) (recursion_from_All (λ t. t ≤ LAST_MINUTE) y b.minutes) cc

pub team_one : (places : ℕ) → places ≤ MOST_PLACES → (x y : Team × List ℕ) → IsTeamLine places x → IsTeamLine places y → team_words x ≡ team_words y → x ≡ y
team_one places few x y a b e =
    let p = dec x.0.home y.0.home (omega (arith, a.home)) (omega (arith, b.home)) cc in
    let q = dec x.0.from y.0.from (omega (arith, a.from)) (omega (arith, b.from)) cc in
    let r = dec x.0.until y.0.until (omega (arith, a.until)) (omega (arith, b.until)) cc in
    let m : map decimal x.1 ≡ map decimal y.1 = cc in
    let s = map_one decimal (λ s. s < SKILLS) (below_one SKILLS (omega arith)) x.1 y.1 a.skills b.skills m in
    let n : x.0.name ≡ y.0.name = cc in
    let k : x.0.skills ≡ y.0.skills = a.none ∙ sym b.none in
    ap (λ (w : List ℕ). (record x.0 { name = w }, x.1)) n
    ∙ ap (λ (w : ℕ). (record x.0 { name = y.0.name; home = w }, x.1)) p
    ∙ ap (λ (w : ℕ). (record x.0 { name = y.0.name; home = y.0.home; from = w }, x.1)) q
    ∙ ap (λ (w : ℕ). (record y.0 { until = w; skills = x.0.skills }, x.1)) r
    ∙ ap (λ (w : ℕ). (record y.0 { skills = w }, x.1)) k
    ∙ ap (λ (w : List ℕ). (y.0, w)) s

pub task_one : (places : ℕ) → places ≤ MOST_PLACES → (x y : Task × List ℕ) → IsTaskLine places x → IsTaskLine places y → task_words x ≡ task_words y → x ≡ y
task_one places few x y a b e =
    let p = dec x.0.place y.0.place (omega (arith, a.place)) (omega (arith, b.place)) cc in
    let q = dec x.0.earliest y.0.earliest (omega (arith, a.earliest)) (omega (arith, b.earliest)) cc in
    let r = dec x.0.latest y.0.latest (omega (arith, a.latest)) (omega (arith, b.latest)) cc in
    let u = dec x.0.minutes y.0.minutes (omega (arith, a.minutes)) (omega (arith, b.minutes)) cc in
    let v = dec x.0.teams y.0.teams (omega (arith, a.teams)) (omega (arith, b.teams)) cc in
    let m : map decimal x.1 ≡ map decimal y.1 = cc in
    let s = map_one decimal (λ s. s < SKILLS) (below_one SKILLS (omega arith)) x.1 y.1 a.skills b.skills m in
    let n : x.0.name ≡ y.0.name = cc in
    let k : x.0.skills ≡ y.0.skills = a.none ∙ sym b.none in
    ap (λ (w : List ℕ). (record x.0 { name = w }, x.1)) n
    ∙ ap (λ (w : ℕ). (record x.0 { name = y.0.name; place = w }, x.1)) p
    ∙ ap (λ (w : ℕ). (record x.0 { name = y.0.name; place = y.0.place; earliest = w }, x.1)) q
    ∙ ap (λ (w : ℕ). (record x.0 { name = y.0.name; place = y.0.place; earliest = y.0.earliest; latest = w }, x.1)) r
    ∙ ap (λ (w : ℕ). (record y.0 { minutes = w; teams = x.0.teams; skills = x.0.skills }, x.1)) u
    ∙ ap (λ (w : ℕ). (record y.0 { teams = w; skills = x.0.skills }, x.1)) v
    ∙ ap (λ (w : ℕ). (record y.0 { skills = w }, x.1)) k
    ∙ ap (λ (w : List ℕ). (y.0, w)) s

-- a pair of numbers below a bound
pair_one : (x y : ℕ × ℕ) → x.0 < 18446744073709551616 → x.1 < 18446744073709551616 → y.0 < 18446744073709551616 → y.1 < 18446744073709551616
    → decimal x.0 ≡ decimal y.0 → decimal x.1 ≡ decimal y.1 → x ≡ y
pair_one x y a b c d e f = ap (λ (n : ℕ). (n, x.1)) (dec x.0 y.0 a c e) ∙ ap (λ (n : ℕ). (y.0, n)) (dec x.1 y.1 b d f)

pub pool_one : (x y : ℕ × ℕ) → (x.0 ≤ MOST_NUMBER) × (x.1 ≤ MOST_NUMBER) → (y.0 ≤ MOST_NUMBER) × (y.1 ≤ MOST_NUMBER)
    → pool_line x.0 x.1 ≡ pool_line y.0 y.1 → x ≡ y
pool_one x y a b e = pair_one x y (omega arith) (omega arith) (omega arith) (omega arith) (cc) (cc)

pub plan_one : (n : ℕ) → n ≤ MOST_TASKS → (x y : ℕ × ℕ) → (x.0 ≤ n) × (x.1 ≤ n) → (y.0 ≤ n) × (y.1 ≤ n) → plan_line x.0 x.1 ≡ plan_line y.0 y.1 → x ≡ y
plan_one n few x y a b e = pair_one x y (omega arith) (omega arith) (omega arith) (omega arith) (cc) (cc)

pub window_one : (n : ℕ) → n ≤ MOST_TASKS → (x y : ℕ × ℕ) → (x.0 < n) × (x.1 ≤ LAST_MINUTE) → (y.0 < n) × (y.1 ≤ LAST_MINUTE) → window_line x.0 x.1 ≡ window_line y.0 y.1 → x ≡ y
window_one n few x y a b e = pair_one x y (omega arith) (omega arith) (omega arith) (omega arith) (cc) (cc)

pub node_pair_one : (m n : ℕ) → m ≤ MOST_TEAMS → n ≤ MOST_TASKS → (x y : ℕ × ℕ) → (x.0 < m) × (x.1 < n) → (y.0 < m) × (y.1 < n) → pair_line x.0 x.1 ≡ pair_line y.0 y.1 → x ≡ y
node_pair_one m n few some x y a b e = pair_one x y (omega arith) (omega arith) (omega arith) (omega arith) (cc) (cc)

pub tree_one : (x y : TreeCounts) → IsCounts x → IsCounts y → tree_line x ≡ tree_line y → x ≡ y
tree_one x y a b e =
    let p = dec x.splits y.splits (omega (arith, a.splits)) (omega (arith, b.splits)) cc in
    let q = dec x.closed y.closed (omega (arith, a.closed)) (omega (arith, b.closed)) cc in
    let r = dec x.left_open y.left_open (omega (arith, a.left_open)) (omega (arith, b.left_open)) cc in
    let s = dec x.depth y.depth (omega (arith, a.depth)) (omega (arith, b.depth)) cc in
    ap (λ n. record x { splits = n }) p ∙ ap (λ n. record x { splits = y.splits; closed = n }) q ∙ ap (λ n. record y { left_open = n; depth = x.depth }) r ∙ ap (λ n. record y { depth = n }) s

visits_one : (n : ℕ) → n ≤ MOST_TASKS → (xs ys : List Visit) → AllByRecursion (λ (v : Visit). v.task < n) xs → AllByRecursion (λ (v : Visit). v.start ≤ LAST_MINUTE) xs
    → AllByRecursion (λ (v : Visit). v.task < n) ys → AllByRecursion (λ (v : Visit). v.start ≤ LAST_MINUTE) ys → flat_map visit_words xs ≡ flat_map visit_words ys → xs ≡ ys
visits_one n few [] [] a b c d e = refl
visits_one n few [] (y ∷ ys) a b c d e = absurd cc
visits_one n few (x ∷ xs) [] a b c d e = absurd cc
visits_one n few (x ∷ xs) (y ∷ ys) a b c d e =
    let p = dec x.task y.task (omega (arith, a.0)) (omega (arith, c.0)) cc in
    let q = dec x.start y.start (omega (arith, b.0)) (omega (arith, d.0)) cc in
    let f : flat_map visit_words xs ≡ flat_map visit_words ys = cc in
    let r = visits_one n few xs ys a.1 b.1 c.1 d.1 f in
    let v : x ≡ y = ap (λ (m : ℕ). record x { task = m }) p ∙ ap (λ (m : ℕ). record y { start = m }) q in
    ap (λ (w : Visit). w ∷ xs) v ∙ ap (λ ws. y ∷ ws) r

pub route_one : (m n : ℕ) → m ≤ MOST_TEAMS → n ≤ MOST_TASKS → (x y : Route) → IsRouteLine m n x → IsRouteLine m n y → route_line x ≡ route_line y → x ≡ y
route_one m n few some x y a b e =
    let p = dec x.team y.team (omega (arith, a.team)) (omega (arith, b.team)) cc in
    let f : flat_map visit_words x.visits ≡ flat_map visit_words y.visits = cc in
    let q = visits_one n some x.visits y.visits a.tasks a.starts b.tasks b.starts f in
    ap (λ (k : ℕ). record x { team = k }) p ∙ ap (λ vs. record y { visits = vs }) q

pub do_one : (m n : ℕ) → m ≤ MOST_TEAMS → n ≤ MOST_TASKS → (x y : ℕ × Job) → IsDoLine m n x → IsDoLine m n y → do_line x ≡ do_line y → x ≡ y
do_one m n few some x y a b e =
    let p = dec x.0 y.0 (omega (arith, a.task)) (omega (arith, b.task)) cc in
    let q = dec x.1.start y.1.start (omega (arith, a.start)) (omega (arith, b.start)) cc in
    let f : map decimal x.1.teams ≡ map decimal y.1.teams = cc in
    let r = map_one decimal (λ k. k < m) (below_one m (omega arith)) x.1.teams y.1.teams a.teams b.teams f in
    let v : x.1 ≡ y.1 = ap (λ (t : ℕ). record x.1 { start = t }) q ∙ ap (λ ks. record y.1 { teams = ks }) r in
    ap (λ (j : ℕ). (j, x.1)) p ∙ ap (λ (w : Job). (y.0, w)) v

pub prices_one : (n : ℕ) (x y : List ℤ) → AreNumbers IsPrice n x → AreNumbers IsPrice n y → map signed_decimal x ≡ map signed_decimal y → x ≡ y
prices_one n x y a b e = map_one signed_decimal IsPrice (λ u v h k. sdec u v (price_wide u h) (price_wide v k)) x y a.each b.each e

pub signed_one : (n : ℕ) (x y : List ℤ) → AreNumbers IsSigned n x → AreNumbers IsSigned n y → map signed_decimal x ≡ map signed_decimal y → x ≡ y
signed_one n x y a b e = map_one signed_decimal IsSigned (λ u v h k. sdec u v (signed_wide u h) (signed_wide v k)) x y a.each b.each e

pub worth_one : (x y : ℤ) → IsWorthNumber x → IsWorthNumber y → worth_line x ≡ worth_line y → x ≡ y
worth_one x y a b e = sdec x y (worth_wide x a) (worth_wide y b) cc

-- ---- what form 2 has besides

pub frozen_one : (n : ℕ) → n ≤ MOST_TASKS → (x y : ℕ) → x ≤ n → y ≤ n → frozen_line x ≡ frozen_line y → x ≡ y
frozen_one n few x y a b e = dec x y (omega arith) (omega arith) cc

pub keep_one : (m n : ℕ) → m ≤ MOST_TEAMS → n ≤ MOST_TASKS → (x y : ℕ × Job) → IsDoLine m n x → IsDoLine m n y → keep_line x ≡ keep_line y → x ≡ y
keep_one m n few some x y a b e = do_one m n few some x y a b (ap (λ ws. codes "do" ∷ drop 1 ws) e)

runs_one : (xs ys : List Run) → AllByRecursion (λ (r : Run). r.from ≤ LAST_MINUTE) xs → AllByRecursion (λ (r : Run). IsSigned r.value) xs
    → AllByRecursion (λ (r : Run). r.from ≤ LAST_MINUTE) ys → AllByRecursion (λ (r : Run). IsSigned r.value) ys → flat_map run_words xs ≡ flat_map run_words ys → xs ≡ ys
runs_one [] [] a b c d e = refl
runs_one [] (y ∷ ys) a b c d e = absurd cc
runs_one (x ∷ xs) [] a b c d e = absurd cc
runs_one (x ∷ xs) (y ∷ ys) a b c d e =
    let p = dec x.from y.from (omega (arith, a.0)) (omega (arith, c.0)) cc in
    let q = sdec x.value y.value (signed_wide x.value b.0) (signed_wide y.value d.0) cc in
    let f : flat_map run_words xs ≡ flat_map run_words ys = cc in
    let r = runs_one xs ys a.1 b.1 c.1 d.1 f in
    let v : x ≡ y = ap (λ (t : ℕ). record x { from = t }) p ∙ ap (λ (z : ℤ). record y { value = z }) q in
    ap (λ (w : Run). w ∷ xs) v ∙ ap (λ ws. y ∷ ws) r

pub steps_one : (j : ℕ) (x y : List Run) → IsStepsLine x → IsStepsLine y → steps_line j x ≡ steps_line j y → x ≡ y
steps_one j x y a b e = runs_one x y a.minutes a.numbers b.minutes b.numbers (ap (drop 2) e)
