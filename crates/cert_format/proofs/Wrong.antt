-- lines whose words no row accepts are no lines of their kind
use Rattle.std.proofs.Common.{◌≡◌, ◌<◌, ◌+◌, ◌+ℤ◌, ◌^◌, ◌++◌, [], ◌∷◌, ℕ, ℤ, pos, List, map, sym, refl, subst, arith}
use Rattle.std.specs.Prelude.{codes}
use Rattle.std.specs.Fmt.{decimal}
use Rattle.std.proofs.lemmas.Int.{ints}
use Rattle.crew_terms.specs.Words.{Words}
use Rattle.crew_terms.specs.Plan.{Job}
use Rattle.crew_terms.specs.declared.TheConstants.{MOST_PLACES, MOST_TEAMS, MOST_TASKS, LAST_MINUTE, MOST_NODES}
use Rattle.dossier_terms.specs.Rules.{IsShape}
use Rattle.dossier_terms.specs.Ranges.{IsDoLine}
use Rattle.field_table.specs.Fields.{AreValues}
use Rattle.field_table.specs.declared.fields.Field.{Field}
use Rattle.cert_format.specs.declared.kinds.LineKind.{LineKind}
use Rattle.cert_format.specs.declared.kinds.LineKind.TheVariants as kinds
use Rattle.cert_format.specs.Lines.{IsSizeLine, IsFrozenLine, IsKeepLine, IsPoolLine, IsPlanLine, IsJobLine, IsTreeLine, IsNodeLine}
use Rattle.line_in.proofs.Accepted.{number_field}
use Rattle.line_in.proofs.NoneRead.{NoneRead, none_of}
use Rattle.line_in.proofs.Rows.{apart}

abbrev pub size_fields : List Field
size_fields = number_field 0 (pos MOST_TEAMS) ∷ number_field 0 (pos MOST_TASKS) ∷ number_field 0 (pos MOST_PLACES) ∷ number_field 0 (pos MOST_NODES) ∷ []

pub size_wrong : (ws : Words) → NoneRead size_fields ws → (kind : LineKind) → IsSizeLine ws kind → ⊥
size_wrong ws none (kinds.Size s) (z, is) =
    let teams = z.teams in
    let tasks = z.tasks in
    let places = z.places in
    let nodes = z.nodes in
    none_of size_fields ws (codes "size") (s.teams ∷ s.tasks ∷ s.places ∷ s.nodes ∷ []) [] none (refl, omega (arith, ints), omega (arith, ints), omega arith, (refl, omega (arith, ints), omega (arith, ints), omega arith, (refl, omega (arith, ints), omega (arith, ints), omega arith, (refl, omega (arith, ints), omega (arith, ints), omega arith, tt)))) is
size_wrong ws none _ h = absurd h

abbrev pub tree_fields : List Field
tree_fields = number_field 0 (pos MOST_NODES) ∷ number_field 0 (pos MOST_NODES) ∷ number_field 0 (pos (MOST_NODES + 1)) ∷ number_field 0 (pos MOST_NODES) ∷ []

pub tree_wrong : (ws : Words) → NoneRead tree_fields ws → (kind : LineKind) → IsTreeLine ws kind → ⊥
tree_wrong ws none (kinds.Tree c) (z, is) =
    let splits = z.splits in
    let closed = z.closed in
    let left_open = z.left_open in
    let depth = z.depth in
    none_of tree_fields ws (codes "tree") (c.splits ∷ c.closed ∷ c.left_open ∷ c.depth ∷ []) [] none (refl, omega (arith, ints), omega (arith, ints), omega arith, (refl, omega (arith, ints), omega (arith, ints), omega arith, (refl, omega (arith, ints), omega (arith, ints), omega arith, (refl, omega (arith, ints), omega (arith, ints), omega arith, tt)))) is
tree_wrong ws none _ h = absurd h

abbrev pub pool_fields : List Field
pool_fields = number_field 0 (pos 9223372036854775807) ∷ number_field 0 (pos 9223372036854775807) ∷ []

pub pool_wrong : (ws : Words) → NoneRead pool_fields ws → (kind : LineKind) → IsPoolLine ws kind → ⊥
pool_wrong ws none (kinds.Pool kept routes) (k, c, e, f, few, less, is) =
    none_of pool_fields ws (codes "pool") (k ∷ c ∷ []) [] none (refl, omega (arith, ints), omega (arith, ints), omega arith, (refl, omega (arith, ints), omega (arith, ints), omega arith, tt)) is
pool_wrong ws none _ h = absurd h

pub frozen_wrong : (most : ℕ) (ws : Words) (high : ℤ) → high ≡ pos most → most < 2 ^ 32
    → NoneRead (number_field 0 high ∷ []) ws → (kind : LineKind) → IsFrozenLine most ws kind → ⊥
frozen_wrong most ws high e small none (kinds.Frozen count) (few, is) =
    none_of (number_field 0 high ∷ []) ws (codes "frozen") (count ∷ []) [] none (refl, omega (arith, ints), omega (arith, ints), omega arith, tt) is
frozen_wrong most ws high e small none _ h = absurd h

pub plan_wrong : (tasks : ℕ) (ws : Words) (most : ℤ) → most ≡ pos tasks → tasks < 2 ^ 32
    → NoneRead (number_field 0 most ∷ number_field 0 most ∷ []) ws → (kind : LineKind) → IsPlanLine tasks ws kind → ⊥
plan_wrong tasks ws most e small none (kinds.Plan u l) (a, b, is) =
    none_of (number_field 0 most ∷ number_field 0 most ∷ []) ws (codes "plan") (u ∷ l ∷ []) [] none (refl, omega (arith, ints), omega (arith, ints), omega arith, (refl, omega (arith, ints), omega (arith, ints), omega arith, tt)) is
plan_wrong tasks ws most e small none _ h = absurd h

-- a number below a count, and a minute
abbrev pub below_fields : ℤ → List Field
below_fields last = number_field 0 last ∷ number_field 0 (pos LAST_MINUTE) ∷ []

work_wrong : (w : List ℕ) (teams tasks : ℕ) (ws : Words) (last : ℤ) → last +ℤ pos 1 ≡ pos tasks → tasks < 2 ^ 32 → NoneRead (below_fields last) ws
    → (task : ℕ) (work : Job) → IsDoLine teams tasks (task, work) → ws ≡ w ∷ decimal task ∷ decimal work.start ∷ map decimal work.teams → ⊥
work_wrong w teams tasks ws last e small none task work job is =
    let a = job.task in
    let b = job.start in
    none_of (below_fields last) ws w (task ∷ work.start ∷ []) (map decimal work.teams) none (refl, omega (arith, ints), omega (arith, ints), omega arith, (refl, omega (arith, ints), omega (arith, ints), omega arith, tt)) is

pub job_wrong : (teams tasks : ℕ) (ws : Words) (last : ℤ) → last +ℤ pos 1 ≡ pos tasks → tasks < 2 ^ 32
    → NoneRead (below_fields last) ws → (kind : LineKind) → IsJobLine teams tasks ws kind → ⊥
job_wrong teams tasks ws last e small none (kinds.Job task start ks) (ns, f, job, is) = work_wrong (codes "do") teams tasks ws last e small none task (record { start = start; teams = ns }) job is
job_wrong teams tasks ws last e small none _ h = absurd h

pub keep_wrong : (teams tasks : ℕ) (ws : Words) (last : ℤ) → last +ℤ pos 1 ≡ pos tasks → tasks < 2 ^ 32
    → NoneRead (below_fields last) ws → (kind : LineKind) → IsKeepLine teams tasks ws kind → ⊥
keep_wrong teams tasks ws last e small none (kinds.Keep task start ks) (ns, f, job, is) = work_wrong (codes "keep") teams tasks ws last e small none task (record { start = start; teams = ns }) job is
keep_wrong teams tasks ws last e small none _ h = absurd h

pub window_wrong : (teams tasks : ℕ) (ws : Words) (last : ℤ) → last +ℤ pos 1 ≡ pos tasks → tasks < 2 ^ 32 → IsShape (codes "window") 2 ws
    → NoneRead (below_fields last) ws → (kind : LineKind) → IsNodeLine teams tasks ws kind → ⊥
window_wrong teams tasks ws last e small shape none (kinds.Window task cut) (a, b, is) =
    none_of (below_fields last) ws (codes "window") (task ∷ cut ∷ []) [] none (refl, omega (arith, ints), omega (arith, ints), omega arith, (refl, omega (arith, ints), omega (arith, ints), omega arith, tt)) is
window_wrong teams tasks ws last e small shape none (kinds.Pair team task) (a, b, is) = let f = apart ws (codes "window") (codes "pair") shape.0 _ shape.1 is in absurd (omega arith)
window_wrong teams tasks ws last e small shape none kinds.LeafBare is = let f = apart ws (codes "window") (codes "leaf") shape.0 _ shape.1 is in absurd (omega arith)
window_wrong teams tasks ws last e small shape none kinds.LeafOpen is = let f = apart ws (codes "window") (codes "leaf") shape.0 _ shape.1 is in absurd (omega arith)
window_wrong teams tasks ws last e small shape none kinds.LeafClosed is = let f = apart ws (codes "window") (codes "leaf") shape.0 _ shape.1 is in absurd (omega arith)
window_wrong teams tasks ws last e small shape none _ h = absurd h

pub pair_wrong : (teams tasks : ℕ) (ws : Words) (last_team last_task : ℤ) → last_team +ℤ pos 1 ≡ pos teams → last_task +ℤ pos 1 ≡ pos tasks → teams < 2 ^ 32 → tasks < 2 ^ 32
    → IsShape (codes "pair") 2 ws → NoneRead (number_field 0 last_team ∷ number_field 0 last_task ∷ []) ws → (kind : LineKind) → IsNodeLine teams tasks ws kind → ⊥
pair_wrong teams tasks ws lt lk e f small few shape none (kinds.Pair team task) (a, b, is) =
    none_of (number_field 0 lt ∷ number_field 0 lk ∷ []) ws (codes "pair") (team ∷ task ∷ []) [] none (refl, omega (arith, ints), omega (arith, ints), omega arith, (refl, omega (arith, ints), omega (arith, ints), omega arith, tt)) is
pair_wrong teams tasks ws lt lk e f small few shape none (kinds.Window task cut) (a, b, is) = let g = apart ws (codes "pair") (codes "window") shape.0 _ shape.1 is in absurd (omega arith)
pair_wrong teams tasks ws lt lk e f small few shape none kinds.LeafBare is = let g = apart ws (codes "pair") (codes "leaf") shape.0 _ shape.1 is in absurd (omega arith)
pair_wrong teams tasks ws lt lk e f small few shape none kinds.LeafOpen is = let g = apart ws (codes "pair") (codes "leaf") shape.0 _ shape.1 is in absurd (omega arith)
pair_wrong teams tasks ws lt lk e f small few shape none kinds.LeafClosed is = let g = apart ws (codes "pair") (codes "leaf") shape.0 _ shape.1 is in absurd (omega arith)
pair_wrong teams tasks ws lt lk e f small few shape none _ h = absurd h
