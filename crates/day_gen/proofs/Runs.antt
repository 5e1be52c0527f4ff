-- entries one after another, as they are added
use Rattle.std.proofs.Common.{◌≡◌, ◌<◌, ◌+◌, ◌-◌, ◌*◌, ◌++◌, ◌∷◌, [], ℕ, suc, List, length, drop, get_or, ap, refl, sym, ◌∙◌, append_assoc, drop-cons, add-one, arith}
use Rattle.rand_pcg.specs.Lcg.{Lcg}
use Rattle.day_terms.specs.declared.Entry.{Entry}
use Rattle.day_terms.specs.declared.Entry.TheVariants.{Place, Plan, Travel}
use Rattle.day_gen.specs.Draws.{draw, after, generator_of}
use Rattle.day_gen.specs.Day.{place_name, place_entries, ways, travel_entries, team_entry, team_entries, task_entry, task_draws, task_entries, generated_day}

-- what is in all, where the first of the rest is added
pub one_more : (all xs rest more : List Entry) (e : Entry) → all ≡ xs ++ rest → rest ≡ e ∷ more → all ≡ (xs ++ e ∷ []) ++ more
one_more all xs rest more e h r = h ∙ ap (λ l. xs ++ l) r ∙ sym (append_assoc xs (e ∷ []) more)

left : (k n : ℕ) → k < n → n - k ≡ suc (n - (k + 1))
left k n h = omega arith

pub place_more : (k n : ℕ) → k < n → place_entries k (n - k) ≡ Place (place_name k) ∷ place_entries (k + 1) (n - (k + 1))
place_more k n h = ap (place_entries k) (left k n h)

pub team_more : (k n : ℕ) (g : Lcg) → k < n → team_entries g k (n - k) ≡ team_entry g k ∷ team_entries (after 3 g) (k + 1) (n - (k + 1))
team_more k n g h = ap (team_entries g k) (left k n h)

pub task_more : (j n : ℕ) (g : Lcg) → j < n → task_entries g j (n - j) ≡ task_entry g j ∷ task_entries (after (task_draws g) g) (j + 1) (n - (j + 1))
task_more j n g h = ap (task_entries g j) (left j n h)

pub draws_more : (k n : ℕ) (g : Lcg) → k < n → after (3 * (n - k)) g ≡ after (3 * (n - (k + 1))) (after 3 g)
draws_more k n g h =
    let e : 3 * (n - k) ≡ suc (suc (suc (3 * (n - (k + 1))))) = omega (arith, left k n h) in
    ap (λ m. after m g) e

pub draw_more : (k : ℕ) (g : Lcg) → k < 15 → after (15 - k) g ≡ after (15 - (k + 1)) (after 1 g)
draw_more k g h = ap (λ m. after m g) (left k 15 h)

pub ways_are : length ways ≡ 15
unfolding ways
ways_are = refl

pub way_more : (k : ℕ) (g : Lcg) (d : ℕ × ℕ) → k < 15 → travel_entries g (drop k ways)
    ≡ Travel (place_name (get_or ways k d).0) (place_name (get_or ways k d).1) (5 + draw g 11) ∷ travel_entries (after 1 g) (drop (k + 1) ways)
way_more k g d h =
    let within : k < length ways = omega (arith, ways_are) in
    ap (travel_entries g) (drop-cons ways k d within) ∙ rw add-one refl

-- the entries as they are added, one kind after another
pub is_day : (number teams tasks nodes : ℕ) (g later last : Lcg) (none one two three four all : List Entry)
    → g ≡ generator_of number → none ≡ [] → one ≡ none ++ place_entries 0 6 → two ≡ one ++ travel_entries g ways → later ≡ after 15 g
    → three ≡ two ++ team_entries later 0 teams → last ≡ after (3 * teams) later → four ≡ three ++ task_entries last 0 tasks
    → all ≡ four ++ Plan nodes ∷ [] → all ≡ generated_day number teams tasks nodes
unfolding generated_day
is_day number teams tasks nodes g later last none one two three four all g_is none_is one_is two_is later_is three_is last_is four_is all_is =
    rw (all_is, four_is, last_is, three_is, later_is, two_is, one_is, none_is, g_is) refl
