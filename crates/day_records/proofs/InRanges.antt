-- the numbers of an entry that a record says lie in their ranges
use Rattle.std.proofs.Common.{◌≡◌, ◌≤◌, ◌<◌, ℕ, zero, suc, pos, List, [], ◌∷◌, Ok, Option, length, get_or, sym, subst, arith}
use Rattle.std.specs.Prelude.{All}
use Rattle.std.proofs.lemmas.Int.{ints}
use Rattle.crew_terms.specs.Words.{Words}
use Rattle.field_table.specs.Fields.{Accepts}
use Rattle.field_table.specs.declared.fields.Kind.{Kind}
use Rattle.day_terms.specs.Forms.{Form, form_of, place_form, travel_form, route_time_form, default_travel_form, team_form, task_form, cancel_form, move_form, longer_form, needs_form, sick_form, shift_form, skill_form, unskill_form, plan_form, now_form, thaw_form}
use Rattle.day_terms.specs.Forms.Slot.{Ranged}
use Rattle.day_terms.specs.Fields.{field_in, AllGive}
use Rattle.day_terms.specs.Ranges.{IsInRange}
use Rattle.day_terms.specs.Days.{ReadsRecord, SayEntries, IsDayOf}
use Rattle.day_terms.specs.Days.ReadsRecord.{OfNoKind, Miscounted, BadField, Good}
use Rattle.day_terms.specs.Days.ReadsRecords.{AllGood, StopsAt}
use Rattle.day_terms.specs.declared.RecordKind.{RecordKind}
use Rattle.day_terms.specs.declared.RecordKind.TheVariants as kinds
use Rattle.day_terms.specs.declared.Entry.{Entry}
use Rattle.day_terms.specs.declared.Refused.{Refused}

most : {kind : Kind} {low high n : ℕ} {word : List ℕ} → Accepts (field_in (Ranged kind low high)) word (pos n) → n ≤ high
most h = let a = h.high in omega (arith, ints)

least : {kind : Kind} {low high n : ℕ} {word : List ℕ} → Accepts (field_in (Ranged kind low high)) word (pos n) → low ≤ n
least h = let a = h.low in omega (arith, ints)

-- what such a record says is in range
abbrev KeepsRange : Form → Type 0
KeepsRange form = (fields : Words) (entry : Entry) → AllGive form.slots form.entry fields 1 entry → IsInRange entry

place_range : KeepsRange place_form
place_range fields entry (n1, named1, e) = subst IsInRange (sym e) (tt)

travel_range : KeepsRange travel_form
travel_range fields entry (n1, named1, (n2, named2, (m, given, e))) = subst IsInRange (sym e) (most given)

route_time_range : KeepsRange route_time_form
route_time_range fields entry (n1, named1, (n2, named2, (m, given, e))) = subst IsInRange (sym e) (most given)

default_travel_range : KeepsRange default_travel_form
default_travel_range fields entry (m, given, e) = subst IsInRange (sym e) (most given)

team_range : KeepsRange team_form
team_range fields entry (n1, named1, (n2, named2, (a, from, (b, until, (s, skills, e))))) = subst IsInRange (sym e) ((most from, most until))

task_range : KeepsRange task_form
task_range fields entry (n1, named1, (n2, named2, (a, from, (b, until, (m, lasts, (t, teams, (s, skills, e))))))) = subst IsInRange (sym e) (record { earliest_minute = most from; latest_minute = most until; duration = record { some = least lasts; day = most lasts }; count = most teams })

cancel_range : KeepsRange cancel_form
cancel_range fields entry (n1, named1, e) = subst IsInRange (sym e) (tt)

move_range : KeepsRange move_form
move_range fields entry (n1, named1, (a, from, (b, until, e))) = subst IsInRange (sym e) ((most from, most until))

longer_range : KeepsRange longer_form
longer_range fields entry (n1, named1, (m, lasts, e)) = subst IsInRange (sym e) (record { some = least lasts; day = most lasts })

needs_range : KeepsRange needs_form
needs_range fields entry (n1, named1, (t, teams, e)) = subst IsInRange (sym e) (most teams)

sick_range : KeepsRange sick_form
sick_range fields entry (n1, named1, e) = subst IsInRange (sym e) (tt)

shift_range : KeepsRange shift_form
shift_range fields entry (n1, named1, (a, from, (b, until, e))) = subst IsInRange (sym e) ((most from, most until))

skill_range : KeepsRange skill_form
skill_range fields entry (n1, named1, (t, given, e)) = subst IsInRange (sym e) (let m = most given in omega arith)

unskill_range : KeepsRange unskill_form
unskill_range fields entry (n1, named1, (t, given, e)) = subst IsInRange (sym e) (let m = most given in omega arith)

plan_range : KeepsRange plan_form
plan_range fields entry (t, given, e) = subst IsInRange (sym e) (most given)

now_range : KeepsRange now_form
now_range fields entry (t, given, e) = subst IsInRange (sym e) (most given)

thaw_range : KeepsRange thaw_form
thaw_range fields entry (n1, named1, e) = subst IsInRange (sym e) (tt)

all_ranges : (kind : RecordKind) → KeepsRange (form_of kind)
all_ranges kinds.Place = place_range
all_ranges kinds.Travel = travel_range
all_ranges kinds.RouteTime = route_time_range
all_ranges kinds.DefaultTravel = default_travel_range
all_ranges kinds.Team = team_range
all_ranges kinds.Task = task_range
all_ranges kinds.Cancel = cancel_range
all_ranges kinds.Move = move_range
all_ranges kinds.Longer = longer_range
all_ranges kinds.Needs = needs_range
all_ranges kinds.Sick = sick_range
all_ranges kinds.Shift = shift_range
all_ranges kinds.Skill = skill_range
all_ranges kinds.Unskill = unskill_range
all_ranges kinds.Plan = plan_range
all_ranges kinds.Now = now_range
all_ranges kinds.Thaw = thaw_range

pub said_range : (fields : Words) (entry : Entry) → ReadsRecord fields (Ok entry) → IsInRange entry
said_range fields entry (OfNoKind unknown is) = cc
said_range fields entry (Miscounted kind of miscounted is) = cc
said_range fields entry (BadField kind of counted fault first is) = cc
said_range fields entry (Good kind of counted own gives is) =
    let same : own ≡ entry = cc in
    subst IsInRange same (all_ranges kind fields own gives)

say_range : (rows : List Words) (entries : List Entry) → SayEntries rows entries → (k : ℕ) (d : Entry) → k < length entries → IsInRange (get_or entries k d)
say_range [] [] said k d within = absurd (omega arith)
say_range [] (e ∷ es) said k d within = absurd said
say_range (r ∷ rs) [] said k d within = absurd said
say_range (r ∷ rs) (e ∷ es) said zero d within = said_range r e said.0
say_range (r ∷ rs) (e ∷ es) said (suc k) d within = say_range rs es said.1 k d (omega arith)

-- so do those of a day
pub day_range : (text : List ℕ) (entries : List Entry) (stop : Option Refused) → IsDayOf text entries stop → All IsInRange entries
day_range text entries stop (AllGood said is) = say_range _ entries said
day_range text entries stop (StopsAt front bad back parts said cause refused is) = say_range front entries said
