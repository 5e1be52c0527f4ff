-- what was read of a day's text so far
use Rattle.std.proofs.Common.{◌≡◌, ◌+◌, ◌++◌, ℕ, List, [], ◌∷◌, None, Some, Ok, Err, length, refl, sym, subst, ap, ◌∙◌}
use Rattle.std.proofs.lemmas.Slice.Zip.{all_zipped_more, AllZip-long}
use Rattle.crew_terms.specs.Words.{Words}
use Rattle.csv.specs.Machine.{next_record}
use Rattle.csv.specs.Reading.{Reached, default_config, strip_bom}
use Rattle.csv.specs.declared.parser.State.{State}
use Rattle.csv.specs.declared.parser.State.TheVariants as st
use Rattle.day_terms.specs.Days.{SayEntries, ReadsRecord, IsDayOf}
use Rattle.day_terms.specs.Days.ReadsRecords.{AllGood, StopsAt}
use Rattle.day_terms.specs.declared.Entry.{Entry}
use Rattle.day_terms.specs.declared.DayCause.{DayCause}
use Rattle.day_records.proofs.Turns.{all_records, first_records}

-- these records were read, and said the entries; the reader is in this state, with these bytes to come
pub record HasTaken (text : List ℕ) (state : State) (rest : List ℕ) (entries : List Entry) : Type 0 where
  pub rows : List Words
  pub reached : Reached default_config st.StartRecord (strip_bom text) rows state rest
  pub said : SayEntries rows entries

pub taken_none : (text : List ℕ) (state : State) → state ≡ st.StartRecord → HasTaken text state (strip_bom text) []
unfolding Reached
taken_none text state is = record { rows = []; reached = (sym is, refl); said = tt }

-- the record says the entry
abbrev Says : Words → Entry → Type 0
Says row entry = ReadsRecord row (Ok entry)

-- one record more, which says an entry
pub taken_more : (text : List ℕ) (old new : State) (y z : List ℕ) (entries more : List Entry) (row : Words) (entry : Entry) (t : HasTaken text old y entries)
    → Reached default_config st.StartRecord (strip_bom text) (t.rows ++ row ∷ []) new z → ReadsRecord row (Ok entry) → more ≡ entries ++ entry ∷ []
    → HasTaken text new z more
taken_more text old new y z entries more row entry t reached said is =
    record { rows = t.rows ++ row ∷ []; reached = reached; said = subst (SayEntries (t.rows ++ row ∷ [])) (sym is) (all_zipped_more Says t.rows entries row entry t.said said) }

-- no record more
pub taken_all : (text : List ℕ) (state : State) (y : List ℕ) (entries told : List Entry) → HasTaken text state y entries → next_record default_config state [] [] y ≡ None → told ≡ entries
    → IsDayOf text told None
taken_all text state y entries told t none is =
    AllGood (subst (λ rows. SayEntries rows told) (sym (all_records (strip_bom text) y state t.rows t.reached none)) (subst (SayEntries t.rows) (sym is) t.said)) refl

-- a bad record
pub taken_bad : (text : List ℕ) (old new : State) (y z : List ℕ) (entries told : List Entry) (row : Words) (cause : DayCause) (count : ℕ) (t : HasTaken text old y entries)
    → Reached default_config st.StartRecord (strip_bom text) (t.rows ++ row ∷ []) new z → ReadsRecord row (Err cause) → told ≡ entries → count ≡ length entries
    → IsDayOf text told (Some (record { number = count + 1; cause = cause }))
taken_bad text old new y z entries told row cause count t reached bad is counted =
    let f = first_records (strip_bom text) z new t.rows row reached in
    let number : count ≡ length t.rows = counted ∙ AllZip-long Says t.rows entries t.said in
    StopsAt t.rows row f.0 f.1 (subst (SayEntries t.rows) (sym is) t.said) cause bad (ap (λ n. Some (record { number = n + 1; cause = cause })) number)
