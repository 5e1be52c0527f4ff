-- faults that are told, one after another
use Rattle.std.proofs.Common.{◌≡◌, ◌<◌, ◌≤◌, ◌+◌, ◌++◌, ◌∷◌, [], ℕ, List, length, get_or, take, map, sym, ap, subst, ◌∙◌, arith, append_assoc, append-nil}
use Rattle.std.specs.Prelude.{All}
use Rattle.std.proofs.lemmas.List.{map-append, take_more, take_all}
use Rattle.std.proofs.lemmas.List.Concat.{flat_map-append}
use Rattle.std.proofs.lemmas.List.Elements.{All-append}
use Rattle.crew_io.specs.Lines.{NoFeed}
use Rattle.day_faults.specs.declared.faults.Fault.{Fault}
use Rattle.day_faults.specs.declared.faults.FaultyRecord.{FaultyRecord}
use Rattle.day_explain.specs.Telling.{IsOneLine, faults_placed, placed_at, placed_of, record_placed}
use Rattle.day_explain.specs.declared.told.Placed.{Placed}
use Rattle.day_explain.specs.declared.told.Told.{Told}

-- what holds of one holds of each that stands alone
all_one : {X : Type 0} (P : X → Type 0) (x : X) → P x → All P (x ∷ [])
all_one P x p = λ k d below. let e : 0 ≡ k = omega arith in subst (λ n. P (get_or (x ∷ []) n d)) e p

-- one byte more is no LF
pub no_feed_more : (line : List ℕ) (b : ℕ) → NoFeed line → (b ≡ 10 → ⊥) → NoFeed (line ++ b ∷ [])
no_feed_more line b plain not = All-append (λ c. c ≡ 10 → ⊥) line (b ∷ []) plain (all_one (λ c. c ≡ 10 → ⊥) b not)

-- one more that is told is told in one line
pub lines_more : (told : List Told) (one : Told) → All IsOneLine told → IsOneLine one → All IsOneLine (told ++ one ∷ [])
lines_more told one all line = All-append IsOneLine told (one ∷ []) all (all_one IsOneLine one line)

-- one that is told is the last
pub placed_last : (told : List Told) (one : Told) → map placed_of (told ++ one ∷ []) ≡ map placed_of told ++ one.placed ∷ []
placed_last told one = map-append placed_of told (one ∷ [])

-- one more of the faults of a record is told
pub fault_more : (before told later : List Placed) (line : ℕ) (faults : List Fault) (i : ℕ) (d : Fault) → i < length faults
    → told ≡ before ++ map (placed_at line) (take i faults) → later ≡ told ++ placed_at line (get_or faults i d) ∷ [] → later ≡ before ++ map (placed_at line) (take (i + 1) faults)
fault_more before told later line faults i d below so_far last =
    let fault = get_or faults i d in
    last
    ∙ ap (λ t. t ++ placed_at line fault ∷ []) so_far
    ∙ append_assoc before (map (placed_at line) (take i faults)) (placed_at line fault ∷ [])
    ∙ ap (λ t. before ++ t) (sym (map-append (placed_at line) (take i faults) (fault ∷ [])) ∙ ap (map (placed_at line)) (sym (take_more faults i d below)))

-- all of them are told
pub faults_done : (before told : List Placed) (line : ℕ) (faults : List Fault) (i : ℕ) → length faults ≤ i → told ≡ before ++ map (placed_at line) (take i faults)
    → told ≡ before ++ map (placed_at line) faults
faults_done before told line faults i past so_far = so_far ∙ ap (λ fs. before ++ map (placed_at line) fs) (take_all i faults past)

-- the faults of one record more are told
pub record_more : (told later : List Placed) (records : List FaultyRecord) (i : ℕ) (r : FaultyRecord) → i < length records → r ≡ get_or records i r
    → told ≡ faults_placed (take i records) → later ≡ told ++ record_placed r → later ≡ faults_placed (take (i + 1) records)
record_more told later records i r below is so_far last =
    let next : take (i + 1) records ≡ take i records ++ r ∷ [] = take_more records i r below ∙ ap (λ q. take i records ++ q ∷ []) (sym is) in
    last
    ∙ ap (λ t. t ++ record_placed r) so_far
    ∙ ap (λ t. faults_placed (take i records) ++ t) (sym (append-nil (record_placed r)))
    ∙ sym (flat_map-append record_placed (take i records) (r ∷ []))
    ∙ ap faults_placed (sym next)

-- those of all records are told
pub records_done : (told : List Placed) (records : List FaultyRecord) (i : ℕ) → length records ≤ i → told ≡ faults_placed (take i records) → told ≡ faults_placed records
records_done told records i past so_far = so_far ∙ ap faults_placed (take_all i records past)
