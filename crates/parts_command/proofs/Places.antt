-- what is read of a bundle, by two readings of one text: the same, or the one goes on from the other with what was due
use Rattle.std.proofs.Common.{◌≡◌, ◌≤◌, ◌<◌, ◌+◌, ◌++◌, ℕ, List, [], ◌∷◌, length, ap, subst, sym, refl, ◌∙◌, arith, length-append, append_assoc}
use Rattle.std.specs.Prelude.{flat_map}
use Rattle.std.proofs.lemmas.List.{get_or_at}
use Rattle.std.proofs.lemmas.List.Concat.{flat_map-append}
use Rattle.crew_terms.specs.Instance.{Instance}
use Rattle.crew_terms.specs.Words.{line_text}
use Rattle.crew_terms.specs.declared.TheConstants.{MOST_TASKS}
use Rattle.dossier_terms.specs.Dossier.{Dossier, IsGood}
use Rattle.dossier_terms.specs.Lines.{text_of}
use Rattle.part_texts.specs.Bundle.{ArePartsOf}
use Rattle.part_texts.specs.Lines.{count_words, first_words}
use Rattle.parts_reader.specs.Input.{Begun, Fresh, HasParts, InDay, InParts, IsBegun, PastDay, text_begun}
use Rattle.parts_command.proofs.Orders.{Longer, Order, Same as SameList, Shorter, order}

-- what was due behind this is whole, within so many bytes of the bundle: the rest goes on with it
abbrev pub Passes : ℕ → Begun → List ℕ → Type 0
Passes limit Fresh rest = (z : List ℕ) × (rest ≡ line_text first_words ++ z) × (length (text_begun Fresh) + length (line_text first_words) ≤ limit)
Passes limit InDay rest = (d : Dossier) × (z : List ℕ) × IsGood d × (rest ≡ text_of d ++ z) × (length (text_begun InDay) + length (text_of d) ≤ limit)
Passes limit (PastDay day) rest = (k : ℕ) × (z : List ℕ) × (k ≤ MOST_TASKS) × (rest ≡ line_text (count_words k) ++ z) × (length (text_begun (PastDay day)) + length (line_text (count_words k)) ≤ limit)
Passes limit (InParts day k parts) rest = (d : Dossier) × (z : List ℕ) × IsGood d × (rest ≡ text_of d ++ z) × (length (text_begun (InParts day k parts)) + length (text_of d) ≤ limit)
    × (length parts < k) × ArePartsOf day.instance (parts ++ d ∷ [])

pub data Steps (b c : Begun) (x y : List ℕ) : Type 0 where
  Same : (all : b ≡ c) (rest : x ≡ y) → Steps b c x y
  Before : (passes : Passes (length (text_begun c)) b x) → Steps b c x y
  After : (passes : Passes (length (text_begun b)) c y) → Steps b c x y

turn : (b c : Begun) (x y : List ℕ) → Steps b c x y → Steps c b y x
turn b c x y (Same all rest) = Same (sym all) (sym rest)
turn b c x y (Before passes) = After passes
turn b c x y (After passes) = Before passes

cancel : (xs a b : List ℕ) → xs ++ a ≡ xs ++ b → a ≡ b
cancel [] a b e = e
cancel (x ∷ xs) a b e = cancel xs a b (cc)

-- the texts behind the first line
abbrev first : List ℕ
first = line_text first_words

abbrev count : ℕ → List ℕ
count k = line_text (count_words k)

abbrev texts : List Dossier → List ℕ
texts parts = flat_map text_of parts

day_size : (day : Dossier) → length (text_begun (PastDay day)) ≡ length first + length (text_of day)
day_size day = length-append first (text_of day)

parts_size : (day : Dossier) (k : ℕ) (parts : List Dossier) → length (text_begun (InParts day k parts)) ≡ length first + (length (text_of day) + (length (count k) + length (texts parts)))
parts_size day k parts =
    let a = length-append first (text_of day ++ (count k ++ texts parts)) in
    let b = length-append (text_of day) (count k ++ texts parts) in
    let c = length-append (count k) (texts parts) in
    omega (arith, a, b, c)

-- nothing is read by the one
fresh_to : (c : Begun) (x y : List ℕ) → x ≡ text_begun c ++ y → Steps Fresh c x y
fresh_to Fresh x y e = Same refl e
fresh_to InDay x y e = Before (y, e, omega arith)
fresh_to (PastDay day) x y e = Before (text_of day ++ y, e ∙ append_assoc first (text_of day) y, let s = day_size day in omega arith)
fresh_to (InParts day k parts) x y e =
    let rest = text_of day ++ (count k ++ texts parts) in
    Before (rest ++ y, e ∙ append_assoc first rest y, let s = parts_size day k parts in omega arith)

-- the first line is read by the one
day_to : (c : Begun) (x y : List ℕ) → IsBegun c → first ++ x ≡ text_begun c ++ y → Steps InDay c x y
day_to Fresh x y ok e = turn Fresh InDay y x (fresh_to InDay y x (sym e))
day_to InDay x y ok e = Same refl (cancel first x y e)
day_to (PastDay day) x y ok e =
    Before (day, y, ok, cancel first x (text_of day ++ y) (e ∙ append_assoc first (text_of day) y), let s = day_size day in omega arith)
day_to (InParts day k parts) x y ok e =
    let rest = count k ++ texts parts in
    Before (
      day,
      rest ++ y,
      ok.good_day,
      cancel first x (text_of day ++ (rest ++ y)) (e ∙ append_assoc first (text_of day ++ rest) y ∙ ap (λ z. first ++ z) (append_assoc (text_of day) rest y)),
      let s = parts_size day k parts in omega arith,
    )

-- the texts of bundles are told apart
module _ (one_dossier : (d e : Dossier) (x y : List ℕ) → IsGood d → IsGood e → text_of d ++ x ≡ text_of e ++ y → (d ≡ e) × (x ≡ y))
    (one_count : (j k : ℕ) (x y : List ℕ) → j ≤ MOST_TASKS → k ≤ MOST_TASKS → line_text (count_words j) ++ x ≡ line_text (count_words k) ++ y → (j ≡ k) × (x ≡ y))
    (front : (i : Instance) (ds others : List Dossier) → ArePartsOf i (ds ++ others) → ArePartsOf i ds) where
  -- the day's dossier is read by the one
  past_to : (day : Dossier) (c : Begun) (x y : List ℕ) → IsGood day → IsBegun c → text_begun (PastDay day) ++ x ≡ text_begun c ++ y → Steps (PastDay day) c x y
  past_to day Fresh x y good ok e = turn Fresh (PastDay day) y x (fresh_to (PastDay day) y x (sym e))
  past_to day InDay x y good ok e = turn InDay (PastDay day) y x (day_to (PastDay day) y x good (sym e))
  past_to day (PastDay other) x y good ok e =
      let f = one_dossier day other x y good ok (cancel first (text_of day ++ x) (text_of other ++ y) (sym (append_assoc first (text_of day) x) ∙ e ∙ append_assoc first (text_of other) y)) in
      Same (ap PastDay f.0) f.1
  past_to day (InParts other k parts) x y good ok e =
      let rest = count k ++ texts parts in
      let f = one_dossier day other x (rest ++ y) good ok.good_day (cancel first (text_of day ++ x) (text_of other ++ (rest ++ y))
      (sym (append_assoc first (text_of day) x) ∙ e ∙ append_assoc first (text_of other ++ rest) y ∙ ap (λ z. first ++ z) (append_assoc (text_of other) rest y))) in
      Before (
        k,
        texts parts ++ y,
        ok.few,
        f.1 ∙ append_assoc (count k) (texts parts) y,
        let s = parts_size other k parts in let t = day_size day in let u = ap (λ d. length (text_of d)) f.0 in omega arith,
      )

  -- one part more is read by the other
  one_more : (day : Dossier) (k : ℕ) (parts : List Dossier) (d : Dossier) (more : List Dossier) (x y : List ℕ) → HasParts day k (parts ++ d ∷ more) → x ≡ text_of d ++ (texts more ++ y)
      → Passes (length (text_begun (InParts day k (parts ++ d ∷ more)))) (InParts day k parts) x
  one_more day k parts d more x y ok e =
      let n = length-append parts (d ∷ more) in
      let within = ok.within in
      let below : length parts < length (parts ++ d ∷ more) = omega (arith, n) in
      let all = parts_size day k (parts ++ d ∷ more) in
      let some = parts_size day k parts in
      let sum = ap length (flat_map-append text_of parts (d ∷ more)) in
      let both = length-append (texts parts) (text_of d ++ texts more) in
      let last = length-append (text_of d) (texts more) in (
        d,
        texts more ++ y,
        subst IsGood (get_or_at parts d more d (length parts) refl) (ok.good (length parts) d below),
        e,
        omega (arith, all, some, sum, both, last),
        omega (arith, n, within),
        front day.instance (parts ++ d ∷ []) more (subst (ArePartsOf day.instance) (sym (append_assoc parts (d ∷ []) more)) ok.divided),
      )

  these_parts : (day : Dossier) (k : ℕ) (parts others : List Dossier) (x y : List ℕ) → HasParts day k parts → HasParts day k others → Order text_of parts others x y → Steps (InParts day k parts) (InParts day k others) x y
  these_parts day k parts others x y ok also (SameList all rest) = Same (ap (InParts day k) all) rest
  these_parts day k parts others x y ok also (Shorter d more all rest) =
      Before (subst (λ ds. Passes (length (text_begun (InParts day k ds))) (InParts day k parts) x) (sym all)
      (one_more day k parts d more x y (subst (HasParts day k) all also) rest))
  these_parts day k parts others x y ok also (Longer d more all rest) =
      After (subst (λ ds. Passes (length (text_begun (InParts day k ds))) (InParts day k others) y) (sym all)
      (one_more day k others d more y x (subst (HasParts day k) all ok) rest))

  parts_to : (day : Dossier) (k : ℕ) (parts : List Dossier) (c : Begun) (x y : List ℕ) → HasParts day k parts → IsBegun c → text_begun (InParts day k parts) ++ x ≡ text_begun c ++ y
      → Steps (InParts day k parts) c x y
  parts_to day k parts Fresh x y ok also e = turn Fresh (InParts day k parts) y x (fresh_to (InParts day k parts) y x (sym e))
  parts_to day k parts InDay x y ok also e = turn InDay (InParts day k parts) y x (day_to (InParts day k parts) y x ok (sym e))
  parts_to day k parts (PastDay other) x y ok also e = turn (PastDay other) (InParts day k parts) y x (past_to other (InParts day k parts) y x also ok (sym e))
  parts_to day k parts (InParts other j others) x y ok also e =
      let open_up = λ (d : Dossier) (n : ℕ) (ds : List Dossier) (z : List ℕ). append_assoc first (text_of d ++ (count n ++ texts ds)) z
      ∙ ap (λ w. first ++ w) (append_assoc (text_of d) (count n ++ texts ds) z ∙ ap (λ w. text_of d ++ w) (append_assoc (count n) (texts ds) z)) in
      let f = one_dossier day other (count k ++ (texts parts ++ x)) (count j ++ (texts others ++ y)) ok.good_day also.good_day
      (cancel first (text_of day ++ (count k ++ (texts parts ++ x))) (text_of other ++ (count j ++ (texts others ++ y))) (sym (open_up day k parts x) ∙ e ∙ open_up other j others y)) in
      let g = one_count k j (texts parts ++ x) (texts others ++ y) ok.few also.few f.1 in
      let same : HasParts day k others = subst (λ n. HasParts day n others) (sym g.0) (subst (λ d. HasParts d j others) (sym f.0) also) in
      subst (λ d. Steps (InParts day k parts) (InParts d j others) x y) f.0
      (subst (λ n. Steps (InParts day k parts) (InParts day n others) x y) g.0
      (these_parts day k parts others x y ok same (order text_of IsGood one_dossier parts others x y ok.good same.good g.1)))

  -- two readings of one text
  pub steps : (b c : Begun) (x y : List ℕ) → IsBegun b → IsBegun c → text_begun b ++ x ≡ text_begun c ++ y → Steps b c x y
  steps Fresh c x y ok also e = fresh_to c x y e
  steps InDay c x y ok also e = day_to c x y also e
  steps (PastDay day) c x y ok also e = past_to day c x y ok also e
  steps (InParts day k parts) c x y ok also e = parts_to day k parts c x y ok also e
