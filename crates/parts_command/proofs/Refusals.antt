-- an input is refused at one line, and where it is refused nothing is whole
use Rattle.std.proofs.Common.{◌≡◌, ◌≢◌, ◌≤◌, ◌<◌, ◌+◌, ◌++◌, ℕ, suc, List, [], ◌∷◌, length, ap, subst, sym, refl, ◌∙◌, arith, length-append, append_assoc, append-nil}
use Rattle.std.specs.Prelude.{All, flat_map}
use Rattle.std.specs.Fmt.{decimal}
use Rattle.std.proofs.lemmas.List.{get_or_at}
use Rattle.std.proofs.lemmas.List.Concat.{flat_map-append}
use Rattle.std.proofs.lemmas.List.Elements.{All-nil, All-push}
use Rattle.crew_terms.specs.Instance.{Instance}
use Rattle.crew_terms.specs.Words.{Words, IsLine, line_of, line_text, words_of, with_feed}
use Rattle.crew_terms.specs.declared.TheConstants.{LONGEST_INPUT, MOST_TASKS}
use Rattle.dossier_terms.specs.declared.Reason.{Reason}
use Rattle.dossier_terms.specs.Dossier.{Dossier, IsGood}
use Rattle.dossier_terms.specs.Lines.{lines_of, text_of}
use Rattle.dossier_terms.specs.Reading.{Form}
use Rattle.line_in.specs.declared.faults.LineFault.{LineFault}
use Rattle.line_in.specs.Faults.{reason_for}
use Rattle.text_laws.specs.Texts.{AreLine}
use Rattle.dossier_commands.specs.Input.{Front, HasRead as HasReadIn, IsRefusal as IsDossierRefusal, IsStop}
use Rattle.part_lines.specs.Faults.{IsCountFault, Misshapen, OutOfRange}
use Rattle.part_texts.specs.Accepted.{AreBundles}
use Rattle.part_texts.specs.Bundle.{ArePartsOf, Bundle, IsGoodBundle}
use Rattle.part_texts.specs.Lines.{count_words, first_words, text_of_bundle}
use Rattle.parts_reader.specs.declared.reason.BundleReason.{BundleReason}
use Rattle.parts_reader.specs.declared.reason.BundleReason.TheVariants.{Line, Part}
use Rattle.parts_reader.specs.Input.{BadLine, BadPart, Begun, Fresh, HasBegun, InDay, InDossier, InParts, IsDossierDue, IsEnd, IsFaultAt, IsLineDue, IsRefusal, NoLine, PastDay, front_at, lines_up_to, room_at, text_begun, text_up_to}
use Rattle.parts_command.proofs.Orders.{Longer, Order, Same as SameList, Shorter, order}
use Rattle.parts_command.proofs.Places.{After, Before, Passes, Same, Steps, steps}
use Rattle.parts_command.proofs.Stops.{one_stop, same_line, whole_line}

-- the dossier is of no part that may come next
abbrev IsNoPart : Begun → Dossier → Type 0
IsNoPart Fresh d = ⊥
IsNoPart InDay d = ⊥
IsNoPart (PastDay day) d = ⊥
IsNoPart (InParts day k parts) d = (length parts < k) × (ArePartsOf day.instance (parts ++ d ∷ []) → ⊥)

-- what is refused behind what is read
data Stands (input : List ℕ) (done : List Bundle) (begun : Begun) (rest : List ℕ) (number : ℕ) (reason : BundleReason) : Type 0 where
  AtLine : (line after : List ℕ) (parts : rest ≡ with_feed line ++ after) (plain : IsLine line) (fits : length line < room_at done begun) (fault : LineFault) (how : IsFaultAt begun (words_of line) fault)
      (is : number ≡ suc (lines_up_to done begun)) (why : reason ≡ Line (reason_for fault)) → Stands input done begun rest number reason
  AtStop : (due : IsLineDue begun) (cause : Reason) (stop : IsStop (room_at done begun) rest cause) (more : IsEnd done begun rest → ⊥)
      (is : number ≡ suc (lines_up_to done begun)) (why : reason ≡ Line cause) → Stands input done begun rest number reason
  Amid : (due : IsDossierDue begun) (cause : Reason) (refusal : IsDossierRefusal (front_at done begun) input [] number cause) (why : reason ≡ Line cause) → Stands input done begun rest number reason
  AtPart : (d : Dossier) (after : List ℕ) (parts : rest ≡ text_of d ++ after) (good : IsGood d) (apart : IsNoPart begun d) (fits : length (text_of d) ≤ room_at done begun)
      (is : number ≡ lines_up_to done begun + length (lines_of d)) (why : reason ≡ Part) → Stands input done begun rest number reason

record IsPlaceOf (input : List ℕ) (done : List Bundle) (number : ℕ) (reason : BundleReason) : Type 0 where
  begun : Begun
  rest : List ℕ
  read : HasBegun input done begun rest
  stands : Stands input done begun rest number reason

place_of : (input : List ℕ) (done : List Bundle) (number : ℕ) (reason : BundleReason) → IsRefusal input done number reason → IsPlaceOf input done number reason
place_of input done number reason (BadLine begun line after read plain fits fault how is why) =
    record { begun = begun; rest = with_feed line ++ after; read = read; stands = AtLine line after refl plain fits fault how is why }
place_of input done number reason (NoLine begun rest read due cause stop more is why) =
    record { begun = begun; rest = rest; read = read; stands = AtStop due cause stop more is why }
place_of input done number reason (InDossier begun rest read due cause refusal why) =
    record { begun = begun; rest = rest; read = read; stands = Amid due cause refusal why }
place_of input done number reason (BadPart day k parts d rest read due fits good part is why) =
    record { begun = InParts day k parts; rest = text_of d ++ rest; read = read; stands = AtPart d rest refl good (due, part) fits is why }

-- ---- what is due is one thing

fault_and_dossier : (begun : Begun) (words : Words) (fault : LineFault) → IsFaultAt begun words fault → IsDossierDue begun → ⊥
fault_and_dossier Fresh words fault how due = due
fault_and_dossier InDay words fault how due = how
fault_and_dossier (PastDay day) words fault how due = due
fault_and_dossier (InParts day k parts) words fault how due = how

line_and_dossier : (begun : Begun) → IsLineDue begun → IsDossierDue begun → ⊥
line_and_dossier Fresh line due = due
line_and_dossier InDay line due = line
line_and_dossier (PastDay day) line due = due
line_and_dossier (InParts day k parts) line due = line

part_is_dossier : (begun : Begun) (d : Dossier) → IsNoPart begun d → IsDossierDue begun
part_is_dossier Fresh d apart = absurd apart
part_is_dossier InDay d apart = absurd apart
part_is_dossier (PastDay day) d apart = absurd apart
part_is_dossier (InParts day k parts) d apart = apart.0

one_count_fault : (words : Words) (f g : LineFault) → IsCountFault words f → IsCountFault words g → f ≡ g
one_count_fault words f g (Misshapen s a) (Misshapen t b) = a ∙ sym b
one_count_fault words f g (Misshapen s a) (OutOfRange t none b) = absurd (s t)
one_count_fault words f g (OutOfRange s none a) (Misshapen t b) = absurd (t s)
one_count_fault words f g (OutOfRange s none a) (OutOfRange t apart b) = a ∙ sym b

one_fault : (begun : Begun) (words : Words) (f g : LineFault) → IsFaultAt begun words f → IsFaultAt begun words g → f ≡ g
one_fault Fresh words f g a b = a.is ∙ sym b.is
one_fault InDay words f g a b = absurd a
one_fault (PastDay day) words f g a b = one_count_fault words f g a b
one_fault (InParts day k parts) words f g a b = absurd a

count_is_no_fault : (k : ℕ) (words : Words) (fault : LineFault) → k ≤ MOST_TASKS → words ≡ count_words k → IsCountFault words fault → ⊥
count_is_no_fault k words fault few e (Misshapen shape is) = shape (decimal k ∷ [], e, refl)
count_is_no_fault k words fault few e (OutOfRange shape none is) = none k few e

-- a bundle that is whole waits for nothing
whole_waits : (input : List ℕ) (done : List Bundle) (day : Dossier) (parts : List Dossier) (rest : List ℕ) (number : ℕ) (reason : BundleReason) → Stands input done (InParts day (length parts) parts) rest number reason → ⊥
whole_waits input done day parts rest number reason (AtLine line after text plain fits fault how is why) = how
whole_waits input done day parts rest number reason (AtStop due r stop more is why) = due
whole_waits input done day parts rest number reason (Amid due r refusal why) = absurd (omega (arith, due))
whole_waits input done day parts rest number reason (AtPart d after text good apart fits is why) = let l = apart.0 in absurd (omega (arith, l))

both_same : (number other : ℕ) (n m : ℕ) (reason cause : BundleReason) (r s : BundleReason) → number ≡ n → other ≡ m → n ≡ m → reason ≡ r → cause ≡ s → r ≡ s → (number ≡ other) × (reason ≡ cause)
both_same number other n m reason cause r s a b c d e f = (a ∙ c ∙ sym b, d ∙ f ∙ sym e)

-- the texts of bundles are told apart
module _ (one_bundle : (b c : Bundle) (x y : List ℕ) → IsGoodBundle b → IsGoodBundle c → text_of_bundle b ++ x ≡ text_of_bundle c ++ y → (b ≡ c) × (x ≡ y))
    (one_dossier : (d e : Dossier) (x y : List ℕ) → IsGood d → IsGood e → text_of d ++ x ≡ text_of e ++ y → (d ≡ e) × (x ≡ y))
    (one_count : (j k : ℕ) (x y : List ℕ) → j ≤ MOST_TASKS → k ≤ MOST_TASKS → line_text (count_words j) ++ x ≡ line_text (count_words k) ++ y → (j ≡ k) × (x ≡ y))
    (front : (i : Instance) (ds others : List Dossier) → ArePartsOf i (ds ++ others) → ArePartsOf i ds)
    (first_line : AreLine first_words) (count_line : (k : ℕ) → k ≤ MOST_TASKS → AreLine (count_words k))
    (cut : (words : Words) → words ≢ [] → All (All (λ b. b ≢ 32)) words → words_of (line_of words) ≡ words)
    (read_on : (front : Front) (input : List ℕ) (done tail : List Dossier) (d : Dossier) (rest : List ℕ) (number : ℕ) (reason : Reason) → IsDossierRefusal front input done number reason → HasReadIn front input (done ++ d ∷ tail) [] rest Form → ⊥) where
  -- a dossier that is whole is not where the input is refused
  module _ (input : List ℕ) (done : List Bundle) (begun : Begun) (rest : List ℕ) (read : HasBegun input done begun rest) where
    whole_dossier : (d : Dossier) (after : List ℕ) → IsGood d → rest ≡ text_of d ++ after → length (text_of d) ≤ room_at done begun → HasReadIn (front_at done begun) input (d ∷ []) [] after Form
    whole_dossier d after good is fits =
        let before = text_up_to done begun in
        let text : before ++ (flat_map text_of (d ∷ []) ++ []) ≡ before ++ text_of d = ap (λ x. before ++ x) (append-nil (flat_map text_of (d ∷ [])) ∙ append-nil (text_of d)) in
        record {
          text = read.text ∙ ap (λ x. before ++ x) is ∙ sym (append_assoc before (text_of d) after) ∙ ap (λ x. x ++ after) (sym text);
          within = (let w = read.within in let e = ap length text in let s = length-append before (text_of d) in omega arith);
          good = All-push IsGood [] d (All-nil IsGood) good;
          each = All-nil IsLine;
          leads = refl;
        }

    not_amid : (d : Dossier) (after : List ℕ) (number : ℕ) (cause : Reason) → IsGood d → rest ≡ text_of d ++ after → length (text_of d) ≤ room_at done begun
        → IsDossierRefusal (front_at done begun) input [] number cause → ⊥
    not_amid d after number cause good is fits r = read_on (front_at done begun) input [] [] d after number cause r (whole_dossier d after good is fits)

    -- one thing stands there
    module _ (one_refusal : (front : Front) (input : List ℕ) (done others : List Dossier) (number other : ℕ) (reason cause : Reason) → IsDossierRefusal front input done number reason → IsDossierRefusal front input others other cause
        → (done ≡ others) × (number ≡ other) × (reason ≡ cause)) where
      one_stand : (number other : ℕ) (reason cause : BundleReason) → Stands input done begun rest number reason → Stands input done begun rest other cause → (number ≡ other) × (reason ≡ cause)
      one_stand number other reason cause (AtLine line after parts plain fits fault how is why) (AtLine last behind those whole room flaw what so what_for) =
          let same = same_line line last after behind plain.whole whole.whole (sym parts ∙ those) in
          let f : fault ≡ flaw = one_fault begun (words_of line) fault flaw how (subst (λ l. IsFaultAt begun (words_of l) flaw) (sym same.0) what) in
          (is ∙ sym so, why ∙ ap (λ x. Line (reason_for x)) f ∙ sym what_for)
      one_stand number other reason cause (AtLine line after parts plain fits fault how is why) (AtStop due c stop more so what_for) = absurd (whole_line (room_at done begun) rest c line after stop plain fits parts)
      one_stand number other reason cause (AtLine line after parts plain fits fault how is why) (Amid due c refusal what_for) = absurd (fault_and_dossier begun (words_of line) fault how due)
      one_stand number other reason cause (AtLine line after parts plain fits fault how is why) (AtPart d behind those good apart room so what_for) =
          absurd (fault_and_dossier begun (words_of line) fault how (part_is_dossier begun d apart))
      one_stand number other reason cause (AtStop due c stop more is why) (AtLine line after parts plain fits fault how so what_for) = absurd (whole_line (room_at done begun) rest c line after stop plain fits parts)
      one_stand number other reason cause (AtStop due c stop more is why) (AtStop also r halt most so what_for) = (is ∙ sym so, why ∙ ap Line (one_stop (room_at done begun) rest c r stop halt) ∙ sym what_for)
      one_stand number other reason cause (AtStop due c stop more is why) (Amid also r refusal what_for) = absurd (line_and_dossier begun due also)
      one_stand number other reason cause (AtStop due c stop more is why) (AtPart d behind those good apart room so what_for) = absurd (line_and_dossier begun due (part_is_dossier begun d apart))
      one_stand number other reason cause (Amid due c refusal why) (AtLine line after parts plain fits fault how so what_for) = absurd (fault_and_dossier begun (words_of line) fault how due)
      one_stand number other reason cause (Amid due c refusal why) (AtStop also r halt most so what_for) = absurd (line_and_dossier begun also due)
      one_stand number other reason cause (Amid due c refusal why) (Amid also r other_refusal what_for) =
          let u = one_refusal (front_at done begun) input [] [] number other c r refusal other_refusal in
          (u.1, why ∙ ap Line u.2 ∙ sym what_for)
      one_stand number other reason cause (Amid due c refusal why) (AtPart d after parts good apart fits so what_for) = absurd (not_amid d after number c good parts fits refusal)
      one_stand number other reason cause (AtPart d after parts good apart fits is why) (AtLine line behind those plain room fault how so what_for) =
          absurd (fault_and_dossier begun (words_of line) fault how (part_is_dossier begun d apart))
      one_stand number other reason cause (AtPart d after parts good apart fits is why) (AtStop due c stop more so what_for) = absurd (line_and_dossier begun due (part_is_dossier begun d apart))
      one_stand number other reason cause (AtPart d after parts good apart fits is why) (Amid due c refusal what_for) = absurd (not_amid d after other c good parts fits refusal)
      one_stand number other reason cause (AtPart d after parts good apart fits is why) (AtPart e behind those fine none room so what_for) =
          let same = one_dossier d e after behind good fine (sym parts ∙ those) in
          (is ∙ ap (λ x. lines_up_to done begun + length (lines_of x)) same.0 ∙ sym so, why ∙ sym what_for)

  line_cut : (words : Words) → AreLine words → words_of (line_of words) ≡ words
  line_cut words are = cut words are.some (λ k x l. (are.each k x l).no_space)

  -- where the input is refused nothing that was due is whole
  not_passed : (input : List ℕ) (done : List Bundle) (begun : Begun) (rest : List ℕ) (limit number : ℕ) (reason : BundleReason) → HasBegun input done begun rest
      → length (flat_map text_of_bundle done) + limit ≤ LONGEST_INPUT → Stands input done begun rest number reason → Passes limit begun rest → ⊥
  not_passed input done Fresh rest limit number reason read most (AtLine line after parts plain fits fault how is why) p =
      let same = same_line line (line_of first_words) after p.0 plain.whole first_line.line.whole (sym parts ∙ p.1) in
      how.other (ap words_of same.0 ∙ line_cut first_words first_line)
  not_passed input done Fresh rest limit number reason read most (AtStop due r stop more is why) p =
      let n = length-append (flat_map text_of_bundle done) [] in
      let l = p.2 in
      let s = length-append (line_of first_words) (10 ∷ []) in
      whole_line (room_at done Fresh) rest r (line_of first_words) p.0 stop first_line.line (omega arith) p.1
  not_passed input done Fresh rest limit number reason read most (Amid due r refusal why) p = due
  not_passed input done Fresh rest limit number reason read most (AtPart d after parts good apart fits is why) p = apart
  not_passed input done InDay rest limit number reason read most (AtLine line after parts plain fits fault how is why) p = how
  not_passed input done InDay rest limit number reason read most (AtStop due r stop more is why) p = due
  not_passed input done InDay rest limit number reason read most (Amid due r refusal why) (d, after, good, parts, size) =
      let n = length-append (flat_map text_of_bundle done) (text_begun InDay) in
      not_amid input done InDay rest read d after number r good parts (omega arith) refusal
  not_passed input done InDay rest limit number reason read most (AtPart d after parts good apart fits is why) p = apart
  not_passed input done (PastDay day) rest limit number reason read most (AtLine line after parts plain fits fault how is why) (k, z, few, text, size) =
      let same = same_line line (line_of (count_words k)) after z plain.whole (count_line k few).line.whole (sym parts ∙ text) in
      count_is_no_fault k (words_of line) fault few (ap words_of same.0 ∙ line_cut (count_words k) (count_line k few)) how
  not_passed input done (PastDay day) rest limit number reason read most (AtStop due r stop more is why) (k, z, few, text, size) =
      let n = length-append (flat_map text_of_bundle done) (text_begun (PastDay day)) in
      let s = length-append (line_of (count_words k)) (10 ∷ []) in
      whole_line (room_at done (PastDay day)) rest r (line_of (count_words k)) z stop (count_line k few).line (omega arith) text
  not_passed input done (PastDay day) rest limit number reason read most (Amid due r refusal why) p = due
  not_passed input done (PastDay day) rest limit number reason read most (AtPart d after parts good apart fits is why) p = apart
  not_passed input done (InParts day k ps) rest limit number reason read most (AtLine line after parts plain fits fault how is why) p = how
  not_passed input done (InParts day k ps) rest limit number reason read most (AtStop due r stop more is why) p = due
  not_passed input done (InParts day k ps) rest limit number reason read most (Amid due r refusal why) (d, after, good, parts, size, few, are) =
      let n = length-append (flat_map text_of_bundle done) (text_begun (InParts day k ps)) in
      not_amid input done (InParts day k ps) rest read d after number r good parts (omega arith) refusal
  not_passed input done (InParts day k ps) rest limit number reason read most (AtPart e behind those fine apart fits is why) (d, after, good, parts, size, few, are) =
      let same = one_dossier e d behind after fine good (sym those ∙ parts) in
      apart.1 (subst (λ x. ArePartsOf day.instance (ps ++ x ∷ [])) (sym same.0) are)

  -- nor is the bundle
  not_whole : (input : List ℕ) (done : List Bundle) (begun : Begun) (rest : List ℕ) (number : ℕ) (reason : BundleReason) (b : Bundle) (after : List ℕ) → HasBegun input done begun rest → IsGoodBundle b
      → length (flat_map text_of_bundle done) + length (text_of_bundle b) ≤ LONGEST_INPUT → text_begun begun ++ rest ≡ text_of_bundle b ++ after → Stands input done begun rest number reason → ⊥
  not_whole input done begun rest number reason b after read good most text stands =
      by (steps one_dossier one_count front begun whole rest after read.begins
      (record { good_day = good.day; few = good.few; within = omega arith; good = good.good; divided = good.divided }) text)
    where
      whole : Begun
      whole = InParts b.day (length b.parts) b.parts

      by : Steps begun whole rest after → ⊥
      by (Same all e) = whole_waits input done b.day b.parts rest number reason (subst (λ x. Stands input done x rest number reason) all stands)
      by (Before passes) = not_passed input done begun rest (length (text_begun whole)) number reason read most stands passes
      by (After passes) = let l = passes.5 in absurd (omega (arith, l))

  -- what the input says behind what is done
  behind : (input : List ℕ) (done : List Bundle) (begun : Begun) (rest : List ℕ) → HasBegun input done begun rest → input ≡ flat_map text_of_bundle done ++ (text_begun begun ++ rest)
  behind input done begun rest read = read.text ∙ append_assoc (flat_map text_of_bundle done) (text_begun begun) rest

  -- one bundle more fits
  one_fits : (done : List Bundle) (b : Bundle) (more others : List Bundle) (n : ℕ) → others ≡ done ++ b ∷ more → length (flat_map text_of_bundle others) ≤ n → length (flat_map text_of_bundle done) + length (text_of_bundle b) ≤ n
  one_fits done b more others n all most =
      let e = ap (λ x. length (flat_map text_of_bundle x)) all in
      let f = ap length (flat_map-append text_of_bundle done (b ∷ more)) in
      let g = length-append (flat_map text_of_bundle done) (text_of_bundle b ++ flat_map text_of_bundle more) in
      let h = length-append (text_of_bundle b) (flat_map text_of_bundle more) in
      omega (arith, e, f, g, h, most)

  one_good : (done : List Bundle) (b : Bundle) (more others : List Bundle) → others ≡ done ++ b ∷ more → All IsGoodBundle others → IsGoodBundle b
  one_good done b more others all good =
      let n = length-append done (b ∷ more) in
      subst IsGoodBundle (get_or_at done b more b (length done) refl) (subst (All IsGoodBundle) all good (length done) b (omega (arith, n)))

  -- two refusals are one
  pub only_refusal : ((front : Front) (input : List ℕ) (done others : List Dossier) (number other : ℕ) (reason cause : Reason) → IsDossierRefusal front input done number reason → IsDossierRefusal front input others other cause
      → (done ≡ others) × (number ≡ other) × (reason ≡ cause))
      → (input : List ℕ) (done others : List Bundle) (number other : ℕ) (reason cause : BundleReason) → IsRefusal input done number reason → IsRefusal input others other cause
      → (done ≡ others) × (number ≡ other) × (reason ≡ cause)
  only_refusal one_refusal input done others number other reason cause a b =
      by (order text_of_bundle IsGoodBundle one_bundle done others (text_begun p.begun ++ p.rest) (text_begun q.begun ++ q.rest) p.read.good q.read.good
      (sym (behind input done p.begun p.rest p.read) ∙ behind input others q.begun q.rest q.read))
    where
      p : IsPlaceOf input done number reason
      p = place_of input done number reason a

      q : IsPlaceOf input others other cause
      q = place_of input others other cause b

      here : (read : HasBegun input done q.begun q.rest) → Stands input done q.begun q.rest other cause → Steps p.begun q.begun p.rest q.rest → (number ≡ other) × (reason ≡ cause)
      here read stands (Same all e) =
          one_stand input done p.begun p.rest p.read one_refusal number other reason cause p.stands
          (subst (λ x. Stands input done p.begun x other cause) (sym e) (subst (λ x. Stands input done x q.rest other cause) (sym all) stands))
      here read stands (Before passes) =
          let n = length-append (flat_map text_of_bundle done) (text_begun q.begun) in
          let w = read.within in
          absurd (not_passed input done p.begun p.rest (length (text_begun q.begun)) number reason p.read (omega (arith, n, w)) p.stands passes)
      here read stands (After passes) =
          let n = length-append (flat_map text_of_bundle done) (text_begun p.begun) in
          let w = p.read.within in
          absurd (not_passed input done q.begun q.rest (length (text_begun p.begun)) other cause read (omega (arith, n, w)) stands passes)

      by : Order text_of_bundle done others (text_begun p.begun ++ p.rest) (text_begun q.begun ++ q.rest) → (done ≡ others) × (number ≡ other) × (reason ≡ cause)
      by (SameList all rest) =
          let read : HasBegun input done q.begun q.rest = subst (λ x. HasBegun input x q.begun q.rest) (sym all) q.read in
          let stands : Stands input done q.begun q.rest other cause = subst (λ x. Stands input x q.begun q.rest other cause) (sym all) q.stands in
          let h = here read stands (steps one_dossier one_count front p.begun q.begun p.rest q.rest p.read.begins read.begins rest) in
          (all, h.0, h.1)
      by (Shorter c more all rest) =
          let n = length-append (flat_map text_of_bundle others) (text_begun q.begun) in
          let w = q.read.within in
          absurd (not_whole input done p.begun p.rest number reason c (flat_map text_of_bundle more ++ (text_begun q.begun ++ q.rest)) p.read (one_good done c more others all q.read.good)
          (one_fits done c more others LONGEST_INPUT all (omega (arith, n, w))) rest p.stands)
      by (Longer c more all rest) =
          let n = length-append (flat_map text_of_bundle done) (text_begun p.begun) in
          let w = p.read.within in
          absurd (not_whole input others q.begun q.rest other cause c (flat_map text_of_bundle more ++ (text_begun p.begun ++ p.rest)) q.read (one_good others c more done all p.read.good)
          (one_fits others c more done LONGEST_INPUT all (omega (arith, n, w))) rest q.stands)

  nothing_read : (begun : Begun) (rest : List ℕ) → text_begun begun ++ rest ≡ [] → (begun ≡ Fresh) × (rest ≡ [])
  nothing_read Fresh rest e = (refl, e)
  nothing_read InDay rest e = absurd (cc)
  nothing_read (PastDay day) rest e = absurd (cc)
  nothing_read (InParts day k parts) rest e = absurd (cc)

  no_bundle : (b : Bundle) (rest : List ℕ) → [] ≡ text_of_bundle b ++ rest → ⊥
  no_bundle b rest e = absurd (cc)

  -- nothing is refused behind the last bundle
  not_at_end : (input : List ℕ) (done : List Bundle) (begun : Begun) (rest : List ℕ) (number : ℕ) (reason : BundleReason) → done ≢ [] → begun ≡ Fresh → rest ≡ [] → Stands input done begun rest number reason → ⊥
  not_at_end input done begun rest number reason some fresh none (AtLine line after parts plain fits fault how is why) =
      let n = ap length (sym parts ∙ none) in
      let a = length-append (line ++ 10 ∷ []) after in
      let b = length-append line (10 ∷ []) in
      absurd (omega (arith, n, a, b))
  not_at_end input done begun rest number reason some fresh none (AtStop due r stop more is why) = more (record { some = some; between = fresh; none = none })
  not_at_end input done begun rest number reason some fresh none (Amid due r refusal why) = subst IsDossierDue fresh due
  not_at_end input done begun rest number reason some fresh none (AtPart d after parts good apart fits is why) = subst (λ x. IsNoPart x d) fresh apart

  -- bundles are refused nowhere
  pub not_accepted : (input : List ℕ) (done bundles : List Bundle) (number : ℕ) (reason : BundleReason) → IsRefusal input done number reason → AreBundles input bundles → ⊥
  not_accepted input done bundles number reason a are =
      by (order text_of_bundle IsGoodBundle one_bundle done bundles (text_begun p.begun ++ p.rest) [] p.read.good are.good
      (sym (behind input done p.begun p.rest p.read) ∙ are.text ∙ sym (append-nil (flat_map text_of_bundle bundles))))
    where
      p : IsPlaceOf input done number reason
      p = place_of input done number reason a

      by : Order text_of_bundle done bundles (text_begun p.begun ++ p.rest) [] → ⊥
      by (SameList all rest) =
          let e = nothing_read p.begun p.rest rest in
          not_at_end input done p.begun p.rest number reason (λ none. are.some (sym all ∙ none)) e.0 e.1 p.stands
      by (Shorter c more all rest) =
          let n = ap length are.text in
          let w = are.size in
          not_whole input done p.begun p.rest number reason c (flat_map text_of_bundle more ++ []) p.read (one_good done c more bundles all are.good)
          (one_fits done c more bundles LONGEST_INPUT all (omega (arith, n, w))) rest p.stands
      by (Longer c more all rest) = no_bundle c (flat_map text_of_bundle more ++ (text_begun p.begun ++ p.rest)) rest
