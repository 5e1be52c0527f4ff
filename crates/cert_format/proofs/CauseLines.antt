-- the lines of a cause say one thing, and have their shape
use Rattle.std.proofs.Common.{◌≡◌, ◌<◌, ◌≤◌, ◌^◌, [], ◌∷◌, ℕ, ℤ, pos, List, length, map, get_or, drop, ap, sym, refl, subst, ◌+◌, ◌∙◌, arith, ◌⊎◌, inl, inr, true, false}
use Rattle.std.proofs.lemmas.List.{length-map}
use Rattle.std.proofs.lemmas.Bool.{cases_Bool}
use Rattle.std.proofs.lemmas.Slice.Eq.{bytes_eq-Decides}
use Rattle.std.specs.Prelude.{codes, ◌<ℤ◌, ◌≤ℤ◌, negsuc}
use Rattle.std.proofs.lemmas.Int.{ints}
use Rattle.std.specs.Str.{bytes_eq}
use Rattle.std.specs.List.{AllByRecursion}
use Rattle.std.specs.Fmt.{decimal, signed_decimal}
use Rattle.crew_num.specs.declared.Op.{Op}
use Rattle.crew_num.specs.declared.Overflow.{Overflow}
use Rattle.crew_terms.specs.Words.{Words}
use Rattle.dossier_terms.specs.Lines.{op_word, overflow_line, spare_line}
use Rattle.dossier_terms.specs.Ranges.{BeginsWhy, IsWhy, IsWhyOverflow, IsOverflowLine, IsSpareLine}
use Rattle.dossier_terms.specs.Rules.{IsShape}
use Rattle.dossier_terms.specs.Apart.{op_one}
use Rattle.line_in.specs.Fields.{SpellBelow}
use Rattle.cert_format.specs.declared.kinds.LineKind.{LineKind}
use Rattle.cert_format.specs.declared.kinds.LineKind.TheVariants as kinds
use Rattle.cert_format.specs.Lines.{IsWhyLine, IsShareOf, IsSpareOf, HasWhyShape, NoneShape, LooseShape, OverflowShape, SpentShape}
use Rattle.line_in.proofs.WideWords.{dec_vast, sdec_vast, one_list}

-- ---- a line says one thing

-- the first byte of word k
abbrev byte_of : ℕ → Words → ℕ
byte_of k ws = get_or (get_or ws k []) 0 0

-- words that are equal at a place are equal there
word_at : (k : ℕ) (ws xs ys : Words) → ws ≡ xs → ws ≡ ys → get_or xs k [] ≡ get_or ys k []
word_at k ws xs ys e f = sym (ap (λ zs. get_or zs k []) e) ∙ ap (λ zs. get_or zs k []) f

-- lines of causes of two kinds
other_kind : (ws xs ys : Words) → (byte_of 1 xs ≡ byte_of 1 ys → ⊥) → ws ≡ xs → ws ≡ ys → ⊥
other_kind ws xs ys other e f = other (ap (λ w. get_or w 0 0) (word_at 1 ws xs ys e f))

same_fault : (f g : Overflow) → f.op ≡ g.op → f.a ≡ g.a → f.b ≡ g.b → f ≡ g
same_fault f g op a b = ap (λ (o : Op). record f { op = o }) op ∙ ap (λ (z : ℤ). record f { op = g.op; a = z }) a ∙ ap (λ (z : ℤ). record g { b = z }) b

pub why_one : (tasks : ℕ) (ws : Words) (a b : LineKind) → tasks < 4294967296 → IsWhyLine tasks ws a → IsWhyLine tasks ws b → a ≡ b
why_one tasks ws kinds.WhyNone kinds.WhyNone few h g = refl
why_one tasks ws (kinds.WhyLoose u w c) (kinds.WhyLoose u' w' c') few (h, e) (g, f) =
    let p = dec_vast u u' (omega (arith, h.now.known)) (omega (arith, g.now.known)) (word_at 2 ws _ _ e f) in
    let q = dec_vast w w' (omega (arith, h.whole)) (omega (arith, g.whole)) (word_at 3 ws _ _ e f) in
    let r = dec_vast c c' (omega (arith, h.count)) (omega (arith, g.count)) (word_at 4 ws _ _ e f) in
    cc
why_one tasks ws (kinds.WhyOverflow u o) (kinds.WhyOverflow u' o') few (h, e) (g, f) =
    let p = dec_vast u u' (omega (arith, h.now.known)) (omega (arith, g.now.known)) (word_at 2 ws _ _ e f) in
    let q = same_fault o o' (op_one o.op o'.op (word_at 3 ws _ _ e f)) (sdec_vast o.a o'.a h.a g.a (word_at 4 ws _ _ e f)) (sdec_vast o.b o'.b h.b g.b (word_at 5 ws _ _ e f)) in
    cc
why_one tasks ws (kinds.WhySpent u) (kinds.WhySpent u') few (h, e) (g, f) =
    let p = dec_vast u u' (omega (arith, h.known)) (omega (arith, g.known)) (word_at 2 ws _ _ e f) in
    cc
why_one tasks ws kinds.WhyNone (kinds.WhyLoose u w c) few h (g, f) = absurd (other_kind ws _ _ (λ l. omega arith) h f)
why_one tasks ws kinds.WhyNone (kinds.WhyOverflow u o) few h (g, f) = absurd (other_kind ws _ _ (λ l. omega arith) h f)
why_one tasks ws kinds.WhyNone (kinds.WhySpent u) few h (g, f) = absurd (other_kind ws _ _ (λ l. omega arith) h f)
why_one tasks ws (kinds.WhyLoose u w c) kinds.WhyNone few (h, e) g = absurd (other_kind ws _ _ (λ l. omega arith) e g)
why_one tasks ws (kinds.WhyLoose u w c) (kinds.WhyOverflow v o) few (h, e) (g, f) = absurd (other_kind ws _ _ (λ l. omega arith) e f)
why_one tasks ws (kinds.WhyLoose u w c) (kinds.WhySpent v) few (h, e) (g, f) = absurd (other_kind ws _ _ (λ l. omega arith) e f)
why_one tasks ws (kinds.WhyOverflow u o) kinds.WhyNone few (h, e) g = absurd (other_kind ws _ _ (λ l. omega arith) e g)
why_one tasks ws (kinds.WhyOverflow u o) (kinds.WhyLoose v w c) few (h, e) (g, f) = absurd (other_kind ws _ _ (λ l. omega arith) e f)
why_one tasks ws (kinds.WhyOverflow u o) (kinds.WhySpent v) few (h, e) (g, f) = absurd (other_kind ws _ _ (λ l. omega arith) e f)
why_one tasks ws (kinds.WhySpent u) kinds.WhyNone few (h, e) g = absurd (other_kind ws _ _ (λ l. omega arith) e g)
why_one tasks ws (kinds.WhySpent u) (kinds.WhyLoose v w c) few (h, e) (g, f) = absurd (other_kind ws _ _ (λ l. omega arith) e f)
why_one tasks ws (kinds.WhySpent u) (kinds.WhyOverflow v o) few (h, e) (g, f) = absurd (other_kind ws _ _ (λ l. omega arith) e f)
why_one tasks ws kinds.WhyNone _ few h g = absurd g
why_one tasks ws (kinds.WhyLoose u w c) _ few h g = absurd g
why_one tasks ws (kinds.WhyOverflow u o) _ few h g = absurd g
why_one tasks ws (kinds.WhySpent u) _ few h g = absurd g
why_one tasks ws _ _ few h g = absurd h

pub share_one : (columns : ℕ) (whole : ℤ) (ws : Words) (a b : LineKind) → columns < 2 ^ 64 → whole <ℤ pos 170141183460469231731687303715884105728
    → IsShareOf columns whole ws a → IsShareOf columns whole ws b → a ≡ b
share_one columns whole ws (kinds.Share c p) (kinds.Share d q) few small (w, i, h, e) (v, j, g, f) =
    let bound : w < 170141183460469231731687303715884105728 = omega (arith, ints) in
    let other : v < 170141183460469231731687303715884105728 = omega (arith, ints) in
    let s = dec_vast c d (omega (arith, h.known)) (omega (arith, g.known)) (word_at 1 ws _ _ e f) in
    let t = dec_vast p q (omega (arith, h.most)) (omega (arith, g.most)) (word_at 2 ws _ _ e f) in
    cc
share_one columns whole ws (kinds.Share c p) _ few small h g = absurd g
share_one columns whole ws _ _ few small h g = absurd h

below_past : (whole : ℕ) (ks : List ℕ) → AllByRecursion (λ z. z ≤ whole) ks → AllByRecursion (λ k. k < whole + 1) ks
below_past whole [] h = tt
below_past whole (k ∷ ks) h = (omega (arith, h.0), below_past whole ks h.1)

pub spare_one : (tasks : ℕ) (whole : ℤ) (ws : Words) (a b : LineKind) → whole <ℤ pos 170141183460469231731687303715884105728 → IsSpareOf tasks whole ws a → IsSpareOf tasks whole ws b → a ≡ b
spare_one tasks whole ws (kinds.Spare ks) (kinds.Spare js) small (w, i, h, e) (v, j, g, f) =
    let bound : w < 170141183460469231731687303715884105728 = omega (arith, ints) in
    let same : w ≡ v = omega (arith, ints) in
    let few : AllByRecursion (λ z. z ≤ w) js = subst (λ n. AllByRecursion (λ z. z ≤ n) js) (sym same) g.most in
    let s : codes "spare" ∷ map decimal ks ≡ codes "spare" ∷ map decimal js = sym e ∙ f in
    ap (λ (zs : List ℕ). kinds.Spare zs) (one_list (w + 1) ks js (omega arith) (below_past w ks h.most) (below_past w js few) (ap (drop 1) s))
spare_one tasks whole ws (kinds.Spare ks) _ small h g = absurd g
spare_one tasks whole ws _ _ small h g = absurd h

-- ---- a line that is read has its shape

pub why_shape : (tasks : ℕ) (ws : Words) (kind : LineKind) → IsWhyLine tasks ws kind → HasWhyShape ws
why_shape tasks ws kinds.WhyNone h = NoneShape h
why_shape tasks ws (kinds.WhyLoose now whole count) (h, is) = LooseShape (_, is, refl)
why_shape tasks ws (kinds.WhyOverflow now fault) (h, is) = OverflowShape (fault.op, _, _, _, is)
why_shape tasks ws (kinds.WhySpent now) (h, is) = SpentShape (_, is, refl)
why_shape tasks ws _ h = absurd h

-- ---- overflows

-- four words behind the kind, the second of them an operation
pub overflow_shape : (ws : Words) (op : Op) → IsWhy (codes "overflow") 4 ws → get_or ws 3 [] ≡ op_word op → IsWhyOverflow ws
overflow_shape ws op ([], is, few) e = absurd (omega arith)
overflow_shape ws op (u ∷ [], is, few) e = absurd (omega arith)
overflow_shape ws op (u ∷ v ∷ [], is, few) e = absurd (omega arith)
overflow_shape ws op (u ∷ v ∷ x ∷ [], is, few) e = absurd (omega arith)
overflow_shape ws op (u ∷ v ∷ x ∷ y ∷ [], is, few) e =
    let word : v ≡ op_word op = sym (ap (λ zs. get_or zs 3 []) is) ∙ e in
    (op, u, x, y, is ∙ ap (λ w. codes "why" ∷ codes "overflow" ∷ u ∷ w ∷ x ∷ y ∷ []) word)
overflow_shape ws op (u ∷ v ∷ x ∷ y ∷ z ∷ zs, is, few) e = absurd (omega arith)

-- a line of an overflow is no line of a cause unless it is one of an overflow
pub overflow_only : (tasks : ℕ) (ws : Words) → IsWhy (codes "overflow") 4 ws
    → ((now : ℕ) (fault : Overflow) → IsOverflowLine tasks (now, fault) → ws ≡ overflow_line now fault → ⊥) → (kind : LineKind) → IsWhyLine tasks ws kind → ⊥
overflow_only tasks ws s none kinds.WhyNone h = absurd (other_kind ws _ _ (λ l. omega arith) s.1 h)
overflow_only tasks ws s none (kinds.WhyLoose now whole count) (h, e) = absurd (other_kind ws _ _ (λ l. omega arith) s.1 e)
overflow_only tasks ws s none (kinds.WhyOverflow now fault) (h, e) = none now fault h e
overflow_only tasks ws s none (kinds.WhySpent now) (h, e) = absurd (other_kind ws _ _ (λ l. omega arith) s.1 e)
overflow_only tasks ws s none _ h = absurd h

-- the words of a line of an overflow
pub overflow_words : (ws : Words) (now : ℕ) (op : Op) (a b : ℤ) → IsWhy (codes "overflow") 4 ws → get_or ws 2 [] ≡ decimal now → get_or ws 3 [] ≡ op_word op
    → get_or ws 4 [] ≡ signed_decimal a → get_or ws 5 [] ≡ signed_decimal b → ws ≡ overflow_line now (record { op = op; a = a; b = b })
overflow_words ws now op a b ([], is, few) p q r s = absurd (omega arith)
overflow_words ws now op a b (u ∷ [], is, few) p q r s = absurd (omega arith)
overflow_words ws now op a b (u ∷ v ∷ [], is, few) p q r s = absurd (omega arith)
overflow_words ws now op a b (u ∷ v ∷ x ∷ [], is, few) p q r s = absurd (omega arith)
overflow_words ws now op a b (u ∷ v ∷ x ∷ y ∷ [], is, few) p q r s =
    let i : u ≡ decimal now = sym (ap (λ zs. get_or zs 2 []) is) ∙ p in
    let j : v ≡ op_word op = sym (ap (λ zs. get_or zs 3 []) is) ∙ q in
    let k : x ≡ signed_decimal a = sym (ap (λ zs. get_or zs 4 []) is) ∙ r in
    let l : y ≡ signed_decimal b = sym (ap (λ zs. get_or zs 5 []) is) ∙ s in
    is ∙ ap (λ w. codes "why" ∷ codes "overflow" ∷ w ∷ v ∷ x ∷ y ∷ []) i ∙ ap (λ w. codes "why" ∷ codes "overflow" ∷ decimal now ∷ w ∷ x ∷ y ∷ []) j
    ∙ ap (λ w. codes "why" ∷ codes "overflow" ∷ decimal now ∷ op_word op ∷ w ∷ y ∷ []) k ∙ ap (λ w. codes "why" ∷ codes "overflow" ∷ decimal now ∷ op_word op ∷ signed_decimal a ∷ w ∷ []) l
overflow_words ws now op a b (u ∷ v ∷ x ∷ y ∷ z ∷ zs, is, few) p q r s = absurd (omega arith)

-- ---- the line `spare`

at_most : (w : ℕ) (ks : List ℕ) → AllByRecursion (λ k. k < w + 1) ks → AllByRecursion (λ z. z ≤ w) ks
at_most w [] h = tt
at_most w (k ∷ ks) h = (omega (arith, h.0), at_most w ks h.1)

pub spare_is : (whole : ℤ) (past tasks : ℕ) (ks : List ℕ) (ws : Words) → pos 0 ≤ℤ whole → ((w : ℕ) → whole ≡ pos w → past ≡ w + 1) → IsShape (codes "spare") tasks ws
    → SpellBelow past ks (drop 1 ws) → (x : ℕ) × (whole ≡ pos x) × IsSpareLine tasks x ks × (ws ≡ spare_line ks)
spare_is (negsuc x) past tasks ks ws low is shape s = absurd (omega (arith, ints))
spare_is (pos x) past tasks ks ws low is shape s =
    let rest : shape.0 ≡ map decimal ks = sym (ap (drop 1) shape.1) ∙ s.spelled in
    let count : length ks ≡ tasks = sym (length-map ks decimal) ∙ ap length (sym rest) ∙ shape.2 in
    let below : AllByRecursion (λ k. k < x + 1) ks = subst (λ p. AllByRecursion (λ k. k < p) ks) (is x refl) s.below in
    (x, refl, record { count = count; most = at_most x ks below }, shape.1 ∙ ap (λ vs. codes "spare" ∷ vs) rest)

pub no_spare : (whole : ℤ) (past tasks : ℕ) (ws : Words) → ((w : ℕ) → whole ≡ pos w → past ≡ w + 1) → ((ks : List ℕ) → SpellBelow past ks (drop 1 ws) → ⊥)
    → (kind : LineKind) → IsSpareOf tasks whole ws kind → ⊥
no_spare whole past tasks ws is none (kinds.Spare ks) (w, e, h, line) =
    none ks (record { below = subst (λ p. AllByRecursion (λ k. k < p) ks) (sym (is w e)) (below_past w ks h.most); spelled = ap (drop 1) line })
no_spare whole past tasks ws is none _ h = absurd h

-- ---- kinds of causes

-- whether a line is a cause of a kind
pub begins_why : (kind : List ℕ) (ws : Words) → BeginsWhy kind ws ⊎ (BeginsWhy kind ws → ⊥)
begins_why kind [] = inr (λ b. let e = b.1 in cc)
begins_why kind (x ∷ []) = inr (λ b. let e : x ∷ [] ≡ codes "why" ∷ kind ∷ b.0 = b.1 in let f = ap length e in absurd (omega arith))
begins_why kind (x ∷ y ∷ ws) = at (cases_Bool (bytes_eq x (codes "why"))) (cases_Bool (bytes_eq y kind))
  where
    same : (v w : List ℕ) → bytes_eq v w ≡ false → v ≡ w → ⊥
    same v w e f = let h : bytes_eq v w ≡ true = (bytes_eq-Decides v w).1 f in let i : true ≡ false = sym h ∙ e in absurd cc

    at : (bytes_eq x (codes "why") ≡ true) ⊎ (bytes_eq x (codes "why") ≡ false) → (bytes_eq y kind ≡ true) ⊎ (bytes_eq y kind ≡ false)
        → BeginsWhy kind (x ∷ y ∷ ws) ⊎ (BeginsWhy kind (x ∷ y ∷ ws) → ⊥)
    at (inl e) (inl f) = inl (ws, ap (λ v. v ∷ y ∷ ws) ((bytes_eq-Decides x (codes "why")).0 e) ∙ ap (λ v. codes "why" ∷ v ∷ ws) ((bytes_eq-Decides y kind).0 f))
    at (inr e) s = inr (λ b. same x (codes "why") e (let g = b.1 in cc))
    at (inl e) (inr f) = inr (λ b. same y kind f (let g = b.1 in cc))

-- a line is no cause of two kinds
pub one_why : (k l : List ℕ) (ws : Words) → (get_or k 0 0 ≡ get_or l 0 0 → ⊥) → BeginsWhy k ws → BeginsWhy l ws → ⊥
one_why k l ws other a b = other (ap (λ w. get_or w 0 0) (word_at 1 ws _ _ a.1 b.1))
