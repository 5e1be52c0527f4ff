-- no two causes have one spelling
use Rattle.std.proofs.Common.{◌≡◌, ◌≤◌, ℕ, suc, ℤ, pos, negsuc, List, ◌∷◌, ap, sym, ◌∙◌, arith, true, false}
use Rattle.std.proofs.lemmas.Int.{ints}
use Rattle.std.specs.Prelude.{◌≤ℤ◌}
use Rattle.std.specs.Fmt.{decimal, signed_decimal}
use Rattle.std.specs.Str.{all_ascii_digits}
use Rattle.std.proofs.lemmas.Fmt.{decimal_is_IsNumeral_wide}
use Rattle.crew_num.specs.declared.Op.{Op}
use Rattle.crew_num.specs.declared.Overflow.{Overflow}
use Rattle.crew_terms.specs.declared.TheConstants.{MOST_TASKS, MOST_NUMBER}
use Rattle.dossier_terms.specs.Causes.{Part, IsPartOf}
use Rattle.dossier_terms.specs.Counted.{IsVast, vast}
use Rattle.dossier_terms.specs.Lines.{loose_line, share_line, spare_line, op_word, overflow_line, spent_line}
use Rattle.dossier_terms.specs.Ranges.{IsNowWord, IsLooseLine, IsSpareLine, IsOverflowLine}
use Rattle.dossier_terms.specs.Apart.{op_one}
use Rattle.dossier_laws.proofs.Spellings.{dec, map_one, own, read_on}

-- ---- numbers of 128 bits

dec_vast : (m n : ℕ) → m ≤ 170141183460469231731687303715884105728 → n ≤ 170141183460469231731687303715884105728 → decimal m ≡ decimal n → m ≡ n
dec_vast m n a b e = sym (read_back m a) ∙ ap (read_on 0) e ∙ read_back n b
  where
    read_back : (k : ℕ) → k ≤ 170141183460469231731687303715884105728 → read_on 0 (decimal k) ≡ k
    read_back k l = let d = decimal_is_IsNumeral_wide k (omega arith) in own.same (decimal k) d.0.1 ∙ d.1

no_sign : (n : ℕ) (ds : List ℕ) → n ≤ 170141183460469231731687303715884105728 → decimal n ≡ 45 ∷ ds → ⊥
no_sign n ds h e = let a : true ≡ false = sym (own.from (decimal n) (decimal_is_IsNumeral_wide n (omega arith)).0.1) ∙ ap all_ascii_digits e in absurd cc

small : (m : ℕ) → IsVast (pos m) → m ≤ 170141183460469231731687303715884105728
small m a = let p : pos m ≤ℤ pos 170141183460469231731687303715884105727 = a.most in omega (arith, ints)

small_neg : (m : ℕ) → IsVast (negsuc m) → suc m ≤ 170141183460469231731687303715884105728
small_neg m a = let p : negsuc 170141183460469231731687303715884105727 ≤ℤ negsuc m = a.least in omega (arith, ints)

sdec_vast : (y z : ℤ) → IsVast y → IsVast z → signed_decimal y ≡ signed_decimal z → y ≡ z
sdec_vast (pos m) (pos n) a b e = ap pos (dec_vast m n (small m a) (small n b) e)
sdec_vast (pos m) (negsuc n) a b e = absurd (no_sign m (decimal (suc n)) (small m a) e)
sdec_vast (negsuc m) (pos n) a b e = absurd (no_sign n (decimal (suc m)) (small n b) (sym e))
sdec_vast (negsuc m) (negsuc n) a b e =
    let f : decimal (suc m) ≡ decimal (suc n) = cc in
    let g : suc m ≡ suc n = dec_vast (suc m) (suc n) (small_neg m a) (small_neg n b) f in
    ap negsuc (omega arith)

-- ---- lines

pub loose_one : (n : ℕ) → n ≤ MOST_TASKS → (x y : ℕ × ℕ × ℕ) → IsLooseLine n x → IsLooseLine n y → loose_line x.0 x.1 x.2 ≡ loose_line y.0 y.1 y.2 → x ≡ y
loose_one n few x y a b e =
    let p = dec x.0 y.0 (omega (arith, a.now.known)) (omega (arith, b.now.known)) cc in
    let q = dec_vast x.1 y.1 (omega (arith, a.whole)) (omega (arith, b.whole)) cc in
    let r = dec x.2 y.2 (omega (arith, a.count)) (omega (arith, b.count)) cc in
    ap (λ (k : ℕ). (k, x.1, x.2)) p ∙ ap (λ (k : ℕ). (y.0, k, x.2)) q ∙ ap (λ (k : ℕ). (y.0, y.1, k)) r

pub share_one : (columns whole : ℕ) → columns ≤ MOST_NUMBER → whole ≤ 170141183460469231731687303715884105727
    → (x y : Part) → IsPartOf columns whole x → IsPartOf columns whole y → share_line x ≡ share_line y → x ≡ y
share_one columns whole few small x y a b e =
    let p = dec x.column y.column (omega (arith, a.known)) (omega (arith, b.known)) cc in
    let q = dec_vast x.parts y.parts (omega (arith, a.most)) (omega (arith, b.most)) cc in
    ap (λ (k : ℕ). record x { column = k }) p ∙ ap (λ (k : ℕ). record y { parts = k }) q

pub spare_one : (n whole : ℕ) → whole ≤ 170141183460469231731687303715884105727 → (x y : List ℕ) → IsSpareLine n whole x → IsSpareLine n whole y → spare_line x ≡ spare_line y → x ≡ y
spare_one n whole small x y a b e = map_one decimal (λ z. z ≤ whole) (λ k l h i. dec_vast k l (omega arith) (omega arith)) x y a.most b.most cc

pub overflow_one : (n : ℕ) → n ≤ MOST_TASKS → (x y : ℕ × Overflow) → IsOverflowLine n x → IsOverflowLine n y → overflow_line x.0 x.1 ≡ overflow_line y.0 y.1 → x ≡ y
overflow_one n few x y a b e =
    let p = dec x.0 y.0 (omega (arith, a.now.known)) (omega (arith, b.now.known)) cc in
    let o : op_word x.1.op ≡ op_word y.1.op = cc in
    let q = op_one x.1.op y.1.op o in
    let r = sdec_vast x.1.a y.1.a (vast x.1.a a.a) (vast y.1.a b.a) cc in
    let s = sdec_vast x.1.b y.1.b (vast x.1.b a.b) (vast y.1.b b.b) cc in
    ap (λ (k : ℕ). (k, x.1)) p
    ∙ ap (λ (k : Op). (y.0, record x.1 { op = k })) q
    ∙ ap (λ (k : ℤ). (y.0, record x.1 { op = y.1.op; a = k })) r
    ∙ ap (λ (k : ℤ). (y.0, record y.1 { b = k })) s

pub spent_one : (n : ℕ) → n ≤ MOST_TASKS → (x y : ℕ) → IsNowWord n x → IsNowWord n y → spent_line x ≡ spent_line y → x ≡ y
spent_one n few x y a b e = dec x y (omega (arith, a.known)) (omega (arith, b.known)) cc
