-- greatest common divisors that are scaled, and least common multiples
use Rattle.std.proofs.Common.{◌≡◌, ◌<◌, ◌≤◌, ◌+◌, ◌*◌, ◌/◌, ◌%◌, ◌++◌, ◌∷◌, [], ◌∙◌, ◌⊎◌, inl, inr, ℕ, zero, suc, List, ap, sym, subst, arith}
use Rattle.std.specs.Prelude.{Contains}
use Rattle.std.specs.Int.{IsGcd, ◌∣◌}
use Rattle.std.proofs.lemmas.Bool.{cases_lt}
use Rattle.std.proofs.lemmas.Nat.Gcd.{IsGcd-from_zero, IsGcd-from_mod, same_from_IsGcd}
use Rattle.std.proofs.Math.Nat.{dvd-mul_right, dvd-mul_left_of_dvd, dvd-mul_right_of_dvd, dvd-add_iff_right, dvd_of_mul-dvd-mul_left, mul-dvd-mul_left, mul-div_cancel'}
use Rattle.std.proofs.lemmas.List.Elements.{Contains-push, Contains-push_cases, Contains-append_left}
use Rattle.search_terms.specs.Overflows.{IsLeastMultiple}

-- what divides multiples of two numbers divides that multiple of their greatest common divisor
record Scales (a b g : ℕ) : Type 0 where
  is : IsGcd a b g
  scaled : (k e : ℕ) → e ∣ a * k → e ∣ b * k → e ∣ g * k

divided : (a b k e : ℕ) → 0 < b → e ∣ a * k → e ∣ b * k → e ∣ a % b * k
divided a b k e some p q =
    let r : a ≡ a / b * b + a % b = omega (arith, some) in
    let f : a * k ≡ a / b * (b * k) + a % b * k = ap (λ x. x * k) r ∙ omega arith in
    (dvd-add_iff_right e (dvd-mul_left_of_dvd e q (a / b))).1 (subst (λ x. e ∣ x) f p)

euclid : (fuel a b : ℕ) → b ≤ fuel → (g : ℕ) × Scales a b g
euclid zero a b le =
    let z : b ≡ 0 = omega arith in
    (a, record { is = IsGcd-from_zero a b z; scaled = λ k e p q. p })
euclid (suc fuel) a b le = by_case (cases_lt 0 b) (λ x y le. euclid fuel x y le)
  where
    by_case : (0 < b) ⊎ (b ≤ 0) → ((x y : ℕ) → y ≤ fuel → (g : ℕ) × Scales x y g) → (g : ℕ) × Scales a b g
    by_case (inl some) again =
        let less : a % b < b = omega (arith, some) in
        let s = again b (a % b) (omega arith) in
        (s.0, record { is = IsGcd-from_mod a b s.0 s.1.is; scaled = λ k e p q. s.1.scaled k e q (divided a b k e some p q) })
    by_case (inr none) again =
        let z : b ≡ 0 = omega arith in
        (a, record { is = IsGcd-from_zero a b z; scaled = λ k e p q. p })

pub some_gcd : (a b : ℕ) → (g : ℕ) × IsGcd a b g
some_gcd a b = let s = euclid b a b (omega arith) in (s.0, s.1.is)

pub gcd_scaled : (a b g k e : ℕ) → IsGcd a b g → e ∣ a * k → e ∣ b * k → e ∣ g * k
gcd_scaled a b g k e h p q =
    let s = euclid b a b (omega arith) in
    subst (λ x. e ∣ x * k) (same_from_IsGcd a b s.0 g s.1.is h) (s.1.scaled k e p q)

-- m times what d adds to it divides each multiple of both
next_divides : (m d g c k : ℕ) → 0 < g → IsGcd m d g → c * g ≡ d → m ∣ k → d ∣ k → m * c ∣ k
next_divides m d g c k some h e p q =
    let f = mul-div_cancel' m p in
    let a = subst (λ x. d ∣ x) (sym f) q in
    let b = gcd_scaled m d g (k / m) d h a (dvd-mul_right d (k / m)) in
    let s : g * c ∣ g * (k / m) = subst (λ x. x ∣ g * (k / m)) (sym e ∙ omega arith) b in
    let t = dvd_of_mul-dvd-mul_left c some s in
    subst (λ x. m * c ∣ x) f (mul-dvd-mul_left c m t)

-- the least common multiple of no numbers
pub multiple_none : IsLeastMultiple [] 1
multiple_none = record {
  multiple = λ d h. absurd (omega (arith, h.1));
  least = λ k h. one-divides k;
}
  where
    one-divides : (k : ℕ) → 1 ∣ k
    one-divides k = subst (λ x. 1 ∣ x) (omega arith) (dvd-mul_right 1 k)

-- and with a further number
pub multiple_more : (ds : List ℕ) (m d g c : ℕ) → 0 < g → IsLeastMultiple ds m → IsGcd m d g → c * g ≡ d → IsLeastMultiple (ds ++ d ∷ []) (m * c)
multiple_more ds m d g c some l h e = record {
  multiple = λ x has. by_case x (Contains-push_cases ds d x has);
  least = λ k each. next_divides m d g c k some h e
      (l.least k (λ x has. each x (Contains-append_left ds (d ∷ []) x has)))
      (each d (Contains-push ds d));
}
  where
    of_last : d ∣ m * c
    of_last =
        let f = mul-div_cancel' g h.0 in
        let i : d * (m / g) ≡ m * c = ap (λ x. x * (m / g)) (sym e) ∙ omega arith ∙ ap (λ x. x * c) f in
        subst (λ x. d ∣ x) i (dvd-mul_right d (m / g))

    by_case : (x : ℕ) → Contains ds x ⊎ (d ≡ x) → x ∣ m * c
    by_case x (inl has) = dvd-mul_right_of_dvd x (l.multiple x has) c
    by_case x (inr q) = subst (λ y. y ∣ m * c) q of_last
