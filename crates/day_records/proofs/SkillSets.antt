-- sets of skills, word by word
use Rattle.std.proofs.Common.{◌≡◌, ◌<◌, ◌+◌, ◌*◌, ◌%◌, ◌^◌, ◌⊎◌, ◌++◌, ◌↔◌, inl, inr, ℕ, zero, suc, ℤ, pos, negsuc, ◌≤ℤ◌, ◌<ℤ◌, Bool, true, false, List, [], ◌∷◌, length, take, get_or, refl, sym, subst, ap, ◌∙◌, arith, FitsSigned, to_z, of_z}
use Rattle.std.specs.Prelude.{Contains, bit_or, ◌==◌}
use Rattle.std.specs.List.{AllByRecursion}
use Rattle.std.specs.Int.{bit_at, w64}
use Rattle.std.proofs.lemmas.Bool.{cases_eq}
use Rattle.std.proofs.lemmas.Int.{to_z-of_z, ints}
use Rattle.std.proofs.lemmas.List.{take_more, take_all}
use Rattle.std.proofs.lemmas.List.Elements.{Contains-append_left, Contains-push, Contains-push_cases}
use Rattle.std.proofs.lemmas.Slice.Zip.{all_zipped_more}
use Rattle.std.proofs.lemmas.Nat.Bits.{bit_at_set_same, bit_at_set_other}
use Rattle.crew_terms.specs.declared.TheConstants.{SKILLS}
use Rattle.crew_terms.specs.Words.{Words, words_of}
use Rattle.field_table.specs.Fields.{Spells}
use Rattle.field_table.specs.declared.fields.Kind.TheVariants.{Number}
use Rattle.day_terms.specs.Fields.{skill_words, SpellAll, IsSkill, IsSetOf}

with_bit : (set k : ℕ) → k < SKILLS → (n : ℕ) → (bit_at (bit_or set (1 * 2 ^ k % 18446744073709551616)) n ≡ 1) ↔ ((pos n ≡ pos k) ⊎ (bit_at set n ≡ 1))
with_bit set k within n = elim (cases_eq n k) [
  | inl e ↦
      let same : bit_at (bit_or set (1 * 2 ^ k % 18446744073709551616)) n ≡ 1 = ap (bit_at (bit_or set (1 * 2 ^ k % 18446744073709551616))) e ∙ bit_at_set_same w64 set k within in
      ((λ h. inl (ap pos e)), (λ h. same))
  | inr ne ↦
      let other : bit_at (bit_or set (1 * 2 ^ k % 18446744073709551616)) n ≡ bit_at set n = bit_at_set_other w64 set k within n ne in
      ((λ h. inr (sym other ∙ h)), (λ h. elim h [ inl e ↦ absurd (ne (let f : n ≡ k = cc in f)) | inr h ↦ other ∙ h ]))
]

-- the set with one skill more
pub with_skill_bit : (set : ℕ) (z : ℤ) → FitsSigned w64 z → pos 0 ≤ℤ z → z <ℤ pos SKILLS
    → (n : ℕ) → (bit_at (bit_or set (1 * 2 ^ (lib.IntN.nat_abs (to_z w64 (of_z w64 z))) % 18446744073709551616)) n ≡ 1) ↔ ((pos n ≡ z) ⊎ (bit_at set n ≡ 1))
with_skill_bit set (pos k) fit low high n = rw (to_z-of_z w64 (pos k) fit) (with_bit set k (omega (arith, ints)) n)
with_skill_bit set (negsuc k) fit low high n = absurd (omega (arith, ints))

-- the numbers of the first k words, the set of those that are skills, and whether all of them are
pub record Tally (words : Words) (k : ℕ) (known : Bool) (set : ℕ) : Type 0 where
  pub numbers : List ℤ
  pub spelled : SpellAll (take k words) numbers
  pub good : known ≡ true → AllByRecursion IsSkill numbers × IsSetOf numbers set
  pub bad : known ≡ false → AllByRecursion IsSkill numbers → ⊥

skills_push : (numbers : List ℤ) (z : ℤ) → AllByRecursion IsSkill numbers → IsSkill z → AllByRecursion IsSkill (numbers ++ z ∷ [])
skills_push [] z all here = (here, tt)
skills_push (y ∷ ys) z all here = (all.0, skills_push ys z all.1 here)

skills_last : (numbers : List ℤ) (z : ℤ) → AllByRecursion IsSkill (numbers ++ z ∷ []) → AllByRecursion IsSkill numbers × IsSkill z
skills_last [] z all = (tt, all.0)
skills_last (y ∷ ys) z all = let r = skills_last ys z all.1 in ((all.0, r.0), r.1)

spelled_more : (words : Words) (k : ℕ) (numbers : List ℤ) (w : List ℕ) (z : ℤ) → k < length words → w ≡ get_or words k w → SpellAll (take k words) numbers → Spells Number w z
    → SpellAll (take (k + 1) words) (numbers ++ z ∷ [])
spelled_more words k numbers w z within is all here =
    subst (λ ws. SpellAll ws (numbers ++ z ∷ [])) (ap (λ v. take k words ++ v ∷ []) is ∙ sym (take_more words k w within)) (all_zipped_more (Spells Number) (take k words) numbers w z all here)

-- one word more, which spells a skill
pub tally_skill : (words : Words) (k : ℕ) (known : Bool) (set more : ℕ) (w : List ℕ) (z : ℤ) → k < length words → w ≡ get_or words k w → Spells Number w z
    → pos 0 ≤ℤ z → z <ℤ pos SKILLS → more < 2 ^ SKILLS → ((n : ℕ) → (bit_at more n ≡ 1) ↔ ((pos n ≡ z) ⊎ (bit_at set n ≡ 1)))
    → Tally words k known set → Tally words (k + 1) known more
tally_skill words k known set more w z within is here low high small members t =
    let skill : IsSkill z = skill_of z low high in
    record {
      numbers = t.numbers ++ z ∷ [];
      spelled = spelled_more words k t.numbers w z within is t.spelled here;
      good = λ e. let g = t.good e in (
        skills_push t.numbers z g.0 skill,
        record {
          small = small;
          members = λ n. (
            (λ h. elim ((members n).0 h) [
              | inl e ↦ subst (Contains (t.numbers ++ z ∷ [])) (sym e) (Contains-push t.numbers z)
              | inr old ↦ Contains-append_left t.numbers (z ∷ []) (pos n) ((g.1.members n).0 old)
            ]),
            (λ h. elim (Contains-push_cases t.numbers z (pos n) h) [
              | inl old ↦ (members n).1 (inr ((g.1.members n).1 old))
              | inr e ↦ (members n).1 (inl (sym e))
            ]),
          );
        },
      );
      bad = λ e all. t.bad e (skills_last t.numbers z all).0;
    }
  where
    skill_of : (z : ℤ) → pos 0 ≤ℤ z → z <ℤ pos SKILLS → IsSkill z
    skill_of (pos n) low high = (n, omega (arith, ints), refl)
    skill_of (negsuc n) low high = absurd (omega (arith, ints))

-- one word more, which spells no skill
pub tally_other : (words : Words) (k : ℕ) (known : Bool) (set : ℕ) (w : List ℕ) (z : ℤ) → k < length words → w ≡ get_or words k w → Spells Number w z
    → (IsSkill z → ⊥) → Tally words k known set → Tally words (k + 1) false set
tally_other words k known set w z within is here not_skill t = record {
  numbers = t.numbers ++ z ∷ [];
  spelled = spelled_more words k t.numbers w z within is t.spelled here;
  good = λ e. cc;
  bad = λ _ all. not_skill (skills_last t.numbers z all).1;
}

-- no skill lies outside the range
pub below_skills : (z : ℤ) → (pos 0 ≤ℤ z → ⊥) → IsSkill z → ⊥
below_skills z low (n, h, e) = low (subst (λ y. pos 0 ≤ℤ y) (sym e) (omega (arith, ints)))

pub above_skills : (z : ℤ) → (z <ℤ pos SKILLS → ⊥) → IsSkill z → ⊥
above_skills z high (n, h, e) = high (subst (λ y. y <ℤ pos SKILLS) (sym e) (omega (arith, ints)))

-- the words of a field that is not empty
pub words_are : (field : List ℕ) (empty : Bool) → empty ≡ (length field == 0) → empty ≡ false → skill_words field ≡ words_of field
words_are [] empty is false_ = cc
words_are (b ∷ bs) empty is false_ = refl

-- all words have been counted
pub all_spelled : (field : List ℕ) (k : ℕ) (numbers : List ℤ) → skill_words field ≡ words_of field → k ≡ length (words_of field)
    → SpellAll (take k (words_of field)) numbers → SpellAll (skill_words field) numbers
all_spelled field k numbers same all spelled =
    subst (λ ws. SpellAll ws numbers) (take_all k (words_of field) (omega arith) ∙ sym same) spelled

-- each word of a list of numbers spells one
pub spelled_at : (words : Words) (numbers : List ℤ) (k : ℕ) (d : List ℕ) → k < length words → SpellAll words numbers → (z : ℤ) × Spells Number (get_or words k d) z
spelled_at [] numbers k d within all = absurd (omega arith)
spelled_at (w ∷ ws) [] k d within all = absurd all
spelled_at (w ∷ ws) (z ∷ zs) zero d within all = (z, all.0)
spelled_at (w ∷ ws) (z ∷ zs) (suc k) d within all = spelled_at ws zs k d (omega arith) all.1
