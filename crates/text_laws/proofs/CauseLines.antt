-- the lines of a cause
use Rattle.std.proofs.Common.{◌≤◌, ◌<◌, ◌+◌, [], ◌∷◌, ℕ, List, length, map, refl, arith}
use Rattle.std.proofs.lemmas.List.{get_or_default, length-map}
use Rattle.std.proofs.lemmas.List.Elements.{recursion_from_All}
use Rattle.std.specs.Prelude.{codes}
use Rattle.std.specs.List.{AllByRecursion}
use Rattle.std.specs.Fmt.{decimal}
use Rattle.crew_num.specs.declared.Op.{Op}
use Rattle.crew_num.specs.declared.Op.TheVariants.{Add, Sub, Mul}
use Rattle.crew_num.specs.declared.Overflow.{Overflow}
use Rattle.crew_terms.specs.Limits.{Limits, Route, tasks_in}
use Rattle.crew_terms.specs.Words.{Words}
use Rattle.crew_terms.specs.declared.TheConstants.{MOST_TASKS, MOST_NUMBER}
use Rattle.dossier_terms.specs.declared.DossierForm.TheVariants.{Two}
use Rattle.dossier_terms.specs.Causes.{Cause, NoCause, Loose, Overflowed, Spent, Part, IsPartOf, IsCauseOf, IsCauseIn}
use Rattle.dossier_terms.specs.Counted.{IsVast, vast}
use Rattle.dossier_terms.specs.Lines.{cause_lines, loose_line, share_line, spare_line, op_word, overflow_line, spent_line}
use Rattle.text_laws.specs.Texts.{AreLine}
use Rattle.text_laws.proofs.Lists.{rec-append, rec-map}
use Rattle.text_laws.proofs.Short.{IsShort, short_line, fixed, number, long_number, long_signed}
use Rattle.text_laws.proofs.Spellings.{why_none_is_line}

-- ---- the lines

-- fits 127 bits
abbrev IsLong : ℕ → Type 0
IsLong n = n ≤ 170141183460469231731687303715884105727

long : (n : ℕ) → IsLong n → IsShort 40 (decimal n)
long n l = long_number 40 n (omega arith) (omega arith)

few : (n : ℕ) → n < 18446744073709551616 → IsShort 40 (decimal n)
few n l = number 40 n (omega arith) l

-- a first word and so many more of at most 40 bytes
wide_words : (n : ℕ) (w : List ℕ) (ws : Words) → n ≤ 3000 → length (w ∷ ws) ≤ n → AllByRecursion (IsShort 40) (w ∷ ws) → AreLine (w ∷ ws)
wide_words n w ws room count h = short_line 40 3000 w ws (omega arith) (omega arith) h

why : IsShort 40 (codes "why")
why = fixed 40 (codes "why") refl (omega arith)

loose_is_line : (now whole count : ℕ) → now < 18446744073709551616 → IsLong whole → count < 18446744073709551616 → AreLine (loose_line now whole count)
loose_is_line now whole count a b c = wide_words 5 (codes "why") _ (omega arith) (omega arith) (why, (fixed 40 (codes "loose") refl (omega arith), (few now a, (long whole b, (few count c, tt)))))

share_is_line : (columns whole : ℕ) → columns ≤ MOST_NUMBER → IsLong whole → (p : Part) → IsPartOf columns whole p → AreLine (share_line p)
share_is_line columns whole a b p h = wide_words 3 (codes "share") _ (omega arith) (omega arith)
    (fixed 40 (codes "share") refl (omega arith), (few p.column (omega (arith, h.known)), (long p.parts (omega (arith, h.most)), tt)))

spare_is_line : (spare : List ℕ) → length spare ≤ MOST_TASKS → AllByRecursion IsLong spare → AreLine (spare_line spare)
spare_is_line spare count h = wide_words (MOST_TASKS + 1) (codes "spare") _ (omega arith) (omega (arith, length-map spare decimal))
    (fixed 40 (codes "spare") refl (omega arith), rec-map IsLong (IsShort 40) decimal long spare h)

op_short : (op : Op) → IsShort 40 (op_word op)
op_short Add = fixed 40 (codes "add") refl (omega arith)
op_short Sub = fixed 40 (codes "sub") refl (omega arith)
op_short Mul = fixed 40 (codes "mul") refl (omega arith)

overflow_is_line : (now : ℕ) (fault : Overflow) → now < 18446744073709551616 → IsVast fault.a → IsVast fault.b → AreLine (overflow_line now fault)
overflow_is_line now fault l a b = wide_words 6 (codes "why") _ (omega arith) (omega arith)
    (why, (fixed 40 (codes "overflow") refl (omega arith), (few now l, (op_short fault.op, (long_signed fault.a a, (long_signed fault.b b, tt))))))

spent_is_line : (now : ℕ) → now < 18446744073709551616 → AreLine (spent_line now)
spent_is_line now l = wide_words 3 (codes "why") _ (omega arith) (omega arith) (why, (fixed 40 (codes "spent") refl (omega arith), (few now l, tt)))

-- ---- causes that may be told

shares_good : (columns whole : ℕ) → columns ≤ MOST_NUMBER → IsLong whole → (parts : List Part) → AllByRecursion (IsPartOf columns whole) parts → AllByRecursion AreLine (map share_line parts)
shares_good columns whole a b parts h = rec-map (IsPartOf columns whole) AreLine share_line (share_is_line columns whole a b) parts h

cause_in_good : (pool : List Route) (n : Limits) (u : ℕ) (cause : Cause) → length pool ≤ MOST_NUMBER → tasks_in n ≤ MOST_TASKS → IsCauseIn pool n u cause → AllByRecursion AreLine (cause_lines cause)
cause_in_good pool n u NoCause many few_tasks h = (why_none_is_line, tt)
cause_in_good pool n u (Loose now s) many few_tasks h =
    let known = h.0.known in
    let choice = h.2.choice in
    let small : AllByRecursion IsLong s.spare = recursion_from_All IsLong s.spare (λ j d l. let a = choice.unassigned j in let b = get_or_default s.spare j 0 d l in let c = h.1.whole in omega arith) in
    let count = h.1.count in
    let all = choice.tasks in (
      loose_is_line now s.whole (length s.parts) (omega arith) h.1.whole (omega arith),
      rec-append AreLine (map share_line s.parts) (spare_line s.spare ∷ []) (shares_good (length pool) s.whole many h.1.whole s.parts h.1.parts) (spare_is_line s.spare (omega arith) small, tt),
    )
cause_in_good pool n u (Overflowed now fault) many few_tasks h = let known = h.0.known in (overflow_is_line now fault (omega arith) (vast fault.a h.1.a) (vast fault.b h.1.b), tt)
cause_in_good pool n u (Spent now) many few_tasks h = let known = h.known in (spent_is_line now (omega arith), tt)

-- the same, where form 2 has it
pub cause_good : (pool : List Route) (n : Limits) (u : ℕ) (cause : Cause) → length pool ≤ MOST_NUMBER → tasks_in n ≤ MOST_TASKS → IsCauseOf Two pool n u cause → AllByRecursion AreLine (cause_lines cause)
cause_good pool n u cause many few_tasks h = cause_in_good pool n u cause many few_tasks h
