use Rattle.std.proofs.Common.{◌≡◌, ◌≢◌, ◌<◌, ◌-◌, ◌^◌, length, take, drop, arith, length-drop, ℕ, List, suc, negsuc, subst, None, Some, to_z}
use Rattle.std.specs.Prelude.{◌≤◌, MatchOption, pos}
use Rattle.std.specs.Int.{w64}
use Rattle.std.proofs.lemmas.Int.{ints}
use Rattle.std.specs.Fmt.{decimal}
use Rattle.std.proofs.lemmas.List.{take_all}
use Rattle.crew_terms.specs.declared.TheConstants.{MOST_NUMBER}
use Rattle.field_table.proofs.Signed.{empty_spells_none, minus_spells, negative_fits, read_back}
use Rattle.field_table.proofs.numbers.read_number.Goals as goal

pub returns-then-is_empty : goal.returns-then-is_empty
returns-then-is_empty c =
    let none = empty_spells_none c.args.bytes.now (grind arith) in
    record { exact = none; back = read_back c.args.bytes.now None tt none }

pub returns-then-bytes-eq45 : goal.returns-then-bytes-eq45
returns-then-bytes-eq45 c =
    let bytes = c.args.bytes.now in
    let some : 0 < length bytes = grind arith in
    let rest : take (length bytes - 1) (drop 1 bytes) ≡ drop 1 bytes = take_all (length bytes - 1) (drop 1 bytes) (omega (arith, length-drop 1 bytes)) in
    let read = subst (λ (ds : List ℕ). MatchOption c.read_negative.result ((n : ℕ) → n < 2 ^ 63 → ds ≢ decimal (suc n)) (λ z. (n : ℕ) × (n < 2 ^ 63) × (z ≡ negsuc n) × (ds ≡ decimal (suc n)))) rest c.read_negative.ensures in
    let exact = minus_spells bytes c.read_negative.result some c.if-bytes-eq45.true read in
    record { exact = exact; back = read_back bytes c.read_negative.result (negative_fits (drop 1 bytes) c.read_negative.result read) exact }

pub returns-clause-back : goal.returns-clause-back
returns-clause-back c =
    let n = c.in_ok-read_digits.field-0 in
    let read : (n ≤ MOST_NUMBER) × (c.args.bytes.now ≡ decimal n) = c.in_ok-read_digits.ensures in
    let most : n ≤ MOST_NUMBER = read.0 in
    let same : to_z w64 n ≡ pos n = omega (arith, ints) in
    rw same (read_back c.args.bytes.now (Some (pos n)) (record { sfits = omega arith }) read.1)
