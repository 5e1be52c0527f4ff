-- where a line comes whole nothing stops, and a reading stops for one reason
use Rattle.std.proofs.Common.{◌≡◌, ◌≢◌, ◌<◌, ◌+◌, ◌++◌, ℕ, zero, suc, List, [], ◌∷◌, length, take, ap, sym, subst, refl, ◌∙◌, arith}
use Rattle.std.specs.Prelude.{All}
use Rattle.crew_terms.specs.Words.{IsLine, with_feed}
use Rattle.crew_terms.specs.declared.TheConstants.{LONGEST_LINE}
use Rattle.crew_io.specs.Lines.{NoFeed}
use Rattle.dossier_terms.specs.declared.Reason.{Reason}
use Rattle.dossier_commands.specs.Input.{IsStop, Stops, LineTooLong, InputTooLong}

-- the first line before an LF is one
pub same_line : (a b x y : List ℕ) → All (λ c. c ≢ 10) a → All (λ c. c ≢ 10) b → with_feed a ++ x ≡ with_feed b ++ y → (a ≡ b) × (x ≡ y)
same_line [] [] x y p q e = (refl, cc)
same_line [] (c ∷ b) x y p q e = absurd (q 0 0 (omega arith) (let f : c ≡ 10 = cc in f))
same_line (c ∷ a) [] x y p q e = absurd (p 0 0 (omega arith) (let f : c ≡ 10 = cc in f))
same_line (c ∷ a) (d ∷ b) x y p q e =
    let f : c ≡ d = cc in
    let g : with_feed a ++ x ≡ with_feed b ++ y = cc in
    let r = same_line a b x y (λ k z l. p (suc k) z (omega arith)) (λ k z l. q (suc k) z (omega arith)) g in
    (ap (λ z. z ∷ a) f ∙ ap (λ z. d ∷ z) r.0, r.1)

-- an LF stands after a line
feed_at : (m x : List ℕ) (n : ℕ) → length m < n → NoFeed (take n (with_feed m ++ x)) → ⊥
feed_at m x zero l h = absurd (omega arith)
feed_at [] x (suc n) l h = h 0 0 (omega arith) refl
feed_at (c ∷ m) x (suc n) l h = feed_at m x n (omega arith) (λ k z b. h (suc k) z (omega arith))

feed_in : (m x : List ℕ) → NoFeed (with_feed m ++ x) → ⊥
feed_in [] x h = h 0 0 (omega arith) refl
feed_in (c ∷ m) x h = feed_in m x (λ k z b. h (suc k) z (omega arith))

-- where a line comes whole within the room, nothing stops
pub whole_line : (room : ℕ) (rest : List ℕ) (reason : Reason) (line after : List ℕ) → IsStop room rest reason
    → IsLine line → length line < room → rest ≡ with_feed line ++ after → ⊥
whole_line room rest reason line after (Stops partial part why) plain fits is = feed_in line after (subst NoFeed is part.plain.whole)
whole_line room rest reason line after (LineTooLong long why) plain fits is =
    feed_at line after (LONGEST_LINE + 1) (let a = plain.short in omega arith) (subst (λ x. NoFeed (take (LONGEST_LINE + 1) x)) is long.whole)
whole_line room rest reason line after (InputTooLong long why) plain fits is =
    feed_at line after room fits (subst (λ x. NoFeed (take room x)) is long.whole)

-- a reading stops for one reason
pub one_stop : (room : ℕ) (rest : List ℕ) (reason other : Reason) → IsStop room rest reason → IsStop room rest other → reason ≡ other
one_stop room rest reason other (Stops p a e) (Stops q b f) = e ∙ sym f
one_stop room rest reason other (Stops p a e) (LineTooLong b f) = absurd (let s = a.plain.short in let m = b.more in omega arith)
one_stop room rest reason other (Stops p a e) (InputTooLong b f) = absurd (let s = a.fits in let m = b.more in omega arith)
one_stop room rest reason other (LineTooLong a e) (Stops q b f) = absurd (let s = b.plain.short in let m = a.more in omega arith)
one_stop room rest reason other (LineTooLong a e) (LineTooLong b f) = e ∙ sym f
one_stop room rest reason other (LineTooLong a e) (InputTooLong b f) = absurd (let s = a.large in let m = b.small in omega arith)
one_stop room rest reason other (InputTooLong a e) (Stops q b f) = absurd (let s = b.fits in let m = a.more in omega arith)
one_stop room rest reason other (InputTooLong a e) (LineTooLong b f) = absurd (let s = b.large in let m = a.small in omega arith)
one_stop room rest reason other (InputTooLong a e) (InputTooLong b f) = e ∙ sym f
