-- laws of calls that write texts
use Rattle.std.proofs.Common.{◌≡◌, ◌++◌, ℕ, List, subst}
use Rattle.std.specs.Prelude.{Result, Ok, Err, IsErr}
use Rattle.crew_io.specs.Puts.{Puts}
use Rattle.crew_io.specs.Chains.{first_front, puts_front, puts_then, whole_front}
use Rattle.crew_io.specs.Fronts.{front_within}
use Rattle.crew_io.specs.declared.sink.Sink.{Ghosts}

-- a text by another name, where what is written is known first
pub puts_as : {K T E : Type 0} (sink : Ghosts K) (xs ys : List ℕ) (old new : K) (result : Result T E) → Puts sink xs old new result → xs ≡ ys → Puts sink ys old new result
puts_as sink xs ys old new result p is = subst (λ text. Puts sink text old new result) is p

-- a fault cuts off the first of two texts
pub cut_first : {K T E U F : Type 0} (sink : Ghosts K) (xs ys : List ℕ) (old new : K) (e : E) (result : Result U F) → IsErr result → Puts {T = T} sink xs old new (Err e)
    → Puts sink (xs ++ ys) old new result
cut_first sink xs ys old new e result fails p = puts_front sink xs (xs ++ ys) old new e result fails p (first_front xs ys)

-- and the second of them
pub cut_second : {K S T D E U F : Type 0} (sink : Ghosts K) (xs ys : List ℕ) (old mid new : K) (x : S) (e : E) (result : Result U F) → IsErr result → Puts {E = D} sink xs old mid (Ok x)
    → Puts {T = T} sink ys mid new (Err e) → Puts sink (xs ++ ys) old new result
cut_second sink xs ys old mid new x e result fails p q =
    puts_front sink (xs ++ ys) (xs ++ ys) old new e result fails (puts_then sink xs ys old mid new x (Err e) p q) (whole_front (xs ++ ys))

-- a fault cuts off the first of three texts
pub cut_first_of_three : {K T E U F : Type 0} (sink : Ghosts K) (xs ys zs : List ℕ) (old new : K) (e : E) (result : Result U F) → IsErr result → Puts {T = T} sink xs old new (Err e)
    → Puts sink ((xs ++ ys) ++ zs) old new result
cut_first_of_three sink xs ys zs old new e result fails p =
    puts_front sink xs ((xs ++ ys) ++ zs) old new e result fails p (front_within xs (xs ++ ys) ((xs ++ ys) ++ zs) (first_front xs ys) (first_front (xs ++ ys) zs))

-- and the second of them
pub cut_second_of_three : {K S T D E U F : Type 0} (sink : Ghosts K) (xs ys zs : List ℕ) (old mid new : K) (x : S) (e : E) (result : Result U F) → IsErr result → Puts {E = D} sink xs old mid (Ok x)
    → Puts {T = T} sink ys mid new (Err e) → Puts sink ((xs ++ ys) ++ zs) old new result
cut_second_of_three sink xs ys zs old mid new x e result fails p q =
    puts_front sink (xs ++ ys) ((xs ++ ys) ++ zs) old new e result fails (puts_then sink xs ys old mid new x (Err e) p q) (first_front (xs ++ ys) zs)
