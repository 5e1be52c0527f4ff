-- lists whose texts begin one text: they are one list, or one of them goes on from the other
use Rattle.std.proofs.Common.{◌≡◌, ◌++◌, ℕ, List, [], ◌∷◌, ap, sym, refl, ◌∙◌, append_assoc}
use Rattle.std.specs.Prelude.{All, flat_map}
use Rattle.std.proofs.lemmas.List.Elements.{All-head, All-tail}

pub data Order {X : Type 0} (text : X → List ℕ) (xs ys : List X) (a b : List ℕ) : Type 0 where
  Same : (all : xs ≡ ys) (rest : a ≡ b) → Order text xs ys a b
  Shorter : (y : X) (more : List X) (all : ys ≡ xs ++ y ∷ more) (rest : a ≡ text y ++ (flat_map text more ++ b)) → Order text xs ys a b
  Longer : (x : X) (more : List X) (all : xs ≡ ys ++ x ∷ more) (rest : b ≡ text x ++ (flat_map text more ++ a)) → Order text xs ys a b

module _ {X : Type 0} (text : X → List ℕ) where
  extend : (x y : X) (xs ys : List X) (a b : List ℕ) → x ≡ y → Order text xs ys a b → Order text (x ∷ xs) (y ∷ ys) a b
  extend x y xs ys a b same (Same all rest) = Same (ap (λ zs. x ∷ zs) all ∙ ap (λ z. z ∷ ys) same) rest
  extend x y xs ys a b same (Shorter z more all rest) = Shorter z more (ap (λ zs. y ∷ zs) all ∙ ap (λ w. w ∷ (xs ++ z ∷ more)) (sym same)) rest
  extend x y xs ys a b same (Longer z more all rest) = Longer z more (ap (λ zs. x ∷ zs) all ∙ ap (λ w. w ∷ (ys ++ z ∷ more)) same) rest

  -- no text of a good one begins with that of another
  module _ (Good : X → Type 0) (first : (x y : X) (a b : List ℕ) → Good x → Good y → text x ++ a ≡ text y ++ b → (x ≡ y) × (a ≡ b)) where
    pub order : (xs ys : List X) (a b : List ℕ) → All Good xs → All Good ys → flat_map text xs ++ a ≡ flat_map text ys ++ b → Order text xs ys a b
    order [] [] a b g h e = Same refl e
    order [] (y ∷ ys) a b g h e = Shorter y ys refl (e ∙ append_assoc (text y) (flat_map text ys) b)
    order (x ∷ xs) [] a b g h e = Longer x xs refl (sym e ∙ append_assoc (text x) (flat_map text xs) a)
    order (x ∷ xs) (y ∷ ys) a b g h e =
        let f = first x y (flat_map text xs ++ a) (flat_map text ys ++ b) (All-head Good x xs g) (All-head Good y ys h)
        (sym (append_assoc (text x) (flat_map text xs) a) ∙ e ∙ append_assoc (text y) (flat_map text ys) b) in
        extend x y xs ys a b f.0 (order xs ys a b (All-tail Good x xs g) (All-tail Good y ys h) f.1)
