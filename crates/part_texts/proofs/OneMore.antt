-- one part more, and the first ones of parts
use Rattle.std.proofs.Common.{◌≡◌, ◌≢◌, ◌≤◌, ◌<◌, ◌+◌, ◌++◌, ℕ, suc, List, [], ◌∷◌, length, get_or, map, ap, sym, subst, refl, ◌∙◌, arith, append-nil, length-append}
use Rattle.std.specs.Prelude.{All, AllPairs, flat_map}
use Rattle.std.proofs.lemmas.List.{get_or_append_left, map-append}
use Rattle.std.proofs.lemmas.List.Concat.{flat_map-append, flat_map-cons}
use Rattle.std.proofs.lemmas.List.Elements.{All-push}
use Rattle.crew_terms.specs.Instance.{Instance}
use Rattle.crew_terms.specs.Rules.{IsInstance}
use Rattle.dossier_terms.specs.Dossier.{Dossier}
use Rattle.part_terms.specs.Parts.{AreDisjointParts, Part, Restricts}
use Rattle.part_texts.specs.Bundle.{ArePartsOf, HaveTasks, instances_in, instances_of}

-- the tasks of a part, and those of parts in turn
abbrev tasks_of : Part → List ℕ
tasks_of part = part.tasks

abbrev all_tasks : List Part → List ℕ
all_tasks parts = flat_map tasks_of parts

abbrev IsPart : Instance → Part → Type 0
IsPart i part = Restricts i part.instance part.tasks

abbrev Differ : List ℕ → Type 0
Differ ts = AllPairs (λ t u. t ≢ u) ts

one_more : (parts : List Part) (part : Part) → all_tasks (parts ++ part ∷ []) ≡ all_tasks parts ++ part.tasks
one_more parts part = flat_map-append tasks_of parts (part ∷ []) ∙ ap (λ ts. all_tasks parts ++ ts) (flat_map-cons tasks_of part [] ∙ append-nil part.tasks)

instances_more : (ds : List Dossier) (d : Dossier) (parts : List Part) (part : Part) → instances_of ds ≡ instances_in parts → d.instance ≡ part.instance
    → instances_of (ds ++ d ∷ []) ≡ instances_in (parts ++ part ∷ [])
instances_more ds d parts part e f =
    map-append (λ (d : Dossier). d.instance) ds (d ∷ []) ∙ ap (λ js. js ++ d.instance ∷ []) e ∙ ap (λ j. instances_in parts ++ j ∷ []) f
    ∙ sym (map-append (λ (part : Part). part.instance) parts (part ∷ []))

pub more_parts : (i : Instance) (ds : List Dossier) (d : Dossier) (taken tasks : List ℕ) → HaveTasks i ds taken → Restricts i d.instance tasks → Differ (taken ++ tasks)
    → HaveTasks i (ds ++ d ∷ []) (taken ++ tasks)
more_parts i ds d taken tasks h r differ =
    let part : Part = record { instance = d.instance; tasks = tasks } in
    let same : taken ++ tasks ≡ all_tasks (h.parts ++ part ∷ []) = ap (λ ts. ts ++ tasks) h.are ∙ sym (one_more h.parts part) in
    record {
      parts = h.parts ++ part ∷ [];
      instances = instances_more ds d h.parts part h.instances refl;
      disjoint = record { each = All-push (IsPart i) h.parts part h.disjoint.each r; once = subst Differ same differ };
      are = same;
    }

pub last_part : (i : Instance) (ds : List Dossier) (d : Dossier) (parts : List Part) → instances_of (ds ++ d ∷ []) ≡ instances_in parts → All (IsPart i) parts
    → (tasks : List ℕ) × Restricts i d.instance tasks
last_part i [] d [] e each = absurd (cc)
last_part i [] d (part ∷ parts) e each =
    let same : part.instance ≡ d.instance = cc in
    (part.tasks, subst (λ j. Restricts i j part.tasks) same (each 0 part (omega arith)))
last_part i (x ∷ ds) d [] e each = absurd (cc)
last_part i (x ∷ ds) d (part ∷ parts) e each = last_part i ds d parts (let f : instances_of (ds ++ d ∷ []) ≡ instances_in parts = cc in f) (λ m y l. each (suc m) y (omega arith))

pub only_new : ((i : Instance) (xs ys : List Part) → IsInstance i → All (IsPart i) xs → All (IsPart i) ys → instances_in xs ≡ instances_in ys → xs ≡ ys)
    → (i : Instance) (ds : List Dossier) (d : Dossier) (taken tasks : List ℕ) → IsInstance i → HaveTasks i ds taken → Restricts i d.instance tasks
    → ArePartsOf i (ds ++ d ∷ []) → Differ (taken ++ tasks)
only_new one i ds d taken tasks is h r are =
    let part : Part = record { instance = d.instance; tasks = tasks } in
    let other = are.1 in
    let same : other.parts ≡ h.parts ++ part ∷ [] = one i other.parts (h.parts ++ part ∷ []) is other.disjoint.each (All-push (IsPart i) h.parts part h.disjoint.each r)
    (sym other.instances ∙ instances_more ds d h.parts part h.instances refl) in
    subst Differ (ap all_tasks same ∙ one_more h.parts part ∙ ap (λ ts. ts ++ tasks) (sym h.are)) other.disjoint.once

-- ---- the first ones

-- parts whose first ones have these instances
record AreSplit (xs : List Dossier) (parts : List Part) : Type 0 where
  front : List Part
  back : List Part
  is : parts ≡ front ++ back
  instances : instances_of xs ≡ instances_in front

split_parts : (xs ys : List Dossier) (parts : List Part) → instances_of (xs ++ ys) ≡ instances_in parts → AreSplit xs parts
split_parts [] ys parts e = record { front = []; back = parts; is = refl; instances = refl }
split_parts (x ∷ xs) ys [] e = absurd (cc)
split_parts (x ∷ xs) ys (part ∷ parts) e =
    let s = split_parts xs ys parts (let f : instances_of (xs ++ ys) ≡ instances_in parts = cc in f) in
    let first : x.instance ≡ part.instance = cc in
    record {
      front = part ∷ s.front;
      back = s.back;
      is = ap (λ ps. part ∷ ps) s.is;
      instances = ap (λ j. j ∷ instances_of xs) first ∙ ap (λ js. part.instance ∷ js) s.instances;
    }

front_all : (P : Part → Type 0) (xs ys : List Part) → All P (xs ++ ys) → All P xs
front_all P xs ys all m d l = subst P (get_or_append_left xs ys d m l) (all m d (omega (arith, length-append xs ys)))

front_differ : (xs ys : List ℕ) → Differ (xs ++ ys) → Differ xs
front_differ xs ys all m n d l h e =
    all m n d l (omega (arith, length-append xs ys)) (get_or_append_left xs ys d m (omega arith) ∙ e ∙ sym (get_or_append_left xs ys d n h))

pub front_parts : (i : Instance) (ds others : List Dossier) → ArePartsOf i (ds ++ others) → ArePartsOf i ds
front_parts i ds others are =
    let h = are.1 in
    let s = split_parts ds others h.parts h.instances in
    let disjoint : AreDisjointParts i (s.front ++ s.back) = subst (AreDisjointParts i) s.is h.disjoint in
    let once = subst Differ (flat_map-append tasks_of s.front s.back) disjoint.once in (
      all_tasks s.front,
      record {
        parts = s.front;
        instances = s.instances;
        disjoint = record { each = front_all (IsPart i) s.front s.back disjoint.each; once = front_differ (all_tasks s.front) (all_tasks s.back) once };
        are = refl;
      },
    )
