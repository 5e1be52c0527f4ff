-- the lines of a leaf
use Rattle.std.proofs.Common.{◌≡◌, ◌+◌, ◌++◌, ◌∷◌, [], ℕ, List, Bool, true, false, cond, map, ap, sym, ◌∙◌, append_assoc, append-nil}
use Rattle.std.specs.Prelude.{ℤ}
use Rattle.std.specs.Fmt.{signed_decimal}
use Rattle.std.specs.List.{filter, range_with_len}
use Rattle.std.proofs.lemmas.List.{map-append}
use Rattle.std.proofs.lemmas.List.Elements.{filter-append}
use Rattle.std.proofs.lemmas.List.Concat.{flat_map-append}
use Rattle.crew_terms.specs.Leaf.{Prices, rho_of}
use Rattle.crew_terms.specs.Limits.{Limits, is_required, pair_of}
use Rattle.crew_terms.specs.Minutes.{priced}
use Rattle.crew_terms.specs.Branches.{Claim, Bare, Open, Closed}
use Rattle.crew_terms.specs.Words.{Words, line_text}
use Rattle.crew_terms.specs.Listed.{range_more}
use Rattle.crew_io.specs.Fronts.{IsFront}
use Rattle.branch_tree.specs.declared.tree.LeafState.{LeafState}
use Rattle.branch_tree.specs.declared.tree.LeafState.TheVariants as states
use Rattle.dossier_terms.specs.Dossier.{Leaf}
use Rattle.dossier_terms.specs.Lines.{claim_lines, extra_line, leaf_lines, price_line, rows_lines, table_lines}
use Rattle.dossier_terms.specs.declared.DossierForm.TheVariants.{Two}
use Rattle.line_out.specs.Parts.{part_word}
use Rattle.line_out.specs.declared.Part.{Part}
use Rattle.line_out.specs.declared.Part.TheVariants.{Signed}
use Rattle.cert_write.specs.Dossiers.{IsPricedClaim, IsPricedLeaf}
use Rattle.cert_write.specs.Leaves.{extra_prices, extra_words, state_line}
use Rattle.dossier_out.specs.Texts.{front_of, front_1, rows_mapped, text}

-- ---- the prices of required teams

-- those of the first m teams that the node requires at task j
abbrev pub required_below : Limits → ℕ → ℕ → List ℕ
required_below n j m = filter (λ k. is_required (pair_of n k j)) (range_with_len 0 m)

abbrev pub prices_below : Limits → Prices → ℕ → ℕ → Words
prices_below n p j m = map signed_decimal (map (λ k. rho_of p k j) (required_below n j m))

required_more : (n : Limits) (j m : ℕ) (b : Bool) → is_required (pair_of n m j) ≡ b → required_below n j (m + 1) ≡ required_below n j m ++ cond b (m ∷ []) []
required_more n j m b is =
    ap (filter (λ k. is_required (pair_of n k j))) (range_more m) ∙ filter-append (λ k. is_required (pair_of n k j)) (range_with_len 0 m) (m ∷ [])
    ∙ ap (λ x. required_below n j m ++ cond x (m ∷ []) []) is

pub price_pushed : (n : Limits) (p : Prices) (j m : ℕ) (before : Words) (old new : List Part) (v : ℤ) → v ≡ rho_of p m j → is_required (pair_of n m j) ≡ true → new ≡ old ++ Signed v ∷ []
    → map part_word old ≡ before ++ prices_below n p j m → map part_word new ≡ before ++ prices_below n p j (m + 1)
price_pushed n p j m before old new v is required pushed so =
    ap (map part_word) pushed ∙ map-append part_word old (Signed v ∷ []) ∙ ap (λ ws. ws ++ signed_decimal v ∷ []) so
    ∙ ap (λ x. (before ++ prices_below n p j m) ++ signed_decimal x ∷ []) is
    ∙ append_assoc before (prices_below n p j m) (signed_decimal (rho_of p m j) ∷ [])
    ∙ ap (λ ws. before ++ ws) (sym more)
  where
    more : prices_below n p j (m + 1) ≡ prices_below n p j m ++ signed_decimal (rho_of p m j) ∷ []
    more =
        ap (λ ks. map signed_decimal (map (λ k. rho_of p k j) ks)) (required_more n j m true required)
        ∙ ap (map signed_decimal) (map-append (λ k. rho_of p k j) (required_below n j m) (m ∷ []))
        ∙ map-append signed_decimal (map (λ k. rho_of p k j) (required_below n j m)) (rho_of p m j ∷ [])

pub price_passed : (n : Limits) (p : Prices) (j m : ℕ) → is_required (pair_of n m j) ≡ false → prices_below n p j m ≡ prices_below n p j (m + 1)
price_passed n p j m other =
    ap (λ ks. map signed_decimal (map (λ k. rho_of p k j) ks)) (sym (required_more n j m false other ∙ append-nil (required_below n j m)))

-- ---- the numbers of a leaf

pub extras_text : (n : Limits) (p : Prices) (leaf : Leaf) → IsPricedLeaf n p leaf
    → (line_text (price_line p.pi) ++ text (map (extra_words n p) (priced n))) ++ text (table_lines Two n 0 leaf.tables) ≡ text (leaf_lines Two n leaf)
extras_text n p leaf is =
    append_assoc (line_text (price_line p.pi)) (text (map (extra_words n p) (priced n))) (text (table_lines Two n 0 leaf.tables))
    ∙ ap (λ lines. line_text (price_line p.pi) ++ (text lines ++ text (table_lines Two n 0 leaf.tables))) (sym (rows_mapped extra_line (extra_prices n p) (priced n)))
    ∙ ap (λ rows. line_text (price_line p.pi) ++ (text (rows_lines extra_line (priced n) rows) ++ text (table_lines Two n 0 leaf.tables))) (sym is.extras)
    ∙ ap (λ t. line_text (price_line p.pi) ++ t) (sym (flat_map-append line_text (rows_lines extra_line (priced n) leaf.extras) (table_lines Two n 0 leaf.tables)))
    ∙ ap (λ vs. line_text (price_line vs) ++ text (rows_lines extra_line (priced n) leaf.extras ++ table_lines Two n 0 leaf.tables)) (sym is.prices)

pub numbers_front_1 : (n : Limits) (p : Prices) (leaf : Leaf) → IsPricedLeaf n p leaf → IsFront (line_text (price_line p.pi)) (text (leaf_lines Two n leaf))
numbers_front_1 n p leaf is = front_1 (line_text (price_line p.pi)) (text (map (extra_words n p) (priced n))) (text (table_lines Two n 0 leaf.tables)) _ (sym (extras_text n p leaf is))

pub numbers_front_2 : (n : Limits) (p : Prices) (leaf : Leaf) → IsPricedLeaf n p leaf → IsFront (line_text (price_line p.pi) ++ text (map (extra_words n p) (priced n))) (text (leaf_lines Two n leaf))
numbers_front_2 n p leaf is = front_of (line_text (price_line p.pi) ++ text (map (extra_words n p) (priced n))) (text (table_lines Two n 0 leaf.tables)) _ (sym (extras_text n p leaf is))

-- ---- what a leaf claims

-- a bare leaf is its first line
pub bare_text : (n : Limits) (state : LeafState) (p : Prices) (claim : Claim Leaf) → state ≡ states.Bare → IsPricedClaim n (record { state = state; prices = p }) claim
    → line_text (state_line state) ≡ text (claim_lines Two n claim)
bare_text n state p Bare bare is = ap (λ s. line_text (state_line s)) bare ∙ sym (append-nil (line_text (state_line states.Bare)))
bare_text n state p (Open leaf) bare is = let e : states.Bare ≡ states.Open = sym bare ∙ is.0 in cc
bare_text n state p (Closed leaf) bare is = let e : states.Bare ≡ states.Closed = sym bare ∙ is.0 in cc

-- any other leaf is its first line, and its numbers
pub record HasNumbers (n : Limits) (state : LeafState) (p : Prices) (claim : Claim Leaf) : Type 0 where
  pub leaf : Leaf
  pub same : IsPricedLeaf n p leaf
  pub is : line_text (state_line state) ++ text (leaf_lines Two n leaf) ≡ text (claim_lines Two n claim)

pub open_leaf : (n : Limits) (state : LeafState) (p : Prices) (claim : Claim Leaf) → state ≡ states.Open → IsPricedClaim n (record { state = state; prices = p }) claim → HasNumbers n state p claim
open_leaf n state p Bare at is = let e : states.Open ≡ states.Bare = sym at ∙ is in absurd (cc)
open_leaf n state p (Open leaf) at is = record { leaf = leaf; same = is.1; is = ap (λ s. line_text (state_line s) ++ text (leaf_lines Two n leaf)) at }
open_leaf n state p (Closed leaf) at is = let e : states.Open ≡ states.Closed = sym at ∙ is.0 in absurd (cc)

pub closed_leaf : (n : Limits) (state : LeafState) (p : Prices) (claim : Claim Leaf) → state ≡ states.Closed → IsPricedClaim n (record { state = state; prices = p }) claim → HasNumbers n state p claim
closed_leaf n state p Bare at is = let e : states.Closed ≡ states.Bare = sym at ∙ is in absurd (cc)
closed_leaf n state p (Open leaf) at is = let e : states.Closed ≡ states.Open = sym at ∙ is.0 in absurd (cc)
closed_leaf n state p (Closed leaf) at is = record { leaf = leaf; same = is.1; is = ap (λ s. line_text (state_line s) ++ text (leaf_lines Two n leaf)) at }

-- the first line is a front of every claim in this state
pub state_front : (n : Limits) (state : LeafState) (p : Prices) (claim : Claim Leaf) → IsPricedClaim n (record { state = state; prices = p }) claim → IsFront (line_text (state_line state)) (text (claim_lines Two n claim))
state_front n state p Bare is = record { rest = []; is = ap (λ s. line_text (state_line s) ++ []) (sym (let e : state ≡ states.Bare = is in e)) }
state_front n state p (Open leaf) is =
    record { rest = text (leaf_lines Two n leaf); is = ap (λ s. line_text (state_line s) ++ text (leaf_lines Two n leaf)) (sym (let e : state ≡ states.Open = is.0 in e)) }
state_front n state p (Closed leaf) is =
    record { rest = text (leaf_lines Two n leaf); is = ap (λ s. line_text (state_line s) ++ text (leaf_lines Two n leaf)) (sym (let e : state ≡ states.Closed = is.0 in e)) }
