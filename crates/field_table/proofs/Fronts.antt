-- the words of a line, cut by cut
use Rattle.std.proofs.Common.{◌≡◌, ◌≢◌, ◌≤◌, ◌<◌, ◌+◌, ◌-◌, ◌++◌, [], ◌∷◌, ℕ, suc, List, length, take, drop, get_or, eqb, true, false, ap, sym, refl, ◌∙◌, arith, subst, append_assoc, length-drop}
use Rattle.std.proofs.Math.ListN.{set, length-set}
use Rattle.std.proofs.Math.Seq.{drop-cons}
use Rattle.std.specs.Prelude.{All, slice_range}
use Rattle.std.specs.Str.{all_ascii_digits}
use Rattle.std.proofs.lemmas.Bool.{ne_eqb}
use Rattle.std.proofs.lemmas.List.{map-append, drop-drop, take_all, take_more_set, take-append-drop}
use Rattle.std.proofs.lemmas.List.Elements.{All-push}
use Rattle.std.proofs.lemmas.List.Splits.{slice_split_at, slice_split_none}
use Rattle.crew_terms.specs.Words.{words_of}
use Rattle.field_table.proofs.Digits.{no_digit_space}
use Rattle.field_table.specs.Pieces.{pieces_of, piece_of, IsCutOf, IsCutUpTo, IsWordAt}
use Rattle.field_table.specs.declared.cuts.Cut.{Cut}

-- no space in it
no_split : (word : List ℕ) → All (λ b. b ≢ 32) word → All (λ b. eqb b 32 ≡ false) word
no_split word h = λ k d l. ne_eqb (get_or word k d) 32 (h k d l)

-- the rest of a line is a piece, the byte after it, and what follows
rest_splits : (line : List ℕ) (cut : Cut) → cut.from ≤ cut.until → cut.until < length line → drop cut.from line ≡ piece_of line cut ++ get_or line cut.until 0 ∷ drop (cut.until + 1) line
rest_splits line cut order inside =
    let k = cut.until - cut.from in
    let e : cut.from + k ≡ cut.until = omega arith in
    let f : suc cut.until ≡ cut.until + 1 = omega arith in
    sym (take-append-drop k (drop cut.from line))
    ∙ ap (λ bs. piece_of line cut ++ bs) (drop-drop k cut.from line ∙ ap (λ n. drop n line) e ∙ drop-cons line cut.until 0 inside
    ∙ ap (λ n. get_or line cut.until 0 ∷ drop n line) f)

-- a space ends a word
pub word_ends : (line : List ℕ) (cuts : List Cut) (cut : Cut) → cut.from ≤ cut.until → cut.until < length line
    → All (λ b. b ≢ 32) (piece_of line cut) → get_or line cut.until 0 ≡ 32
    → words_of line ≡ pieces_of line cuts ++ words_of (drop cut.from line)
    → words_of line ≡ pieces_of line (cuts ++ cut ∷ []) ++ words_of (drop (cut.until + 1) line)
word_ends line cuts cut order inside whole space all =
    let next : List ℕ = drop (cut.until + 1) line in
    all ∙ ap (λ ws. pieces_of line cuts ++ ws) (
    ap words_of (rest_splits line cut order inside ∙ ap (λ b. piece_of line cut ++ b ∷ next) space)
    ∙ slice_split_at (λ b. eqb b 32) (piece_of line cut) 32 next (no_split (piece_of line cut) whole) refl
    )
    ∙ sym (append_assoc (pieces_of line cuts) (piece_of line cut ∷ []) (words_of next))
    ∙ ap (λ ws. ws ++ words_of next) (sym (map-append (piece_of line) cuts (cut ∷ [])))

-- the line ends the last
pub words_end : (line : List ℕ) (cuts : List Cut) (cut : Cut) → cut.until ≡ length line → All (λ b. b ≢ 32) (piece_of line cut)
    → words_of line ≡ pieces_of line cuts ++ words_of (drop cut.from line)
    → pieces_of line (cuts ++ cut ∷ []) ≡ words_of line
words_end line cuts cut last whole all =
    let rest : piece_of line cut ≡ drop cut.from line = take_all (cut.until - cut.from) (drop cut.from line) (omega (arith, length-drop cut.from line)) in
    sym (all ∙ ap (λ ws. pieces_of line cuts ++ ws) (ap words_of (sym rest) ∙ slice_split_none (λ b. eqb b 32) (piece_of line cut) (no_split (piece_of line cut) whole))
    ∙ sym (map-append (piece_of line) cuts (cut ∷ [])))

-- digits are no spaces
pub no_space : (line : List ℕ) (from count : ℕ) → all_ascii_digits (take count (drop from line)) ≡ true → All (λ b. b ≢ 32) (slice_range line from (from + count))
no_space line from count h =
    let e : from + count - from ≡ count = omega arith in
    subst (λ n. All (λ b. b ≢ 32) (take n (drop from line))) (sym e) (no_digit_space (take count (drop from line)) h)

-- a line is cut up to this place, in room for all its words
pub record IsCutIn (line : List ℕ) (cuts : List Cut) (count from : ℕ) : Type 0 where
  pub room : length line < length cuts
  pub cut : IsCutUpTo line cuts count from

-- one more word is cut
pub cut_further : (line : List ℕ) (cuts : List Cut) (count from : ℕ) (cut : Cut) → IsCutIn line cuts count from → from ≤ length line
    → IsWordAt line from cut → IsCutIn line (set cuts count cut) (count + 1) (cut.until + 1)
cut_further line cuts count from cut held here word =
    let before : List Cut = take count cuts in
    let begins = word.begins in
    let within = word.is_cut.within in
    let order = word.is_cut.order in
    let earlier = held.cut.order in
    let words = held.cut.words here in
    let room = held.room in
    let inside : count < length cuts = omega arith in
    let more : take (count + 1) (set cuts count cut) ≡ before ++ cut ∷ [] = take_more_set cuts count cut inside in
    record {
      room = rw length-set held.room;
      cut = record {
        order = omega arith;
        within = omega arith;
        are_cuts = rw more (All-push (IsCutOf line) before cut held.cut.are_cuts word.is_cut);
        words = λ next.
            let within : cut.until < length line = omega arith in
            rw more (word_ends line before cut order within word.whole (word.ended within) (rw begins words));
        all = λ over.
            let last : cut.until ≡ length line = omega arith in
            rw more (words_end line before cut last word.whole (rw begins words));
      };
    }

-- nothing is cut yet
pub uncut : (line : List ℕ) (cuts : List Cut) → length line < length cuts → IsCutIn line cuts 0 0
uncut line cuts room = record {
  room = room;
  cut = record {
    order = omega arith;
    within = omega arith;
    are_cuts = λ k d l. absurd (omega arith);
    words = λ _. refl;
    all = λ over. absurd (omega arith);
  };
}
