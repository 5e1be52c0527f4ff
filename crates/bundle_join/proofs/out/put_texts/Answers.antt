use Rattle.std.proofs.Common.{◌≡◌, ◌++◌, ℕ, List, length, ap, sym, refl, ◌∙◌, append_assoc}
use Rattle.std.specs.List.{flat_map}
use Rattle.std.proofs.lemmas.List.{length-map}
use Rattle.std.specs.Global.{Vec}
use Rattle.crew_terms.specs.Words.{line_text}
use Rattle.crew_io.specs.Chains.{first_front, puts_front, puts_same, puts_then}
use Rattle.crew_io.specs.Fronts.{IsFront}
use Rattle.crew_instance.specs.Draft.{rows_of}
use Rattle.part_texts.specs.Lines.{count_words, first_words}
use Rattle.bundle_join.specs.Texts.{text_with}
use Rattle.bundle_join.proofs.Bytes.{items_of_rows}
use Rattle.bundle_join.proofs.out.put_texts.Goals as goal

-- the line with the number of parts, and the texts behind it
abbrev behind : List (List ℕ) → List ℕ
behind texts = line_text (count_words (length texts)) ++ flat_map (λ (text : List ℕ). text) texts

two_front : (first : List ℕ) (texts : List (List ℕ)) → IsFront (line_text first_words ++ first) (text_with first texts)
two_front first texts = record { rest = behind texts; is = sym (append_assoc (line_text first_words) first (behind texts)) }

three_front : (first : List ℕ) (texts : List (List ℕ)) → IsFront (line_text first_words ++ (first ++ line_text (count_words (length texts)))) (text_with first texts)
three_front first texts = record {
  rest = flat_map (λ (text : List ℕ). text) texts;
  is = ap (λ x. line_text first_words ++ x) (sym (append_assoc first (line_text (count_words (length texts))) (flat_map (λ (text : List ℕ). text) texts)))
      ∙ sym (append_assoc (line_text first_words) (first ++ line_text (count_words (length texts))) (flat_map (λ (text : List ℕ). text) texts));
}

-- the line with the number of texts
line_of : (texts : List (Vec ℕ)) (n : ℕ) → n ≡ length texts → line_text (count_words n) ≡ line_text (count_words (length (rows_of texts)))
line_of texts n e = ap (λ k. line_text (count_words k)) (e ∙ sym (length-map texts (λ (v : Vec ℕ). v.items)))

pub returns-in_err-put_line : goal.returns-in_err-put_line
returns-in_err-put_line g c =
    puts_front g.K.Sink (line_text first_words) (text_with c.args.first.now (rows_of c.args.texts.now)) _ _ _ c.from_residual.result c.from_residual.ensures.0 c.in_err-put_line.ensures
    (first_front (line_text first_words) (c.args.first.now ++ behind (rows_of c.args.texts.now)))

pub returns-in_err-put_all : goal.returns-in_err-put_all
returns-in_err-put_all g c =
    puts_front g.K.Sink (line_text first_words ++ c.args.first.now) (text_with c.args.first.now (rows_of c.args.texts.now)) _ _ _ c.from_residual-in_err-put_all.result c.from_residual-in_err-put_all.ensures.0
    (puts_then g.K.Sink (line_text first_words) c.args.first.now _ _ _ _ _ c.in_ok-put_line.ensures c.in_err-put_all.ensures.puts) (two_front c.args.first.now (rows_of c.args.texts.now))

pub returns-in_err-put_line-2 : goal.returns-in_err-put_line-2
returns-in_err-put_line-2 g c =
    let line = line_text (count_words (length (rows_of c.args.texts.now))) in
    let e = line_of c.args.texts.now (length c.args.texts.now) refl in
    puts_front g.K.Sink (line_text first_words ++ (c.args.first.now ++ line)) (text_with c.args.first.now (rows_of c.args.texts.now)) _ _ _ c.from_residual-in_err-put_line-2.result c.from_residual-in_err-put_line-2.ensures.0
    (puts_then g.K.Sink (line_text first_words) (c.args.first.now ++ line) _ _ _ _ _ c.in_ok-put_line.ensures
    (puts_then g.K.Sink c.args.first.now line _ _ _ _ _ c.in_ok-put_all.ensures.puts (puts_same g.K.Sink _ line _ _ _ e c.in_err-put_line-2.ensures))) (three_front c.args.first.now (rows_of c.args.texts.now))

pub returns : goal.returns
returns g c =
    let line = line_text (count_words (length (rows_of c.args.texts.now))) in
    let e = line_of c.args.texts.now (length c.args.texts.now) refl in
    puts_then g.K.Sink (line_text first_words) (c.args.first.now ++ behind (rows_of c.args.texts.now)) _ _ _ _ _ c.in_ok-put_line.ensures
    (puts_then g.K.Sink c.args.first.now (behind (rows_of c.args.texts.now)) _ _ _ _ _ c.in_ok-put_all.ensures.puts
    (puts_then g.K.Sink line (flat_map (λ (text : List ℕ). text) (rows_of c.args.texts.now)) _ _ _ _ _ (puts_same g.K.Sink _ line _ _ _ e c.in_ok-put_line-2.ensures)
    (puts_same g.K.Sink _ _ _ _ _ (items_of_rows c.args.texts.now) c.put_each.ensures)))
