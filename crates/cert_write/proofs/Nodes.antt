-- what is written of a tree, node after node
use Rattle.std.proofs.Common.{◌≡◌, ◌<◌, ◌≤◌, ◌+◌, ◌++◌, ◌∷◌, [], ℕ, zero, suc, List, length, map, drop, get_or, ap, sym, refl, subst, ◌∙◌, append_assoc, append-nil, arith}
use Rattle.std.specs.Prelude.{Result, Ok, Err, IsErr, IfOk, codes}
use Rattle.std.specs.Fmt.{decimal}
use Rattle.std.proofs.Math.Seq.{drop-cons}
use Rattle.std.proofs.lemmas.List.{drop-map, drop_all}
use Rattle.std.proofs.lemmas.List.Concat.{flat_map-append}
use Rattle.crew_terms.specs.Branches.{LeafNode, SplitNode, depth, splits}
use Rattle.crew_terms.specs.Limits.{Limits, root_limits}
use Rattle.crew_terms.specs.Words.{line_text}
use Rattle.crew_terms.specs.declared.TheConstants.{MOST_NODES}
use Rattle.crew_io.specs.Puts.{Puts}
use Rattle.crew_io.specs.Chains.{puts_done, puts_front, puts_nothing, puts_same, puts_then}
use Rattle.crew_io.specs.declared.sink.Sink.{Ghosts}
use Rattle.dossier_terms.specs.Causes.{Cause}
use Rattle.dossier_terms.specs.Dossier.{Written}
use Rattle.dossier_terms.specs.Lines.{node_lines, tree_line}
use Rattle.dossier_terms.specs.declared.DossierForm.TheVariants.{Two}
use Rattle.branch_tree.specs.Trees.{BranchTree, IsCountIn, closed, counts_of, left_open, preorder}
use Rattle.line_out.specs.Parts.{part_word}
use Rattle.line_out.specs.declared.Part.{Part}
use Rattle.line_out.specs.declared.Part.TheVariants.{Number}
use Rattle.branch_tree.specs.declared.tree.Node.{Node}
use Rattle.node_limits.specs.Trail.{Trail}
use Rattle.tree_walk.specs.Way.{IsAt, Walked}
use Rattle.cert_write.specs.Causes.{cause_of}
use Rattle.cert_write.specs.declared.causes.Cause.{Cause as GivenCause}
use Rattle.cert_write.specs.Given.{AreWritable, Given, IsWritable}
use Rattle.cert_write.specs.Dossiers.{IsTreeOfGiven, causes_of}
use Rattle.cert_write.specs.Walks.{Due, GoesOn, IsAmid, IsDue, Place, Stands, Whole, lines_to_come, nodes_to_come}
use Rattle.dossier_out.specs.Texts.{front_of, text}
use Rattle.cert_write.specs.Counted.{same_depth, same_splits}

-- the number that is counted is that of this tree
pub counted_of : (f : BranchTree → ℕ) (tree : List Node) (n : ℕ) (given : BranchTree) → ((t u : BranchTree) → preorder t ≡ preorder u → t ≡ u) → tree ≡ preorder given → IsCountIn f tree n → n ≡ f given
counted_of f tree n given one is count = count.2 ∙ ap f (one count.0 given (sym count.1 ∙ is))

-- at the root nothing is written
pub amid_start : {K : Type 0} (sink : Ghosts K) (root : Limits) (tree : List Node) (causes : List Cause) (limits : Trail) (walk : Walked) (out : K) (given : BranchTree) (written : Written) (seen : ℕ)
    → ((t u : BranchTree) → preorder t ≡ preorder u → t ≡ u) → IsDue root tree causes given written → IsAt root limits walk [] → walk.above ≡ [] → IsCountIn depth tree walk.depth
    → limits.spare ≡ walk.depth → IsCountIn splits tree seen → seen ≤ MOST_NODES → IsAmid sink root written tree causes limits walk out out
amid_start sink root tree causes limits walk out given written seen one due at above deep spare count few =
    let d = counted_of depth tree walk.depth given one due.nodes deep ∙ same_depth root given written due.same in
    let s = counted_of splits tree seen given one due.nodes count ∙ same_splits root given written due.same in
    record {
      place = Due [] given written;
      lines = [];
      stands = record {
        nodes = due.nodes ∙ sym (append-nil (preorder given));
        causes = sym due.causes ∙ sym (append-nil (causes_of written));
        at = record {
          at = at;
          valid = due.valid;
          same = due.same;
          later = tt;
          tree = refl;
          deep = d;
          spare = (let a = ap length above in omega (arith, a, d, spare));
          few = omega (arith, s, few);
        };
      };
      rest = sym (append-nil (node_lines Two root written));
      puts = puts_nothing sink out;
    }

module _ {K : Type 0} (sink : Ghosts K) (root : Limits) (written : Written) (nodes : List Node) (causes : List Cause) (node : Node) (more : List Node) (limits : Trail) (walk : Walked) (old mid new : K)
    (amid : IsAmid sink root written nodes causes limits walk old mid) (first : nodes ≡ node ∷ more) where
  -- where the writer stands, by the next node
  pub stands_at : Stands root written (node ∷ more) causes limits walk amid.place
  stands_at = subst (λ ns. Stands root written ns causes limits walk amid.place) first amid.stands

  module _ {E : Type 0} (new_limits : Trail) (new_walk : Walked) (result : Result ℕ E) (goes : GoesOn sink root written more causes amid.place mid new new_limits new_walk result) where
    rest_is : node_lines Two root written ≡ (amid.lines ++ goes.lines) ++ lines_to_come root goes.next
    rest_is = amid.rest ∙ ap (λ l. amid.lines ++ l) goes.whole_lines ∙ sym (append_assoc amid.lines goes.lines (lines_to_come root goes.next))

    both_put : Puts sink (text amid.lines ++ text goes.lines) old new result
    both_put = let u : Unit {0} = tt in puts_then sink (text amid.lines) (text goes.lines) old mid new u result amid.puts goes.puts

    -- after the node
    pub amid_next : (used : ℕ) (left : List Cause) → result ≡ Ok used → left ≡ drop used causes → IsAmid sink root written more left new_limits new_walk old new
    amid_next used left is same = record {
      place = goes.next;
      lines = amid.lines ++ goes.lines;
      stands = subst (λ cs. Stands root written more cs new_limits new_walk goes.next) (sym same) (subst (λ r. IfOk r (λ n. Stands root written more (drop n causes) new_limits new_walk goes.next)) is goes.stands);
      rest = rest_is;
      puts = let u : Unit {0} = tt in puts_done sink _ old new used u (puts_same sink _ _ old new _ (sym (flat_map-append line_text amid.lines goes.lines)) (subst (λ r. Puts sink (text amid.lines ++ text goes.lines) old new r) is both_put));
    }

    -- where a write fails
    pub amid_fails : {F : Type 0} (e : E) (answer : Result (Unit {0}) F) → IsErr answer → result ≡ Err e → Puts sink (text (node_lines Two root written)) old new answer
    amid_fails e answer fails is =
        puts_front sink (text amid.lines ++ text goes.lines) (text (node_lines Two root written)) old new e answer fails
        (subst (λ r. Puts sink (text amid.lines ++ text goes.lines) old new r) is both_put)
        (front_of _ (text (lines_to_come root goes.next)) _
        (ap text rest_is ∙ flat_map-append line_text (amid.lines ++ goes.lines) (lines_to_come root goes.next)
        ∙ ap (λ t. t ++ text (lines_to_come root goes.next)) (flat_map-append line_text amid.lines goes.lines)))

-- the nodes from one on are it and those after it
pub node_and_more : (tree : List Node) (at : ℕ) (node : Node) → at < length tree → node ≡ get_or tree at node → drop at tree ≡ node ∷ drop (at + 1) tree
node_and_more tree at node below is =
    drop-cons tree at node below ∙ ap (λ n. n ∷ drop (suc at) tree) (sym is) ∙ ap (λ k. node ∷ drop k tree) (let e : suc at ≡ at + 1 = omega arith in e)

-- behind the last there is none
pub none_behind : (tree : List Node) (at : ℕ) → length tree ≤ at → drop at tree ≡ []
none_behind tree at past = drop_all at tree past

drop_both : {A : Type 0} (xs : List A) (m k : ℕ) → drop (m + k) xs ≡ drop k (drop m xs)
drop_both xs zero k = ap (λ i. drop i xs) (let e : zero + k ≡ k = omega arith in e)
drop_both [] (suc m) k = drop_none (suc m + k) ∙ sym (drop_none k)
  where
    drop_none : {A : Type 0} (i : ℕ) → drop {A = A} i [] ≡ []
    drop_none zero = refl
    drop_none (suc i) = refl
drop_both (x ∷ xs) (suc m) k = ap (λ i. drop i (x ∷ xs)) (let e : suc m + k ≡ suc (m + k) = omega arith in e) ∙ drop_both xs m k

-- the causes that are left after some more
pub causes_left : (given : List GivenCause) (m k : ℕ) → map cause_of (drop (m + k) given) ≡ drop k (map cause_of (drop m given))
causes_left given m k = ap (map cause_of) (drop_both given m k) ∙ sym (drop-map cause_of k (drop m given))

-- a tree has a node
some_node : (given : BranchTree) (ns : List Node) → [] ≡ preorder given ++ ns → ⊥
some_node (LeafNode leaf) ns e = cc
some_node (SplitNode choice first second) ns e = cc

nothing_left : (root : Limits) (place : Place) → [] ≡ nodes_to_come place → lines_to_come root place ≡ []
nothing_left root Whole e = refl
nothing_left root (Due levels given node) e = absurd (some_node given _ e)

-- behind the last node all is written
pub amid_end : {K F : Type 0} (sink : Ghosts K) (root : Limits) (written : Written) (nodes : List Node) (causes : List Cause) (limits : Trail) (walk : Walked) (old new : K)
    → IsAmid sink root written nodes causes limits walk old new → nodes ≡ [] → Puts {T = Unit {0}} {E = F} sink (text (node_lines Two root written)) old new (Ok tt)
amid_end sink root written nodes causes limits walk old new amid none =
    let u : Unit {0} = tt in
    puts_done sink _ old new u u
    (puts_same sink _ _ old new _
    (ap text (sym (amid.rest ∙ ap (λ l. amid.lines ++ l) (nothing_left root amid.place (sym none ∙ amid.stands.nodes)) ∙ append-nil amid.lines)))
    amid.puts)

-- the tree of the parts is due
pub due_of : (g : Given) (written : Written) → AreWritable g → ((t u : BranchTree) → preorder t ≡ preorder u → t ≡ u)
    → (is : IsTreeOfGiven g written) → IsDue (root_limits g.instance) g.tree g.causes is.tree written
due_of g written valid one is = record {
  nodes = is.nodes;
  valid = subst (IsWritable (root_limits g.instance)) (one valid.tree is.tree (sym valid.nodes ∙ is.nodes)) valid.valid;
  same = is.same;
  causes = is.causes;
}

-- the line of the numbers of a tree
pub counts_line : (a b c d : Part) (p q r s : ℕ) (given : BranchTree) → a ≡ Number p → b ≡ Number q → c ≡ Number r → d ≡ Number s
    → p ≡ splits given → q ≡ closed given → r ≡ left_open given → s ≡ depth given
    → line_text (codes "tree" ∷ part_word a ∷ part_word b ∷ part_word c ∷ part_word d ∷ []) ≡ line_text (tree_line (counts_of given))
counts_line a b c d p q r s given ea eb ec ed ep eq er es =
    ap (λ x. line_text (codes "tree" ∷ part_word x ∷ part_word b ∷ part_word c ∷ part_word d ∷ [])) (ea ∙ ap Number ep)
    ∙ ap (λ x. line_text (codes "tree" ∷ decimal (splits given) ∷ part_word x ∷ part_word c ∷ part_word d ∷ [])) (eb ∙ ap Number eq)
    ∙ ap (λ x. line_text (codes "tree" ∷ decimal (splits given) ∷ decimal (closed given) ∷ part_word x ∷ part_word d ∷ [])) (ec ∙ ap Number er)
    ∙ ap (λ x. line_text (codes "tree" ∷ decimal (splits given) ∷ decimal (closed given) ∷ decimal (left_open given) ∷ part_word x ∷ [])) (ed ∙ ap Number es)
