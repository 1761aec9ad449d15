-- What may stand in one place may stand in another, and lists of shaped trees that grow at their ends.
use Rattle.std.proofs.Common.{◌≡◌, true, List, [], ◌∷◌, ◌++◌, Some, refl, subst}
use Rattle.verse_layout.specs.declared.toks.TokKind.{TokKind}
use Rattle.verse_tree.specs.Tree.{Bytes, Written, Tree, tree, Trees, no_trees, more_trees}
use Rattle.verse_tree.specs.View.{writtens, trees, holes, pairs, givens}
use Rattle.verse_tree.specs.declared.exprs.Operator.{Operator}
use Rattle.verse_tree.specs.Shapes.{Sort, block_sort, defer_sort, typed_sort, action_sort, expression_sort, generator_sort, Stand, as_block}
use Rattle.verse_tree.specs.Shapes.{as_part, as_statement, as_body, as_expression, as_generator, as_clause, may_stand, WrittenShaped}
use Rattle.verse_tree.specs.Shapes.{AllWritten, SomeWritten, Shaped, AllShaped, SomeShaped, ClausesShaped, AllHoles, SomeHoles, PairsShaped}
use Rattle.verse_tree.specs.Shapes.{GivensShaped, AllOf}
use Rattle.verse_grammar.specs.Exprs.{chain_operator, operand}
use Rattle.verse_grammar.specs.declared.phrases.Phrase.{Phrase}
use Rattle.verse_grammar.specs.declared.phrases.Phrase.TheVariants as p
use Rattle.verse_grammar_shapes.specs.ShapeLaws.{stand_of}

-- a tree that may stand in one place, where its form may stand in the other
pub moved : (s r : Stand) → ((x : Sort) → may_stand s x ≡ true → may_stand r x ≡ true) → (e : Tree) → Shaped s e → Shaped r e
moved s r f (tree number place shape) h = (f _ h.0, h.1)

pub statement_part : (x : Sort) → may_stand as_statement x ≡ true → may_stand as_part x ≡ true
statement_part defer_sort h = refl
statement_part _ h = h

pub expression_statement : (x : Sort) → may_stand as_expression x ≡ true → may_stand as_statement x ≡ true
expression_statement typed_sort h = refl
expression_statement action_sort h = refl
expression_statement _ h = h

pub expression_body : (x : Sort) → may_stand as_expression x ≡ true → may_stand as_body x ≡ true
expression_body block_sort h = refl
expression_body _ h = h

pub block_body : (x : Sort) → may_stand as_block x ≡ true → may_stand as_body x ≡ true
block_body expression_sort h = refl
block_body _ h = h

pub generator_clause : (x : Sort) → may_stand as_generator x ≡ true → may_stand as_clause x ≡ true
generator_clause action_sort h = refl
generator_clause expression_sort h = refl
generator_clause _ h = h

pub expression_clause : (x : Sort) → may_stand as_expression x ≡ true → may_stand as_clause x ≡ true
expression_clause generator_sort h = refl
expression_clause action_sort h = refl
expression_clause _ h = h

-- the operands of a chain are expressions
operand_stand : (q : Phrase) (k : TokKind) (o : Operator) → chain_operator q k ≡ Some o → stand_of (operand q) ≡ as_expression
operand_stand p.Or k o h = refl
operand_stand p.And k o h = refl
operand_stand p.Sum k o h = refl
operand_stand p.Product k o h = refl
operand_stand _ k o h = absurd (cc)

pub as_operand : (q : Phrase) (k : TokKind) (o : Operator) → chain_operator q k ≡ Some o → (e : Tree) → Shaped (stand_of (operand q)) e →
    Shaped as_expression e
as_operand q k o h e d = subst (λ (s : Stand). Shaped s e) (operand_stand q k o h) d

pub all_more : (s : Stand) (es : List Tree) (e : Tree) → AllShaped s (trees es) → Shaped s e → AllShaped s (trees (es ++ e ∷ []))
all_more s [] e h d = (d, tt)
all_more s (f ∷ fs) e h d = (h.0, all_more s fs e h.1 d)

pub some_more : (s : Stand) (es : List Tree) (e : Tree) → SomeShaped s (trees es) → Shaped s e → SomeShaped s (trees (es ++ e ∷ []))
some_more s [] e h d = absurd h
some_more s (f ∷ fs) e h d = (h.0, all_more s fs e h.1 d)

pub some_all : (s : Stand) (ts : Trees) → SomeShaped s ts → AllShaped s ts
some_all s no_trees h = absurd h
some_all s (more_trees t ts) h = h

pub clauses_more : (es : List Tree) (e : Tree) → ClausesShaped (trees es) → Shaped as_clause e → ClausesShaped (trees (es ++ e ∷ []))
clauses_more [] e h d = absurd h
clauses_more (f ∷ fs) e h d = (h.0, all_more as_clause fs e h.1 d)

pub holes_more : (hs : List (Tree × Bytes)) (h : Tree × Bytes) → AllHoles (holes hs) → Shaped as_expression h.0 →
    AllHoles (holes (hs ++ h ∷ []))
holes_more [] h a d = (d, tt)
holes_more (g ∷ gs) h a d = (a.0, holes_more gs h a.1 d)

pub some_holes : (hs : List (Tree × Bytes)) (h : Tree × Bytes) → AllHoles (holes hs) → Shaped as_expression h.0 →
    SomeHoles (holes (hs ++ h ∷ []))
some_holes [] h a d = (d, tt)
some_holes (g ∷ gs) h a d = (a.0, holes_more gs h a.1 d)

pub pairs_more : (ps : List (Tree × Tree)) (q : Tree × Tree) → PairsShaped (pairs ps) → Shaped as_expression q.0 →
    Shaped as_expression q.1 → PairsShaped (pairs (ps ++ q ∷ []))
pairs_more [] q h d e = (d, e, tt)
pairs_more (r ∷ rs) q h d e = (h.0, h.1, pairs_more rs q h.2 d e)

pub givens_more : (gs : List (Bytes × Tree)) (g : Bytes × Tree) → GivensShaped (givens gs) → Shaped as_expression g.1 →
    GivensShaped (givens (gs ++ g ∷ []))
givens_more [] g h d = (d, tt)
givens_more (f ∷ fs) g h d = (h.0, givens_more fs g h.1 d)

all_written_more : (ws : List Written) (w : Written) → AllWritten (writtens ws) → WrittenShaped w → AllWritten (writtens (ws ++ w ∷ []))
all_written_more [] w h d = (d, tt)
all_written_more (v ∷ vs) w h d = (h.0, all_written_more vs w h.1 d)

pub some_written_more : (ws : List Written) (w : Written) → SomeWritten (writtens ws) → WrittenShaped w →
    SomeWritten (writtens (ws ++ w ∷ []))
some_written_more [] w h d = absurd h
some_written_more (v ∷ vs) w h d = (h.0, all_written_more vs w h.1 d)

pub all_of_more : {X : Type 0} (Each : X → Type 0) (xs : List X) (x : X) → AllOf Each xs → Each x → AllOf Each (xs ++ x ∷ [])
all_of_more Each [] x h d = (d, tt)
all_of_more Each (y ∷ ys) x h d = (h.0, all_of_more Each ys x h.1 d)
