-- How blocks, statements and expressions are written, by kind of phrase.
-- `Reads b p ks t rest`: the toks begin with a phrase of the kind p that stands for the tree t, and
-- the rest is behind it; b is the file. The number of a node is 0 until trees are joined.
use Rattle.std.specs.Prelude.{◌≡◌, ℕ, ℤ, List, [], ◌∷◌, ◌++◌, Option, Some, None}
use Rattle.verse_lex.specs.declared.tokens.Word.TheVariants as w
use Rattle.verse_lex.specs.declared.tokens.Mark.TheVariants as m
use Rattle.verse_lex.specs.declared.tokens.TokenKind.TheVariants as token
use Rattle.verse_layout.specs.declared.toks.TokKind.{TokKind}
use Rattle.verse_layout.specs.declared.toks.TokKind.TheVariants as tok
use Rattle.verse_layout.specs.declared.toks.Tok.{Tok}
use Rattle.verse_tree.specs.Tree.{Bytes, Written, Tree, tree, Shape}
use Rattle.verse_tree.specs.Tree as t
use Rattle.verse_tree.specs.View.{trees, holes, pairs, givens}
use Rattle.verse_tree.specs.declared.exprs.Assign.{Assign}
use Rattle.verse_tree.specs.declared.exprs.Comparison.{Comparison}
use Rattle.verse_tree.specs.declared.exprs.Operator.{Operator}
use Rattle.verse_tree.specs.declared.exprs.Operator.TheVariants as operator
use Rattle.verse_grammar.specs.Toks.{word, mark, name, name_at, text_at}
use Rattle.verse_grammar.specs.Starts.{primary_start, postfix_start, stmt_start, pattern_start}
use Rattle.verse_grammar.specs.Starts.{sum_operator, product_operator}
use Rattle.verse_grammar.specs.Starts.{comparison_at, assign_at, duration_at, int_at}
use Rattle.verse_grammar.specs.Types.{IsType}
use Rattle.verse_grammar.specs.declared.phrases.Phrase.{Phrase}
use Rattle.verse_grammar.specs.declared.phrases.Phrase.TheVariants as p
use Rattle.verse_grammar.specs.declared.starts.PrimaryStart.TheVariants as primary
use Rattle.verse_grammar.specs.declared.starts.PostfixStart.TheVariants as postfix
use Rattle.verse_grammar.specs.declared.starts.StmtStart.TheVariants as stmt
use Rattle.verse_grammar.specs.declared.starts.PatternStart.TheVariants as pattern
use Rattle.verse_grammar.specs.declared.starts.Duration.TheVariants as duration

-- the node of this shape at a tok
abbrev pub at : Tok → Shape → Tree
at k shape = tree 0 k.place shape

-- a type in round brackets, or nothing in them
pub data BracketType (b : List ℕ) : List Tok → Option Written → List Tok → Type 0 where
  bracket_type : {o c : Tok} {ks rest : List Tok} {u : Written} → o.kind ≡ mark m.RoundOpen →
      IsType b ks u (c ∷ rest) → c.kind ≡ mark m.RoundClose → BracketType b (o ∷ ks) (Some u) rest
  no_bracket_type : {o c : Tok} {rest : List Tok} → o.kind ≡ mark m.RoundOpen →
      c.kind ≡ mark m.RoundClose → BracketType b (o ∷ c ∷ rest) None rest

abbrev pub event_at : Tok → Option Written → Tree
event_at k None = at k t.Shape.bare_event
event_at k (Some u) = at k (t.Shape.event u)

-- the operators of a chain, by the kind of phrase that it makes
abbrev pub chain_operator : Phrase → TokKind → Option Operator
chain_operator p.Or (tok.Plain (token.Word w.Or)) = Some operator.Or
chain_operator p.And (tok.Plain (token.Word w.And)) = Some operator.And
chain_operator p.Sum k = sum_operator k
chain_operator p.Product k = product_operator k
chain_operator _ _ = None

-- the operands of a chain
abbrev pub operand : Phrase → Phrase
operand p.Or = p.And
operand p.And = p.Not
operand p.Sum = p.Product
operand p.Product = p.Minus
operand q = q

mutual
  -- the phrases, a case for each kind of node
  pub data Reads (b : List ℕ) : Phrase → List Tok → Tree → List Tok → Type 0 where
    -- blocks
    block : {k : Tok} {ks rest : List Tok} {ts : List Tree} → k.kind ≡ tok.Open →
        Until b p.Part tok.Sep tok.Close ks ts rest →
        Reads b p.Block (k ∷ ks) (at k (t.Shape.block (trees ts))) rest
    part_defer : {k : Tok} {ks rest : List Tok} {e : Tree} → k.kind ≡ word w.Defer →
        Reads b p.Block ks e rest → Reads b p.Part (k ∷ ks) (at k (t.Shape.defer e)) rest
    part_stmt : {ks rest : List Tok} {e : Tree} → Reads b p.Stmt ks e rest →
        Reads b p.Part ks e rest
    -- statements
    stmt_definition : {k o : Tok} {ks rest : List Tok} {e : Tree} → k.kind ≡ name →
        o.kind ≡ mark m.Define → Reads b p.Expr ks e rest →
        Reads b p.Stmt (k ∷ o ∷ ks) (at k (t.Shape.definition (name_at b k) e)) rest
    stmt_typed : {k : Tok} {ks rest : List Tok} {u : Written} {e : Tree} → k.kind ≡ name →
        TypedValue b ks u e rest → Reads b p.Stmt (k ∷ ks) (at k (t.Shape.typed (name_at b k) u e))
        rest
    stmt_variable : {k n : Tok} {ks rest : List Tok} {u : Written} {e : Tree} →
        k.kind ≡ word w.Var → n.kind ≡ name → TypedValue b ks u e rest →
        Reads b p.Stmt (k ∷ n ∷ ks) (at k (t.Shape.variable (name_at b n) u e)) rest
    stmt_control : {ks rest : List Tok} {e : Tree} → Control b ks e rest → Reads b p.Stmt ks e rest
    stmt_expr : {ks rest : List Tok} {e : Tree} → Reads b p.Expr ks e rest →
        Reads b p.Stmt ks e rest
    -- bodies and expressions
    body_block : {ks rest : List Tok} {e : Tree} → Reads b p.Block ks e rest →
        Reads b p.Body ks e rest
    body_expr : {ks rest : List Tok} {e : Tree} → Reads b p.Expr ks e rest →
        Reads b p.Body ks e rest
    expr_if : {ks rest : List Tok} {e : Tree} → IsIf b ks e rest → Reads b p.Expr ks e rest
    expr_or : {ks rest : List Tok} {e : Tree} → Reads b p.Or ks e rest → Reads b p.Expr ks e rest
    -- levels, from the loosest
    or_chain : {ks ls rest : List Tok} {e f : Tree} → Reads b p.And ks e ls →
        Chain b p.Or e ls f rest → Reads b p.Or ks f rest
    and_chain : {ks ls rest : List Tok} {e f : Tree} → Reads b p.Not ks e ls →
        Chain b p.And e ls f rest → Reads b p.And ks f rest
    not_word : {k : Tok} {ks rest : List Tok} {e : Tree} → k.kind ≡ word w.Not →
        Reads b p.Not ks e rest → Reads b p.Not (k ∷ ks) (at k (t.Shape.negation e)) rest
    not_comparison : {ks rest : List Tok} {e : Tree} → Reads b p.Comparison ks e rest →
        Reads b p.Not ks e rest
    comparison_sum : {ks rest : List Tok} {e : Tree} → Reads b p.Sum ks e rest →
        Reads b p.Comparison ks e rest
    comparison_two : {k : Tok} {ks ls rest : List Tok} {o : Comparison} {e f : Tree} →
        Reads b p.Sum ks e (k ∷ ls) → comparison_at k.kind ≡ Some o → Reads b p.Sum ls f rest →
        Reads b p.Comparison ks (at k (t.Shape.compared o e f)) rest
    sum_chain : {ks ls rest : List Tok} {e f : Tree} → Reads b p.Product ks e ls →
        Chain b p.Sum e ls f rest → Reads b p.Sum ks f rest
    product_chain : {ks ls rest : List Tok} {e f : Tree} → Reads b p.Minus ks e ls →
        Chain b p.Product e ls f rest → Reads b p.Product ks f rest
    minus_mark : {k : Tok} {ks rest : List Tok} {e : Tree} → k.kind ≡ mark m.Minus →
        Reads b p.Minus ks e rest → Reads b p.Minus (k ∷ ks) (at k (t.Shape.minus e)) rest
    minus_postfix : {ks rest : List Tok} {e : Tree} → Reads b p.Postfix ks e rest →
        Reads b p.Minus ks e rest
    postfix_chain : {ks ls rest : List Tok} {e f : Tree} → Reads b p.Primary ks e ls →
        Postfixes b e ls f rest → Reads b p.Postfix ks f rest
    -- primary forms
    integer : {k : Tok} {rest : List Tok} {n : ℤ} → primary_start k.kind ≡ Some (primary.Int n) →
        Reads b p.Primary (k ∷ rest) (at k (t.Shape.integer n)) rest
    character : {k : Tok} {rest : List Tok} {n : ℕ} → primary_start k.kind ≡ Some (primary.Char n) →
        Reads b p.Primary (k ∷ rest) (at k (t.Shape.character n)) rest
    text : {k : Tok} {rest : List Tok} → primary_start k.kind ≡ Some primary.Text →
        Reads b p.Primary (k ∷ rest) (at k (t.Shape.text (text_at b k))) rest
    text_holes : {k : Tok} {ks rest : List Tok} {hs : List (Tree × Bytes)} →
        primary_start k.kind ≡ Some primary.TextOpen → AreHoles b ks hs rest →
        Reads b p.Primary (k ∷ ks) (at k (t.Shape.holes (text_at b k) (holes hs))) rest
    truth : {k : Tok} {rest : List Tok} → primary_start k.kind ≡ Some primary.True →
        Reads b p.Primary (k ∷ rest) (at k t.Shape.truth) rest
    falsehood : {k : Tok} {rest : List Tok} → primary_start k.kind ≡ Some primary.False →
        Reads b p.Primary (k ∷ rest) (at k t.Shape.falsehood) rest
    this : {k : Tok} {rest : List Tok} → primary_start k.kind ≡ Some primary.This →
        Reads b p.Primary (k ∷ rest) (at k t.Shape.this) rest
    name_alone : {k : Tok} {rest : List Tok} → primary_start k.kind ≡ Some primary.Name →
        Reads b p.Primary (k ∷ rest) (at k (t.Shape.name (name_at b k))) rest
    instance : {k o : Tok} {ks rest : List Tok} {gs : List (Bytes × Tree)} →
        primary_start k.kind ≡ Some primary.Name → o.kind ≡ tok.Open → GivensUntil b ks gs rest →
        Reads b p.Primary (k ∷ o ∷ ks) (at k (t.Shape.instance (name_at b k) (givens gs))) rest
    brackets : {k c : Tok} {ks rest : List Tok} {e : Tree} →
        primary_start k.kind ≡ Some primary.Round → Reads b p.Expr ks e (c ∷ rest) →
        c.kind ≡ mark m.RoundClose → Reads b p.Primary (k ∷ ks) e rest
    tuple : {k s : Tok} {ks ls rest : List Tok} {e : Tree} {es : List Tree} →
        primary_start k.kind ≡ Some primary.Round → Reads b p.Expr ks e (s ∷ ls) →
        s.kind ≡ mark m.Comma → Closed b p.Expr (mark m.Comma) (mark m.RoundClose) ls es rest →
        Reads b p.Primary (k ∷ ks) (at k (t.Shape.tuple (trees (e ∷ es)))) rest
    array : {k o : Tok} {ks rest : List Tok} {es : List Tree} →
        primary_start k.kind ≡ Some primary.Array → o.kind ≡ tok.Open →
        Until b p.Expr tok.Sep tok.Close ks es rest →
        Reads b p.Primary (k ∷ o ∷ ks) (at k (t.Shape.array (trees es))) rest
    mapping : {k o : Tok} {ks rest : List Tok} {ps : List (Tree × Tree)} →
        primary_start k.kind ≡ Some primary.Map → o.kind ≡ tok.Open → PairsUntil b ks ps rest →
        Reads b p.Primary (k ∷ o ∷ ks) (at k (t.Shape.mapping (pairs ps))) rest
    option : {k o : Tok} {ks rest : List Tok} {es : List Tree} →
        primary_start k.kind ≡ Some primary.Option → o.kind ≡ tok.Open →
        Closed b p.Stmt tok.Sep tok.Close ks es rest →
        Reads b p.Primary (k ∷ o ∷ ks) (at k (t.Shape.option (trees es))) rest
    logic : {k o : Tok} {ks rest : List Tok} {es : List Tree} →
        primary_start k.kind ≡ Some primary.Logic → o.kind ≡ tok.Open →
        Closed b p.Stmt tok.Sep tok.Close ks es rest →
        Reads b p.Primary (k ∷ o ∷ ks) (at k (t.Shape.logic (trees es))) rest
    event : {k o c : Tok} {ks rest : List Tok} {u : Option Written} →
        primary_start k.kind ≡ Some primary.Event → BracketType b ks u (o ∷ c ∷ rest) →
        o.kind ≡ tok.Open → c.kind ≡ tok.Close → Reads b p.Primary (k ∷ ks) (event_at k u) rest
    for_form : {k o : Tok} {ks ls rest : List Tok} {cs : List Tree} {e : Tree} →
        primary_start k.kind ≡ Some primary.For → o.kind ≡ mark m.RoundOpen → Clauses b ks cs ls →
        Reads b p.Block ls e rest → Reads b p.Primary (k ∷ o ∷ ks)
        (at k (t.Shape.for_form (trees cs) e)) rest
    loop_form : {k : Tok} {ks rest : List Tok} {e : Tree} →
        primary_start k.kind ≡ Some primary.Loop → Reads b p.Block ks e rest →
        Reads b p.Primary (k ∷ ks) (at k (t.Shape.loop_form e)) rest
    block_form : {k : Tok} {ks rest : List Tok} {e : Tree} →
        primary_start k.kind ≡ Some primary.Block → Reads b p.Block ks e rest →
        Reads b p.Primary (k ∷ ks) (at k (t.Shape.block_form e)) rest
    branch : {k : Tok} {ks rest : List Tok} {e : Tree} →
        primary_start k.kind ≡ Some primary.Branch → Reads b p.Block ks e rest →
        Reads b p.Primary (k ∷ ks) (at k (t.Shape.branch e)) rest
    sync : {k o : Tok} {ks rest : List Tok} {es : List Tree} →
        primary_start k.kind ≡ Some primary.Sync → o.kind ≡ tok.Open →
        Until b p.Stmt tok.Sep tok.Close ks es rest →
        Reads b p.Primary (k ∷ o ∷ ks) (at k (t.Shape.sync (trees es))) rest
    race : {k o : Tok} {ks rest : List Tok} {es : List Tree} →
        primary_start k.kind ≡ Some primary.Race → o.kind ≡ tok.Open →
        Until b p.Stmt tok.Sep tok.Close ks es rest →
        Reads b p.Primary (k ∷ o ∷ ks) (at k (t.Shape.race (trees es))) rest
    rush : {k o : Tok} {ks rest : List Tok} {es : List Tree} →
        primary_start k.kind ≡ Some primary.Rush → o.kind ≡ tok.Open →
        Until b p.Stmt tok.Sep tok.Close ks es rest →
        Reads b p.Primary (k ∷ o ∷ ks) (at k (t.Shape.rush (trees es))) rest
    cases : {k o c q : Tok} {ks ls rest : List Tok} {e : Tree} {es : List Tree} →
        primary_start k.kind ≡ Some primary.Case → o.kind ≡ mark m.RoundOpen →
        Reads b p.Expr ks e (c ∷ q ∷ ls) → c.kind ≡ mark m.RoundClose → q.kind ≡ tok.Open →
        Closed b p.Arm tok.Sep tok.Close ls es rest →
        Reads b p.Primary (k ∷ o ∷ ks) (at k (t.Shape.cases e (trees es))) rest
    spawn : {k o c : Tok} {ks rest : List Tok} {e : Tree} →
        primary_start k.kind ≡ Some primary.Spawn → o.kind ≡ tok.Open →
        Reads b p.Expr ks e (c ∷ rest) → c.kind ≡ tok.Close →
        Reads b p.Primary (k ∷ o ∷ ks) (at k (t.Shape.spawn e)) rest
    sleep : {k o d c : Tok} {rest : List Tok} {n : ℕ} → primary_start k.kind ≡ Some primary.Sleep →
        o.kind ≡ mark m.RoundOpen → duration_at d.kind ≡ Some (duration.Milliseconds n) →
        c.kind ≡ mark m.RoundClose → Reads b p.Primary (k ∷ o ∷ d ∷ c ∷ rest)
        (at k (t.Shape.sleep n)) rest
    sleep_forever : {k o d c : Tok} {rest : List Tok} → primary_start k.kind ≡ Some primary.Sleep →
        o.kind ≡ mark m.RoundOpen → duration_at d.kind ≡ Some duration.Forever →
        c.kind ≡ mark m.RoundClose → Reads b p.Primary (k ∷ o ∷ d ∷ c ∷ rest)
        (at k t.Shape.sleep_forever) rest
    -- what a `for` takes
    elements : {k o : Tok} {ks rest : List Tok} {e : Tree} → k.kind ≡ name → o.kind ≡ mark m.Colon →
        Reads b p.Sum ks e rest → Reads b p.Generator (k ∷ o ∷ ks)
        (at k (t.Shape.elements (name_at b k) e)) rest
    entries : {k o v q : Tok} {ks rest : List Tok} {e : Tree} → k.kind ≡ name →
        o.kind ≡ mark m.Arrow → v.kind ≡ name → q.kind ≡ mark m.Colon → Reads b p.Sum ks e rest →
        Reads b p.Generator (k ∷ o ∷ v ∷ q ∷ ks)
        (at k (t.Shape.entries (name_at b k) (name_at b v) e)) rest
    range : {k o d : Tok} {ks ls rest : List Tok} {e f : Tree} → k.kind ≡ name →
        o.kind ≡ mark m.Define → Reads b p.Sum ks e (d ∷ ls) → d.kind ≡ mark m.DotDot →
        Reads b p.Sum ls f rest → Reads b p.Generator (k ∷ o ∷ ks)
        (at k (t.Shape.range (name_at b k) e f)) rest
    clause_generator : {ks rest : List Tok} {e : Tree} → Reads b p.Generator ks e rest →
        Reads b p.Clause ks e rest
    clause_definition : {k o : Tok} {ks rest : List Tok} {e : Tree} → k.kind ≡ name →
        o.kind ≡ mark m.Define → Reads b p.Expr ks e rest →
        Reads b p.Clause (k ∷ o ∷ ks) (at k (t.Shape.definition (name_at b k) e)) rest
    clause_control : {ks rest : List Tok} {e : Tree} → Control b ks e rest →
        Reads b p.Clause ks e rest
    clause_expr : {ks rest : List Tok} {e : Tree} → Reads b p.Expr ks e rest →
        Reads b p.Clause ks e rest
    -- the arms of a `case`, and their patterns
    arm : {k o : Tok} {ks ls rest : List Tok} {e f : Tree} → Reads b p.Pattern (k ∷ ks) e (o ∷ ls) →
        o.kind ≡ mark m.FatArrow → Reads b p.Body ls f rest →
        Reads b p.Arm (k ∷ ks) (at k (t.Shape.arm e f)) rest
    integer_pattern : {k : Tok} {rest : List Tok} {n : ℤ} →
        pattern_start k.kind ≡ Some (pattern.Int n) →
        Reads b p.Pattern (k ∷ rest) (at k (t.Shape.integer_pattern n)) rest
    minus_pattern : {k q : Tok} {rest : List Tok} {n : ℤ} →
        pattern_start k.kind ≡ Some pattern.Minus → int_at q.kind ≡ Some n →
        Reads b p.Pattern (k ∷ q ∷ rest) (at k (t.Shape.minus_pattern n)) rest
    character_pattern : {k : Tok} {rest : List Tok} {n : ℕ} →
        pattern_start k.kind ≡ Some (pattern.Char n) →
        Reads b p.Pattern (k ∷ rest) (at k (t.Shape.character_pattern n)) rest
    text_pattern : {k : Tok} {rest : List Tok} → pattern_start k.kind ≡ Some pattern.Text →
        Reads b p.Pattern (k ∷ rest) (at k (t.Shape.text_pattern (text_at b k))) rest
    truth_pattern : {k : Tok} {rest : List Tok} → pattern_start k.kind ≡ Some pattern.True →
        Reads b p.Pattern (k ∷ rest) (at k t.Shape.truth_pattern) rest
    falsehood_pattern : {k : Tok} {rest : List Tok} → pattern_start k.kind ≡ Some pattern.False →
        Reads b p.Pattern (k ∷ rest) (at k t.Shape.falsehood_pattern) rest
    any_pattern : {k : Tok} {rest : List Tok} → pattern_start k.kind ≡ Some pattern.Wild →
        Reads b p.Pattern (k ∷ rest) (at k t.Shape.any_pattern) rest
    enum_pattern : {k d v : Tok} {rest : List Tok} → pattern_start k.kind ≡ Some pattern.Name →
        d.kind ≡ mark m.Dot → v.kind ≡ name →
        Reads b p.Pattern (k ∷ d ∷ v ∷ rest)
        (at k (t.Shape.enum_pattern (name_at b k) (name_at b v))) rest

  -- `: t = E` behind a name
  pub data TypedValue (b : List ℕ) : List Tok → Written → Tree → List Tok → Type 0 where
    typed_value : {o q : Tok} {ks ls rest : List Tok} {u : Written} {e : Tree} →
        o.kind ≡ mark m.Colon → IsType b ks u (q ∷ ls) → q.kind ≡ mark m.Equals →
        Reads b p.Expr ls e rest → TypedValue b (o ∷ ks) u e rest

  -- statements that begin with a word of their own, and may be clauses too
  pub data Control (b : List ℕ) : List Tok → Tree → List Tok → Type 0 where
    assignment : {k o : Tok} {ks ls rest : List Tok} {a : Assign} {e f : Tree} →
        k.kind ≡ word w.Set → Reads b p.Postfix ks e (o ∷ ls) → assign_at o.kind ≡ Some a →
        Reads b p.Expr ls f rest → Control b (k ∷ ks) (at k (t.Shape.assignment a e f)) rest
    returned : {k : Tok} {ks rest : List Tok} {e : Tree} → k.kind ≡ word w.Return →
        Reads b p.Expr ks e rest → Control b (k ∷ ks) (at k (t.Shape.returned e)) rest
    returned_unit : {k : Tok} {rest : List Tok} → k.kind ≡ word w.Return →
        Control b (k ∷ rest) (at k t.Shape.returned_unit) rest
    break_form : {k : Tok} {rest : List Tok} → k.kind ≡ word w.Break →
        Control b (k ∷ rest) (at k t.Shape.break_form) rest

  -- `if`
  pub data IsIf (b : List ℕ) : List Tok → Tree → List Tok → Type 0 where
    if_alone : {k o : Tok} {ks ls rest : List Tok} {cs : List Tree} {e : Tree} →
        k.kind ≡ word w.If → o.kind ≡ mark m.RoundOpen →
        Closed b p.Stmt (mark m.Comma) (mark m.RoundClose) ks cs ls → Taken b ls e rest →
        IsIf b (k ∷ o ∷ ks) (at k (t.Shape.if_alone (trees cs) e)) rest
    if_else : {k o q : Tok} {ks ls ms rest : List Tok} {cs : List Tree} {e f : Tree} →
        k.kind ≡ word w.If → o.kind ≡ mark m.RoundOpen →
        Closed b p.Stmt (mark m.Comma) (mark m.RoundClose) ks cs ls → Taken b ls e (q ∷ ms) →
        q.kind ≡ word w.Else → Reads b p.Body ms f rest →
        IsIf b (k ∷ o ∷ ks) (at k (t.Shape.if_else (trees cs) e f)) rest

  -- the part of an `if` that is taken where its conditions hold
  pub data Taken (b : List ℕ) : List Tok → Tree → List Tok → Type 0 where
    taken_then : {k : Tok} {ks rest : List Tok} {e : Tree} → k.kind ≡ word w.Then →
        Reads b p.Or ks e rest → Taken b (k ∷ ks) e rest
    taken_block : {ks rest : List Tok} {e : Tree} → Reads b p.Block ks e rest → Taken b ks e rest

  -- operands that are joined to the tree so far, from the left
  pub data Chain (b : List ℕ) : Phrase → Tree → List Tok → Tree → List Tok → Type 0 where
    chain_none : {q : Phrase} {e : Tree} {rest : List Tok} → Chain b q e rest e rest
    chain_more : {q : Phrase} {k : Tok} {ks ls rest : List Tok} {o : Operator} {e f g : Tree} →
        Chain b q e ks f (k ∷ ls) → chain_operator q k.kind ≡ Some o →
        Reads b (operand q) ls g rest → Chain b q e ks (at k (t.Shape.chained o f g)) rest

  -- postfixes of the tree so far, from the left
  pub data Postfixes (b : List ℕ) : Tree → List Tok → Tree → List Tok → Type 0 where
    postfix_none : {e : Tree} {rest : List Tok} → Postfixes b e rest e rest
    postfix_call : {k : Tok} {ks ls rest : List Tok} {e f : Tree} {es : List Tree} →
        Postfixes b e ks f (k ∷ ls) → postfix_start k.kind ≡ Some postfix.Round →
        Until b p.Expr (mark m.Comma) (mark m.RoundClose) ls es rest →
        Postfixes b e ks (at k (t.Shape.call f (trees es))) rest
    postfix_index : {k : Tok} {ks ls rest : List Tok} {e f : Tree} {es : List Tree} →
        Postfixes b e ks f (k ∷ ls) → postfix_start k.kind ≡ Some postfix.Square →
        Until b p.Expr (mark m.Comma) (mark m.SquareClose) ls es rest →
        Postfixes b e ks (at k (t.Shape.index f (trees es))) rest
    postfix_member : {k n : Tok} {ks rest : List Tok} {e f : Tree} →
        Postfixes b e ks f (k ∷ n ∷ rest) → postfix_start k.kind ≡ Some postfix.Dot →
        n.kind ≡ name → Postfixes b e ks (at k (t.Shape.member f (name_at b n))) rest
    postfix_query : {k : Tok} {ks rest : List Tok} {e f : Tree} → Postfixes b e ks f (k ∷ rest) →
        postfix_start k.kind ≡ Some postfix.Question →
        Postfixes b e ks (at k (t.Shape.query f)) rest

  -- one or more phrases with a separator between them
  pub data Row (b : List ℕ) : Phrase → TokKind → List Tok → List Tree → List Tok → Type 0 where
    row_one : {q : Phrase} {s : TokKind} {ks rest : List Tok} {e : Tree} → Reads b q ks e rest →
        Row b q s ks (e ∷ []) rest
    row_more : {q : Phrase} {s : TokKind} {k : Tok} {ks ls rest : List Tok} {es : List Tree}
        {e : Tree} → Row b q s ks es (k ∷ ls) → k.kind ≡ s → Reads b q ls e rest →
        Row b q s ks (es ++ e ∷ []) rest

  -- the same up to a closing tok
  pub data Closed (b : List ℕ) : Phrase → TokKind → TokKind → List Tok → List Tree → List Tok →
      Type 0 where
    closed : {q : Phrase} {s c : TokKind} {k : Tok} {ks rest : List Tok} {es : List Tree} →
        Row b q s ks es (k ∷ rest) → k.kind ≡ c → Closed b q s c ks es rest

  -- no phrase or more up to a closing tok
  pub data Until (b : List ℕ) : Phrase → TokKind → TokKind → List Tok → List Tree → List Tok →
      Type 0 where
    until_none : {q : Phrase} {s c : TokKind} {k : Tok} {rest : List Tok} → k.kind ≡ c →
        Until b q s c (k ∷ rest) [] rest
    until_some : {q : Phrase} {s c : TokKind} {ks rest : List Tok} {es : List Tree} →
        Closed b q s c ks es rest → Until b q s c ks es rest

  -- holes of a text that another follows: an expression, and the part of the text behind it
  pub data HoleRow (b : List ℕ) : List Tok → List (Tree × Bytes) → List Tok → Type 0 where
    no_holes : {rest : List Tok} → HoleRow b rest [] rest
    more_holes : {k : Tok} {ks ls rest : List Tok} {e : Tree} {hs : List (Tree × Bytes)} →
        HoleRow b ks hs ls → Reads b p.Expr ls e (k ∷ rest) → k.kind ≡ tok.Plain token.TextMid →
        HoleRow b ks (hs ++ (e, text_at b k) ∷ []) rest

  -- the same with the last hole, behind which the text ends
  pub data AreHoles (b : List ℕ) : List Tok → List (Tree × Bytes) → List Tok → Type 0 where
    last_hole : {k : Tok} {ks ls rest : List Tok} {e : Tree} {hs : List (Tree × Bytes)} →
        HoleRow b ks hs ls → Reads b p.Expr ls e (k ∷ rest) → k.kind ≡ tok.Plain token.TextClose →
        AreHoles b ks (hs ++ (e, text_at b k) ∷ []) rest

  -- one or more keys with their values
  pub data PairRow (b : List ℕ) : List Tok → List (Tree × Tree) → List Tok → Type 0 where
    pair_one : {o : Tok} {ks ls rest : List Tok} {e f : Tree} → Reads b p.Expr ks e (o ∷ ls) →
        o.kind ≡ mark m.FatArrow → Reads b p.Expr ls f rest →
        PairRow b ks ((e, f) ∷ []) rest
    pair_more : {k o : Tok} {ks ls ms rest : List Tok} {e f : Tree} {ps : List (Tree × Tree)} →
        PairRow b ks ps (k ∷ ls) → k.kind ≡ tok.Sep → Reads b p.Expr ls e (o ∷ ms) →
        o.kind ≡ mark m.FatArrow → Reads b p.Expr ms f rest → PairRow b ks (ps ++ (e, f) ∷ []) rest

  -- the keys and values of a map up to Close
  pub data PairsUntil (b : List ℕ) : List Tok → List (Tree × Tree) → List Tok → Type 0 where
    no_pairs : {c : Tok} {rest : List Tok} → c.kind ≡ tok.Close → PairsUntil b (c ∷ rest) [] rest
    some_pairs : {c : Tok} {ks rest : List Tok} {ps : List (Tree × Tree)} →
        PairRow b ks ps (c ∷ rest) → c.kind ≡ tok.Close → PairsUntil b ks ps rest

  -- one or more fields that an instance is given
  pub data GivenRow (b : List ℕ) : List Tok → List (Bytes × Tree) → List Tok → Type 0 where
    given_one : {n o : Tok} {ks rest : List Tok} {e : Tree} → n.kind ≡ name →
        o.kind ≡ mark m.Define → Reads b p.Expr ks e rest →
        GivenRow b (n ∷ o ∷ ks) ((name_at b n, e) ∷ []) rest
    given_more : {k n o : Tok} {ks ls rest : List Tok} {e : Tree} {gs : List (Bytes × Tree)} →
        GivenRow b ks gs (k ∷ n ∷ o ∷ ls) → k.kind ≡ tok.Sep → n.kind ≡ name →
        o.kind ≡ mark m.Define → Reads b p.Expr ls e rest →
        GivenRow b ks (gs ++ (name_at b n, e) ∷ []) rest

  -- the fields of an instance up to Close
  pub data GivensUntil (b : List ℕ) : List Tok → List (Bytes × Tree) → List Tok → Type 0 where
    no_givens : {c : Tok} {rest : List Tok} → c.kind ≡ tok.Close → GivensUntil b (c ∷ rest) [] rest
    some_givens : {c : Tok} {ks rest : List Tok} {gs : List (Bytes × Tree)} →
        GivenRow b ks gs (c ∷ rest) → c.kind ≡ tok.Close → GivensUntil b ks gs rest

  -- a generator, and generators and clauses behind it
  pub data ClauseRow (b : List ℕ) : List Tok → List Tree → List Tok → Type 0 where
    first_generator : {ks rest : List Tok} {e : Tree} → Reads b p.Generator ks e rest →
        ClauseRow b ks (e ∷ []) rest
    more_clauses : {k : Tok} {ks ls rest : List Tok} {es : List Tree} {e : Tree} →
        ClauseRow b ks es (k ∷ ls) → k.kind ≡ mark m.Comma → Reads b p.Clause ls e rest →
        ClauseRow b ks (es ++ e ∷ []) rest

  -- the same up to the closing bracket
  pub data Clauses (b : List ℕ) : List Tok → List Tree → List Tok → Type 0 where
    clauses : {c : Tok} {ks rest : List Tok} {es : List Tree} → ClauseRow b ks es (c ∷ rest) →
        c.kind ≡ mark m.RoundClose → Clauses b ks es rest
