-- What each level of expressions, each chain and each row reads, with its value.
use Rattle.std.proofs.Common.{◌≡◌, ◌≢◌, ℕ, ◌≤◌, true, List, [], ◌∷◌, Some, refl, ap}
use Rattle.verse_lex.specs.declared.tokens.Word.TheVariants as w
use Rattle.verse_lex.specs.declared.tokens.Mark.TheVariants as m
use Rattle.verse_lex.specs.declared.tokens.TokenKind.TheVariants as token
use Rattle.verse_layout.specs.declared.toks.TokKind.{TokKind}
use Rattle.verse_layout.specs.declared.toks.TokKind.TheVariants as tok
use Rattle.verse_layout.specs.declared.toks.Tok.{Tok}
use Rattle.verse_tree.specs.Tree.{Bytes, Written, Tree, Shape}
use Rattle.verse_tree.specs.Tree as t
use Rattle.verse_tree.specs.View.{trees}
use Rattle.verse_tree.specs.declared.exprs.Comparison.{Comparison}
use Rattle.verse_tree.specs.declared.exprs.Operator.{Operator}
use Rattle.verse_grammar.specs.Toks.{word, mark, name, name_at, text_at, ahead}
use Rattle.verse_grammar.specs.Codes.{sees}
use Rattle.verse_grammar.specs.Starts.{postfix_start, comparison_at}
use Rattle.verse_grammar.specs.Exprs.{at, chain_operator, operand}
use Rattle.verse_grammar.specs.Follows.{rank_ahead, needs}
use Rattle.verse_grammar.specs.declared.phrases.Phrase.{Phrase}
use Rattle.verse_grammar.specs.declared.phrases.Phrase.TheVariants as p
use Rattle.verse_grammar.specs.declared.starts.PostfixStart.TheVariants as postfix
use Rattle.verse_grammar.specs.Symbols.{a, rule, an_if, taken, otherwise, comparison_tail, postfix_tail, hole_rest, givens_until, given}
use Rattle.verse_grammar.specs.Symbols.{givens_tail, pairs_until, pair, pairs_tail, clauses, phrase, chain_tail, row_tail, closed, until}
use Rattle.verse_grammar.proofs.Sights.{seen, unseen}
use Rattle.verse_grammar.proofs.SpelledRanks.{no_postfix, no_chain, no_comparison}
use Rattle.verse_grammar.proofs.SpelledValues.{v_tree, v_trees, v_after, v_holes, v_givens, v_pairs, Gives, gives_none, gives_tok}
use Rattle.verse_grammar.proofs.SpelledValues.{gives_rule, gives_takes, gives_becomes}

pub seen_first : (kind : TokKind) (ks : List Tok) → ahead ks ≡ Some kind → sees kind ks ≡ true
seen_first kind [] h = absurd (cc)
seen_first kind (k ∷ ks) h = let e : k.kind ≡ kind = cc in seen kind k ks e

-- blocks, bodies and expressions
pub case_block : {b : List ℕ} {k : Tok} {ks rest : List Tok} {ts : List Tree} → k.kind ≡ tok.Open →
    Gives b (until p.Part tok.Sep tok.Close) ks (v_trees ts) rest →
    Gives b (phrase p.Block) (k ∷ ks) (v_tree (at k (t.Shape.block (trees ts)))) rest
case_block h d = gives_becomes {r = phrase p.Block} {Ys = a tok.Open ∷ rule (until p.Part tok.Sep tok.Close) ∷ []} refl
    (gives_tok h (gives_rule d gives_none)) refl

pub case_part_defer : {b : List ℕ} {k : Tok} {ks rest : List Tok} {e : Tree} → k.kind ≡ word w.Defer →
    Gives b (phrase p.Block) ks (v_tree e) rest → Gives b (phrase p.Part) (k ∷ ks) (v_tree (at k (t.Shape.defer e))) rest
case_part_defer h d = gives_takes {r = phrase p.Part} {Ys = rule (phrase p.Block) ∷ []} (rw h refl) (gives_rule d gives_none) refl

pub case_part_stmt : {b : List ℕ} {ks rest : List Tok} {e : Tree} → ahead ks ≢ Some (word w.Defer) →
    Gives b (phrase p.Stmt) ks (v_tree e) rest → Gives b (phrase p.Part) ks (v_tree e) rest
case_part_stmt {ks = ks} n d = gives_becomes {r = phrase p.Part} {Ys = rule (phrase p.Stmt) ∷ []} (rw (unseen (word w.Defer) ks n) refl)
    (gives_rule d gives_none) refl

pub case_body_block : {b : List ℕ} {ks rest : List Tok} {e : Tree} → ahead ks ≡ Some tok.Open →
    Gives b (phrase p.Block) ks (v_tree e) rest → Gives b (phrase p.Body) ks (v_tree e) rest
case_body_block {ks = ks} h d = gives_becomes {r = phrase p.Body} {Ys = rule (phrase p.Block) ∷ []} (rw (seen_first tok.Open ks h) refl)
    (gives_rule d gives_none) refl

pub case_body_expr : {b : List ℕ} {ks rest : List Tok} {e : Tree} → ahead ks ≢ Some tok.Open → Gives b (phrase p.Expr) ks (v_tree e) rest →
    Gives b (phrase p.Body) ks (v_tree e) rest
case_body_expr {ks = ks} n d = gives_becomes {r = phrase p.Body} {Ys = rule (phrase p.Expr) ∷ []} (rw (unseen tok.Open ks n) refl)
    (gives_rule d gives_none) refl

pub case_expr_if : {b : List ℕ} {ks rest : List Tok} {e : Tree} → ahead ks ≡ Some (word w.If) → Gives b an_if ks (v_tree e) rest →
    Gives b (phrase p.Expr) ks (v_tree e) rest
case_expr_if {ks = ks} h d = gives_becomes {r = phrase p.Expr} {Ys = rule an_if ∷ []} (rw (seen_first (word w.If) ks h) refl)
    (gives_rule d gives_none) refl

pub case_expr_or : {b : List ℕ} {ks rest : List Tok} {e : Tree} → ahead ks ≢ Some (word w.If) → Gives b (phrase p.Or) ks (v_tree e) rest →
    Gives b (phrase p.Expr) ks (v_tree e) rest
case_expr_or {ks = ks} n d = gives_becomes {r = phrase p.Expr} {Ys = rule (phrase p.Or) ∷ []} (rw (unseen (word w.If) ks n) refl)
    (gives_rule d gives_none) refl

pub case_or_chain : {b : List ℕ} {ks ls rest : List Tok} {e f : Tree} {g : Tree → Tree} → Gives b (phrase p.And) ks (v_tree e) ls →
    Gives b (chain_tail p.Or) ls (v_after g) rest → g e ≡ f → Gives b (phrase p.Or) ks (v_tree f) rest
case_or_chain d c h = gives_becomes {r = phrase p.Or} {Ys = rule (phrase p.And) ∷ rule (chain_tail p.Or) ∷ []} refl
    (gives_rule d (gives_rule c gives_none)) (ap v_tree h)

pub case_and_chain : {b : List ℕ} {ks ls rest : List Tok} {e f : Tree} {g : Tree → Tree} → Gives b (phrase p.Not) ks (v_tree e) ls →
    Gives b (chain_tail p.And) ls (v_after g) rest → g e ≡ f → Gives b (phrase p.And) ks (v_tree f) rest
case_and_chain d c h = gives_becomes {r = phrase p.And} {Ys = rule (phrase p.Not) ∷ rule (chain_tail p.And) ∷ []} refl
    (gives_rule d (gives_rule c gives_none)) (ap v_tree h)

pub case_sum_chain : {b : List ℕ} {ks ls rest : List Tok} {e f : Tree} {g : Tree → Tree} → Gives b (phrase p.Product) ks (v_tree e) ls →
    Gives b (chain_tail p.Sum) ls (v_after g) rest → g e ≡ f → Gives b (phrase p.Sum) ks (v_tree f) rest
case_sum_chain d c h = gives_becomes {r = phrase p.Sum} {Ys = rule (phrase p.Product) ∷ rule (chain_tail p.Sum) ∷ []} refl
    (gives_rule d (gives_rule c gives_none)) (ap v_tree h)

pub case_product_chain : {b : List ℕ} {ks ls rest : List Tok} {e f : Tree} {g : Tree → Tree} → Gives b (phrase p.Minus) ks (v_tree e) ls →
    Gives b (chain_tail p.Product) ls (v_after g) rest → g e ≡ f → Gives b (phrase p.Product) ks (v_tree f) rest
case_product_chain d c h = gives_becomes {r = phrase p.Product} {Ys = rule (phrase p.Minus) ∷ rule (chain_tail p.Product) ∷ []} refl
    (gives_rule d (gives_rule c gives_none)) (ap v_tree h)

pub case_postfix_chain : {b : List ℕ} {ks ls rest : List Tok} {e f : Tree} {g : Tree → Tree} → Gives b (phrase p.Primary) ks (v_tree e) ls →
    Gives b postfix_tail ls (v_after g) rest → g e ≡ f → Gives b (phrase p.Postfix) ks (v_tree f) rest
case_postfix_chain d c h = gives_becomes {r = phrase p.Postfix} {Ys = rule (phrase p.Primary) ∷ rule postfix_tail ∷ []} refl
    (gives_rule d (gives_rule c gives_none)) (ap v_tree h)

pub case_not_word : {b : List ℕ} {k : Tok} {ks rest : List Tok} {e : Tree} → k.kind ≡ word w.Not →
    Gives b (phrase p.Not) ks (v_tree e) rest → Gives b (phrase p.Not) (k ∷ ks) (v_tree (at k (t.Shape.negation e))) rest
case_not_word h d = gives_takes {r = phrase p.Not} {Ys = rule (phrase p.Not) ∷ []} (rw h refl) (gives_rule d gives_none) refl

pub case_not_comparison : {b : List ℕ} {ks rest : List Tok} {e : Tree} → ahead ks ≢ Some (word w.Not) →
    Gives b (phrase p.Comparison) ks (v_tree e) rest → Gives b (phrase p.Not) ks (v_tree e) rest
case_not_comparison {ks = ks} n d = gives_becomes {r = phrase p.Not} {Ys = rule (phrase p.Comparison) ∷ []}
    (rw (unseen (word w.Not) ks n) refl) (gives_rule d gives_none) refl

pub case_minus_mark : {b : List ℕ} {k : Tok} {ks rest : List Tok} {e : Tree} → k.kind ≡ mark m.Minus →
    Gives b (phrase p.Minus) ks (v_tree e) rest → Gives b (phrase p.Minus) (k ∷ ks) (v_tree (at k (t.Shape.minus e))) rest
case_minus_mark h d = gives_takes {r = phrase p.Minus} {Ys = rule (phrase p.Minus) ∷ []} (rw h refl) (gives_rule d gives_none) refl

pub case_minus_postfix : {b : List ℕ} {ks rest : List Tok} {e : Tree} → ahead ks ≢ Some (mark m.Minus) →
    Gives b (phrase p.Postfix) ks (v_tree e) rest → Gives b (phrase p.Minus) ks (v_tree e) rest
case_minus_postfix {ks = ks} n d = gives_becomes {r = phrase p.Minus} {Ys = rule (phrase p.Postfix) ∷ []}
    (rw (unseen (mark m.Minus) ks n) refl) (gives_rule d gives_none) refl

comparison_end : {b : List ℕ} {rest : List Tok} → 5 ≤ rank_ahead (ahead rest) → Gives b comparison_tail rest (v_after (λ e. e)) rest
comparison_end {rest = rest} h = gives_becomes {r = comparison_tail} {Ys = []} (rw (no_comparison rest h) refl) gives_none refl

pub case_comparison_sum : {b : List ℕ} {ks rest : List Tok} {e : Tree} → Gives b (phrase p.Sum) ks (v_tree e) rest →
    5 ≤ rank_ahead (ahead rest) → Gives b (phrase p.Comparison) ks (v_tree e) rest
case_comparison_sum d h = gives_becomes {r = phrase p.Comparison} {Ys = rule (phrase p.Sum) ∷ rule comparison_tail ∷ []} refl
    (gives_rule d (gives_rule (comparison_end h) gives_none)) refl

pub case_comparison_two : {b : List ℕ} {k : Tok} {ks ls rest : List Tok} {o : Comparison} {e f : Tree} →
    Gives b (phrase p.Sum) ks (v_tree e) (k ∷ ls) → comparison_at k.kind ≡ Some o → Gives b (phrase p.Sum) ls (v_tree f) rest →
    Gives b (phrase p.Comparison) ks (v_tree (at k (t.Shape.compared o e f))) rest
case_comparison_two d h f = gives_becomes {r = phrase p.Comparison} {Ys = rule (phrase p.Sum) ∷ rule comparison_tail ∷ []} refl
    (gives_rule d (gives_rule (gives_takes {r = comparison_tail} {Ys = rule (phrase p.Sum) ∷ []} (rw h refl) (gives_rule f gives_none) refl)
    gives_none)) (rw h refl)

-- chains: the operators and operands behind the tree so far
pub record ChainGives (b : List ℕ) (q : Phrase) (ks : List Tok) (e f : Tree) (rest : List Tok) : Type 0 where
  pub after : Tree → Tree
  pub gives : Gives b (chain_tail q) ks (v_after after) rest
  pub same : after e ≡ f
  pub fits : needs (operand q) ≤ rank_ahead (ahead ks)

pub case_chain_end : {b : List ℕ} {rest : List Tok} (q : Phrase) → needs q ≤ rank_ahead (ahead rest) →
    Gives b (chain_tail q) rest (v_after (λ e. e)) rest
case_chain_end {rest = rest} q h = gives_becomes {r = chain_tail q} {Ys = []} (rw (no_chain q rest h) refl) gives_none refl

pub case_chain_more : {b : List ℕ} (q : Phrase) (k : Tok) {ls ms rest : List Tok} {o : Operator} {f : Tree} (g : Tree → Tree) →
    chain_operator q k.kind ≡ Some o → Gives b (phrase (operand q)) ls (v_tree f) ms →
    Gives b (chain_tail q) ms (v_after g) rest → Gives b (chain_tail q) (k ∷ ls) (v_after (λ e. g (at k (t.Shape.chained o e f)))) rest
case_chain_more q k g h d c = gives_takes {r = chain_tail q} {Ys = rule (phrase (operand q)) ∷ rule (chain_tail q) ∷ []} (rw h refl)
    (gives_rule d (gives_rule c gives_none)) (rw h refl)

-- postfixes
pub record PostfixGives (b : List ℕ) (ks : List Tok) (e f : Tree) (rest : List Tok) : Type 0 where
  pub after : Tree → Tree
  pub gives : Gives b postfix_tail ks (v_after after) rest
  pub same : after e ≡ f
  pub fits : 1 ≤ rank_ahead (ahead ks)

pub case_postfix_end : {b : List ℕ} {rest : List Tok} → 2 ≤ rank_ahead (ahead rest) → Gives b postfix_tail rest (v_after (λ e. e)) rest
case_postfix_end {rest = rest} h = gives_becomes {r = postfix_tail} {Ys = []} (rw (no_postfix rest h) refl) gives_none refl

pub case_postfix_call : {b : List ℕ} (k : Tok) {ls ms rest : List Tok} {es : List Tree} (g : Tree → Tree) →
    postfix_start k.kind ≡ Some postfix.Round → Gives b (until p.Expr (mark m.Comma) (mark m.RoundClose)) ls (v_trees es) ms →
    Gives b postfix_tail ms (v_after g) rest → Gives b postfix_tail (k ∷ ls) (v_after (λ e. g (at k (t.Shape.call e (trees es))))) rest
case_postfix_call k g h d c = gives_takes {r = postfix_tail}
    {Ys = rule (until p.Expr (mark m.Comma) (mark m.RoundClose)) ∷ rule postfix_tail ∷ []} (rw h refl)
    (gives_rule d (gives_rule c gives_none)) (rw h refl)

pub case_postfix_index : {b : List ℕ} (k : Tok) {ls ms rest : List Tok} {es : List Tree} (g : Tree → Tree) →
    postfix_start k.kind ≡ Some postfix.Square → Gives b (until p.Expr (mark m.Comma) (mark m.SquareClose)) ls (v_trees es) ms →
    Gives b postfix_tail ms (v_after g) rest → Gives b postfix_tail (k ∷ ls) (v_after (λ e. g (at k (t.Shape.index e (trees es))))) rest
case_postfix_index k g h d c = gives_takes {r = postfix_tail}
    {Ys = rule (until p.Expr (mark m.Comma) (mark m.SquareClose)) ∷ rule postfix_tail ∷ []} (rw h refl)
    (gives_rule d (gives_rule c gives_none)) (rw h refl)

pub case_postfix_member : {b : List ℕ} (k n : Tok) {ms rest : List Tok} (g : Tree → Tree) → postfix_start k.kind ≡ Some postfix.Dot →
    n.kind ≡ name →
    Gives b postfix_tail ms (v_after g) rest →
    Gives b postfix_tail (k ∷ n ∷ ms) (v_after (λ e. g (at k (t.Shape.member e (name_at b n))))) rest
case_postfix_member k n g h hn c = gives_takes {r = postfix_tail} {Ys = a name ∷ rule postfix_tail ∷ []} (rw h refl)
    (gives_tok hn (gives_rule c gives_none)) (rw h refl)

pub case_postfix_query : {b : List ℕ} (k : Tok) {ms rest : List Tok} (g : Tree → Tree) → postfix_start k.kind ≡ Some postfix.Question →
    Gives b postfix_tail ms (v_after g) rest → Gives b postfix_tail (k ∷ ms) (v_after (λ e. g (at k (t.Shape.query e)))) rest
case_postfix_query k g h c = gives_takes {r = postfix_tail} {Ys = rule postfix_tail ∷ []} (rw h refl) (gives_rule c gives_none) (rw h refl)

-- rows
pub record RowGives (b : List ℕ) (q : Phrase) (s : TokKind) (ks : List Tok) (es : List Tree) (rest : List Tok) : Type 0 where
  pub first : Tree
  pub others : List Tree
  pub mid : List Tok
  pub gives_first : Gives b (phrase q) ks (v_tree first) mid
  pub gives_others : Gives b (row_tail q s) mid (v_trees others) rest
  pub same : first ∷ others ≡ es

pub case_row_end : {b : List ℕ} {rest : List Tok} (q : Phrase) (s : TokKind) → ahead rest ≢ Some s →
    Gives b (row_tail q s) rest (v_trees []) rest
case_row_end {rest = rest} q s n = gives_becomes {r = row_tail q s} {Ys = []} (rw (unseen s rest n) refl) gives_none refl

pub case_row_more : {b : List ℕ} (k : Tok) {ls ms rest : List Tok} {e : Tree} {es : List Tree} (q : Phrase) (s : TokKind) → k.kind ≡ s →
    Gives b (phrase q) ls (v_tree e) ms → Gives b (row_tail q s) ms (v_trees es) rest →
    Gives b (row_tail q s) (k ∷ ls) (v_trees (e ∷ es)) rest
case_row_more k {ls = ls} q s h d c = gives_takes {r = row_tail q s} {Ys = rule (phrase q) ∷ rule (row_tail q s) ∷ []}
    (rw (seen s k ls h) refl) (gives_rule d (gives_rule c gives_none)) refl

pub case_closed : {b : List ℕ} {q : Phrase} {s c : TokKind} {k : Tok} {ks rest : List Tok} {es : List Tree} →
    RowGives b q s ks es (k ∷ rest) → k.kind ≡ c → Gives b (closed q s c) ks (v_trees es) rest
case_closed {q = q} {s = s} {c = c} r h = gives_becomes {r = closed q s c} {Ys = rule (phrase q) ∷ rule (row_tail q s) ∷ a c ∷ []} refl
    (gives_rule r.gives_first (gives_rule r.gives_others (gives_tok h gives_none))) (ap v_trees r.same)

pub case_until_none : {b : List ℕ} {k : Tok} {rest : List Tok} (q : Phrase) (s c : TokKind) → k.kind ≡ c →
    Gives b (until q s c) (k ∷ rest) (v_trees []) rest
case_until_none {k = k} {rest = rest} q s c h = gives_takes {r = until q s c} {Ys = []} (rw (seen c k rest h) refl) gives_none refl

pub case_until_some : {b : List ℕ} {q : Phrase} {s c : TokKind} {ks rest : List Tok} {es : List Tree} → ahead ks ≢ Some c →
    Gives b (closed q s c) ks (v_trees es) rest → Gives b (until q s c) ks (v_trees es) rest
case_until_some {q = q} {s = s} {c = c} {ks = ks} n d =
    gives_becomes {r = until q s c} {Ys = rule (closed q s c) ∷ []} (rw (unseen c ks n) refl) (gives_rule d gives_none) refl

-- a generator, and what stands behind it
pub record ClausesGive (b : List ℕ) (ks : List Tok) (es : List Tree) (rest : List Tok) : Type 0 where
  pub first : Tree
  pub others : List Tree
  pub mid : List Tok
  pub gives_first : Gives b (phrase p.Generator) ks (v_tree first) mid
  pub gives_others : Gives b (row_tail p.Clause (mark m.Comma)) mid (v_trees others) rest
  pub same : first ∷ others ≡ es

pub case_clauses : {b : List ℕ} {c : Tok} {ks rest : List Tok} {es : List Tree} → ClausesGive b ks es (c ∷ rest) →
    c.kind ≡ mark m.RoundClose → Gives b clauses ks (v_trees es) rest
case_clauses r h = gives_becomes {r = clauses}
    {Ys = rule (phrase p.Generator) ∷ rule (row_tail p.Clause (mark m.Comma)) ∷ a (mark m.RoundClose) ∷ []} refl
    (gives_rule r.gives_first (gives_rule r.gives_others (gives_tok h gives_none))) (ap v_trees r.same)

-- holes
pub record HolesGive (b : List ℕ) (ks : List Tok) (hs : List (Tree × Bytes)) (rest : List Tok) : Type 0 where
  pub first : Tree
  pub after : Tree → List (Tree × Bytes)
  pub mid : List Tok
  pub gives_first : Gives b (phrase p.Expr) ks (v_tree first) mid
  pub gives_after : Gives b hole_rest mid (v_holes after) rest
  pub same : after first ≡ hs

pub case_hole_end : {b : List ℕ} {k : Tok} {rest : List Tok} → k.kind ≡ tok.Plain token.TextClose →
    Gives b hole_rest (k ∷ rest) (v_holes (λ e. (e, text_at b k) ∷ [])) rest
case_hole_end h = gives_becomes {r = hole_rest} {Ys = a (tok.Plain token.TextClose) ∷ []} (rw h refl) (gives_tok h gives_none) refl

pub case_hole_more : {b : List ℕ} (k : Tok) {ls ms rest : List Tok} (f : Tree) (g : Tree → List (Tree × Bytes)) →
    k.kind ≡ tok.Plain token.TextMid → Gives b (phrase p.Expr) ls (v_tree f) ms → Gives b hole_rest ms (v_holes g) rest →
    Gives b hole_rest (k ∷ ls) (v_holes (λ e. (e, text_at b k) ∷ g f)) rest
case_hole_more k f g h d c = gives_takes {r = hole_rest} {Ys = rule (phrase p.Expr) ∷ rule hole_rest ∷ []} (rw h refl)
    (gives_rule d (gives_rule c gives_none)) refl

-- keys with values
pub record PairsGive (b : List ℕ) (ks : List Tok) (ps : List (Tree × Tree)) (rest : List Tok) : Type 0 where
  pub first : Tree × Tree
  pub others : List (Tree × Tree)
  pub mid : List Tok
  pub gives_first : Gives b pair ks (v_pairs (first ∷ [])) mid
  pub gives_others : Gives b pairs_tail mid (v_pairs others) rest
  pub same : first ∷ others ≡ ps

pub case_pair : {b : List ℕ} {o : Tok} {ks ls rest : List Tok} {e f : Tree} → Gives b (phrase p.Expr) ks (v_tree e) (o ∷ ls) →
    o.kind ≡ mark m.FatArrow → Gives b (phrase p.Expr) ls (v_tree f) rest →
    Gives b pair ks (v_pairs ((e, f) ∷ [])) rest
case_pair d h g = gives_becomes {r = pair} {Ys = rule (phrase p.Expr) ∷ a (mark m.FatArrow) ∷ rule (phrase p.Expr) ∷ []} refl
    (gives_rule d (gives_tok h (gives_rule g gives_none))) refl

pub case_pairs_end : {b : List ℕ} {c : Tok} {rest : List Tok} → c.kind ≡ tok.Close → Gives b pairs_tail (c ∷ rest) (v_pairs []) (c ∷ rest)
case_pairs_end h = gives_becomes {r = pairs_tail} {Ys = []} (rw h refl) gives_none refl

pub case_pairs_more : {b : List ℕ} (k : Tok) {ls ms rest : List Tok} {x : Tree × Tree} {xs : List (Tree × Tree)} → k.kind ≡ tok.Sep →
    Gives b pair ls (v_pairs (x ∷ [])) ms → Gives b pairs_tail ms (v_pairs xs) rest →
    Gives b pairs_tail (k ∷ ls) (v_pairs (x ∷ xs)) rest
case_pairs_more k h d c = gives_takes {r = pairs_tail} {Ys = rule pair ∷ rule pairs_tail ∷ []} (rw h refl)
    (gives_rule d (gives_rule c gives_none)) refl

pub case_no_pairs : {b : List ℕ} {c : Tok} {rest : List Tok} → c.kind ≡ tok.Close → Gives b pairs_until (c ∷ rest) (v_pairs []) rest
case_no_pairs h = gives_takes {r = pairs_until} {Ys = []} (rw h refl) gives_none refl

pub case_some_pairs : {b : List ℕ} {c : Tok} {ks rest : List Tok} {ps : List (Tree × Tree)} → ahead ks ≢ Some tok.Close →
    PairsGive b ks ps (c ∷ rest) → c.kind ≡ tok.Close → Gives b pairs_until ks (v_pairs ps) rest
case_some_pairs {ks = ks} n r h = gives_becomes {r = pairs_until} {Ys = rule pair ∷ rule pairs_tail ∷ a tok.Close ∷ []}
    (rw (unseen tok.Close ks n) refl)
    (gives_rule r.gives_first (gives_rule r.gives_others (gives_tok h gives_none))) (ap v_pairs r.same)

-- fields that are given
pub record GivensGive (b : List ℕ) (ks : List Tok) (gs : List (Bytes × Tree)) (rest : List Tok) : Type 0 where
  pub first : Bytes × Tree
  pub others : List (Bytes × Tree)
  pub mid : List Tok
  pub gives_first : Gives b given ks (v_givens (first ∷ [])) mid
  pub gives_others : Gives b givens_tail mid (v_givens others) rest
  pub same : first ∷ others ≡ gs

pub case_given : {b : List ℕ} {n o : Tok} {ks rest : List Tok} {e : Tree} → n.kind ≡ name → o.kind ≡ mark m.Define →
    Gives b (phrase p.Expr) ks (v_tree e) rest → Gives b given (n ∷ o ∷ ks) (v_givens ((name_at b n, e) ∷ [])) rest
case_given hn ho d = gives_becomes {r = given} {Ys = a name ∷ a (mark m.Define) ∷ rule (phrase p.Expr) ∷ []} refl
    (gives_tok hn (gives_tok ho (gives_rule d gives_none))) refl

pub case_givens_end : {b : List ℕ} {c : Tok} {rest : List Tok} → c.kind ≡ tok.Close →
    Gives b givens_tail (c ∷ rest) (v_givens []) (c ∷ rest)
case_givens_end h = gives_becomes {r = givens_tail} {Ys = []} (rw h refl) gives_none refl

pub case_givens_more : {b : List ℕ} (k : Tok) {ls ms rest : List Tok} {x : Bytes × Tree} {xs : List (Bytes × Tree)} → k.kind ≡ tok.Sep →
    Gives b given ls (v_givens (x ∷ [])) ms → Gives b givens_tail ms (v_givens xs) rest →
    Gives b givens_tail (k ∷ ls) (v_givens (x ∷ xs)) rest
case_givens_more k h d c = gives_takes {r = givens_tail} {Ys = rule given ∷ rule givens_tail ∷ []} (rw h refl)
    (gives_rule d (gives_rule c gives_none)) refl

pub case_no_givens : {b : List ℕ} {c : Tok} {rest : List Tok} → c.kind ≡ tok.Close → Gives b givens_until (c ∷ rest) (v_givens []) rest
case_no_givens h = gives_takes {r = givens_until} {Ys = []} (rw h refl) gives_none refl

pub case_some_givens : {b : List ℕ} {c : Tok} {ks rest : List Tok} {gs : List (Bytes × Tree)} → ahead ks ≢ Some tok.Close →
    GivensGive b ks gs (c ∷ rest) → c.kind ≡ tok.Close → Gives b givens_until ks (v_givens gs) rest
case_some_givens {ks = ks} n r h = gives_becomes {r = givens_until} {Ys = rule given ∷ rule givens_tail ∷ a tok.Close ∷ []}
    (rw (unseen tok.Close ks n) refl)
    (gives_rule r.gives_first (gives_rule r.gives_others (gives_tok h gives_none))) (ap v_givens r.same)

-- `if`
pub case_taken_then : {b : List ℕ} {k : Tok} {ks rest : List Tok} {e : Tree} → k.kind ≡ word w.Then →
    Gives b (phrase p.Or) ks (v_tree e) rest → Gives b taken (k ∷ ks) (v_tree e) rest
case_taken_then h d = gives_takes {r = taken} {Ys = rule (phrase p.Or) ∷ []} (rw h refl) (gives_rule d gives_none) refl

pub case_taken_block : {b : List ℕ} {ks rest : List Tok} {e : Tree} → ahead ks ≢ Some (word w.Then) →
    Gives b (phrase p.Block) ks (v_tree e) rest → Gives b taken ks (v_tree e) rest
case_taken_block {ks = ks} n d = gives_becomes {r = taken} {Ys = rule (phrase p.Block) ∷ []} (rw (unseen (word w.Then) ks n) refl)
    (gives_rule d gives_none) refl

pub case_if_alone : {b : List ℕ} {k o : Tok} {ks ls rest : List Tok} {cs : List Tree} {e : Tree} → k.kind ≡ word w.If →
    o.kind ≡ mark m.RoundOpen → Gives b (closed p.Stmt (mark m.Comma) (mark m.RoundClose)) ks (v_trees cs) ls →
    Gives b taken ls (v_tree e) rest → ahead rest ≢ Some (word w.Else) →
    Gives b an_if (k ∷ o ∷ ks) (v_tree (at k (t.Shape.if_alone (trees cs) e))) rest
case_if_alone {rest = rest} h ho d e n = gives_becomes {r = an_if}
    {Ys = a (word w.If) ∷ a (mark m.RoundOpen) ∷ rule (closed p.Stmt (mark m.Comma) (mark m.RoundClose)) ∷ rule taken ∷ rule otherwise ∷ []}
    refl
    (gives_tok h (gives_tok ho (gives_rule d
    (gives_rule e (gives_rule (gives_becomes {r = otherwise} {Ys = []} (rw (unseen (word w.Else) rest n) refl) gives_none refl)
    gives_none))))) refl

pub case_if_else : {b : List ℕ} {k o q : Tok} {ks ls ms rest : List Tok} {cs : List Tree} {e f : Tree} → k.kind ≡ word w.If →
    o.kind ≡ mark m.RoundOpen → Gives b (closed p.Stmt (mark m.Comma) (mark m.RoundClose)) ks (v_trees cs) ls →
    Gives b taken ls (v_tree e) (q ∷ ms) → q.kind ≡ word w.Else → Gives b (phrase p.Body) ms (v_tree f) rest →
    Gives b an_if (k ∷ o ∷ ks) (v_tree (at k (t.Shape.if_else (trees cs) e f))) rest
case_if_else h ho d e hq f = gives_becomes {r = an_if}
    {Ys = a (word w.If) ∷ a (mark m.RoundOpen) ∷ rule (closed p.Stmt (mark m.Comma) (mark m.RoundClose)) ∷ rule taken ∷ rule otherwise ∷ []}
    refl
    (gives_tok h (gives_tok ho (gives_rule d
    (gives_rule e (gives_rule (gives_takes {r = otherwise} {Ys = rule (phrase p.Body) ∷ []} (rw hq refl) (gives_rule f gives_none) refl)
    gives_none))))) refl
