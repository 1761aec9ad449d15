-- Primary forms: rows of their parts, and where they do not go on.
use Rattle.std.proofs.Common.{◌≡◌, ◌≢◌, ℕ, List, [], ◌∷◌, ◌++◌, Option, Some, None, length}
use Rattle.std.specs.Option.{option_map}
use Rattle.verse_lex.specs.declared.tokens.Mark.TheVariants as m
use Rattle.verse_lex.specs.declared.tokens.TokenKind.TheVariants as token
use Rattle.verse_layout.specs.declared.toks.TokKind.TheVariants as tok
use Rattle.verse_layout.specs.declared.toks.Tok.{Tok}
use Rattle.verse_tree.specs.declared.types.TyExpr.{TyExpr}
use Rattle.verse_tree.specs.Tree.{Bytes, Tree, tree}
use Rattle.verse_tree.specs.Tree as t
use Rattle.verse_tree.specs.View.{written_of, event_shape}
use Rattle.verse_grammar.specs.Toks.{ahead, mark}
use Rattle.verse_grammar.specs.Starts.{primary_start, duration_at}
use Rattle.verse_grammar.specs.Exprs.{Reads, BracketType, GivenRow, PairRow, given_one, given_more, pair_one, pair_more, event, sleep}
use Rattle.verse_grammar.specs.Exprs.{sleep_forever, spawn}
use Rattle.verse_grammar.specs.Symbols.{phrase, given, givens_until, givens_tail, pair, pairs_until, pairs_tail, hole_rest}
use Rattle.verse_grammar.specs.Reading.{EatsRule, SticksRule}
use Rattle.verse_grammar.specs.Loops.{Goes}
use Rattle.verse_grammar.specs.declared.phrases.Phrase.TheVariants as p
use Rattle.verse_grammar.specs.declared.starts.Duration.{Duration}
use Rattle.verse_grammar.specs.declared.starts.Duration.TheVariants as duration
use Rattle.verse_grammar.specs.declared.starts.PrimaryStart.TheVariants as primary
use Rattle.verse_grammar.proofs.Eating.{eats_givens_until_other, eats_givens_tail_other, eats_pairs_until_other, eats_pairs_tail_other}
use Rattle.verse_grammar.proofs.Eating.{eats_primary_textopen, eats_hole_rest_other, eats_pair, eats_primary_spawn}
use Rattle.verse_grammar.proofs.StickingParts.{sticks_givens_until_other_2, sticks_givens_until_other_3, sticks_pairs_until_other_2}
use Rattle.verse_grammar.proofs.Sticking.{sticks_primary_textopen_2}
use Rattle.verse_grammar.proofs.StickingParts.{sticks_pairs_until_other_3, sticks_hole_rest_other_1, sticks_pair_3}
use Rattle.verse_grammar.proofs.Going.{stuck_givens_tail_at_1, stuck_pairs_tail_at_1, stuck_hole_rest_at_1}
use Rattle.verse_expr_primary.specs.Parts.{IsGiven, is_given, IsPair, is_pair, slept}

-- the fields of an instance

pub given_row_one : {b : List ℕ} {ks rest : List Tok} {g : Bytes × Tree} → IsGiven b ks g rest → GivenRow b ks (g ∷ []) rest
given_row_one (is_given h i r) = given_one h i r

pub given_row_more : {b : List ℕ} {k : Tok} {ks ls rest : List Tok} {gs : List (Bytes × Tree)} {g : Bytes × Tree} →
    GivenRow b ks gs (k ∷ ls) → k.kind ≡ tok.Sep → IsGiven b ls g rest →
    GivenRow b ks (gs ++ g ∷ []) rest
given_row_more row s (is_given h i r) = given_more row s h i r

pub givens_eaten : (k : Tok) (ks mid rest : List Tok) → ahead ks ≢ Some tok.Close → EatsRule given ks mid →
    Goes givens_tail mid (k ∷ rest) → ahead (k ∷ rest) ≢ Some tok.Sep → k.kind ≡ tok.Close →
    EatsRule givens_until ks rest
givens_eaten k ks mid rest o e g n h = eats_givens_until_other k ks mid rest o e (g.eats (k ∷ rest) (eats_givens_tail_other (k ∷ rest) n)) h

pub givens_stuck_at_end : (ks mid at : List Tok) → ahead ks ≢ Some tok.Close → EatsRule given ks mid → Goes givens_tail mid at →
    ahead at ≢ Some tok.Sep → ahead at ≢ Some tok.Close →
    SticksRule givens_until ks (length at)
givens_stuck_at_end ks mid at o e g n x = sticks_givens_until_other_3 ks mid at o e (g.eats at (eats_givens_tail_other at n)) x

pub givens_stuck_between : (left : ℕ) (k : Tok) (ks mid at : List Tok) → ahead ks ≢ Some tok.Close → EatsRule given ks mid →
    Goes givens_tail mid (k ∷ at) → k.kind ≡ tok.Sep → SticksRule given at left →
    SticksRule givens_until ks left
givens_stuck_between left k ks mid at o e g h x = sticks_givens_until_other_2 left ks mid o e (stuck_givens_tail_at_1 left k mid at g h x)

-- the keys of a map

pub pair_row_one : {b : List ℕ} {ks rest : List Tok} {g : Tree × Tree} → IsPair b ks g rest → PairRow b ks (g ∷ []) rest
pair_row_one (is_pair r h s) = pair_one r h s

pub pair_row_more : {b : List ℕ} {k : Tok} {ks ls rest : List Tok} {gs : List (Tree × Tree)} {g : Tree × Tree} → PairRow b ks gs (k ∷ ls) →
    k.kind ≡ tok.Sep → IsPair b ls g rest →
    PairRow b ks (gs ++ g ∷ []) rest
pair_row_more row s (is_pair r h t) = pair_more row s r h t

pub pairs_eaten : (k : Tok) (ks mid rest : List Tok) → ahead ks ≢ Some tok.Close → EatsRule pair ks mid → Goes pairs_tail mid (k ∷ rest) →
    ahead (k ∷ rest) ≢ Some tok.Sep → k.kind ≡ tok.Close →
    EatsRule pairs_until ks rest
pairs_eaten k ks mid rest o e g n h = eats_pairs_until_other k ks mid rest o e (g.eats (k ∷ rest) (eats_pairs_tail_other (k ∷ rest) n)) h

pub pairs_stuck_at_end : (ks mid at : List Tok) → ahead ks ≢ Some tok.Close → EatsRule pair ks mid → Goes pairs_tail mid at →
    ahead at ≢ Some tok.Sep → ahead at ≢ Some tok.Close →
    SticksRule pairs_until ks (length at)
pairs_stuck_at_end ks mid at o e g n x = sticks_pairs_until_other_3 ks mid at o e (g.eats at (eats_pairs_tail_other at n)) x

pub pairs_stuck_between : (left : ℕ) (k : Tok) (ks mid at : List Tok) → ahead ks ≢ Some tok.Close → EatsRule pair ks mid →
    Goes pairs_tail mid (k ∷ at) → k.kind ≡ tok.Sep → SticksRule pair at left →
    SticksRule pairs_until ks left
pairs_stuck_between left k ks mid at o e g h x = sticks_pairs_until_other_2 left ks mid o e (stuck_pairs_tail_at_1 left k mid at g h x)

-- the clauses of a `for`

-- the holes of a text

pub holes_eaten : (k c : Tok) (ks mid rest : List Tok) → primary_start k.kind ≡ Some primary.TextOpen → EatsRule (phrase p.Expr) ks mid →
    Goes hole_rest mid (c ∷ rest) → ahead (c ∷ rest) ≢ Some (tok.Plain token.TextMid) → c.kind ≡ tok.Plain token.TextClose →
    EatsRule (phrase p.Primary) (k ∷ ks) rest
holes_eaten k c ks mid rest s e g n h = eats_primary_textopen k ks mid rest s e (g.eats rest (eats_hole_rest_other c rest n h))

pub holes_stuck_at_end : (k : Tok) (ks mid at : List Tok) → primary_start k.kind ≡ Some primary.TextOpen → EatsRule (phrase p.Expr) ks mid →
    Goes hole_rest mid at → ahead at ≢ Some (tok.Plain token.TextMid) → ahead at ≢ Some (tok.Plain token.TextClose) →
    SticksRule (phrase p.Primary) (k ∷ ks) (length at)
holes_stuck_at_end k ks mid at s e g n x =
    sticks_primary_textopen_2 (length at) k ks mid s e (g.sticks (length at) (sticks_hole_rest_other_1 at n x))

pub holes_stuck_between : (left : ℕ) (k c : Tok) (ks mid at : List Tok) → primary_start k.kind ≡ Some primary.TextOpen →
    EatsRule (phrase p.Expr) ks mid → Goes hole_rest mid (c ∷ at) → c.kind ≡ tok.Plain token.TextMid → SticksRule (phrase p.Expr) at left →
    SticksRule (phrase p.Primary) (k ∷ ks) left
holes_stuck_between left k c ks mid at s e g h x = sticks_primary_textopen_2 left k ks mid s e (stuck_hole_rest_at_1 left c mid at g h x)

-- brackets

pub event_reads : {b : List ℕ} {k o c : Tok} {ks rest : List Tok} (ty : Option TyExpr) → primary_start k.kind ≡ Some primary.Event →
    BracketType b ks (option_map written_of ty) (o ∷ c ∷ rest) → o.kind ≡ tok.Open → c.kind ≡ tok.Close →
    Reads b p.Primary (k ∷ ks) (tree 0 k.place (event_shape ty)) rest
event_reads None s t h i = event s t h i
event_reads (Some w) s t h i = event s t h i

pub sleep_reads : {b : List ℕ} {k o d c : Tok} {rest : List Tok} (l : Duration) → primary_start k.kind ≡ Some primary.Sleep →
    o.kind ≡ mark m.RoundOpen → duration_at d.kind ≡ Some l → c.kind ≡ mark m.RoundClose →
    Reads b p.Primary (k ∷ o ∷ d ∷ c ∷ rest) (tree 0 k.place (slept l)) rest
sleep_reads (duration.Milliseconds n) s h e i = sleep s h e i
sleep_reads duration.Forever s h e i = sleep_forever s h e i

-- a `case`

-- the same by equations: the tok that ends a part is known by one

pub pair_by : {b : List ℕ} {ks mid ls rest : List Tok} {o : Tok} {e f : Tree} → Reads b p.Expr ks e mid → mid ≡ o ∷ ls →
    o.kind ≡ mark m.FatArrow → Reads b p.Expr ls f rest → IsPair b ks (e, f) rest
pair_by r q h s = is_pair (rw q at r) h s

pub eats_pair_by : (o : Tok) (ks mid ls rest : List Tok) → EatsRule (phrase p.Expr) ks mid → mid ≡ o ∷ ls → o.kind ≡ mark m.FatArrow →
    EatsRule (phrase p.Expr) ls rest → EatsRule pair ks rest
eats_pair_by o ks mid ls rest e q h f = eats_pair o ks ls rest (rw q at e) h f

pub sticks_pair_by : (left : ℕ) (o : Tok) (ks mid at : List Tok) → EatsRule (phrase p.Expr) ks mid → mid ≡ o ∷ at →
    o.kind ≡ mark m.FatArrow → SticksRule (phrase p.Expr) at left → SticksRule pair ks left
sticks_pair_by left o ks mid at e q h x = sticks_pair_3 left o ks at (rw q at e) h x

pub spawn_by : {b : List ℕ} {k o c : Tok} {ks mid rest : List Tok} {e : Tree} → primary_start k.kind ≡ Some primary.Spawn →
    o.kind ≡ tok.Open → Reads b p.Expr ks e mid → mid ≡ c ∷ rest → c.kind ≡ tok.Close →
    Reads b p.Primary (k ∷ o ∷ ks) (tree 0 k.place (t.Shape.spawn e)) rest
spawn_by s h r q i = spawn s h (rw q at r) i

pub eats_spawn_by : (k o c : Tok) (ks mid rest : List Tok) → primary_start k.kind ≡ Some primary.Spawn → o.kind ≡ tok.Open →
    EatsRule (phrase p.Expr) ks mid → mid ≡ c ∷ rest → c.kind ≡ tok.Close →
    EatsRule (phrase p.Primary) (k ∷ (o ∷ ks)) rest
eats_spawn_by k o c ks mid rest s h e q i = eats_primary_spawn k o c ks rest s h (rw q at e) i
