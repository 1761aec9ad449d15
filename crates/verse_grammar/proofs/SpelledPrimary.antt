-- What each primary form reads, with its value.
use Rattle.std.proofs.Common.{◌≡◌, ◌≢◌, ℕ, ℤ, List, [], ◌∷◌, Option, Some, refl, ap}
use Rattle.verse_lex.specs.declared.tokens.Mark.TheVariants as m
use Rattle.verse_layout.specs.declared.toks.TokKind.TheVariants as tok
use Rattle.verse_layout.specs.declared.toks.Tok.{Tok}
use Rattle.verse_tree.specs.Tree.{Bytes, Written, Tree, Shape}
use Rattle.verse_tree.specs.Tree as t
use Rattle.verse_tree.specs.View.{trees, holes, pairs, givens}
use Rattle.verse_grammar.specs.Toks.{mark, name, name_at, text_at, ahead}
use Rattle.verse_grammar.specs.Starts.{primary_start, pattern_start, duration_at, int_at}
use Rattle.verse_grammar.specs.Exprs.{at, event_at}
use Rattle.verse_grammar.specs.declared.phrases.Phrase.TheVariants as p
use Rattle.verse_grammar.specs.declared.starts.Duration.TheVariants as duration
use Rattle.verse_grammar.specs.declared.starts.PrimaryStart.TheVariants as primary
use Rattle.verse_grammar.specs.declared.starts.PatternStart.TheVariants as pattern
use Rattle.verse_grammar.specs.Symbols.{Rule, Symbol, a, rule, predict, takes, becomes, first_as, first_is, a_type, bracket_type, stmt_name}
use Rattle.verse_grammar.specs.Symbols.{typed_value, set_rest, assign, return_value, an_if, taken, otherwise, comparison_tail, postfix_tail}
use Rattle.verse_grammar.specs.Symbols.{hole_rest, name_rest, givens_until, given, givens_tail, round_rest, pairs_until, pair, pairs_tail}
use Rattle.verse_grammar.specs.Symbols.{clauses, case_rest, generator_rest, entries_rest, clause_name, clause_value, range_rest, an_int}
use Rattle.verse_grammar.specs.Symbols.{phrase, chain_tail, row_tail, closed, until}
use Rattle.verse_grammar.specs.Symbols as rules
use Rattle.verse_grammar.proofs.Sights.{unseen}
use Rattle.verse_grammar.proofs.SpelledTypes.{revalued}
use Rattle.verse_grammar.proofs.SpelledValues.{v_maybe_type, v_tree, v_trees, v_holes, v_givens, v_pairs, Gives, gives_none, gives_tok}
use Rattle.verse_grammar.proofs.SpelledValues.{gives_rule, gives_takes, gives_becomes}

pub case_integer : {b : List ℕ} {k : Tok} {rest : List Tok} {n : ℤ} → primary_start k.kind ≡ Some (primary.Int n) →
    Gives b (phrase p.Primary) (k ∷ rest) (v_tree (at k (t.Shape.integer n))) rest
case_integer h = gives_takes {r = phrase p.Primary} {Ys = []} (rw h refl) (gives_none) (rw h refl)

pub case_character : {b : List ℕ} {k : Tok} {rest : List Tok} {n : ℕ} → primary_start k.kind ≡ Some (primary.Char n) →
    Gives b (phrase p.Primary) (k ∷ rest) (v_tree (at k (t.Shape.character n))) rest
case_character h = gives_takes {r = phrase p.Primary} {Ys = []} (rw h refl) (gives_none) (rw h refl)

pub case_text : {b : List ℕ} {k : Tok} {rest : List Tok} → primary_start k.kind ≡ Some primary.Text →
    Gives b (phrase p.Primary) (k ∷ rest) (v_tree (at k (t.Shape.text (text_at b k)))) rest
case_text h = gives_takes {r = phrase p.Primary} {Ys = []} (rw h refl) (gives_none) (rw h refl)

pub case_truth : {b : List ℕ} {k : Tok} {rest : List Tok} → primary_start k.kind ≡ Some primary.True →
    Gives b (phrase p.Primary) (k ∷ rest) (v_tree (at k t.Shape.truth)) rest
case_truth h = gives_takes {r = phrase p.Primary} {Ys = []} (rw h refl) (gives_none) (rw h refl)

pub case_falsehood : {b : List ℕ} {k : Tok} {rest : List Tok} → primary_start k.kind ≡ Some primary.False →
    Gives b (phrase p.Primary) (k ∷ rest) (v_tree (at k t.Shape.falsehood)) rest
case_falsehood h = gives_takes {r = phrase p.Primary} {Ys = []} (rw h refl) (gives_none) (rw h refl)

pub case_this : {b : List ℕ} {k : Tok} {rest : List Tok} → primary_start k.kind ≡ Some primary.This →
    Gives b (phrase p.Primary) (k ∷ rest) (v_tree (at k t.Shape.this)) rest
case_this h = gives_takes {r = phrase p.Primary} {Ys = []} (rw h refl) (gives_none) (rw h refl)

pub case_array : {b : List ℕ} {k o : Tok} {ks rest : List Tok} {es : List Tree} → primary_start k.kind ≡ Some primary.Array →
    o.kind ≡ tok.Open → Gives b (until p.Expr tok.Sep tok.Close) ks (v_trees es) rest →
    Gives b (phrase p.Primary) (k ∷ o ∷ ks) (v_tree (at k (t.Shape.array (trees es)))) rest
case_array h d1 d2 = gives_takes {r = phrase p.Primary} {Ys = a tok.Open ∷ rule (until p.Expr tok.Sep tok.Close) ∷ []} (rw h refl)
    (gives_tok d1 (gives_rule d2 (gives_none))) (rw h refl)

pub case_mapping : {b : List ℕ} {k o : Tok} {ks rest : List Tok} {ps : List (Tree × Tree)} → primary_start k.kind ≡ Some primary.Map →
    o.kind ≡ tok.Open → Gives b pairs_until ks (v_pairs ps) rest →
    Gives b (phrase p.Primary) (k ∷ o ∷ ks) (v_tree (at k (t.Shape.mapping (pairs ps)))) rest
case_mapping h d1 d2 = gives_takes {r = phrase p.Primary} {Ys = a tok.Open ∷ rule pairs_until ∷ []} (rw h refl)
    (gives_tok d1 (gives_rule d2 (gives_none))) (rw h refl)

pub case_option : {b : List ℕ} {k o : Tok} {ks rest : List Tok} {es : List Tree} → primary_start k.kind ≡ Some primary.Option →
    o.kind ≡ tok.Open → Gives b (closed p.Stmt tok.Sep tok.Close) ks (v_trees es) rest →
    Gives b (phrase p.Primary) (k ∷ o ∷ ks) (v_tree (at k (t.Shape.option (trees es)))) rest
case_option h d1 d2 = gives_takes {r = phrase p.Primary} {Ys = a tok.Open ∷ rule (closed p.Stmt tok.Sep tok.Close) ∷ []} (rw h refl)
    (gives_tok d1 (gives_rule d2 (gives_none))) (rw h refl)

pub case_logic : {b : List ℕ} {k o : Tok} {ks rest : List Tok} {es : List Tree} → primary_start k.kind ≡ Some primary.Logic →
    o.kind ≡ tok.Open → Gives b (closed p.Stmt tok.Sep tok.Close) ks (v_trees es) rest →
    Gives b (phrase p.Primary) (k ∷ o ∷ ks) (v_tree (at k (t.Shape.logic (trees es)))) rest
case_logic h d1 d2 = gives_takes {r = phrase p.Primary} {Ys = a tok.Open ∷ rule (closed p.Stmt tok.Sep tok.Close) ∷ []} (rw h refl)
    (gives_tok d1 (gives_rule d2 (gives_none))) (rw h refl)

pub case_event : {b : List ℕ} {k o c : Tok} {ks rest : List Tok} {u : Option Written} → primary_start k.kind ≡ Some primary.Event →
    Gives b bracket_type ks (v_maybe_type u) (o ∷ c ∷ rest) → o.kind ≡ tok.Open → c.kind ≡ tok.Close →
    Gives b (phrase p.Primary) (k ∷ ks) (v_tree (event_at k u)) rest
case_event h d1 d2 d3 = gives_takes {r = phrase p.Primary} {Ys = rule bracket_type ∷ a tok.Open ∷ a tok.Close ∷ []} (rw h refl)
    (gives_rule d1 (gives_tok d2 (gives_tok d3 (gives_none)))) (rw h refl)

pub case_for_form : {b : List ℕ} {k o : Tok} {ks ls rest : List Tok} {cs : List Tree} {e : Tree} → primary_start k.kind ≡ Some primary.For →
    o.kind ≡ mark m.RoundOpen → Gives b clauses ks (v_trees cs) ls → Gives b (phrase p.Block) ls (v_tree e) rest →
    Gives b (phrase p.Primary) (k ∷ o ∷ ks) (v_tree (at k (t.Shape.for_form (trees cs) e))) rest
case_for_form h d1 d2 d3 = gives_takes {r = phrase p.Primary} {Ys = a (mark m.RoundOpen) ∷ rule clauses ∷ rule (phrase p.Block) ∷ []}
    (rw h refl) (gives_tok d1 (gives_rule d2 (gives_rule d3 (gives_none)))) (rw h refl)

pub case_loop_form : {b : List ℕ} {k : Tok} {ks rest : List Tok} {e : Tree} → primary_start k.kind ≡ Some primary.Loop →
    Gives b (phrase p.Block) ks (v_tree e) rest → Gives b (phrase p.Primary) (k ∷ ks) (v_tree (at k (t.Shape.loop_form e))) rest
case_loop_form h d1 = gives_takes {r = phrase p.Primary} {Ys = rule (phrase p.Block) ∷ []} (rw h refl) (gives_rule d1 (gives_none))
    (rw h refl)

pub case_block_form : {b : List ℕ} {k : Tok} {ks rest : List Tok} {e : Tree} → primary_start k.kind ≡ Some primary.Block →
    Gives b (phrase p.Block) ks (v_tree e) rest → Gives b (phrase p.Primary) (k ∷ ks) (v_tree (at k (t.Shape.block_form e))) rest
case_block_form h d1 = gives_takes {r = phrase p.Primary} {Ys = rule (phrase p.Block) ∷ []} (rw h refl) (gives_rule d1 (gives_none))
    (rw h refl)

pub case_branch : {b : List ℕ} {k : Tok} {ks rest : List Tok} {e : Tree} → primary_start k.kind ≡ Some primary.Branch →
    Gives b (phrase p.Block) ks (v_tree e) rest → Gives b (phrase p.Primary) (k ∷ ks) (v_tree (at k (t.Shape.branch e))) rest
case_branch h d1 = gives_takes {r = phrase p.Primary} {Ys = rule (phrase p.Block) ∷ []} (rw h refl) (gives_rule d1 (gives_none)) (rw h refl)

pub case_sync : {b : List ℕ} {k o : Tok} {ks rest : List Tok} {es : List Tree} → primary_start k.kind ≡ Some primary.Sync →
    o.kind ≡ tok.Open → Gives b (until p.Stmt tok.Sep tok.Close) ks (v_trees es) rest →
    Gives b (phrase p.Primary) (k ∷ o ∷ ks) (v_tree (at k (t.Shape.sync (trees es)))) rest
case_sync h d1 d2 = gives_takes {r = phrase p.Primary} {Ys = a tok.Open ∷ rule (until p.Stmt tok.Sep tok.Close) ∷ []} (rw h refl)
    (gives_tok d1 (gives_rule d2 (gives_none))) (rw h refl)

pub case_race : {b : List ℕ} {k o : Tok} {ks rest : List Tok} {es : List Tree} → primary_start k.kind ≡ Some primary.Race →
    o.kind ≡ tok.Open → Gives b (until p.Stmt tok.Sep tok.Close) ks (v_trees es) rest →
    Gives b (phrase p.Primary) (k ∷ o ∷ ks) (v_tree (at k (t.Shape.race (trees es)))) rest
case_race h d1 d2 = gives_takes {r = phrase p.Primary} {Ys = a tok.Open ∷ rule (until p.Stmt tok.Sep tok.Close) ∷ []} (rw h refl)
    (gives_tok d1 (gives_rule d2 (gives_none))) (rw h refl)

pub case_rush : {b : List ℕ} {k o : Tok} {ks rest : List Tok} {es : List Tree} → primary_start k.kind ≡ Some primary.Rush →
    o.kind ≡ tok.Open → Gives b (until p.Stmt tok.Sep tok.Close) ks (v_trees es) rest →
    Gives b (phrase p.Primary) (k ∷ o ∷ ks) (v_tree (at k (t.Shape.rush (trees es)))) rest
case_rush h d1 d2 = gives_takes {r = phrase p.Primary} {Ys = a tok.Open ∷ rule (until p.Stmt tok.Sep tok.Close) ∷ []} (rw h refl)
    (gives_tok d1 (gives_rule d2 (gives_none))) (rw h refl)

pub case_spawn : {b : List ℕ} {k o c : Tok} {ks rest : List Tok} {e : Tree} → primary_start k.kind ≡ Some primary.Spawn →
    o.kind ≡ tok.Open → Gives b (phrase p.Expr) ks (v_tree e) (c ∷ rest) → c.kind ≡ tok.Close →
    Gives b (phrase p.Primary) (k ∷ o ∷ ks) (v_tree (at k (t.Shape.spawn e))) rest
case_spawn h d1 d2 d3 = gives_takes {r = phrase p.Primary} {Ys = a tok.Open ∷ rule (phrase p.Expr) ∷ a tok.Close ∷ []} (rw h refl)
    (gives_tok d1 (gives_rule d2 (gives_tok d3 (gives_none)))) (rw h refl)

pub case_text_holes : {b : List ℕ} {k : Tok} {ks ms rest : List Tok} {e : Tree} {f : Tree → List (Tree × Bytes)}
    {hs : List (Tree × Bytes)} → primary_start k.kind ≡ Some primary.TextOpen → Gives b (phrase p.Expr) ks (v_tree e) ms →
    Gives b hole_rest ms (v_holes f) rest → f e ≡ hs →
    Gives b (phrase p.Primary) (k ∷ ks) (v_tree (at k (t.Shape.holes (text_at b k) (holes hs)))) rest
case_text_holes {b = b} {k = k} h d g q = revalued (ap (λ hs. v_tree (at k (t.Shape.holes (text_at b k) (holes hs)))) q)
    (gives_takes {r = phrase p.Primary} {Ys = rule (phrase p.Expr) ∷ rule hole_rest ∷ []} (rw h refl)
    (gives_rule d (gives_rule g gives_none)) (rw h refl))

pub case_name_alone : {b : List ℕ} {k : Tok} {rest : List Tok} → primary_start k.kind ≡ Some primary.Name → ahead rest ≢ Some tok.Open →
    Gives b (phrase p.Primary) (k ∷ rest) (v_tree (at k (t.Shape.name (name_at b k)))) rest
case_name_alone {rest = rest} h n = gives_takes {r = phrase p.Primary} {Ys = rule name_rest ∷ []} (rw h refl)
    (gives_rule (gives_becomes {r = name_rest} {Ys = []} (rw (unseen tok.Open rest n) refl) gives_none refl) gives_none) (rw h refl)

pub case_instance : {b : List ℕ} {k o : Tok} {ks rest : List Tok} {gs : List (Bytes × Tree)} → primary_start k.kind ≡ Some primary.Name →
    o.kind ≡ tok.Open → Gives b givens_until ks (v_givens gs) rest →
    Gives b (phrase p.Primary) (k ∷ o ∷ ks) (v_tree (at k (t.Shape.instance (name_at b k) (givens gs)))) rest
case_instance h ho d = gives_takes {r = phrase p.Primary} {Ys = rule name_rest ∷ []} (rw h refl)
    (gives_rule (gives_takes {r = name_rest} {Ys = rule givens_until ∷ []} (rw ho refl) (gives_rule d gives_none) refl) gives_none)
    (rw h refl)

pub case_brackets : {b : List ℕ} {k c : Tok} {ks rest : List Tok} {e : Tree} → primary_start k.kind ≡ Some primary.Round →
    Gives b (phrase p.Expr) ks (v_tree e) (c ∷ rest) → c.kind ≡ mark m.RoundClose →
    Gives b (phrase p.Primary) (k ∷ ks) (v_tree e) rest
case_brackets h d hc = gives_takes {r = phrase p.Primary} {Ys = rule (phrase p.Expr) ∷ rule round_rest ∷ []} (rw h refl)
    (gives_rule d (gives_rule (gives_becomes {r = round_rest} {Ys = a (mark m.RoundClose) ∷ []} (rw hc refl) (gives_tok hc gives_none) refl)
    gives_none)) (rw h refl)

pub case_tuple : {b : List ℕ} {k s : Tok} {ks ls rest : List Tok} {e : Tree} {es : List Tree} → primary_start k.kind ≡ Some primary.Round →
    Gives b (phrase p.Expr) ks (v_tree e) (s ∷ ls) → s.kind ≡ mark m.Comma →
    Gives b (closed p.Expr (mark m.Comma) (mark m.RoundClose)) ls (v_trees es) rest →
    Gives b (phrase p.Primary) (k ∷ ks) (v_tree (at k (t.Shape.tuple (trees (e ∷ es))))) rest
case_tuple h d hs g = gives_takes {r = phrase p.Primary} {Ys = rule (phrase p.Expr) ∷ rule round_rest ∷ []} (rw h refl)
    (gives_rule d (gives_rule (gives_takes {r = round_rest} {Ys = rule (closed p.Expr (mark m.Comma) (mark m.RoundClose)) ∷ []} (rw hs refl)
    (gives_rule g gives_none) refl) gives_none)) (rw h refl)

pub case_cases : {b : List ℕ} {k o c q : Tok} {ks ls rest : List Tok} {e : Tree} {es : List Tree} →
    primary_start k.kind ≡ Some primary.Case → o.kind ≡ mark m.RoundOpen → Gives b (phrase p.Expr) ks (v_tree e) (c ∷ q ∷ ls) →
    c.kind ≡ mark m.RoundClose → q.kind ≡ tok.Open → Gives b (closed p.Arm tok.Sep tok.Close) ls (v_trees es) rest →
    Gives b (phrase p.Primary) (k ∷ o ∷ ks) (v_tree (at k (t.Shape.cases e (trees es)))) rest
case_cases h ho d hc hq g = gives_takes {r = phrase p.Primary} {Ys = rule case_rest ∷ []} (rw h refl)
    (gives_rule (gives_becomes {r = case_rest}
    {Ys = a (mark m.RoundOpen) ∷ rule (phrase p.Expr) ∷ a (mark m.RoundClose) ∷ a tok.Open ∷ rule (closed p.Arm tok.Sep tok.Close) ∷ []}
    refl
    (gives_tok ho (gives_rule d (gives_tok hc (gives_tok hq (gives_rule g gives_none))))) refl) gives_none) (rw h refl)

pub case_sleep : {b : List ℕ} {k o d c : Tok} {rest : List Tok} {n : ℕ} → primary_start k.kind ≡ Some primary.Sleep →
    o.kind ≡ mark m.RoundOpen → duration_at d.kind ≡ Some (duration.Milliseconds n) → c.kind ≡ mark m.RoundClose →
    Gives b (phrase p.Primary) (k ∷ o ∷ d ∷ c ∷ rest) (v_tree (at k (t.Shape.sleep n))) rest
case_sleep h ho hd hc = gives_takes {r = phrase p.Primary} {Ys = a (mark m.RoundOpen) ∷ rule rules.duration ∷ a (mark m.RoundClose) ∷ []}
    (rw h refl)
    (gives_tok ho (gives_rule (gives_takes {r = rules.duration} {Ys = []} (rw hd refl) gives_none refl) (gives_tok hc gives_none)))
    (rw (h, hd) refl)

pub case_sleep_forever : {b : List ℕ} {k o d c : Tok} {rest : List Tok} → primary_start k.kind ≡ Some primary.Sleep →
    o.kind ≡ mark m.RoundOpen → duration_at d.kind ≡ Some duration.Forever → c.kind ≡ mark m.RoundClose →
    Gives b (phrase p.Primary) (k ∷ o ∷ d ∷ c ∷ rest) (v_tree (at k t.Shape.sleep_forever)) rest
case_sleep_forever h ho hd hc = gives_takes {r = phrase p.Primary}
    {Ys = a (mark m.RoundOpen) ∷ rule rules.duration ∷ a (mark m.RoundClose) ∷ []} (rw h refl)
    (gives_tok ho (gives_rule (gives_takes {r = rules.duration} {Ys = []} (rw hd refl) gives_none refl) (gives_tok hc gives_none)))
    (rw (h, hd) refl)

pub case_integer_pattern : {b : List ℕ} {k : Tok} {rest : List Tok} {n : ℤ} → pattern_start k.kind ≡ Some (pattern.Int n) →
    Gives b (phrase p.Pattern) (k ∷ rest) (v_tree (at k (t.Shape.integer_pattern n))) rest
case_integer_pattern h = gives_takes {r = phrase p.Pattern} {Ys = []} (rw h refl) (gives_none) (rw h refl)

pub case_character_pattern : {b : List ℕ} {k : Tok} {rest : List Tok} {n : ℕ} → pattern_start k.kind ≡ Some (pattern.Char n) →
    Gives b (phrase p.Pattern) (k ∷ rest) (v_tree (at k (t.Shape.character_pattern n))) rest
case_character_pattern h = gives_takes {r = phrase p.Pattern} {Ys = []} (rw h refl) (gives_none) (rw h refl)

pub case_text_pattern : {b : List ℕ} {k : Tok} {rest : List Tok} → pattern_start k.kind ≡ Some pattern.Text →
    Gives b (phrase p.Pattern) (k ∷ rest) (v_tree (at k (t.Shape.text_pattern (text_at b k)))) rest
case_text_pattern h = gives_takes {r = phrase p.Pattern} {Ys = []} (rw h refl) (gives_none) (rw h refl)

pub case_truth_pattern : {b : List ℕ} {k : Tok} {rest : List Tok} → pattern_start k.kind ≡ Some pattern.True →
    Gives b (phrase p.Pattern) (k ∷ rest) (v_tree (at k t.Shape.truth_pattern)) rest
case_truth_pattern h = gives_takes {r = phrase p.Pattern} {Ys = []} (rw h refl) (gives_none) (rw h refl)

pub case_falsehood_pattern : {b : List ℕ} {k : Tok} {rest : List Tok} → pattern_start k.kind ≡ Some pattern.False →
    Gives b (phrase p.Pattern) (k ∷ rest) (v_tree (at k t.Shape.falsehood_pattern)) rest
case_falsehood_pattern h = gives_takes {r = phrase p.Pattern} {Ys = []} (rw h refl) (gives_none) (rw h refl)

pub case_any_pattern : {b : List ℕ} {k : Tok} {rest : List Tok} → pattern_start k.kind ≡ Some pattern.Wild →
    Gives b (phrase p.Pattern) (k ∷ rest) (v_tree (at k t.Shape.any_pattern)) rest
case_any_pattern h = gives_takes {r = phrase p.Pattern} {Ys = []} (rw h refl) (gives_none) (rw h refl)

pub case_enum_pattern : {b : List ℕ} {k d v : Tok} {rest : List Tok} → pattern_start k.kind ≡ Some pattern.Name → d.kind ≡ mark m.Dot →
    v.kind ≡ name → Gives b (phrase p.Pattern) (k ∷ d ∷ v ∷ rest) (v_tree (at k (t.Shape.enum_pattern (name_at b k) (name_at b v)))) rest
case_enum_pattern h d1 d2 = gives_takes {r = phrase p.Pattern} {Ys = a (mark m.Dot) ∷ a name ∷ []} (rw h refl)
    (gives_tok d1 (gives_tok d2 (gives_none))) (rw h refl)

pub case_minus_pattern : {b : List ℕ} {k q : Tok} {rest : List Tok} {n : ℤ} → pattern_start k.kind ≡ Some pattern.Minus →
    int_at q.kind ≡ Some n → Gives b (phrase p.Pattern) (k ∷ q ∷ rest) (v_tree (at k (t.Shape.minus_pattern n))) rest
case_minus_pattern h hq = gives_takes {r = phrase p.Pattern} {Ys = rule an_int ∷ []} (rw h refl)
    (gives_rule (gives_takes {r = an_int} {Ys = []} (rw hq refl) gives_none refl) gives_none) (rw (h, hq) refl)
