-- Predictive reading with values: what each rule makes of the values of its parts, and that the toks settle it.
use Rattle.std.proofs.Common.{◌≡◌, ℕ, ℤ, pos, true, false, if◌then◌else◌, List, [], ◌∷◌, ◌++◌, Option, Some, None, refl, sym, ap, subst}
use Rattle.std.proofs.Common.{◌∙◌}
use Rattle.verse_lex.specs.declared.tokens.Word.TheVariants as w
use Rattle.verse_lex.specs.declared.tokens.Mark.TheVariants as m
use Rattle.verse_layout.specs.declared.toks.TokKind.{TokKind}
use Rattle.verse_layout.specs.declared.toks.Tok.{Tok}
use Rattle.verse_base.specs.declared.places.Place.{Place}
use Rattle.verse_tree.specs.Tree.{Bytes, Written, named, Tree, tree, Shape}
use Rattle.verse_tree.specs.Tree as t
use Rattle.verse_tree.specs.ItemTree.{SpecTree, ParamTree, FunTree, MemberTree, field, method, ItemTree, using, enumeration, class}
use Rattle.verse_tree.specs.ItemTree.{function}
use Rattle.verse_tree.specs.View.{writtens, trees, holes, pairs, givens}
use Rattle.verse_tree.specs.declared.exprs.Assign.{Assign}
use Rattle.verse_tree.specs.declared.exprs.Assign.TheVariants as assigns
use Rattle.verse_tree.specs.declared.exprs.Comparison.{Comparison}
use Rattle.verse_tree.specs.declared.exprs.Operator.{Operator}
use Rattle.verse_grammar.specs.Toks.{word, mark, name_at, text_at}
use Rattle.verse_grammar.specs.Codes.{sees, is_same}
use Rattle.verse_grammar.specs.Starts.{type_start, primary_start, postfix_start, stmt_start, pattern_start, item_start, comparison_at}
use Rattle.verse_grammar.specs.Starts.{assign_at, duration_at, int_at, begins_expr}
use Rattle.verse_grammar.specs.Exprs.{at, event_at, chain_operator}
use Rattle.verse_grammar.specs.declared.phrases.Phrase.TheVariants as p
use Rattle.verse_grammar.specs.declared.starts.Duration.{Duration}
use Rattle.verse_grammar.specs.declared.starts.Duration.TheVariants as durations
use Rattle.verse_grammar.specs.declared.starts.TypeStart.{TypeStart}
use Rattle.verse_grammar.specs.declared.starts.TypeStart.TheVariants as type
use Rattle.verse_grammar.specs.declared.starts.PrimaryStart.{PrimaryStart}
use Rattle.verse_grammar.specs.declared.starts.PrimaryStart.TheVariants as primary
use Rattle.verse_grammar.specs.declared.starts.PostfixStart.{PostfixStart}
use Rattle.verse_grammar.specs.declared.starts.PostfixStart.TheVariants as postfix
use Rattle.verse_grammar.specs.declared.starts.StmtStart.{StmtStart}
use Rattle.verse_grammar.specs.declared.starts.StmtStart.TheVariants as stmt
use Rattle.verse_grammar.specs.declared.starts.PatternStart.{PatternStart}
use Rattle.verse_grammar.specs.declared.starts.PatternStart.TheVariants as pattern
use Rattle.verse_grammar.specs.declared.starts.ItemStart.{ItemStart}
use Rattle.verse_grammar.specs.declared.starts.ItemStart.TheVariants as item
use Rattle.verse_grammar.specs.Symbols.{Rule, Symbol, a, rule, Move, takes, becomes, predict, first_is, a_type, bracket_rest, tuple_rest}
use Rattle.verse_grammar.specs.Symbols.{types, types_tail, bracket_type, bracket_type_rest, stmt_name, typed_value, set_rest, assign}
use Rattle.verse_grammar.specs.Symbols.{return_value, an_if, taken, otherwise, comparison_tail, postfix_tail, hole_rest, name_rest}
use Rattle.verse_grammar.specs.Symbols.{givens_until, given, givens_tail, round_rest, pairs_until, pair, pairs_tail, clauses, case_rest}
use Rattle.verse_grammar.specs.Symbols.{duration, generator_rest, entries_rest, clause_name, clause_value, range_rest, an_int, program}
use Rattle.verse_grammar.specs.Symbols.{items_tail, an_item, using_rest, dotted, dots_tail, path_tail, specs, item_rest, enum_or_class}
use Rattle.verse_grammar.specs.Symbols.{enum_rest, values_until, values_tail, class_rest, parent, members_until, members_tail, member}
use Rattle.verse_grammar.specs.Symbols.{member_rest, field_rest, default, fun_rest, params_until, param, params_tail, phrase, chain_tail}
use Rattle.verse_grammar.specs.Symbols.{row_tail, closed, until}
use Rattle.verse_grammar.specs.Reading.{Eats, EatsRule, eats_none, eats_tok, eats_rule, eats_takes, eats_becomes}

-- what a rule stands for; where a rule ends what another began, a function of that
pub data Val : Type 0 where
  nothing : Val
  v_tok : Tok → Val
  v_type : Written → Val
  v_types : List Written → Val
  v_maybe_type : Option Written → Val
  v_typed : Written → Tree → Val
  v_tree : Tree → Val
  v_trees : List Tree → Val
  v_maybe_tree : Option Tree → Val
  v_shape : Shape → Val
  v_after : (Tree → Tree) → Val
  v_named : (Tok → Tree) → Val
  v_holes : (Tree → List (Tree × Bytes)) → Val
  v_givens : List (Bytes × Tree) → Val
  v_pairs : List (Tree × Tree) → Val
  v_more : Option (List Tree) → Val
  v_assign : Assign → Val
  v_clause : (Tok → Tree → Tree) → Val
  v_int : ℤ → Val
  v_names : List Bytes → Val
  v_path : List (List Bytes) → Val
  v_specs : List SpecTree → Val
  v_maybe_name : Option Bytes → Val
  v_items : List ItemTree → Val
  v_item_named : (Tok → List SpecTree → ItemTree) → Val
  v_field : Written → Option Tree → Val
  v_members : List MemberTree → Val
  v_member_named : (Tok → List SpecTree → MemberTree) → Val
  v_fun : (Tok → List SpecTree → FunTree) → Val
  v_params : List ParamTree → Val

-- the parts of a list of values
abbrev pub v0 : List Val → Val
v0 [] = nothing
v0 (v ∷ vs) = v

abbrev pub rest_of : List Val → List Val
rest_of [] = []
rest_of (v ∷ vs) = vs

abbrev pub v1 : List Val → Val
v1 vs = v0 (rest_of vs)

abbrev pub v2 : List Val → Val
v2 vs = v1 (rest_of vs)

abbrev pub v3 : List Val → Val
v3 vs = v2 (rest_of vs)

abbrev pub v4 : List Val → Val
v4 vs = v3 (rest_of vs)

abbrev pub v5 : List Val → Val
v5 vs = v4 (rest_of vs)

abbrev pub v6 : List Val → Val
v6 vs = v5 (rest_of vs)

-- a place, a tok and a tree to stand where none is
abbrev pub no_place : Place
no_place = record { file = 0; line = 0; col = 0 }

abbrev pub no_tree : Tree
no_tree = tree 0 no_place t.Shape.truth

abbrev pub no_fun : FunTree
no_fun = record { number = 0; place = no_place; name = []; specs = []; params = []; effects = []; written = t.Written.int; body = no_tree }

abbrev pub no_item : ItemTree
no_item = function no_fun

abbrev pub no_member : MemberTree
no_member = method no_fun

abbrev pub as_type : Val → Written
as_type (v_type x) = x
as_type _ = t.Written.int

abbrev pub as_types : Val → List Written
as_types (v_types x) = x
as_types _ = []

abbrev pub as_maybe_type : Val → Option Written
as_maybe_type (v_maybe_type x) = x
as_maybe_type _ = None

abbrev pub as_tree : Val → Tree
as_tree (v_tree x) = x
as_tree _ = no_tree

abbrev pub as_trees : Val → List Tree
as_trees (v_trees x) = x
as_trees _ = []

abbrev pub as_maybe_tree : Val → Option Tree
as_maybe_tree (v_maybe_tree x) = x
as_maybe_tree _ = None

abbrev pub as_shape : Val → Shape
as_shape (v_shape x) = x
as_shape _ = t.Shape.truth

abbrev pub as_after : Val → Tree → Tree
as_after (v_after x) = x
as_after _ = λ e. e

abbrev pub as_named : Val → Tok → Tree
as_named (v_named x) = x
as_named _ = λ n. no_tree

abbrev pub as_holes : Val → Tree → List (Tree × Bytes)
as_holes (v_holes x) = x
as_holes _ = λ e. []

abbrev pub as_givens : Val → List (Bytes × Tree)
as_givens (v_givens x) = x
as_givens _ = []

abbrev pub as_pairs : Val → List (Tree × Tree)
as_pairs (v_pairs x) = x
as_pairs _ = []

abbrev pub as_more : Val → Option (List Tree)
as_more (v_more x) = x
as_more _ = None

abbrev pub as_assign : Val → Assign
as_assign (v_assign x) = x
as_assign _ = assigns.Set

abbrev pub as_clause : Val → Tok → Tree → Tree
as_clause (v_clause x) = x
as_clause _ = λ n e. e

abbrev pub as_int : Val → ℤ
as_int (v_int x) = x
as_int _ = pos 0

abbrev pub as_names : Val → List Bytes
as_names (v_names x) = x
as_names _ = []

abbrev pub as_path : Val → List (List Bytes)
as_path (v_path x) = x
as_path _ = []

abbrev pub as_specs : Val → List SpecTree
as_specs (v_specs x) = x
as_specs _ = []

abbrev pub as_maybe_name : Val → Option Bytes
as_maybe_name (v_maybe_name x) = x
as_maybe_name _ = None

abbrev pub as_items : Val → List ItemTree
as_items (v_items x) = x
as_items _ = []

abbrev pub as_item_named : Val → Tok → List SpecTree → ItemTree
as_item_named (v_item_named x) = x
as_item_named _ = λ n ss. no_item

abbrev pub as_members : Val → List MemberTree
as_members (v_members x) = x
as_members _ = []

abbrev pub as_member_named : Val → Tok → List SpecTree → MemberTree
as_member_named (v_member_named x) = x
as_member_named _ = λ n ss. no_member

abbrev pub as_fun : Val → Tok → List SpecTree → FunTree
as_fun (v_fun x) = x
as_fun _ = λ n ss. no_fun

abbrev pub as_params : Val → List ParamTree
as_params (v_params x) = x
as_params _ = []

abbrev pub typed_as : Val → Written
typed_as (v_typed u e) = u
typed_as _ = t.Written.int

abbrev pub typed_value_of : Val → Tree
typed_value_of (v_typed u e) = e
typed_value_of _ = no_tree

abbrev pub field_type : Val → Written
field_type (v_field u d) = u
field_type _ = t.Written.int

abbrev pub field_default : Val → Option Tree
field_default (v_field u d) = d
field_default _ = None

-- what a tok says, where it is one
abbrev pub tok_name : List ℕ → Val → Bytes
tok_name b (v_tok k) = name_at b k
tok_name b _ = []

abbrev pub tok_spec : List ℕ → Val → SpecTree
tok_spec b (v_tok k) = record { place = k.place; name = name_at b k }
tok_spec b _ = record { place = no_place; name = [] }

abbrev pub tok_param : List ℕ → Val → Written → ParamTree
tok_param b (v_tok k) u = record { number = 0; place = k.place; name = name_at b k; written = u }
tok_param b _ u = record { number = 0; place = no_place; name = []; written = u }

abbrev pub at_tok : Val → Shape → Tree
at_tok (v_tok k) s = at k s
at_tok _ s = no_tree

abbrev pub tok_text : List ℕ → Val → Bytes
tok_text b (v_tok k) = text_at b k
tok_text b _ = []

abbrev pub named_by : Val → Val → Tree
named_by f (v_tok k) = as_named f k
named_by f _ = no_tree

abbrev pub member_by : Val → Val → List SpecTree → MemberTree
member_by f (v_tok k) ss = as_member_named f k ss
member_by f _ ss = no_member

abbrev pub field_by : List ℕ → Tok → List SpecTree → Val → List SpecTree → Val → MemberTree
field_by b k vs (v_tok n) ss f = field (record {
  number = 0;
  place = k.place;
  is_var = true;
  var_specs = vs;
  name = name_at b n;
  specs = ss;
  written = field_type f;
  default =
      field_default f;
})
field_by b k vs _ ss f = no_member

abbrev pub event_value : Option Written → Written
event_value None = t.Written.bare_event
event_value (Some u) = t.Written.event u

abbrev pub type_value : List ℕ → Option TypeStart → Tok → List Val → Written
type_value b None k vs = t.Written.int
type_value b (Some type.Int) k vs = t.Written.int
type_value b (Some type.Logic) k vs = t.Written.logic
type_value b (Some type.Char) k vs = t.Written.char
type_value b (Some type.String) k vs = t.Written.string
type_value b (Some type.Void) k vs = t.Written.void
type_value b (Some type.Name) k vs = named 0 k.place (name_at b k)
type_value b (Some type.Option) k vs = t.Written.option (as_type (v0 vs))
type_value b (Some type.Bracket) k vs = as_type (v0 vs)
type_value b (Some type.Tuple) k vs = as_type (v0 vs)
type_value b (Some type.Task) k vs = t.Written.task (as_type (v1 vs))
type_value b (Some type.Event) k vs = event_value (as_maybe_type (v0 vs))

abbrev pub stmt_value : List ℕ → Option StmtStart → Tok → List Val → Tree
stmt_value b None k vs = no_tree
stmt_value b (Some stmt.Name) k vs = as_named (v0 vs) k
stmt_value b (Some stmt.Var) k vs = at k (t.Shape.variable (tok_name b (v0 vs)) (typed_as (v1 vs)) (typed_value_of (v1 vs)))
stmt_value b (Some stmt.Set) k vs = at k (as_shape (v0 vs))
stmt_value b (Some stmt.Return) k vs = at k (as_shape (v0 vs))
stmt_value b (Some stmt.Break) k vs = at k t.Shape.break_form

abbrev pub round_value : Tok → Tree → Option (List Tree) → Tree
round_value k e None = e
round_value k e (Some es) = at k (t.Shape.tuple (trees (e ∷ es)))

abbrev pub primary_value : List ℕ → Option PrimaryStart → Tok → List Val → Tree
primary_value b None k vs = no_tree
primary_value b (Some (primary.Int n)) k vs = at k (t.Shape.integer n)
primary_value b (Some (primary.Char n)) k vs = at k (t.Shape.character n)
primary_value b (Some primary.Text) k vs = at k (t.Shape.text (text_at b k))
primary_value b (Some primary.True) k vs = at k t.Shape.truth
primary_value b (Some primary.False) k vs = at k t.Shape.falsehood
primary_value b (Some primary.This) k vs = at k t.Shape.this
primary_value b (Some primary.TextOpen) k vs = at k (t.Shape.holes (text_at b k) (holes (as_holes (v1 vs) (as_tree (v0 vs)))))
primary_value b (Some primary.Name) k vs = as_named (v0 vs) k
primary_value b (Some primary.Round) k vs = round_value k (as_tree (v0 vs)) (as_more (v1 vs))
primary_value b (Some primary.Array) k vs = at k (t.Shape.array (trees (as_trees (v1 vs))))
primary_value b (Some primary.Map) k vs = at k (t.Shape.mapping (pairs (as_pairs (v1 vs))))
primary_value b (Some primary.Option) k vs = at k (t.Shape.option (trees (as_trees (v1 vs))))
primary_value b (Some primary.Logic) k vs = at k (t.Shape.logic (trees (as_trees (v1 vs))))
primary_value b (Some primary.Event) k vs = event_at k (as_maybe_type (v0 vs))
primary_value b (Some primary.For) k vs = at k (t.Shape.for_form (trees (as_trees (v1 vs))) (as_tree (v2 vs)))
primary_value b (Some primary.Loop) k vs = at k (t.Shape.loop_form (as_tree (v0 vs)))
primary_value b (Some primary.Block) k vs = at k (t.Shape.block_form (as_tree (v0 vs)))
primary_value b (Some primary.Branch) k vs = at k (t.Shape.branch (as_tree (v0 vs)))
primary_value b (Some primary.Sync) k vs = at k (t.Shape.sync (trees (as_trees (v1 vs))))
primary_value b (Some primary.Race) k vs = at k (t.Shape.race (trees (as_trees (v1 vs))))
primary_value b (Some primary.Rush) k vs = at k (t.Shape.rush (trees (as_trees (v1 vs))))
primary_value b (Some primary.Case) k vs = at k (as_shape (v0 vs))
primary_value b (Some primary.Spawn) k vs = at k (t.Shape.spawn (as_tree (v1 vs)))
primary_value b (Some primary.Sleep) k vs = at k (as_shape (v1 vs))

abbrev pub postfix_value : List ℕ → Option PostfixStart → Tok → List Val → Tree → Tree
postfix_value b None k vs e = e
postfix_value b (Some postfix.Round) k vs e = as_after (v1 vs) (at k (t.Shape.call e (trees (as_trees (v0 vs)))))
postfix_value b (Some postfix.Square) k vs e = as_after (v1 vs) (at k (t.Shape.index e (trees (as_trees (v0 vs)))))
postfix_value b (Some postfix.Dot) k vs e = as_after (v1 vs) (at k (t.Shape.member e (tok_name b (v0 vs))))
postfix_value b (Some postfix.Question) k vs e = as_after (v0 vs) (at k (t.Shape.query e))

abbrev pub pattern_value : List ℕ → Option PatternStart → Tok → List Val → Shape
pattern_value b None k vs = t.Shape.truth
pattern_value b (Some (pattern.Int n)) k vs = t.Shape.integer_pattern n
pattern_value b (Some (pattern.Char n)) k vs = t.Shape.character_pattern n
pattern_value b (Some pattern.Text) k vs = t.Shape.text_pattern (text_at b k)
pattern_value b (Some pattern.True) k vs = t.Shape.truth_pattern
pattern_value b (Some pattern.False) k vs = t.Shape.falsehood_pattern
pattern_value b (Some pattern.Wild) k vs = t.Shape.any_pattern
pattern_value b (Some pattern.Minus) k vs = t.Shape.minus_pattern (as_int (v0 vs))
pattern_value b (Some pattern.Name) k vs = t.Shape.enum_pattern (name_at b k) (tok_name b (v1 vs))

abbrev pub chain_value : Tok → Option Operator → List Val → Tree → Tree
chain_value k None vs e = e
chain_value k (Some o) vs e = as_after (v1 vs) (at k (t.Shape.chained o e (as_tree (v0 vs))))

abbrev pub comparison_value : Tok → Option Comparison → List Val → Tree → Tree
comparison_value k None vs e = e
comparison_value k (Some o) vs e = at k (t.Shape.compared o e (as_tree (v0 vs)))

abbrev pub assign_value : Option Assign → Assign
assign_value None = assigns.Set
assign_value (Some x) = x

abbrev pub duration_value : Option Duration → Shape
duration_value None = t.Shape.sleep_forever
duration_value (Some (durations.Milliseconds n)) = t.Shape.sleep n
duration_value (Some durations.Forever) = t.Shape.sleep_forever

abbrev pub int_value : Option ℤ → ℤ
int_value None = pos 0
int_value (Some n) = n

abbrev pub item_value : List ℕ → Option ItemStart → Tok → List Val → ItemTree
item_value b None k vs = no_item
item_value b (Some item.Using) k vs = using (record { number = 0; place = k.place; path = as_path (v0 vs) })
item_value b (Some item.Name) k vs = as_item_named (v1 vs) k (as_specs (v0 vs))

abbrev pub generator_value : List ℕ → Tok → List Val → Tok → Tree
generator_value b k vs n =
    if is_same k.kind (mark m.Colon) then at n (t.Shape.elements (name_at b n) (as_tree (v0 vs)))
    else (if is_same k.kind (mark m.Arrow) then as_named (v0 vs) n
    else at n (t.Shape.range (name_at b n) (as_tree (v0 vs)) (as_tree (v2 vs))))

abbrev pub clause_name_value : List ℕ → Tok → List Val → Tok → Tree
clause_name_value b k vs n =
    if is_same k.kind (mark m.Colon) then at n (t.Shape.elements (name_at b n) (as_tree (v0 vs))) else as_named (v0 vs) n

-- what a rule that takes a tok stands for
abbrev pub act_takes : List ℕ → Rule → Tok → List Val → Val
act_takes b a_type k vs = v_type (type_value b (type_start k.kind) k vs)
act_takes b bracket_rest k vs = v_type (t.Written.array (as_type (v0 vs)))
act_takes b types_tail k vs = v_types (as_type (v0 vs) ∷ as_types (v1 vs))
act_takes b bracket_type_rest k vs = v_maybe_type None
act_takes b (phrase p.Part) k vs = v_tree (at k (t.Shape.defer (as_tree (v0 vs))))
act_takes b (phrase p.Stmt) k vs = v_tree (stmt_value b (stmt_start k.kind) k vs)
act_takes b (phrase p.Not) k vs = v_tree (at k (t.Shape.negation (as_tree (v0 vs))))
act_takes b (phrase p.Minus) k vs = v_tree (at k (t.Shape.minus (as_tree (v0 vs))))
act_takes b (phrase p.Primary) k vs = v_tree (primary_value b (primary_start k.kind) k vs)
act_takes b (phrase p.Clause) k vs = v_tree (stmt_value b (stmt_start k.kind) k vs)
act_takes b (phrase p.Pattern) k vs = v_tree (at k (pattern_value b (pattern_start k.kind) k vs))
act_takes b stmt_name k vs = v_named (λ n. at n (t.Shape.definition (name_at b n) (as_tree (v0 vs))))
act_takes b assign k vs = v_assign (assign_value (assign_at k.kind))
act_takes b taken k vs = v0 vs
act_takes b otherwise k vs = v_maybe_tree (Some (as_tree (v0 vs)))
act_takes b (chain_tail q) k vs = v_after (chain_value k (chain_operator q k.kind) vs)
act_takes b comparison_tail k vs = v_after (comparison_value k (comparison_at k.kind) vs)
act_takes b postfix_tail k vs = v_after (postfix_value b (postfix_start k.kind) k vs)
act_takes b (row_tail q s) k vs = v_trees (as_tree (v0 vs) ∷ as_trees (v1 vs))
act_takes b (until q s c) k vs = v_trees []
act_takes b hole_rest k vs = v_holes (λ e. (e, text_at b k) ∷ as_holes (v1 vs) (as_tree (v0 vs)))
act_takes b name_rest k vs = v_named (λ n. at n (t.Shape.instance (name_at b n) (givens (as_givens (v0 vs)))))
act_takes b givens_until k vs = v_givens []
act_takes b givens_tail k vs = v_givens (as_givens (v0 vs) ++ as_givens (v1 vs))
act_takes b round_rest k vs = v_more (Some (as_trees (v0 vs)))
act_takes b pairs_until k vs = v_pairs []
act_takes b pairs_tail k vs = v_pairs (as_pairs (v0 vs) ++ as_pairs (v1 vs))
act_takes b duration k vs = v_shape (duration_value (duration_at k.kind))
act_takes b generator_rest k vs = v_named (generator_value b k vs)
act_takes b clause_name k vs = v_named (clause_name_value b k vs)
act_takes b range_rest k vs = v_clause (λ n e. at n (t.Shape.range (name_at b n) e (as_tree (v0 vs))))
act_takes b an_int k vs = v_int (int_value (int_at k.kind))
act_takes b items_tail k vs = v_items (as_items (v0 vs) ++ as_items (v1 vs))
act_takes b an_item k vs = v_items (item_value b (item_start k.kind) k vs ∷ [])
act_takes b dots_tail k vs = v_names (tok_name b (v0 vs) ∷ as_names (v1 vs))
act_takes b path_tail k vs = v_path (as_names (v0 vs) ∷ as_path (v1 vs))
act_takes b specs k vs = v_specs (tok_spec b (v0 vs) ∷ as_specs (v2 vs))
act_takes b item_rest k vs = v0 vs
act_takes b enum_or_class k vs =
    if is_same k.kind (word w.Enum) then v_item_named
    (λ n ss. enumeration (record { number = 0; place = n.place; name = name_at b n; specs = ss; values = as_names (v0 vs) })) else v0 vs
act_takes b values_until k vs = v_names []
act_takes b values_tail k vs = v_names (tok_name b (v0 vs) ∷ as_names (v1 vs))
act_takes b parent k vs = v_maybe_name (Some (tok_name b (v0 vs)))
act_takes b members_until k vs = v_members []
act_takes b members_tail k vs = v_members (as_members (v0 vs) ++ as_members (v1 vs))
act_takes b member k vs = v_members (field_by b k (as_specs (v0 vs)) (v1 vs) (as_specs (v2 vs)) (v3 vs) ∷ [])
act_takes b default k vs = v_maybe_tree (Some (as_tree (v0 vs)))
act_takes b params_until k vs = v_params []
act_takes b params_tail k vs = v_params (as_params (v0 vs) ++ as_params (v1 vs))
act_takes b _ k vs = nothing

abbrev pub arm_value : List Tok → Tree → Tree → Tree
arm_value [] e f = no_tree
arm_value (k ∷ ks) e f = at k (t.Shape.arm e f)

abbrev pub if_value : Val → List Tree → Tree → Option Tree → Tree
if_value k cs e None = at_tok k (t.Shape.if_alone (trees cs) e)
if_value k cs e (Some f) = at_tok k (t.Shape.if_else (trees cs) e f)

-- a name and the tails behind it
abbrev pub by_name : List Val → Tok → Tree
by_name vs n = as_after (v6 vs) (as_after (v5 vs)
    (as_after (v4 vs) (as_after (v3 vs) (as_after (v2 vs) (as_after (v1 vs) (as_named (v0 vs) n))))))

-- what a rule that becomes symbols stands for
abbrev pub act_becomes : List ℕ → Rule → List Tok → List Val → Val
act_becomes b bracket_rest ks vs = v_type (t.Written.map (as_type (v0 vs)) (as_type (v2 vs)))
act_becomes b tuple_rest ks vs = v_type (t.Written.tuple (writtens (as_type (v1 vs) ∷ as_types (v3 vs))))
act_becomes b types ks vs = v_types (as_type (v0 vs) ∷ as_types (v1 vs))
act_becomes b types_tail ks vs = v_types []
act_becomes b bracket_type ks vs = v1 vs
act_becomes b bracket_type_rest ks vs = v_maybe_type (Some (as_type (v0 vs)))
act_becomes b (phrase p.Block) ks vs = v_tree (at_tok (v0 vs) (t.Shape.block (trees (as_trees (v1 vs)))))
act_becomes b (phrase p.Or) ks vs = v_tree (as_after (v1 vs) (as_tree (v0 vs)))
act_becomes b (phrase p.And) ks vs = v_tree (as_after (v1 vs) (as_tree (v0 vs)))
act_becomes b (phrase p.Comparison) ks vs = v_tree (as_after (v1 vs) (as_tree (v0 vs)))
act_becomes b (phrase p.Sum) ks vs = v_tree (as_after (v1 vs) (as_tree (v0 vs)))
act_becomes b (phrase p.Product) ks vs = v_tree (as_after (v1 vs) (as_tree (v0 vs)))
act_becomes b (phrase p.Postfix) ks vs = v_tree (as_after (v1 vs) (as_tree (v0 vs)))
act_becomes b (phrase p.Generator) ks vs = v_tree (named_by (v1 vs) (v0 vs))
act_becomes b (phrase p.Arm) ks vs = v_tree (arm_value ks (as_tree (v0 vs)) (as_tree (v2 vs)))
act_becomes b (phrase q) ks vs = v_tree (as_tree (v0 vs))
act_becomes b stmt_name ks vs =
    if sees (mark m.Colon) ks then v_named (λ n. at n (t.Shape.typed (name_at b n) (typed_as (v0 vs)) (typed_value_of (v0 vs)))) else
    v_named (by_name vs)
act_becomes b typed_value ks vs = v_typed (as_type (v1 vs)) (as_tree (v3 vs))
act_becomes b set_rest ks vs = v_shape (t.Shape.assignment (as_assign (v1 vs)) (as_tree (v0 vs)) (as_tree (v2 vs)))
act_becomes b return_value ks vs = if first_is begins_expr ks then v_shape
    (t.Shape.returned (as_tree (v0 vs))) else v_shape t.Shape.returned_unit
act_becomes b an_if ks vs = v_tree (if_value (v0 vs) (as_trees (v2 vs)) (as_tree (v3 vs)) (as_maybe_tree (v4 vs)))
act_becomes b taken ks vs = v0 vs
act_becomes b otherwise ks vs = v_maybe_tree None
act_becomes b (chain_tail q) ks vs = v_after (λ e. e)
act_becomes b comparison_tail ks vs = v_after (λ e. e)
act_becomes b postfix_tail ks vs = v_after (λ e. e)
act_becomes b (row_tail q s) ks vs = v_trees []
act_becomes b (closed q s c) ks vs = v_trees (as_tree (v0 vs) ∷ as_trees (v1 vs))
act_becomes b (until q s c) ks vs = v0 vs
act_becomes b hole_rest ks vs = v_holes (λ e. (e, tok_text b (v0 vs)) ∷ [])
act_becomes b name_rest ks vs = v_named (λ n. at n (t.Shape.name (name_at b n)))
act_becomes b givens_until ks vs = v_givens (as_givens (v0 vs) ++ as_givens (v1 vs))
act_becomes b given ks vs = v_givens ((tok_name b (v0 vs), as_tree (v2 vs)) ∷ [])
act_becomes b givens_tail ks vs = v_givens []
act_becomes b round_rest ks vs = v_more None
act_becomes b pairs_until ks vs = v_pairs (as_pairs (v0 vs) ++ as_pairs (v1 vs))
act_becomes b pair ks vs = v_pairs ((as_tree (v0 vs), as_tree (v2 vs)) ∷ [])
act_becomes b pairs_tail ks vs = v_pairs []
act_becomes b clauses ks vs = v_trees (as_tree (v0 vs) ∷ as_trees (v1 vs))
act_becomes b case_rest ks vs = v_shape (t.Shape.cases (as_tree (v1 vs)) (trees (as_trees (v4 vs))))
act_becomes b entries_rest ks vs = v_named (λ n. at n (t.Shape.entries (name_at b n) (tok_name b (v0 vs)) (as_tree (v2 vs))))
act_becomes b clause_name ks vs = v_named (by_name vs)
act_becomes b clause_value ks vs =
    if sees (word w.If) ks then v_named (λ n. at n (t.Shape.definition (name_at b n) (as_tree (v0 vs))))
    else (if sees (word w.Not) ks then v_named (λ n. at n (t.Shape.definition (name_at b n) (as_tree (v0 vs))))
    else v_named (λ n. as_clause (v1 vs) n (as_tree (v0 vs))))
act_becomes b range_rest ks vs = v_clause (λ n e.
    at n (t.Shape.definition (name_at b n) (as_after (v2 vs) (as_after (v1 vs) (as_after (v0 vs) e)))))
act_becomes b program ks vs = v_items (as_items (v0 vs) ++ as_items (v1 vs))
act_becomes b items_tail ks vs = v_items []
act_becomes b using_rest ks vs = v_path (as_names (v2 vs) ∷ as_path (v3 vs))
act_becomes b dotted ks vs = v_names (tok_name b (v0 vs) ∷ as_names (v1 vs))
act_becomes b dots_tail ks vs = v_names []
act_becomes b path_tail ks vs = v_path []
act_becomes b specs ks vs = v_specs []
act_becomes b item_rest ks vs = v_item_named (λ n ss. function (as_fun (v0 vs) n ss))
act_becomes b enum_rest ks vs = v1 vs
act_becomes b values_until ks vs = v_names (tok_name b (v0 vs) ∷ as_names (v1 vs))
act_becomes b values_tail ks vs = v_names []
act_becomes b class_rest ks vs = v_item_named
    (λ n ss. class (record {
      number = 0;
      place = n.place;
      name = name_at b n;
      specs = ss;
      class_specs = as_specs (v0 vs);
      parent =
          as_maybe_name (v1 vs);
      members = as_members (v3 vs);
    }))
act_becomes b parent ks vs = v_maybe_name None
act_becomes b members_until ks vs = v_members (as_members (v0 vs) ++ as_members (v1 vs))
act_becomes b members_tail ks vs = v_members []
act_becomes b member ks vs = v_members (member_by (v2 vs) (v0 vs) (as_specs (v1 vs)) ∷ [])
act_becomes b member_rest ks vs =
    if sees (mark m.RoundOpen) ks then v_member_named (λ n ss. method (as_fun (v0 vs) n ss))
    else v_member_named (λ n ss. field (record {
      number = 0;
      place = n.place;
      is_var = false;
      var_specs = [];
      name = name_at b n;
      specs = ss;
      written =
          field_type (v0 vs);
      default = field_default (v0 vs);
    }))
act_becomes b field_rest ks vs = v_field (as_type (v1 vs)) (as_maybe_tree (v2 vs))
act_becomes b default ks vs = v_maybe_tree None
act_becomes b fun_rest ks vs = v_fun (λ n ss.
    record {
      number = 0;
      place = n.place;
      name = name_at b n;
      specs = ss;
      params = as_params (v1 vs);
      effects = as_specs (v2 vs);
      written =
          as_type (v4 vs);
      body = as_tree (v6 vs);
    })
act_becomes b params_until ks vs = v_params (as_params (v0 vs) ++ as_params (v1 vs))
act_becomes b param ks vs = v_params (tok_param b (v0 vs) (as_type (v2 vs)) ∷ [])
act_becomes b params_tail ks vs = v_params []
act_becomes b _ ks vs = nothing

mutual
  -- these symbols read the toks up to the rest, and have these values
  pub data GivesAll (b : List ℕ) : List Symbol → List Tok → List Val → List Tok → Type 0 where
    gives_none : {ks : List Tok} → GivesAll b [] ks [] ks
    gives_tok : {kind : TokKind} {Xs : List Symbol} {k : Tok} {ks rest : List Tok} {vs : List Val} → k.kind ≡ kind →
        GivesAll b Xs ks vs rest → GivesAll b (a kind ∷ Xs) (k ∷ ks) (v_tok k ∷ vs) rest
    gives_rule : {r : Rule} {Xs : List Symbol} {ks ls rest : List Tok} {v : Val} {vs : List Val} → Gives b r ks v ls →
        GivesAll b Xs ls vs rest → GivesAll b (rule r ∷ Xs) ks (v ∷ vs) rest

  pub data Gives (b : List ℕ) : Rule → List Tok → Val → List Tok → Type 0 where
    gives_takes : {r : Rule} {Ys : List Symbol} {k : Tok} {ks rest : List Tok} {vs : List Val} {v : Val} → predict r (k ∷ ks) ≡ takes Ys →
        GivesAll b Ys ks vs rest → act_takes b r k vs ≡ v → Gives b r (k ∷ ks) v rest
    gives_becomes : {r : Rule} {Ys : List Symbol} {ks rest : List Tok} {vs : List Val} {v : Val} → predict r ks ≡ becomes Ys →
        GivesAll b Ys ks vs rest → act_becomes b r ks vs ≡ v → Gives b r ks v rest

-- without the values
mutual
  pub gives_eats : {b : List ℕ} {r : Rule} {ks rest : List Tok} {v : Val} → Gives b r ks v rest → EatsRule r ks rest
  gives_eats (gives_takes h g q) = eats_takes h (all_eat g)
  gives_eats (gives_becomes h g q) = eats_becomes h (all_eat g)

  pub all_eat : {b : List ℕ} {Xs : List Symbol} {ks rest : List Tok} {vs : List Val} → GivesAll b Xs ks vs rest → Eats Xs ks rest
  all_eat gives_none = eats_none
  all_eat (gives_tok h g) = eats_tok h (all_eat g)
  all_eat (gives_rule r g) = eats_rule (gives_eats r) (all_eat g)

pub record Same (v u : Val) (rest end : List Tok) : Type 0 where
  pub value : v ≡ u
  pub behind : rest ≡ end

record SameAll (vs us : List Val) (rest end : List Tok) : Type 0 where
  values : vs ≡ us
  behind : rest ≡ end

takes_same : {M : Move} {Xs Ys : List Symbol} → M ≡ takes Xs → M ≡ takes Ys → Ys ≡ Xs
takes_same h g = cc

becomes_same : {M : Move} {Xs Ys : List Symbol} → M ≡ becomes Xs → M ≡ becomes Ys → Ys ≡ Xs
becomes_same h g = cc

-- the toks settle the values and the rest
mutual
  pub same_value : {b : List ℕ} {r : Rule} {ks rest end : List Tok} {v u : Val} → Gives b r ks v rest → Gives b r ks u end →
      Same v u rest end
  same_value {b = b} {r = r} {end = end} (gives_takes {Ys = Ys} {k = k} {ks = ks} {vs = vs} h g q) (gives_takes {Ys = Zs} {vs = us} i f p) =
      let s : Zs ≡ Ys = takes_same h i in
      let d : SameAll vs us _ end = same_values g (subst (λ (Xs : List Symbol). GivesAll b Xs ks us end) s f) in
      record { value = sym q ∙ ap (act_takes b r k) d.values ∙ p; behind = d.behind }
  same_value (gives_takes h g q) (gives_becomes i f p) = absurd (cc)
  same_value (gives_becomes h g q) (gives_takes i f p) = absurd (cc)
  same_value {b = b} {r = r} {ks = ks} {end = end} (gives_becomes {Ys = Ys} {vs = vs} h g q) (gives_becomes {Ys = Zs} {vs = us} i f p) =
      let s : Zs ≡ Ys = becomes_same h i in
      let d : SameAll vs us _ end = same_values g (subst (λ (Xs : List Symbol). GivesAll b Xs ks us end) s f) in
      record { value = sym q ∙ ap (act_becomes b r ks) d.values ∙ p; behind = d.behind }

  same_values : {b : List ℕ} {Xs : List Symbol} {ks rest end : List Tok} {vs us : List Val} → GivesAll b Xs ks vs rest →
      GivesAll b Xs ks us end → SameAll vs us rest end
  same_values gives_none gives_none = record { values = refl; behind = refl }
  same_values (gives_tok {k = k} h g) (gives_tok i f) = let d = same_values g f in
      record { values = ap (λ vs. v_tok k ∷ vs) d.values; behind = d.behind }
  same_values {b = b} {end = end} (gives_rule {Xs = Xs} {ls = ls} {v = v} {vs = vs} r g) (gives_rule {ls = ms} {v = u} {vs = us} s f) =
      let d : Same v u ls ms = same_value r s in
      let e : SameAll vs us _ end = same_values g (subst (λ (ns : List Tok). GivesAll b Xs ns us end) (sym d.behind) f) in
      record { values = ap (λ (x : Val). x ∷ vs) d.value ∙ ap (λ xs. u ∷ xs) e.values; behind = e.behind }
