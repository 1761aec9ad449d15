-- What rules stand for, by the grammar's relations: a rule that is a tail goes on with what stands before it.
use Rattle.std.proofs.Common.{◌≡◌, ℕ, ℤ, Bool, true, false, if◌then◌else◌, List, [], ◌∷◌, Option, Some, refl}
use Rattle.verse_lex.specs.declared.tokens.Word.TheVariants as w
use Rattle.verse_lex.specs.declared.tokens.Mark.TheVariants as m
use Rattle.verse_layout.specs.declared.toks.TokKind.{TokKind}
use Rattle.verse_layout.specs.declared.toks.Tok.{Tok}
use Rattle.verse_tree.specs.Tree.{Bytes, Written, Tree}
use Rattle.verse_tree.specs.ItemTree.{SpecTree, FunTree, ParamTree, MemberTree, ItemTree}
use Rattle.verse_tree.specs.declared.exprs.Assign.{Assign}
use Rattle.verse_grammar.specs.Toks.{word, mark, name}
use Rattle.verse_grammar.specs.Codes.{sees, is_same}
use Rattle.verse_grammar.specs.Starts.{type_start, primary_start, assign_at, duration_at, int_at}
use Rattle.verse_grammar.specs.Types.{IsType, AreTypes}
use Rattle.verse_grammar.specs.Exprs.{BracketType, Reads, TypedValue, Control, IsIf, Taken, Chain, Postfixes, Closed, Until, HoleRow}
use Rattle.verse_grammar.specs.Exprs.{AreHoles, PairRow, PairsUntil, GivenRow, GivensUntil, Clauses}
use Rattle.verse_grammar.specs.Items.{Specs, Dotted, Path, ValueRow, Values, Param, ParamRow, Params, FunRest, Default, Member, MemberRow}
use Rattle.verse_grammar.specs.Items.{Members, Parent, Item, ItemRow, Program}
use Rattle.verse_grammar.specs.declared.phrases.Phrase.{Phrase}
use Rattle.verse_grammar.specs.declared.phrases.Phrase.TheVariants as p
use Rattle.verse_grammar.specs.declared.starts.Duration.{Duration}
use Rattle.verse_grammar.specs.declared.starts.TypeStart.TheVariants as type
use Rattle.verse_grammar.specs.declared.starts.PrimaryStart.TheVariants as primary
use Rattle.verse_grammar.specs.Symbols.{Rule, Symbol, a, rule, Move, takes, becomes, refuses}
use Rattle.verse_grammar.specs.Symbols as s
use Rattle.verse_grammar.proofs.Sights.{same_kind}

-- one tok of which a function says something
pub data OneTok (A : Type 0) (f : TokKind → Option A) : List Tok → List Tok → Type 0 where
  one_tok : {k : Tok} {rest : List Tok} (x : A) → f k.kind ≡ Some x → OneTok A f (k ∷ rest) rest

-- a field that an instance is given
pub data IsGiven (b : List ℕ) : List Tok → List Tok → Type 0 where
  is_given : {n o : Tok} {ks rest : List Tok} {e : Tree} → n.kind ≡ name → o.kind ≡ mark m.Define → Reads b p.Expr ks e rest →
      IsGiven b (n ∷ o ∷ ks) rest

-- a key and its value
pub data IsPair (b : List ℕ) : List Tok → List Tok → Type 0 where
  is_pair : {o : Tok} {ks ls rest : List Tok} {e f : Tree} → Reads b p.Expr ks e (o ∷ ls) → o.kind ≡ mark m.FatArrow →
      Reads b p.Expr ls f rest → IsPair b ks rest

-- phrases, each behind a separator
pub data Tail (b : List ℕ) (q : Phrase) (sep : TokKind) : List Tok → List Tok → Type 0 where
  tail_none : {rest : List Tok} → Tail b q sep rest rest
  tail_more : {k : Tok} {ks ls rest : List Tok} {e : Tree} → k.kind ≡ sep → Reads b q ks e ls → Tail b q sep ls rest →
      Tail b q sep (k ∷ ks) rest

-- the type of a field and its default
pub data FieldRest (b : List ℕ) : List Tok → List Tok → Type 0 where
  field_rest : {o : Tok} {ks ls rest : List Tok} {u : Written} {d : Option Tree} → o.kind ≡ mark m.Colon → IsType b ks u ls →
      Default b ls d rest → FieldRest b (o ∷ ks) rest

-- what stands before the rest, by rule
abbrev pub Means : List ℕ → Rule → List Tok → List Tok → Type 0
Means b s.a_type ks rest = (u : Written) × IsType b ks u rest
Means b s.bracket_rest ks rest = (k : Tok) → type_start k.kind ≡ Some type.Bracket → (u : Written) × IsType b (k ∷ ks) u rest
Means b s.tuple_rest ks rest = (k : Tok) → type_start k.kind ≡ Some type.Tuple → (u : Written) × IsType b (k ∷ ks) u rest
Means b s.types ks rest = (us : List Written) × AreTypes b ks us rest
Means b s.types_tail ks rest = (js : List Tok) (us : List Written) → AreTypes b js us ks → (vs : List Written) × AreTypes b js vs rest
Means b s.bracket_type ks rest = (u : Option Written) × BracketType b ks u rest
Means b s.bracket_type_rest ks rest = (o : Tok) → o.kind ≡ mark m.RoundOpen → (u : Option Written) × BracketType b (o ∷ ks) u rest
Means b (s.phrase q) ks rest = (e : Tree) × Reads b q ks e rest
Means b s.stmt_name ks rest = (k : Tok) → k.kind ≡ name → (e : Tree) × Reads b p.Stmt (k ∷ ks) e rest
Means b s.typed_value ks rest = (u : Written) × (e : Tree) × TypedValue b ks u e rest
Means b s.set_rest ks rest = (k : Tok) → k.kind ≡ word w.Set → (e : Tree) × Control b (k ∷ ks) e rest
Means b s.assign ks rest = OneTok Assign assign_at ks rest
Means b s.return_value ks rest = (k : Tok) → k.kind ≡ word w.Return → (e : Tree) × Control b (k ∷ ks) e rest
Means b s.an_if ks rest = (e : Tree) × IsIf b ks e rest
Means b s.taken ks rest = (e : Tree) × Taken b ks e rest
Means b s.otherwise ks rest = (k o : Tok) (js ls : List Tok) (cs : List Tree) (e : Tree) → k.kind ≡ word w.If → o.kind ≡ mark m.RoundOpen →
    Closed b p.Stmt (mark m.Comma) (mark m.RoundClose) js cs ls → Taken b ls e ks → (f : Tree) × IsIf b (k ∷ o ∷ js) f rest
Means b (s.chain_tail q) ks rest = (js : List Tok) (e f : Tree) → Chain b q e js f ks → (g : Tree) × Chain b q e js g rest
Means b s.comparison_tail ks rest = (js : List Tok) (e : Tree) → Reads b p.Sum js e ks → (f : Tree) × Reads b p.Comparison js f rest
Means b s.postfix_tail ks rest = (js : List Tok) (e f : Tree) → Postfixes b e js f ks → (g : Tree) × Postfixes b e js g rest
Means b (s.row_tail q sep) ks rest = Tail b q sep ks rest
Means b (s.closed q sep c) ks rest = (es : List Tree) × Closed b q sep c ks es rest
Means b (s.until q sep c) ks rest = (es : List Tree) × Until b q sep c ks es rest
Means b s.hole_rest ks rest = (js ls : List Tok) (hs : List (Tree × Bytes)) (e : Tree) → HoleRow b js hs ls → Reads b p.Expr ls e ks →
    (gs : List (Tree × Bytes)) × AreHoles b js gs rest
Means b s.name_rest ks rest = (k : Tok) → primary_start k.kind ≡ Some primary.Name → (e : Tree) × Reads b p.Primary (k ∷ ks) e rest
Means b s.givens_until ks rest = (gs : List (Bytes × Tree)) × GivensUntil b ks gs rest
Means b s.given ks rest = IsGiven b ks rest
Means b s.givens_tail ks rest = (js : List Tok) (gs : List (Bytes × Tree)) → GivenRow b js gs ks →
    (hs : List (Bytes × Tree)) × GivenRow b js hs rest
Means b s.round_rest ks rest = (k : Tok) (js : List Tok) (e : Tree) → primary_start k.kind ≡ Some primary.Round → Reads b p.Expr js e ks →
    (f : Tree) × Reads b p.Primary (k ∷ js) f rest
Means b s.pairs_until ks rest = (ps : List (Tree × Tree)) × PairsUntil b ks ps rest
Means b s.pair ks rest = IsPair b ks rest
Means b s.pairs_tail ks rest = (js : List Tok) (ps : List (Tree × Tree)) → PairRow b js ps ks →
    (qs : List (Tree × Tree)) × PairRow b js qs rest
Means b s.clauses ks rest = (es : List Tree) × Clauses b ks es rest
Means b s.case_rest ks rest = (k : Tok) → primary_start k.kind ≡ Some primary.Case → (e : Tree) × Reads b p.Primary (k ∷ ks) e rest
Means b s.duration ks rest = OneTok Duration duration_at ks rest
Means b s.generator_rest ks rest = (k : Tok) → k.kind ≡ name → (e : Tree) × Reads b p.Generator (k ∷ ks) e rest
Means b s.entries_rest ks rest = (k o : Tok) → k.kind ≡ name → o.kind ≡ mark m.Arrow → (e : Tree) × Reads b p.Generator (k ∷ o ∷ ks) e rest
Means b s.clause_name ks rest = (k : Tok) → k.kind ≡ name → (e : Tree) × Reads b p.Clause (k ∷ ks) e rest
Means b s.clause_value ks rest = (k o : Tok) → k.kind ≡ name → o.kind ≡ mark m.Define → (e : Tree) × Reads b p.Clause (k ∷ o ∷ ks) e rest
Means b s.range_rest ks rest = (k o : Tok) (js : List Tok) (e : Tree) → k.kind ≡ name → o.kind ≡ mark m.Define → Reads b p.Sum js e ks →
    (f : Tree) × Reads b p.Clause (k ∷ o ∷ js) f rest
Means b s.an_int ks rest = OneTok ℤ int_at ks rest
Means b s.program ks rest = (is : List ItemTree) × Program b ks is rest
Means b s.items_tail ks rest = (js : List Tok) (is : List ItemTree) → ItemRow b js is ks → (us : List ItemTree) × ItemRow b js us rest
Means b s.an_item ks rest = (i : ItemTree) × Item b ks i rest
Means b s.using_rest ks rest = (k : Tok) → k.kind ≡ word w.Using → (i : ItemTree) × Item b (k ∷ ks) i rest
Means b s.dotted ks rest = (ns : List Bytes) × Dotted b ks ns rest
Means b s.dots_tail ks rest = (js : List Tok) (ns : List Bytes) → Dotted b js ns ks → (us : List Bytes) × Dotted b js us rest
Means b s.path_tail ks rest = (js : List Tok) (ns : List (List Bytes)) → Path b js ns ks → (us : List (List Bytes)) × Path b js us rest
Means b s.specs ks rest = (js : List Tok) (ss : List SpecTree) → Specs b js ss ks → (us : List SpecTree) × Specs b js us rest
Means b s.item_rest ks rest = (n : Tok) (js : List Tok) (ss : List SpecTree) → n.kind ≡ name → Specs b js ss ks →
    (i : ItemTree) × Item b (n ∷ js) i rest
Means b s.enum_or_class ks rest = (n d : Tok) (js : List Tok) (ss : List SpecTree) → n.kind ≡ name → d.kind ≡ mark m.Define →
    Specs b js ss (d ∷ ks) → (i : ItemTree) × Item b (n ∷ js) i rest
Means b s.enum_rest ks rest = (n d e : Tok) (js : List Tok) (ss : List SpecTree) → n.kind ≡ name → d.kind ≡ mark m.Define →
    e.kind ≡ word w.Enum → Specs b js ss (d ∷ e ∷ ks) →
    (i : ItemTree) × Item b (n ∷ js) i rest
Means b s.values_until ks rest = (vs : List Bytes) × Values b ks vs rest
Means b s.values_tail ks rest = (js : List Tok) (vs : List Bytes) → ValueRow b js vs ks → (us : List Bytes) × ValueRow b js us rest
Means b s.class_rest ks rest = (n d e : Tok) (js : List Tok) (ss : List SpecTree) → n.kind ≡ name → d.kind ≡ mark m.Define →
    e.kind ≡ word w.Class → Specs b js ss (d ∷ e ∷ ks) →
    (i : ItemTree) × Item b (n ∷ js) i rest
Means b s.parent ks rest = (q : Option Bytes) × Parent b ks q rest
Means b s.members_until ks rest = (xs : List MemberTree) × Members b ks xs rest
Means b s.members_tail ks rest = (js : List Tok) (xs : List MemberTree) → MemberRow b js xs ks →
    (us : List MemberTree) × MemberRow b js us rest
Means b s.member ks rest = (x : MemberTree) × Member b ks x rest
Means b s.member_rest ks rest = (n : Tok) (js : List Tok) (ss : List SpecTree) → n.kind ≡ name → Specs b js ss ks →
    (x : MemberTree) × Member b (n ∷ js) x rest
Means b s.field_rest ks rest = FieldRest b ks rest
Means b s.default ks rest = (d : Option Tree) × Default b ks d rest
Means b s.fun_rest ks rest = (n : Tok) (ss : List SpecTree) → (f : FunTree) × FunRest b n ss ks f rest
Means b s.params_until ks rest = (qs : List ParamTree) × Params b ks qs rest
Means b s.param ks rest = (q : ParamTree) × Param b ks q rest
Means b s.params_tail ks rest = (js : List Tok) (qs : List ParamTree) → ParamRow b js qs ks → (us : List ParamTree) × ParamRow b js us rest

-- what symbols stand for, one after the other
pub data MeansAll (b : List ℕ) : List Symbol → List Tok → List Tok → Type 0 where
  means_none : {ks : List Tok} → MeansAll b [] ks ks
  means_tok : {kind : TokKind} {Xs : List Symbol} {k : Tok} {ks rest : List Tok} → k.kind ≡ kind → MeansAll b Xs ks rest →
      MeansAll b (a kind ∷ Xs) (k ∷ ks) rest
  means_rule : {r : Rule} {Xs : List Symbol} {ks ls rest : List Tok} → Means b r ks ls → MeansAll b Xs ls rest →
      MeansAll b (rule r ∷ Xs) ks rest

-- from what the symbols stand for follows P: a function of their parts, the last one first
abbrev pub Gives : List ℕ → List Symbol → (List Tok → List Tok → Type 0) → Type 0
Gives b [] P = (rest : List Tok) → P rest rest
Gives b (a kind ∷ Xs) P = Gives b Xs (λ ls rest. (k : Tok) → k.kind ≡ kind → P (k ∷ ls) rest)
Gives b (rule r ∷ Xs) P = Gives b Xs (λ ls rest. (ks : List Tok) → Means b r ks ls → P ks rest)

pub given_all : (b : List ℕ) (Xs : List Symbol) (P : List Tok → List Tok → Type 0) (ks rest : List Tok) → Gives b Xs P →
    MeansAll b Xs ks rest → P ks rest
given_all b [] P ks rest f means_none = f rest
given_all b (a kind ∷ Xs) P ls rest f (means_tok {k = k} {ks = ks} h x) =
    given_all b Xs (λ ls more. (j : Tok) → j.kind ≡ kind → P (j ∷ ls) more) ks rest f x k h
given_all b (rule r ∷ Xs) P ks rest f (means_rule {ls = ls} d x) =
    given_all b Xs (λ js more. (is : List Tok) → Means b r is js → P is more) ls rest f x ks d

-- what a rule does is right: what it stands for follows
abbrev pub Sound : List ℕ → Rule → List Tok → Move → Type 0
Sound b r ks refuses = Unit {0}
Sound b r ks (becomes Ys) = Gives b Ys (Means b r)
Sound b r [] (takes Ys) = Unit {0}
Sound b r (k ∷ ks) (takes Ys) = Gives b Ys (λ ls rest. Means b r (k ∷ ls) rest)

pub either_sound : (b : List ℕ) (r : Rule) (ks : List Tok) (x : Bool) (M N : Move) → Sound b r ks M → Sound b r ks N →
    Sound b r ks (if x then M else N)
either_sound b r ks true M N f g = f
either_sound b r ks false M N f g = g

same_sound : (b : List ℕ) (r : Rule) (kind : TokKind) (Ys : List Symbol) (N : Move) (k : Tok) (ks : List Tok) (x : Bool) →
    is_same k.kind kind ≡ x →
    ((k : Tok) → k.kind ≡ kind → Gives b Ys (λ ls rest. Means b r (k ∷ ls) rest)) → Sound b r (k ∷ ks) N →
    Sound b r (k ∷ ks) (if x then takes Ys else N)
same_sound b r kind Ys N k ks true h f g = f k (same_kind k.kind kind h)
same_sound b r kind Ys N k ks false h f g = g

pub sees_sound : (b : List ℕ) (r : Rule) (ks : List Tok) (kind : TokKind) (Ys : List Symbol) (N : Move) →
    ((k : Tok) → k.kind ≡ kind → Gives b Ys (λ ls rest. Means b r (k ∷ ls) rest)) → Sound b r ks N →
    Sound b r ks (if sees kind ks then takes Ys else N)
sees_sound b r [] kind Ys N f g = g
sees_sound b r (k ∷ ks) kind Ys N f g = same_sound b r kind Ys N k ks (is_same k.kind kind) refl f g

-- toks that the rule reads, before any rest
abbrev pub Readable : List ℕ → Rule → Type 0
Readable b r = (rest : List Tok) → (ks : List Tok) × Means b r ks rest

abbrev pub a_tok : TokKind → Tok
a_tok kind = record { kind = kind; start = 0; end = 0; place = record { file = 0; line = 0; col = 0 } }
