-- The clauses of a `for`, one by one.
use Rattle.std.proofs.Common.{◌≡◌, ℕ, ◌+◌, ◌<◌, ◌≤◌, List, [], ◌∷◌, ◌++◌, length, get_or, Bool, true, false, cond, sym}
use Rattle.std.proofs.Common.{ap, ◌∙◌, append_assoc}
use Rattle.verse_base.specs.declared.places.Place.{Place}
use Rattle.verse_tree.specs.Tree.{Tree, Trees}
use Rattle.verse_tree.specs.Tree as t
use Rattle.verse_code.specs.declared.operations.Op.TheVariants as o
use Rattle.verse_tree.specs.View.{tree_of}
use Rattle.verse_tree.specs.declared.exprs.Expr.{Expr}
use Rattle.verse_tree.specs.declared.programs.Program.{Program}
use Rattle.verse_meaning.specs.Residuals.{Binder, no_name, a_constant, a_variable, Generator, of_elements, of_entries}
use Rattle.verse_meaning.specs.Residuals.{of_range}
use Rattle.verse_meaning.specs.Evaluating.{Statement, plain, defines, defers, generates}
use Rattle.lower_code.specs.Pieces.{Maker}
use Rattle.lower_code.specs.Scopes.{Scope, constant_at, variable_at, hidden}
use Rattle.lower_code.specs.Arounds.{enclosed}
use Rattle.lower_code.specs.declared.arounds.Around.{Around}
use Rattle.lower_expr.specs.Building.{Built, made, pushed, with_local, with_place}
use Rattle.lower_expr.specs.Locals.{cut_to}
use Rattle.lower_expr.proofs.Scoping.{cut_back}
use Rattle.lower_fail.specs.declared.loops.Turn.{Turn}
use Rattle.lower_fail.specs.Attempts.{turns_closed, for_begun, for_ended}
use Rattle.lower_fail.proofs.Forms.{for_law}
use Rattle.lower_parts.specs.Parts.{form_code, Grown}
use Rattle.lower_parts.proofs.Operands.{left, left_next, left_none}
use Rattle.lower_blocks.specs.Codes.{claused_code, levels_code, body_code, for_code}
use Rattle.lower_blocks.specs.Levels.{Leads, scope_claused}

module _ (p : Program) (xs : List Expr) (i : ℕ) (a : Around) (all : (Scope → Maker) → Built) where
  levels_at : (x : Expr) (sc : Scope) (ts : List Turn) (b : Built) → i < length xs → x ≡ get_or xs i x →
      ((rest : Scope → Maker) → turns_closed ts (made (levels_code p (left xs i) sc a rest) b) ≡ all rest) →
      (rest : Scope → Maker) →
      turns_closed ts
      (made (claused_code p (tree_of x) sc a (λ s. levels_code p (left xs (i + 1)) s a rest)) b) ≡ all rest
  levels_at x sc ts b h e is rest =
      ap (λ k. turns_closed ts (made (levels_code p k sc a rest) b)) (sym (left_next xs i x h e)) ∙ is rest

  pub levels_next : (q : Bool) (x : Expr) (sc there : Scope) (ts us : List Turn) (b c : Built) → i < length xs →
      x ≡ get_or xs i x →
      q ≡ true →
      Leads (claused_code p (tree_of x) sc a) q ts us there b c →
      ((rest : Scope → Maker) → turns_closed ts (made (levels_code p (left xs i) sc a rest) b) ≡ all rest) →
      (rest : Scope → Maker) →
      turns_closed us (made (levels_code p (left xs (i + 1)) there a rest) c) ≡ all rest
  levels_next q x sc there ts us b c h e k l is rest =
      let f : Scope → Maker = λ s. levels_code p (left xs (i + 1)) s a rest in
      ap (λ q. turns_closed us (cond q (made (f there) c) c)) (sym k) ∙ l.leads f ∙ levels_at x sc ts b h e is rest

  pub levels_cut : (q : Bool) (x : Expr) (sc there : Scope) (ts us : List Turn) (b c : Built) → i < length xs →
      x ≡ get_or xs i x →
      q ≡ false →
      Leads (claused_code p (tree_of x) sc a) q ts us there b c →
      ((rest : Scope → Maker) → turns_closed ts (made (levels_code p (left xs i) sc a rest) b) ≡ all rest) →
      (rest : Scope → Maker) →
      turns_closed us c ≡ all rest
  levels_cut q x sc there ts us b c h e k l is rest =
      let f : Scope → Maker = λ s. levels_code p (left xs (i + 1)) s a rest in
      ap (λ q. turns_closed us (cond q (made (f there) c) c)) (sym k) ∙ l.leads f ∙ levels_at x sc ts b h e is rest

  pub levels_done : (sc : Scope) (ts : List Turn) (b : Built) → length xs ≤ i →
      ((rest : Scope → Maker) → turns_closed ts (made (levels_code p (left xs i) sc a rest) b) ≡ all rest) →
      (rest : Scope → Maker) →
      turns_closed ts (made (rest sc) b) ≡ all rest
  levels_done sc ts b h is rest =
      sym (ap (λ k. turns_closed ts (made (levels_code p k sc a rest) b)) (left_none xs i h)) ∙ is rest

pub binder_extends : (x : Binder) (old sc there : Scope) → there ≡ scope_claused (defines x) sc → Grown old sc →
    Grown old there
binder_extends no_name old sc there h e = (e.0, h ∙ e.1)
binder_extends (a_constant x) old sc there h e = (constant_at x ∷ e.0, h ∙ ap (λ k. constant_at x ∷ k) e.1)
binder_extends (a_variable x pl) old sc there h e = (variable_at x ∷ e.0, h ∙ ap (λ k. variable_at x ∷ k) e.1)

pub generator_extends : (g : Generator) (old sc there : Scope) → there ≡ scope_claused (generates g) sc → Grown old sc →
    Grown old there
generator_extends (of_elements x) old sc there h e =
    (hidden ∷ constant_at x ∷ hidden ∷ hidden ∷ e.0, h ∙ ap (λ k. hidden ∷ constant_at x ∷ hidden ∷ hidden ∷ k) e.1)
generator_extends (of_entries n x) old sc there h e = (
  constant_at n ∷ constant_at x ∷ hidden ∷ hidden ∷ e.0,
  h ∙ ap (λ k. constant_at n ∷ constant_at x ∷ hidden ∷ hidden ∷ k) e.1,
)
generator_extends (of_range x) old sc there h e =
    (hidden ∷ constant_at x ∷ hidden ∷ hidden ∷ e.0, h ∙ ap (λ k. hidden ∷ constant_at x ∷ hidden ∷ hidden ∷ k) e.1)

pub extends_more : (s : Statement) (old sc there : Scope) → there ≡ scope_claused s sc → Grown old sc → Grown old there
extends_more plain old sc there h e = (e.0, h ∙ e.1)
extends_more (defines x) old sc there h e = binder_extends x old sc there h e
extends_more (defers d) old sc there h e = (e.0, h ∙ e.1)
extends_more (generates g) old sc there h e = generator_extends g old sc there h e

pub hidden_cut : (added sc : Scope) → cut_to (length sc) (added ++ hidden ∷ sc) ≡ sc
hidden_cut added sc =
    ap (cut_to (length sc)) (sym (append_assoc added (hidden ∷ []) sc)) ∙ cut_back (added ++ hidden ∷ []) sc

-- the scope behind the clauses is cut back to what it was before the local of the result
pub cut_levels : (l : ℕ) (sc here there r : Scope) → l ≡ length sc → here ≡ hidden ∷ sc → Grown here there →
    r ≡ cut_to l there → r ≡ sc
cut_levels l sc here there r h s e is =
    is ∙ ap (λ k. cut_to k there) h ∙ ap (cut_to (length sc)) (e.1 ∙ ap (λ k. e.0 ++ k) s) ∙ hidden_cut e.0 sc

-- the clauses and the body behind them, where the body takes part in them alone that go on
pub turns_by : (p : Program) (cs ds : Trees) (t body : Tree) (sc there : Scope) (a around : Around) (l m : ℕ) (q : Bool)
    (ts us : List Turn) (b c d : Built) → around ≡ enclosed a → ds ≡ cs → body ≡ t →
    Leads (levels_code p ds sc around) q ts us there b c →
    d ≡ cond q (made (body_code p body a l m there) c) c →
    turns_closed us d ≡ turns_closed ts (made (levels_code p cs sc (enclosed a) (body_code p t a l m)) b)
turns_by p cs ds t body sc there a around l m q ts us b c d k e f leads g =
    ap (turns_closed us) g ∙ leads.leads (body_code p body a l m)
    ∙ ap (λ k. turns_closed ts (made (levels_code p k sc around (body_code p body a l m)) b)) e
    ∙ ap (λ k. turns_closed ts (made (levels_code p cs sc k (body_code p body a l m)) b)) k
    ∙ ap (λ k. turns_closed ts (made (levels_code p cs sc (enclosed a) (body_code p k a l m)) b)) f

pub for_by : (p : Program) (cs : Trees) (t : Tree) (sc here : Scope) (a : Around) (l m : ℕ) (ts us vs : List Turn)
    (b d r : Built) → l ≡ length sc → here ≡ hidden ∷ sc → ts ≡ [] →
    turns_closed us d ≡ turns_closed ts (made (levels_code p cs here (enclosed a) (body_code p t a l m)) b) →
    vs ≡ us → r ≡ turns_closed vs d → r ≡ made (for_code p cs t sc a m) b
for_by p cs t sc here a l m ts us vs b d r h s n g v is =
    is ∙ ap (λ k. turns_closed k d) v ∙ g
    ∙ ap (λ k. turns_closed k (made (levels_code p cs here (enclosed a) (body_code p t a l m)) b)) n
    ∙ ap (λ k. made (levels_code p cs k (enclosed a) (body_code p t a l m)) b) s
    ∙ ap (λ k. made (levels_code p cs (hidden ∷ sc) (enclosed a) (body_code p t a k m)) b) h

pub for_whole : (p : Program) (cs : Trees) (e : Tree) (pl : Place) (sc : Scope) (a : Around) (l m n : ℕ)
    (b c d r : Built) →
    l ≡ length sc →
    m ≡ length b.places →
    n ≡ length (pushed (o.Put l) (with_local l (pushed (o.Array 0 (length b.places)) (with_place pl b)))).ops →
    c ≡ for_begun pl l b → d ≡ made (for_code p cs e sc a m) c → r ≡ for_ended n l d →
    r ≡ made (form_code p (t.Shape.for_form cs e) 0 pl sc a) b
for_whole p cs e pl sc a l m n b c d r h x f g k is =
    let begun : ℕ → ℕ =
    λ l. length (pushed (o.Put l) (with_local l (pushed (o.Array 0 (length b.places)) (with_place pl b)))).ops in
    is ∙ ap (λ n. for_ended n l d) f
    ∙ ap (for_ended (begun l) l)
    (k ∙ ap (λ m. made (for_code p cs e sc a m) c) x ∙ ap (made (for_code p cs e sc a (length b.places))) g)
    ∙ ap (λ l. for_ended (begun l) l (made (for_code p cs e sc a (length b.places)) (for_begun pl l b))) h
    ∙ sym (for_law pl (length sc) (for_code p cs e sc a) b)
