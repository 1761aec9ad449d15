-- Forms of one or two parts, by their steps.
use Rattle.std.proofs.Common.{◌≡◌, ℕ, length, sym, ap, ◌∙◌}
use Rattle.verse_base.specs.declared.places.Place.{Place}
use Rattle.verse_tree.specs.Tree.{Tree, Trees}
use Rattle.verse_tree.specs.Tree as t
use Rattle.verse_tree.specs.declared.exprs.Operator.TheVariants as op
use Rattle.verse_tree.specs.declared.programs.Program.{Program}
use Rattle.verse_code.specs.declared.operations.Op.TheVariants as o
use Rattle.lower_code.specs.Pieces.{Maker, one, kept, ◌then◌}
use Rattle.lower_code.specs.Scopes.{Scope}
use Rattle.lower_code.specs.Arounds.{enclosed, looped, returning}
use Rattle.lower_code.specs.declared.arounds.Around.{Around}
use Rattle.lower_expr.specs.Building.{Built, pushed, ended_here, made}
use Rattle.lower_expr.proofs.Laws.{made_then, made_one}
use Rattle.lower_fail.specs.Attempts.{other_begun, not_ended, option_ended, logic_ended, loop_over}
use Rattle.lower_fail.proofs.Forms.{not_law, or_law, option_law, logic_law, loop_law}
use Rattle.lower_parts.specs.Parts.{tree_code, form_code, no_place}
use Rattle.lower_blocks.specs.Codes.{constant_shape, statements_code}

module _ (p : Program) (sc : Scope) (a : Around) where
  pub returned_by : (e : Tree) (b c r : Built) → c ≡ made (tree_code p e sc a) b → r ≡ made (returning a) c →
      r ≡ made (form_code p (t.Shape.returned e) 0 no_place sc a) b
  returned_by e b c r f is = is ∙ ap (made (returning a)) f ∙ sym (made_then (tree_code p e sc a) (returning a) b)

  pub constant_by : (e : Tree) (l : ℕ) (b c r : Built) → l ≡ length sc → c ≡ made (tree_code p e sc a) b →
      r ≡ made (kept l) c →
      r ≡ made (form_code p (constant_shape e) 0 no_place sc a) b
  constant_by e l b c r h f is =
      is ∙ ap (λ l. made (kept l) c) h ∙ ap (made (kept (length sc))) f
      ∙ sym (made_then (tree_code p e sc a) (kept (length sc)) b)

  pub negation_by : (e : Tree) (around : Around) (n : ℕ) (b c d r : Built) → around ≡ enclosed a → n ≡ length b.ops →
      c ≡ pushed (o.Try 0) b → d ≡ made (tree_code p e sc around) c → r ≡ not_ended n d →
      r ≡ made (form_code p (t.Shape.negation e) 0 no_place sc a) b
  negation_by e around n b c d r k h f g is =
      is ∙ ap (λ n. not_ended n d) h
      ∙ ap (not_ended (length b.ops))
      (g ∙ ap (λ k. made (tree_code p e sc k) c) k ∙ ap (made (tree_code p e sc (enclosed a))) f)
      ∙ sym (not_law (tree_code p e sc (enclosed a)) b)

  pub or_by : (e f left right : Tree) (around : Around) (here : Scope) (n j : ℕ) (b c d k g r : Built) →
      left ≡ e → right ≡ f → around ≡ enclosed a → here ≡ sc → n ≡ length b.ops →
      c ≡ pushed (o.Try 0) b → d ≡ made (tree_code p left sc around) c →
      j ≡ length (pushed o.Commit d).ops → k ≡ other_begun n (pushed o.Commit d) →
      g ≡ made (tree_code p right here a) k → r ≡ ended_here j g →
      r ≡ made (form_code p (t.Shape.chained op.Or e f) 0 no_place sc a) b
  or_by e f left right around here n j b c d k g r x y u s hn hc hd hj hk hg is =
      let first : Maker = tree_code p e sc (enclosed a) in
      let second : Maker = tree_code p f sc a in
      is ∙ ap (λ j. ended_here j g) hj
      ∙ ap (ended_here (length (pushed o.Commit d).ops))
      (hg ∙ ap (λ s. made (tree_code p right s a) k) s ∙ ap (λ t. made (tree_code p t sc a) k) y
      ∙ ap (made second) (hk ∙ ap (λ n. other_begun n (pushed o.Commit d)) hn))
      ∙ ap (λ d. ended_here (length (pushed o.Commit d).ops)
      (made second (other_begun (length b.ops) (pushed o.Commit d))))
      (hd ∙ ap (λ k. made (tree_code p left sc k) c) u ∙ ap (λ t. made (tree_code p t sc (enclosed a)) c) x
      ∙ ap (made first) hc)
      ∙ sym (or_law first second b)

  pub and_by : (e f left right : Tree) (here : Scope) (b d k r : Built) → left ≡ e → right ≡ f → here ≡ sc →
      d ≡ made (tree_code p left sc a) b → k ≡ pushed o.Drop d → r ≡ made (tree_code p right here a) k →
      r ≡ made (form_code p (t.Shape.chained op.And e f) 0 no_place sc a) b
  and_by e f left right here b d k r x y s hd hk is =
      let first : Maker = tree_code p e sc a in
      let second : Maker = tree_code p f sc a in
      is ∙ ap (λ s. made (tree_code p right s a) k) s ∙ ap (λ t. made (tree_code p t sc a) k) y
      ∙ ap (made second)
      (hk ∙ ap (pushed o.Drop) (hd ∙ ap (λ t. made (tree_code p t sc a) b) x) ∙ sym (made_one o.Drop (made first b)))
      ∙ sym (made_then first (one o.Drop then second) b ∙ made_then (one o.Drop) second (made first b))

  pub option_by : (cs : Trees) (pl : Place) (around : Around) (n : ℕ) (b c d r : Built) → around ≡ enclosed a →
      n ≡ length b.ops → c ≡ pushed (o.Try 0) b → d ≡ made (statements_code p cs sc around) c →
      r ≡ option_ended n pl d →
      r ≡ made (form_code p (t.Shape.option cs) 0 pl sc a) b
  option_by cs pl around n b c d r k h f g is =
      is ∙ ap (λ n. option_ended n pl d) h
      ∙ ap (option_ended (length b.ops) pl)
      (g ∙ ap (λ k. made (statements_code p cs sc k) c) k ∙ ap (made (statements_code p cs sc (enclosed a))) f)
      ∙ sym (option_law (statements_code p cs sc (enclosed a)) pl b)

  pub logic_by : (cs : Trees) (around : Around) (n : ℕ) (b c d r : Built) → around ≡ enclosed a →
      n ≡ length b.ops → c ≡ pushed (o.Try 0) b → d ≡ made (statements_code p cs sc around) c →
      r ≡ logic_ended n d →
      r ≡ made (form_code p (t.Shape.logic cs) 0 no_place sc a) b
  logic_by cs around n b c d r k h f g is =
      is ∙ ap (λ n. logic_ended n d) h
      ∙ ap (logic_ended (length b.ops))
      (g ∙ ap (λ k. made (statements_code p cs sc k) c) k ∙ ap (made (statements_code p cs sc (enclosed a))) f)
      ∙ sym (logic_law (statements_code p cs sc (enclosed a)) b)

  pub loop_by : (e : Tree) (around : Around) (n m : ℕ) (b c d r : Built) → around ≡ looped a → n ≡ length b.ops →
      m ≡ length b.exits → c ≡ pushed (o.Jump 0) b → d ≡ made (tree_code p e sc around) c →
      r ≡ loop_over n m d →
      r ≡ made (form_code p (t.Shape.loop_form e) 0 no_place sc a) b
  loop_by e around n m b c d r k h x f g is =
      is ∙ ap (λ n. loop_over n m d) h ∙ ap (λ m. loop_over (length b.ops) m d) x
      ∙ ap (loop_over (length b.ops) (length b.exits))
      (g ∙ ap (λ k. made (tree_code p e sc k) c) k ∙ ap (made (tree_code p e sc (looped a))) f)
      ∙ sym (loop_law (tree_code p e sc (looped a)) b)
