-- One part or several with what ends them, by their steps.
use Rattle.std.proofs.Common.{◌≡◌, ℕ, length, sym, ap, ◌∙◌}
use Rattle.verse_tree.specs.Tree.{Bytes, Tree, Trees}
use Rattle.verse_tree.specs.declared.programs.Program.{Program}
use Rattle.lower_code.specs.Lowering.{text_if}
use Rattle.lower_code.specs.Pieces.{put_away, ◌then◌}
use Rattle.lower_code.specs.Arounds.{up}
use Rattle.lower_code.specs.Scopes.{Scope}
use Rattle.lower_code.specs.declared.arounds.Around.{Around}
use Rattle.lower_expr.specs.Building.{Built, made}
use Rattle.lower_expr.specs.Endings.{ending_code}
use Rattle.lower_expr.specs.declared.endings.Ending.{Ending}
use Rattle.lower_expr.proofs.Laws.{made_then}
use Rattle.lower_parts.specs.Parts.{tree_code, operands_code}
use Rattle.lower_values.specs.Parts.{one_ended, two_ended, all_ended, hole_code, pair_code, given_code}

module _ (p : Program) (sc : Scope) (a : Around) where
  pub one_by : (e : Tree) (x : Ending) (b c r : Built) → c ≡ made (tree_code p e sc a) b → r ≡ made (ending_code x) c →
      r ≡ made (one_ended p e x sc a) b
  one_by e x b c r f is = is ∙ ap (made (ending_code x)) f ∙ sym (made_then (tree_code p e sc a) (ending_code x) b)

  pub all_by : (ts : Trees) (x : Ending) (b c r : Built) → c ≡ made (operands_code p ts sc a) b →
      r ≡ made (ending_code x) c →
      r ≡ made (all_ended p ts x sc a) b
  all_by ts x b c r f is = is ∙ ap (made (ending_code x)) f ∙ sym (made_then (operands_code p ts sc a) (ending_code x) b)

  pub hole_by : (q : Tree × Bytes) (e : Tree) (bs : Bytes) (b c r : Built) → e ≡ q.0 → bs ≡ q.1 →
      c ≡ made (tree_code p e sc a) b → r ≡ made (text_if bs) c →
      r ≡ made (hole_code p q sc a) b
  hole_by q e bs b c r x y f is =
      is ∙ ap (λ k. made (text_if k) c) y ∙ ap (made (text_if q.1)) (f ∙ ap (λ k. made (tree_code p k sc a) b) x)
      ∙ sym (made_then (tree_code p q.0 sc a) (text_if q.1) b)

  -- two parts, the second above the first
  two_steps : (e f left right : Tree) (here : Scope) (above : Around) (b c d : Built) → left ≡ e → right ≡ f →
      here ≡ sc → above ≡ up a → c ≡ made (tree_code p left sc a) b → d ≡ made (tree_code p right here above) c →
      d ≡ made (tree_code p f sc (up a)) (made (tree_code p e sc a) b)
  two_steps e f left right here above b c d x y s u hc hd =
      hd ∙ ap (λ s. made (tree_code p right s above) c) s ∙ ap (λ k. made (tree_code p right sc k) c) u
      ∙ ap (λ t. made (tree_code p t sc (up a)) c) y
      ∙ ap (made (tree_code p f sc (up a))) (hc ∙ ap (λ t. made (tree_code p t sc a) b) x)

  pub pair_by : (q : Tree × Tree) (left right : Tree) (here : Scope) (above : Around) (b c d : Built) → left ≡ q.0 →
      right ≡ q.1 → here ≡ sc → above ≡ up a → c ≡ made (tree_code p left sc a) b →
      d ≡ made (tree_code p right here above) c →
      d ≡ made (pair_code p q sc a) b
  pair_by q left right here above b c d x y s u hc hd =
      two_steps q.0 q.1 left right here above b c d x y s u hc hd
      ∙ sym (made_then (tree_code p q.0 sc a) (tree_code p q.1 sc (up a)) b)

  pub two_by : (e f left right : Tree) (z : Ending) (here : Scope) (above : Around) (b c d r : Built) → left ≡ e →
      right ≡ f → here ≡ sc → above ≡ up a → c ≡ made (tree_code p left sc a) b →
      d ≡ made (tree_code p right here above) c → r ≡ made (ending_code z) d →
      r ≡ made (two_ended p e f z sc a) b
  two_by e f left right z here above b c d r x y s u hc hd is =
      is ∙ ap (made (ending_code z)) (two_steps e f left right here above b c d x y s u hc hd)
      ∙ sym (made_then (tree_code p e sc a) (tree_code p f sc (up a) then ending_code z) b
      ∙ made_then (tree_code p f sc (up a)) (ending_code z) (made (tree_code p e sc a) b))

  pub given_by : (e value : Tree) (l : ℕ) (here : Scope) (b c r : Built) → value ≡ e → l ≡ length here → here ≡ sc →
      c ≡ made (tree_code p value sc a) b → r ≡ made (put_away l) c →
      r ≡ made (given_code p e sc a) b
  given_by e value l here b c r x h s f is =
      is ∙ ap (λ l. made (put_away l) c) (h ∙ ap length s)
      ∙ ap (made (put_away (length sc))) (f ∙ ap (λ t. made (tree_code p t sc a) b) x)
      ∙ sym (made_then (tree_code p e sc a) (put_away (length sc)) b)
