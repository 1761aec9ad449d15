-- The clauses of a `for`, one by one.
use Rattle.std.proofs.Common.{◌≡◌, ℕ, ◌+◌, ◌<◌, ◌≤◌, List, [], ◌∷◌, length, map, get_or, Bool, true, false, cond, sym}
use Rattle.std.proofs.Common.{Option, ap, ◌∙◌}
use Rattle.verse_tree.specs.Tree.{Tree, Trees}
use Rattle.verse_tree.specs.Tree as t
use Rattle.verse_tree.specs.View.{tree_of}
use Rattle.verse_tree.specs.declared.exprs.Expr.{Expr}
use Rattle.verse_tree.specs.declared.programs.Program.{Program}
use Rattle.lower_code.specs.Scopes.{Scope, hidden}
use Rattle.lower_code.specs.Arounds.{enclosed}
use Rattle.lower_code.specs.declared.arounds.Around.{Around}
use Rattle.lower_parts.proofs.Operands.{left, left_next, left_none}
use Rattle.lower_notes.specs.States.{State, gives, puts}
use Rattle.lower_notes.specs.Stretches.{Walk, one, last, attempt, ◌then◌}
use Rattle.note_states.specs.View.{standing_of}
use Rattle.note_states.specs.declared.standing.Standing.{Standing}
use Rattle.note_sorts.specs.Tabled.{found_of}
use Rattle.note_stretches.specs.Noted.{Noted, resumed, walked}
use Rattle.note_stretches.specs.Forms.{tried_begun}
use Rattle.note_stretches.proofs.Laws.{walked_then, walked_attempt}
use Rattle.note_parts.specs.Parts.{form_walk, no_place}
use Rattle.note_loops.specs.Turns.{turns_closed}
use Rattle.note_loops.specs.Walks.{claused_walk, levels_walk, body_walk, for_walk}
use Rattle.note_loops.specs.Levels.{Leads}

module _ (p : Program) (xs : List Expr) (i : ℕ) (a : Around) (all : (Scope → Walk) → Noted) where
  levels_at : (x : Expr) (sc : Scope) (ts : List (Option State)) (b : Noted) → i < length xs → x ≡ get_or xs i x →
      ((rest : Scope → Walk) → turns_closed ts (walked (levels_walk p (left xs i) sc a rest) b) ≡ all rest) →
      (rest : Scope → Walk) →
      turns_closed ts
      (walked (claused_walk p (tree_of x) sc a (λ s. levels_walk p (left xs (i + 1)) s a rest)) b) ≡ all rest
  levels_at x sc ts b h e is rest =
      ap (λ k. turns_closed ts (walked (levels_walk p k sc a rest) b)) (sym (left_next xs i x h e)) ∙ is rest

  pub levels_next : (q : Bool) (x : Expr) (sc there : Scope) (ts us : List (Option State)) (b c : Noted) → i < length xs →
      x ≡ get_or xs i x →
      q ≡ true →
      Leads (claused_walk p (tree_of x) sc a) q ts us there b c →
      ((rest : Scope → Walk) → turns_closed ts (walked (levels_walk p (left xs i) sc a rest) b) ≡ all rest) →
      (rest : Scope → Walk) →
      turns_closed us (walked (levels_walk p (left xs (i + 1)) there a rest) c) ≡ all rest
  levels_next q x sc there ts us b c h e k l is rest =
      let f : Scope → Walk = λ s. levels_walk p (left xs (i + 1)) s a rest in
      ap (λ q. turns_closed us (cond q (walked (f there) c) c)) (sym k) ∙ l.leads f ∙ levels_at x sc ts b h e is rest

  pub levels_cut : (q : Bool) (x : Expr) (sc there : Scope) (ts us : List (Option State)) (b c : Noted) → i < length xs →
      x ≡ get_or xs i x →
      q ≡ false →
      Leads (claused_walk p (tree_of x) sc a) q ts us there b c →
      ((rest : Scope → Walk) → turns_closed ts (walked (levels_walk p (left xs i) sc a rest) b) ≡ all rest) →
      (rest : Scope → Walk) →
      turns_closed us c ≡ all rest
  levels_cut q x sc there ts us b c h e k l is rest =
      let f : Scope → Walk = λ s. levels_walk p (left xs (i + 1)) s a rest in
      ap (λ q. turns_closed us (cond q (walked (f there) c) c)) (sym k) ∙ l.leads f ∙ levels_at x sc ts b h e is rest

  pub levels_done : (sc : Scope) (ts : List (Option State)) (b : Noted) → length xs ≤ i →
      ((rest : Scope → Walk) → turns_closed ts (walked (levels_walk p (left xs i) sc a rest) b) ≡ all rest) →
      (rest : Scope → Walk) →
      turns_closed ts (walked (rest sc) b) ≡ all rest
  levels_done sc ts b h is rest =
      sym (ap (λ k. turns_closed ts (walked (levels_walk p k sc a rest) b)) (left_none xs i h)) ∙ is rest

pub for_by : (p : Program) (cs ds : Trees) (t body : Tree) (sc here there : Scope) (a around : Around)
    (q : Bool) (ts us vs : List Standing) (b c d r : Noted) → here ≡ hidden ∷ sc → around ≡ enclosed a → ds ≡ cs → body ≡ t →
    ts ≡ [] →
    Leads (levels_walk p ds here around) q (map standing_of ts) (map standing_of us) there b c →
    d ≡ cond q (walked (body_walk p body a there) c) c → vs ≡ us →
    r ≡ turns_closed (map standing_of vs) d →
    r ≡ walked (for_walk p cs t sc a) b
for_by p cs ds t body sc here there a around q ts us vs b c d r s k e f n leads g v is =
    is ∙ ap (λ k. turns_closed (map standing_of k) d) v ∙ ap (turns_closed (map standing_of us)) g
    ∙ leads.leads (body_walk p body a)
    ∙ ap (λ k. turns_closed (map standing_of k) (walked (levels_walk p ds here around (body_walk p body a)) b)) n
    ∙ ap (λ k. walked (levels_walk p k here around (body_walk p body a)) b) e
    ∙ ap (λ k. walked (levels_walk p cs k around (body_walk p body a)) b) s
    ∙ ap (λ k. walked (levels_walk p cs (hidden ∷ sc) k (body_walk p body a)) b) k
    ∙ ap (λ k. walked (levels_walk p cs (hidden ∷ sc) (enclosed a) (body_walk p k a)) b) f

pub for_whole : (p : Program) (cs : Trees) (e : Tree) (n : ℕ) (sc : Scope) (a : Around) (l : ℕ) (x : Option State)
    (b c d begun inside behind r : Noted) → l ≡ length sc →
    c ≡ walked (one (gives 0 ((found_of p).sort n))) b → d ≡ walked (one (puts l ((found_of p).sort n))) c →
    x ≡ d.exit → begun ≡ tried_begun d → inside ≡ walked (for_walk p cs e sc a) begun → behind ≡ resumed x inside →
    r ≡ walked last behind →
    r ≡ walked (form_walk p (t.Shape.for_form cs e) n no_place sc a) b
for_whole p cs e n sc a l x b c d begun inside behind r h f g k m i u is =
    let q = (found_of p).sort n in
    let w : Walk = for_walk p cs e sc a in
    is
    ∙ ap (walked last) (u ∙ ap (λ y. resumed y inside) k ∙ ap (resumed d.exit) (i ∙ ap (walked w) m)
    ∙ sym (walked_attempt w d))
    ∙ sym (walked_then (attempt w) last d)
    ∙ ap (walked (attempt w then last)) (g ∙ ap (λ l. walked (one (puts l q)) c) h)
    ∙ sym (walked_then (one (puts (length sc) q)) (attempt w then last) c)
    ∙ ap (walked (one (puts (length sc) q) then attempt w then last)) f
    ∙ sym (walked_then (one (gives 0 q)) (one (puts (length sc) q) then attempt w then last) b)
