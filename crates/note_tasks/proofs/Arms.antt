-- The arms of a group, one by one.
use Rattle.std.proofs.Common.{◌≡◌, ℕ, ◌+◌, ◌<◌, ◌≤◌, List, length, get_or, Option, refl, sym, ap, ◌∙◌}
use Rattle.verse_tree.specs.Tree.{Tree, Trees}
use Rattle.verse_tree.specs.View.{tree_of}
use Rattle.verse_tree.specs.declared.exprs.Expr.{Expr}
use Rattle.verse_tree.specs.declared.programs.Program.{Program}
use Rattle.verse_meaning.specs.Evaluating.{number_of}
use Rattle.lower_code.specs.Pieces.{behind}
use Rattle.lower_code.specs.Arounds.{fresh}
use Rattle.lower_code.specs.Scopes.{Scope}
use Rattle.lower_code.specs.declared.arounds.Around.{Around}
use Rattle.lower_code.specs.Lowering.{how_many}
use Rattle.lower_parts.proofs.Operands.{left, left_next, left_none}
use Rattle.lower_notes.specs.States.{State, in_arm}
use Rattle.lower_notes.specs.Stretches.{Walk, ends, grouped, ◌beside◌}
use Rattle.note_sorts.specs.Tabled.{found_of}
use Rattle.note_stretches.specs.Noted.{Noted, changed, resumed, with_stretch, walked}
use Rattle.note_stretches.specs.Forms.{group_state}
use Rattle.note_stretches.proofs.Laws.{spots_behind, with_joined, walked_ends, walked_nothing}
use Rattle.note_stretches.proofs.Loops.{walked_arm, walked_grouped}
use Rattle.note_parts.specs.Parts.{tree_walk}
use Rattle.note_tasks.specs.Groups.{arm_walk, arms_walk, group_walk}

-- both begin where x stands
beside_walked : (f g : Walk) (x : Option State) (b : Noted) → b.exit ≡ x →
    walked (f beside g) b ≡ walked g (resumed x (walked f b))
unfolding walked resumed
beside_walked f g x b e =
    let p = f (length b.spots) b.exit in
    with_joined b p (g (behind p.states (length b.spots)) b.exit)
    ∙ ap (λ y. with_stretch (with_stretch b p) (g (behind p.states (length b.spots)) y)) e
    ∙ ap (λ n. with_stretch (with_stretch b p) (g n x)) (sym (spots_behind b p.states))

resumed_exit : (x : Option State) (b : Noted) → (resumed x b).exit ≡ x
unfolding resumed
resumed_exit x b = refl

module _ (p : Program) (xs : List Expr) (i : ℕ) (sc : Scope) (x : Option State) where
  -- what is left ends as all does: behind one arm more, and where none is left
  pub arms_next : (e : Expr) (here : Scope) (y : Option State) (b behind all : Noted) → i < length xs →
      e ≡ get_or xs i e → here ≡ sc → y ≡ x →
      behind ≡ walked (arm_walk p here (tree_of e)) (resumed y b) →
      walked (arms_walk p (left xs i) sc) (resumed x b) ≡ all →
      walked (arms_walk p (left xs (i + 1)) sc) (resumed x behind) ≡ all
  arms_next e here y b behind all h g k m f is =
      let rest : Walk = arms_walk p (left xs (i + 1)) sc in
      ap (λ c. walked rest (resumed x c))
      (f ∙ ap (λ y. walked (arm_walk p here (tree_of e)) (resumed y b)) m
      ∙ ap (λ s. walked (arm_walk p s (tree_of e)) (resumed x b)) k)
      ∙ sym (beside_walked (arm_walk p sc (tree_of e)) rest x (resumed x b) (resumed_exit x b))
      ∙ sym (ap (λ ts. walked (arms_walk p ts sc) (resumed x b)) (left_next xs i e h g)) ∙ is

  pub arms_done : (b all : Noted) → length xs ≤ i → walked (arms_walk p (left xs i) sc) (resumed x b) ≡ all → resumed x b ≡ all
  arms_done b all h is =
      sym (ap (λ ts. walked (arms_walk p ts sc) (resumed x b)) (left_none xs i h) ∙ walked_nothing (resumed x b)) ∙ is

twice : (x : Option State) (b : Noted) → resumed x (resumed x b) ≡ resumed x b
unfolding resumed
twice x b = refl

-- a state that is replaced does not matter
same_resumed : (x y : Option State) (b c : Noted) → resumed y b ≡ c → resumed x b ≡ resumed x c
unfolding resumed
same_resumed x y b c e = ap (resumed x) e

-- an arm, by its steps
pub arm_is : (p : Program) (sc : Scope) (t : Tree) (a : Around) (n : ℕ) (x : Option State) (b begun there inside all : Noted) →
    begun ≡ resumed x b → n ≡ number_of t → there ≡ changed (in_arm ((found_of p).sort n)) begun → a ≡ fresh →
    inside ≡ walked (tree_walk p t sc a) there → all ≡ walked ends inside → all ≡ walked (arm_walk p sc t) (resumed x b)
arm_is p sc t a n x b begun there inside all c d e f g is =
    let q = (found_of p).sort (number_of t) in
    let w : Walk = tree_walk p t sc fresh in
    is ∙ ap (walked ends) (g ∙ ap (λ a. walked (tree_walk p t sc a) there) f
    ∙ ap (walked w) (e ∙ ap (λ m. changed (in_arm ((found_of p).sort m)) begun) d ∙ ap (changed (in_arm q)) c))
    ∙ walked_ends (walked w (changed (in_arm q) (resumed x b))) ∙ sym (walked_arm q w (resumed x b))

pub group_is : (p : Program) (n : ℕ) (ts : Trees) (sc : Scope) (count : ℕ) (x y : Option State) (b begun ended all : Noted) →
    count ≡ how_many ts → x ≡ b.exit →
    y ≡ (group_state count ((found_of p).sort n) b).exit →
    begun ≡ resumed b.exit (group_state count ((found_of p).sort n) b) →
    resumed x ended ≡ walked (arms_walk p ts sc) (resumed x begun) →
    all ≡ resumed y ended →
    all ≡ walked (group_walk p n ts sc) b
group_is p n ts sc count x y b begun ended all c e f g h is =
    let q = (found_of p).sort n in
    let w : Walk = arms_walk p ts sc in
    is ∙ ap (λ y. resumed y ended) f
    ∙ same_resumed (group_state count q b).exit x ended (walked w (resumed x begun)) h
    ∙ ap (λ k. resumed (group_state count q b).exit (walked w (resumed x k))) g
    ∙ ap (λ k. resumed (group_state count q b).exit (walked w (resumed k (resumed b.exit (group_state count q b))))) e
    ∙ ap (λ k. resumed (group_state count q b).exit (walked w k)) (twice b.exit (group_state count q b))
    ∙ sym (walked_grouped count q w b)
    ∙ ap (λ m. walked (grouped m q w) b) c
