-- The operands of each form are a list of trees.
use Rattle.std.proofs.Common.{◌≡◌, Bool, List, [], ◌∷◌, ◌++◌, refl, sym, ap, ◌∙◌, append_assoc}
use Rattle.verse_tree.specs.Tree.{Tree, tree, Shape, Trees, no_trees, more_trees, Holes, no_holes, more_holes, Givens, no_givens}
use Rattle.verse_tree.specs.Tree.{more_givens}
use Rattle.verse_tree.specs.Tree as t
use Rattle.verse_value.specs.Val.{Val}
use Rattle.verse_meaning.specs.Programs.{Program, trees_list, holes_list, pairs_list, givens_list}
use Rattle.verse_meaning.specs.Residuals.{Env, Form, args}
use Rattle.verse_meaning.specs.Outcomes.{World, valued}
use Rattle.verse_meaning.specs.Forms.{Deeper}
use Rattle.verse_meaning.specs.Evaluating.{ev, all_args, holed, paired_args, given_args, targets, targets_shape, indices}
use Rattle.verse_sound_trees.proofs.Operands.{list_args}

-- the object and the indices of what `set` writes to
abbrev mutual
  pub target_list : Tree → List Tree
  target_list (tree n pl x) = target_list_of x

  pub target_list_of : Shape → List Tree
  target_list_of (t.Shape.member b x) = b ∷ []
  target_list_of (t.Shape.index b ts) = target_list b ++ trees_list ts
  target_list_of x = []

-- what `set` may write to
abbrev mutual
  pub IsTarget : Tree → Type 0
  IsTarget (tree n pl x) = IsTargetOf x

  pub IsTargetOf : Shape → Type 0
  IsTargetOf (t.Shape.name x) = Unit {0}
  IsTargetOf (t.Shape.member b x) = Unit {0}
  IsTargetOf (t.Shape.index b ts) = IsTarget b
  IsTargetOf x = ⊥

module _ (p : Program) (k : Deeper) where
  pub all_are : (ts : Trees) (x : Form) (vs : List Val) (m : Bool) (e : Env) (w : World) →
      all_args p k ts x vs m e w ≡ list_args p k e x vs (trees_list ts) m w
  all_are no_trees x vs m e w = refl
  all_are (more_trees b ts) x vs m e w =
      λ i. valued (ev p k b m e w) (λ r. args e x vs r (trees_list ts)) (λ y z. all_are ts x (vs ++ y ∷ []) m e z i)

  pub holed_are : (hs : Holes) (x : Form) (vs : List Val) (m : Bool) (e : Env) (w : World) →
      holed p k hs x vs m e w ≡ list_args p k e x vs (holes_list hs) m w
  holed_are no_holes x vs m e w = refl
  holed_are (more_holes b bs hs) x vs m e w =
      λ i. valued (ev p k b m e w) (λ r. args e x vs r (holes_list hs)) (λ y z. holed_are hs x (vs ++ y ∷ []) m e z i)

  pub given_are : (gs : Givens) (x : Form) (vs : List Val) (m : Bool) (e : Env) (w : World) →
      given_args p k gs x vs m e w ≡ list_args p k e x vs (givens_list gs) m w
  given_are no_givens x vs m e w = refl
  given_are (more_givens y b gs) x vs m e w =
      λ i. valued (ev p k b m e w) (λ r. args e x vs r (givens_list gs)) (λ y z. given_are gs x (vs ++ y ∷ []) m e z i)

  pub paired_are : (ps : t.Pairs) (x : Form) (vs : List Val) (m : Bool) (e : Env) (w : World) →
      paired_args p k ps x vs m e w ≡ list_args p k e x vs (pairs_list ps) m w
  paired_are t.Pairs.no_pairs x vs m e w = refl
  paired_are (t.Pairs.more_pairs b d ps) x vs m e w =
      λ i. valued (ev p k b m e w) (λ r. args e x vs r (d ∷ pairs_list ps)) (λ y z. valued (ev p k d m e z)
      (λ r. args e x (vs ++ y ∷ []) r (pairs_list ps))
      (λ u o. (paired_are ps x (vs ++ y ∷ u ∷ []) m e o ∙ ap (λ q. list_args p k e x q (pairs_list ps) m o) (sym (append_assoc vs (y ∷ [])
      (u ∷ [])))) i))

  indices_are : (ts : Trees) (x : Form) (vs : List Val) (left : List Tree) (m : Bool) (e : Env) (w : World) →
      indices p k ts x vs left m e w (λ vs w. list_args p k e x vs left m w) ≡ list_args p k e x vs (trees_list ts ++ left) m w
  indices_are no_trees x vs left m e w = refl
  indices_are (more_trees b ts) x vs left m e w =
      λ i. valued (ev p k b m e w) (λ r. args e x vs r (trees_list ts ++ left)) (λ y z. indices_are ts x (vs ++ y ∷ []) left m e z i)

  mutual
    pub targets_are : (b : Tree) (x : Form) (left : List Tree) (m : Bool) (e : Env) (w : World) → IsTarget b →
        targets p k b x left m e w (λ vs w. list_args p k e x vs left m w) ≡ list_args p k e x [] (target_list b ++ left) m w
    targets_are (tree n pl s) x left m e w h = targets_shape_are s x left m e w h

    targets_shape_are : (s : Shape) (x : Form) (left : List Tree) (m : Bool) (e : Env) (w : World) → IsTargetOf s →
        targets_shape p k s x left m e w (λ vs w. list_args p k e x vs left m w) ≡ list_args p k e x [] (target_list_of s ++ left) m w
    targets_shape_are (t.Shape.name y) x left m e w h = refl
    targets_shape_are (t.Shape.member b y) x left m e w h = refl
    targets_shape_are (t.Shape.index b ts) x left m e w h =
        (λ i. targets p k b x (trees_list ts ++ left) m e w (λ vs z. indices_are ts x vs left m e z i))
        ∙ (targets_are b x (trees_list ts ++ left) m e w h ∙ ap (λ q. list_args p k e x [] q m w) (sym (append_assoc (target_list b)
        (trees_list ts) left)))
    targets_shape_are s x left m e w h = absurd h
