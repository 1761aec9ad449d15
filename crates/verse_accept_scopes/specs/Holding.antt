-- What holds at each node of a program, form by form: that of the parts, where each part is
-- numbered below the whole, and that of the node.
use Rattle.std.specs.Prelude.{ℕ, ◌+◌, ◌<◌, Bool, true, false, List, [], ◌∷◌, Option, Some, None}
use Rattle.verse_tree.specs.Tree.{Written, Writtens, no_writtens, more_writtens, Tree, tree, Shape}
use Rattle.verse_tree.specs.Tree.{Trees, no_trees, more_trees}
use Rattle.verse_tree.specs.Tree.{Holes, no_holes, more_holes, Pairs, no_pairs, more_pairs, Givens}
use Rattle.verse_tree.specs.Tree.{no_givens, more_givens}
use Rattle.verse_tree.specs.Tree as t
use Rattle.verse_tree.specs.ItemTree.{FieldTree, ParamTree, FunTree, MemberTree, field, method}
use Rattle.verse_tree.specs.ItemTree.{ItemTree, using, enumeration, class}
use Rattle.verse_tree.specs.ItemTree.{function}
use Rattle.verse_tree.specs.PostOrder.{expression, type_name}
use Rattle.verse_names_tables.specs.Names.{Table}
use Rattle.verse_names_tables.specs.Counting.{Counted}
use Rattle.verse_names_tables.specs.declared.counting.Counts.{Counts}
use Rattle.verse_names_declarations.specs.Known.{Known}
use Rattle.verse_names_scopes.specs.Visible.{World, inside}
use Rattle.verse_names_scopes.specs.Visible as visible
use Rattle.verse_names_scopes.specs.Subjects.{subject, locals_behind}
use Rattle.verse_names_scopes.specs.Subjects as u
use Rattle.verse_rules_walk.specs.Around.{Around, value, callee, object, target, spawned, argument}
use Rattle.verse_rules_walk.specs.Around.{outside, default_around, used_as}
use Rattle.verse_rules_walk.specs.Around.{freely}
use Rattle.verse_rules_walk.specs.Around.{caught, looped, repeated, armed, deferred, left_of}
use Rattle.verse_rules_walk.specs.Around.{indexed}
use Rattle.verse_rules_walk.specs.Nodes.{number_of_tree, round_body}
use Rattle.verse_accept_scopes.specs.Sites.{Site, behind, all_behind, param_subject, params_behind}
use Rattle.verse_accept_scopes.specs.Sites.{site, param_site, member_site}
use Rattle.verse_accept_scopes.specs.Sites.{item_site}

module _ (P : Site → Type 0) (w : World) where
  abbrev mutual
    -- at the names in a type
    pub OnWritten : Around → Bool → Table → Written → Type 0
    OnWritten a b xs (t.Written.named n p x) = P (site w n p a xs (type_name x) (u.type_name b x))
    OnWritten a b xs (t.Written.option ty) = OnWritten a b xs ty
    OnWritten a b xs (t.Written.array ty) = OnWritten a b xs ty
    OnWritten a b xs (t.Written.task ty) = OnWritten a b xs ty
    OnWritten a b xs (t.Written.map key ty) = OnWritten a b xs key × OnWritten a b xs ty
    OnWritten a b xs (t.Written.tuple tys) = OnWrittens a b xs tys
    OnWritten a b xs (t.Written.event ty) = OnWritten a b xs ty
    OnWritten a b xs ty = Unit {0}

    pub OnWrittens : Around → Bool → Table → Writtens → Type 0
    OnWrittens a b xs no_writtens = Unit {0}
    OnWrittens a b xs (more_writtens ty tys) = OnWritten a b xs ty × OnWrittens a b xs tys

  abbrev mutual
    -- at the nodes of a tree, with what stands round it and the names that are visible at it
    pub On : Around → Table → Tree → Type 0
    On a xs (tree n p s) = OnShape n a xs s × P (site w n p a xs (expression s) (subject n s))

    -- at the parts of the node n
    pub OnShape : ℕ → Around → Table → Shape → Type 0
    OnShape n a xs (t.Shape.block ts) = OnAll n (freely a) xs ts
    OnShape n a xs (t.Shape.defer b) = OnPart n (deferred a) xs b
    OnShape n a xs (t.Shape.definition x b) = OnPart n (freely a) xs b
    OnShape n a xs (t.Shape.typed x ty b) = OnWritten a true xs ty ×
        OnPart n (used_as (value ty) a) xs b
    OnShape n a xs (t.Shape.variable x ty b) = OnWritten a true xs ty ×
        OnPart n (used_as (value ty) a) xs b
    OnShape n a xs (t.Shape.assignment m b c) = OnPart n (used_as target a) xs b ×
        OnPart n (freely a) xs c
    OnShape n a xs (t.Shape.returned b) = OnPart n (freely a) xs b
    OnShape n a xs (t.Shape.if_else ts b c) =
        OnAll n (caught a) xs ts × OnPart n (freely a) (all_behind w ts xs) b ×
        OnPart n (freely a) xs c
    OnShape n a xs (t.Shape.if_alone ts b) = OnAll n (caught a) xs ts ×
        OnPart n (freely a) (all_behind w ts xs) b
    OnShape n a xs (t.Shape.chained x b c) = OnPart n (left_of x a) xs b × OnPart n (freely a) xs c
    OnShape n a xs (t.Shape.compared x b c) = OnPart n (freely a) xs b × OnPart n (freely a) xs c
    OnShape n a xs (t.Shape.negation b) = OnPart n (caught a) xs b
    OnShape n a xs (t.Shape.minus b) = OnPart n (freely a) xs b
    OnShape n a xs (t.Shape.call b ts) = OnPart n (used_as callee a) xs b ×
        OnArguments n a xs (number_of_tree b) 0 ts
    OnShape n a xs (t.Shape.index b ts) = OnPart n (indexed a) xs b ×
        OnArguments n a xs (number_of_tree b) 0 ts
    OnShape n a xs (t.Shape.member b x) = OnPart n (used_as object a) xs b
    OnShape n a xs (t.Shape.query b) = OnPart n (freely a) xs b
    OnShape n a xs (t.Shape.holes x hs) = OnHoles n (freely a) xs hs
    OnShape n a xs (t.Shape.tuple ts) = OnEach n (freely a) xs ts
    OnShape n a xs (t.Shape.array ts) = OnEach n (freely a) xs ts
    OnShape n a xs (t.Shape.option ts) = OnAll n (caught a) xs ts
    OnShape n a xs (t.Shape.logic ts) = OnAll n (caught a) xs ts
    OnShape n a xs (t.Shape.mapping ps) = OnPairs n (freely a) xs ps
    OnShape n a xs (t.Shape.instance x gs) = OnGivens n (freely a) xs gs
    OnShape n a xs (t.Shape.event ty) = OnWritten a true xs ty
    OnShape n a xs (t.Shape.for_form ts b) = OnAll n (caught a) xs ts ×
        OnPart n (repeated a) (all_behind w ts xs) b
    OnShape n a xs (t.Shape.loop_form b) = OnPart n (looped n a) xs b
    OnShape n a xs (t.Shape.block_form b) = OnPart n (freely a) xs b
    OnShape n a xs (t.Shape.branch b) = OnPart n (armed a) xs b
    OnShape n a xs (t.Shape.sync ts) = OnEach n (armed a) xs ts
    OnShape n a xs (t.Shape.race ts) = OnEach n (armed a) xs ts
    OnShape n a xs (t.Shape.rush ts) = OnEach n (armed a) xs ts
    OnShape n a xs (t.Shape.cases b ts) = OnPart n (freely a) xs b × OnEach n (freely a) xs ts
    OnShape n a xs (t.Shape.spawn b) = OnPart n (used_as spawned a) xs b
    OnShape n a xs (t.Shape.elements x b) = OnPart n (freely a) xs b
    OnShape n a xs (t.Shape.entries x y b) = OnPart n (freely a) xs b
    OnShape n a xs (t.Shape.range x b c) = OnPart n (freely a) xs b × OnPart n (freely a) xs c
    OnShape n a xs (t.Shape.arm b c) = OnPart n (freely a) xs b × OnPart n (freely a) xs c
    OnShape n a xs s = Unit {0}

    pub OnPart : ℕ → Around → Table → Tree → Type 0
    OnPart n a xs (tree m p s) = (m < n) × OnShape m a xs s ×
        P (site w m p a xs (expression s) (subject m s))

    -- each seeing the names that were defined before it
    pub OnAll : ℕ → Around → Table → Trees → Type 0
    OnAll n a xs no_trees = Unit {0}
    OnAll n a xs (more_trees e es) = OnPart n a xs e × OnAll n a (behind w e xs) es

    -- each by itself
    pub OnEach : ℕ → Around → Table → Trees → Type 0
    OnEach n a xs no_trees = Unit {0}
    OnEach n a xs (more_trees e es) = OnPart n a xs e × OnEach n a xs es

    -- the arguments for the callee with the number f, from the place i on
    pub OnArguments : ℕ → Around → Table → ℕ → ℕ → Trees → Type 0
    OnArguments n a xs f i no_trees = Unit {0}
    OnArguments n a xs f i (more_trees e es) = OnPart n (used_as (argument f i) a) xs e ×
        OnArguments n a xs f (i + 1) es

    pub OnHoles : ℕ → Around → Table → Holes → Type 0
    OnHoles n a xs no_holes = Unit {0}
    OnHoles n a xs (more_holes e bs hs) = OnPart n a xs e × OnHoles n a xs hs

    pub OnPairs : ℕ → Around → Table → Pairs → Type 0
    OnPairs n a xs no_pairs = Unit {0}
    OnPairs n a xs (more_pairs k e ps) = OnPart n a xs k × OnPart n a xs e × OnPairs n a xs ps

    pub OnGivens : ℕ → Around → Table → Givens → Type 0
    OnGivens n a xs no_givens = Unit {0}
    OnGivens n a xs (more_givens x e gs) = OnPart n a xs e × OnGivens n a xs gs

  abbrev pub OnParams : Table → List ParamTree → Type 0
  OnParams xs [] = Unit {0}
  OnParams xs (p ∷ ps) =
      OnWritten outside false xs p.written × P (param_site w xs p) ×
      OnParams (locals_behind w (param_subject p) xs) ps

  -- a function's body sees its parameters
  abbrev pub OnFun : Table → FunTree → Type 0
  OnFun xs f =
      let ys = params_behind w f.params xs in
      OnParams xs f.params × OnWritten outside false ys f.written × On (round_body f) ys f.body

  abbrev pub OnDefault : Table → Written → Option Tree → Type 0
  OnDefault xs ty None = Unit {0}
  OnDefault xs ty (Some e) = On (default_around ty) xs e

  abbrev pub OnField : Table → FieldTree → Type 0
  OnField xs d = OnWritten outside false xs d.written × OnDefault xs d.written d.default

module _ (P : Site → Type 0) where
  -- a member, in the world of fields and in that of methods
  abbrev pub OnMember : World → World → Table → MemberTree → Type 0
  OnMember w v xs (field d) = OnField P w xs d × P (member_site w xs (field d))
  OnMember w v xs (method f) = OnFun P v xs f × P (member_site w xs (method f))

  abbrev pub OnMembers : World → World → Table → List MemberTree → Type 0
  OnMembers w v xs [] = Unit {0}
  OnMembers w v xs (m ∷ ms) = OnMember w v xs m × OnMembers w v xs ms

  module _ (k : Known) where
    abbrev pub OnItem : Table → ItemTree → Counts → Type 0
    OnItem xs (using u) c = P (item_site k xs (using u))
    OnItem xs (enumeration e) c = P (item_site k xs (enumeration e))
    OnItem xs (class d) c = OnMembers (visible.outside k) (inside k c.classes) xs d.members ×
        P (item_site k xs (class d))
    OnItem xs (function f) c = OnFun P (visible.outside k) xs f × P (item_site k xs (function f))

    abbrev pub OnItems : Table → List Counted → Type 0
    OnItems xs [] = Unit {0}
    OnItems xs (i ∷ is) = OnItem xs i.item i.before × OnItems xs is
