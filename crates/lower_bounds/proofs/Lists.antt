-- What holds of each node of a tree, split as the tree is.
use Rattle.std.proofs.Common.{ℕ, List, [], ◌∷◌, ◌++◌, Bool, true, false, cond}
use Rattle.verse_base.specs.declared.places.Place.{Place}
use Rattle.verse_tree.specs.Tree.{tree, Shape}
use Rattle.verse_tree.specs.PostOrder.{Node, expression, post_order, parts}

abbrev pub Each : {X : Type 0} → (X → Type 0) → List X → Type 0
Each P [] = Unit {0}
Each P (x ∷ xs) = P x × Each P xs

pub each_first : {X : Type 0} (P : X → Type 0) (xs ys : List X) → Each P (xs ++ ys) → Each P xs
each_first P [] ys h = tt
each_first P (x ∷ xs) ys h = (h.0, each_first P xs ys h.1)

pub each_rest : {X : Type 0} (P : X → Type 0) (xs ys : List X) → Each P (xs ++ ys) → Each P ys
each_rest P [] ys h = h
each_rest P (x ∷ xs) ys h = each_rest P xs ys h.1

pub each_joined : {X : Type 0} (P : X → Type 0) (xs ys : List X) → Each P xs → Each P ys → Each P (xs ++ ys)
each_joined P [] ys h k = k
each_joined P (x ∷ xs) ys h k = (h.0, each_joined P xs ys h.1 k)

pub each_of : {X : Type 0} {P : X → Type 0} → ((x : X) → P x) → (xs : List X) → Each P xs
each_of f [] = tt
each_of f (x ∷ xs) = (f x, each_of f xs)

pub each_weaker : {X : Type 0} {P R : X → Type 0} → ((x : X) → P x → R x) → (xs : List X) → Each P xs → Each R xs
each_weaker f [] h = tt
each_weaker f (x ∷ xs) h = (f x h.0, each_weaker f xs h.1)

abbrev pub node : ℕ → Place → Shape → Node
node n pl s = record { number = n; place = pl; what = expression s }

-- a node and its parts
pub own : (P : Node → Type 0) (n : ℕ) (pl : Place) (s : Shape) → Each P (post_order (tree n pl s)) → P (node n pl s)
own P n pl s h = (each_rest P (parts s) (node n pl s ∷ []) h).0

pub inside : (P : Node → Type 0) (n : ℕ) (pl : Place) (s : Shape) → Each P (post_order (tree n pl s)) → Each P (parts s)
inside P n pl s h = each_first P (parts s) (node n pl s ∷ []) h

pub on_cond : {A : Type 0} (P : A → Type 0) (b : Bool) {x y : A} → P x → P y → P (cond b x y)
on_cond P true h k = h
on_cond P false h k = k
