-- Each node has the type that it is judged to have by what is found at the nodes before it.
use Rattle.std.proofs.Common.{◌≡◌, ℕ, zero, suc, ◌+◌, List, [], ◌∷◌, ◌++◌, length, length-append, take, refl, subst, arith, slice_get}
use Rattle.std.specs.Prelude.{Some}
use Rattle.std.proofs.lemmas.Option.{same_Some}
use Rattle.verse_tree.specs.ItemTree.{ItemTree}
use Rattle.verse_tree.specs.declared.tables.Names.{Names}
use Rattle.verse_rules_types.specs.Types.{Ty}
use Rattle.verse_rules_least.specs.Least.{each}
use Rattle.verse_rules_walk.specs.Nodes.{Node, items_nodes}
use Rattle.verse_check_typing.specs.Facts.{World, world_of}
use Rattle.verse_check_typing.specs.Steps.{Sight, facts, judge, step, begun, seen}
use Rattle.verse_check.specs.Checking.{all_seen, AreTypesOf}

get_more : (ts : List Ty) (u t : Ty) (n : ℕ) → slice_get ts n ≡ Some t → slice_get (ts ++ u ∷ []) n ≡ Some t
get_more [] u t n h = cc
get_more (s ∷ ts) u t zero h = h
get_more (s ∷ ts) u t (suc n) h = get_more ts u t n h

get_last : (ts : List Ty) (u : Ty) → slice_get (ts ++ u ∷ []) (length ts) ≡ Some u
get_last [] u = refl
get_last (s ∷ ts) u = get_last ts u

one_more : (ts : List Ty) (u : Ty) (i : ℕ) → length (ts ++ u ∷ []) + i ≡ length ts + suc i
one_more ts u i = omega (arith, length-append ts (u ∷ []))

from_start : (i : ℕ) → 0 + i ≡ i
from_start i = omega arith

-- a node behind changes no entry
kept : (k : World) (vs : List Node) (x : Sight) (n : ℕ) (t : Ty) → slice_get x.types n ≡ Some t →
    slice_get (each (step k) vs x).types n ≡ Some t
unfolding step
kept k [] x n t h = h
kept k (v ∷ vs) x n t h = kept k vs (step k v x) n t (get_more x.types (judge (facts k x) v).ty t n h)

entry : (k : World) (vs : List Node) (x : Sight) (i : ℕ) (v : Node) → slice_get vs i ≡ Some v →
    slice_get (each (step k) vs x).types (length x.types + i) ≡ Some (judge (facts k (each (step k) (take i vs) x)) v).ty
unfolding step
entry k [] x i v h = cc
entry k (w ∷ vs) x zero v h =
    subst (λ (y : Node). slice_get (each (step k) vs (step k w x)).types (length x.types + 0) ≡ Some (judge (facts k x) y).ty)
    (same_Some w v h) (
    subst (λ (n : ℕ). slice_get (each (step k) vs (step k w x)).types n ≡ Some (judge (facts k x) w).ty) (omega arith) (
    kept k vs (step k w x) (length x.types) (judge (facts k x) w).ty (get_last x.types (judge (facts k x) w).ty)
    )
    )
entry k (w ∷ vs) x (suc i) v h =
    subst (λ (n : ℕ). slice_get (each (step k) vs (step k w x)).types n ≡
    Some (judge (facts k (each (step k) (take i vs) (step k w x))) v).ty) (one_more x.types (judge (facts k x) w).ty i)
    (entry k vs (step k w x) i v h)

pub entries : (k : Names) (is : List ItemTree) → AreTypesOf k is (all_seen k is).types
entries k is i v h =
    subst (λ (n : ℕ). slice_get (all_seen k is).types n ≡
    Some (judge (facts (world_of k is) (seen (world_of k is) (take i (items_nodes is)))) v).ty) (from_start i)
    (entry (world_of k is) (items_nodes is) begun i v h)
