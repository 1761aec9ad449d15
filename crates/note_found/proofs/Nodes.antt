-- Which nodes define variables: those that do by what they are.
use Rattle.std.proofs.Common.{◌≡◌, ℕ, zero, suc, List, [], ◌∷◌, ◌++◌, map, Bool, false, Some, None, refl, sym, ap, ◌∙◌}
use Rattle.std.specs.Prelude.{slice_get}
use Rattle.std.proofs.lemmas.List.{append_assoc, append-nil}
use Rattle.verse_tree.specs.ItemTree.{ItemTree}
use Rattle.verse_tree.specs.PostOrder as plain
use Rattle.verse_tree.specs.PostOrder.{items_order, program_order, program, program_place}
use Rattle.verse_rules_least.specs.Least.{each}
use Rattle.verse_rules_walk.specs.Nodes.{Node, alone, items_nodes}
use Rattle.verse_rules_walk.specs.Order.{InPostOrder}
use Rattle.verse_check_typing.specs.Facts.{World, world_of, or_false, var_at}
use Rattle.verse_check_typing.specs.Steps.{Sight, step, begun, defines_variable}
use Rattle.verse_rules.specs.Naming.{named}
use Rattle.verse_accept_rows.specs.Found.{final}
use Rattle.note_sorts.specs.Tabled.{defines}

abbrev defines_of : Node → Bool
defines_of v = defines_variable v.what

abbrev plain_defines : plain.Node → Bool
plain_defines v = defines_variable v.what

vars_step : (k : World) (v : Node) (x : Sight) → (step k v x).vars ≡ x.vars ++ defines_of v ∷ []
unfolding step
vars_step k v x = refl

vars_are : (k : World) (vs : List Node) (x : Sight) → (each (step k) vs x).vars ≡ x.vars ++ map defines_of vs
vars_are k [] x = sym (append-nil x.vars)
vars_are k (v ∷ vs) x =
    vars_are k vs (step k v x)
    ∙ ap (λ xs. xs ++ map defines_of vs) (vars_step k v x)
    ∙ append_assoc x.vars (defines_of v ∷ []) (map defines_of vs)

all_alone : (vs : List Node) → map defines_of vs ≡ map plain_defines (map alone vs)
all_alone [] = refl
all_alone (v ∷ vs) = ap (λ xs. defines_of v ∷ xs) (all_alone vs)

final_vars : InPostOrder → (is : List ItemTree) → (final is).vars ≡ map plain_defines (items_order is)
final_vars order is =
    vars_are (world_of (named is) is) (items_nodes is) begun ∙ all_alone (items_nodes is) ∙ ap (map plain_defines) (order is)

-- the last node defines none, and no more does one behind it
last_is : (xs : List plain.Node) (v : plain.Node) (n : ℕ) → plain_defines v ≡ false →
    defines (slice_get (xs ++ v ∷ []) n) ≡ or_false (slice_get (map plain_defines xs) n)
last_is [] v zero e = e
last_is [] v (suc n) e = refl
last_is (x ∷ xs) v zero e = refl
last_is (x ∷ xs) v (suc n) e = last_is xs v n e

pub vars_agree : InPostOrder → (is : List ItemTree) (n : ℕ) →
    defines (slice_get (program_order is) n) ≡ var_at (final is).vars n
vars_agree order is n =
    last_is (items_order is) _ n refl ∙ ap (λ xs. var_at xs n) (sym (final_vars order is))
