-- A program that is accepted, and whose code has nothing of its `defer`: it stands in an operand of what gives no
-- value, of which the checker asks nothing and for which there is no code.
use Rattle.std.proofs.Common.{◌≡◌, ℕ, suc, Bool, [], ◌∷◌, None, false, refl}
use Rattle.std.specs.Prelude.{codes, pos}
use Rattle.verse_base.specs.declared.places.Place.{Place}
use Rattle.verse_tree.specs.Tree.{Tree, tree, no_trees, more_trees}
use Rattle.verse_tree.specs.Tree as t
use Rattle.verse_tree.specs.ItemTree.{function}
use Rattle.verse_tree.specs.PostOrder.{items_order}
use Rattle.verse_tree.specs.declared.tables.Ty.TheVariants as ty
use Rattle.verse_code.specs.declared.operations.Op.TheVariants as o
use Rattle.verse_meaning.specs.Programs.{Program}
use Rattle.lower_code.specs.Programs.{code_of}
use Rattle.lower_code.specs.Lowering.{by_callee, stated}
use Rattle.lower_code_defers.specs.Counts.{begins, how_many, defers_in}

abbrev at : ℕ → ℕ → Place
at l c = record { file = 0; line = suc l; col = suc c }

-- block { return }
abbrev callee : Tree
callee = tree 2 (at 1 5) (t.Shape.block_form (tree 1 (at 1 11)
    (t.Shape.block (more_trees (tree 0 (at 1 13) t.Shape.returned_unit) no_trees))))

-- block { defer { 1 } }
abbrev operand : Tree
operand = tree 7 (at 1 23) (t.Shape.block_form (tree 6 (at 1 29) (t.Shape.block (more_trees (tree 5 (at 1 31)
    (t.Shape.defer (tree 4 (at 1 37) (t.Shape.block (more_trees (tree 3 (at 1 39) (t.Shape.integer
    (pos 1))) no_trees)))))
    no_trees))))

-- Main():void =
--     (block { return })(block { defer { 1 } })
abbrev pub dead_defer : Program
dead_defer = record {
  items = function (record {
    number = 10;
    place = at 0 0;
    name = codes "Main";
    specs = [];
    params = [];
    effects = [];
    written = t.Written.void;
    body = tree 9 (at 1 4) (t.Shape.block (more_trees (tree 8 (at 1 4)
        (t.Shape.call callee (more_trees operand no_trees))) no_trees));
  }) ∷ [];
  is_array = λ n. false;
  is_event = λ n. false;
  names = record {
    funs = record {
      params = [];
      result = ty.Void;
      effects = record { computes = false; transacts = false; decides = false; suspends = false };
      item = 10;
    } ∷ [];
    classes = [];
    enums = [];
    refs = None ∷ None ∷ None ∷ None ∷ None ∷ None ∷ None ∷ None ∷ None ∷ None ∷ None ∷ None ∷ [];
  };
}

pub one_defer : defers_in (items_order dead_defer.items) ≡ 1
one_defer = refl

pub code_is : (differ : ℕ → ℕ → Bool) → (code_of dead_defer differ 1).ops ≡ o.Unit ∷ o.Return ∷ o.Item 0 ∷ o.Return ∷ []
unfolding by_callee stated
code_is differ = refl

pub no_begin : (differ : ℕ → ℕ → Bool) → how_many begins (code_of dead_defer differ 1).ops ≡ 0
unfolding by_callee stated
no_begin differ = refl
