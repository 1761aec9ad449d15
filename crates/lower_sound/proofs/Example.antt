-- A program that is accepted, in which what is called gives no value: the checker asks for no number of arguments,
-- and the code takes the first place of a tuple.
use Rattle.std.proofs.Common.{◌≡◌, ℕ, suc, Bool, [], ◌∷◌, None, Some, false, refl}
use Rattle.std.specs.Prelude.{codes}
use Rattle.verse_base.specs.declared.places.Place.{Place}
use Rattle.verse_tree.specs.Tree.{tree, no_trees, more_trees}
use Rattle.verse_tree.specs.Tree as t
use Rattle.verse_tree.specs.ItemTree.{function}
use Rattle.verse_tree.specs.declared.tables.Ref.TheVariants as ref
use Rattle.verse_tree.specs.declared.tables.Ty.TheVariants as ty
use Rattle.verse_code.specs.declared.operations.Op.TheVariants as o
use Rattle.verse_meaning.specs.Programs.{Program}
use Rattle.lower_code.specs.Programs.{code_of}
use Rattle.lower_code.specs.Lowering.{by_callee, stated, named}

abbrev at : ℕ → ℕ → Place
at l c = record { file = 0; line = suc l; col = suc c }

-- Main():void =
--     X := block:
--         return
--     X()
abbrev pub dead_call : Program
dead_call = record {
  items = function (record {
    number = 7;
    place = at 0 0;
    name = codes "Main";
    specs = [];
    params = [];
    effects = [];
    written = t.Written.void;
    body = tree 6 (at 1 4) (t.Shape.block (more_trees (tree 3 (at 1 4) (t.Shape.definition (codes "X")
        (tree 2 (at 1 9) (t.Shape.block_form (tree 1 (at 2 8) (t.Shape.block (more_trees (tree 0
        (at 2 8) t.Shape.returned_unit) no_trees)))))))
        (more_trees (tree 5 (at 3 4) (t.Shape.call (tree 4 (at 3 4) (t.Shape.name (codes "X"))) no_trees)) no_trees)));
  }) ∷ [];
  is_array = λ n. false;
  is_event = λ n. false;
  names = record {
    funs = record {
      params = [];
      result = ty.Void;
      effects = record { computes = false; transacts = false; decides = false; suspends = false };
      item = 7;
    } ∷ [];
    classes = [];
    enums = [];
    refs = None ∷ None ∷ None ∷ None ∷ Some (ref.Local 3) ∷ None ∷ None ∷ None ∷ [];
  };
}

-- X is called at the seventh
pub code_is : (differ : ℕ → ℕ → Bool) → (code_of dead_call differ 1).ops ≡ o.Unit ∷ o.Return ∷ o.Put 0 ∷ o.Get 0 ∷
    o.Drop ∷ o.Get 0 ∷ o.Item 0 ∷ o.Return ∷ []
unfolding by_callee stated named
code_is differ = refl
