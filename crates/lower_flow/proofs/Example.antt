-- A program that is accepted, which takes something out of nothing: `false?` gives no value, so the checker asks for
-- nothing where it is called, and the flow of its code goes on behind it.
use Rattle.std.proofs.Common.{◌≡◌, ℕ, suc, Bool, [], ◌∷◌, None, false, refl}
use Rattle.std.specs.Prelude.{codes}
use Rattle.verse_base.specs.declared.places.Place.{Place}
use Rattle.verse_tree.specs.Tree.{tree, no_trees, more_trees}
use Rattle.verse_tree.specs.Tree as t
use Rattle.verse_tree.specs.ItemTree.{function}
use Rattle.verse_tree.specs.declared.tables.Ty.TheVariants as ty
use Rattle.verse_code.specs.declared.operations.Op.TheVariants as o
use Rattle.verse_meaning.specs.Programs.{Program}
use Rattle.lower_code.specs.Programs.{code_of}
use Rattle.lower_code.specs.Lowering.{by_callee, stated}

abbrev at : ℕ → ℕ → Place
at l c = record { file = 0; line = suc l; col = suc c }

-- Main():void =
--     option{false?()}
abbrev pub taken_from_nothing : Program
taken_from_nothing = record {
  items = function (record {
    number = 5;
    place = at 0 0;
    name = codes "Main";
    specs = [];
    params = [];
    effects = [];
    written = t.Written.void;
    body = tree 4 (at 1 4) (t.Shape.block (more_trees (tree 3 (at 1 4) (t.Shape.option (more_trees
        (tree 2 (at 1 11) (t.Shape.call (tree 1 (at 1 11) (t.Shape.query (tree 0 (at 1 11) t.Shape.falsehood)))
        no_trees))
        no_trees))) no_trees));
  }) ∷ [];
  is_array = λ n. false;
  is_event = λ n. false;
  names = record {
    funs = record {
      params = [];
      result = ty.Void;
      effects = record { computes = false; transacts = false; decides = false; suspends = false };
      item = 5;
    } ∷ [];
    classes = [];
    enums = [];
    refs = None ∷ None ∷ None ∷ None ∷ None ∷ None ∷ None ∷ [];
  };
}

-- the Item stands where the call would be, which no run reaches
pub code_is : (differ : ℕ → ℕ → Bool) → (code_of taken_from_nothing differ 1).ops ≡ o.Try 7 ∷ o.False ∷ o.Query ∷
    o.Item 0 ∷ o.Commit ∷ o.Some 0 ∷ o.Jump 8 ∷ o.False ∷ o.Return ∷ []
unfolding by_callee stated
code_is differ = refl
