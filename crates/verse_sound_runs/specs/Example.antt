-- A small program: Main has the block `X := 1`, `X + 2`.
use Rattle.std.specs.Prelude.{pos, false, [], ◌∷◌, Some, None}
use Rattle.verse_base.specs.declared.places.Place.{Place}
use Rattle.verse_tree.specs.Tree.{Bytes, tree, no_trees, more_trees}
use Rattle.verse_tree.specs.Tree as t
use Rattle.verse_tree.specs.ItemTree.{FunTree, function}
use Rattle.verse_tree.specs.declared.exprs.Operator.TheVariants as op
use Rattle.verse_tree.specs.declared.tables.Ref.TheVariants as ref
use Rattle.verse_meaning.specs.Programs.{Program, main_name}

abbrev here : Place
here = record { file = 0; line = 1; col = 1 }

abbrev pub x_name : Bytes
x_name = 88 ∷ []

abbrev pub main_function : FunTree
main_function = record {
  number = 5;
  place = here;
  name = main_name;
  specs = [];
  params = [];
  effects = [];
  written = t.Written.void;
  body = tree 4 here (t.Shape.block
      (more_trees (tree 1 here (t.Shape.definition x_name (tree 0 here (t.Shape.integer (pos 1)))))
      (more_trees (tree 3 here (t.Shape.chained op.Add (tree 2 here (t.Shape.name x_name))
      (tree 0 here (t.Shape.integer (pos 2))))) no_trees)));
}

abbrev pub small : Program
small = record {
  items = function main_function ∷ [];
  names = record {
    funs = [];
    classes = [];
    enums = [];
    refs =
        None ∷ None ∷ Some (ref.Local 1) ∷ [];
  };
  is_array = λ n. false;
  is_event = λ n. false;
}
