-- What the functions of the code stand for.
use Rattle.std.specs.Prelude.{[], ◌∷◌, map, Bool, true, false}
use Rattle.verse_tree.specs.View.{tree_of}
use Rattle.verse_tree.specs.ItemView.{param_of}
use Rattle.verse_meaning.specs.Forms.{this_name}
use Rattle.lower_code.specs.Scopes.{Scope, constant_at}
use Rattle.lower_code.specs.Programs as l
use Rattle.lower_items.specs.declared.bodies.Body.{Body}

-- the object of a method is its first local
abbrev pub this_scope : Bool → Scope
this_scope true = constant_at this_name ∷ []
this_scope false = []

abbrev pub body_view : Body → l.Body
body_view b = record {
  scope = l.params_scope (map param_of b.params.now) (this_scope b.is_method);
  body = tree_of b.body.now;
  suspends = b.suspends;
}
