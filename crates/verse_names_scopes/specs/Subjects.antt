-- What a node has to do with names, what it refers to, and the rules of names at it.
use Rattle.std.specs.Prelude.{ℕ, Bool, false, ◌&&◌, ◌||◌, List, [], ◌∷◌, Option, Some, None}
use Rattle.std.specs.Prelude.{is_some, is_none}
use Rattle.verse_base.specs.declared.rules.TheConstants.{NAME_DEFINED, NAME_UNKNOWN}
use Rattle.verse_tree.specs.Tree.{Bytes, Shape, Givens, no_givens, more_givens}
use Rattle.verse_tree.specs.Tree as t
use Rattle.verse_tree.specs.declared.tables.Ref.{Ref}
use Rattle.verse_tree.specs.declared.tables.Ref.TheVariants as ref
use Rattle.verse_names_tables.specs.Names.{Table, look, any_again}
use Rattle.verse_names_scopes.specs.Visible.{World, visible, with_local}

pub data Subject : Type 0 where
  -- no name
  quiet : Subject
  -- a name in a type, and whether it stands in a body; elsewhere the rules of items test it
  type_name : Bool → Bytes → Subject
  -- `Self`
  this : Subject
  used : Bytes → Subject
  -- an instance of what is named, with the names of the fields that are given
  instance : Bytes → List Bytes → Subject
  -- a name, and what it stands for from here on
  defined : Bytes → Ref → Subject
  -- two names, one after the other
  both_defined : Bytes → Ref → Bytes → Ref → Subject

abbrev pub given_names : Givens → List Bytes
given_names no_givens = []
given_names (more_givens x e gs) = x ∷ given_names gs

-- of the node with the number n
abbrev pub subject : ℕ → Shape → Subject
subject n (t.Shape.definition x e) = defined x (ref.Local n)
subject n (t.Shape.typed x w e) = defined x (ref.Local n)
subject n (t.Shape.variable x w e) = defined x (ref.Local n)
subject n (t.Shape.elements x e) = defined x (ref.Local n)
subject n (t.Shape.range x e f) = defined x (ref.Local n)
subject n (t.Shape.entries k x e) = both_defined k (ref.Key n) x (ref.Local n)
subject n t.Shape.this = this
subject n (t.Shape.name x) = used x
subject n (t.Shape.enum_pattern x v) = used x
subject n (t.Shape.instance x gs) = instance x (given_names gs)
subject n s = quiet

abbrev pub this_ref : Option ℕ → Option Ref
this_ref None = None
this_ref (Some c) = Some (ref.Class c)

-- what a node refers to
abbrev pub refers : World → Table → Subject → Option Ref
refers w s (type_name b x) = look x w.types
refers w s this = this_ref w.class
refers w s (used x) = visible w s x
refers w s (instance x gs) = visible w s x
refers w s u = None

-- the local names behind a node
abbrev pub locals_behind : World → Subject → Table → Table
locals_behind w (defined x r) s = with_local w x r s
locals_behind w (both_defined x r y q) s = with_local w y q (with_local w x r s)
locals_behind w u s = s

-- 40: a name is defined that is visible, or a field is given twice
abbrev pub is_defined : World → Table → Subject → Bool
is_defined w s (defined x r) = is_some (visible w s x)
is_defined w s (both_defined x r y q) =
    is_some (visible w s x) || is_some (visible w (with_local w x r s) y)
is_defined w s (instance x gs) = any_again gs []
is_defined w s u = false

-- 41: a name or `Self` is not visible, or a name in a type is no class or enum
abbrev pub is_unknown : World → Table → Subject → Bool
is_unknown w s (type_name b x) = b && is_none (look x w.types)
is_unknown w s this = is_none w.class
is_unknown w s (used x) = is_none (visible w s x)
is_unknown w s (instance x gs) = is_none (visible w s x)
is_unknown w s u = false

-- the rules at a node, the least code first
abbrev pub rules_at : World → Table → Subject → List (ℕ × Bool)
rules_at w s u = (NAME_DEFINED, is_defined w s u) ∷ (NAME_UNKNOWN, is_unknown w s u) ∷ []
