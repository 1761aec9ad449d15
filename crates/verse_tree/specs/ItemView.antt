-- What an item of the code stands for.
use Rattle.std.specs.Prelude.{List, map, Option}
use Rattle.std.specs.Option.{option_map}
use Rattle.verse_tree.specs.ItemTree.{SpecTree, UsingTree, EnumTree, FieldTree, ParamTree, FunTree}
use Rattle.verse_tree.specs.ItemTree.{MemberTree, field, method, ClassTree}
use Rattle.verse_tree.specs.ItemTree.{ItemTree, using, enumeration, class, function}
use Rattle.verse_tree.specs.View.{written_of, tree_of}
use Rattle.verse_tree.specs.declared.items.Spec.{Spec}
use Rattle.verse_tree.specs.declared.items.Using.{Using}
use Rattle.verse_tree.specs.declared.items.EnumItem.{EnumItem}
use Rattle.verse_tree.specs.declared.items.Field.{Field}
use Rattle.verse_tree.specs.declared.items.Param.{Param}
use Rattle.verse_tree.specs.declared.items.Fun.{Fun}
use Rattle.verse_tree.specs.declared.items.Member.{Member}
use Rattle.verse_tree.specs.declared.items.Member.TheVariants as member
use Rattle.verse_tree.specs.declared.items.ClassItem.{ClassItem}
use Rattle.verse_tree.specs.declared.items.Item.{Item}
use Rattle.verse_tree.specs.declared.items.Item.TheVariants as item

abbrev pub spec_of : Spec → SpecTree
spec_of s = record { place = s.place; name = s.name }

abbrev pub using_of : Using → UsingTree
using_of u = record { number = u.node; place = u.place; path = u.path }

abbrev pub enum_of : EnumItem → EnumTree
enum_of e = record {
  number = e.node;
  place = e.place;
  name = e.name;
  specs = map spec_of e.specs;
  values = e.values;
}

abbrev pub field_of : Field → FieldTree
field_of f = record {
  number = f.node;
  place = f.place;
  is_var = f.is_var;
  var_specs = map spec_of f.var_specs;
  name = f.name;
  specs = map spec_of f.specs;
  written = written_of f.ty;
  default = option_map tree_of f.default;
}

abbrev pub param_of : Param → ParamTree
param_of p = record { number = p.node; place = p.place; name = p.name; written = written_of p.ty }

abbrev pub fun_of : Fun → FunTree
fun_of f = record {
  number = f.node;
  place = f.place;
  name = f.name;
  specs = map spec_of f.specs;
  params = map param_of f.params;
  effects = map spec_of f.effects;
  written = written_of f.result;
  body = tree_of f.body;
}

abbrev pub member_of : Member → MemberTree
member_of (member.Field f) = field (field_of f)
member_of (member.Method f) = method (fun_of f)

abbrev pub class_of : ClassItem → ClassTree
class_of c = record {
  number = c.node;
  place = c.place;
  name = c.name;
  specs = map spec_of c.specs;
  class_specs = map spec_of c.class_specs;
  parent = c.parent;
  members = map member_of c.members;
}

abbrev pub item_of : Item → ItemTree
item_of (item.Using u) = using (using_of u)
item_of (item.Enum e) = enumeration (enum_of e)
item_of (item.Class c) = class (class_of c)
item_of (item.Fun f) = function (fun_of f)
