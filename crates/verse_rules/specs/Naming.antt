-- The tables of a program, by its items alone.
use Rattle.std.specs.Prelude.{List, map}
use Rattle.verse_tree.specs.ItemTree.{ItemTree}
use Rattle.verse_tree.specs.declared.tables.Names.{Names}
use Rattle.verse_tree.specs.declared.tables.FunInfo.{FunInfo}
use Rattle.verse_tree.specs.declared.tables.FieldInfo.{FieldInfo}
use Rattle.verse_tree.specs.declared.tables.ClassInfo.{ClassInfo}
use Rattle.verse_rules_types.specs.Types.{Field, Class}
use Rattle.verse_names_tables.specs.Functions.{Function}
use Rattle.verse_names_items.specs.Tables.{tables}
use Rattle.verse_names_scopes.specs.Visits.{ref_of, program_visits}
use Rattle.verse_rules.specs.Made.{made}

abbrev pub made_function : Function → FunInfo
made_function f = record {
  params = map made f.params;
  result = made f.result;
  effects = f.effects;
  item = f.item;
}

abbrev pub made_field : Field → FieldInfo
made_field f = record { ty = made f.ty; is_var = f.is_var; default = f.default }

abbrev pub made_class : Class → ClassInfo
made_class c = record {
  parent = c.parent;
  is_unique = c.is_unique;
  fields =
      map made_field c.fields;
  methods = c.methods;
}

-- what the names of a program stand for, and what each node refers to by a bare name
abbrev pub named : List ItemTree → Names
named is = record {
  funs = map made_function (tables is).functions;
  classes = map made_class (tables is).classes;
  enums = (tables is).enums;
  refs = map ref_of (program_visits is);
}
