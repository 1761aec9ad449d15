-- What the tables of a program have found, as sorts.
use Rattle.std.specs.Prelude.{ℕ, ◌-◌, Bool, false, not, ◌||◌, List, [], map, Option, Some}
use Rattle.std.specs.Prelude.{None, slice_get}
use Rattle.verse_tree.specs.ItemTree.{ItemTree}
use Rattle.verse_tree.specs.ItemView.{item_of}
use Rattle.verse_tree.specs.PostOrder.{Node, program_order}
use Rattle.verse_tree.specs.declared.tables.Effects.{Effects}
use Rattle.verse_tree.specs.declared.tables.FieldInfo.{FieldInfo}
use Rattle.verse_tree.specs.declared.tables.FunInfo.{FunInfo}
use Rattle.verse_tree.specs.declared.tables.Ty.{Ty as Made}
use Rattle.verse_tree.specs.declared.programs.Program.{Program}
use Rattle.verse_rules_types.specs.Types.{Ty, ty_of, classes_of}
use Rattle.verse_rules_types.specs.Fitting.{parent_of}
use Rattle.verse_check_typing.specs.Facts.{type_at}
use Rattle.verse_check_typing.specs.Members.{fields_in}
use Rattle.verse_check_typing.specs.Loops.{index_of}
use Rattle.verse_check_typing.specs.Steps.{defines_variable}
use Rattle.verse_sorts.specs.Sorts as s
use Rattle.verse_sorts.specs.Sorts.{Sort}
use Rattle.verse_sorts_types.specs.SortOf.{sort_of}
use Rattle.verse_sound_rules.specs.Found.{Found, Signature}
use Rattle.note_sorts.specs.Owning.{owners, flat}

abbrev pub made_sort : Made → Sort
made_sort t = sort_of (ty_of t)

abbrev pub field_sort : FieldInfo → Sort
field_sort f = made_sort f.ty

-- a call can wait, or cannot be undone
abbrev pub lasts : Effects → Bool
lasts e = e.suspends || not (e.computes || e.transacts)

-- of a function, with the class of a method
abbrev pub signature_of : Option FunInfo → Option ℕ → Signature
signature_of None c = record {
  params = [];
  result = s.any;
  decides = false;
  lasts = false;
  this = c;
}
signature_of (Some f) c = record {
  params = map made_sort f.params;
  result = made_sort f.result;
  decides = f.effects.decides;
  lasts = lasts f.effects;
  this = c;
}

abbrev pub defines : Option Node → Bool
defines None = false
defines (Some v) = defines_variable v.what

module _ (p : Program) where
  abbrev pub items : List ItemTree
  items = map item_of p.tree.items

  -- the type of the node of a number
  abbrev pub ty_at : ℕ → Ty
  ty_at n = type_at (map ty_of p.typed.types) n

  unfoldable pub found_of : Found
  found_of = record {
    sort = λ n. sort_of (ty_at n);
    key = λ n. sort_of (index_of (ty_at (n - 1)));
    is_var = λ n. defines (slice_get (program_order items) n);
    up = parent_of (classes_of p.names.classes);
    slots = λ c. map field_sort (fields_in (slice_get p.names.classes c));
    signature = λ g. signature_of (slice_get p.names.funs g)
        (flat (slice_get (owners items) g));
  }
