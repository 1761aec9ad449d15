-- What the checker has found of a program, as sorts, and what may happen at a node by what stands
-- round it.
use Rattle.std.specs.Prelude.{◌≡◌, ℕ, ◌-◌, Bool, true, false, ◌||◌, List, [], map, Option, Some}
use Rattle.std.specs.Prelude.{None, option_map, slice_get}
use Rattle.verse_base.specs.declared.places.Place.{Place}
use Rattle.verse_tree.specs.Tree.{Written, Shape}
use Rattle.verse_tree.specs.ItemTree.{ItemTree}
use Rattle.verse_tree.specs.PostOrder.{expression}
use Rattle.verse_tree.specs.declared.tables.Effects.{Effects}
use Rattle.verse_tree.specs.declared.tables.FieldInfo.{FieldInfo}
use Rattle.verse_tree.specs.declared.tables.FunInfo.{FunInfo}
use Rattle.verse_tree.specs.declared.tables.Ty.{Ty as Made}
use Rattle.verse_rules_types.specs.Types.{Ty, Class, ty_of}
use Rattle.verse_rules_types.specs.Types as t
use Rattle.verse_rules_types.specs.Fitting.{parent_of}
use Rattle.verse_rules_walk.specs.Around.{Around}
use Rattle.verse_names_tables.specs.Names.{Table}
use Rattle.verse_names_declarations.specs.Known.{known}
use Rattle.verse_names_scopes.specs.Visible.{World}
use Rattle.verse_names_scopes.specs.Subjects.{subject}
use Rattle.verse_check_typing.specs.Sets.{has_number}
use Rattle.verse_check_typing.specs.Facts.{classes, type_at, var_at}
use Rattle.verse_check_typing.specs.Members.{fields_of}
use Rattle.verse_check_typing.specs.Loops.{index_of}
use Rattle.verse_check_typing.specs.Rows.{spelled}
use Rattle.verse_effects.specs.Callees.{is_lasting}
use Rattle.verse_rules.specs.Sound.{completed, types_of}
use Rattle.verse_meaning.specs.Programs.{Program}
use Rattle.verse_sorts.specs.Sorts.{Sort}
use Rattle.verse_sorts.specs.Sorts as s
use Rattle.verse_sorts_types.specs.SortOf.{sort_of}
use Rattle.verse_sound_rules.specs.Found.{Signature, Allowed}
use Rattle.verse_sound_rules.specs.Found as rules
use Rattle.verse_accept_scopes.specs.Sites.{site}
use Rattle.verse_accept_rows.specs.Found.{final, Found}
use Rattle.verse_accept_classes.specs.Owners.{Owned, owned}

abbrev pub made_sort : Made → Sort
made_sort t = sort_of (ty_of t)

abbrev pub field_sort : FieldInfo → Sort
field_sort f = made_sort f.ty

-- a call of the function can wait, or cannot be undone
abbrev pub lasts : Effects → Bool
lasts e = e.suspends || is_lasting e

abbrev pub class_in : Option Owned → Option ℕ
class_in None = None
class_in (Some o) = o.class

abbrev pub signature_of : Option FunInfo → Option ℕ → Signature
signature_of None c = record {
  params = [];
  result = s.any;
  decides = false;
  lasts = false;
  this =
      c;
}
signature_of (Some f) c = record {
  params = map made_sort f.params;
  result = made_sort f.result;
  decides = f.effects.decides;
  lasts = lasts f.effects;
  this = c;
}

module _ (is : List ItemTree) where
  -- the type and the sort of the node of a number
  abbrev pub ty_at : ℕ → Ty
  ty_at n = type_at (types_of is) n

  abbrev pub all_classes : List Class
  all_classes = classes (final is)

  abbrev pub up : ℕ → Option ℕ
  up = parent_of all_classes

  abbrev pub sorted : rules.Found
  sorted = record {
    sort = λ n. sort_of (ty_at n);
    key = λ n. sort_of (index_of (ty_at (n - 1)));
    is_var = λ n. var_at (final is).vars n;
    up = up;
    slots = λ c. map field_sort (fields_of (final is) c);
    signature = λ g. signature_of (slice_get (completed is).funs g)
        (class_in (slice_get (owned (known is).items) g));
  }

  -- which nodes are arrays and events is told by tables of types
  abbrev pub program : (ℕ → Bool) → (ℕ → Bool) → Program
  program arrays events = record {
    items = is;
    names = completed is;
    is_array = arrays;
    is_event =
        events;
  }

  -- what is found at the expression of a number
  abbrev pub At : World → Around → Table → ℕ → Place → Shape → Type 0
  At w a xs n p x = Found is (site w n p a xs (expression x) (subject n x))

  abbrev pub written_sort : Written → Sort
  written_sort w = sort_of (spelled (final is) w)

  -- what is allowed at a node where this stands round it, in this world
  pub record Allows (w : World) (a : Around) (b : Allowed) : Type 0 where
    pub fails : a.is_caught ≡ true → b.fails ≡ true
    pub tried : a.is_caught ≡ true → a.is_tried ≡ true
    pub result : a.may_return ≡ true → b.result ≡ option_map written_sort a.owner.result
    pub loop : a.may_break ≡ true → (m : ℕ) × (a.enclosing ≡ Some m)
    pub breaks : a.may_break ≡ true → (m : ℕ) → a.enclosing ≡ Some m →
        b.breaks ≡ has_number m (final is).left
    pub waits : a.is_tried ≡ false → a.is_deferred ≡ false → lasts a.owner.effects ≡ true →
        b.waits ≡ true
    pub this : b.this ≡ w.class

abbrev pub is_array_type : Ty → Bool
is_array_type (t.array u) = true
is_array_type u = false

abbrev pub is_event_type : Ty → Bool
is_event_type (t.event u) = true
is_event_type u = false
