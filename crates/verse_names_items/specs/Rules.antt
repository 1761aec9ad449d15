-- The rules of items and members, each a test at one node.
use Rattle.std.specs.Prelude.{ℕ, Bool, true, false, cond, ◌&&◌, ◌||◌, not, List, [], ◌∷◌, Option}
use Rattle.std.specs.Prelude.{Some, None, is_some, is_none, slice_get}
use Rattle.std.specs.Prelude.{codes}
use Rattle.std.specs.Str.{bytes_eq}
use Rattle.verse_base.specs.declared.rules.TheConstants.{NAME_DEFINED, NAME_UNKNOWN, CIRCULAR}
use Rattle.verse_base.specs.declared.rules.TheConstants.{NO_MAIN, MISSHAPEN_MAIN, OVERRIDE_MISFITS}
use Rattle.verse_tree.specs.Tree.{Bytes}
use Rattle.verse_tree.specs.ItemTree.{FieldTree, FunTree, EnumTree, ClassTree, ItemTree}
use Rattle.verse_tree.specs.ItemTree as i
use Rattle.verse_tree.specs.declared.tables.Ref.{Ref}
use Rattle.verse_tree.specs.declared.tables.Ref.TheVariants as ref
use Rattle.verse_tree.specs.declared.tables.Effects.{Effects}
use Rattle.verse_rules_types.specs.Types.{Ty, int, void, array, tys, Class}
use Rattle.verse_rules_types.specs.Fitting.{parent_of, inherits, all_same, fits}
use Rattle.verse_names_tables.specs.Names.{look, is_repeated, any_again}
use Rattle.verse_names_tables.specs.Words.{has, builtins}
use Rattle.verse_names_tables.specs.Functions.{Function}
use Rattle.verse_names_declarations.specs.Known.{Known}
use Rattle.verse_names_declarations.specs.Lines.{Home}

-- what a node is, with what the rules ask of what stands round it; numbers are those of functions
-- and classes
pub data Subject : Type 0 where
  quiet : Subject
  type_name : Bytes → Subject
  field : Home → FieldTree → Subject
  method : Home → ℕ → FunTree → Subject
  enumeration : EnumTree → Subject
  class : ℕ → ClassTree → Subject
  function : ℕ → FunTree → Subject
  program : List ItemTree → Subject

-- an item or a built-in name has it, so that it is visible everywhere
abbrev pub is_taken : Known → Bytes → Bool
is_taken k x = is_some (look x k.index.items) || is_some (look x builtins)

-- an item's name is another one's, or built in
abbrev pub is_doubled : Known → Bytes → Bool
is_doubled k x = is_repeated x k.index.repeated || is_some (look x builtins)

-- an item, another member of the class or one that it inherits has a field's name
abbrev pub is_field_defined : Known → Home → Bytes → Bool
is_field_defined k h x = is_taken k x ||
    (is_repeated x h.own || (is_some (look x h.above.fields) || is_some (look x h.above.methods)))

-- the same of a method, which may have the name of one that it inherits
abbrev pub is_method_defined : Known → Home → Bytes → Bool
is_method_defined k h x = is_taken k x || (is_repeated x h.own || is_some (look x h.above.fields))

-- 40: a name that is visible already is defined
abbrev pub is_defined : Known → Subject → Bool
is_defined k (field h d) = is_field_defined k h d.name
is_defined k (method h n f) = is_method_defined k h f.name
is_defined k (enumeration e) = is_doubled k e.name || any_again e.values []
is_defined k (class n c) = is_doubled k c.name
is_defined k (function n f) = is_doubled k f.name
is_defined k s = false

abbrev pub lacks_parent : Known → Option Bytes → Bool
lacks_parent k None = false
lacks_parent k (Some x) = is_none (look x k.index.classes)

-- 41: a name in a type that is no class or enum, or a parent that is no class
abbrev pub is_unknown : Known → Subject → Bool
is_unknown k (type_name x) = is_none (look x k.index.types)
is_unknown k (class n c) = lacks_parent k c.parent
is_unknown k s = false

abbrev pub leads_to : List Class → ℕ → Option ℕ → Bool
leads_to cs c None = false
leads_to cs c (Some p) = inherits cs p c

-- 42: a class inherits from itself
abbrev pub is_circular : Known → Subject → Bool
is_circular k (class n c) = leads_to k.outline n (parent_of k.outline n)
is_circular k s = false

abbrev pub main_name : Bytes
main_name = codes "Main"

abbrev pub is_main_name : Bytes → Bool
is_main_name x = bytes_eq x main_name

abbrev pub is_main : ItemTree → Bool
is_main (i.ItemTree.function f) = is_main_name f.name
is_main i = false

abbrev pub has_main : List ItemTree → Bool
has_main [] = false
has_main (i ∷ is) = cond (is_main i) true (has_main is)

-- 43: no item is a function named Main
abbrev pub lacks_main : Subject → Bool
lacks_main (program is) = not (has_main is)
lacks_main s = false

abbrev pub is_int_itself : Ty → Bool
is_int_itself int = true
is_int_itself t = false

abbrev pub is_ints : Ty → Bool
is_ints (array t) = is_int_itself t
is_ints t = false

abbrev pub is_void : Ty → Bool
is_void void = true
is_void t = false

-- nothing, or the list of inputs
abbrev pub takes_inputs : List Ty → Bool
takes_inputs [] = true
takes_inputs (t ∷ []) = is_ints t
takes_inputs (t ∷ (u ∷ ts)) = false

abbrev pub is_start : Function → Bool
is_start f = takes_inputs f.params && (is_void f.result && not f.effects.decides)

abbrev pub can_start : Option Function → Bool
can_start None = false
can_start (Some f) = is_start f

-- 44: Main is no `Main()` or `Main(X:[]int)`, its result is not void, or it decides
abbrev pub misshapes_main : Known → Subject → Bool
misshapes_main k (function n f) = is_main_name f.name && not (can_start (slice_get k.functions n))
misshapes_main k s = false

abbrev pub override_word : Bytes
override_word = codes "override"

abbrev pub is_same_mark : Bool → Bool → Bool
is_same_mark true b = b
is_same_mark false b = not b

abbrev pub has_same_effects : Effects → Effects → Bool
has_same_effects e f = is_same_mark e.computes f.computes &&
    (is_same_mark e.transacts f.transacts &&
    (is_same_mark e.decides f.decides && is_same_mark e.suspends f.suspends))

-- a method has the parameter types and the effects of another one, and its result fits that one's
abbrev pub fits_over : List Class → Function → Function → Bool
fits_over cs f g = all_same (tys f.params) (tys g.params) &&
    (has_same_effects f.effects g.effects && fits cs f.result g.result)

abbrev pub can_override : List Class → Option Function → Option Function → Bool
can_override cs (Some f) (Some g) = fits_over cs f g
can_override cs None g = false
can_override cs (Some f) None = false

-- a method, by the number of its function, and what it overrides
abbrev pub can_override_ref : Known → ℕ → Ref → Bool
can_override_ref k n (ref.Fun m) =
    can_override k.outline (slice_get k.functions n) (slice_get k.functions m)
can_override_ref k n r = false

-- by whether the method is marked, and the nearest ancestor's method of its name
abbrev pub misses_override : Known → Bool → ℕ → Option Ref → Bool
misses_override k marked n None = marked
misses_override k marked n (Some r) = not (marked && can_override_ref k n r)

-- 45: an override that does not fit, a method that overrides unmarked, or the mark elsewhere
abbrev pub misfits : Known → Subject → Bool
misfits k (field h d) = has override_word d.specs || has override_word d.var_specs
misfits k (method h n f) = has override_word f.effects ||
    misses_override k (has override_word f.specs) n (look f.name h.above.methods)
misfits k (enumeration e) = has override_word e.specs
misfits k (class n c) = has override_word c.specs || has override_word c.class_specs
misfits k (function n f) = has override_word f.specs || has override_word f.effects
misfits k s = false

-- the rules at a node, the least code first
abbrev pub rules_at : Known → Subject → List (ℕ × Bool)
rules_at k s =
    (NAME_DEFINED, is_defined k s)
    ∷ (NAME_UNKNOWN, is_unknown k s)
    ∷ (CIRCULAR, is_circular k s)
    ∷ (NO_MAIN, lacks_main s)
    ∷ (MISSHAPEN_MAIN, misshapes_main k s)
    ∷ (OVERRIDE_MISFITS, misfits k s)
    ∷ []
