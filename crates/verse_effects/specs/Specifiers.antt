-- Which specifiers fit where they stand.
use Rattle.std.specs.Prelude.{Bool, true, cond, not, ◌&&◌, ◌||◌, List, [], ◌∷◌, codes}
use Rattle.std.specs.Str.{bytes_eq}
use Rattle.verse_tree.specs.Tree.{Bytes}
use Rattle.verse_tree.specs.ItemTree.{SpecTree, FieldTree, FunTree, MemberTree, field, method}
use Rattle.verse_tree.specs.ItemTree.{ItemTree, using, enumeration, class}
use Rattle.verse_tree.specs.ItemTree.{function}
use Rattle.verse_tree.specs.declared.tables.Effects.{Effects}
use Rattle.verse_rules_walk.specs.Specifiers.{writes, written_effects}
use Rattle.verse_effects.specs.declared.specifiers.Spot.{Spot}
use Rattle.verse_effects.specs.declared.specifiers.Spot.TheVariants as s

-- a specifier of a name
abbrev pub is_access : Bytes → Bool
is_access x = bytes_eq x (codes "public") || bytes_eq x (codes "private") ||
    bytes_eq x (codes "protected") || bytes_eq x (codes "internal")

abbrev pub is_override : Bytes → Bool
is_override x = bytes_eq x (codes "override")

abbrev pub is_unique : Bytes → Bool
is_unique x = bytes_eq x (codes "unique")

abbrev pub is_effect : Bytes → Bool
is_effect x = bytes_eq x (codes "computes") || bytes_eq x (codes "transacts") ||
    bytes_eq x (codes "decides") || bytes_eq x (codes "suspends")

-- a specifier may stand here
abbrev pub belongs : Spot → Bytes → Bool
belongs s.Name x = is_access x
belongs s.Method x = is_access x || is_override x
belongs s.Class x = is_unique x
belongs s.Effect x = is_effect x

abbrev pub all_belong : Spot → List SpecTree → Bool
all_belong at [] = true
all_belong at (x ∷ xs) = belongs at x.name && all_belong at xs

-- a specifier does not stand twice
abbrev pub at_most_once : Bytes → List SpecTree → Bool
at_most_once x [] = true
at_most_once x (y ∷ ys) = cond (bytes_eq y.name x) (not (writes x ys)) (at_most_once x ys)

abbrev pub names_once : List SpecTree → Bool
names_once ss = at_most_once (codes "public") ss && at_most_once (codes "private") ss &&
    at_most_once (codes "protected") ss && at_most_once (codes "internal") ss &&
    at_most_once (codes "override") ss

abbrev pub effects_once : List SpecTree → Bool
effects_once ss = at_most_once (codes "computes") ss && at_most_once (codes "transacts") ss &&
    at_most_once (codes "decides") ss && at_most_once (codes "suspends") ss

-- none of those that may stand here stands twice
abbrev pub all_once : Spot → List SpecTree → Bool
all_once s.Name ss = names_once ss
all_once s.Method ss = names_once ss
all_once s.Class ss = at_most_once (codes "unique") ss
all_once s.Effect ss = effects_once ss

abbrev pub do_fit : Spot → List SpecTree → Bool
do_fit at ss = all_belong at ss && all_once at ss

-- `computes` and `transacts` exclude one another, as do `decides` and `suspends`; `decides` stands
-- with one of the first two
abbrev pub do_combine : Effects → Bool
do_combine e = not (e.computes && e.transacts) && not (e.decides && e.suspends) &&
    (not e.decides || e.computes || e.transacts)

abbrev pub fun_fits : Spot → FunTree → Bool
fun_fits at f = do_fit at f.specs && do_fit s.Effect f.effects &&
    do_combine (written_effects f.effects)

abbrev pub field_fits : FieldTree → Bool
field_fits f = do_fit s.Name f.var_specs && do_fit s.Name f.specs

abbrev pub item_fits : ItemTree → Bool
item_fits (using u) = true
item_fits (enumeration e) = do_fit s.Name e.specs
item_fits (class c) = do_fit s.Name c.specs && do_fit s.Class c.class_specs
item_fits (function f) = fun_fits s.Name f

abbrev pub member_fits : MemberTree → Bool
member_fits (field f) = field_fits f
member_fits (method f) = fun_fits s.Method f
