-- A type of the code is the one that is made of what it stands for.
use Rattle.std.proofs.Common.{◌≡◌, List, [], ◌∷◌, map, refl, ap, sym, ◌∙◌, subst, Option}
use Rattle.verse_tree.specs.declared.tables.Ty.{Ty as Made, Ty-F, roll-Ty, map-Ty, fold-roll-Ty, ind-Ty}
use Rattle.verse_tree.specs.declared.tables.Ty.TheOpen as layer
use Rattle.verse_tree.specs.declared.tables.MapOf.{MapOf, MapOf-F, roll-MapOf, map-MapOf, fold-roll-MapOf}
use Rattle.verse_tree.specs.ItemTree.{ItemTree}
use Rattle.verse_tree.specs.declared.tables.Names.{Names}
use Rattle.verse_tree.specs.declared.tables.FunInfo.{FunInfo}
use Rattle.verse_tree.specs.declared.tables.FieldInfo.{FieldInfo}
use Rattle.verse_tree.specs.declared.tables.ClassInfo.{ClassInfo}
use Rattle.verse_tree.specs.declared.tables.EnumInfo.{EnumInfo}
use Rattle.verse_tree.specs.declared.tables.Ref.{Ref}
use Rattle.verse_rules_types.specs.Types.{Ty, tys, ty_step, two_tys, ty_of, map_of, field_of}
use Rattle.verse_rules_types.specs.Types.{class_of}
use Rattle.verse_names_tables.specs.Functions.{function_of}
use Rattle.verse_names_items.specs.Tables.{Tables, tables, tables_of}
use Rattle.verse_names_items.specs.declared.tables.Tables.{Tables as MadeTables}
use Rattle.verse_names_scopes.specs.Visits.{ref_of, program_visits}
use Rattle.verse_rules.specs.Made.{made, all_made}
use Rattle.verse_rules.specs.Naming.{made_function, made_field, made_class, named}

abbrev Comes : Made → Type 0
Comes d = made (ty_of d) ≡ d

abbrev made_map : Ty × Ty → MapOf
made_map p = record { key = made p.0; value = made p.1 }

abbrev made_pair : Made → Made → MapOf
made_pair k t = record { key = k; value = t }

abbrev MapComes : MapOf → Type 0
MapComes m = made_map (map_of m) ≡ m

pub one_layer : (x : Ty-F Made MapOf) → ty_of (roll-Ty x) ≡ ty_step (map-Ty Made MapOf Ty (Ty × Ty) ty_of map_of x)
one_layer x = fold-roll-Ty Ty (Ty × Ty) ty_step two_tys x

all_come : (ds : List ((d : Made) × Comes d)) → all_made (tys (map ty_of (map (λ e. e.0) ds))) ≡ map (λ e. e.0) ds
all_come [] = refl
all_come (d ∷ ds) = ap (λ t. t ∷ all_made (tys (map ty_of (map (λ e. e.0) ds)))) d.1 ∙ ap (λ ts. d.0 ∷ ts) (all_come ds)

comes : (y : Ty-F ((d : Made) × Comes d) ((m : MapOf) × MapComes m)) →
    Comes (roll-Ty (map-Ty ((d : Made) × Comes d) ((m : MapOf) × MapComes m) Made MapOf (λ e. e.0) (λ e. e.0) y))
comes layer.Never = ap made (one_layer layer.Never)
comes layer.Nil = ap made (one_layer layer.Nil)
comes layer.Void = ap made (one_layer layer.Void)
comes layer.Int = ap made (one_layer layer.Int)
comes layer.Logic = ap made (one_layer layer.Logic)
comes layer.Char = ap made (one_layer layer.Char)
comes (layer.Enum e) = ap made (one_layer (layer.Enum e))
comes (layer.Class c) = ap made (one_layer (layer.Class c))
comes (layer.Option d) = ap made (one_layer (layer.Option d.0)) ∙ ap (λ t. roll-Ty (layer.Option t)) d.1
comes (layer.Array d) = ap made (one_layer (layer.Array d.0)) ∙ ap (λ t. roll-Ty (layer.Array t)) d.1
comes (layer.Map m) = ap made (one_layer (layer.Map m.0)) ∙ ap (λ t. roll-Ty (layer.Map t)) m.1
comes (layer.Tuple ds) = ap made (one_layer (layer.Tuple (map (λ e. e.0) ds))) ∙ ap (λ ts. roll-Ty (layer.Tuple ts)) (all_come ds)
comes (layer.Task d) = ap made (one_layer (layer.Task d.0)) ∙ ap (λ t. roll-Ty (layer.Task t)) d.1
comes (layer.Event d) = ap made (one_layer (layer.Event d.0)) ∙ ap (λ t. roll-Ty (layer.Event t)) d.1

map_comes : (y : MapOf-F ((d : Made) × Comes d) ((m : MapOf) × MapComes m)) →
    MapComes (roll-MapOf (map-MapOf ((d : Made) × Comes d) ((m : MapOf) × MapComes m) Made MapOf (λ e. e.0) (λ e. e.0) y))
map_comes y =
    ap made_map (fold-roll-MapOf Ty (Ty × Ty) ty_step two_tys
    (map-MapOf ((d : Made) × Comes d) ((m : MapOf) × MapComes m) Made MapOf (λ e. e.0) (λ e. e.0) y))
    ∙ ap (λ t. made_pair t (made (ty_of y.value.0))) y.key.1 ∙ ap (λ t. made_pair y.key.0 t) y.value.1

pub made_of : (d : Made) → made (ty_of d) ≡ d
made_of = ind-Ty Comes MapComes (λ x y e. subst (λ z. Comes (roll-Ty z)) e (comes y))
    (λ x y e. subst (λ z. MapComes (roll-MapOf z)) e (map_comes y))

-- so tables that stand for the same are the same
all_made_of : (ds : List Made) → map made (map ty_of ds) ≡ ds
all_made_of [] = refl
all_made_of (d ∷ ds) = ap (λ t. t ∷ map made (map ty_of ds)) (made_of d) ∙ ap (λ ts. d ∷ ts) (all_made_of ds)

function_made : (f : FunInfo) → made_function (function_of f) ≡ f
function_made f =
    ap (λ (ts : List Made). record { params = ts; result = made (ty_of f.result); effects = f.effects; item = f.item })
    (all_made_of f.params)
    ∙ ap (λ (t : Made). record { params = f.params; result = t; effects = f.effects; item = f.item }) (made_of f.result)

functions_made : (fs : List FunInfo) → map made_function (map function_of fs) ≡ fs
functions_made [] = refl
functions_made (f ∷ fs) = ap (λ g. g ∷ map made_function (map function_of fs)) (function_made f) ∙ ap (λ gs. f ∷ gs) (functions_made fs)

field_made : (f : FieldInfo) → made_field (field_of f) ≡ f
field_made f = ap (λ (t : Made). record { ty = t; is_var = f.is_var; default = f.default }) (made_of f.ty)

fields_made : (fs : List FieldInfo) → map made_field (map field_of fs) ≡ fs
fields_made [] = refl
fields_made (f ∷ fs) = ap (λ g. g ∷ map made_field (map field_of fs)) (field_made f) ∙ ap (λ gs. f ∷ gs) (fields_made fs)

class_made : (c : ClassInfo) → made_class (class_of c) ≡ c
class_made c = ap (λ (fs : List FieldInfo). record { parent = c.parent; is_unique = c.is_unique; fields = fs; methods = c.methods })
    (fields_made c.fields)

classes_made : (cs : List ClassInfo) → map made_class (map class_of cs) ≡ cs
classes_made [] = refl
classes_made (c ∷ cs) = ap (λ d. d ∷ map made_class (map class_of cs)) (class_made c) ∙ ap (λ ds. c ∷ ds) (classes_made cs)

abbrev names_of : MadeTables → List (Option Ref) → Names
names_of t refs = record { funs = t.functions; classes = t.classes; enums = t.enums; refs = refs }

-- tables that stand for those of a program, with what its nodes refer to, are what its names stand for
pub names_made : (is : List ItemTree) (t : MadeTables) (refs : List (Option Ref)) → tables_of t ≡ tables is →
    refs ≡ map ref_of (program_visits is) → names_of t refs ≡ named is
names_made is t refs e f =
    let functions : t.functions ≡ map made_function (tables is).functions =
    sym (functions_made t.functions) ∙ ap (λ (ts : Tables). map made_function ts.functions) e in
    let classes : t.classes ≡ map made_class (tables is).classes =
    sym (classes_made t.classes) ∙ ap (λ (ts : Tables). map made_class ts.classes) e in
    let enums : t.enums ≡ (tables is).enums = ap (λ (ts : Tables). ts.enums) e in
    ap (λ (fs : List FunInfo). record { funs = fs; classes = t.classes; enums = t.enums; refs = refs }) functions
    ∙ ap (λ (cs : List ClassInfo). record { funs = map made_function (tables is).functions; classes = cs; enums = t.enums; refs = refs })
    classes
    ∙ ap (λ (es : List EnumInfo). record {
      funs = map made_function (tables is).functions;
      classes =
          map made_class (tables is).classes;
      enums = es;
      refs = refs;
    }) enums
    ∙ ap (λ (rs : List (Option Ref)). record {
      funs = map made_function (tables is).functions;
      classes =
          map made_class (tables is).classes;
      enums = (tables is).enums;
      refs = rs;
    }) f
