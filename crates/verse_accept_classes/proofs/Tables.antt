-- The tables of the code have what the definitions have.
use Rattle.std.proofs.Common.{◌≡◌, ℕ, zero, suc, ◌+◌, ◌<◌, Bool, true, false, cond, bytes_eq, List, [], ◌∷◌, ◌++◌, map, length}
use Rattle.std.proofs.Common.{Option, refl, sym, ap, ◌∙◌, arith}
use Rattle.std.proofs.lemmas.Option.{slice_get_within}
use Rattle.std.specs.Prelude.{Some, None, slice_get}
use Rattle.verse_base.proofs.Facts.{get_first, get_within, get_mapped, mapped_none}
use Rattle.verse_tree.specs.Tree.{Bytes, Written, Writtens, no_writtens, more_writtens}
use Rattle.verse_tree.specs.Tree as t
use Rattle.verse_tree.specs.ItemTree.{FieldTree, ItemTree}
use Rattle.verse_tree.specs.declared.tables.Ty.{Ty as Made}
use Rattle.verse_tree.specs.declared.tables.Ty.TheOpen as layer
use Rattle.verse_tree.specs.declared.tables.MapOf.{MapOf, MapOf-F, fold-roll-MapOf}
use Rattle.verse_tree.specs.declared.tables.Names.{Names}
use Rattle.verse_tree.specs.declared.tables.Ref.{Ref}
use Rattle.verse_tree.specs.declared.tables.Ref.TheVariants as ref
use Rattle.verse_rules_types.specs.Types.{Ty, Tys, no_tys, more_tys, tys, ty_step, two_tys, ty_of, Field, Class}
use Rattle.verse_rules_types.specs.Types.{classes_of}
use Rattle.verse_rules_types.specs.Types as ty
use Rattle.verse_rules_types.specs.Fitting.{parent_of}
use Rattle.verse_rules_walk.specs.Around.{Around}
use Rattle.verse_names_tables.specs.Names.{Table, look, place}
use Rattle.verse_names_tables.specs.Functions.{named_type, spelled, all_spelled}
use Rattle.verse_names_tables.specs.Notes.{Note}
use Rattle.verse_names_declarations.specs.Known.{Known, known}
use Rattle.verse_names_declarations.specs.Lines.{on_class, line_of, all_members}
use Rattle.verse_names_items.specs.Tables.{field_info, class_table, class_tables_from, class_tables, note_members}
use Rattle.verse_names_scopes.specs.Visible.{World}
use Rattle.verse_check_typing.specs.Spelling.{spelled_by, all_spelled_by}
use Rattle.verse_check_typing.specs.Facts.{members_from, class_members}
use Rattle.verse_check_typing.specs.Members.{fields_of, fields_in, field_by, field_named, field_place, method_by, method_named}
use Rattle.verse_rules.specs.Made.{made, all_made}
use Rattle.verse_rules.specs.Naming.{made_field, made_class, named}
use Rattle.verse_rules.proofs.Made.{one_layer}
use Rattle.verse_meaning.specs.Programs.{classes}
use Rattle.verse_meaning.specs.Programs as programs
use Rattle.verse_accept_scopes.specs.Holding.{OnWrittens}
use Rattle.verse_accept_rows.specs.Found.{final, Found}
use Rattle.verse_accept_classes.specs.Owners.{owned}
use Rattle.verse_accept_classes.specs.Referring.{IsMethod}
use Rattle.verse_accept_classes.specs.Referring as items
use Rattle.verse_accept_classes.specs.Laws.{Quiet, FunctionsFound, info_of, FieldsAgree, FieldNamesAgree, Inherits}
use Rattle.verse_accept_classes.specs.Laws.{ClassesInherit}
use Rattle.verse_accept_classes.specs.Laws.{MethodsOwned, NamesStand, WrittenAgrees}
use Rattle.verse_accept_classes.proofs.Functions.{info_at, function_at, number_of}
use Rattle.verse_accept_classes.proofs.Circles.{no_circle}
use Rattle.verse_accept_classes.proofs.Lines.{NoCircle}
use Rattle.verse_accept_classes.proofs.Parents.{parents_within}
use Rattle.verse_accept_classes.proofs.Ancestors.{line_is}
use Rattle.verse_accept_classes.proofs.Fields.{field_trees, fields_are, class_fields, fields_agree, class_at, find, look_fields}
use Rattle.verse_accept_classes.proofs.Fields.{find_field, find_named}
use Rattle.verse_accept_classes.proofs.Fields.{no_parent}
use Rattle.verse_accept_classes.proofs.Apart.{fields_differ}
use Rattle.verse_accept_classes.proofs.Methods.{method_at, method_below, owner_above}
use Rattle.verse_accept_classes.proofs.Referring.{is_method, outside_names, inside_names}

-- ---- types

mutual
  -- the type that is made of one stands for it
  pub of_made : (u : Ty) → ty_of (made u) ≡ u
  of_made ty.never = one_layer layer.Never
  of_made ty.nil = one_layer layer.Nil
  of_made ty.void = one_layer layer.Void
  of_made ty.int = one_layer layer.Int
  of_made ty.logic = one_layer layer.Logic
  of_made ty.char = one_layer layer.Char
  of_made (ty.enum e) = one_layer (layer.Enum e)
  of_made (ty.class c) = one_layer (layer.Class c)
  of_made (ty.option u) = one_layer (layer.Option (made u)) ∙ ap ty.option (of_made u)
  of_made (ty.array u) = one_layer (layer.Array (made u)) ∙ ap ty.array (of_made u)
  of_made (ty.mapping k u) =
      let m : MapOf-F Made MapOf = record { key = made k; value = made u } in
      one_layer (layer.Map (record { key = made k; value = made u }))
      ∙ ap (λ (p : Ty × Ty). ty.mapping p.0 p.1) (fold-roll-MapOf Ty (Ty × Ty) ty_step two_tys m)
      ∙ ap (λ v. ty.mapping v (ty_of (made u))) (of_made k) ∙ ap (ty.mapping k) (of_made u)
  of_made (ty.tuple us) = one_layer (layer.Tuple (all_made us)) ∙ ap ty.tuple (all_of_made us)
  of_made (ty.task u) = one_layer (layer.Task (made u)) ∙ ap ty.task (of_made u)
  of_made (ty.event u) = one_layer (layer.Event (made u)) ∙ ap ty.event (of_made u)

  all_of_made : (us : Tys) → tys (map ty_of (all_made us)) ≡ us
  all_of_made no_tys = refl
  all_of_made (more_tys u us) =
      ap (λ v. more_tys v (tys (map ty_of (all_made us)))) (of_made u) ∙ ap (more_tys u) (all_of_made us)

-- ---- classes

map_map : {A B C : Type 0} (f : A → B) (g : B → C) (xs : List A) → map g (map f xs) ≡ map (λ x. g (f x)) xs
map_map f g [] = refl
map_map f g (x ∷ xs) = ap (λ l. g (f x) ∷ l) (map_map f g xs)

no_table : (k : Known) (c n : ℕ) (os : List Class) → slice_get os n ≡ None → slice_get (class_tables_from k c os) n ≡ None
no_table k c n [] e = refl
no_table k c zero (o ∷ os) e = cc
no_table k c (suc n) (o ∷ os) e = no_table k (c + 1) n os e

table_parents : (k : Known) (c n : ℕ) (os : List Class) →
    parent_of (classes_of (map made_class (class_tables_from k c os))) n ≡ parent_of os n
table_parents k c n [] = refl
table_parents k c zero (o ∷ os) = refl
table_parents k c (suc n) (o ∷ os) = table_parents k (c + 1) n os

members_at : (k : Known) (c n : ℕ) (os : List Class) (o : Class) → slice_get os n ≡ Some o →
    slice_get (members_from k c os) n ≡ Some (all_members k (c + n))
members_at k c n [] o e = cc
members_at k c zero (x ∷ os) o e = ap (λ d. Some (all_members k d)) (omega arith)
members_at k c (suc n) (x ∷ os) o e = members_at k (c + 1) n os o e ∙ ap (λ d. Some (all_members k d)) (omega arith)

module _ (is : List ItemTree) (quiet : Quiet is) where
  abbrev k : Known
  k = known is

  straight : NoCircle k.outline
  straight = no_circle is quiet

  -- the parents of classes are those of the outline
  pub parents_are : (c : ℕ) → parent_of (classes_of (named is).classes) c ≡ parent_of k.outline c
  parents_are c = table_parents k 0 c k.outline

  fields_at : (c : ℕ) → fields_of (final is) c ≡ map (info_of is) (items.fields_of is c)
  fields_at c = by (slice_get k.outline c) refl ∙ ap (map (info_of is)) (fields_agree is straight c)
    where
      none : (o : Option Note) → slice_get k.notes c ≡ o → parent_of k.outline c ≡ None → slice_get k.outline c ≡ None →
          class_fields is c ≡ []
      none o e p q = empty (length k.outline) o e
        where
          noted : (ns : List Note) (c : ℕ) →
              slice_get (map (Rattle.verse_names_tables.specs.Indexing.outlined k.index.classes) ns) c ≡ None → slice_get ns c ≡ None
          noted [] c e = refl
          noted (n ∷ ns) zero e = cc
          noted (n ∷ ns) (suc c) e = noted ns c e

          empty : (n : ℕ) (o : Option Note) → slice_get k.notes c ≡ o →
              field_trees k.notes (Rattle.verse_names_declarations.specs.Lines.line k.outline n c) ≡ []
          empty zero o e = refl
          empty (suc n) o e =
              ap (λ d. field_trees k.notes (on_class d
              (Rattle.verse_names_declarations.specs.Lines.line k.outline n)) ++ programs.own_fields (note_members
              (slice_get k.notes c))) p
              ∙ ap (λ d. programs.own_fields (note_members d)) (noted k.notes c q)

      by : (o : Option Class) → slice_get k.outline c ≡ o → fields_of (final is) c ≡ map (info_of is) (class_fields is c)
      by None e =
          ap fields_in (mapped_none made_class (class_tables k) c (no_table k 0 c k.outline e))
          ∙ ap (map (info_of is)) (sym (none (slice_get k.notes c) refl (no_parent k.outline c e) e))
      by (Some o) e =
          ap fields_in (get_mapped made_class (class_tables k) c (class_table k c o) (class_at is c o e))
          ∙ ap (map made_field) (fields_are k.index.types k.notes (line_of k.outline c))
          ∙ map_map (field_info k.index.types) made_field (class_fields is c)

  module _ (c : ℕ) (l : c < length k.outline) where
    members_is : slice_get (class_members k) c ≡ Some (all_members k c)
    members_is =
        let o = get_within k.outline c l in
        members_at k 0 c k.outline o.0 o.1 ∙ ap (λ d. Some (all_members k d)) (omega arith)

    by_name : (x : Bytes) → field_by (final is) c x ≡ field_place (find c x 0 (class_fields is c))
    by_name x = ap (λ o. field_named o x) members_is ∙ ap field_place (look_fields c x k.notes (line_of k.outline c))

    placed : (o : Option Ref) (i : ℕ) → field_place o ≡ Some i → (r : Ref) × (o ≡ Some r) × (field_place (Some r) ≡ Some i)
    placed None i e = cc
    placed (Some r) i e = (r, refl, e)

    place_is : (i j d : ℕ) (r : Ref) → r ≡ ref.Field d j → field_place (Some r) ≡ Some i → j ≡ i
    place_is i j d r e h = let own : Some j ≡ Some i = ap (λ q. field_place (Some q)) (sym e) ∙ h in cc

    field_found : (x : Bytes) (i : ℕ) → field_by (final is) c x ≡ Some i →
        (d : FieldTree) × (slice_get (items.fields_of is c) i ≡ Some d) × (d.name ≡ x)
    field_found x i e =
        let p = placed (find c x 0 (class_fields is c)) i (sym (by_name x) ∙ e) in
        let f = find_field c x 0 (class_fields is c) p.0 p.1 in
        let at : f.place ≡ i = omega (arith, place_is i (0 + f.place) c p.0 f.is p.2) in (
          f.tree,
          ap (λ l. slice_get l i) (sym (fields_agree is straight c)) ∙ ap (slice_get (class_fields is c)) (sym at)
              ∙ f.there,
          f.named,
        )

    field_is : (i : ℕ) (d : FieldTree) → slice_get (items.fields_of is c) i ≡ Some d → field_by (final is) c d.name ≡ Some i
    field_is i d e =
        let own : slice_get (class_fields is c) i ≡ Some d = ap (λ l. slice_get l i) (fields_agree is straight c) ∙ e in
        by_name d.name
        ∙ ap field_place (find_named c 0 (class_fields is c) i d (fields_differ is quiet c l) own
        ∙ ap (λ j. Some (ref.Field c j)) (omega arith))

    place_within : (x : Bytes) (t : Table) (m : ℕ) → place x t ≡ Some m → m < length t
    place_within x [] m e = cc
    place_within x (e ∷ t) m q = by (bytes_eq x e.0) q (place_within x t)
      where
        further : (o : Option ℕ) (m : ℕ) → Rattle.verse_names_tables.specs.Names.one_further o ≡ Some m →
            (j : ℕ) × (o ≡ Some j) × (m ≡ j + 1)
        further None m e = cc
        further (Some j) m e = let same : j + 1 ≡ m = cc in (j, refl, sym same)

        by : (b : Bool) → cond b (Some 0) (Rattle.verse_names_tables.specs.Names.one_further (place x t)) ≡ Some m →
            ((j : ℕ) → place x t ≡ Some j → j < length t) → m < suc (length t)
        by true q f = let same : 0 ≡ m = cc in omega (arith, same)
        by false q f = let g = further (place x t) m q in omega (arith, f g.0 g.1, g.2)

    method_found : (x : Bytes) (m : ℕ) → method_by (final is) c x ≡ Some m → IsMethod is c m
    method_found x m e =
        is_method is quiet c m (place_within x (all_members k c).methods m (ap (λ o. method_named o x) (sym members_is) ∙ e))

  parent_within : (c p : ℕ) → parent_of k.outline c ≡ Some p → c < length k.outline
  parent_within c p e = by (slice_get k.outline c) refl
    where
      by : (o : Option Class) → slice_get k.outline c ≡ o → c < length k.outline
      by None q = let no : None ≡ Some p = sym (no_parent k.outline c q) ∙ e in cc
      by (Some o) q = slice_get_within k.outline c o q

  inherits : (c p : ℕ) → parent_of k.outline c ≡ Some p → Inherits is c p
  inherits c p e =
      let l = parent_within c p e in
      let line = line_is k.outline straight (parents_within is) c l ∙ ap (λ o. c ∷ on_class o (line_of k.outline)) e in
      record {
        fields = λ i d h.
            ap (λ fs. slice_get fs i) (sym (fields_agree is straight c)) ∙ ap (λ ds. slice_get (field_trees k.notes ds) i) line
            ∙ get_first (class_fields is p) (programs.own_fields (note_members (slice_get k.notes c))) i d
            (ap (λ fs. slice_get fs i) (fields_agree is straight p) ∙ h);
        methods = λ m g h. method_below is quiet c p m g l e h;
      }

-- ---- written types

mutual
  written_agrees : WrittenAgrees
  written_agrees is w e a b xs t.Written.int h = refl
  written_agrees is w e a b xs t.Written.logic h = refl
  written_agrees is w e a b xs t.Written.char h = refl
  written_agrees is w e a b xs t.Written.string h = refl
  written_agrees is w e a b xs t.Written.void h = refl
  written_agrees is w e a b xs (t.Written.named n p x) h = ap named_type (h.named ∙ ap (look x) e)
  written_agrees is w e a b xs (t.Written.option v) h = ap ty.option (written_agrees is w e a b xs v h)
  written_agrees is w e a b xs (t.Written.array v) h = ap ty.array (written_agrees is w e a b xs v h)
  written_agrees is w e a b xs (t.Written.task v) h = ap ty.task (written_agrees is w e a b xs v h)
  written_agrees is w e a b xs (t.Written.map u v) h =
      ap (λ z. ty.mapping z (spelled_by (named is).refs v)) (written_agrees is w e a b xs u h.0)
      ∙ ap (ty.mapping (spelled (known is).index.types u)) (written_agrees is w e a b xs v h.1)
  written_agrees is w e a b xs (t.Written.tuple vs) h = ap ty.tuple (writtens_agree is w e a b xs vs h)
  written_agrees is w e a b xs (t.Written.event v) h = ap ty.event (written_agrees is w e a b xs v h)
  written_agrees is w e a b xs t.Written.bare_event h = refl

  writtens_agree : (is : List ItemTree) (w : World) → w.types ≡ (known is).index.types →
      (a : Around) (b : Bool) (xs : Table) (vs : Writtens) →
      OnWrittens (Found is) w a b xs vs → all_spelled_by (named is).refs vs ≡ all_spelled (known is).index.types vs
  writtens_agree is w e a b xs no_writtens h = refl
  writtens_agree is w e a b xs (more_writtens v vs) h =
      ap (λ z. more_tys z (all_spelled_by (named is).refs vs)) (written_agrees is w e a b xs v h.0)
      ∙ ap (more_tys (spelled (known is).index.types v)) (writtens_agree is w e a b xs vs h.1)

-- ---- the laws

pub functions_found : FunctionsFound
functions_found is h = record { info = info_at is; found = function_at is h; owner = number_of is h }

pub fields_agree_all : FieldsAgree
fields_agree_all is quiet c = fields_at is quiet c

pub field_names_agree : FieldNamesAgree
field_names_agree is quiet c l = record {
  place = field_found is quiet c l;
  named = field_is is quiet c l;
  method = method_found is quiet c l;
}

pub classes_inherit : ClassesInherit
classes_inherit is quiet c p e = inherits is quiet c p e

pub methods_owned : MethodsOwned
methods_owned is quiet c m g e =
    let a = (method_at is quiet c m g e).method in
    let number : g ≡ a.number = (let same : Rattle.verse_tree.specs.declared.tables.Ref.TheVariants.Fun g ≡
    ref.Fun a.number = a.is in cc) in
    record {
      class = a.class;
      tree = a.tree;
      there = ap (slice_get (owned (known is).items)) number ∙ a.there;
      above = owner_above (known is).outline (owned (known is).items) c (ref.Fun g) a;
    }

pub names_stand : NamesStand
names_stand is quiet = (outside_names is quiet, inside_names is quiet)

pub all_written_agrees : WrittenAgrees
all_written_agrees = written_agrees
