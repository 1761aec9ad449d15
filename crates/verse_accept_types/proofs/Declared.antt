-- The tables of functions and fields, where what is written is narrow; and where no rule is broken.
use Rattle.std.proofs.Common.{◌≡◌, ℕ, zero, suc, ◌<◌, ◌≤◌, List, [], ◌∷◌, ◌++◌, map, Option, Some, None, refl, sym, ap, ◌∙◌}
use Rattle.std.proofs.Common.{subst}
use Rattle.std.specs.Prelude.{slice_get}
use Rattle.std.proofs.lemmas.Option.{same_Some, none-some}
use Rattle.verse_tree.specs.Tree.{Bytes, Written, Writtens, no_writtens, more_writtens}
use Rattle.verse_tree.specs.Tree as s
use Rattle.verse_tree.specs.ItemTree.{FieldTree, FunTree, MemberTree, field, method, ItemTree, using, enumeration, class}
use Rattle.verse_tree.specs.ItemTree.{function}
use Rattle.verse_tree.specs.Shapes.{ItemsShaped}
use Rattle.verse_tree.specs.declared.tables.FunInfo.{FunInfo}
use Rattle.verse_tree.specs.declared.tables.ClassInfo.{ClassInfo}
use Rattle.verse_tree.specs.declared.tables.Names.{Names}
use Rattle.verse_tree.specs.declared.tables.Ref.{Ref}
use Rattle.verse_tree.specs.declared.tables.Ref.TheVariants as ref
use Rattle.verse_rules_types.specs.Types.{Ty, Tys, ty_of}
use Rattle.verse_rules_walk.specs.Order.{AreNumbered}
use Rattle.verse_names_tables.specs.Names.{Table}
use Rattle.verse_names_tables.specs.Functions.{spelled, all_spelled}
use Rattle.verse_names_tables.specs.Counting.{Counted}
use Rattle.verse_names_tables.specs.declared.counting.Counts.{Counts}
use Rattle.verse_names_declarations.specs.Known.{Known, known}
use Rattle.verse_names_scopes.specs.Visible.{World, inside}
use Rattle.verse_names_scopes.specs.Visible as visible
use Rattle.verse_check_typing.specs.Refs.{fun_numbered, method_in, function_of}
use Rattle.verse_check_typing.specs.Facts.{world_of}
use Rattle.verse_check_typing.specs.Members.{fields_in, type_in}
use Rattle.verse_rules.specs.Made.{made}
use Rattle.verse_rules.specs.Naming.{named}
use Rattle.verse_accept_scopes.specs.Lists.{Each}
use Rattle.verse_accept_scopes.specs.Sites.{Site, item_site, member_site, program_sites}
use Rattle.verse_accept_scopes.specs.Holding.{OnMembers, OnItem, OnItems}
use Rattle.verse_accept_scopes.proofs.Whole.{holds_on_items}
use Rattle.verse_accept_classes.specs.Owners.{Owned, methods_owned, item_owned, owned}
use Rattle.verse_accept_classes.specs.Laws.{Quiet, info_of}
use Rattle.verse_accept_classes.specs.Referring as items
use Rattle.verse_accept_classes.proofs.Functions.{owner_of}
use Rattle.verse_accept_classes.proofs.Parents.{parents_within}
use Rattle.verse_accept_classes.proofs.Bodies.{at_fields}
use Rattle.verse_accept_classes.proofs.Tables.{of_made, parents_are, fields_agree_all}
use Rattle.verse_accept_nodes.proofs.Fine.{Narrow, AllNarrow, WhatNarrow}
use Rattle.verse_accept_nodes.proofs.Fine as fine
use Rattle.verse_accept_types.specs.Told.{how_many}
use Rattle.verse_accept_types.proofs.Bounds.{IsNamed, AreNamed}
use Rattle.verse_accept_types.proofs.Rows.{WorldNamed}
use Rattle.verse_accept_types.proofs.Refs.{classes_count, enums_count, outline_count, type_known, refs_known}

-- ---- at the own node of each function and method

pub get_both : {A : Type 0} (P : A → Type 0) (xs ys : List A) → ((i : ℕ) (x : A) → slice_get xs i ≡ Some x → P x) →
    ((i : ℕ) (x : A) → slice_get ys i ≡ Some x → P x) → (i : ℕ) (x : A) → slice_get (xs ++ ys) i ≡ Some x → P x
get_both P [] ys f g i x e = g i x e
get_both P (z ∷ xs) ys f g zero x e = f zero x e
get_both P (z ∷ xs) ys f g (suc i) x e = get_both P xs ys (λ j. f (suc j)) g i x e

module _ (P : Site → Type 0) (k : Known) (Q : FunTree → Type 0) (of_item : (f : FunTree) → P (item_site k [] (function f)) → Q f)
    (of_member : (w : World) (f : FunTree) → P (member_site w [] (method f)) → Q f) where
  abbrev QOwned : Owned → Type 0
  QOwned o = Q o.tree

  at_methods : (w v : World) (c : ℕ) (ms : List MemberTree) → OnMembers P w v [] ms → (i : ℕ) (o : Owned) →
      slice_get (methods_owned c ms) i ≡ Some o → Q o.tree
  at_methods w v c [] h i o e = elim (none-some o e) [ ]
  at_methods w v c (field d ∷ ms) h i o e = at_methods w v c ms h.1 i o e
  at_methods w v c (method f ∷ ms) h zero o e = subst QOwned (same_Some _ o e) (of_member w f h.0.1)
  at_methods w v c (method f ∷ ms) h (suc i) o e = at_methods w v c ms h.1 i o e

  at_item : (x : ItemTree) (c : Counts) → OnItem P k [] x c → (i : ℕ) (o : Owned) → slice_get (item_owned x c) i ≡ Some o → Q o.tree
  at_item (using u) c h i o e = elim (none-some o e) [ ]
  at_item (enumeration d) c h i o e = elim (none-some o e) [ ]
  at_item (class d) c h i o e = at_methods (visible.outside k) (inside k c.classes) c.classes d.members h.0 i o e
  at_item (function f) c h zero o e = subst QOwned (same_Some _ o e) (of_item f h.1)
  at_item (function f) c h (suc i) o e = elim (none-some o e) [ ]

  pub at_owned : (is : List Counted) → OnItems P k [] is → (i : ℕ) (o : Owned) → slice_get (owned is) i ≡ Some o → Q o.tree
  at_owned [] h i o e = elim (none-some o e) [ ]
  at_owned (i ∷ is) h j o e =
      get_both QOwned (item_owned i.item i.before) (owned is) (at_item i.item i.before h.0) (at_owned is h.1) j o e

-- what is found is a function's or a method's
fun_there : (k : Names) (f : Option ℕ) (g : FunInfo) → fun_numbered k f ≡ Some g → (i : ℕ) × (slice_get k.funs i ≡ Some g)
fun_there k None g e = elim (none-some g e) [ ]
fun_there k (Some i) g e = (i, e)

method_there : (k : Names) (m : ℕ) (c : Option ClassInfo) (g : FunInfo) → method_in k m c ≡ Some g →
    (i : ℕ) × (slice_get k.funs i ≡ Some g)
method_there k m None g e = elim (none-some g e) [ ]
method_there k m (Some c) g e = fun_there k (slice_get c.methods m) g e

function_there : (k : Names) (r : Ref) (g : FunInfo) → function_of k r ≡ Some g → (i : ℕ) × (slice_get k.funs i ≡ Some g)
function_there k (ref.Fun f) g e = (f, e)
function_there k (ref.Method c m) g e = method_there k m (slice_get k.classes c) g e
function_there k (ref.Local n) g e = elim (none-some g e) [ ]
function_there k (ref.Key n) g e = elim (none-some g e) [ ]
function_there k (ref.Field c i) g e = elim (none-some g e) [ ]
function_there k (ref.Class c) g e = elim (none-some g e) [ ]
function_there k (ref.Enum n) g e = elim (none-some g e) [ ]
function_there k (ref.Builtin i) g e = elim (none-some g e) [ ]

module _ (is : List ItemTree) where
  abbrev types : Table
  types = (known is).index.types

  abbrev Named : Ty → Type 0
  Named = IsNamed (classes_count is) (enums_count is)

  abbrev NamedAll : Tys → Type 0
  NamedAll = AreNamed (classes_count is) (enums_count is)

  -- ---- written types, by the names of classes and enums

  as_many : (ws : Writtens) → how_many (all_spelled types ws) ≡ fine.how_many ws
  as_many no_writtens = refl
  as_many (more_writtens w ws) = ap suc (as_many ws)

  mutual
    spelled_named : (w : Written) → Narrow w → Named (spelled types w)
    spelled_named (s.Written.named n p x) h = type_known is x
    spelled_named (s.Written.option w) h = spelled_named w h
    spelled_named (s.Written.array w) h = spelled_named w h
    spelled_named (s.Written.task w) h = spelled_named w h
    spelled_named (s.Written.map k w) h = (spelled_named k h.0, spelled_named w h.1)
    spelled_named (s.Written.tuple ws) h = (subst (λ n. n ≤ 4294967295) (sym (as_many ws)) h.0, all_spelled_named ws h.1)
    spelled_named (s.Written.event w) h = spelled_named w h
    spelled_named w h = tt

    all_spelled_named : (ws : Writtens) → AllNarrow ws → NamedAll (all_spelled types ws)
    all_spelled_named no_writtens h = tt
    all_spelled_named (more_writtens w ws) h = (spelled_named w h.0, all_spelled_named ws h.1)

  made_named : (w : Written) → Narrow w → Named (ty_of (made (spelled types w)))
  made_named w h = subst Named (sym (of_made (spelled types w))) (spelled_named w h)

  abbrev pub NarrowSite : Site → Type 0
  NarrowSite v = WhatNarrow v.number v.what

  module _ (quiet : Quiet is) (shaped : ItemsShaped is) (numbered : AreNumbered is) (narrow : Each NarrowSite (program_sites is)) where
    on_items : OnItems NarrowSite (known is) [] (known is).items
    on_items = holds_on_items NarrowSite is shaped numbered narrow

    narrow_result : (g : ℕ) (o : Owned) → slice_get (owned (known is).items) g ≡ Some o → Narrow o.tree.written
    narrow_result g o e =
        at_owned NarrowSite (known is) (λ f. Narrow f.written) (λ f h. h) (λ w f h. h) (known is).items on_items g o e

    result_named : (g : FunInfo) (r : Ref) → function_of (named is) r ≡ Some g → Named (ty_of g.result)
    result_named g r e =
        let f = function_there (named is) r g e in
        let o = owner_of is f.0 g f.1 in
        subst (λ (i : FunInfo). Named (ty_of i.result)) o.2 (made_named o.0.tree.written (narrow_result f.0 o.0 o.1))

    each_field : (ds : List FieldTree) → ((i : ℕ) (d : FieldTree) → slice_get ds i ≡ Some d → Narrow d.written) → (i : ℕ) →
        Named (type_in (slice_get (map (info_of is) ds) i))
    each_field [] f i = tt
    each_field (d ∷ ds) f zero = made_named d.written (f 0 d refl)
    each_field (d ∷ ds) f (suc i) = each_field ds (λ j. f (suc j)) i

    fields_named : (c i : ℕ) → Named (type_in (slice_get (fields_in (slice_get (named is).classes c)) i))
    fields_named c i =
        subst (λ fs. Named (type_in (slice_get fs i))) (sym (fields_agree_all is quiet c))
        (each_field (items.fields_of is c) (λ j d e. at_fields NarrowSite is quiet on_items c j d e) i)

    pub world_named : WorldNamed (classes_count is) (enums_count is) (world_of (named is) is)
    world_named = record {
      refs = refs_known is quiet shaped numbered;
      fields = fields_named;
      results = result_named;
      parents = λ c p e.
          subst (λ n. p < n) (outline_count is) (parents_within is c p (sym (parents_are is quiet c) ∙ e));
    }
