-- Calls of functions by their names: what their forms need.
use Rattle.std.proofs.Common.{◌≡◌, ℕ, zero, suc, ◌+◌, Bool, true, false, not, ◌&&◌, ◌||◌, nat_eq, Option, List, [], ◌∷◌, map, length}
use Rattle.std.proofs.Common.{refl, sym, subst, ap, ◌∙◌, arith}
use Rattle.std.proofs.lemmas.Bool.Decides.{nat_tests}
use Rattle.std.specs.Prelude.{Some, None, slice_get}
use Rattle.std.proofs.lemmas.Bool.{not-true, not-false}
use Rattle.verse_base.specs.declared.places.Place.{Place}
use Rattle.verse_base.proofs.Facts.{not_first, not_second, get_mapped}
use Rattle.verse_tree.specs.Tree.{Bytes, Tree, tree, Shape, Trees, no_trees, more_trees}
use Rattle.verse_tree.specs.Tree as t
use Rattle.verse_tree.specs.ItemTree.{ItemTree}
use Rattle.verse_tree.specs.declared.tables.Ref.TheVariants as ref
use Rattle.verse_tree.specs.declared.tables.Effects.{Effects}
use Rattle.verse_tree.specs.declared.tables.FunInfo.{FunInfo}
use Rattle.verse_tree.specs.declared.tables.Ty.{Ty as Made}
use Rattle.verse_rules_types.specs.Types.{Class, ty_of}
use Rattle.verse_rules_types.specs.Types as ty
use Rattle.verse_rules_types.specs.Fitting.{fits, parent_of}
use Rattle.verse_rules_walk.specs.Around.{Around}
use Rattle.verse_rules_walk.specs.Nodes.{number_of_tree}
use Rattle.verse_names_tables.specs.Names.{Table, meanings}
use Rattle.verse_names_tables.specs.Functions.{fun_function}
use Rattle.verse_names_tables.specs.Notes.{Note}
use Rattle.verse_names_tables.specs.Indexing.{outlined}
use Rattle.verse_names_declarations.specs.Known.{known}
use Rattle.verse_names_declarations.specs.Lines.{Members, line, on_class, with_note, with_notes, no_members}
use Rattle.verse_names_items.specs.Tables.{fun_numbers, methods_of, class_table, class_tables}
use Rattle.verse_names_scopes.specs.Visible.{World}
use Rattle.verse_check_typing.specs.Refs as refs
use Rattle.verse_check_typing.specs.Facts.{Facts, type_of}
use Rattle.verse_check_typing.specs.Parts.{count}
use Rattle.verse_check_typing.specs.Callees as types
use Rattle.verse_check_typing.specs.Calls.{are_wanted, call_wanted, call_type}
use Rattle.verse_check_typing.specs.Steps.{fits_param, params_at, params_of, serves}
use Rattle.verse_effects.specs.Callees as effects
use Rattle.verse_effects.specs.Callees.{is_lasting, call_fails, call_lasts, call_suspends, call_touches}
use Rattle.verse_effects.specs.Forms.{cannot_undo, is_async, touches, is_spawned}
use Rattle.verse_effects.specs.declared.callees.Callee.{Callee}
use Rattle.verse_effects.specs.declared.callees.Callee.TheVariants as c
use Rattle.verse_rules.specs.Naming.{made_function, made_class}
use Rattle.verse_rules.specs.Sound.{completed}
use Rattle.verse_meaning.specs.Programs as programs
use Rattle.verse_meaning.specs.Residuals as form
use Rattle.verse_sorts.specs.Sorts.{Fits}
use Rattle.verse_sorts.specs.Sorts as sorts
use Rattle.verse_sorts.proofs.Fitting.{fits_itself}
use Rattle.verse_sorts.specs.Typing.{AllFit, fit_no, fit_so}
use Rattle.verse_sorts_types.specs.SortOf.{sort_of}
use Rattle.verse_sorts_types.proofs.Fitting as fitting
use Rattle.verse_sound_rules.specs.Found.{Signature, Allowed}
use Rattle.verse_sound_rules.specs.Forms.{Gives, Callable}
use Rattle.verse_sound_rules.specs.Forms as takes
use Rattle.verse_sound_rules.specs.Fine.{sorts_at}
use Rattle.verse_accept_scopes.specs.Holding.{OnArguments}
use Rattle.verse_accept_rows.specs.Found.{final, Found}
use Rattle.verse_accept_classes.specs.Owners.{Owned, owned}
use Rattle.verse_accept_classes.specs.Referring.{IsFunction, IsMethod}
use Rattle.verse_accept_classes.specs.Laws.{Quiet, FunctionsStand, MethodsOwned}
use Rattle.verse_accept_classes.proofs.Fields.{no_parent, class_at}
use Rattle.verse_accept_fine.specs.Sorted.{At, ty_at, all_classes, up, made_sort, lasts, class_in, signature_of, sorted, program, Allows}
use Rattle.verse_accept_fine.proofs.Rules.{EffectsKept, or_left, or_right}
use Rattle.verse_accept_fine.proofs.Base.{its_row, is_row}
use Rattle.verse_accept_fine.proofs.Base as base
use Rattle.verse_accept_fine.proofs.Control.{async_waits}

free : (e : Effects) → is_lasting e ≡ true → e.computes ≡ false
free e k = or_left e.computes e.transacts (not-true (e.computes || e.transacts) k)

or_true : (q : Bool) → (q || true) ≡ true
or_true true = refl
or_true false = refl

pub and_true : (q : Bool) → (q && true) ≡ q
and_true true = refl
and_true false = refl

lasts_so : (e : Effects) → e.computes ≡ false → e.transacts ≡ false → lasts e ≡ true
lasts_so e c t = ap (λ q. e.suspends || not (q || e.transacts)) c ∙ ap (λ q. e.suspends || not q) t ∙ or_true e.suspends

pub only : (A : Type 0) (x y : A) → Some x ≡ Some y → x ≡ y
only A x y e = cc

-- ---- a class that has a method is there

none_noted : (ts : Table) (ns : List Note) (d : ℕ) → slice_get (map (outlined ts) ns) d ≡ None → slice_get ns d ≡ None
none_noted ts [] d e = refl
none_noted ts (n ∷ ns) zero e = cc
none_noted ts (n ∷ ns) (suc d) e = none_noted ts ns d e

module _ (is : List ItemTree) where
  no_members_of : (n d : ℕ) → parent_of (known is).outline d ≡ None → slice_get (known is).notes d ≡ None →
      with_notes (known is).notes d (line (known is).outline n d) no_members ≡ no_members
  no_members_of zero d p e = refl
  no_members_of (suc n) d p e =
      ap (λ o. with_note d (slice_get (known is).notes d) (with_notes (known is).notes d (on_class o (line
      (known is).outline n)) no_members)) p
      ∙ ap (λ o. with_note d o no_members) e

  pub class_there : (d i : ℕ) → IsMethod is d i → (o : Class) × (slice_get (known is).outline d ≡ Some o)
  class_there d i f = by (slice_get (known is).outline d) refl
    where
      by : (o : Option Class) → slice_get (known is).outline d ≡ o → (o : Class) × (slice_get (known is).outline d ≡ Some o)
      by None e =
          let none = no_members_of (length (known is).outline) d (no_parent (known is).outline d e)
          (none_noted (known is).index.classes (known is).notes d e) in
          let empty : methods_of (known is) d ≡ [] = ap (λ (m : Members). fun_numbers (meanings m.methods)) none in
          let no : None ≡ Some f.number = sym (ap (λ l. slice_get l i) empty) ∙ f.there in
          absurd (cc)
      by (Some o) e = (o, e)

  pub class_entry : (d i : ℕ) (f : IsMethod is d i) →
      slice_get (completed is).classes d ≡ Some (made_class (class_table (known is) d (class_there d i f).0))
  class_entry d i f =
      let o = class_there d i f in
      get_mapped made_class (class_tables (known is)) d (class_table (known is) d o.0) (class_at is d o.0 o.1)

module _ (is : List ItemTree) (arrays events : ℕ → Bool) where
  abbrev pub info_of : Owned → FunInfo
  info_of o = made_function (fun_function (known is).index.types o.tree)

  pub this_of : (g : ℕ) (c : Option ℕ) → class_in (slice_get (owned (known is).items) g) ≡ c → ((sorted is).signature g).this ≡ c
  this_of g c e = by (slice_get (completed is).funs g)
    where
      by : (o : Option FunInfo) → (signature_of o (class_in (slice_get (owned (known is).items) g))).this ≡ c
      by None = e
      by (Some f) = e

  abbrev pub effects_callee : Tree → Callee
  effects_callee e = effects.callee_of (completed is) e

  abbrev pub F : Facts
  F = final is

  -- ---- arguments

  -- each argument, from the place i on, fits its parameter
  abbrev pub Served : List Made → ℕ → Trees → Type 0
  Served ps i no_trees = Unit {0}
  Served ps i (more_trees e es) = (fits_param F (type_of F e) (slice_get ps i) ≡ true) × Served ps (i + 1) es

  pub served : (w : World) (n : ℕ) (a : Around) (xs : Table) (f i : ℕ) (es : Trees) → OnArguments (Found is) w n a xs f i es →
      Served (params_at F f) i es
  served w n a xs f i no_trees h = tt
  served w n a xs f i (more_trees (tree m p x) es) h = (h.0.2.serves, served w n a xs f (i + 1) es h.1)

  all_served : (ps : List Made) (i : ℕ) (es : Trees) (qs : List Made) → Served ps i es → ((j : ℕ) → slice_get ps (i + j) ≡ slice_get qs j) →
      length qs ≡ count es → AllFit (up is) (sorts_at (program is arrays events) (sorted is) es) (map made_sort qs)
  all_served ps i no_trees [] h f l = fit_no
  all_served ps i no_trees (q ∷ qs) h f l = absurd (omega (arith, l))
  all_served ps i (more_trees e es) [] h f l = absurd (omega (arith, l))
  all_served ps i (more_trees (tree m p x) es) (q ∷ qs) h f l =
      let at : slice_get ps i ≡ Some q = ap (slice_get ps) (let same : i ≡ i + 0 = omega arith in same) ∙ f 0 in
      let fit : fits (all_classes is) (type_of F (tree m p x)) (ty_of q) ≡ true = ap (fits_param F (type_of F (tree m p x)))
      (sym at) ∙ h.0 in
      fit_so (fitting.fits_sort (all_classes is) (type_of F (tree m p x)) (ty_of q) fit)
      (all_served ps (i + 1) es qs h.1
      (λ j. ap (slice_get ps) (let same : (i + 1) + j ≡ i + suc j = omega arith in same) ∙ f (suc j)) (omega (arith, l)))

  -- as many arguments as parameters, each of which fits
  pub arguments_fit : (info : FunInfo) (es : Trees) → Served info.params 0 es → are_wanted (Some (length info.params)) (count es) ≡ true →
      AllFit (up is) (sorts_at (program is arrays events) (sorted is) es) (map made_sort info.params)
  arguments_fit info es h k =
      all_served info.params 0 es info.params h (λ j. ap (slice_get info.params) (let same : 0 + j ≡ j = omega arith in same))
      (same_count (count es) (length info.params) k)
    where
      same_count : (n m : ℕ) → nat_eq n m ≡ true → m ≡ n
      same_count n m e = grind (arith, nat_tests, e)

  -- ---- what a call may do where it stands

  module _ (w : World) (a : Around) (xs : Table) (b : Allowed) (allows : Allows is w a b) (n : ℕ) (p : Place) where
    -- of a function with these effects, that is not spawned
    pub lasting_waits : (x : Shape) (e : Effects) → At is w a xs n p x → is_async (completed is) a x ≡ e.suspends →
        cannot_undo (completed is) x ≡ (is_lasting e && not e.suspends) → touches (completed is) F.vars a n x ≡ not e.computes →
        lasts e ≡ true → b.waits ≡ true
    lasting_waits x e h async undo touch l = by e.suspends refl (is_lasting e) refl
      where
        kept : EffectsKept (completed is) F.vars a n x
        kept = base.effects is w a xs n p x h

        -- what cannot be undone stands in what cannot be undone either
        outer : is_lasting e ≡ true → e.suspends ≡ false → b.waits ≡ true
        outer k s =
            let undoable : cannot_undo (completed is) x ≡ true = undo ∙ ap (λ q. q && not e.suspends) k ∙ ap not s in
            let off = not_second (cannot_undo (completed is) x) _ kept.undone undoable in
            let first = or_left (a.is_tried || a.owner.effects.transacts) a.is_deferred off in
            let more : touches (completed is) F.vars a n x ≡ true = touch ∙ ap not (free e k) in
            let computes : a.owner.effects.computes ≡ false = not_first a.owner.effects.computes _ kept.computes more in
            let transacts : a.owner.effects.transacts ≡ false = or_right a.is_tried a.owner.effects.transacts first in
            allows.waits (or_left a.is_tried a.owner.effects.transacts first) (or_right
            (a.is_tried || a.owner.effects.transacts) a.is_deferred off)
            (lasts_so a.owner.effects computes transacts)

        by : (s : Bool) → e.suspends ≡ s → (k : Bool) → is_lasting e ≡ k → b.waits ≡ true
        by true s k q = async_waits is arrays events w a xs b allows n p x h (async ∙ s)
        by false s true q = outer q s
        by false s false q = let no : false ≡ true = sym (ap (λ r. r || is_lasting e) s ∙ q) ∙ l in absurd (cc)

    -- ---- a function by its name

    callable : FunctionsStand is → (x : Shape) (g : ℕ) (o : Owned) → slice_get (owned (known is).items) g ≡ Some o →
        ((info : FunInfo) → slice_get (completed is).funs g ≡ Some info → info.effects.decides ≡ true → b.fails ≡ true) →
        ((info : FunInfo) → slice_get (completed is).funs g ≡ Some info → lasts info.effects ≡ true → b.waits ≡ true) →
        Callable (program is arrays events) (sorted is) b xs g
    callable stand x g o e fails waits =
        let info = stand.info g o e in
        record {
          function = o.tree;
          found = stand.found g o e;
          fails = λ d. fails _ info (sym (ap (λ i. (signature_of i (class_in (slice_get (owned (known is).items) g))).decides) info) ∙ d);
          waits = λ l. waits _ info (sym (ap (λ i. (signature_of i (class_in (slice_get (owned (known is).items) g))).lasts) info) ∙ l);
        }

    -- what is called is the function of a number
    pub record Calls (e : Tree) (g : ℕ) (o : Owned) : Type 0 where
      pub there : slice_get (owned (known is).items) g ≡ Some o
      pub callee : types.callee_of F e ≡ types.function (info_of o)
      pub effects : effects_callee e ≡ c.Function (info_of o).effects
      pub params : params_at F (number_of_tree e) ≡ (info_of o).params

    -- a call of it that is not spawned
    pub record CanCall (g : ℕ) (ts : Trees) : Type 0 where
      pub callable : Callable (program is arrays events) (sorted is) b xs g
      pub operands : AllFit (up is) (sorts_at (program is arrays events) (sorted is) ts) ((sorted is).signature g).params
      pub value : Fits (up is) ((sorted is).signature g).result (sort_of (ty_at is n))

    -- the form does as much as a call of it, with so many arguments
    pub record Brackets (x : Shape) (ts : Trees) (info : FunInfo) : Type 0 where
      pub async : is_async (completed is) a x ≡ info.effects.suspends
      pub lasts : cannot_undo (completed is) x ≡ (is_lasting info.effects && not info.effects.suspends)
      pub touches : touches (completed is) F.vars a n x ≡ not info.effects.computes
      pub fails : info.effects.decides ≡ true → b.fails ≡ true
      pub counted : are_wanted (Some (length info.params)) (count ts) ≡ true
      pub gives : ty_at is n ≡ ty_of info.result

    pub can_bracket : FunctionsStand is → (x : Shape) (e : Tree) (g : ℕ) (o : Owned) (ts : Trees) → Calls e g o → At is w a xs n p x →
        Brackets x ts (info_of o) → Served (params_at F (number_of_tree e)) 0 ts → CanCall g ts
    can_bracket stand x e g o ts k h r args =
        let info = info_of o in
        let entry = stand.info g o k.there in
        let sign = ap (λ i. signature_of i (class_in (slice_get (owned (known is).items) g))) entry in
        record {
          callable = callable stand x g o k.there
              (λ i f d. r.fails (sym (ap (λ (j : FunInfo). j.effects.decides) (only _ i info (sym f ∙ entry))) ∙ d))
              (λ i f l. lasting_waits x info.effects h r.async r.lasts r.touches
              (sym (ap (λ (j : FunInfo). lasts j.effects) (only _ i info (sym f ∙ entry))) ∙ l));
          operands = subst (AllFit (up is) (sorts_at (program is arrays events) (sorted is) ts)) (sym (ap (λ
              (s : Signature). s.params) sign))
              (arguments_fit info ts (subst (λ ps. Served ps 0 ts) k.params args) r.counted);
          value = subst (λ q. Fits (up is) q (sort_of (ty_at is n))) (sym (ap (λ (s : Signature). s.result) sign))
              (is_row is n (ty_of info.result) r.gives);
        }

    pub can_call : FunctionsStand is → (e : Tree) (g : ℕ) (o : Owned) (ts : Trees) → Calls e g o → At is w a xs n p (t.Shape.call e ts) →
        is_spawned a.used ≡ false → Served (params_at F (number_of_tree e)) 0 ts → CanCall g ts
    can_call stand e g o ts k h used args =
        let x = t.Shape.call e ts in
        let info = info_of o in
        let brackets : call_fails (effects_callee e) ≡ false = (base.effects is w a xs n p x h).brackets in
        let never : info.effects.decides ≡ false = sym (ap call_fails k.effects) ∙ brackets in
        can_bracket stand x e g o ts k h
        (record {
          async = ap (call_suspends (is_spawned a.used)) k.effects ∙ ap (λ u. info.effects.suspends && not u) used
              ∙ and_true info.effects.suspends;
          lasts = ap call_lasts k.effects;
          touches = ap call_touches k.effects;
          fails = λ d. let no : true ≡ false = sym d ∙ never in absurd (cc);
          counted = ap (λ z. are_wanted (call_wanted z) (count ts)) (sym k.callee) ∙ not-false _ (base.types is w a xs n p x h).counted;
          gives = its_row is w a xs n p x h ∙ ap (λ z. call_type z ts) k.callee;
        })
        args

    -- ---- a function by its name

    pub named_calls : FunctionsStand is → (m : ℕ) (q : Place) (z : Bytes) (g : ℕ) → refs.ref_at F.refs m ≡ Some (ref.Fun g) →
        (f : IsFunction is g) →
        Calls (tree m q (t.Shape.name z)) g (record { class = None; tree = f.tree })
    named_calls stand m q z g r f =
        let entry = stand.info g (record { class = None; tree = f.tree }) f.there in
        record {
          there = f.there;
          callee = ap (λ o. types.callee_by F o (t.Shape.name z) (ty_at is m)) r
              ∙ ap (λ o. types.function_or o (types.plain_callee (ref.Fun g) (t.Shape.name z) (ty_at is m))) entry;
          effects = ap (λ o. effects.callee_by_ref (completed is) o (t.Shape.name z)) (base.same_referred (slice_get F.refs m) ∙ r)
              ∙ ap effects.callee_of_fun entry;
          params = ap (λ o. params_of (refs.function_by F.world.names o)) r ∙ ap params_of entry;
        }

    pub call_gives : FunctionsStand is → (m : ℕ) (q : Place) (z : Bytes) (g : ℕ) (ts : Trees) →
        At is w a xs n p (t.Shape.call (tree m q (t.Shape.name z)) ts) → refs.ref_at F.refs m ≡ Some (ref.Fun g) → IsFunction is g →
        is_spawned a.used ≡ false → Served (params_at F m) 0 ts →
        Gives (program is arrays events) (sorted is) b xs (form.calling g) (sorts_at (program is arrays events) (sorted is) ts) (sort_of
        (ty_at is n))
    call_gives stand m q z g ts h r f used args =
        let e = tree m q (t.Shape.name z) in
        let can = can_call stand e g (record { class = None; tree = f.tree }) ts (named_calls stand m q z g r f) h used args in
        record {
          no_case = tt;
          taken = ((sorted is).signature g).params;
          given = ((sorted is).signature g).result;
          operands = can.operands;
          takes = takes.takes_arguments can.callable (this_of g None (ap class_in f.there));
          value = can.value;
        }

    -- ---- a method of the class by its name, and one behind a dot

    pub method_calls : FunctionsStand is → (m : ℕ) (q : Place) (z : Shape) (d i : ℕ) (f : IsMethod is d i) (o : Owned) → Quiet is →
        refs.ref_at F.refs m ≡ Some (ref.Method d i) → slice_get (owned (known is).items) f.number ≡ Some o → Calls (tree m q z) f.number o
    method_calls stand m q z d i f o quiet r e =
        let entry = stand.info f.number o e in
        let found : refs.function_of F.world.names (ref.Method d i) ≡ Some (info_of o) =
        ap (refs.method_in F.world.names i) (class_entry is d i f) ∙ ap (refs.fun_numbered F.world.names) f.there ∙ entry in
        record {
          there = e;
          callee = ap (λ k. types.callee_by F k z (ty_at is m)) r
              ∙ ap (λ k. types.function_or k (types.plain_callee (ref.Method d i) z (ty_at is m))) found;
          effects = ap (λ k. effects.callee_by_ref (completed is) k z) (base.same_referred (slice_get F.refs m) ∙ r)
              ∙ ap (effects.callee_of_class (completed is) i) (class_entry is d i f) ∙ ap (effects.callee_of_method (completed is)) f.there
              ∙ ap effects.callee_of_fun entry;
          params = ap (λ k. params_of (refs.function_by F.world.names k)) r ∙ ap params_of found;
        }

    pub own_call_gives : FunctionsStand is → MethodsOwned → Quiet is → (m : ℕ) (q : Place) (z : Bytes) (d i : ℕ) (ts : Trees) →
        At is w a xs n p (t.Shape.call (tree m q (t.Shape.name z)) ts) → refs.ref_at F.refs m ≡ Some (ref.Method d i) → w.class ≡ Some d →
        IsMethod is d i → is_spawned a.used ≡ false → Served (params_at F m) 0 ts →
        Gives (program is arrays events) (sorted is) b xs (form.calling_own i) (sorts_at (program is arrays events) (sorted is) ts)
        (sort_of (ty_at is n))
    own_call_gives stand methods quiet m q z d i ts h r this f used args =
        let o = methods is quiet d i f.number f.there in
        let own : Owned = record { class = Some o.class; tree = o.tree } in
        let can = can_call stand (tree m q (t.Shape.name z)) f.number own ts
        (method_calls stand m q (t.Shape.name z) d i f own quiet r o.there) h used args in
        record {
          no_case = tt;
          taken = ((sorted is).signature f.number).params;
          given = ((sorted is).signature f.number).result;
          operands = can.operands;
          takes = takes.takes_own d f.number (allows.this ∙ this) (ap (programs.method_in i) (class_entry is d i f) ∙ f.there) can.callable;
          value = can.value;
        }

    -- the object is of the class
    pub method_call_gives : FunctionsStand is → MethodsOwned → Quiet is → (m : ℕ) (q : Place) (e : Tree) (x : Bytes) (d i : ℕ)
        (ts : Trees) →
        At is w a xs n p (t.Shape.call (tree m q (t.Shape.member e x)) ts) → refs.ref_at F.refs m ≡ Some (ref.Method d i) →
        type_of F e ≡ ty.class d → IsMethod is d i → is_spawned a.used ≡ false → Served (params_at F m) 0 ts →
        Gives (program is arrays events) (sorted is) b xs (form.calling_method i)
        (sort_of (type_of F e) ∷ sorts_at (program is arrays events) (sorted is) ts) (sort_of (ty_at is n))
    method_call_gives stand methods quiet m q e x d i ts h r class f used args =
        let o = methods is quiet d i f.number f.there in
        let own : Owned = record { class = Some o.class; tree = o.tree } in
        let can = can_call stand (tree m q (t.Shape.member e x)) f.number own ts
        (method_calls stand m q (t.Shape.member e x) d i f own quiet r o.there) h used args in
        record {
          no_case = tt;
          taken = sorts.obj d ∷ ((sorted is).signature f.number).params;
          given = ((sorted is).signature f.number).result;
          operands = fit_so (subst (λ u. Fits (up is) (sort_of u) (sorts.obj d)) (sym class) (fits_itself (up is)
              (sorts.obj d))) can.operands;
          takes = takes.takes_method f.number (ap (programs.method_in i) (class_entry is d i f) ∙ f.there) can.callable;
          value = can.value;
        }
