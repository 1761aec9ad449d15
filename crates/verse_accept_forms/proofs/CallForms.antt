-- Calls and indices: what their forms need.
use Rattle.std.proofs.Common.{◌≡◌, ℕ, zero, suc, Bool, true, false, not, cond, ◌&&◌, List, [], ◌∷◌, Option}
use Rattle.std.proofs.Common.{refl, sym, subst, ap, ◌∙◌}
use Rattle.std.specs.Prelude.{Some, None, pos, negsuc}
use Rattle.std.proofs.lemmas.Bool.{not-false}
use Rattle.verse_base.specs.declared.places.Place.{Place}
use Rattle.verse_base.proofs.Facts.{and_first, and_second}
use Rattle.verse_tree.specs.Tree.{Tree, tree, Shape, Trees, no_trees, more_trees}
use Rattle.verse_tree.specs.Tree as t
use Rattle.verse_tree.specs.ItemTree.{ItemTree}
use Rattle.verse_tree.specs.declared.exprs.Operator.TheVariants as op
use Rattle.verse_rules_types.specs.Types.{Ty, Tys}
use Rattle.verse_rules_types.specs.Types as ty
use Rattle.verse_rules_types.specs.Kinds.{is_key}
use Rattle.verse_rules_walk.specs.Around.{Around, used_as, argument, no_effects}
use Rattle.verse_rules_walk.specs.Nodes.{number_of_tree}
use Rattle.verse_names_tables.specs.Names.{Table}
use Rattle.verse_names_scopes.specs.Visible.{World}
use Rattle.verse_check_typing.specs.Facts.{Facts, type_of, or_never}
use Rattle.verse_check_typing.specs.Keys.{has_keys}
use Rattle.verse_check_typing.specs.Parts.{count, first_from, is_int, is_void, are_ints}
use Rattle.verse_check_typing.specs.Callees as types
use Rattle.verse_check_typing.specs.Calls.{are_wanted, call_wanted, call_type, index_wanted, index_type, arguments_fit, indices_fit}
use Rattle.verse_check_typing.specs.Calls.{can_call}
use Rattle.verse_check_typing.specs.Calls.{can_stand_indexed, can_index, would_fit, would_be_quotient, element_of, has_item, item_of}
use Rattle.verse_check_typing.specs.Calls.{has_called_item, takes_one_item, takes_one_index, is_there, ty_by, tree_place, ty_at as type_in}
use Rattle.verse_effects.specs.Callees.{call_fails, call_lasts, call_suspends, call_touches}
use Rattle.verse_effects.specs.Forms.{is_spawned, is_on_path, index_fails, is_plain_function}
use Rattle.verse_effects.specs.declared.callees.Callee.{Callee as Does}
use Rattle.verse_effects.specs.declared.callees.Callee.TheVariants as c
use Rattle.verse_meaning.specs.Programs.{Program, method_in}
use Rattle.verse_meaning.specs.Residuals as form
use Rattle.verse_meaning.specs.Residuals.{Form}
use Rattle.verse_meaning.specs.Evaluating.{Callee, picked, literal_of}
use Rattle.verse_sorts.specs.Sorts as s
use Rattle.verse_sorts.specs.Sorts.{Sort, Sorts, Fits}
use Rattle.verse_sorts.specs.Typing.{fit_no, fit_so}
use Rattle.verse_sorts.proofs.Fitting.{fits_itself, all_itself}
use Rattle.verse_sorts_types.specs.SortOf.{sort_of}
use Rattle.verse_sorts_types.specs.SortOf as sort
use Rattle.verse_sorts_types.proofs.Fitting as fitting
use Rattle.verse_sorts_values.specs.Operands.{sort_in, in_list, in_map}
use Rattle.verse_sound_rules.specs.Found.{Allowed}
use Rattle.verse_sound_rules.specs.Found as rules
use Rattle.verse_sound_rules.specs.Forms.{Gives, NoCase}
use Rattle.verse_sound_rules.specs.Forms as takes
use Rattle.verse_sound_rules.specs.Fine.{on_callee, Reaches}
use Rattle.verse_accept_scopes.specs.Holding.{OnArguments}
use Rattle.verse_accept_rows.specs.Found.{final, Found}
use Rattle.verse_accept_classes.specs.Owners.{Owned}
use Rattle.verse_accept_classes.specs.Referring.{IsFunction, IsMethod}
use Rattle.verse_accept_classes.specs.Laws.{FunctionsStand}
use Rattle.verse_accept_fine.specs.Sorted.{At, ty_at, all_classes, up, sorted, program, Allows, class_in}
use Rattle.verse_accept_fine.proofs.Base.{its_row, of_row, is_row}
use Rattle.verse_accept_fine.proofs.Base as base
use Rattle.verse_accept_fine.proofs.Operators.{int_fits, caught, key_sort}
use Rattle.verse_accept_fine.proofs.Control.{async_waits}
use Rattle.verse_accept_fine.proofs.Calls as calls
use Rattle.verse_accept_fine.proofs.Calls.{and_true, served, class_entry}
use Rattle.verse_accept_forms.specs.Callees.{HasValue, HasObject, Rounds}
use Rattle.verse_accept_forms.proofs.Indices.{reaches}
use Rattle.verse_accept_forms.proofs.Operands.{sorts_of, no_operands, one_operand, two_ints, not_one, used_allows}
use Rattle.verse_accept_forms.proofs.CalleeKinds.{Kind, IsWait, IsValue, IsFixed, fixed_int, fixed_enum, is_function, is_own, is_method}
use Rattle.verse_accept_forms.proofs.CalleeKinds.{is_print}
use Rattle.verse_accept_forms.proofs.CalleeKinds.{is_floor, is_ceiling, is_modulo, is_task, is_event, is_signal, is_nowhere, as_value}
use Rattle.verse_accept_forms.proofs.CalleeKinds.{is_item}
use Rattle.verse_accept_forms.proofs.CalleeKinds.{is_fixed, effects_of, object_of}

-- ---- the number that a literal is

literal_is : (e : Tree) → literal_of e ≡ tree_place e
literal_is (tree n p (t.Shape.integer (pos k))) = refl
literal_is (tree n p (t.Shape.integer (negsuc k))) = refl
literal_is (tree n p x) = refl

item_sort : (us : Tys) (i : ℕ) (u : Ty) → type_in us i ≡ Some u → sort_in (sort.sorts_of us) i ≡ Some (sort_of u)
item_sort ty.no_tys i u e = cc
item_sort (ty.more_tys v us) zero u e = let same : v ≡ u = cc in ap (λ z. Some (sort_of z)) same
item_sort (ty.more_tys v us) (suc i) u e = item_sort us i u e

no_case_picked : (ts : Trees) → NoCase (picked ts)
no_case_picked no_trees = tt
no_case_picked (more_trees e no_trees) = tt
no_case_picked (more_trees e (more_trees d es)) = tt

-- what is fixed is neither called nor indexed
pub not_called : (u : Ty) → IsFixed u → can_call (types.value u) ≡ false
not_called u fixed_int = refl
not_called u fixed_enum = refl

module _ (is : List ItemTree) (arrays events : ℕ → Bool) where
  abbrev F : Facts
  F = final is

  abbrev whole : Program
  whole = program is arrays events

  abbrev found : rules.Found
  found = sorted is

  abbrev sorts : Trees → List Sort
  sorts ts = sorts_of is arrays events ts

  not_indexed : (u : Ty) (ts : Trees) → IsFixed u → can_index F u ts ≡ false
  not_indexed u ts fixed_int = refl
  not_indexed u ts fixed_enum = refl

  module _ (w : World) (a : Around) (xs : Table) (b : Allowed) (allows : Allows is w a b) (n : ℕ) (p : Place) where
    abbrev own : Sort
    own = sort_of (ty_at is n)

    abbrev Give : Form → List Sort → Type 0
    Give x qs = Gives whole found b xs x qs own

    abbrev Is : Shape → Type 0
    Is x = At is w a xs n p x

    abbrev Kinds : Tree → Form → Callee → Type 0
    Kinds e y k = Kind is arrays events w a xs b allows n p e y p k

    abbrev object : Tree → Sort
    object e = object_of is arrays events w a xs b allows n p e

    abbrev CanCall : ℕ → Trees → Type 0
    CanCall g ts = calls.CanCall is arrays events w a xs b allows n p g ts

    abbrev Arguments : Tree → Trees → Type 0
    Arguments e ts = OnArguments (Found is) w n a xs (number_of_tree e) 0 ts

    -- ---- functions and methods

    function_gives : (g : ℕ) (f : IsFunction is g) (ts : Trees) → CanCall g ts → Give (form.calling g) (sorts ts)
    function_gives g f ts can = record {
      no_case = tt;
      taken = (found.signature g).params;
      given = (found.signature g).result;
      operands = can.operands;
      takes = takes.takes_arguments can.callable (calls.this_of is arrays events g None (ap class_in f.there));
      value = can.value;
    }

    own_gives : (d i : ℕ) (f : IsMethod is d i) (ts : Trees) → w.class ≡ Some d → CanCall f.number ts →
        Give (form.calling_own i) (sorts ts)
    own_gives d i f ts this can = record {
      no_case = tt;
      taken = (found.signature f.number).params;
      given = (found.signature f.number).result;
      operands = can.operands;
      takes = takes.takes_own d f.number (allows.this ∙ this) (ap (method_in i) (class_entry is d i f) ∙ f.there) can.callable;
      value = can.value;
    }

    method_gives : (d i : ℕ) (f : IsMethod is d i) (ts : Trees) (q : Sort) → q ≡ s.obj d → CanCall f.number ts →
        Give (form.calling_method i) (q ∷ sorts ts)
    method_gives d i f ts q same can = record {
      no_case = tt;
      taken = s.obj d ∷ (found.signature f.number).params;
      given = (found.signature f.number).result;
      operands = fit_so (subst (λ z. Fits (up is) z (s.obj d)) (sym same) (fits_itself (up is) (s.obj d))) can.operands;
      takes = takes.takes_method f.number (ap (method_in i) (class_entry is d i f) ∙ f.there) can.callable;
      value = can.value;
    }

    -- an operand that gives no value
    spared_wait : (x : Form) (qs : List Sort) → IsWait x → NoCase x × takes.Spared whole found b xs x (s.never ∷ qs)
    spared_wait (form.awaiting t) qs k = (tt, takes.spared_await)
    spared_wait form.signalling qs k = (tt, takes.spared_signal)
    spared_wait x qs k = elim k [ ]

    nowhere_gives : (x : Form) (q : Sort) (ts : Trees) → IsWait x → q ≡ s.never → Give x (q ∷ sorts ts)
    nowhere_gives x q ts k same = record {
      no_case = (spared_wait x (sorts ts) k).0;
      taken = q ∷ sorts ts;
      given = own;
      operands = all_itself (up is) (q ∷ sorts ts);
      takes = takes.takes_never (subst (λ z. takes.Spared whole found b xs x (z ∷ sorts ts)) (sym same) (spared_wait x (sorts ts) k).1);
      value = fits_itself (up is) own;
    }

    -- ---- what is found at a call

    module _ (e : Tree) (ts : Trees) (h : Is (t.Shape.call e ts)) where
      fit : (k : types.Callee) → types.callee_of F e ≡ k → arguments_fit F k ts ≡ true
      fit k g = ap (λ z. arguments_fit F z ts) (sym g) ∙ not-false _ (base.types is w a xs n p (t.Shape.call e ts) h).matched

      counted : (k : types.Callee) → types.callee_of F e ≡ k → are_wanted (call_wanted k) (count ts) ≡ true
      counted k g =
          ap (λ z. are_wanted (call_wanted z) (count ts)) (sym g) ∙ not-false _ (base.types is w a xs n p (t.Shape.call e ts) h).counted

      row : (k : types.Callee) → types.callee_of F e ≡ k → ty_at is n ≡ call_type k ts
      row k g = its_row is w a xs n p (t.Shape.call e ts) h ∙ ap (λ z. call_type z ts) g

      called : (k : types.Callee) → types.callee_of F e ≡ k → can_call k ≡ true
      called k g = ap can_call (sym g) ∙ not-false _ (base.types is w a xs n p (t.Shape.call e ts) h).callable

      -- ---- built-in functions

      print_gives : types.callee_of F e ≡ types.print → Give (form.printing p) (sorts ts)
      print_gives g = record {
        no_case = tt;
        taken = s.list s.char ∷ [];
        given = s.unit;
        operands = one_operand is arrays events ts ty.string (counted types.print g) (fit types.print g);
        takes = takes.takes_line;
        value = of_row is n s.unit ty.void (row types.print g) (s.to_any tt);
      }

      round_gives : (x : Form) → NoCase x → takes.Takes whole found b xs x (s.int ∷ s.int ∷ []) s.int → ty_at is n ≡ ty.int →
          (i : ℕ) (q : Place) (y z : Tree) → At is w (used_as (argument (number_of_tree e) 0) a) xs i q (t.Shape.chained op.Div y z) →
          Give x (sort_of (type_of F y) ∷ sort_of (type_of F z) ∷ [])
      round_gives x k take r i q y z o =
          let ints : are_ints (type_of F y) (type_of F z) ≡ true =
          not-false _ (base.types is w (used_as (argument (number_of_tree e) 0) a) xs i q (t.Shape.chained op.Div y z) o).matched in
          record {
            no_case = k;
            taken = s.int ∷ s.int ∷ [];
            given = s.int;
            operands = fit_so (int_fits is arrays events (type_of F y) (and_first (is_int (type_of F y)) (is_int (type_of F z)) ints))
                (fit_so (int_fits is arrays events (type_of F z) (and_second (is_int (type_of F y)) (is_int (type_of F z)) ints)) fit_no);
            takes = take;
            value = is_row is n ty.int r;
          }

      quotient_fails : (i : ℕ) (q : Place) (y z : Tree) →
          At is w (used_as (argument (number_of_tree e) 0) a) xs i q (t.Shape.chained op.Div y z) → b.fails ≡ true
      quotient_fails i q y z o =
          caught is arrays events w (used_as (argument (number_of_tree e) 0) a) xs b
          (used_allows is arrays events w a b (argument (number_of_tree e) 0) allows) i q (t.Shape.chained op.Div y z) o refl

      rounds : (x : Form) → NoCase x → (b.fails ≡ true → takes.Takes whole found b xs x (s.int ∷ s.int ∷ []) s.int) →
          ty_at is n ≡ ty.int → (us : Trees) → OnArguments (Found is) w n a xs (number_of_tree e) 0 us →
          are_wanted (Some 1) (count us) ≡ true → would_be_quotient us ≡ true → Rounds is arrays events w a xs b n p x us
      rounds x k take r no_trees o one q = absurd (cc)
      rounds x k take r (more_trees (tree i m (t.Shape.chained op.Div y z)) no_trees) o one q =
          round_gives x k (take (quotient_fails i m y z o.0.2)) r i m y z o.0.2
      rounds x k take r (more_trees (tree i m (t.Shape.chained v y z)) no_trees) o one q = absurd (cc)
      rounds x k take r (more_trees (tree i m v) no_trees) o one q = absurd (cc)
      rounds x k take r (more_trees y (more_trees z us)) o one q = absurd (not_one y z us one)

      -- ---- waits and events

      async : effects_of is arrays events e ≡ c.Await → b.waits ≡ true
      async f = async_waits is arrays events w a xs b allows n p (t.Shape.call e ts) h (ap (call_suspends (is_spawned a.used)) f)

      await_gives : (of_event : Bool) (q : Sort) (u : Ty) → types.callee_of F e ≡ types.await u → object e ≡ q →
          takes.Takes whole found b xs (form.awaiting of_event) (q ∷ []) (sort_of u) → Give (form.awaiting of_event) (object e ∷ sorts ts)
      await_gives of_event q u g same take = record {
        no_case = tt;
        taken = q ∷ [];
        given = sort_of u;
        operands = fit_so (subst (λ z. Fits (up is) z q) (sym same) (fits_itself (up is) q))
            (no_operands is arrays events ts (counted (types.await u) g));
        takes = take;
        value = is_row is n u (row (types.await u) g);
      }

      lasting : effects_of is arrays events e ≡ c.Signal → b.waits ≡ true
      lasting f =
          calls.lasting_waits is arrays events w a xs b allows n p (t.Shape.call e ts) no_effects h
          (ap (call_suspends (is_spawned a.used)) f) (ap call_lasts f) (ap call_touches f) refl

      signal_by : (u : Ty) → are_wanted (Some (cond (is_void u) 0 1)) (count ts) ≡ true →
          cond (is_void u) true (would_fit F (first_from F ts) u) ≡ true → b.waits ≡ true → object e ≡ s.event (sort_of u) →
          ty_at is n ≡ ty.void → Give form.signalling (object e ∷ sorts ts)
      signal_by ty.void one f k same r = record {
        no_case = tt;
        taken = s.event s.any ∷ [];
        given = s.unit;
        operands = fit_so (subst (λ z. Fits (up is) z (s.event s.any)) (sym same) (fits_itself (up is) (s.event s.any)))
            (no_operands is arrays events ts one);
        takes = takes.takes_bare_signal k (s.to_any tt);
        value = of_row is n s.unit ty.void r (s.to_any tt);
      }
      signal_by u one f k same r = record {
        no_case = tt;
        taken = s.event (sort_of u) ∷ sort_of u ∷ [];
        given = s.unit;
        operands = fit_so (subst (λ z. Fits (up is) z (s.event (sort_of u))) (sym same) (fits_itself (up is) (s.event (sort_of u))))
            (one_operand is arrays events ts u one f);
        takes = takes.takes_signal k;
        value = of_row is n s.unit ty.void r (s.to_any tt);
      }

      -- ---- elements of tuples

      item_by : (us : Tys) (o : Option ℕ) → is_there (ty_by us o) ≡ true → ty_at is n ≡ or_never (ty_by us o) →
          Give (form.picking o) (s.tuple (sort.sorts_of us) ∷ [])
      item_by us None i r = absurd (cc)
      item_by us (Some j) i r = by (type_in us j) refl i r
        where
          by : (o : Option Ty) → type_in us j ≡ o → is_there o ≡ true → ty_at is n ≡ or_never o →
              Give (form.picking (Some j)) (s.tuple (sort.sorts_of us) ∷ [])
          by None e i r = absurd (cc)
          by (Some u) e i r = record {
            no_case = tt;
            taken = s.tuple (sort.sorts_of us) ∷ [];
            given = sort_of u;
            operands = all_itself (up is) (s.tuple (sort.sorts_of us) ∷ []);
            takes = takes.takes_item (item_sort us j u e);
            value = is_row is n u r;
          }

      tuple_by : (us : Tys) (vs : Trees) → are_wanted (Some 1) (count vs) ≡ true → has_item (ty.tuple us) vs ≡ true →
          ty_at is n ≡ or_never (item_of (ty.tuple us) vs) → Give (picked vs) (s.tuple (sort.sorts_of us) ∷ [])
      tuple_by us no_trees one i r = absurd (cc)
      tuple_by us (more_trees y no_trees) one i r =
          subst (λ o. Give (form.picking o) (s.tuple (sort.sorts_of us) ∷ [])) (sym (literal_is y)) (item_by us (tree_place y) i r)
      tuple_by us (more_trees y (more_trees z vs)) one i r = absurd (not_one y z vs one)

      spared_picked : (vs : Trees) → takes.Spared whole found b xs (picked vs) (s.never ∷ [])
      spared_picked no_trees = takes.spared_item
      spared_picked (more_trees y no_trees) = takes.spared_item
      spared_picked (more_trees y (more_trees z vs)) = takes.spared_item

      pick_by : (u : Ty) → can_call (types.value u) ≡ true → are_wanted (takes_one_item u) (count ts) ≡ true → has_item u ts ≡ true →
          ty_at is n ≡ or_never (item_of u ts) → Give (picked ts) (sort_of u ∷ [])
      pick_by (ty.tuple us) k one i r = tuple_by us ts one i r
      pick_by ty.never k one i r = record {
        no_case = no_case_picked ts;
        taken = s.never ∷ [];
        given = own;
        operands = all_itself (up is) (s.never ∷ []);
        takes = takes.takes_never (spared_picked ts);
        value = fits_itself (up is) own;
      }
      pick_by u k one i r = absurd (cc)

      pick_gives : IsValue is arrays events e → Give (picked ts) (sort_of (type_of F e) ∷ [])
      pick_gives v =
          let g = v.callee in
          pick_by (type_of F e) (called (types.value (type_of F e)) g) (counted (types.value (type_of F e)) g)
          (ap (λ z. has_called_item z ts) (sym g) ∙ not-false _ (base.types is w a xs n p (t.Shape.call e ts) h).member)
          (row (types.value (type_of F e)) g)

      -- ---- by the callee

      can_call_of : FunctionsStand is → is_spawned a.used ≡ false → Arguments e ts → (g : ℕ) (o : Owned) →
          calls.Calls is arrays events w a xs b allows n p e g o → CanCall g ts
      can_call_of stand used args g o k =
          calls.can_call is arrays events w a xs b allows n p stand e g o ts k h used
          (served is arrays events w n a xs (number_of_tree e) 0 ts args)

      pub call_by : FunctionsStand is → is_spawned a.used ≡ false → Arguments e ts → {k : Callee} → Kinds e (picked ts) k →
          on_callee k (λ x. Give x (sorts ts)) (λ x. HasObject is e × Give x (object e ∷ sorts ts))
          (λ x. HasValue is arrays events w a xs b n p e × Give x (sort_of (type_of F e) ∷ [])) (λ x. Rounds is arrays events w a xs b n p
          x ts)
      call_by stand used args (is_function g f k) = function_gives g f ts (can_call_of stand used args g _ k)
      call_by stand used args (is_own d i f o this k) = own_gives d i f ts this (can_call_of stand used args f.number o k)
      call_by stand used args (is_method d i f o has same k) =
          (has, method_gives d i f ts (object e) same (can_call_of stand used args f.number o k))
      call_by stand used args (is_print g f) = print_gives g
      call_by stand used args (is_floor g f) =
          rounds (form.flooring p) tt (λ k. takes.takes_floor k) (row types.round g) ts args (counted types.round g) (fit types.round g)
      call_by stand used args (is_ceiling g f) =
          rounds (form.ceiling p) tt (λ k. takes.takes_ceiling k) (row types.round g) ts args (counted types.round g) (fit types.round g)
      call_by stand used args (is_modulo g f) =
          let no : true ≡ false = sym (ap call_fails f) ∙ (base.effects is w a xs n p (t.Shape.call e ts) h).brackets in absurd (cc)
      call_by stand used args (is_task u has same g f) =
          (has, await_gives false (s.task (sort_of u)) u g same (takes.takes_task (async f)))
      call_by stand used args (is_event u has same g f) =
          (has, await_gives true (s.event (sort_of u)) u g same (takes.takes_event (async f)))
      call_by stand used args (is_signal u has same g f) =
          (has, signal_by u (counted (types.signal u) g) (fit (types.signal u) g) (lasting f) same (row (types.signal u) g))
      call_by stand used args (is_nowhere x k has same g) = (has, nowhere_gives x (object e) ts k same)
      call_by stand used args (as_value v has) = (has, pick_gives v)
      call_by stand used args (is_item g) = let no : can_call types.item ≡ true = called types.item g in absurd (cc)
      call_by stand used args (is_fixed u f g k) =
          let no : false ≡ true = sym (not_called u f) ∙ called (types.value u) g in absurd (cc)

    -- ---- what is found at an index

    module _ (e : Tree) (ts : Trees) (h : Is (t.Shape.index e ts)) where
      fit_index : (k : types.Callee) → types.callee_of F e ≡ k → indices_fit F k ts ≡ true
      fit_index k g = ap (λ z. indices_fit F z ts) (sym g) ∙ not-false _ (base.types is w a xs n p (t.Shape.index e ts) h).matched

      counted_index : (k : types.Callee) → types.callee_of F e ≡ k → are_wanted (index_wanted k) (count ts) ≡ true
      counted_index k g =
          ap (λ z. are_wanted (index_wanted z) (count ts)) (sym g) ∙ not-false _ (base.types is w a xs n p (t.Shape.index e ts) h).counted

      row_index : (k : types.Callee) → types.callee_of F e ≡ k → ty_at is n ≡ index_type k ts
      row_index k g = its_row is w a xs n p (t.Shape.index e ts) h ∙ ap (λ z. index_type z ts) g

      fails_as : (k : Does) → effects_of is arrays events e ≡ k → index_fails a.used k ≡ true → b.fails ≡ true
      fails_as k f q = caught is arrays events w a xs b allows n p (t.Shape.index e ts) h (ap (index_fails a.used) f ∙ q)

      -- square brackets are behind what can fail
      plain : (k : Does) → effects_of is arrays events e ≡ k → is_plain_function k ≡ true → ⊥
      plain k f q =
          let no : true ≡ false = sym q ∙ sym (ap is_plain_function f) ∙ (base.effects is w a xs n p
          (t.Shape.index e ts) h).brackets in absurd (cc)

      can_index_of : FunctionsStand is → is_spawned a.used ≡ false → Arguments e ts → (g : ℕ) (o : Owned) →
          calls.Calls is arrays events w a xs b allows n p e g o → CanCall g ts
      can_index_of stand used args g o k =
          let info = calls.info_of is arrays events o in
          calls.can_bracket is arrays events w a xs b allows n p stand (t.Shape.index e ts) e g o ts k h
          (record {
            async = ap (call_suspends (is_spawned a.used)) k.effects ∙ ap (λ u. info.effects.suspends && not u) used
                ∙ and_true info.effects.suspends;
            lasts = ap call_lasts k.effects;
            touches = ap call_touches k.effects;
            fails = λ d. fails_as (c.Function info.effects) k.effects d;
            counted = counted_index (types.function info) k.callee;
            gives = row_index (types.function info) k.callee;
          })
          (served is arrays events w n a xs (number_of_tree e) 0 ts args)

      modulo_gives : types.callee_of F e ≡ types.modulo → effects_of is arrays events e ≡ c.Modulo → Give form.taking_modulo (sorts ts)
      modulo_gives g f = record {
        no_case = tt;
        taken = s.int ∷ s.int ∷ [];
        given = s.int;
        operands = two_ints is arrays events ts (counted_index types.modulo g) (fit_index types.modulo g);
        takes = takes.takes_modulo (fails_as c.Modulo f refl);
        value = is_row is n ty.int (row_index types.modulo g);
      }

      -- ---- arrays and maps

      element_by : (u : Ty) (vs : Trees) → can_index F u vs ≡ true → are_wanted (takes_one_index u) (count vs) ≡ true → has_keys u ≡ true →
          b.fails ≡ true → ty_at is n ≡ element_of u (count vs) → Give form.indexing (sort_of u ∷ sorts vs)
      element_by ty.never vs i one k f r = record {
        no_case = tt;
        taken = s.never ∷ sorts vs;
        given = own;
        operands = all_itself (up is) (s.never ∷ sorts vs);
        takes = takes.takes_never takes.spared_index;
        value = fits_itself (up is) own;
      }
      element_by (ty.array u) no_trees i one k f r = absurd (cc)
      element_by (ty.array u) (more_trees (tree m q x) no_trees) i one k f r = record {
        no_case = tt;
        taken = s.list (sort_of u) ∷ s.int ∷ [];
        given = sort_of u;
        operands = fit_so (fits_itself (up is) (s.list (sort_of u))) (fit_so (int_fits is arrays events (type_of F (tree m q x)) i) fit_no);
        takes = takes.takes_index f in_list;
        value = is_row is n u r;
      }
      element_by (ty.array u) (more_trees y (more_trees z vs)) i one k f r = absurd (not_one y z vs one)
      element_by (ty.mapping l u) no_trees i one k f r = absurd (cc)
      element_by (ty.mapping l u) (more_trees (tree m q x) no_trees) i one k f r = record {
        no_case = tt;
        taken = s.map (sort_of l) (sort_of u) ∷ sort_of l ∷ [];
        given = sort_of u;
        operands = fit_so (fits_itself (up is) (s.map (sort_of l) (sort_of u)))
            (fit_so (fitting.fits_sort (all_classes is) (type_of F (tree m q x)) l i) fit_no);
        takes = takes.takes_index f (in_map (key_sort is arrays events l (and_first (is_key l) (has_keys u) k)));
        value = is_row is n u r;
      }
      element_by (ty.mapping l u) (more_trees y (more_trees z vs)) i one k f r = absurd (not_one y z vs one)
      element_by u vs i one k f r = absurd (cc)

      index_gives : IsValue is arrays events e → has_keys (type_of F e) ≡ true → is_on_path a.used ≡ false →
          Give form.indexing (sort_of (type_of F e) ∷ sorts ts)
      index_gives v keys path =
          let g = v.callee in
          element_by (type_of F e) ts (fit_index (types.value (type_of F e)) g) (counted_index (types.value (type_of F e)) g) keys
          (fails_as c.Other v.effects (ap not path)) (row_index (types.value (type_of F e)) g)

      index_reaches : IsValue is arrays events e → has_keys (type_of F e) ≡ true →
          Reaches whole found (sort_of (type_of F e)) (sorts ts) own
      index_reaches v keys =
          let g = v.callee in
          reaches is arrays events (type_of F e) ts (ty_at is n) (fit_index (types.value (type_of F e)) g)
          (counted_index (types.value (type_of F e)) g) keys (row_index (types.value (type_of F e)) g)

      pub index_by : FunctionsStand is → is_spawned a.used ≡ false → is_on_path a.used ≡ false → has_keys (type_of F e) ≡ true →
          Arguments e ts → {k : Callee} → Kinds e form.indexing k →
          on_callee k (λ x. Give x (sorts ts)) (λ x. HasObject is e × Give x (object e ∷ sorts ts))
          (λ x. HasValue is arrays events w a xs b n p e × Reaches whole found (sort_of (type_of F e)) (sorts ts) own ×
          Give x (sort_of (type_of F e) ∷ sorts ts)) (λ x. ⊥)
      index_by stand used path keys args (is_function g f k) = function_gives g f ts (can_index_of stand used args g _ k)
      index_by stand used path keys args (is_own d i f o this k) = own_gives d i f ts this (can_index_of stand used args f.number o k)
      index_by stand used path keys args (is_method d i f o has same k) =
          (has, method_gives d i f ts (object e) same (can_index_of stand used args f.number o k))
      index_by stand used path keys args (is_print g f) = absurd (plain c.Print f refl)
      index_by stand used path keys args (is_floor g f) = absurd (plain c.Round f refl)
      index_by stand used path keys args (is_ceiling g f) = absurd (plain c.Round f refl)
      index_by stand used path keys args (is_modulo g f) = modulo_gives g f
      index_by stand used path keys args (is_task u has same g f) = absurd (plain c.Await f refl)
      index_by stand used path keys args (is_event u has same g f) = absurd (plain c.Await f refl)
      index_by stand used path keys args (is_signal u has same g f) = absurd (plain c.Signal f refl)
      index_by stand used path keys args (is_nowhere x k has same g) = (has, nowhere_gives x (object e) ts k same)
      index_by stand used path keys args (as_value v has) = (has, index_reaches v keys, index_gives v keys path)
      index_by stand used path keys args (is_item g) =
          let no : can_stand_indexed types.item ≡ true =
          ap can_stand_indexed (sym g) ∙ not-false _ (base.types is w a xs n p (t.Shape.index e ts) h).callable in absurd (cc)
      index_by stand used path keys args (is_fixed u f g k) =
          let no : false ≡ true = sym (not_indexed u ts f) ∙ fit_index (types.value u) g in absurd (cc)
