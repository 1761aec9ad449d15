-- Conditions, loops, groups and what leaves a body: what their forms need.
use Rattle.std.proofs.Common.{◌≡◌, ℕ, Bool, true, false, not, cond, ◌||◌, List, [], ◌∷◌, refl, sym, subst, ap, ◌∙◌}
use Rattle.std.specs.Prelude.{Some, option_map}
use Rattle.std.proofs.lemmas.Bool.{not-false}
use Rattle.verse_base.specs.declared.places.Place.{Place}
use Rattle.verse_base.proofs.Facts.{and_first, and_second, not_second, guarded}
use Rattle.verse_tree.specs.Tree.{Written, Tree, Shape, Trees, no_trees, more_trees}
use Rattle.verse_tree.specs.Tree as t
use Rattle.verse_tree.specs.ItemTree.{ItemTree}
use Rattle.verse_tree.specs.declared.exprs.Operator.TheVariants as op
use Rattle.verse_tree.specs.declared.exprs.Comparison.{Comparison}
use Rattle.verse_tree.specs.declared.exprs.Comparison.TheVariants as c
use Rattle.verse_rules_types.specs.Types.{Ty}
use Rattle.verse_rules_types.specs.Types as ty
use Rattle.verse_rules_types.specs.Fitting.{fits, join, joined as joined_types}
use Rattle.verse_rules_walk.specs.Around.{Around, caught as caught_around, freely, looped as looped_around, repeated}
use Rattle.verse_rules_walk.specs.Around.{armed as armed_around, deferred as deferred_around}
use Rattle.verse_names_tables.specs.Names.{Table}
use Rattle.verse_names_scopes.specs.Visible.{World}
use Rattle.verse_check_typing.specs.Sets.{has_number}
use Rattle.verse_check_typing.specs.Facts.{Facts, type_of}
use Rattle.verse_check_typing.specs.Parts.{is_int, are_ints, sum_of, is_summed}
use Rattle.verse_check_typing.specs.Parts as parts
use Rattle.verse_check_typing.specs.Rows.{loop_type, spelled}
use Rattle.verse_check_typing.specs.TypeRules.{fits_result, alone, is_alone}
use Rattle.verse_effects.specs.Forms.{is_async}
use Rattle.verse_rules.specs.Sound.{completed}
use Rattle.verse_meaning.specs.Residuals as form
use Rattle.verse_sorts.specs.Sorts as s
use Rattle.verse_sorts.specs.Sorts.{Sort, Fits}
use Rattle.verse_sorts.specs.Typing.{fit_no, fit_so}
use Rattle.verse_sorts.proofs.Fitting.{fits_itself, all_itself}
use Rattle.verse_sorts_types.specs.SortOf.{sort_of}
use Rattle.verse_sorts_types.proofs.Fitting as fitting
use Rattle.verse_sorts_types.proofs.Joining.{join_both}
use Rattle.verse_sorts_values.specs.Operands.{sorts, HasNever, never_here, never_behind}
use Rattle.verse_sound_rules.specs.Found.{Allowed, tried, armed, deferred, looped}
use Rattle.verse_sound_rules.specs.Forms.{Gives, Takes, IsOrder, order_below, order_at_most, order_above, order_at_least}
use Rattle.verse_sound_rules.specs.Forms as takes
use Rattle.verse_sound_rules.specs.Fine.{Several, sorts_at}
use Rattle.verse_accept_rows.specs.Found.{final}
use Rattle.verse_accept_fine.specs.Sorted.{At, ty_at, all_classes, up, written_sort, sorted, program, Allows, is_array_type}
use Rattle.verse_accept_fine.proofs.Rules.{or_left, or_right}
use Rattle.verse_accept_fine.proofs.Base.{types, effects, its_row, of_row, is_row}
use Rattle.verse_accept_fine.proofs.Operators.{int_fits, caught, tuple_sorts}

are_several : (ts : Trees) → is_alone ts ≡ false → Several ts
are_several no_trees h = absurd (cc)
are_several (more_trees e no_trees) h = absurd (cc)
are_several (more_trees e (more_trees f ts)) h = tt

module _ (is : List ItemTree) (arrays events : ℕ → Bool) where
  abbrev F : Facts
  F = final is

  -- ---- what is allowed further in

  module _ (w : World) (a : Around) (b : Allowed) (h : Allows is w a b) where
    pub freely_allows : Allows is w (freely a) b
    freely_allows = record {
      fails = h.fails;
      tried = h.tried;
      result = h.result;
      loop = h.loop;
      breaks = h.breaks;
      waits = h.waits;
      this = h.this;
    }

    pub repeated_allows : Allows is w (repeated a) b
    repeated_allows = record {
      fails = h.fails;
      tried = h.tried;
      result = h.result;
      loop = h.loop;
      breaks = h.breaks;
      waits = h.waits;
      this = h.this;
    }

    pub caught_allows : Allows is w (caught_around a) (tried b)
    caught_allows = record {
      fails = λ e. refl;
      tried = λ e. refl;
      result = λ e. absurd (cc);
      loop = λ e. absurd (cc);
      breaks = λ e. absurd (cc);
      waits = λ e. absurd (cc);
      this = h.this;
    }

    pub armed_allows : a.is_tried ≡ false → Allows is w (armed_around a) (armed b)
    armed_allows free = record {
      fails = λ e. let no : true ≡ false = sym (h.tried e) ∙ free in absurd (cc);
      tried = h.tried;
      result = λ e. absurd (cc);
      loop = λ e. absurd (cc);
      breaks = λ e. absurd (cc);
      waits = λ e d l. refl;
      this = h.this;
    }

    pub deferred_allows : Allows is w (deferred_around a) (deferred b)
    deferred_allows = record {
      fails = λ e. absurd (cc);
      tried = λ e. absurd (cc);
      result = λ e. absurd (cc);
      loop = λ e. absurd (cc);
      breaks = λ e. absurd (cc);
      waits = λ e d. absurd (cc);
      this = h.this;
    }

    pub looped_allows : (n : ℕ) → Allows is w (looped_around n a) (looped (has_number n F.left) b)
    looped_allows n = record {
      fails = h.fails;
      tried = h.tried;
      result = h.result;
      loop = λ e. (n, refl);
      breaks = λ e m q. let same : n ≡ m = cc in ap (λ i. has_number i F.left) same;
      waits = h.waits;
      this = h.this;
    }

  -- ---- forms

  module _ (w : World) (a : Around) (xs : Table) (b : Allowed) (allows : Allows is w a b) (n : ℕ) (p : Place) where
    abbrev Give : form.Form → List Sort → Type 0
    Give x qs = Gives (program is arrays events) (sorted is) b xs x qs (sort_of (ty_at is n))

    -- both parts fit what they are joined to
    pub if_fits : (ts : Trees) (e f : Tree) → At is w a xs n p (t.Shape.if_else ts e f) →
        Fits (up is) (sort_of (type_of F e)) (sort_of (ty_at is n)) × Fits (up is) (sort_of (type_of F f)) (sort_of (ty_at is n))
    if_fits ts e f h =
        let r = its_row is w a xs n p (t.Shape.if_else ts e f) h in
        let j = join_both (all_classes is) (type_of F e) (type_of F f) in
        (of_row is n (sort_of (type_of F e)) _ r j.0, of_row is n (sort_of (type_of F f)) _ r j.1)

    pub or_fits : (e f : Tree) → At is w a xs n p (t.Shape.chained op.Or e f) →
        Fits (up is) (sort_of (type_of F e)) (sort_of (ty_at is n)) × Fits (up is) (sort_of (type_of F f)) (sort_of (ty_at is n))
    or_fits e f h =
        let r = its_row is w a xs n p (t.Shape.chained op.Or e f) h in
        let j = join_both (all_classes is) (type_of F e) (type_of F f) in
        (of_row is n (sort_of (type_of F e)) _ r j.0, of_row is n (sort_of (type_of F f)) _ r j.1)

    pub and_fits : (e f : Tree) → At is w a xs n p (t.Shape.chained op.And e f) →
        Fits (up is) (sort_of (type_of F f)) (sort_of (ty_at is n))
    and_fits e f h = is_row is n (type_of F f) (its_row is w a xs n p (t.Shape.chained op.And e f) h)

    -- ---- arithmetic

    ints_given : (x : form.Form) (e f : Tree) → are_ints (type_of F e) (type_of F f) ≡ true → ty_at is n ≡ ty.int →
        Takes (program is arrays events) (sorted is) b xs x (s.int ∷ s.int ∷ []) s.int → takes.NoCase x →
        Give x (sort_of (type_of F e) ∷ sort_of (type_of F f) ∷ [])
    ints_given x e f h r k c = record {
      no_case = c;
      taken = s.int ∷ s.int ∷ [];
      given = s.int;
      operands = fit_so (int_fits is arrays events (type_of F e) (and_first (is_int (type_of F e)) _ h))
          (fit_so (int_fits is arrays events (type_of F f) (and_second (is_int (type_of F e)) _ h)) fit_no);
      takes = k;
      value = is_row is n ty.int r;
    }

    pub difference_gives : (v : Bool) (e f : Tree) → At is w a xs n p (t.Shape.chained op.Sub e f) →
        Give (form.computing op.Sub v p) (sort_of (type_of F e) ∷ sort_of (type_of F f) ∷ [])
    difference_gives v e f h =
        ints_given (form.computing op.Sub v p) e f (not-false _ (types is w a xs n p (t.Shape.chained op.Sub e f) h).matched)
        (its_row is w a xs n p (t.Shape.chained op.Sub e f) h) takes.takes_difference tt

    pub product_gives : (v : Bool) (e f : Tree) → At is w a xs n p (t.Shape.chained op.Mul e f) →
        Give (form.computing op.Mul v p) (sort_of (type_of F e) ∷ sort_of (type_of F f) ∷ [])
    product_gives v e f h =
        ints_given (form.computing op.Mul v p) e f (not-false _ (types is w a xs n p (t.Shape.chained op.Mul e f) h).matched)
        (its_row is w a xs n p (t.Shape.chained op.Mul e f) h) takes.takes_product tt

    -- the join of arrays is an array
    record Listed (u v : Ty) : Type 0 where
      element : Ty
      same : join (all_classes is) (ty.array u) (ty.array v) ≡ ty.array element

    listed : (u v : Ty) → Listed u v
    listed u v = by (fits (all_classes is) (ty.array u) (ty.array v)) refl (fits (all_classes is) (ty.array v) (ty.array u)) refl
      where
        by : (q : Bool) → fits (all_classes is) (ty.array u) (ty.array v) ≡ q → (r : Bool) →
            fits (all_classes is) (ty.array v) (ty.array u) ≡ r → Listed u v
        by true e r f = record { element = v; same = rw e refl }
        by false e true f = record { element = u; same = rw (e, f) refl }
        by false e false f = record {
          element = Rattle.verse_rules_types.specs.Fitting.pick (all_classes is) u v (joined_types
              (all_classes is) u v);
          same = rw (e, f) refl;
        }

    never_sum : (u v : Ty) → HasNever (sort_of u ∷ sort_of v ∷ []) → Give (form.computing op.Add (arrays n) p) (sort_of u ∷ sort_of v ∷ [])
    never_sum u v h = record {
      no_case = tt;
      taken = sort_of u ∷ sort_of v ∷ [];
      given = sort_of (ty_at is n);
      operands = all_itself (up is) _;
      takes = takes.takes_never (takes.spared_operator h);
      value = fits_itself (up is) _;
    }

    sum_by : (u v : Ty) → is_summed (sum_of (all_classes is) u v) ≡ true →
        ty_at is n ≡ Rattle.verse_check_typing.specs.Facts.or_never (sum_of (all_classes is) u v) → arrays n ≡ is_array_type (ty_at is n) →
        Give (form.computing op.Add (arrays n) p) (sort_of u ∷ sort_of v ∷ [])
    sum_by ty.int ty.int h r e =
        let flag : arrays n ≡ false = e ∙ ap is_array_type r in
        subst (λ q. Give (form.computing op.Add q p) (s.int ∷ s.int ∷ [])) (sym flag)
        (record {
          no_case = tt;
          taken = s.int ∷ s.int ∷ [];
          given = s.int;
          operands = all_itself
              (up is) _;
          takes = takes.takes_sum;
          value = is_row is n ty.int r;
        })
    sum_by ty.int ty.never h r e = never_sum ty.int ty.never (never_behind never_here)
    sum_by ty.never v h r e = never_sum ty.never v never_here
    sum_by (ty.array u) ty.never h r e = never_sum (ty.array u) ty.never (never_behind never_here)
    sum_by (ty.array u) (ty.array v) h r e =
        let l = listed u v in
        let own : ty_at is n ≡ ty.array l.element = r ∙ l.same in
        let flag : arrays n ≡ true = e ∙ ap is_array_type own in
        let j = join_both (all_classes is) (ty.array u) (ty.array v) in
        let first : Fits (up is) (s.list (sort_of u)) (s.list (sort_of l.element)) = subst (λ z. Fits (up is) (s.list (sort_of u))
        (sort_of z)) l.same j.0 in
        let second : Fits (up is) (s.list (sort_of v)) (s.list (sort_of l.element)) = subst (λ z. Fits (up is) (s.list (sort_of v))
        (sort_of z)) l.same j.1 in
        subst (λ q. Give (form.computing op.Add q p) (s.list (sort_of u) ∷ s.list (sort_of v) ∷ [])) (sym flag)
        (record {
          no_case = tt;
          taken = s.list (sort_of l.element) ∷ s.list (sort_of l.element) ∷ [];
          given = s.list (sort_of l.element);
          operands = fit_so first (fit_so second fit_no);
          takes = takes.takes_lists;
          value = is_row is n (ty.array l.element) own;
        })
    sum_by u v h r e = absurd (cc)

    pub sum_gives : (e f : Tree) → At is w a xs n p (t.Shape.chained op.Add e f) → arrays n ≡ is_array_type (ty_at is n) →
        Give (form.computing op.Add (arrays n) p) (sort_of (type_of F e) ∷ sort_of (type_of F f) ∷ [])
    sum_gives e f h q =
        sum_by (type_of F e) (type_of F f) (not-false _ (types is w a xs n p (t.Shape.chained op.Add e f) h).matched)
        (its_row is w a xs n p (t.Shape.chained op.Add e f) h) q

    -- ---- comparisons

    pub equal_gives : (e f : Tree) → At is w a xs n p (t.Shape.compared c.Equal e f) →
        Give (form.comparing c.Equal) (sort_of (type_of F e) ∷ sort_of (type_of F f) ∷ [])
    equal_gives e f h = record {
      no_case = tt;
      taken = sort_of (type_of F e) ∷ sort_of (type_of F f) ∷ [];
      given = sort_of (type_of F e);
      operands = all_itself (up is) _;
      takes = takes.takes_equal (caught is arrays events w a xs b allows n p (t.Shape.compared c.Equal e f) h refl);
      value = is_row is n _ (its_row is w a xs n p (t.Shape.compared c.Equal e f) h);
    }

    pub differs_gives : (e f : Tree) → At is w a xs n p (t.Shape.compared c.Differs e f) →
        Give (form.comparing c.Differs) (sort_of (type_of F e) ∷ sort_of (type_of F f) ∷ [])
    differs_gives e f h = record {
      no_case = tt;
      taken = sort_of (type_of F e) ∷ sort_of (type_of F f) ∷ [];
      given = sort_of (type_of F e);
      operands = all_itself (up is) _;
      takes = takes.takes_differs (caught is arrays events w a xs b allows n p (t.Shape.compared c.Differs e f) h refl);
      value = is_row is n _ (its_row is w a xs n p (t.Shape.compared c.Differs e f) h);
    }

    order_by : (o : Comparison) (e f : Tree) → At is w a xs n p (t.Shape.compared o e f) → parts.is_equality o ≡ false → IsOrder o →
        Give (form.comparing o) (sort_of (type_of F e) ∷ sort_of (type_of F f) ∷ [])
    order_by o e f h q k =
        let kept = (types is w a xs n p (t.Shape.compared o e f) h).matched in
        let ints : are_ints (type_of F e) (type_of F f) ≡ true = guarded (not (parts.is_equality o)) _ kept (ap not q) in
        let r : ty_at is n ≡ ty.int = its_row is w a xs n p (t.Shape.compared o e f) h ∙ ap (λ z. cond z (type_of F e) ty.int) q in
        ints_given (form.comparing o) e f ints r
        (takes.takes_order k (caught is arrays events w a xs b allows n p (t.Shape.compared o e f) h refl)) tt

    pub compared_gives : (o : Comparison) (e f : Tree) → At is w a xs n p (t.Shape.compared o e f) →
        Give (form.comparing o) (sort_of (type_of F e) ∷ sort_of (type_of F f) ∷ [])
    compared_gives c.Equal e f h = equal_gives e f h
    compared_gives c.Differs e f h = differs_gives e f h
    compared_gives c.Below e f h = order_by c.Below e f h refl order_below
    compared_gives c.AtMost e f h = order_by c.AtMost e f h refl order_at_most
    compared_gives c.Above e f h = order_by c.Above e f h refl order_above
    compared_gives c.AtLeast e f h = order_by c.AtLeast e f h refl order_at_least

    -- ---- what leaves a body

    pub returned_gives : (v : Written) (e : Tree) → At is w a xs n p (t.Shape.returned e) → a.owner.result ≡ Some v →
        Give form.returning (sort_of (type_of F e) ∷ [])
    returned_gives v e h own =
        let may : a.may_return ≡ true = not-false _ (effects is w a xs n p (t.Shape.returned e) h).stays in
        let fit : fits (all_classes is) (type_of F e) (spelled F v) ≡ true =
        ap (λ o. fits_result F o (type_of F e)) (sym own) ∙ not-false _ (types is w a xs n p (t.Shape.returned e) h).matched in
        record {
          no_case = tt;
          taken = written_sort is v ∷ [];
          given = sort_of (ty_at is n);
          operands = fit_so (fitting.fits_sort (all_classes is) (type_of F e) (spelled F v) fit) fit_no;
          takes = takes.takes_result (allows.result may ∙ ap (option_map (written_sort is)) own);
          value = fits_itself (up is) _;
        }

    void_fits : (u : Ty) → fits (all_classes is) ty.void u ≡ true → Fits (up is) s.unit (sort_of u)
    void_fits ty.void h = s.to_any tt
    void_fits u h = absurd (cc)

    pub unit_returned : (v : Written) → At is w a xs n p t.Shape.returned_unit → a.owner.result ≡ Some v →
        (r : Sort) × (b.result ≡ Some r) × Fits (up is) s.unit r
    unit_returned v h own =
        let may : a.may_return ≡ true = not-false _ (effects is w a xs n p t.Shape.returned_unit h).stays in
        let fit : fits (all_classes is) ty.void (spelled F v) ≡ true =
        ap (λ o. fits_result F o ty.void) (sym own) ∙ not-false _ (types is w a xs n p t.Shape.returned_unit h).matched in
        (written_sort is v, allows.result may ∙ ap (option_map (written_sort is)) own, void_fits (spelled F v) fit)

    pub break_allowed : At is w a xs n p t.Shape.break_form → b.breaks ≡ true
    break_allowed h =
        let may : a.may_break ≡ true = not-false _ (effects is w a xs n p t.Shape.break_form h).stays in
        let l = allows.loop may in
        allows.breaks may l.0 l.1 ∙ h.left l.0 l.1

    -- ---- loops

    pub loop_fits : (e : Tree) → At is w a xs n p (t.Shape.loop_form e) → has_number n F.left ≡ true →
        Fits (up is) s.unit (sort_of (ty_at is n))
    loop_fits e h left = of_row is n s.unit ty.void (its_row is w a xs n p (t.Shape.loop_form e) h ∙ ap loop_type left) (s.to_any tt)

    -- ---- groups and waits

    -- an async form stands where tasks may wait
    pub async_waits : (x : Shape) → At is w a xs n p x → is_async (completed is) a x ≡ true → b.waits ≡ true
    async_waits x h e =
        let kept = effects is w a xs n p x h in
        let off = not_second (is_async (completed is) a x) _ kept.suspends e in
        let suspends : a.owner.effects.suspends ≡ true = not-false _ (or_left (not a.owner.effects.suspends) a.is_deferred off) in
        allows.waits (not_second (is_async (completed is) a x) a.is_tried kept.tried e) (or_right
        (not a.owner.effects.suspends) a.is_deferred off)
        (ap (λ q. q || Rattle.verse_effects.specs.Callees.is_lasting a.owner.effects) suspends)

    pub async_free : (x : Shape) → At is w a xs n p x → is_async (completed is) a x ≡ true → a.is_tried ≡ false
    async_free x h e = not_second (is_async (completed is) a x) a.is_tried (effects is w a xs n p x h).tried e

    pub group_several : (x : Shape) (ts : Trees) → At is w a xs n p x → alone x ≡ is_alone ts → Several ts
    group_several x ts h e = are_several ts (sym e ∙ (types is w a xs n p x h).several)

    pub sync_fits : (ts : Trees) → At is w a xs n p (t.Shape.sync ts) →
        Fits (up is) (s.tuple (sorts (sorts_at (program is arrays events) (sorted is) ts))) (sort_of (ty_at is n))
    sync_fits ts h =
        subst (λ r. Fits (up is) (s.tuple r) (sort_of (ty_at is n))) (sym (tuple_sorts is arrays events ts)) (is_row is n _
        (its_row is w a xs n p (t.Shape.sync ts) h))
