-- Forms that are applied to operands: what is taken of them passes.
use Rattle.std.proofs.Common.{◌≡◌, ℕ, suc, length, List, [], ◌∷◌, Some, Bool, true, false}
use Rattle.verse_base.specs.declared.places.Place.{Place}
use Rattle.verse_tree.specs.Tree.{Bytes}
use Rattle.verse_tree.specs.declared.exprs.Comparison.{Comparison}
use Rattle.verse_tree.specs.declared.exprs.Comparison.TheVariants as c
use Rattle.verse_tree.specs.declared.exprs.Operator.TheVariants as op
use Rattle.verse_code.specs.declared.codes.Code.{Code}
use Rattle.verse_code.specs.declared.operations.Op.{Op}
use Rattle.verse_code.specs.declared.operations.Op.TheVariants as o
use Rattle.verse_names_tables.specs.Names.{Table}
use Rattle.verse_sorts.specs.Sorts as s
use Rattle.verse_sorts.specs.Sorts.{Sort, Fits, fits_tuple, fits_task, fits_event, fits_list, from_never, fits_int, fits_opt}
use Rattle.verse_sorts.specs.Typing.{AllFit, fit_no, fit_so}
use Rattle.verse_sorts.proofs.Fitting.{fits_itself, fits_on}
use Rattle.verse_sorts_values.specs.Operands as v
use Rattle.verse_sorts_values.specs.Operands.{HasNever, never_here, never_behind}
use Rattle.verse_meaning.specs.Programs.{Program}
use Rattle.verse_meaning.specs.Residuals as form
use Rattle.verse_meaning.specs.Residuals.{Form}
use Rattle.verse_sound_rules.specs.Found as rules
use Rattle.verse_sound_rules.specs.Found.{Allowed}
use Rattle.verse_sound_rules.specs.Forms as takes
use Rattle.verse_sound_rules.specs.Forms.{Takes, Spared}
use Rattle.verse_verify_kept.specs.Notes.{Notes, parent_of}
use Rattle.verse_verify_kept.specs.Rules.{Asked, MayFail, MayWait}
use Rattle.lower_code.specs.Applied.{comparing, awaiting}
use Rattle.lower_notes.specs.States.{State}
use Rattle.lower_pass_states.proofs.Points.{pt, Even, over}
use Rattle.lower_pass_states.proofs.Meeting.{Meets}
use Rattle.lower_pass_states.proofs.Steps as step
use Rattle.lower_pass_states.proofs.Steps.{turned, never_over}
use Rattle.lower_pass_states.proofs.Operands.{has_never, never_turned, never_append, all_in, option_queried, logic_queried, list_is_counted}
use Rattle.lower_pass_states.proofs.Operands.{map_is_counted, item_in, sorts_fit, all_shown}

-- what the checker has found, where classes inherit as the notes say
abbrev pub noted_found : Notes → rules.Found → rules.Found
noted_found n f = record {
  sort = f.sort;
  key = f.key;
  is_var = f.is_var;
  up = parent_of n;
  slots = f.slots;
  signature = f.signature;
}

module _ (p : Program) (found : rules.Found) (code : Code) (notes : Notes) (al : Allowed) (xs : Table) (y : State) (even : Even y) where
  abbrev F : rules.Found
  F = noted_found notes found

  abbrev Fit : Sort → Sort → Type 0
  Fit = Fits (parent_of notes)

  abbrev Each : List Sort → List Sort → Type 0
  Each = AllFit (parent_of notes)

  abbrev pub Taken : Form → List Sort → Sort → Type 0
  Taken = Takes p F al xs

  -- the operands, the last one on top
  abbrev pub operands : List Sort → State
  operands has = over (turned has []) y

  -- where one gives no value, nothing is asked
  pub spared : {has taken : List Sort} {i : ℕ} {op : Op} → Each has taken → HasNever taken → Asked code notes i (pt (operands has)) op
  spared {has} h n = never_over code notes y even (turned has []) (never_append (turned has []) (pt y).stack
      (never_turned has [] (has_never (parent_of notes) h n)))

  module _ {i : ℕ} {q : Sort} (m : Meets code notes (over (q ∷ []) y) (suc i)) where
    abbrev Asks : List Sort → Op → Type 0
    Asks has op = Asked code notes i (pt (operands has)) op

    -- ---- operators

    pub sum_passes : {a b g : Sort} {taken : List Sort} (pl : Place) (z : ℕ) → Each (a ∷ b ∷ []) taken →
        Taken (form.computing op.Add false pl) taken g → Fit g q → Asks (a ∷ b ∷ []) (o.Add z)
    sum_passes pl z h (takes.takes_never (takes.spared_operator n)) f = spared h n
    sum_passes pl z (fit_so a (fit_so b fit_no)) takes.takes_sum f = step.add_asked code notes y even m z a b f

    pub lists_pass : {a b g : Sort} {taken : List Sort} (pl : Place) (z : ℕ) → Each (a ∷ b ∷ []) taken →
        Taken (form.computing op.Add true pl) taken g → Fit g q → Asks (a ∷ b ∷ []) (o.Concat z)
    lists_pass pl z h (takes.takes_never (takes.spared_operator n)) f = spared h n
    lists_pass pl z (fit_so a (fit_so b fit_no)) takes.takes_lists f = step.concat_asked code notes y even m z a b f

    pub difference_passes : {a b g : Sort} {taken : List Sort} (t : Bool) (pl : Place) (z : ℕ) → Each (a ∷ b ∷ []) taken →
        Taken (form.computing op.Sub t pl) taken g → Fit g q → Asks (a ∷ b ∷ []) (o.Sub z)
    difference_passes t pl z h (takes.takes_never (takes.spared_operator n)) f = spared h n
    difference_passes t pl z (fit_so a (fit_so b fit_no)) takes.takes_difference f = step.sub_asked code notes y even m z a b f

    pub product_passes : {a b g : Sort} {taken : List Sort} (t : Bool) (pl : Place) (z : ℕ) → Each (a ∷ b ∷ []) taken →
        Taken (form.computing op.Mul t pl) taken g → Fit g q → Asks (a ∷ b ∷ []) (o.Mul z)
    product_passes t pl z h (takes.takes_never (takes.spared_operator n)) f = spared h n
    product_passes t pl z (fit_so a (fit_so b fit_no)) takes.takes_product f = step.mul_asked code notes y even m z a b f

    pub minus_passes : {a g : Sort} {taken : List Sort} (pl : Place) (z : ℕ) → Each (a ∷ []) taken →
        Taken (form.negating pl) taken g → Fit g q → Asks (a ∷ []) (o.Neg z)
    minus_passes pl z (fit_so a fit_no) takes.takes_minus f = step.neg_asked code notes y even m z a f
    minus_passes pl z h (takes.takes_never n) f = elim n [ ]

    module _ (fails : al.fails ≡ true → MayFail code notes (pt y)) where
      order_passes : {a b : Sort} (x : Comparison) → takes.IsOrder x → al.fails ≡ true → Fit a s.int →
          Fit b s.int → Fit s.int q → Asks (a ∷ b ∷ []) (comparing x)
      order_passes c.Below takes.order_below e a b f = step.lt_asked code notes y even m (fails e) a b f
      order_passes c.AtMost takes.order_at_most e a b f = step.le_asked code notes y even m (fails e) a b f
      order_passes c.Above takes.order_above e a b f = step.gt_asked code notes y even m (fails e) a b f
      order_passes c.Equal h e a b f = elim h [ ]
      order_passes c.Differs h e a b f = elim h [ ]
      order_passes c.AtLeast takes.order_at_least e a b f = step.ge_asked code notes y even m (fails e) a b f

      pub comparison_passes : {a b g : Sort} {taken : List Sort} (x : Comparison) → Each (a ∷ b ∷ []) taken →
          Taken (form.comparing x) taken g → Fit g q → Asks (a ∷ b ∷ []) (comparing x)
      comparison_passes {b = b} c.Equal (fit_so a (fit_so k fit_no)) (takes.takes_equal e) f =
          step.eq_asked code notes y even m (fails e) b (fits_on (parent_of notes) a f)
      comparison_passes {b = b} c.Differs (fit_so a (fit_so k fit_no)) (takes.takes_differs e) f =
          step.ne_asked code notes y even m (fails e) b (fits_on (parent_of notes) a f)
      comparison_passes x (fit_so a (fit_so b fit_no)) (takes.takes_order w e) f = order_passes x w e a b f
      comparison_passes x h (takes.takes_never n) f = elim n [ ]

      pub query_passes : {a g : Sort} {taken : List Sort} → Each (a ∷ []) taken → Taken form.querying taken g → Fit g q →
          Asks (a ∷ []) o.Query
      query_passes h (takes.takes_never (takes.spared_query n)) f = spared h n
      query_passes (fit_so a fit_no) (takes.takes_option e) f =
          let u = option_queried code notes a in
          step.query_asked code notes y even m (fails e) u.1.0 (fits_on (parent_of notes) u.1.1 f)
      query_passes (fit_so a fit_no) (takes.takes_logic e) f =
          let u = logic_queried code notes a in
          step.query_asked code notes y even m (fails e) u.1.0 (fits_on (parent_of notes) u.1.1 f)

      pub floor_passes : {a b g : Sort} {taken : List Sort} (pl : Place) (z : ℕ) → Each (a ∷ b ∷ []) taken →
          Taken (form.flooring pl) taken g → Fit g q → Asks (a ∷ b ∷ []) (o.Floor z)
      floor_passes pl z (fit_so a (fit_so b fit_no)) (takes.takes_floor e) f = step.floor_asked code notes y even m (fails e) z a b f
      floor_passes pl z h (takes.takes_never n) f = elim n [ ]

      pub ceiling_passes : {a b g : Sort} {taken : List Sort} (pl : Place) (z : ℕ) → Each (a ∷ b ∷ []) taken →
          Taken (form.ceiling pl) taken g → Fit g q → Asks (a ∷ b ∷ []) (o.Ceil z)
      ceiling_passes pl z (fit_so a (fit_so b fit_no)) (takes.takes_ceiling e) f = step.ceil_asked code notes y even m (fails e) z a b f
      ceiling_passes pl z h (takes.takes_never n) f = elim n [ ]

      pub modulo_passes : {a b g : Sort} {taken : List Sort} → Each (a ∷ b ∷ []) taken → Taken form.taking_modulo taken g →
          Fit g q → Asks (a ∷ b ∷ []) o.Mod
      modulo_passes (fit_so a (fit_so b fit_no)) (takes.takes_modulo e) f = step.mod_asked code notes y even m (fails e) a b f
      modulo_passes h (takes.takes_never n) f = elim n [ ]

    -- ---- members and values that are made

    pub length_passes : {a g : Sort} {taken : List Sort} → Each (a ∷ []) taken → Taken form.measuring taken g → Fit g q →
        Asks (a ∷ []) o.Length
    length_passes h (takes.takes_never (takes.spared_length n)) f = spared h n
    length_passes (fit_so a fit_no) takes.takes_list_length f =
        step.length_asked code notes y even m (list_is_counted code notes a) f
    length_passes (fit_so a fit_no) takes.takes_map_length f =
        step.length_asked code notes y even m (map_is_counted code notes a) f

    pub print_passes : {a g : Sort} {taken : List Sort} (pl : Place) (z : ℕ) → Each (a ∷ []) taken →
        Taken (form.printing pl) taken g → Fit g q → Asks (a ∷ []) (o.Print z)
    print_passes pl z (fit_so a fit_no) takes.takes_line f = step.print_asked code notes y even m z a f
    print_passes pl z h (takes.takes_never n) f = elim n [ ]

    pub tuple_passes : {has taken : List Sort} {g : Sort} (pl : Place) (n z : ℕ) → n ≡ length has → Each has taken →
        Taken (form.making_tuple pl) taken g → Fit g q → Asks has (o.Tuple n z)
    tuple_passes {has} pl n z e h takes.takes_tuple f =
        step.tuple_asked code notes y even m n z has e (fits_on (parent_of notes) (fits_tuple (sorts_fit code notes h)) f)
    tuple_passes pl n z e h (takes.takes_never k) f = elim k [ ]

    pub array_passes : {has taken : List Sort} {g : Sort} (pl : Place) (n z : ℕ) → n ≡ length has → Each has taken →
        Taken (form.making_array pl) taken g → Fit g q → Asks has (o.Array n z)
    array_passes {has} pl n z e h (takes.takes_array k) f = step.array_asked code notes y even m n z has e (all_in code notes h k) f
    array_passes pl n z e h (takes.takes_never k) f = elim k [ ]

    pub join_passes : {has taken : List Sort} {g : Sort} (ys : List Bytes) (pl : Place) (n z : ℕ) → n ≡ length has → Each has taken →
        Taken (form.joining ys pl) taken g → Fit g q → Asks has (o.Join n z)
    join_passes {has} ys pl n z e h (takes.takes_texts k) f = step.join_asked code notes y even m n z has e (all_shown code notes h k) f
    join_passes ys pl n z e h (takes.takes_never k) f = elim k [ ]

    pub item_passes : {a g : Sort} {taken : List Sort} (k : ℕ) → Each (a ∷ []) taken → Taken (form.picking (Some k)) taken g →
        Fit g q → Asks (a ∷ []) (o.Item k)
    item_passes k h (takes.takes_never takes.spared_item) f = spared h never_here
    item_passes {a} k (fit_so t fit_no) (takes.takes_item e) f = by_sort t e f
      where
        by_sort : {b g : Sort} {qs : s.Sorts} → Fit b (s.tuple qs) → v.sort_in qs k ≡ Some g → Fit g q → Asks (b ∷ []) (o.Item k)
        by_sort from_never e f = spared (fit_so from_never fit_no) never_here
        by_sort (fits_tuple {ss = ss} h) e f = let u = item_in code notes k h e in
            step.item_asked code notes y even m k ss u.1.0 (fits_on (parent_of notes) u.1.1 f)

    -- ---- tasks

    module _ (waits : al.waits ≡ true → MayWait code notes (pt y)) where
      await_task_passes : {a b : Sort} → al.waits ≡ true → Fit a (s.task b) → Fit b q → Asks (a ∷ []) o.AwaitTask
      await_task_passes e from_never f = spared (fit_so from_never fit_no) never_here
      await_task_passes e (fits_task g) f = step.await_task_asked code notes y even m (waits e) (fits_on (parent_of notes) g f)

      await_event_passes : {a b : Sort} → al.waits ≡ true → Fit a (s.event b) → Fit b q → Asks (a ∷ []) o.AwaitEvent
      await_event_passes e from_never f = spared (fit_so from_never fit_no) never_here
      await_event_passes e fits_event f = step.await_event_asked code notes y even m (waits e) f

      pub await_passes : {a g : Sort} {taken : List Sort} (t : Bool) → Each (a ∷ []) taken → Taken (form.awaiting t) taken g →
          Fit g q → Asks (a ∷ []) (awaiting t)
      await_passes t h (takes.takes_never takes.spared_await) f = spared h never_here
      await_passes false (fit_so a fit_no) (takes.takes_task e) f = await_task_passes e a f
      await_passes true (fit_so a fit_no) (takes.takes_event e) f = await_event_passes e a f

      -- with arguments that fall away
      pub await_any_passes : {a g : Sort} {has taken : List Sort} (t : Bool) → Each (a ∷ has) taken → Taken (form.awaiting t) taken g →
          Fit g q → Asks (a ∷ []) (awaiting t)
      await_any_passes t (fit_so a h) (takes.takes_never takes.spared_await) f = spared (fit_so a fit_no) never_here
      await_any_passes false (fit_so a fit_no) (takes.takes_task e) f = await_task_passes e a f
      await_any_passes true (fit_so a fit_no) (takes.takes_event e) f = await_event_passes e a f

      event_signalled : {a b d : Sort} → al.waits ≡ true → Fit a (s.event d) → Fit b d → Fit s.unit q → Asks (a ∷ b ∷ []) o.Signal
      event_signalled e from_never g f = spared (fit_so from_never (fit_so g fit_no)) never_here
      event_signalled e fits_event g f = step.signal_asked code notes y even m (waits e) g f

      pub signal_passes : {a b g : Sort} {taken : List Sort} → Each (a ∷ b ∷ []) taken → Taken form.signalling taken g →
          Fit g q → Asks (a ∷ b ∷ []) o.Signal
      signal_passes h (takes.takes_never takes.spared_signal) f = spared h never_here
      signal_passes (fit_so a k) (takes.takes_bare_signal e u) f = elim k [ ]
      signal_passes (fit_so a (fit_so b fit_no)) (takes.takes_signal e) f = event_signalled e a b f

      pub signal_any_passes : {a b g : Sort} {has taken : List Sort} → Each (a ∷ b ∷ has) taken → Taken form.signalling taken g →
          Fit g q → Asks (a ∷ b ∷ []) o.Signal
      signal_any_passes {b = b} (fit_so a h) (takes.takes_never takes.spared_signal) f =
          spared (fit_so a (fit_so (fits_itself (parent_of notes) b) fit_no)) never_here
      signal_any_passes (fit_so a k) (takes.takes_bare_signal e u) f = elim k [ ]
      signal_any_passes (fit_so a (fit_so b fit_no)) (takes.takes_signal e) f = event_signalled e a b f

      pub bare_signal_passes : {a g : Sort} {taken : List Sort} → Each (a ∷ []) taken → Taken form.signalling taken g →
          Fit g q → Asks (a ∷ s.unit ∷ []) o.Signal
      bare_signal_passes (fit_so a fit_no) (takes.takes_never takes.spared_signal) f =
          spared (fit_so a (fit_so (fits_itself (parent_of notes) s.unit) fit_no)) never_here
      bare_signal_passes (fit_so a fit_no) (takes.takes_bare_signal e u) f = event_signalled e a u f
