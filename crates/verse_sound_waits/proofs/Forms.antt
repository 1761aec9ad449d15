-- The forms with operands do not rest.
use Rattle.std.proofs.Common.{◌≡◌, ℕ, zero, suc, Bool, true, false, List, [], ◌∷◌, ◌++◌, Option, Some, None, refl, sym}
use Rattle.std.proofs.Common.{subst, ◌∙◌, append_assoc}
use Rattle.std.proofs.lemmas.List.{append-nil}
use Rattle.verse_base.specs.declared.places.Place.{Place}
use Rattle.verse_tree.specs.Tree.{Bytes, Tree}
use Rattle.verse_tree.specs.ItemTree.{FieldTree, FunTree}
use Rattle.verse_value.specs.Val.{Val}
use Rattle.verse_value.specs.declared.modes.Mode.{Mode}
use Rattle.verse_names_tables.specs.Names.{Table}
use Rattle.verse_sorts.specs.Sorts as s
use Rattle.verse_sorts.specs.Sorts.{Sort, fits_obj}
use Rattle.verse_sorts.specs.Typing.{Typing, Grows, Is, Are, AllFit, fit_so, are_no, are_so}
use Rattle.verse_sorts.proofs.Fitting.{is_more, is_up, are_more, are_up, grows_itself, grows_on, fits_on, fits_itself}
use Rattle.verse_meaning.specs.Programs.{Program, fun_at, method_at, fields_of}
use Rattle.verse_meaning.specs.Residuals as form
use Rattle.verse_meaning.specs.Residuals.{Env, Form, Base, in_variable, in_self, in_object, nowhere, filling, Binder}
use Rattle.verse_meaning.specs.Residuals.{no_name, a_constant, a_variable, constant, variable}
use Rattle.verse_meaning.specs.Outcomes.{World, set_behind, if_there}
use Rattle.verse_meaning.specs.Forms.{Deeper, apply, filled, field_filled, method_found, method_called, this_of, stored}
use Rattle.verse_meaning.specs.Forms.{look, cell_of, written_to}
use Rattle.verse_meaning.specs.Evaluating.{ev}
use Rattle.verse_meaning.specs.Runs.{deeper, with_params, with_this}
use Rattle.verse_meaning.specs.Laws.{ContextLeaves, ContextUndoes, CancelLeaves}
use Rattle.verse_sound_rules.specs.Found.{Found, Allowed, in_default}
use Rattle.verse_sound_rules.specs.Forms as r
use Rattle.verse_sound_rules.specs.Forms.{Filled, filled_no, filled_given, filled_by_default, Callable, Takes, Gives}
use Rattle.verse_sound_rules.specs.Forms.{IsDefault}
use Rattle.verse_sound_rules.specs.Fine.{sort_at}
use Rattle.verse_sound_rules.specs.Programs.{FineFound, FineDefault, Overrides}
use Rattle.verse_sound_trees.specs.Names.{HasThis, no_this, this_is, Sees}
use Rattle.verse_sound_trees.specs.Outcomes.{any_names}
use Rattle.verse_sound_trees.specs.Going.{turns, Kept, Comes}
use Rattle.verse_sound_trees.proofs.Names.{sees_more}
use Rattle.verse_sound_trees.proofs.Worlds.{cells_of}
use Rattle.verse_sound_trees.proofs.Going.{told_typed}
use Rattle.verse_sorts_values.specs.Operands.{HasNever, never_here}
use Rattle.verse_sound_trees.proofs.Leaves.{no_never, Given, is_given, is_not_given, given_typed}
use Rattle.verse_sound_trees.proofs.Objects.{Object_of, object_of, object_there}
use Rattle.verse_sound_trees.proofs.Storing.{variable_told}
use Rattle.verse_sound_trees.proofs.Operands.{list_args}
use Rattle.verse_sound_trees.proofs.Applying.{this_there}
use Rattle.verse_sound_trees.proofs.Trees.{ev_well}
use Rattle.verse_sound_runs.proofs.Calls.{known_at, turns_deep, at_top, sees_this}
use Rattle.verse_sound_effects.specs.Opening.{OpenAndClosed}
use Rattle.verse_sound_waits.specs.Waits.{Stays, FormStays}
use Rattle.verse_sound_waits.specs.Calls.{Marked}
use Rattle.verse_sound_waits.proofs.Passing.{told_stays, plain_stays, there_stays, known_stays, outside_stays}
use Rattle.verse_sound_waits.proofs.Passing.{started_stays, spent_stays, called_stays, opened_stays, valued_stays}
use Rattle.verse_sound_waits.proofs.Passing.{spends_stays}
use Rattle.verse_sound_waits.proofs.Turns.{Good}

-- a spawned call rests behind, and not here
pub spawns_stay : (p : Program) (g h : ℕ) (o : Option Val) (vs : List Val) (e : Env) (w : World) →
    Stays ((deeper p g).spawns h o vs e w)
spawns_stay p zero h o vs e w =
    known_stays (fun_at p h) w _ (λ fn a. known_stays (with_params fn.params vs (with_this o)) w _ (λ e1 b. tt))
spawns_stay p (suc g) h o vs e w =
    known_stays (fun_at p h) w _ (λ fn a. known_stays (with_params fn.params vs (with_this o)) w _ (λ e1 b.
    spent_stays w.state.clock.left w _ (λ z. started_stays e _ _)))

written_stays : (p : Program) (k : Deeper) (c : Option Val) (slot : ℕ) (vs : List Val) (m : Mode) (pl : Place) (e : Env)
    (w : World) → Stays (written_to p k c slot vs m pl e w)
written_stays p k None slot vs m pl e w = tt
written_stays p k (Some c) slot [] m pl e w = tt
written_stays p k (Some c) slot (x ∷ vs) m pl e w = told_stays _ pl e w

stored_stays : (p : Program) (k : Deeper) (b : Base) (vs : List Val) (m : Mode) (pl : Place) (e : Env) (w : World) →
    Stays (stored p k b vs m pl e w)
stored_stays p k (in_variable x) vs m pl e w = written_stays p k (cell_of (look x e)) 0 vs m pl e w
stored_stays p k (in_self slot) vs m pl e w = written_stays p k (this_of e) slot vs m pl e w
stored_stays p k (in_object slot) [] m pl e w = tt
stored_stays p k (in_object slot) (x ∷ vs) m pl e w = written_stays p k (Some x) slot vs m pl e w
stored_stays p k nowhere vs m pl e w = tt

module _ (p : Program) (f : Found) (suspends : ℕ → Bool) (class : Option ℕ) where
  -- a form of operands of sorts that fit others
  pub stays_taken : (x : Form) (qs rs : List Sort) → AllFit f.up qs rs → FormStays p f suspends class x qs →
      FormStays p f suspends class x rs
  stays_taken (form.calling_method m) (q ∷ qs) (r ∷ rs) (fit_so h hs) i = λ c g fits. i c g (fits_on f.up h fits)
  stays_taken (form.calling_method m) [] rs h i = absurd i
  stays_taken (form.calling_method m) (q ∷ qs) [] h i = elim h [ ]
  stays_taken (form.calling g) qs rs h i = i
  stays_taken (form.calling_own m) qs rs h i = i
  stays_taken (form.awaiting e) qs rs h i = i
  stays_taken x qs rs h i = tt

  -- of more operands
  pub stays_with : (x : Form) (q : Sort) (qs : List Sort) → FormStays p f suspends class x (q ∷ []) →
      FormStays p f suspends class x (q ∷ qs)
  stays_with (form.calling_method m) q qs i = i
  stays_with (form.calling g) q qs i = i
  stays_with (form.calling_own m) q qs i = i
  stays_with (form.awaiting e) q qs i = i
  stays_with x q qs i = tt

  pub stays_any : (x : Form) (qs : List Sort) → FormStays p f suspends class x [] → FormStays p f suspends class x qs
  stays_any (form.calling_method m) qs i = absurd i
  stays_any (form.calling g) qs i = i
  stays_any (form.calling_own m) qs i = i
  stays_any (form.awaiting e) qs i = i
  stays_any x qs i = tt

module _ (p : Program) (f : Found) (n : ℕ) (leave : (g : ℕ) → ContextLeaves p g)
    (undo : (g : ℕ) → ContextUndoes p (deeper p g)) (cancel : (g : ℕ) → CancelLeaves p (deeper p g))
    (agree : (g : ℕ) → OpenAndClosed p (deeper p g)) (fine : FineFound p f) (suspends : ℕ → Bool)
    (marked : Marked p f suspends) where
  -- the default of a field, which is evaluated as where nothing may wait
  pub defaults_stay : (g : ℕ) (t : Typing) (b : Tree) (q : Sort) (m : Bool) (e : Env) (w : World) → IsDefault p f b q →
      Kept p f (turns n) t w → Stays ((deeper p g).defaults b m e w)
  defaults_stay zero t b q m e w h k = tt
  defaults_stay (suc g) t b q m e w h k = spends_stays p f n w w.state.clock.left _ k (λ z kz.
      called_stays p (deeper p g) z.behind e _ (by m z (record {
        cells = kz.cells;
        clock = kz.clock;
        behind = tt;
        tasks
            = kz.tasks;
      })))
    where
      d : FineDefault p f b q
      d = fine.defaults b q h

      comes : (z : World) → Kept p f (turns n) t z →
          Comes p f (turns n) any_names t (in_default false) (sort_at p f b) (ev p (deeper p g) b false [] z)
      comes z kz = ev_well p f (turns n) g (known_at p f leave undo cancel fine n g) b (in_default false) [] t []
          (d.value false) (sees_this p f t None None no_this) (turns n) g (at_top p f leave undo cancel fine n g) tt t z
          grows_itself kz

      by : (m : Bool) (z : World) → Kept p f (turns n) t (set_behind z Rattle.verse_meaning.specs.Residuals.none) →
          Stays (ev p (deeper p g) b m [] (set_behind z Rattle.verse_meaning.specs.Residuals.none))
      by true z kz = opened_stays p f n refl (comes _ kz) ((agree g).form b [] _)
      by false z kz = Rattle.verse_sound_waits.proofs.Passing.calm_stays p f n refl (comes _ kz)

  value_given : {t : Typing} {q : Sort} {m : Option Val} {o : Option Sort} → o ≡ Some q → Given f.up t m o →
      (y : Val) × (m ≡ Some y) × Is f.up t y q
  value_given {t} h (is_given {w} {q} i) = (w, refl, subst (λ z. Is f.up t w z) (same _ _ h) i)
    where
      same : (a b : Sort) → Some a ≡ Some b → a ≡ b
      same a b h = cc
  value_given h is_not_given = cc

  none_given : {t : Typing} {m : Option Val} {o : Option Sort} → o ≡ None → Given f.up t m o → m ≡ None
  none_given h (is_given i) = cc
  none_given h is_not_given = refl

  module _ (g : ℕ) (a : Allowed) where
    -- the default of a field comes to a value of its sort
    default_comes : (t : Typing) (b : Tree) (q : Sort) (e : Env) (w : World) → IsDefault p f b q →
        Kept p f (turns n) t w → Comes p f (turns n) any_names t a q ((deeper p g).defaults b a.waits e w)
    default_comes t b q e w h k = (turns_deep p f leave undo cancel fine n g).defaults t a b q e w h tt k

    filled_stays : (c : ℕ) (ys : List Bytes) (pl : Place) (e : Env) (vs : List Val) (qs : List Sort)
        (fs : List FieldTree) (rs : List Sort) (t : Typing) (ss : List Val) → Filled p f ys qs fs rs →
        Are f.up t vs qs → (w : World) → Kept p f (turns n) t w →
        Stays (filled p (deeper p g) fs ys vs c ss pl a.waits e w)
    filled_stays c ys pl e vs qs [] rs t ss filled_no are w k = told_stays _ pl e w
    filled_stays c ys pl e vs qs (d ∷ fs) rs t ss (filled_given q {r} {rs = more} i j h) are w k =
        let y = value_given i (given_typed f.up t d.name ys are) in
        subst (λ m. Stays (field_filled p (deeper p g) m d.default a.waits e w (filling e c pl fs ys vs ss)
        (λ x z. filled p (deeper p g) fs ys vs c (ss ++ x ∷ []) pl a.waits e z))) (sym y.1)
        (filled_stays c ys pl e vs qs fs more t (ss ++ y.0 ∷ []) h are w k)
    filled_stays c ys pl e vs qs (d ∷ fs) rs t ss (filled_by_default b {r} {rs = more} i j h m) are w k =
        subst (λ o. Stays (field_filled p (deeper p g) o d.default a.waits e w (filling e c pl fs ys vs ss)
        (λ x z. filled p (deeper p g) fs ys vs c (ss ++ x ∷ []) pl a.waits e z)))
        (sym (none_given i (given_typed f.up t d.name ys are)))
        (subst (λ o. Stays (field_filled p (deeper p g) None o a.waits e w (filling e c pl fs ys vs ss)
        (λ x z. filled p (deeper p g) fs ys vs c (ss ++ x ∷ []) pl a.waits e z))) (sym j)
        (valued_stays p f n (filling e c pl fs ys vs ss) _ (default_comes t b r e w h k)
        (defaults_stay g t b r a.waits e w h k)
        (λ u x z gr kz i1. filled_stays c ys pl e vs qs fs more u (ss ++ x ∷ []) m (are_more f.up gr are) z kz)))

  -- what is asked of calls
  abbrev pub CallsStay : ℕ → Type 0
  CallsStay g = (t : Typing) (h : ℕ) (function : FunTree) (o : Option Val) (vs : List Val) (m : Bool) (e : Env)
      (w : World) → fun_at p h ≡ Some function → suspends h ≡ false → ((f.signature h).lasts ≡ true → m ≡ true) →
      HasThis f t (f.signature h).this o → Are f.up t vs (f.signature h).params → Kept p f (turns n) t w →
      Stays ((deeper p g).calls h o vs m e w)

  module _ (g : ℕ) (calls : CallsStay g) (a : Allowed) (xs : Table) where
    method_stays : (t : Typing) (e : Env) (w : World) (c h m : ℕ) (x : Val) (vs : List Val) → method_at p c m ≡ Some h →
        suspends h ≡ false → Callable p f a xs h → Is f.up t x (s.obj c) → Are f.up t vs (f.signature h).params →
        Kept p f (turns n) t w → Stays (method_called p (deeper p g) m x vs a.waits e w)
    unfolding if_there
    method_stays t e w c h m x vs i quiet call j are k = by (object_there p f fine t c w x j
        (cells_of p f (turns n) t w k))
      where
        by : Object_of p f fine t c w.state x → Stays (method_called p (deeper p g) m x vs a.waits e w)
        by (object_of {d} z inh y) =
            let o : Overrides p f d h m = fine.methods d c h m inh i in
            subst (λ q. Stays (if_there (method_found p (deeper p g) q m) w
            (λ fn. (deeper p g).calls fn (Some x) vs a.waits e w))) (sym z)
            (subst (λ q. Stays (if_there q w (λ fn. (deeper p g).calls fn (Some x) vs a.waits e w))) (sym o.method)
            (calls t o.by o.function (Some x) vs a.waits e w o.found
            (marked.overrides d c h o.by m inh i o.method quiet)
            (λ q. call.waits (sym o.lasts ∙ q))
            (subst (λ q. HasThis f t q (Some x)) (sym o.this) (this_is (is_up f.up y (fits_obj o.inherits))))
            (subst (λ q. Are f.up t vs q) (sym o.params) are) k))

    -- what is spared has an operand that gives no value
    spared_never : {x : Form} {qs : List Sort} → r.Spared p f a xs x qs → HasNever qs
    spared_never (r.spared_operator h) = h
    spared_never (r.spared_query h) = h
    spared_never (r.spared_length h) = h
    spared_never (r.spared_member h) = h
    spared_never (r.spared_place os q place h) = h
    spared_never r.spared_item = never_here
    spared_never r.spared_index = never_here
    spared_never r.spared_await = never_here
    spared_never r.spared_signal = never_here

    pub apply_stays : (t : Typing) (e : Env) (w : World) (x : Form) (qs : List Sort) (b : Sort) (vs : List Val) →
        Sees f t a.this xs e → Takes p f a xs x qs b → FormStays p f suspends a.this x qs → Are f.up t vs qs →
        Kept p f (turns n) t w → Stays (apply p (deeper p g) x vs a.waits e w)
    apply_stays t e w x qs b vs see (r.takes_never h) i are k = no_never f.up t (spared_never h) are
    apply_stays t e w x qs b vs see r.takes_and i (are_so j (are_so l are_no)) k = told_stays _ _ e w
    apply_stays t e w x qs b vs see r.takes_sum i (are_so j (are_so l are_no)) k = told_stays _ _ e w
    apply_stays t e w x qs b vs see r.takes_lists i (are_so j (are_so l are_no)) k = told_stays _ _ e w
    apply_stays t e w x qs b vs see r.takes_difference i (are_so j (are_so l are_no)) k = told_stays _ _ e w
    apply_stays t e w x qs b vs see r.takes_product i (are_so j (are_so l are_no)) k = told_stays _ _ e w
    apply_stays t e w x qs b vs see (r.takes_equal h) i (are_so j (are_so l are_no)) k = plain_stays _ e w
    apply_stays t e w x qs b vs see (r.takes_differs h) i (are_so j (are_so l are_no)) k = plain_stays _ e w
    apply_stays t e w x qs b vs see (r.takes_order o h) i (are_so j (are_so l are_no)) k = plain_stays _ e w
    apply_stays t e w x qs b vs see r.takes_minus i (are_so j are_no) k = told_stays _ _ e w
    apply_stays t e w x qs b vs see (r.takes_option h) i (are_so j are_no) k = plain_stays _ e w
    apply_stays t e w x qs b vs see (r.takes_logic h) i (are_so j are_no) k = plain_stays _ e w
    apply_stays t e w x qs b vs see (r.takes_object h) i (are_so j are_no) k = plain_stays _ e w
    apply_stays t e w x qs b vs see r.takes_list_length i (are_so j are_no) k = plain_stays _ e w
    apply_stays t e w x qs b vs see r.takes_map_length i (are_so j are_no) k = plain_stays _ e w
    apply_stays t e w x qs b vs see r.takes_tuple i are k = told_stays _ _ e w
    apply_stays t e w x qs b vs see (r.takes_array h) i are k = told_stays _ _ e w
    apply_stays t e w x qs b vs see (r.takes_map h j) i are k = told_stays _ _ e w
    apply_stays t e w x qs b vs see (r.takes_texts h) i are k = told_stays _ _ e w
    apply_stays t e w x qs b vs see (r.takes_item h) i (are_so j are_no) k = plain_stays _ e w
    apply_stays t e w x qs b vs see (r.takes_index h o) i (are_so j (are_so l are_no)) k = plain_stays _ e w
    apply_stays t e w x qs b vs see (r.takes_arguments {g = h} call o) i are k =
        calls t h call.function None vs a.waits e w call.found i call.waits
        (subst (λ q. HasThis f t q None) (sym o) no_this) are k
    apply_stays t e w x qs b vs see (r.takes_own c h {m} o j call) i are k = known_stays (this_of e) w _ (λ y is.
        let z = this_there p f o see.this in
        method_stays t e w c h m y vs j (i c h o j) call (subst (λ q. Is f.up t q (s.obj c)) (same z.0 y (sym z.1 ∙ is))
        z.2)
        are k)
      where
        same : (x y : Val) → Some x ≡ Some y → x ≡ y
        same x y h = cc
    apply_stays t e w x qs b vs see (r.takes_method {c} h {m} j call) i (are_so {w = y} {vs = ws} l are) k =
        method_stays t e w c h m y ws j (i c h (fits_itself f.up (s.obj c)) j) call l are k
    apply_stays t e w x qs b vs see r.takes_line i (are_so j are_no) k = told_stays _ _ e w
    apply_stays t e w x qs b vs see (r.takes_floor h) i (are_so j (are_so l are_no)) k = told_stays _ _ e w
    apply_stays t e w x qs b vs see (r.takes_ceiling h) i (are_so j (are_so l are_no)) k = told_stays _ _ e w
    apply_stays t e w x qs b vs see (r.takes_modulo h) i (are_so j (are_so l are_no)) k = plain_stays _ e w
    apply_stays t e w x qs b vs see (r.takes_task h) i are k = absurd i
    apply_stays t e w x qs b vs see (r.takes_event h) i are k = absurd i
    apply_stays t e w x qs b vs see (r.takes_signal h) i (are_so j (are_so l are_no)) k =
        outside_stays a.waits w _ (plain_stays _ e w)
    apply_stays t e w x qs b vs see (r.takes_bare_signal h o) i (are_so j are_no) k =
        outside_stays a.waits w _ (plain_stays _ e w)
    apply_stays t e w x qs b vs see (r.takes_spawned {g = h} call o) i are k =
        outside_stays a.waits w _ (spawns_stay p g h None vs e w)
    apply_stays t e w x qs b vs see (r.takes_spawned_own c h o j call) i are k =
        outside_stays a.waits w _ (known_stays (this_of e) w _ (λ y is. there_stays _ w _
        (λ fn found. spawns_stay p g fn (Some y) vs e w)))
    apply_stays t e w x qs b vs see (r.takes_spawned_method h j call) i (are_so {w = y} {vs = ws} l are) k =
        outside_stays a.waits w _ (there_stays _ w _ (λ fn found. spawns_stay p g fn (Some y) ws e w))
    apply_stays t e w x qs b vs see (r.takes_place {b = base} {x = m} {pl} os is q v1 r1 h path how o) i are k =
        stored_stays p (deeper p g) base vs m pl e w
    apply_stays t e w x qs b vs see (r.takes_fields {c} {ys} {pl} h) i are k =
        filled_stays g a c ys pl e vs qs (fields_of p c) (f.slots c) t [] h are w k
    apply_stays t e w x qs b vs see r.takes_defined i (are_so j are_no) k = tt
    apply_stays t e w x qs b vs see (r.takes_varying {pl} {q}) i (are_so {w = y} j are_no) k =
        valued_stays p f n {a = a} (λ z. z) _ (told_typed p f (turns n) pl e k (variable_told p f (turns n) a y k j))
        (told_stays _ pl e w) (λ u c z gr kz l. tt)
    apply_stays t e w x qs b vs see (r.takes_result h) i (are_so j are_no) k = tt

    abbrev pub AllGood : Typing → Env → List Tree → List Sort → Type 0
    AllGood t e [] [] = Unit {0}
    AllGood t e (b ∷ ts) (q ∷ qs) = Good p f n t a q (λ w. ev p (deeper p g) b a.waits e w) × AllGood t e ts qs
    AllGood t e ts qs = ⊥

    all_good_more : (t u : Typing) (e : Env) (ts : List Tree) (qs : List Sort) → Grows t u → AllGood t e ts qs →
        AllGood u e ts qs
    all_good_more t u e [] [] h i = tt
    all_good_more t u e (b ∷ ts) (q ∷ qs) h i =
        (λ o w gr k. i.0 o w (grows_on h gr) k, all_good_more t u e ts qs h i.1)
    all_good_more t u e [] (q ∷ qs) h i = absurd i
    all_good_more t u e (b ∷ ts) [] h i = absurd i

    list_stays : (e : Env) (x : Form) (ts : List Tree) (qs : List Sort) (vs : List Val) (t : Typing) →
        AllGood t e ts qs → ((u : Typing) (ys : List Val) (w : World) → Grows t u → Are f.up u ys qs →
        Kept p f (turns n) u w → Stays (apply p (deeper p g) x (vs ++ ys) a.waits e w)) → (w : World) →
        Kept p f (turns n) t w → Stays (list_args p (deeper p g) e x vs ts a.waits w)
    list_stays e x [] [] vs t h i w k =
        subst (λ z. Stays (apply p (deeper p g) x z a.waits e w)) (append-nil vs) (i t [] w grows_itself are_no k)
    list_stays e x (b ∷ ts) (q ∷ qs) vs t h i w k =
        let y = h.0 t w grows_itself k in
        valued_stays p f n _ _ y.0 y.1 (λ u y1 z gr kz j.
        list_stays e x ts qs (vs ++ y1 ∷ []) u (all_good_more t u e ts qs gr h.1)
        (λ o ys z1 g1 are k1. subst (λ z3. Stays (apply p (deeper p g) x z3 a.waits e z1))
        (sym (append_assoc vs (y1 ∷ []) ys))
        (i o (y1 ∷ ys) z1 (grows_on gr g1) (are_so (is_more f.up g1 j) are) k1)) z kz)
    list_stays e x [] (q ∷ qs) vs t h i w k = absurd h
    list_stays e x (b ∷ ts) [] vs t h i w k = absurd h

    -- with operands in turn
    pub form_stays : (t : Typing) (e : Env) (x : Form) (has : List Sort) (d : Sort) (ts : List Tree) →
        Gives p f a xs x has d → FormStays p f suspends a.this x has → Sees f t a.this xs e → AllGood t e ts has →
        (u : Typing) (w : World) → Grows t u → Kept p f (turns n) u w →
        Stays (list_args p (deeper p g) e x [] ts a.waits w)
    form_stays t e x has d ts h i see all u w gr k =
        list_stays e x ts has [] u (all_good_more t u e ts has gr all)
        (λ o ys z g1 are k1. apply_stays o e z x h.taken h.given ys (sees_more f (grows_on gr g1) see) h.takes
        (stays_taken p f suspends a.this x has h.taken h.operands i) (are_up f.up are h.operands) k1) w k
