-- Each form with operands comes to a value of its sort.
use Rattle.std.proofs.Common.{◌≡◌, ◌≢◌, ℕ, Bool, true, false, List, [], ◌∷◌, ◌++◌, Option, Some, None, cond, refl, sym, subst}
use Rattle.std.proofs.Common.{◌∙◌, append_assoc}
use Rattle.std.proofs.lemmas.List.{append-nil}
use Rattle.verse_base.specs.declared.places.Place.{Place}
use Rattle.verse_base.specs.declared.refusals.Kind.TheVariants as kind
use Rattle.verse_tree.specs.Tree.{Bytes, Tree}
use Rattle.verse_tree.specs.ItemTree.{FieldTree}
use Rattle.verse_tree.specs.declared.exprs.Comparison.{Comparison}
use Rattle.verse_value.specs.Val as v
use Rattle.verse_value.specs.Val.{Val}
use Rattle.verse_value.specs.Answer.{Answer}
use Rattle.verse_value.specs.declared.modes.Mode.{Mode}
use Rattle.verse_meaning_state.specs.Effects.{line_printed, text_printed, line_told}
use Rattle.verse_names_tables.specs.Names.{Table}
use Rattle.verse_sorts.specs.Sorts as s
use Rattle.verse_sorts.specs.Sorts.{Sort, fits_obj, fits_task}
use Rattle.verse_sorts.specs.Typing.{Typing, Is, Are, are_no, are_so, is_list, is_unit}
use Rattle.verse_sorts.proofs.Fitting.{is_more, is_up, are_more, are_up, adds_itself}
use Rattle.verse_sorts_values.specs.Operands.{Path, HasNever, never_here}
use Rattle.verse_sorts_values.specs.Answers.{answers, answers_error, OfSort}
use Rattle.verse_sorts_values.proofs.Numbers as numbers
use Rattle.verse_sorts_values.proofs.Values as values
use Rattle.verse_sorts_values.proofs.Making as making
use Rattle.verse_meaning.specs.Programs.{Program, method_at, fields_of}
use Rattle.verse_meaning.specs.Residuals.{Env, Form, Base, filling}
use Rattle.verse_meaning.specs.Outcomes as o
use Rattle.verse_meaning.specs.Outcomes.{World, Outcome, valued, told, if_there, if_known}
use Rattle.verse_meaning.specs.Forms.{apply, compared, filled, field_filled, method_found, method_called}
use Rattle.verse_meaning.specs.Forms.{method_spawned, this_of, stored}
use Rattle.verse_meaning.specs.Forms.{look, cell_of, written_to}
use Rattle.verse_meaning.specs.Runs.{deeper}
use Rattle.verse_sound_rules.specs.Found.{Found, Allowed}
use Rattle.verse_sound_rules.specs.Forms as r
use Rattle.verse_sound_rules.specs.Forms.{IsOrder, order_below, order_at_most, order_above, order_at_least, Filled, filled_no}
use Rattle.verse_sound_rules.specs.Forms.{filled_given}
use Rattle.verse_sound_rules.specs.Forms.{filled_by_default, Placed, in_local, in_own, in_field, Callable, CanBeSpawned, Takes, Gives}
use Rattle.verse_sound_rules.specs.Programs.{Overrides}
use Rattle.verse_sound_trees.specs.Names.{HasThis, no_this, this_is, Sees}
use Rattle.verse_sound_trees.specs.Outcomes.{any_names, returns}
use Rattle.verse_sound_trees.specs.Going.{Level, Kept, Ready, Comes, Within}
use Rattle.verse_sound_trees.proofs.Worlds.{cells_of, later_itself, calm_itself}
use Rattle.verse_sound_trees.proofs.Going.{Tells, told_typed, plain_typed, still_told, gives_value, up_to, Frames, then}
use Rattle.verse_sound_trees.proofs.Names.{sees_more}
use Rattle.verse_sound_trees.specs.Deep.{Known}
use Rattle.verse_sound_trees.proofs.Leaves.{no_never, Parted, parted, part, as_empty, are_joined, in_pairs, Woven, woven_are, weave, Given}
use Rattle.verse_sound_trees.proofs.Leaves.{is_given}
use Rattle.verse_sound_trees.proofs.Leaves.{is_not_given, given_typed}
use Rattle.verse_sound_trees.proofs.Suspending.{task_typed, event_typed, signal_typed, outside_typed}
use Rattle.verse_sound_trees.proofs.Objects.{Object_of, object_of, object_there, field_there, slot_told}
use Rattle.verse_sound_trees.proofs.Storing.{told_then, cell_named, written_typed, variable_told, object_told}
use Rattle.verse_sound_trees.proofs.Operands.{Well, AllWell, list_typed, list_args}

module _ (p : Program) (f : Found) where
  order_typed : {F E : Type 0} {t : Typing} {c : Comparison} {x y : Val} → IsOrder c → F → Is f.up t x s.int → Is f.up t y s.int →
      OfSort F E f.up t s.int (compared c x y)
  order_typed order_below h i j = numbers.less f.up h i j
  order_typed order_at_most h i j = numbers.at_most f.up h i j
  order_typed order_above h i j = numbers.greater f.up h i j
  order_typed order_at_least h i j = numbers.at_least f.up h i j

  -- a line of the trace
  line_by : (l : Level) (a : Allowed) (t : Typing) (w : World) (bs : List ℕ) → Kept p f l t w →
      Tells p f l t w a s.unit (line_told bs w.state)
  line_by l a t w bs k = by _
    where
      by : (b : Bool) → Tells p f l t w a s.unit (cond b (Rattle.verse_value.specs.Answer.gives (
        v.unit,
        Rattle.verse_meaning_state.specs.State.with_line
            w.state (record { moment = w.state.clock.now; bytes = bs }),
      )) (Rattle.verse_value.specs.Answer.error kind.Trace))
      by true = answers (record { typing = t; adds = adds_itself; store = cells_of p f l t w k; clock = calm_itself w.state; is = is_unit })
      by false = answers_error tt

  line_typed : (l : Level) (a : Allowed) (t : Typing) (w : World) (x : Val) → Is f.up t x (s.list s.char) → Kept p f l t w →
      Tells p f l t w a s.unit (line_printed x w.state)
  line_typed l a t w x (is_list {vs} i) k =
      let b = values.bytes_there f.up i in
      subst (λ m. Tells p f l t w a s.unit (text_printed m w.state)) (sym b.1) (line_by l a t w b.0 k)

  -- the class of `Self`
  pub this_there : {t : Typing} {c : ℕ} {m : Option ℕ} {x : Option Val} → m ≡ Some c → HasThis f t m x →
      (y : Val) × (x ≡ Some y) × Is f.up t y (s.obj c)
  this_there h no_this = cc
  this_there {t} h (this_is {c = d} {w} i) = (w, refl, subst (λ z. Is f.up t w (s.obj z)) (same _ _ h) i)
    where
      same : (a b : ℕ) → Some a ≡ Some b → a ≡ b
      same a b h = cc

  value_given : {t : Typing} {q : Sort} {m : Option Val} {n : Option Sort} → n ≡ Some q → Given f.up t m n →
      (y : Val) × (m ≡ Some y) × Is f.up t y q
  value_given {t} h (is_given {w} {q} i) = (w, refl, subst (λ z. Is f.up t w z) (same _ _ h) i)
    where
      same : (a b : Sort) → Some a ≡ Some b → a ≡ b
      same a b h = cc
  value_given h is_not_given = cc

  none_given : {t : Typing} {m : Option Val} {n : Option Sort} → n ≡ None → Given f.up t m n → m ≡ None
  none_given h (is_given i) = cc
  none_given h is_not_given = refl

  module _ (top : Level) (fuel : ℕ) (known : Known p f top fuel) (a : Allowed) where
    filling_frames : (e : Env) (c : ℕ) (pl : Place) (fs : List FieldTree) (xs : List Bytes) (vs ss : List Val) →
        Frames p (filling e c pl fs xs vs ss)
        (λ g y. valued y (filling e c pl fs xs vs ss) (λ x z. filled p (deeper p g) fs xs vs c (ss ++ x ∷ []) pl true e z))
    filling_frames e c pl fs xs vs ss = record { resumes = λ g r i y w. refl; same_leaves = λ r. refl; kids = λ g r w. refl }

    -- the fields of an instance
    filled_typed : (c : ℕ) (ys : List Bytes) (pl : Place) (e : Env) (vs : List Val) (qs : List Sort) (fs : List FieldTree)
        (rs : List Sort) (t : Typing)
        (ss : List Val) (ds : List Sort) → Filled p f ys qs fs rs → ds ++ rs ≡ f.slots c → Are f.up t ss ds → Are f.up t vs qs →
        (l : Level) (g : ℕ) →
        Within top fuel l g → Ready l a.waits → (w : World) → Kept p f l t w →
        Comes p f l any_names t a (s.obj c) (filled p (deeper p g) fs ys vs c ss pl a.waits e w)
    filled_typed c ys pl e vs qs [] rs t ss ds filled_no h done are l g sp rd w k =
        told_typed p f l pl e k (object_told p f l a c ss k (subst (λ z. Are f.up t ss z) (sym (append-nil ds) ∙ h) done))
    filled_typed c ys pl e vs qs (d ∷ fs) rs t ss ds (filled_given q {r} {rs = more} i j n) h done are l g sp rd w k =
        let y = value_given i (given_typed f.up t d.name ys are) in
        subst (λ m. Comes p f l any_names t a (s.obj c) (field_filled p (deeper p g) m d.default a.waits e w (filling e c pl fs ys vs ss)
        (λ x z. filled p (deeper p g) fs ys vs c (ss ++ x ∷ []) pl a.waits e z))) (sym y.1)
        (filled_typed c ys pl e vs qs fs more t (ss ++ y.0 ∷ []) (ds ++ r ∷ []) n (append_assoc ds (r ∷ []) more ∙ h)
        (are_joined f.up t done (are_so (is_up f.up y.2 j) are_no)) are l g sp rd w k)
    filled_typed c ys pl e vs qs (d ∷ fs) rs t ss ds (filled_by_default b {r} {rs = more} i j n m) h done are l g sp rd w k =
        subst (λ o. Comes p f l any_names t a (s.obj c) (field_filled p (deeper p g) o d.default a.waits e w (filling e c pl fs ys vs ss)
        (λ x z. filled p (deeper p g) fs ys vs c (ss ++ x ∷ []) pl a.waits e z))) (sym (none_given i (given_typed f.up t d.name ys are)))
        (subst (λ o. Comes p f l any_names t a (s.obj c) (field_filled p (deeper p g) None o a.waits e w (filling e c pl fs ys vs ss)
        (λ x z. filled p (deeper p g) fs ys vs c (ss ++ x ∷ []) pl a.waits e z))) (sym j)
        (then p f top fuel l g sp t a r (s.obj c) ((deeper p g).defaults b a.waits e w) (filling e c pl fs ys vs ss)
        (λ g1 x z. filled p (deeper p g1) fs ys vs c (ss ++ x ∷ []) pl a.waits e z) rd
        (λ m1. subst (λ m1. Frames p (filling e c pl fs ys vs ss) (λ g1 y. valued y (filling e c pl fs ys vs ss)
        (λ x z. filled p (deeper p g1) fs ys vs c (ss ++ x ∷ []) pl m1 e z))) (sym m1) (filling_frames e c pl fs ys vs ss))
        (λ u r1 gr i1. i1) ((known.deep l g sp).defaults t a b r e w n rd k)
        (λ l1 g1 u x z s1 r1 gr k1 j1. filled_typed c ys pl e vs qs fs more u (ss ++ x ∷ []) (ds ++ r ∷ []) m (append_assoc ds
        (r ∷ []) more ∙ h)
        (are_joined f.up u (are_more f.up gr done) (are_so j1 are_no)) (are_more f.up gr are) l1 g1 s1 r1 z k1)))

    module _ (l : Level) (g : ℕ) (within : Within top fuel l g) (rd : Ready l a.waits) (xs : Table) where
      -- a method of an object
      method_typed : (t : Typing) (e : Env) (w : World) (c h m : ℕ) (x : Val) (vs : List Val) → method_at p c m ≡ Some h →
          Callable p f a xs h →
          Is f.up t x (s.obj c) → Are f.up t vs (f.signature h).params → Kept p f l t w →
          Comes p f l any_names t a (f.signature h).result (method_called p (deeper p g) m x vs a.waits e w)
      unfolding if_there
      method_typed t e w c h m x vs i call j are k = by (object_there p f known.fine t c w x j (cells_of p f l t w k))
        where
          by : Object_of p f known.fine t c w.state x → Comes p f l any_names t a (f.signature h).result (method_called p
              (deeper p g) m x vs a.waits e w)
          by (object_of {d} z inh y) =
              let n : Overrides p f d h m = known.fine.methods d c h m inh i in
              subst (λ q. Comes p f l any_names t a (f.signature h).result (if_there (method_found p (deeper p g) q m) w
              (λ fn. (deeper p g).calls fn (Some x) vs a.waits e w))) (sym z)
              (subst (λ q. Comes p f l any_names t a (f.signature h).result (if_there q w (λ fn. (deeper p g).calls fn
              (Some x) vs a.waits e w))) (sym n.method)
              (up_to p f l n.result ((known.deep l g within).calls t a n.by n.function (Some x) vs e w n.found rd
              (λ q. call.fails (sym n.decides ∙ q)) (λ q. call.waits (sym n.lasts ∙ q))
              (subst (λ q. HasThis f t q (Some x)) (sym n.this) (this_is (is_up f.up y (fits_obj n.inherits))))
              (subst (λ q. Are f.up t vs q) (sym n.params) are) k)))

      spawned_typed : (t : Typing) (e : Env) (w : World) (c h m : ℕ) (x : Val) (vs : List Val) → method_at p c m ≡ Some h →
          CanBeSpawned p f a xs h →
          Is f.up t x (s.obj c) → Are f.up t vs (f.signature h).params → Kept p f l t w →
          Comes p f l any_names t a (s.task (f.signature h).result) (method_spawned p (deeper p g) m x vs e w)
      unfolding if_there
      spawned_typed t e w c h m x vs i call j are k = by (object_there p f known.fine t c w x j (cells_of p f l t w k))
        where
          by : Object_of p f known.fine t c w.state x → Comes p f l any_names t a (s.task (f.signature h).result) (method_spawned p
              (deeper p g) m x vs e w)
          by (object_of {d} z inh y) =
              let n : Overrides p f d h m = known.fine.methods d c h m inh i in
              subst (λ q. Comes p f l any_names t a (s.task (f.signature h).result) (if_there (method_found p (deeper p g) q m) w
              (λ fn. (deeper p g).spawns fn (Some x) vs e w))) (sym z)
              (subst (λ q. Comes p f l any_names t a (s.task (f.signature h).result) (if_there q w (λ fn. (deeper p g).spawns fn
              (Some x) vs e w))) (sym n.method)
              (up_to p f l (fits_task n.result) ((known.deep l g within).spawns t a n.by n.function (Some x) vs e w n.found rd call.waits
              (n.decides ∙ call.decides)
              (subst (λ q. HasThis f t q (Some x)) (sym n.this) (this_is (is_up f.up y (fits_obj n.inherits))))
              (subst (λ q. Are f.up t vs q) (sym n.params) are) k)))

      -- where `set` writes
      place_typed : (t : Typing) (e : Env) (w : World) (b : Base) (m : Mode) (pl : Place) (os is : List Sort) (q x y d : Sort)
          (vs : List Val) →
          Placed p f a xs b os q → Path q is y → Rattle.verse_sorts_values.specs.Operands.Writes f.up m x y d → (is ≢ [] → a.fails ≡ true) →
          Sees f t a.this xs e → Are f.up t vs (os ++ (is ++ x ∷ [])) → Kept p f l t w →
          Comes p f l any_names t a d (stored p (deeper p g) b vs m pl e w)
      place_typed t e w b m pl os is q x y d vs (in_local {x = nm} {m = i} h var) path how n see are k = by (part f.up t is are)
        where
          by : {vs : List Val} → Parted f.up t is x vs → Comes p f l any_names t a d (written_to p (deeper p g) (cell_of
              (look nm e)) 0 vs m pl e w)
          by (parted {ps} {x = z} r j) =
              let c = cell_named p f l t (f.sort i) (f.is_var i) (look nm e) w (see.locals nm i h) var (cells_of p f l t w k) in
              subst (λ o. Comes p f l any_names t a d (written_to p (deeper p g) o 0 (ps ++ z ∷ []) m pl e w)) (sym c.1)
              (written_typed p f l (deeper p g) c.0 z 0 ps is m pl e w c.2 path r how j (λ u. n (as_empty f.up t r u)) k)
      place_typed t e w b m pl os is q x y d vs (in_own c {i} h slot) path how n see are k = by (part f.up t is are)
        where
          by : {vs : List Val} → Parted f.up t is x vs → Comes p f l any_names t a d (written_to p (deeper p g) (this_of e) i vs m pl e w)
          by (parted {ps} {x = z} r j) =
              let o = this_there h see.this in
              subst (λ q. Comes p f l any_names t a d (written_to p (deeper p g) q i (ps ++ z ∷ []) m pl e w)) (sym o.1)
              (written_typed p f l (deeper p g) o.0 z i ps is m pl e w (field_there p f known.fine t c i q w o.0 slot o.2
              (cells_of p f l t w k))
              path r how j (λ u. n (as_empty f.up t r u)) k)
      place_typed t e w b m pl os is q x y d vs (in_field {c} {i} slot) path how n see (are_so {w = o} {vs = rest} oi are) k = by
          (part f.up t is are)
        where
          by : {rest : List Val} → Parted f.up t is x rest → Comes p f l any_names t a d (written_to p (deeper p g)
              (Some o) i rest m pl e w)
          by (parted {ps} {x = z} r j) =
              written_typed p f l (deeper p g) o z i ps is m pl e w (field_there p f known.fine t c i q w o slot oi (cells_of p f l t w k))
              path r how j (λ u. n (as_empty f.up t r u)) k

      pub known_there : {t : Typing} {b : Sort} {A : Type 0} (w : World) (m : Option A) (x : A) (go : A → Outcome) → m ≡ Some x →
          Comes p f l any_names t a b (go x) → Comes p f l any_names t a b (if_known m w go)
      unfolding if_known
      known_there {t} {b} w m x go h i = subst (λ z. Comes p f l any_names t a b (if_known z w go)) (sym h) i

      -- what is spared has an operand that gives no value
      spared_never : {x : Form} {qs : List Sort} → r.Spared p f a xs x qs → HasNever qs
      spared_never (r.spared_operator h) = h
      spared_never (r.spared_query h) = h
      spared_never (r.spared_length h) = h
      spared_never (r.spared_member h) = h
      spared_never (r.spared_place os q place h) = h
      spared_never r.spared_item = never_here
      spared_never r.spared_index = never_here
      spared_never r.spared_await = never_here
      spared_never r.spared_signal = never_here

      apply_typed : (t : Typing) (e : Env) (w : World) (x : Form) (qs : List Sort) (b : Sort) (vs : List Val) → Sees f t a.this xs e →
          Takes p f a xs x qs b → Are f.up t vs qs → Kept p f l t w → Comes p f l any_names t a b (apply p (deeper p g) x vs a.waits e w)
      apply_typed t e w x qs b vs see (r.takes_never h) are k = no_never f.up t (spared_never h) are
      apply_typed t e w x qs b vs see (r.takes_and {pl}) (are_so i (are_so j are_no)) k = told_typed p f l pl e k (still_told p f l a k
          (answers j))
      apply_typed t e w x qs b vs see (r.takes_sum {pl}) (are_so i (are_so j are_no)) k = told_typed p f l pl e k (still_told p f l a k
          (numbers.sum f.up tt i j))
      apply_typed t e w x qs b vs see (r.takes_lists {pl}) (are_so i (are_so j are_no)) k = told_typed p f l pl e k (still_told p f l a k
          (making.concat f.up tt i j))
      apply_typed t e w x qs b vs see (r.takes_difference {pl}) (are_so i (are_so j are_no)) k =
          told_typed p f l pl e k (still_told p f l a k (numbers.difference f.up tt i j))
      apply_typed t e w x qs b vs see (r.takes_product {pl}) (are_so i (are_so j are_no)) k =
          told_typed p f l pl e k (still_told p f l a k (numbers.product f.up tt i j))
      apply_typed t e w x qs b vs see (r.takes_equal h) (are_so i (are_so j are_no)) k = plain_typed p f l e k (still_told p f l a k
          (numbers.left f.up _ h i))
      apply_typed t e w x qs b vs see (r.takes_differs h) (are_so i (are_so j are_no)) k = plain_typed p f l e k (still_told p f l a k
          (numbers.left f.up _ h i))
      apply_typed t e w x qs b vs see (r.takes_order o h) (are_so i (are_so j are_no)) k = plain_typed p f l e k (still_told p f l a k
          (order_typed o h i j))
      apply_typed t e w x qs b vs see (r.takes_minus {pl}) (are_so i are_no) k = told_typed p f l pl e k (still_told p f l a k
          (numbers.negation f.up tt i))
      apply_typed t e w x qs b vs see (r.takes_option h) (are_so i are_no) k = plain_typed p f l e k (still_told p f l a k
          (values.queried_option f.up h i))
      apply_typed t e w x qs b vs see (r.takes_logic h) (are_so i are_no) k = plain_typed p f l e k (still_told p f l a k
          (values.queried_logic f.up h i))
      apply_typed t e w x qs b vs see (r.takes_object {c} {i} {q} h) (are_so {w = o} j are_no) k =
          plain_typed p f l e k (slot_told p f known.fine l a ⊥ t q i w o k (field_there p f known.fine t c i q w o h j
          (cells_of p f l t w k)))
      apply_typed t e w x qs b vs see r.takes_list_length (are_so i are_no) k = plain_typed p f l e k (still_told p f l a k
          (values.list_length f.up i))
      apply_typed t e w x qs b vs see r.takes_map_length (are_so i are_no) k = plain_typed p f l e k (still_told p f l a k
          (values.map_length f.up i))
      apply_typed t e w x qs b vs see (r.takes_tuple {pl}) are k = told_typed p f l pl e k (still_told p f l a k (making.tuple f.up tt are))
      apply_typed t e w x qs b vs see (r.takes_array {pl} h) are k = told_typed p f l pl e k (still_told p f l a k
          (making.array f.up tt h are))
      apply_typed t e w x qs b vs see (r.takes_map {pl} h i) are k = told_typed p f l pl e k (still_told p f l a k
          (making.mapping f.up tt h (in_pairs f.up t i are)))
      apply_typed t e w x qs b vs see (r.takes_texts {ys} {pl} h) are k = by (weave f.up t ys h are)
        where
          by : Woven f.up t (Rattle.verse_meaning.specs.Forms.woven ys vs) → Comes p f l any_names t a (s.list s.char)
              (told (Rattle.verse_meaning_state.specs.Effects.still (Rattle.verse_value.specs.Operations.join_of
              (Rattle.verse_meaning.specs.Forms.woven ys vs)) w.state) pl e w)
          by (woven_are i j) = told_typed p f l pl e k (still_told p f l a k (making.text f.up tt i j))
      apply_typed t e w x qs b vs see (r.takes_item {i} h) (are_so j are_no) k = plain_typed p f l e k (still_told p f l a k
          (values.item f.up i h j))
      apply_typed t e w x qs b vs see (r.takes_index h n) (are_so i (are_so j are_no)) k =
          plain_typed p f l e k (still_told p f l a k (values.indexed f.up h n i j))
      apply_typed t e w x qs b vs see (r.takes_arguments {g = h} call n) are k =
          (known.deep l g within).calls t a h call.function None vs e w call.found rd call.fails call.waits (subst
          (λ q. HasThis f t q None) (sym n) no_this) are k
      apply_typed t e w x qs b vs see (r.takes_own c h {m} n i call) are k =
          let o = this_there n see.this in
          known_there w (this_of e) o.0 _ o.1 (method_typed t e w c h m o.0 vs i call o.2 are k)
      apply_typed t e w x qs b vs see (r.takes_method {c} h {m} i call) (are_so {w = o} {vs = ws} j are) k = method_typed t e w c h m o ws
          i call j are k
      apply_typed t e w x qs b vs see (r.takes_line {pl}) (are_so {w = y} i are_no) k = told_typed p f l pl e k (line_typed l a t w y i k)
      apply_typed t e w x qs b vs see (r.takes_floor {pl} h) (are_so i (are_so j are_no)) k =
          told_typed p f l pl e k (still_told p f l a k (numbers.floored f.up h tt i j))
      apply_typed t e w x qs b vs see (r.takes_ceiling {pl} h) (are_so i (are_so j are_no)) k =
          told_typed p f l pl e k (still_told p f l a k (numbers.raised f.up h tt i j))
      apply_typed t e w x qs b vs see (r.takes_modulo h) (are_so i (are_so j are_no)) k = plain_typed p f l e k (still_told p f l a k
          (numbers.modulo f.up h i j))
      apply_typed t e w x qs b vs see (r.takes_task {q} h) (are_so {w = y} i are_no) k =
          outside_typed p f l t a q w _ h rd (λ n same. subst (λ l. Comes p f l any_names t a q
          (Rattle.verse_meaning.specs.Forms.awaited p (deeper p g) false y e w)) (sym same)
          (task_typed p f (deeper p g) n t a q y e w h i (subst (λ l. Kept p f l t w) same k)))
      apply_typed t e w x qs b vs see (r.takes_event {q} h) (are_so {w = y} i are_no) k =
          outside_typed p f l t a q w _ h rd (λ n same. subst (λ l. Comes p f l any_names t a q
          (Rattle.verse_meaning.specs.Forms.awaited p (deeper p g) true y e w)) (sym same)
          (event_typed p f (deeper p g) n t a q y e w h i (subst (λ l. Kept p f l t w) same k)))
      apply_typed t e w x qs b vs see (r.takes_signal {q} h) (are_so {w = o} i (are_so {w = y} j are_no)) k =
          outside_typed p f l t a s.unit w _ h rd (λ n same. subst (λ l. Comes p f l any_names t a s.unit
          (Rattle.verse_meaning.specs.Forms.signal_told p (deeper p g) (y ∷ []) o e w)) (sym same)
          (signal_typed p f n t a q o y e w i j (subst (λ l. Kept p f l t w) same k)))
      apply_typed t e w x qs b vs see (r.takes_bare_signal {q} h n1) (are_so {w = o} i are_no) k =
          outside_typed p f l t a s.unit w _ h rd (λ n same. subst (λ l. Comes p f l any_names t a s.unit
          (Rattle.verse_meaning.specs.Forms.signal_told p (deeper p g) [] o e w)) (sym same)
          (signal_typed p f n t a q o v.unit e w i (is_up f.up is_unit n1) (subst (λ l. Kept p f l t w) same k)))
      apply_typed t e w x qs b vs see (r.takes_spawned {g = h} call n) are k =
          outside_typed p f l t a (s.task (f.signature h).result) w _ call.waits rd (λ m same.
          (known.deep l g within).spawns t a h call.function None vs e w call.found rd call.waits call.decides
          (subst (λ q. HasThis f t q None) (sym n) no_this) are k)
      apply_typed t e w x qs b vs see (r.takes_spawned_own c h {m} n i call) are k =
          let o = this_there n see.this in
          outside_typed p f l t a (s.task (f.signature h).result) w _ call.waits rd (λ m1 same. known_there w (this_of e) o.0 _ o.1
          (spawned_typed t e w c h m o.0 vs i call o.2 are k))
      apply_typed t e w x qs b vs see (r.takes_spawned_method {c} h {m} i call) (are_so {w = o} {vs = ws} j are) k =
          outside_typed p f l t a (s.task (f.signature h).result) w _ call.waits rd
          (λ m1 same. spawned_typed t e w c h m o ws i call j are k)
      apply_typed t e w x qs b vs see (r.takes_place {b = base} {x = m} {pl} os is q v1 r1 h path how n) are k =
          place_typed t e w base m pl os is q v1 r1 b vs h path how n see are k
      apply_typed t e w x qs b vs see (r.takes_fields {c} {ys} {pl} h) are k =
          filled_typed c ys pl e vs qs (fields_of p c) (f.slots c) t [] [] h refl are_no are l g within rd w k
      apply_typed t e w x qs b vs see r.takes_defined (are_so {w = y} i are_no) k = gives_value p f l e y k i
      apply_typed t e w x qs b vs see (r.takes_varying {pl}) (are_so {w = y} i are_no) k =
          told_then p f l w pl e (λ c z. o.value e y z) k (variable_told p f l a y k i) (λ u c z h k1 j. gives_value p f l e y k1
          (is_more f.up h.grows i))
      apply_typed t e w x qs b vs see (r.takes_result {q} h) (are_so i are_no) k = returns q h (later_itself a.waits t) k i

    -- with operands in turn
    pub form_well : (xs : Table) (t : Typing) (e : Env) (x : Form) (has : List Sort) (d : Sort) (ts : List Tree) →
        Gives p f a xs x has d → Sees f t a.this xs e →
        AllWell p f top fuel t a e ts has → Well p f top fuel t a d (λ g w. list_args p (deeper p g) e x [] ts a.waits w)
    form_well xs t e x has d ts h see all l g s rd u w gr k =
        list_typed p f top fuel a e x d h.no_case ts has [] u (Rattle.verse_sound_trees.proofs.Operands.all_more p f top fuel t u a e ts
        has gr all)
        (λ l1 g1 s1 r1 o ys z gs are k1. up_to p f l1 h.value (apply_typed l1 g1 s1 r1 xs o e z x h.taken h.given ys
        (sees_more f (Rattle.verse_sorts.proofs.Fitting.grows_on gr gs) see) h.takes (are_up f.up are h.operands) k1)) l g s rd w k
