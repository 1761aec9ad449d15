-- Instances: what is given goes into locals, the fields are read from there or are their defaults, and an object is made.
use Rattle.std.proofs.Common.{◌≡◌, ℕ, suc, ◌≤◌, ◌<◌, length, List, [], ◌∷◌, ◌++◌, Option, Some, None, Bool, true, false, cond}
use Rattle.std.proofs.Common.{refl, sym, ◌∙◌, subst, ap, arith}
use Rattle.std.specs.Prelude.{option_map, slice_get}
use Rattle.std.proofs.lemmas.Option.{none-some, same_Some}
use Rattle.verse_base.specs.declared.places.Place.{Place}
use Rattle.verse_tree.specs.Tree.{Bytes, Tree, Givens, no_givens, more_givens}
use Rattle.verse_tree.specs.ItemTree.{FieldTree}
use Rattle.verse_code.specs.declared.codes.Func.{Func}
use Rattle.verse_code.specs.declared.codes.Class.{Class}
use Rattle.verse_code.specs.declared.codes.Code.{Code}
use Rattle.verse_code.specs.declared.operations.Op.TheVariants as o
use Rattle.verse_names_tables.specs.Names.{Table}
use Rattle.verse_sorts.specs.Sorts as s
use Rattle.verse_sorts.specs.Sorts.{Sort, IsKnown, Fits}
use Rattle.verse_sorts.specs.Typing.{at, AllFit, fit_no, fit_so}
use Rattle.verse_sorts.proofs.Fitting.{fits_itself, fits_on}
use Rattle.verse_meaning.specs.Programs.{Program, same_name, fields_of, given_names}
use Rattle.verse_meaning.specs.Evaluating.{number_of}
use Rattle.verse_meaning.specs.Residuals as form
use Rattle.verse_sound_rules.specs.Found as rules
use Rattle.verse_sound_rules.specs.Found.{Allowed}
use Rattle.verse_sound_rules.specs.Forms as takes
use Rattle.verse_sound_rules.specs.Forms.{Takes, Gives, Filled, filled_no, filled_given, filled_by_default, IsDefault, given_sort}
use Rattle.verse_sound_rules.specs.Fine.{sort_at, given_sorts}
use Rattle.verse_sound_rules.specs.Programs.{FineFound}
use Rattle.verse_verify_kept.specs.Notes.{Notes, ClassNote, FuncNote, parent_of}
use Rattle.verse_verify_kept.specs.Rules.{MayCall}
use Rattle.lower_code.specs.Pieces as c
use Rattle.lower_code.specs.Pieces.{Spot, Maker}
use Rattle.lower_code.specs.declared.arounds.Around.{Around}
use Rattle.lower_code.specs.Scopes.{Scope, hidden}
use Rattle.lower_code.specs.Defaults.{default_number}
use Rattle.lower_code.specs.Lowering as lower
use Rattle.lower_code.specs.Lowering.{given_local, field_op, field_ops}
use Rattle.lower_notes.specs.States.{State, with_local, gives, gets, puts}
use Rattle.lower_notes.specs.Stretches as n
use Rattle.lower_notes.specs.Stretches.{Walk, with_value}
use Rattle.lower_notes.specs.Noting as noting
use Rattle.lower_notes.specs.Laws.{Beside}
use Rattle.lower_notes.proofs.Counted as counted
use Rattle.lower_notes.proofs.Counted.{code_then, walk_then}
use Rattle.lower_pass_states.proofs.Points.{pt, over, even_over, gives_is}
use Rattle.lower_pass_states.proofs.Locals.{local_is, with_here, with_other, is_at}
use Rattle.lower_pass_states.proofs.Steps as step
use Rattle.lower_pass_states.proofs.Steps.{turned}
use Rattle.lower_pass_stretches.proofs.Going.{Way, If, itself, Going, Steady, then_goes}
use Rattle.lower_pass_stretches.proofs.Single.{IsValue}
use Rattle.lower_pass_stretches.proofs.Inside.{Inside, steady_of}
use Rattle.lower_pass_contexts.proofs.After.{After, after_itself, after_bound}
use Rattle.lower_pass_forms.proofs.Finishing.{IsOver, over_itself, step_goes}
use Rattle.lower_pass_forms.proofs.Applied.{noted_found}
use Rattle.lower_pass_blocks.proofs.Binding.{bound, put_goes, sees_more, inside_bound}
use Rattle.lower_pass_values.proofs.Operands.{after_last_goes}

-- ---- what is in locals

-- from l on, the last one first; behind them is the local n
pub data Held (l : ℕ) (ls : List Sort) : ℕ → List Sort → Type 0 where
  held_no : Held l ls l []
  held_so : {n : ℕ} {q : Sort} {done : List Sort} → at ls n ≡ Some q → Held l ls n done → Held l ls (suc n) (q ∷ done)

-- from l on, the first one first
abbrev pub Holds : ℕ → List Sort → List Sort → Type 0
Holds l [] ls = Unit {0}
Holds l (q ∷ qs) ls = (at ls l ≡ Some q) × Holds (suc l) qs ls

in_turn : {l : ℕ} {ls : List Sort} {n : ℕ} {done : List Sort} (rest : List Sort) → Held l ls n done → Holds n rest ls →
    Holds l (turned done rest) ls
in_turn rest held_no h = h
in_turn rest (held_so {q = q} e k) h = in_turn (q ∷ rest) k (e, h)

twice : (qs done xs : List Sort) → turned (turned qs done) xs ≡ turned done (qs ++ xs)
twice [] done xs = refl
twice (q ∷ qs) done xs = twice qs (q ∷ done) xs

none_more : (qs : List Sort) → qs ++ [] ≡ qs
none_more [] = refl
none_more (q ∷ qs) = ap (λ zs. q ∷ zs) (none_more qs)

pub in_order : {l n : ℕ} {ls : List Sort} (qs : List Sort) → Held l ls n (turned qs []) → Holds l qs ls
in_order {l = l} {ls = ls} qs h = subst (λ zs. Holds l zs ls) (twice qs [] [] ∙ none_more qs) (in_turn [] h tt)

-- a local behind them is written
still_held : {l : ℕ} {ls : List Sort} {n : ℕ} {done : List Sort} (m : ℕ) (q : Sort) → n ≤ m → Held l ls n done →
    Held l (with_local m q ls) n done
still_held m q h held_no = held_no
still_held {ls = ls} m q h (held_so {n = n} e k) = held_so (with_other m n q ls (λ f. no (subst (λ z. suc n ≤ z) (sym f) h)) ∙ e)
    (still_held m q (less h) k)
  where
    no : {n : ℕ} → suc n ≤ n → ⊥
    no h = omega (arith, h)

    less : {n m : ℕ} → suc n ≤ m → n ≤ m
    less h = omega (arith, h)

module _ (found : rules.Found) (code : Code) (notes : Notes) (w : Way) (ts : List ℕ) (al : Allowed) (xs : Table) (a : Around)
    (l : ℕ) (x : Option State) where
  -- values of these sorts were put into locals from l on, the last one first
  pub record Given (done : List Sort) (sc : Scope) (z : State) : Type 0 where
    pub before : State
    pub is : x ≡ Some before
    pub after : After code notes 0 before z
    pub inside : Inside code notes found w ts al xs sc a z
    pub held : Held l z.locals (length sc) done

  -- all of them
  pub record Gave (qs : List Sort) (z : State) : Type 0 where
    pub before : State
    pub is : x ≡ Some before
    pub after : After code notes 0 before z
    pub steady : Steady code notes ts z
    pub holds : Holds l qs z.locals

  pub gave : (qs : List Sort) {sc : Scope} (z : State) → Given (turned qs []) sc z → Gave qs z
  gave qs z h = record {
    before = h.before;
    is = h.is;
    after = h.after;
    steady = steady_of code notes h.inside;
    holds = in_order qs h.held;
  }

  -- nothing is given yet
  pub none_given : (sc : Scope) → l ≡ length sc → If x (Inside code notes found w ts al xs sc a) → If x (Given [] sc)
  none_given sc same here z e = record {
    before = z;
    is = e;
    after = after_itself code notes z;
    inside = here z e;
    held = subst (λ k. Held l z.locals k []) same held_no;
  }

  -- nothing more is given
  pub no_given_goes : {u : Option State} (qs : List Sort) {sc : Scope} → If u (Given (turned qs []) sc) →
      Going code notes w ts u c.nothing n.nothing itself (Gave qs)
  no_given_goes qs h = record {
    leaves = λ s k v e. absurd (cc);
    exits = λ s k v z e. gave qs z (h z e);
    goes = λ s k v m. (m, tt);
  }

  within : (n m k : ℕ) → k < n → n ≤ m → k < m
  within n m k h i = omega (arith, h, i)

  same : (k : ℕ) → k ≤ k
  same k = omega arith

  -- one value more
  more_given : {u : Option State} {sc : Scope} {done : List Sort} (q : Sort) (h : If u (Given done sc)) →
      length sc < w.size → (v : State) → option_map (bound (length sc) q) u ≡ Some v → Given (q ∷ done) (hidden ∷ sc) v
  more_given {u = None} q h free v e = absurd (none-some v e)
  more_given {u = Some y} {sc = sc} {done = done} q h free v e =
      subst (Given (q ∷ done) (hidden ∷ sc)) (same_Some (bound (length sc) q y) v e) (record {
        before = g.before;
        is = g.is;
        after = after_bound code notes g.after (length sc) q blank;
        inside = inside_bound found code notes w ts al xs sc a (Some y) inside hidden xs q free
            (sees_more found code notes w ts al xs sc a (Some y) inside q) (bound (length sc) q y) refl;
        held = held_so (with_here (length sc) q y.locals room) (still_held (length sc) q (same (length sc)) g.held);
      })
    where
      g : Given done sc y
      g = h y refl

      inside : If (Some y) (Inside code notes found w ts al xs sc a)
      inside z i = (h z i).inside

      room : length sc < length y.locals
      room = within w.size (length y.locals) (length sc) free g.inside.room

      blank : at y.locals (length sc) ≡ Some s.none
      blank = let there = is_at y.locals (length sc) room in
          there.1 ∙ ap Some (g.inside.blank (length sc) there.0 (same (length sc)) there.1)

  -- a value that is given, with those behind it
  pub given_goes : {u : Option State} {f h : Maker} {g j : Walk} {Q : State → Type 0} (sc : Scope) (done : List Sort) (q : Sort) →
      (before : If u (Given done sc)) → Beside f g → Going code notes w ts u f g itself (IsValue code notes q u) →
      ((v : Option State) → If v (Given (q ∷ done) (hidden ∷ sc)) → Going code notes w ts v h j itself Q) →
      Going code notes w ts u (code_then f (code_then (c.put_away (length sc)) h))
      (walk_then g (walk_then (n.one (puts (length sc) q)) j)) itself Q
  given_goes {u = u} sc done q before beside first rest = then_goes code notes beside first (λ v i.
      then_goes code notes counted.away
      (put_goes found code notes w ts al xs sc a u inside q q (fits_itself (parent_of notes) q) i) (λ z k.
      rest z (λ y e. let t = k y e in subst (Given (q ∷ done) (hidden ∷ sc)) (sym t.1.1.1)
      (more_given q before t.0 t.1.0 t.1.1.0))))
    where
      inside : If u (Inside code notes found w ts al xs sc a)
      inside y e = (before y e).inside

-- ---- the fields

-- the function that gives the default of the field whose node has a number, with its notes
pub record HasDefault (p : Program) (found : rules.Found) (code : Code) (notes : Notes) (number : ℕ) (b : Tree) : Type 0 where
  pub func : Func
  pub is_func : slice_get code.functions (default_number p number) ≡ Some func
  pub params : func.params ≡ 0
  pub is_note : slice_get notes.functions (default_number p number) ≡ Some (record {
    params = [];
    result = sort_at p found b;
    may_fail = false;
    may_wait = false;
  })

-- each default of these fields has one
abbrev pub HaveDefaults : (p : Program) (found : rules.Found) (code : Code) (notes : Notes) → List FieldTree → Type 0
HaveDefaults p found code notes [] = Unit {0}
HaveDefaults p found code notes (d ∷ ds) = ((b : Tree) → d.default ≡ Some b → HasDefault p found code notes d.number b) ×
    HaveDefaults p found code notes ds

-- a class of the code, with its notes
pub record IsClass (p : Program) (found : rules.Found) (code : Code) (notes : Notes) (k : ℕ) : Type 0 where
  pub class : Class
  pub is_class : slice_get code.classes k ≡ Some class
  pub note : ClassNote
  pub is_note : slice_get notes.classes k ≡ Some note
  pub slots : class.slots ≡ length (fields_of p k)
  pub sorts : note.slots ≡ found.slots k

module _ (p : Program) (found : rules.Found) (differ : ℕ → ℕ → Bool) (code : Code) (notes : Notes)
    (fine : FineFound p (noted_found notes found)) where
  abbrev F : rules.Found
  F = noted_found notes found

  abbrev Fit : Sort → Sort → Type 0
  Fit = Fits (parent_of notes)

  abbrev Each : List Sort → List Sort → Type 0
  Each = AllFit (parent_of notes)

  -- ---- a field that is given is in a local

  record There (o : Option ℕ) (l : ℕ) (has : List Sort) (q : Sort) : Type 0 where
    local : ℕ
    sort : Sort
    is : o ≡ Some local
    fits : Fit sort q
    read : IsKnown sort
    held : (ls : List Sort) → Holds l has ls → at ls local ≡ Some sort

  given_there : (y : Bytes) (gs : Givens) (l : ℕ) {taken : List Sort} (q : Sort) → Each (given_sorts p F gs) taken →
      given_sort y (given_names gs) taken ≡ Some q → There (given_local y gs l) l (given_sorts p F gs) q
  given_there y no_givens l q h e = elim (none-some q e) [ ]
  given_there y (more_givens z b gs) l {taken = []} q h e = elim h [ ]
  given_there y (more_givens z b gs) l {taken = t ∷ taken} q (fit_so f h) e = by (same_name y z) (given_there y gs (suc l) q h) e
    where
      further : There (given_local y gs (suc l)) (suc l) (given_sorts p F gs) q →
          There (given_local y gs (suc l)) l (given_sorts p F (more_givens z b gs)) q
      further k = record {
        local = k.local;
        sort = k.sort;
        is = k.is;
        fits = k.fits;
        read = k.read;
        held = λ ls i. k.held ls i.1;
      }

      by : (k : Bool) → (given_sort y (given_names gs) taken ≡ Some q →
          There (given_local y gs (suc l)) (suc l) (given_sorts p F gs) q) →
          cond k (Some t) (given_sort y (given_names gs) taken) ≡ Some q →
          There (cond k (Some l) (given_local y gs (suc l))) l (given_sorts p F (more_givens z b gs)) q
      by true more e = record {
        local = l;
        sort = sort_at p F b;
        is = refl;
        fits = subst (Fit (sort_at p F b)) (same_Some t q e) f;
        read = fine.known.sort (number_of b);
        held = λ ls i. i.0;
      }
      by false more e = further (more e)

  not_there : (y : Bytes) (gs : Givens) (l : ℕ) {taken : List Sort} → Each (given_sorts p F gs) taken →
      given_sort y (given_names gs) taken ≡ None → given_local y gs l ≡ None
  not_there y no_givens l h e = refl
  not_there y (more_givens z b gs) l {taken = []} h e = elim h [ ]
  not_there y (more_givens z b gs) l {taken = t ∷ taken} (fit_so f h) e = by (same_name y z) (not_there y gs (suc l) h) e
    where
      by : (k : Bool) → (given_sort y (given_names gs) taken ≡ None → given_local y gs (suc l) ≡ None) →
          cond k (Some t) (given_sort y (given_names gs) taken) ≡ None → cond k (Some l) (given_local y gs (suc l)) ≡ None
      by true more e = elim (none-some t (sym e)) [ ]
      by false more e = more e

  module _ (w : Way) (ts : List ℕ) (al : Allowed) (xs : Table) (a : Around) (l : ℕ) (x : Option State) (gs : Givens) (v : Option State)
      (gave : If v (Gave F code notes w ts al xs a l x (given_sorts p F gs))) where
    calm : If v (Steady code notes ts)
    calm y e = (gave y e).steady

    -- ---- one field

    given_goes_on : {u : Option State} (i : Option ℕ) (d : Option Tree) (number : ℕ) (q : Sort) (qs : List Sort)
        (there : There i l (given_sorts p F gs) q) → If u (IsOver code notes qs v) →
        Going code notes w ts u (field_op p differ i d number) (noting.field_walk p found differ i d) itself
        (IsOver code notes (there.sort ∷ qs) v)
    given_goes_on {u} i d number q qs there above =
        subst (λ z. Going code notes w ts u (field_op p differ z d number) (noting.field_walk p found differ z d) itself
        (IsOver code notes (there.sort ∷ qs) v)) (sym there.is)
        (step_goes code notes (c.one (o.Get there.local)) (λ s. o.Get there.local) (λ s. refl) qs calm above (there.sort ∷ qs)
        (gets there.local)
        (λ y e. ap (λ z. over (z ∷ qs) y) (local_is y.locals there.local (there.held y.locals (gave y e).holds)))
        (λ y e s m. step.get_asked code notes (over qs y) (even_over y (calm y e).even qs) m there.local
        (there.held y.locals (gave y e).holds) there.read (fits_itself (parent_of notes) there.sort)))

    may_call : (y : State) (g : FuncNote) → g.may_fail ≡ false → g.may_wait ≡ false → MayCall code notes (pt y) g
    may_call y g e f = record { fails = λ h. absurd (no (sym e ∙ h)); waits = λ h. absurd (no (sym f ∙ h)) }
      where
        no : false ≡ true → ⊥
        no h = absurd (cc)

    default_goes : {u : Option State} (i : Option ℕ) (d : Option Tree) (number : ℕ) (b : Tree) (qs : List Sort) → i ≡ None → d ≡ Some b →
        HasDefault p found code notes number b → If u (IsOver code notes qs v) →
        Going code notes w ts u (field_op p differ i d number) (noting.field_walk p found differ i d) itself
        (IsOver code notes (sort_at p F b ∷ qs) v)
    default_goes {u} i d number b qs e f has above =
        subst (λ i. Going code notes w ts u (field_op p differ i d number) (noting.field_walk p found differ i d) itself
        (IsOver code notes (sort_at p F b ∷ qs) v)) (sym e)
        (subst (λ d. Going code notes w ts u (field_op p differ None d number) (noting.field_walk p found differ None d) itself
        (IsOver code notes (sort_at p F b ∷ qs) v)) (sym f)
        (step_goes code notes (c.one (o.Call (default_number p number))) (λ s. o.Call (default_number p number)) (λ s. refl) qs calm above
        (sort_at p F b ∷ qs) (gives 0 (sort_at p F b)) (λ y k. gives_is (sort_at p F b) (over qs y))
        (λ y k s m. step.call_asked code notes (over qs y) (even_over y (calm y k).even qs) m (default_number p number) [] has.is_func
        has.is_note has.params fit_no (may_call (over qs y) _ refl refl) (fits_itself (parent_of notes) (sort_at p F b)))))

    default_beside : (d : Option Tree) (k : ℕ) → Beside (lower.default_op p differ d k) (noting.default_walk p found differ d)
    default_beside None k = counted.sticks
    default_beside (Some b) k = counted.just

    one_field : (i : Option ℕ) (d : Option Tree) (k : ℕ) → Beside (field_op p differ i d k) (noting.field_walk p found differ i d)
    one_field None d k = default_beside d k
    one_field (Some i) d k = counted.just

    fields_beside : (ds : List FieldTree) → Beside (field_ops p differ ds gs l) (noting.field_walks p found differ ds gs l)
    fields_beside [] = counted.none
    fields_beside (d ∷ ds) = counted.both (one_field (given_local d.name gs l) d.default d.number) (fields_beside ds)

    -- ---- all of them

    record Fields (ds : List FieldTree) (rs : List Sort) : Type 0 where
      noted : List Sort
      fits : Each noted rs
      goes : (u : Option State) (qs : List Sort) → If u (IsOver code notes qs v) →
          Going code notes w ts u (field_ops p differ ds gs l) (noting.field_walks p found differ ds gs l) itself
          (IsOver code notes (turned noted qs) v)

    fields_go : {taken : List Sort} (ds : List FieldTree) (rs : List Sort) → Each (given_sorts p F gs) taken →
        Filled p F (given_names gs) taken ds rs → HaveDefaults p found code notes ds → Fields ds rs
    fields_go [] [] h filled_no have = record {
      noted = [];
      fits = fit_no;
      goes = λ u qs above. record { leaves = λ s k i e. absurd (cc); exits = λ s k i. above; goes = λ s k i m. (m, tt) };
    }
    fields_go (d ∷ ds) (r ∷ rs) h (filled_given q e fit more) have =
        let there = given_there d.name gs l q h e in
        let rest = fields_go ds rs h more have.1 in
        record {
          noted = there.sort ∷ rest.noted;
          fits = fit_so (fits_on (parent_of notes) there.fits fit) rest.fits;
          goes = λ u qs above. then_goes code notes (one_field (given_local d.name gs l) d.default d.number)
              (given_goes_on (given_local d.name gs l) d.default d.number q qs there above)
              (λ z k. rest.goes z (there.sort ∷ qs) k);
        }
    fields_go (d ∷ ds) (r ∷ rs) h (filled_by_default b e f default more) have =
        let rest = fields_go ds rs h more have.1 in
        record {
          noted = sort_at p F b ∷ rest.noted;
          fits = fit_so (fine.defaults b r default).fits rest.fits;
          goes = λ u qs above. then_goes code notes (one_field (given_local d.name gs l) d.default d.number)
              (default_goes (given_local d.name gs l) d.default d.number b qs (not_there d.name gs l h e) f (have.0 b f) above)
              (λ z k. rest.goes z (sort_at p F b ∷ qs) k);
        }
    fields_go [] (r ∷ rs) h filled have = elim filled [ ]
    fields_go (d ∷ ds) [] h filled have = elim filled [ ]

    -- and the object
    object_goes : {taken : List Sort} {g q : Sort} (k : ℕ) (pl place : Place) → IsClass p found code notes k →
        HaveDefaults p found code notes (fields_of p k) → Each (given_sorts p F gs) taken →
        Takes p F al xs (form.instancing k (given_names gs) place) taken g → Fit g q →
        Going code notes w ts v (code_then (field_ops p differ (fields_of p k) gs l) (c.placed pl (o.Object k)))
        (walk_then (noting.field_walks p found differ (fields_of p k) gs l) n.last) (with_value q x) (λ z. Unit {0})
    object_goes k pl place there have h (takes.takes_never z) f = elim z [ ]
    object_goes {q = q} k pl place there have h (takes.takes_fields filled) f =
        let all = fields_go (fields_of p k) (found.slots k) h filled have in
        then_goes code notes (fields_beside (fields_of p k)) (all.goes v [] (over_itself code notes)) (λ z i.
        after_last_goes F code notes w ts al xs [] x (c.placed pl (o.Object k)) (λ z. o.Object k z.place) (λ z. refl) (turned all.noted [])
        (s.obj k) q calm i (λ y e. let t = gave y e in (t.before, (t.is, t.after))) f (λ y e z m.
        step.object_asked code notes y (calm y e).even m k z.place all.noted there.is_class there.is_note
        (there.slots ∙ sym (filled_many filled) ∙ sym (many all.fits)) (subst (Each all.noted) (sym there.sorts) all.fits)
        (fits_itself (parent_of notes) (s.obj k))))
      where
        many : {xs ys : List Sort} → Each xs ys → length xs ≡ length ys
        many fit_no = refl
        many (fit_so f h) = ap suc (many h)

        filled_many : {ys : List Bytes} {qs rs : List Sort} {ds : List FieldTree} → Filled p F ys qs ds rs → length rs ≡ length ds
        filled_many filled_no = refl
        filled_many (filled_given q e f h) = ap suc (filled_many h)
        filled_many (filled_by_default b e f i h) = ap suc (filled_many h)

  -- ---- the whole instance

  module _ (w : Way) (ts : List ℕ) (al : Allowed) (xs : Table) (a : Around) (x : Option State) where
    pub instance_goes : {f : Maker} {g : Walk} (i : Option ℕ) (k l : ℕ) (pl place : Place) (gs : Givens) (q : Sort) → i ≡ Some k →
        IsClass p found code notes k → HaveDefaults p found code notes (fields_of p k) →
        Gives p F al xs (form.instancing k (given_names gs) place) (given_sorts p F gs) q → Beside f g →
        Going code notes w ts x f g itself (Gave F code notes w ts al xs a l x (given_sorts p F gs)) →
        Going code notes w ts x (lower.instance_of p differ i pl gs l f) (noting.instance_of p found differ i gs l g) (with_value q x)
        (λ z. Unit {0})
    unfolding lower.instance_of noting.instance_of
    instance_goes None k l pl place gs q e there have give beside first = elim (none-some k e) [ ]
    instance_goes {f = f} {g = g} (Some d) k l pl place gs q e there have give beside first =
        subst (λ z. Going code notes w ts x (code_then f (code_then (field_ops p differ (fields_of p z) gs l) (c.placed pl (o.Object z))))
        (walk_then g (walk_then (noting.field_walks p found differ (fields_of p z) gs l) n.last)) (with_value q x) (λ z. Unit {0}))
        (sym (same_Some d k e)) (then_goes code notes beside first (λ v h.
        object_goes w ts al xs a l x gs v h k pl place there have give.operands give.takes give.value))
