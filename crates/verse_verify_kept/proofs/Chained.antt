-- What the rules of classes come to over chains of parents, and of Main for its inputs.
use Rattle.std.proofs.Common.{◌≡◌, ℕ, zero, suc, ◌≤◌, length, map, List, [], ◌∷◌, ◌++◌, Option, Some, None, refl, sym, subst}
use Rattle.std.proofs.Common.{arith, ◌∙◌}
use Rattle.std.specs.Prelude.{ℤ, slice_get}
use Rattle.std.proofs.lemmas.Option.{none-some}
use Rattle.verse_base.proofs.Facts.{present}
use Rattle.verse_code.specs.declared.codes.Func.{Func}
use Rattle.verse_code.specs.declared.codes.Class.{Class}
use Rattle.verse_code.specs.declared.codes.Code.{Code}
use Rattle.verse_value.specs.Val as v
use Rattle.verse_value.specs.Val.{Val, vals}
use Rattle.verse_code_machine.specs.Runs.{inputs_of}
use Rattle.verse_sorts.specs.Sorts as s
use Rattle.verse_sorts.specs.Sorts.{Sort, Inherits, itself, above}
use Rattle.verse_sorts.specs.Typing.{at, Typing, AreAll, no_all, more_all, is_int, is_list, are_no, are_so}
use Rattle.verse_sorts.proofs.Fitting.{fits_itself, fits_on, is_up}
use Rattle.verse_verify_kept.specs.Notes.{ClassNote, FuncNote, Notes, parent_in, parent_of}
use Rattle.verse_verify_kept.specs.Rules.{Fit, AllFrom, from_so, Method, method, rest_of, Overrides, ClassIs, Verified}
use Rattle.verse_verify_kept.specs.Known.{Called, Known}
use Rattle.verse_verify_kept.specs.Kept.{All}
use Rattle.verse_verify_kept.proofs.Whole.{nothing_yet}

module _ (c : Code) (n : Notes) (ok : Verified c n) where
  class_noted : (k : ℕ) (made : Class) → slice_get c.classes k ≡ Some made → (x : ClassNote) × (slice_get n.classes k ≡ Some x)
  class_noted k made e = present c.classes n.classes k made ok.counted.0 e

  class_made : (k : ℕ) (x : ClassNote) → slice_get n.classes k ≡ Some x → (made : Class) × (slice_get c.classes k ≡ Some made)
  class_made k x e = present n.classes c.classes k x (sym ok.counted.0) e

  pub func_noted : (k : ℕ) (f : Func) → slice_get c.functions k ≡ Some f → (g : FuncNote) × (slice_get n.functions k ≡ Some g)
  func_noted k f e = present c.functions n.functions k f ok.counted.1 e

  func_made : (k : ℕ) (g : FuncNote) → slice_get n.functions k ≡ Some g → (f : Func) × (slice_get c.functions k ≡ Some f)
  func_made k g e = present n.functions c.functions k g (sym ok.counted.1) e

  -- the note of a class that has a parent
  record Under (a b : ℕ) : Type 0 where
    pub note : ClassNote
    pub is_note : slice_get n.classes a ≡ Some note
    pub parent : note.parent ≡ Some b
    pub made : Class
    pub is_class : slice_get c.classes a ≡ Some made
    pub rules : ClassIs c n a note made

  under : (a b : ℕ) → parent_of n a ≡ Some b → Under a b
  under a b e = by_note (slice_get n.classes a) refl e
    where
      by_note : (m : Option ClassNote) → slice_get n.classes a ≡ m → parent_in m ≡ Some b → Under a b
      by_note None h e = elim (none-some _ e) [ ]
      by_note (Some x) h e = record {
        note = x;
        is_note = h;
        parent = e;
        made = (class_made a x h).0;
        is_class = (class_made a x h).1;
        rules = ok.classes a x (class_made a x h).0 h (class_made a x h).1;
      }

  slots_over : {a b : ℕ} (y : ClassNote) → Inherits (parent_of n) a b → slice_get n.classes b ≡ Some y →
      (x : ClassNote) × (slice_get n.classes a ≡ Some x) × ((k : ℕ) (s : Sort) → at y.slots k ≡ Some s → at x.slots k ≡ Some s)
  slots_over y itself e = (y, e, λ k s h. h)
  slots_over y (above {c = a} {d = d} up more) e = through (under a d up) (slots_over y more e)
    where
      through : Under a d → (x : ClassNote) × (slice_get n.classes d ≡ Some x) × ((k : ℕ) (s : Sort) → at y.slots k ≡ Some s →
          at x.slots k ≡ Some s) → (x : ClassNote) × (slice_get n.classes a ≡ Some x) × ((k : ℕ) (s : Sort) → at y.slots k ≡ Some s →
          at x.slots k ≡ Some s)
      through q r = (
        q.note,
        q.is_note,
        λ k s h. subst (λ xs. at xs k ≡ Some s) (sym longer.1) (more_slots r.0.slots longer.0 k s (r.2 k s
            h)),
      )
        where
          longer : (more : List Sort) × (q.note.slots ≡ r.0.slots ++ more)
          longer = q.rules.slots d r.0 q.parent r.1

          more_slots : (xs ys : List Sort) (i : ℕ) (a : Sort) → at xs i ≡ Some a → at (xs ++ ys) i ≡ Some a
          more_slots [] ys i a e = elim (none-some _ e) [ ]
          more_slots (x ∷ xs) ys zero a e = e
          more_slots (x ∷ xs) ys (suc i) a e = more_slots xs ys i a e

  overrides_itself : (g : FuncNote) → Overrides c n g g
  overrides_itself g = record { params = refl; result = fits_itself (parent_of n) g.result; fails = λ e. e; waits = λ e. e }

  overrides_on : {f g h : FuncNote} → Overrides c n f g → Overrides c n g h → Overrides c n f h
  overrides_on a b = record {
    params = a.params ∙ b.params;
    result = fits_on (parent_of n) a.result b.result;
    fails = λ e. b.fails (a.fails e);
    waits = λ e. b.waits (a.waits e);
  }

  called : {a b : ℕ} (m j : ℕ) (k : Class) (g : FuncNote) → Inherits (parent_of n) a b → slice_get c.classes b ≡ Some k →
      slice_get k.methods m ≡ Some j → slice_get n.functions j ≡ Some g → Called c n a m g
  called {a = a} m j k g itself e e2 e3 = record {
    made = k;
    is_class = e;
    number = j;
    is_method = e2;
    func = (func_made j g e3).0;
    is_func = (func_made j g e3).1;
    note = g;
    is_note = e3;
    first = own.0;
    params = own.1;
    fits = own.2;
    overrides = overrides_itself g;
  }
    where
      own : (first : Sort) × (g.params ≡ first ∷ rest_of g.params) × Fit c n (s.obj a) first
      own = (ok.classes a (class_noted a k e).0 k (class_noted a k e).1 e).own m j g e2 e3
  called m j k g (above {c = a} {d = d} up more) e e2 e3 = through (under a d up) (called m j k g more e e2 e3)
    where
      through : Under a d → Called c n d m g → Called c n a m g
      through q r = record {
        made = q.made;
        is_class = q.is_class;
        number = mine.0;
        is_method = mine.2;
        func = (func_made mine.0 mine.1 mine.3).0;
        is_func = (func_made mine.0 mine.1 mine.3).1;
        note = mine.1;
        is_note = mine.3;
        first = own.0;
        params = subst (λ xs. mine.1.params ≡ own.0 ∷ xs) (mine.4.params ∙ r.overrides.params) own.1;
        fits = own.2;
        overrides = overrides_on mine.4 r.overrides;
      }
        where
          mine : (i : ℕ) × (f : FuncNote) × (slice_get q.made.methods m ≡ Some i) × (slice_get n.functions i ≡ Some f) ×
              Overrides c n f r.note
          mine = q.rules.inherited d r.made m r.number r.note q.parent r.is_class r.is_method r.is_note

          own : (first : Sort) × (mine.1.params ≡ first ∷ rest_of mine.1.params) × Fit c n (s.obj a) first
          own = q.rules.own m mine.0 mine.1 mine.2 mine.3

  pub known : Known c n
  known = record {
    methods = λ a b m g up is. by_method a b m g up is;
    live = ok.live;
    noted = func_noted;
    begins = ok.begins;
    slots = λ a b y up e. slots_over y up e;
    either = ok.either;
  }
    where
      by_method : (a b m : ℕ) (g : FuncNote) → Inherits (parent_of n) a b → Method c n (s.obj b) m g → Called c n a m g
      by_method a b m g up (method {f = j} {k = k} e e2 e3) = called m j k g up e e2 e3

  ints_are : (t : Typing) (ns : List ℤ) → AreAll (parent_of n) t (vals (map v.int ns)) s.int
  ints_are t [] = no_all
  ints_are t (i ∷ ns) = more_all is_int (ints_are t ns)

  pub inputs_are : (count : ℕ) (ps : List Sort) (ns : List ℤ) → count ≤ 1 → length ps ≡ count → AllFrom c n (s.list s.int) ps →
      All c n (nothing_yet) (inputs_of count ns) ps
  inputs_are zero [] ns h e a = are_no
  inputs_are zero (p ∷ ps) ns h e a = absurd (omega (arith, e))
  inputs_are (suc k) [] ns h e a = absurd (omega (arith, e))
  inputs_are (suc k) (p ∷ []) ns h e (from_so f r) = are_so (is_up (parent_of n) (is_list (ints_are (nothing_yet) ns)) f) are_no
  inputs_are (suc k) (p ∷ q ∷ ps) ns h e a = absurd (omega (arith, h, e))
