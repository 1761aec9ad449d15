-- What `set` writes to: what has the place as a slot, and the indices that lead on from there.
use Rattle.std.proofs.Common.{◌≡◌, ℕ, suc, ◌+◌, length, List, [], ◌∷◌, ◌++◌, Option, Some, Bool, true, false, refl, sym, ◌∙◌}
use Rattle.std.proofs.Common.{subst, ap, arith, length-append}
use Rattle.verse_base.specs.declared.places.Place.{Place}
use Rattle.verse_tree.specs.Tree.{Bytes, Tree, tree, Shape, Trees}
use Rattle.verse_tree.specs.Tree as t
use Rattle.verse_tree.specs.declared.tables.Ref.{Ref}
use Rattle.verse_tree.specs.declared.tables.Ref.TheVariants as ref
use Rattle.verse_code.specs.declared.codes.Code.{Code}
use Rattle.verse_code.specs.declared.operations.Op.TheVariants as o
use Rattle.verse_names_tables.specs.Names.{Table}
use Rattle.verse_sorts.specs.Sorts as s
use Rattle.verse_sorts.specs.Sorts.{Sort, IsKnown, Fits}
use Rattle.verse_sorts.specs.Typing.{at}
use Rattle.verse_sorts.proofs.Fitting.{fits_itself}
use Rattle.verse_meaning.specs.Programs.{Program, ref_at}
use Rattle.verse_meaning.specs.Residuals.{Base, in_variable, in_self, in_object, nowhere}
use Rattle.verse_meaning.specs.Evaluating.{base_of, base_named, base_member, number_of}
use Rattle.verse_sound_rules.specs.Found as rules
use Rattle.verse_sound_rules.specs.Found.{Allowed}
use Rattle.verse_sound_rules.specs.Forms.{Placed, in_local, in_own, in_field}
use Rattle.verse_sound_rules.specs.Fine.{sort_at, sorts_at, FineTarget}
use Rattle.verse_sound_rules.specs.Programs.{FineFound}
use Rattle.verse_verify_kept.specs.Notes.{Notes, parent_of}
use Rattle.verse_verify_kept.specs.Rules as r
use Rattle.verse_verify_kept.specs.Rules.{Slot, slot_var, slot_obj}
use Rattle.lower_code.specs.Pieces as c
use Rattle.lower_code.specs.Pieces.{Maker}
use Rattle.lower_code.specs.declared.arounds.Around.{Around}
use Rattle.lower_code.specs.Arounds.{up, raised}
use Rattle.lower_code.specs.Scopes.{Scope, Found, fixed, varies, absent, find, push_varies, is_fixed, is_varies}
use Rattle.lower_code.specs.Applied.{slot_of}
use Rattle.lower_code.specs.Lowering.{target_operands, base_code, piece, target_piece, has_base, args}
use Rattle.lower_notes.specs.States.{State, gets}
use Rattle.lower_notes.specs.Stretches.{Walk}
use Rattle.lower_notes.specs.Applied as walks
use Rattle.lower_notes.specs.Noting as noting
use Rattle.lower_notes.specs.Laws.{Beside}
use Rattle.lower_notes.proofs.Counted.{code_then, walk_then}
use Rattle.lower_sound.proofs.Names as sound
use Rattle.lower_sound.proofs.Leaves.{target_there}
use Rattle.lower_sound.proofs.Counts.{sorts_many}
use Rattle.lower_pass_states.proofs.Points.{over}
use Rattle.lower_pass_states.proofs.Locals.{local_is}
use Rattle.lower_pass_states.proofs.Steps as step
use Rattle.lower_pass_states.proofs.Steps.{turned, turned_length}
use Rattle.lower_pass_stretches.proofs.Names.{Sees, Named, constant_named, variable_named, key_named, IsOwn, is_own}
use Rattle.lower_pass_stretches.proofs.Going.{Way, If, itself, Going, Steady, then_goes}
use Rattle.lower_pass_stretches.proofs.Single.{IsValue}
use Rattle.lower_pass_stretches.proofs.Inside.{Inside, steady_of}
use Rattle.lower_pass_forms.proofs.Finishing.{IsOver, over_itself, step_goes}
use Rattle.lower_pass_forms.proofs.Applied.{noted_found}
use Rattle.lower_pass_forms.proofs.Calls.{Declared}
use Rattle.lower_pass_forms.proofs.Callees.{own_goes}
use Rattle.verse_sound_rules.specs.Fine.{Settled, Reaches}
use Rattle.lower_pass_values.proofs.Operands.{AreKnown, sorts_known, append_known, turned_known, over_here, raised_up}
use Rattle.lower_pass_values.proofs.Indices.{noted_indices, noted_many, noted_path, noted_known, indices_fit}

pub turned_append : (is js qs : List Sort) → turned (is ++ js) qs ≡ turned js (turned is qs)
turned_append [] js qs = refl
turned_append (i ∷ is) js qs = turned_append is js (i ∷ qs)

turned_on_one : (is : List Sort) (q : Sort) → length (turned is (q ∷ [])) ≡ suc (length is)
turned_on_one is q = omega (arith, many is (q ∷ []))
  where
    many : (is qs : List Sort) → length (turned is qs) ≡ length is + length qs
    many [] qs = omega arith
    many (i ∷ is) qs = omega (arith, many is (i ∷ qs))

module _ (code : Code) (notes : Notes) where
  path_then : {q d e : Sort} {is js : List Sort} → r.Path code notes q is d → r.Path code notes d js e → r.Path code notes q (is ++ js) e
  path_then r.path_no k = k
  path_then (r.path_so i h) k = r.path_so i (path_then h k)

-- what is visible is there
module _ (found : rules.Found) {n : ℕ} {ls : List Sort} where
  there_so : {q : Ref} {l : Found} → Named found n ls q l → sound.is_there l ≡ true
  there_so (constant_named v k e) = refl
  there_so (variable_named v k e) = refl
  there_so (key_named k e) = refl

  varies_so : {m : ℕ} {l : Found} → found.is_var m ≡ true → Named found n ls (ref.Local m) l → is_varies l ≡ true
  varies_so v (constant_named f k e) = absurd (no (sym v ∙ f))
    where
      no : true ≡ false → ⊥
      no h = absurd (cc)
  varies_so v (variable_named f k e) = refl

  fixed_so : {d : ℕ} {l : Found} → IsOwn found n ls d l → is_fixed l ≡ true
  fixed_so (is_own k e) = refl

pub sees_so : (found : rules.Found) {this : Option ℕ} {xs : Table} {sc : Scope} {ls : List Sort} → Sees found this xs sc ls →
    sound.Sees found this xs sc
sees_so found h = record {
  names = λ x q e. there_so found (h.names x q e);
  variables = λ x m e v. varies_so found v (h.names x (ref.Local m) e);
  own = λ d e. fixed_so found (h.own d e);
}

module _ (p : Program) (found : rules.Found) (differ : ℕ → ℕ → Bool) (code : Code) (notes : Notes)
    (declared : Declared p found code notes) (fine : FineFound p (noted_found notes found)) (w : Way) (ts : List ℕ)
    (al : Allowed) (xs : Table) (sc : Scope) (a : Around) (x : Option State) where
  abbrev F : rules.Found
  F = noted_found notes found

  abbrev Here : Around → State → Type 0
  Here a y = Inside code notes F w ts al xs sc a y

  -- The place is a slot of what lies beneath the indices, which lead from there on; all of these are on the stack.
  pub record Target (base : Base) (count : ℕ) (part : Sort) (f : Maker) (g : Walk) : Type 0 where
    pub holder : Sort
    pub whole : Sort
    pub indices : List Sort
    pub slot : Slot code notes holder (slot_of base) whole
    pub path : r.Path code notes whole indices part
    pub many : count ≡ length indices
    pub known : IsKnown holder × AreKnown indices
    pub goes : Going code notes w ts x f g itself (IsOver code notes (turned indices (holder ∷ [])) x)

  abbrev pub TargetOf : Tree → Type 0
  TargetOf b = Target (base_of p b) (target_operands b) (sort_at p F b) (target_piece p differ b (base_of p b) sc a)
      (noting.target_walk p found differ b (base_of p b) sc a)

  -- an index that is put in behind it
  index_more : {base : Base} {m k : ℕ} {q d : Sort} {is : List Sort} {f h : Maker} {g j : Walk} → Target base m q f g → Beside f g →
      Reaches p F q is d → AreKnown is → k ≡ length is →
      ((u : Option State) (qs : List Sort) → AreKnown qs → If u (IsOver code notes qs x) → length qs ≡ suc m →
      Going code notes w ts u h j itself (IsOver code notes (turned (noted_indices q is) qs) x)) →
      Target base (k + m) d (code_then f h) (walk_then g j)
  index_more {q = q} {is = is} {h = h} {j = j} first beside reach known e run = record {
    holder = first.holder;
    whole = first.whole;
    indices = first.indices ++ noted_indices q is;
    slot = first.slot;
    path = path_then code notes first.path (noted_path p found code notes reach);
    many = sum (length-append first.indices (noted_indices q is)) first.many (e ∙ sym (noted_many q is));
    known = (
      first.known.0,
      append_known first.indices (noted_indices q is) first.known.1
          (noted_known p found code notes q is (indices_fit p found code notes reach known)),
    );
    goes = then_goes code notes beside first.goes (λ u i.
        subst (λ qs. Going code notes w ts u h j itself (IsOver code notes qs x))
        (sym (turned_append first.indices (noted_indices q is) (first.holder ∷ [])))
        (run u (turned first.indices (first.holder ∷ []))
        (turned_known first.indices (first.holder ∷ []) first.known.1 (first.known.0, tt)) i
        (turned_on_one first.indices first.holder ∙ ap suc (sym first.many))));
  }
    where
      sum : {a b i j n : ℕ} → n ≡ i + j → a ≡ i → b ≡ j → b + a ≡ n
      sum e f g = omega (arith, e, f, g)

  module _ (here : If x (Here a)) where
    steady : If x (Steady code notes ts)
    steady y e = steady_of code notes (here y e)

    -- ---- a name

    -- the cell of a variable
    cell_goes : (y : Bytes) (m : ℕ) (l : Found) → F.is_var m ≡ true → If x (λ z. Named F (length sc) z.locals (ref.Local m) l) →
        Going code notes w ts x (push_varies l) (walks.push_varies l) itself (IsOver code notes (s.var (F.sort m) ∷ []) x)
    cell_goes y m (varies l) v h = step_goes code notes (c.one (o.Get l)) (λ k. o.Get l) (λ k. refl) [] steady (over_itself code notes)
        (s.var (F.sort m) ∷ []) (gets l) (λ z e. ap (λ q. over (q ∷ []) z) (local_is z.locals l (read z (h z e))))
        (λ z e k i. step.get_asked code notes z (here z e).even i l (read z (h z e)) tt
        (fits_itself (parent_of notes) (s.var (F.sort m))))
      where
        read : (z : State) → Named F (length sc) z.locals (ref.Local m) (varies l) → at z.locals l ≡ Some (s.var (F.sort m))
        read z (variable_named v k e) = e
    cell_goes y m (fixed l) v h = step_goes code notes (c.one o.Unit) (λ k. o.Unit) (λ k. refl) [] steady (over_itself code notes)
        (s.var (F.sort m) ∷ []) _ (λ z e. absurd (none z (h z e))) (λ z e k i. absurd (none z (h z e)))
      where
        none : (z : State) → Named F (length sc) z.locals (ref.Local m) (fixed l) → ⊥
        none z k = not_fixed (varies_so F v k)
          where
            not_fixed : is_varies (fixed l) ≡ true → ⊥
            not_fixed h = absurd (cc)
    cell_goes y m absent v h = step_goes code notes (c.one o.Unit) (λ k. o.Unit) (λ k. refl) [] steady (over_itself code notes)
        (s.var (F.sort m) ∷ []) _ (λ z e. absurd (none z (h z e))) (λ z e k i. absurd (none z (h z e)))
      where
        none : (z : State) → Named F (length sc) z.locals (ref.Local m) absent → ⊥
        none z h = elim h [ ]

    abbrev Rooted : Base → Sort → Type 0
    Rooted base q = Target base 0 q (base_code p differ base sc) (walks.base_walk base sc)

    base_placed : (base : Base) (q : Sort) → Placed p F al xs base [] q → Rooted base q
    base_placed (in_variable y) q (in_local {m = m} e v) = record {
      holder = s.var (F.sort m);
      whole = F.sort m;
      indices = [];
      slot = slot_var;
      path = r.path_no;
      many = refl;
      known = (tt, tt);
      goes = cell_goes y m (find y sc) v (λ z k. (here z k).sees.names y (ref.Local m) e);
    }
    base_placed (in_self i) q (in_own d this e) = record {
      holder = s.obj d;
      whole = q;
      indices = [];
      slot = let k = declared.slots d i q e in slot_obj k.1.0 (subst (λ z. at z i ≡ Some q) (sym k.1.1) e);
      path = r.path_no;
      many = refl;
      known = (tt, tt);
      goes = own_goes p found differ code notes declared fine w ts al xs sc a x here d this;
    }
    base_placed (in_object i) q h = elim h [ ]
    base_placed nowhere q h = elim h [ ]

    pub target_name : (i : ℕ) (pl : Place) (y : Bytes) → Settled p F al xs (tree i pl (t.Shape.name y)) →
        TargetOf (tree i pl (t.Shape.name y))
    target_name i pl y h = base_placed (base_named p (ref_at p i) y) (F.sort i) h

  -- ---- a field of an object

  object_slot : (o : Option Ref) (q d : Sort) → Placed p F al xs (base_member p o) (q ∷ []) d →
      Slot code notes q (slot_of (base_member p o)) d
  object_slot (Some (ref.Field c i)) q d (in_field {c = k} e) =
      let n = declared.slots k i d e in slot_obj n.1.0 (subst (λ z. at z i ≡ Some d) (sym n.1.1) e)
  object_slot o q d h = elim h [ ]

  pub target_member : (i : ℕ) (pl : Place) (b : Tree) (y : Bytes) → Settled p F al xs (tree i pl (t.Shape.member b y)) →
      Going code notes w ts x (piece p differ b sc a) (noting.walk p found differ b sc a) itself
      (IsValue code notes (sort_at p F b) x) →
      TargetOf (tree i pl (t.Shape.member b y))
  target_member i pl b y h goes = record {
    holder = sort_at p F b;
    whole = F.sort i;
    indices = [];
    slot = object_slot (ref_at p i) (sort_at p F b) (F.sort i) h;
    path = r.path_no;
    many = refl;
    known = (fine.known.sort (number_of b), tt);
    goes = goes;
  }

  -- ---- an index

  module _ (here : If x (Here a)) where
    pub target_index : (i : ℕ) (pl : Place) (b : Tree) (is : Trees) → Settled p F al xs (tree i pl (t.Shape.index b is)) →
        Beside (target_piece p differ b (base_of p b) sc a) (noting.target_walk p found differ b (base_of p b) sc a) → TargetOf b →
        ((u : Option State) (qs : List Sort) → If u (Here (up (raised (target_operands b) a))) → If u (IsOver code notes qs x) →
        Going code notes w ts u (args p differ is sc (up (raised (target_operands b) a)))
        (noting.indices p found differ (sort_at p F b) is sc (up (raised (target_operands b) a))) itself
        (IsOver code notes (turned (noted_indices (sort_at p F b) (sorts_at p F is)) qs) x)) →
        TargetOf (tree i pl (t.Shape.index b is))
    target_index i pl b is h beside first run = index_more first beside h.1 (sorts_known p F fine.known is)
        (sym (sorts_many p F is)) (λ u qs known k e. run u qs (higher u qs known k (sym e)) k)
      where
        higher : (u : Option State) (qs : List Sort) → AreKnown qs → If u (IsOver code notes qs x) → suc (target_operands b) ≡ length qs →
            If u (Here (up (raised (target_operands b) a)))
        higher u qs known k e = subst (λ z. If u (Here z)) (raised_up (target_operands b) a)
            (over_here F code notes w ts al xs sc x qs known (suc (target_operands b)) a e here k)

    -- above all of this
    pub target_here : {base : Base} {m : ℕ} {q : Sort} {f : Maker} {g : Walk} {u : Option State} (target : Target base m q f g) →
        If u (IsOver code notes (turned target.indices (target.holder ∷ [])) x) → If u (Here (up (raised m a)))
    target_here {m = m} {u = u} target k = subst (λ z. If u (Here z)) (raised_up m a)
        (over_here F code notes w ts al xs sc x (turned target.indices (target.holder ∷ []))
        (turned_known target.indices (target.holder ∷ []) target.known.1 (target.known.0, tt)) (suc m) a
        (ap suc target.many ∙ sym (turned_on_one target.indices target.holder)) here k)

    -- it is there
    abbrev Root : Tree → Type 0
    Root b = (os : List Sort) × ((q : Sort) × Placed p F al xs (base_of p b) os q)

    placed_root : (b : Tree) → FineTarget p F al xs b → Settled p F al xs b → Root b
    placed_root (tree i pl (t.Shape.name y)) g h = ([], (F.sort i, h))
    placed_root (tree i pl (t.Shape.member b y)) g h = (sort_at p F b ∷ [], (F.sort i, h))
    placed_root (tree i pl (t.Shape.index b is)) g h = placed_root b g.0 h.0
    placed_root (tree i pl z) g h = elim g [ ]

    pub has_base_so : (b : Tree) → FineTarget p F al xs b → Settled p F al xs b → If x (λ y. has_base p differ b (base_of p b) sc ≡ true)
    has_base_so b g h y e = target_there p differ F al xs sc (sees_so F (here y e).sees) b g (placed_root b g h).1.1
