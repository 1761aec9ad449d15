-- What the passes find at a node stands there when all nodes are seen.
use Rattle.std.proofs.Common.{◌≡◌, ℕ, suc, ◌+◌, ◌<◌, ◌≤◌, Bool, true, false, cond, List, [], ◌∷◌, ◌++◌, map, length}
use Rattle.std.proofs.Common.{Option, refl, sym, ap, ◌∙◌}
use Rattle.std.proofs.Common.{arith, subst, slice_get, nat_eq, length-append}
use Rattle.std.proofs.lemmas.Bool.Decides.{nat_tests}
use Rattle.std.specs.Prelude.{Some, None}
use Rattle.verse_base.proofs.Facts.{get_front, get_last}
use Rattle.verse_tree.specs.Tree.{Bytes, Shape}
use Rattle.verse_tree.specs.Tree as s
use Rattle.verse_tree.specs.PostOrder.{What, program, item, member, parameter, type_name, expression}
use Rattle.verse_rules_types.specs.Types.{Ty}
use Rattle.verse_rules_types.specs.Types as t
use Rattle.verse_rules_least.specs.Least.{each, Holds, Broken, here, later}
use Rattle.verse_check_typing.specs.Refs.{referred, ref_at}
use Rattle.verse_rules_walk.specs.Around.{Around, argument}
use Rattle.verse_rules_walk.specs.Nodes.{Node, number_of}
use Rattle.verse_check_typing.specs.Sets.{has_number, with_number}
use Rattle.verse_check_typing.specs.Facts.{World, Facts, named_ref, type_of}
use Rattle.verse_check_typing.specs.Members.{member_ref, member_at, field_by, method_by}
use Rattle.verse_check_typing.specs.Steps.{Sight, facts, judge, rules_at, ref_by, shape_ref, defines_variable, loop_left, shape_left}
use Rattle.verse_check_typing.specs.Steps.{with_loop}
use Rattle.verse_check_typing.specs.Steps.{step, Breaks}
use Rattle.verse_accept_scopes.specs.Lists.{Each}
use Rattle.verse_accept_scopes.specs.Sites.{Site, node_of}
use Rattle.verse_accept_scopes.specs.Laws.{parts_of, Stands}
use Rattle.verse_accept_scopes.proofs.Rows.{Row}
use Rattle.verse_accept_rows.specs.Agreeing.{LowRef, Agree}
use Rattle.verse_accept_rows.proofs.Forms.{same_judge, same_rules, same_ref_by}

-- ---- the loops that are left

has_behind : (m : ℕ) (ms : List ℕ) (j : ℕ) → has_number m ms ≡ true → has_number m (ms ++ j ∷ []) ≡ true
has_behind m [] j h = cc
has_behind m (i ∷ ms) j h = by (nat_eq m i) h (has_behind m ms j)
  where
    by : (b : Bool) → cond b true (has_number m ms) ≡ true → (has_number m ms ≡ true → has_number m (ms ++ j ∷ []) ≡ true) →
        cond b true (has_number m (ms ++ j ∷ [])) ≡ true
    by true h f = refl
    by false h f = f h

has_last : (m : ℕ) (ms : List ℕ) → has_number m (ms ++ m ∷ []) ≡ true
has_last m [] = by (nat_eq m m) refl
  where
    by : (b : Bool) → nat_eq m m ≡ b → cond b true false ≡ true
    by true e = refl
    by false e = absurd (grind (arith, nat_tests, e))
has_last m (i ∷ ms) = by (nat_eq m i) (has_last m ms)
  where
    by : (b : Bool) → has_number m (ms ++ m ∷ []) ≡ true → cond b true (has_number m (ms ++ m ∷ [])) ≡ true
    by true h = refl
    by false h = h

has_other : (n m : ℕ) (ms : List ℕ) → n < m → has_number n (ms ++ m ∷ []) ≡ has_number n ms
has_other n m [] l = by (nat_eq n m) refl
  where
    by : (b : Bool) → nat_eq n m ≡ b → cond b true false ≡ false
    by true e = absurd (grind (arith, nat_tests, e, l))
    by false e = refl
has_other n m (i ∷ ms) l = ap (cond (nat_eq n i) true) (has_other n m ms l)

number_itself : (m : ℕ) (ms : List ℕ) → has_number m (with_number m ms) ≡ true
number_itself m ms = by (has_number m ms) refl
  where
    by : (b : Bool) → has_number m ms ≡ b → has_number m (cond b ms (ms ++ m ∷ [])) ≡ true
    by true e = e
    by false e = has_last m ms

number_more : (m j : ℕ) (ms : List ℕ) → has_number m ms ≡ true → has_number m (with_number j ms) ≡ true
number_more m j ms h = by (has_number j ms)
  where
    by : (b : Bool) → has_number m (cond b ms (ms ++ j ∷ [])) ≡ true
    by true = h
    by false = has_behind m ms j h

number_other : (n m : ℕ) (ms : List ℕ) → n < m → has_number n (with_number m ms) ≡ has_number n ms
number_other n m ms l = by (has_number m ms)
  where
    by : (b : Bool) → has_number n (cond b ms (ms ++ m ∷ [])) ≡ has_number n ms
    by true = refl
    by false = has_other n m ms l

loop_itself : (m : ℕ) (o : Option ℕ) (ms : List ℕ) → o ≡ Some m → has_number m (with_loop o ms) ≡ true
loop_itself m None ms e = cc
loop_itself m (Some j) ms e = let same : m ≡ j = cc in subst (λ i. has_number i (with_number j ms) ≡ true) (sym same) (number_itself j ms)

loop_more : (m : ℕ) (o : Option ℕ) (ms : List ℕ) → has_number m ms ≡ true → has_number m (with_loop o ms) ≡ true
loop_more m None ms h = h
loop_more m (Some j) ms h = number_more m j ms h

loop_other : (n : ℕ) (o : Option ℕ) (ms : List ℕ) → ((m : ℕ) → o ≡ Some m → n < m) → has_number n (with_loop o ms) ≡ has_number n ms
loop_other n None ms h = refl
loop_other n (Some m) ms h = number_other n m ms (h m refl)

-- a node leaves the loop round it alone
shape_leaves : (a : Around) (e : Shape) (m : ℕ) → shape_left a e ≡ Some m → a.enclosing ≡ Some m
shape_leaves a s.Shape.break_form m h = h
shape_leaves a e m h = cc

leaves : (a : Around) (e : What) (m : ℕ) → loop_left a e ≡ Some m → a.enclosing ≡ Some m
leaves a (expression e) m h = shape_leaves a e m h
leaves a (item i) m h = cc
leaves a (member d) m h = cc
leaves a (parameter p) m h = cc
leaves a (type_name z) m h = cc
leaves a (program is) m h = cc

-- ---- the pass over types

module _ (k : World) where
  -- n nodes are seen
  pub record Long (n : ℕ) (x : Sight) : Type 0 where
    pub types : length x.types ≡ n
    pub refs : length x.refs ≡ n
    pub vars : length x.vars ≡ n

  one_more : {A : Type 0} (xs : List A) (y : A) (n : ℕ) → length xs ≡ n → length (xs ++ y ∷ []) ≡ suc n
  one_more xs y n h = omega (arith, h, length-append xs (y ∷ []))

  long_step : (v : Node) (x : Sight) (n : ℕ) → Long n x → Long (suc n) (step k v x)
  unfolding step
  long_step v x n h = record {
    types = one_more x.types _ n h.types;
    refs = one_more x.refs _ n h.refs;
    vars = one_more x.vars _ n h.vars;
  }

  record Kept (m : ℕ) (x y : Sight) : Type 0 where
    types : slice_get x.types m ≡ slice_get y.types m
    refs : slice_get x.refs m ≡ slice_get y.refs m
    vars : slice_get x.vars m ≡ slice_get y.vars m

  kept_on : (m : ℕ) (x y z : Sight) → Kept m x y → Kept m y z → Kept m x z
  kept_on m x y z h g = record { types = h.types ∙ g.types; refs = h.refs ∙ g.refs; vars = h.vars ∙ g.vars }

  kept_step : (v : Node) (x : Sight) (n m : ℕ) → Long n x → m < n → Kept m x (step k v x)
  unfolding step
  kept_step v x n m h l = record {
    types = sym (get_front x.types _ m (omega (arith, l, h.types)));
    refs = sym (get_front x.refs _ m (omega (arith, l, h.refs)));
    vars = sym (get_front x.vars _ m (omega (arith, l, h.vars)));
  }

  kept : (vs : List Site) (x : Sight) (n m : ℕ) → Long n x → m < n → Kept m x (each (step k) (map node_of vs) x)
  kept [] x n m h l = record { types = refl; refs = refl; vars = refl }
  kept (v ∷ vs) x n m h l =
      kept_on m x (step k (node_of v) x) _ (kept_step (node_of v) x n m h l)
      (kept vs (step k (node_of v) x) (suc n) m (long_step (node_of v) x n h) (omega (arith, l)))

  -- what a node adds
  record Added (v : Node) (n : ℕ) (x y : Sight) : Type 0 where
    types : slice_get y.types n ≡ Some (judge (facts k x) v).ty
    refs : slice_get y.refs n ≡ Some (ref_by (facts k x) v.number v.what)
    vars : slice_get y.vars n ≡ Some (defines_variable v.what)

  added : (v : Node) (x : Sight) (n : ℕ) → Long n x → Added v n x (step k v x)
  unfolding step
  added v x n h = record {
    types = ap (slice_get (x.types ++ _ ∷ [])) (sym h.types) ∙ get_last x.types (judge (facts k x) v).ty;
    refs = ap (slice_get (x.refs ++ _ ∷ [])) (sym h.refs) ∙ get_last x.refs (ref_by (facts k x) v.number v.what);
    vars = ap (slice_get (x.vars ++ _ ∷ [])) (sym h.vars) ∙ get_last x.vars (defines_variable v.what);
  }

  left_step : (v : Node) (x : Sight) → (step k v x).left ≡ with_loop (loop_left v.around v.what) x.left
  unfolding step
  left_step v x = refl

  left_grows : (vs : List Site) (x : Sight) (m : ℕ) → has_number m x.left ≡ true →
      has_number m (each (step k) (map node_of vs) x).left ≡ true
  left_grows [] x m h = h
  left_grows (v ∷ vs) x m h =
      left_grows vs (step k (node_of v) x) m
      (ap (has_number m) (left_step (node_of v) x) ∙ loop_more m (loop_left v.around v.what) x.left h)

  -- the nodes from n on leave no loop with the number n
  left_kept : (vs : List Site) (x : Sight) (n j hi : ℕ) → n ≤ j → Row j vs hi → Each Stands vs →
      has_number n x.left ≡ has_number n (each (step k) (map node_of vs) x).left
  left_kept [] x n j hi l r h = refl
  left_kept (v ∷ vs) x n j hi l r h =
      sym (ap (has_number n) (left_step (node_of v) x)
      ∙ loop_other n (loop_left v.around v.what) x.left
      (λ m e. omega (arith, l, r.0, h.0.loop m (leaves v.around v.what m e))))
      ∙ left_kept vs (step k (node_of v) x) n (suc j) hi (omega (arith, l)) r.1 h.1

  -- ---- references

  at_low : (m c : ℕ) (i j : Option ℕ) → LowRef m (member_at c i j)
  at_low m c (Some i) j = tt
  at_low m c None (Some j) = tt
  at_low m c None None = tt

  member_low : (f : Facts) (m : ℕ) (u : Ty) (z : Bytes) → LowRef m (member_ref f u z)
  member_low f m (t.class c) z = at_low m c (field_by f c z) (method_by f c z)
  member_low f m u z = tt

  shape_low : (f : Facts) (m : ℕ) (e : Shape) → LowRef m (named_ref f m) → LowRef m (shape_ref f m e)
  shape_low f m (s.Shape.member a z) h = member_low f m (type_of f a) z
  shape_low f m e h = h

  pub ref_low : (f : Facts) (m : ℕ) (e : What) → LowRef m (named_ref f m) → LowRef m (ref_by f m e)
  ref_low f m (expression e) h = shape_low f m e h
  ref_low f m (item i) h = h
  ref_low f m (member d) h = h
  ref_low f m (parameter p) h = h
  ref_low f m (type_name z) h = h
  ref_low f m (program is) h = h

  -- ---- all nodes

  -- at a node, by what is found at all of them
  pub record Typed (y : Sight) (v : Site) : Type 0 where
    pub type : slice_get y.types v.number ≡ Some (judge (facts k y) (node_of v)).ty
    pub ref : slice_get y.refs v.number ≡ Some (ref_by (facts k y) v.number v.what)
    pub var : slice_get y.vars v.number ≡ Some (defines_variable v.what)
    pub left : (m : ℕ) → loop_left v.around v.what ≡ Some m → has_number m y.left ≡ true
    pub rules : (c : ℕ) → Holds (rules_at (facts k y) (node_of v)) c → ⊥

  abbrev RefsLow : ℕ → Sight → Type 0
  RefsLow n x = (m : ℕ) → m < n → LowRef m (ref_at x.refs m)

  abbrev pub NamedLow : Site → Type 0
  NamedLow v = LowRef v.number (ref_at k.names.refs v.number)

  abbrev Quiet : List Site → Sight → Type 0
  Quiet vs x = (n c : ℕ) → Broken number_of (step k) (Breaks k) (map node_of vs) x n c → ⊥

  refs_low : (m : ℕ) (x y : Sight) → Kept m x y → LowRef m (ref_at x.refs m) → LowRef m (ref_at y.refs m)
  refs_low m x y h l = subst (LowRef m) (ap referred h.refs) l

  agrees : (vs : List Site) (x : Sight) (n hi : ℕ) → Row n vs hi → Long n x → Each Stands vs → RefsLow n x →
      LowRef n (ref_at k.names.refs n) → Agree k n x (each (step k) (map node_of vs) x)
  agrees vs x n hi r long h low named = record {
    types = λ m l. (kept vs x n m long l).types;
    refs = λ m l. (kept vs x n m long l).refs;
    vars = λ m l. (kept vs x n m long l).vars;
    left = left_kept vs x n n hi (omega arith) r h;
    low = λ m l. refs_low m x (each (step k) (map node_of vs) x) (kept vs x n m long l) (low m l);
    named = named;
  }

  module _ (v : Site) (vs : List Site) (x : Sight) (n hi : ℕ) (same : v.number ≡ n) (r : Row n (v ∷ vs) hi) (long : Long n x)
      (h : Each Stands (v ∷ vs)) (low : RefsLow n x) (named : NamedLow v) where
    abbrev y : Sight
    y = each (step k) (map node_of vs) (step k (node_of v) x)

    agree : Agree k n x y
    agree = agrees (v ∷ vs) x n hi r long h low (subst (λ (m : ℕ). LowRef m (ref_at k.names.refs m)) same named)

    -- what the node adds stands there in the end
    there : Kept n (step k (node_of v) x) y
    there = kept vs (step k (node_of v) x) (suc n) n (long_step (node_of v) x n long) (omega arith)

    first_typed : Quiet (v ∷ vs) x → Typed y v
    first_typed quiet =
        let own = added (node_of v) x n long in
        let low_parts = subst (λ (m : ℕ). Each (λ (u : Node). u.number < m) (parts_of m v.around v.what)) same h.0.parts in
        let used : (c i : ℕ) → v.around.used ≡ argument c i → c < n = λ c i e. omega (arith, same, h.0.callee c i e) in
        record {
          type = ap (slice_get y.types) same ∙ sym there.types ∙ own.types
              ∙ ap (λ j. Some j.ty) (same_judge k n x y agree (node_of v) same low_parts used);
          ref = ap (slice_get y.refs) same ∙ sym there.refs ∙ own.refs
              ∙ ap Some (ap (λ m. ref_by (facts k x) m v.what) same ∙ same_ref_by k n x y agree v.around v.what low_parts
              ∙ ap (λ m. ref_by (facts k y) m v.what) (sym same));
          var = ap (slice_get y.vars) same ∙ sym there.vars ∙ own.vars;
          left = λ m e. left_grows vs (step k (node_of v) x) m
              (ap (has_number m) (left_step (node_of v) x) ∙ loop_itself m (loop_left v.around v.what) x.left e);
          rules = λ c b. quiet v.number c (here (subst (λ rs. Holds rs c) (sym (same_rules k n x y agree
              (node_of v) same low_parts used)) b));
        }

    low_behind : RefsLow (suc n) (step k (node_of v) x)
    low_behind m l = by (nat_eq m n) refl
      where
        by : (b : Bool) → nat_eq m n ≡ b → LowRef m (ref_at (step k (node_of v) x).refs m)
        by true e =
            let is : m ≡ n = grind (arith, nat_tests, e) in
            let own = (added (node_of v) x n long).refs in
            subst (λ (j : ℕ). LowRef j (ref_at (step k (node_of v) x).refs j)) (sym is)
            (subst (LowRef n) (sym (ap referred own))
            (subst (λ (j : ℕ). LowRef j (ref_by (facts k x) v.number v.what)) same (ref_low (facts k x) v.number v.what named)))
        by false e =
            let under : m < n = grind (arith, nat_tests, e, l) in
            refs_low m x (step k (node_of v) x) (kept_step (node_of v) x n m long under) (low m under)

  pub each_typed : (vs : List Site) (x : Sight) (n hi : ℕ) → Row n vs hi → Long n x → Each Stands vs → Each NamedLow vs → RefsLow n x →
      Quiet vs x → Each (Typed (each (step k) (map node_of vs) x)) vs
  each_typed [] x n hi r long h named low quiet = tt
  each_typed (v ∷ vs) x n hi r long h named low quiet = (
    first_typed v vs x n hi r.0 r long h low named.0 quiet,
    each_typed vs (step k (node_of v) x) (suc n) hi r.1 (long_step (node_of v) x n long) h.1 named.1
        (low_behind v vs x n hi r.0 r long h low named.0) (λ m c b. quiet m c (later b)),
  )
