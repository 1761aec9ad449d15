-- Statements, clauses, callees, members and arms, where their parts have the code of so many `defer`s.
use Rattle.std.proofs.Common.{◌≡◌, ℕ, suc, ◌+◌, Bool, true, false, Option, Some, None, refl, sym}
use Rattle.std.proofs.Common.{arith}
use Rattle.std.proofs.Common.{neg_ℤ}
use Rattle.std.proofs.lemmas.Option.{none-some}
use Rattle.verse_base.specs.declared.places.Place.{Place}
use Rattle.verse_tree.specs.Tree.{Bytes, Tree, tree, Shape, Trees, Givens}
use Rattle.verse_tree.specs.Tree as t
use Rattle.verse_tree.specs.declared.tables.Ref.{Ref}
use Rattle.verse_tree.specs.declared.tables.Ref.TheVariants as ref
use Rattle.verse_code.specs.declared.operations.Op.TheVariants as o
use Rattle.verse_value.specs.Val.{Val}
use Rattle.verse_meaning.specs.Programs.{Program, same_name, ref_at, pattern_value}
use Rattle.verse_meaning.specs.Residuals.{Form, Generator, of_elements, of_entries, of_range}
use Rattle.verse_meaning.specs.Evaluating.{Statement, plain, defines, defers, generates, Callee, alone, of_object}
use Rattle.verse_meaning.specs.Evaluating.{of_value, of_quotient, no_callee, named_callee, member_callee}
use Rattle.verse_meaning.specs.Evaluating.{callee_of}
use Rattle.verse_meaning.specs.Evaluating.{callee_of_shape, await_name, signal_name, number_of, spawned_callee}
use Rattle.verse_sound_rules.specs.Fine.{on_callee, on_statement, on_member}
use Rattle.lower_code.specs.Pieces.{Maker, turning, ◌then◌}
use Rattle.lower_code.specs.Scopes.{Scope}
use Rattle.lower_code.specs.Lowering.{by_callee, with_binder, with_generator, taking, stated, claused, membered}
use Rattle.lower_code.specs.Lowering.{enum_pattern, pattern_op, is_any, arm_by, arm_of, instance_of}
use Rattle.lower_bounds.proofs.Lists.{on_cond}
use Rattle.lower_bounds.proofs.Leaves.{NoCall}
use Rattle.lower_bounds.proofs.Statements.{CalleeFits}
use Rattle.lower_code_defers.specs.Counts.{defers_in}
use Rattle.lower_code_defers.specs.Programs.{left_object, behind_first, left_indexed}
use Rattle.lower_code_defers.proofs.Counted.{Counts, Has, same, so, both, then_other, other_then, just, at_place}
use Rattle.lower_code_defers.proofs.Counted.{text}
use Rattle.lower_code_defers.proofs.Counted.{sticks, before, one_of, deferred, turns}
use Rattle.lower_code_defers.proofs.Nodes.{count, many}
use Rattle.lower_code_defers.proofs.Others.{quiet, enum_other, binds, fields_other}

-- ---- callees

-- a callee that has no code of its own is a name
abbrev pub HasNone : Callee → Tree → Type 0
HasNone (alone x) b = count b ≡ 0
HasNone (of_quotient x) b = count b ≡ 0
HasNone k b = Unit {0}

any_none : (k : Callee) (b : Tree) → count b ≡ 0 → HasNone k b
any_none (alone x) b h = h
any_none (of_object x) b h = tt
any_none (of_value x) b h = tt
any_none (of_quotient x) b h = h
any_none no_callee b h = tt

member_none : (r : Option Ref) (of_event : Bool) (x : Bytes) (whole : Form) (b : Tree) →
    HasNone (member_callee r of_event x whole) b
member_none (Some (ref.Method c m)) v x whole b = tt
member_none (Some r) v x whole b = tt
member_none None v x whole b = on_cond (λ k. HasNone k b) (same_name x await_name) tt (on_cond (λ k. HasNone k b)
    (same_name x signal_name) tt tt)

shape_none : (p : Program) (n : ℕ) (q : Place) (x : Shape) (whole : Form) (pl : Place) →
    HasNone (callee_of_shape p n x whole pl) (tree n q x)
shape_none p n q (t.Shape.name y) whole pl =
    any_none (named_callee (ref_at p n) whole pl) (tree n q (t.Shape.name y)) refl
shape_none p n q (t.Shape.member c y) whole pl =
    member_none (ref_at p n) (p.is_event (number_of c)) y whole (tree n q (t.Shape.member c y))
shape_none p n q x whole pl = tt

pub callee_none : (p : Program) (b : Tree) (whole : Form) (pl : Place) → HasNone (callee_of p b whole pl) b
callee_none p (tree n q x) whole pl = shape_none p n q x whole pl

pub spawned_none : (k : Callee) (b : Tree) → HasNone k b → HasNone (spawned_callee k) b
spawned_none (alone x) b h = h
spawned_none (of_object x) b h = tt
spawned_none (of_value x) b h = tt
spawned_none (of_quotient x) b h = tt
spawned_none no_callee b h = tt

pub spawned_left : (k : Callee) (ts : Trees) → defers_in (left_indexed (spawned_callee k) ts) ≡ 0
spawned_left (alone x) ts = refl
spawned_left (of_object x) ts = refl
spawned_left (of_value x) ts = refl
spawned_left (of_quotient x) ts = refl
spawned_left no_callee ts = refl

-- what is left out in round brackets, beside what is in square ones
abbrev pub LeftValue : Callee → Trees → Type 0
LeftValue (of_value x) ts = many ts ≡ 0
LeftValue k ts = Unit {0}

module _ (p : Program) (differ : ℕ → ℕ → Bool) where
  pub by_kind : (b : Tree) (ts : Trees) (k : Callee) {by_none by_object by_value by_quotient : Form → Type 0}
      {on_none on_object on_value on_quotient : Form → Maker} {n : ℕ} → CalleeFits (quiet p differ) k → HasNone k b →
      on_callee k by_none by_object by_value by_quotient → defers_in (left_indexed k ts) ≡ 0 →
      ((x : Form) → count b ≡ 0 → by_none x → Has (on_none x) n) →
      ((x : Form) → NoCall (quiet p differ) x → by_object x → Has (on_object x) n) →
      ((x : Form) → k ≡ of_value x → NoCall (quiet p differ) x → by_value x → Has (on_value x) n) →
      ((x : Form) → NoCall (quiet p differ) x → count b ≡ 0 → defers_in (behind_first ts) ≡ 0 → by_quotient x →
      Has (on_quotient x) n) →
      Has (by_callee k on_none on_object on_value on_quotient) n
  unfolding by_callee
  by_kind b ts (alone x) c h g v i j l m = i x h g
  by_kind b ts (of_object x) c h g v i j l m = j x c.1 g
  by_kind b ts (of_value x) c h g v i j l m = l x refl c.1 g
  by_kind b ts (of_quotient x) c h g v i j l m = m x c.1 h v g
  by_kind b ts no_callee c h g v i j l m = elim g [ ]

  -- ---- members

  pub by_member : (b : Tree) (w : Option Val) (is_value : Val → Type 0) {as_object : Type 0} {m : Maker} →
      on_member w is_value as_object → defers_in (left_object w b) ≡ 0 → (as_object → Has m (count b)) →
      Has (membered p differ w m) (count b)
  unfolding membered
  by_member b (Some w) is_value h v k = so (sym v) (enum_other p differ w)
  by_member b None is_value h v k = k h

  -- ---- statements

  pub states : (s : Statement) (sc : Scope) (whole inner : Maker) {n k : ℕ} →
      on_statement s (Counts whole n k) (λ y. Counts inner n k) (λ d. Has inner k × (n ≡ suc k)) (λ y. ⊥) →
      Counts (stated p differ s sc whole inner) n k
  unfolding stated
  states plain sc whole inner h = h
  states (defines b) sc whole inner h = same (omega arith) (omega arith) (both h (binds p differ b _))
  states (defers d) sc whole inner h =
      same (omega (arith, h.1)) (omega arith) (both (deferred h.0) (just o.Unit (refl, refl)))
  states (generates y) sc whole inner h = elim h [ ]

  takes_from : {m : Maker} {n : ℕ} (y : Generator) (l : ℕ) → Has m n → Has (turning (taking y l) l m) n
  takes_from (of_elements x) l h = turns (o.Each l) l (refl, refl) h
  takes_from (of_entries k x) l h = turns (o.Each l) l (refl, refl) h
  takes_from (of_range x) l h = turns (o.Range l) l (refl, refl) h

  -- a clause of a `for`, with what is behind it
  pub clauses_one : (s : Statement) (sc : Scope) (whole inner : Maker) (n : ℕ) {rest : Scope → Maker} {r : ℕ} →
      on_statement s (Has whole n) (λ y. Has inner n) (λ d. ⊥) (λ y. Has inner n) →
      ((sc : Scope) → Has (rest sc) r) → Has (claused p differ s sc whole inner rest) (n + r)
  unfolding claused
  clauses_one plain sc whole inner n h k = both h (other_then (just o.Drop (refl, refl)) (k sc))
  clauses_one (defines b) sc whole inner n h k =
      both h (other_then (binds p differ b _) (other_then (just o.Drop (refl, refl)) (k (with_binder b sc))))
  clauses_one (defers d) sc whole inner n h k = elim h [ ]
  clauses_one (generates y) sc whole inner n h k = both h (takes_from y _ (k (with_generator y sc)))

  -- ---- arms of a `case`

  pattern_other : (w : Option Val) → Has (enum_pattern w) 0
  pattern_other None = sticks
  pattern_other (Some w) = enum_other p differ w

  patterns : (x : Shape) → Has (pattern_op p differ x) 0
  patterns (t.Shape.integer_pattern z) = just (o.Int z) (refl, refl)
  patterns (t.Shape.minus_pattern z) = just (o.Int (neg_ℤ z)) (refl, refl)
  patterns (t.Shape.character_pattern c) = just (o.Char c) (refl, refl)
  patterns (t.Shape.text_pattern bs) = text bs
  patterns t.Shape.truth_pattern = just o.True (refl, refl)
  patterns t.Shape.falsehood_pattern = just o.False (refl, refl)
  patterns (t.Shape.enum_pattern x y) = pattern_other (pattern_value p x y)
  patterns x = sticks

  pub last_arm : (b : Tree) (l : ℕ) (body rest : Maker) {n : ℕ} → Has body n → Has
      (arm_of p differ b l true body rest) n
  unfolding arm_by
  last_arm (tree n pl x) l body rest h = h

  arm_counts : (x : Shape) (l : ℕ) (any : Bool) {body rest : Maker} {n r : ℕ} → Has body n → Has rest r →
      Has (arm_by p differ x l false any body rest) (n + r)
  unfolding arm_by
  arm_counts x l true h g = both h (before o.Jump (λ m. (refl, refl)) g)
  arm_counts x l false h g =
      other_then (patterns x) (other_then (just (o.Get l) (refl, refl)) (one_of o.Same (λ m. (refl, refl)) h g))

  pub one_arm : (b : Tree) (l : ℕ) {body rest : Maker} {n r : ℕ} → Has body n → Has rest r →
      Has (arm_of p differ b l false body rest) (n + r)
  one_arm (tree n pl x) l h g = arm_counts x l (is_any p differ x) h g

  -- ---- instances

  pub makes : (i : Option ℕ) (c : ℕ) (pl : Place) (gs : Givens) (l : ℕ) {given : Maker} {n : ℕ} → i ≡ Some c →
      Has given n → Has (instance_of p differ i pl gs l given) n
  unfolding instance_of
  makes None c pl gs l e h = elim (none-some c e) [ ]
  makes (Some d) c pl gs l e h =
      then_other h (then_other (fields_other p differ d gs l) (at_place pl (o.Object d) (λ m. (refl, refl))))
