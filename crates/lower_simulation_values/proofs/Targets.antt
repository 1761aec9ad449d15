-- What `set` writes to: the cell, and the indices that lead from it.
use Rattle.std.proofs.Common.{◌≡◌, ℕ, zero, suc, ◌+◌, List, [], ◌∷◌, ◌++◌, length, Option, Some, Bool, true, false, refl, sym, ap}
use Rattle.std.proofs.Common.{◌∙◌, subst}
use Rattle.std.proofs.Common.{arith, append_assoc, length-append}
use Rattle.verse_base.specs.declared.places.Place.{Place}
use Rattle.verse_tree.specs.Tree.{Bytes, Tree, tree, Shape, Trees, no_trees, more_trees}
use Rattle.verse_tree.specs.Tree as t
use Rattle.verse_tree.specs.declared.tables.Ref.{Ref}
use Rattle.verse_tree.specs.declared.tables.Ref.TheVariants as ref
use Rattle.verse_code.specs.declared.operations.Op.TheVariants as op
use Rattle.verse_value.specs.Val.{Val}
use Rattle.verse_meaning.specs.Programs.{trees_list, ref_at}
use Rattle.verse_meaning.specs.Residuals.{Env, Form, Base, in_variable, in_self, in_object, nowhere, args}
use Rattle.verse_meaning.specs.Outcomes.{World, Outcome, halted, wrong, valued}
use Rattle.verse_meaning.specs.Evaluating as meaning
use Rattle.verse_meaning.specs.Evaluating.{targets, indices, base_of, base_named, base_member}
use Rattle.verse_meaning.specs.Runs.{deeper}
use Rattle.lower_code.specs.Pieces.{Spot, past}
use Rattle.lower_code.specs.Scopes.{Scope as Names, find, this_found, push_fixed, push_varies, is_fixed, is_varies}
use Rattle.lower_code.specs.declared.arounds.Around.{Around as Where}
use Rattle.lower_code.specs.Arounds.{up, raised}
use Rattle.lower_code.specs.Lowering as low
use Rattle.lower_code.specs.Lowering.{piece, how_many, target_operands, has_base}
use Rattle.lower_simulation.proofs.Claims.{Way, Setting, Here}
use Rattle.lower_simulation.proofs.Standing.{Stands, then_stand, stuck_stand}
use Rattle.lower_simulation.proofs.Forms.{EvLeads, All_lead}
use Rattle.lower_simulation_values.proofs.Tables.{Every}
use Rattle.lower_simulation_values.proofs.Operands.{in_turn, Listed, to_end}

-- what the indices lead from
pub data Root : Type 0 where
  variable_root : Bytes → Root
  self_root : (slot : ℕ) → Root
  object_root : (slot : ℕ) → Root
  no_root : Root

abbrev pub base_for : Root → Base
base_for (variable_root x) = in_variable x
base_for (self_root n) = in_self n
base_for (object_root n) = in_object n
base_for no_root = nowhere

pub data Rooted : Tree → Root → Type 0 where
  at_variable : {n : ℕ} {pl : Place} {x y : Bytes} → Rooted (tree n pl (t.Shape.name x)) (variable_root y)
  at_self : {n : ℕ} {pl : Place} {x : Bytes} {slot : ℕ} → Rooted (tree n pl (t.Shape.name x)) (self_root slot)
  at_object : {n : ℕ} {pl : Place} {b : Tree} {x : Bytes} {slot : ℕ} → Rooted (tree n pl (t.Shape.member b x)) (object_root slot)
  at_none : {n : ℕ} {pl : Place} {b : Tree} {x : Bytes} → Rooted (tree n pl (t.Shape.member b x)) no_root
  at_index : {n : ℕ} {pl : Place} {b : Tree} {ts : Trees} {r : Root} → Rooted b r → Rooted (tree n pl (t.Shape.index b ts)) r

-- the object, where it is an operand, and the indices
abbrev mutual
  pub target_list_shape : Shape → List Tree
  target_list_shape (t.Shape.member b x) = b ∷ []
  target_list_shape (t.Shape.index b ts) = target_list b ++ trees_list ts
  target_list_shape s = []

  pub target_list : Tree → List Tree
  target_list (tree n pl s) = target_list_shape s

-- whether the code finds where to write
abbrev pub root_has : Root → Names → Bool
root_has (variable_root x) ss = is_varies (find x ss)
root_has (self_root n) ss = is_fixed (this_found ss)
root_has (object_root n) ss = true
root_has no_root ss = false

-- a cell lies beneath the operands, or none
abbrev pub root_around : Root → Where → Where
root_around (variable_root x) a = up a
root_around (self_root n) a = up a
root_around (object_root n) a = a
root_around no_root a = a

abbrev pub root_spot : Root → Names → Spot → Spot
root_spot (variable_root x) ss s = past s (push_varies (find x ss) s)
root_spot (self_root n) ss s = past s (push_fixed (this_found ss) s)
root_spot (object_root n) ss s = s
root_spot no_root ss s = s

-- how many indices there are, beside the object
abbrev pub operands_of : Root → ℕ → ℕ
operands_of (variable_root x) n = n
operands_of (self_root n) m = m
operands_of (object_root n) m = suc m
operands_of no_root m = suc m

raised_up : (n : ℕ) (a : Where) → raised n (up a) ≡ up (raised n a)
raised_up zero a = refl
raised_up (suc n) a = raised_up n (up a)

raised_more : (n m : ℕ) (a : Where) → raised (n + m) a ≡ raised m (raised n a)
raised_more zero m a = ap (λ k. raised k a) (none_in m)
  where
    none_in : (m : ℕ) → 0 + m ≡ m
    none_in m = omega arith
raised_more (suc n) m a = ap (λ k. raised k a) (one_in n m) ∙ raised_more n m (up a)
  where
    one_in : (n m : ℕ) → suc n + m ≡ suc (n + m)
    one_in n m = omega arith

trees_many : (ts : Trees) → length (trees_list ts) ≡ how_many ts
trees_many no_trees = refl
trees_many (more_trees x ts) = ap suc (trees_many ts)

pub has_same : {b : Tree} {r : Root} (p : Rooted b r) (ss : Names) (z : Setting) (differ : ℕ → ℕ → Bool) →
    has_base z.program differ b (base_for r) ss ≡ root_has r ss
has_same at_variable ss z differ = refl
has_same at_self ss z differ = refl
has_same at_object ss z differ = refl
has_same at_none ss z differ = refl
has_same (at_index p) ss z differ = has_same p ss z differ

pub list_many : {b : Tree} {r : Root} → Rooted b r → length (target_list b) ≡ operands_of r (target_operands b)
list_many at_variable = refl
list_many at_self = refl
list_many at_object = refl
list_many at_none = refl
list_many (at_index {b = b} {ts} {r} p) =
    length-append (target_list b) (trees_list ts) ∙ both r (length (target_list b)) (length (trees_list ts)) (target_operands b)
    (how_many ts)
    (list_many p) (trees_many ts)
  where
    both : (r : Root) (n m k l : ℕ) → n ≡ operands_of r k → m ≡ l → n + m ≡ operands_of r (l + k)
    both (variable_root x) n m k l h q = omega (arith, h, q)
    both (self_root x) n m k l h q = omega (arith, h, q)
    both (object_root x) n m k l h q = omega (arith, h, q)
    both no_root n m k l h q = omega (arith, h, q)

-- where the value stands, behind the target
pub behind_target : (r : Root) (k : ℕ) (a : Where) → raised (operands_of r k) (root_around r a) ≡ up (raised k a)
behind_target (variable_root x) k a = raised_up k a
behind_target (self_root n) k a = raised_up k a
behind_target (object_root n) k a = raised_up k a
behind_target no_root k a = raised_up k a

module _ (z : Setting) (differ : ℕ → ℕ → Bool) (top : ℕ) where
  abbrev mutual
    pub Target_part : Shape → Type 0
    Target_part (t.Shape.member b x) = EvLeads z differ top b
    Target_part (t.Shape.index b ts) = Target_lead b × All_lead z differ top ts
    Target_part s = Unit {0}

    pub Target_lead : Tree → Type 0
    Target_lead (tree n pl s) = Target_part s

  every_both : (xs ys : List Tree) → Every (EvLeads z differ top) xs → Every (EvLeads z differ top) ys →
      Every (EvLeads z differ top) (xs ++ ys)
  every_both [] ys h k = k
  every_both (x ∷ xs) ys h k = (h.0, every_both xs ys h.1 k)

  every_tree : (ts : Trees) → All_lead z differ top ts → Every (EvLeads z differ top) (trees_list ts)
  every_tree no_trees h = tt
  every_tree (more_trees x ts) h = (h.0, every_tree ts h.1)

  pub target_each : {b : Tree} {r : Root} → Rooted b r → Target_lead b → (c : Tree) → EvLeads z differ top c →
      Every (EvLeads z differ top) (target_list b ++ c ∷ [])
  target_each {b} p h c hc = every_both (target_list b) (c ∷ []) (by p h) (hc, tt)
    where
      by : {b : Tree} {r : Root} → Rooted b r → Target_lead b → Every (EvLeads z differ top) (target_list b)
      by at_variable h = tt
      by at_self h = tt
      by at_object h = (h, tt)
      by at_none h = (h, tt)
      by (at_index {b = b} {ts} p) h = every_both (target_list b) (trees_list ts) (by p h.0) (every_tree ts h.1)

  -- ---- the code

  pub listed_both : (xs ys : List Tree) (ss : Names) (a : Where) (ok : ℕ → Bool) (size : ℕ) (out : Way) (s m e : Spot) →
      Listed z differ top xs ss a ok size out s m → Listed z differ top ys ss (raised (length xs) a) ok size out m e →
      Listed z differ top (xs ++ ys) ss a ok size out s e
  listed_both [] ys ss a ok size out s m e h k = subst (λ (x : Spot). Listed z differ top ys ss a ok size out x e) (sym h) k
  listed_both (x ∷ xs) ys ss a ok size out s m e h k = (h.0, listed_both xs ys ss (up a) ok size out _ m e h.1 k)

  args_listed : (ts : Trees) (ss : Names) (a : Where) (ok : ℕ → Bool) (size : ℕ) (out : Way) (s e : Spot) →
      Stands z ok size out s (low.args z.program differ ts ss a s) e → Listed z differ top (trees_list ts) ss a ok size out s e
  args_listed no_trees ss a ok size out s e i = i.ends
  args_listed (more_trees x ts) ss a ok size out s e i =
      let r = then_stand z s e (piece z.program differ x ss a) (low.args z.program differ ts ss (up a)) i in
      (r.0, args_listed ts ss (up a) ok size out _ e r.1)

  -- the code that finds the cell
  abbrev pub Root_stands : Root → Names → (ok : ℕ → Bool) → (size : ℕ) → (out : Way) → Spot → Type 0
  Root_stands (variable_root x) ss ok size out s = Stands z ok size out s (push_varies (find x ss) s) (past s (push_varies (find x ss) s))
  Root_stands (self_root n) ss ok size out s = Stands z ok size out s (push_fixed (this_found ss) s)
      (past s (push_fixed (this_found ss) s))
  Root_stands (object_root n) ss ok size out s = Unit {0}
  Root_stands no_root ss ok size out s = Unit {0}

  pub target_stand : {b : Tree} {r : Root} → Rooted b r → (ss : Names) (a : Where) (ok : ℕ → Bool) (size : ℕ) (out : Way) (s e : Spot) →
      Stands z ok size out s (low.target_piece z.program differ b (base_for r) ss a s) e →
      Root_stands r ss ok size out s × Listed z differ top (target_list b) ss (root_around r a) ok size out (root_spot r ss s) e
  target_stand at_variable ss a ok size out s e i = (to_end z i, i.ends)
  target_stand at_self ss a ok size out s e i = (to_end z i, i.ends)
  target_stand at_object ss a ok size out s e i = (tt, (to_end z i, i.ends))
  target_stand at_none ss a ok size out s e i = (tt, (to_end z i, i.ends))
  target_stand (at_index {b = b} {ts} {r} p) ss a ok size out s e i =
      let q = then_stand z s e (low.target_piece z.program differ b (base_for r) ss a)
      (low.args z.program differ ts ss (up (raised (target_operands b) a))) i in
      let m : Spot = past s (low.target_piece z.program differ b (base_for r) ss a s) in
      let h = target_stand p ss a ok size out s m q.0 in (
        h.0,
        listed_both (target_list b) (trees_list ts) ss (root_around r a) ok size out (root_spot r ss s) m e h.1
            (subst (λ (x : Where). Listed z differ top (trees_list ts) ss x ok size out m e)
            (sym (ap (λ n. raised n (root_around r a)) (list_many p) ∙ behind_target r (target_operands b) a))
            (args_listed ts ss (up (raised (target_operands b) a)) ok size out m e q.1)),
      )

  -- ---- the meaning

  indices_in_turn : (ts : Trees) (f : Form) (vs : List Val) (left : List Tree) (w : Bool) (M : ℕ) (e : Env) (y : World) →
      indices z.program (deeper z.program M) ts f vs left w e y (λ vs y. in_turn z differ top f vs left w M e y) ≡
      in_turn z differ top f vs (trees_list ts ++ left) w M e y
  indices_in_turn no_trees f vs left w M e y = refl
  indices_in_turn (more_trees x ts) f vs left w M e y = λ i. valued (meaning.ev z.program (deeper z.program M) x w e y)
      (λ r. args e f vs r (trees_list ts ++ left)) (λ v y. indices_in_turn ts f (vs ++ v ∷ []) left w M e y i)

  pub targets_in_turn : {b : Tree} {r : Root} → Rooted b r → (f : Form) (left : List Tree) (w : Bool) (M : ℕ) (e : Env) (y : World) →
      targets z.program (deeper z.program M) b f left w e y (λ vs y. in_turn z differ top f vs left w M e y) ≡
      in_turn z differ top f [] (target_list b ++ left) w M e y
  targets_in_turn at_variable f left w M e y = refl
  targets_in_turn at_self f left w M e y = refl
  targets_in_turn at_object f left w M e y = refl
  targets_in_turn at_none f left w M e y = refl
  targets_in_turn (at_index {b = b} {ts} p) f left w M e y =
      (λ i. targets z.program (deeper z.program M) b f (trees_list ts ++ left) w e y
      (λ vs y. indices_in_turn ts f vs left w M e y i)) ∙ targets_in_turn p f (trees_list ts ++ left) w M e y ∙
      ap (λ xs. in_turn z differ top f [] xs w M e y) (sym (append_assoc (target_list b) (trees_list ts) left))

  -- ---- what can be no target

  pub record Improper (b : Tree) (base : Base) : Type 0 where
    pub code : {ok : ℕ → Bool} {size : ℕ} {out : Way} (ss : Names) (a : Where) (s e : Spot) →
        Stands z ok size out s (low.target_piece z.program differ b base ss a s) e → (l : ℕ) × Here z.code s.at (op.Arm l)
    pub run : (M : ℕ) (f : Form) (left : List Tree) (w : Bool) (e : Env) (y : World) (go : List Val → World → Outcome) →
        targets z.program (deeper z.program M) b f left w e y go ≡ halted (wrong y.state)

  pub data Target_sort (b : Tree) : Type 0 where
    proper : (r : Root) → Rooted b r → base_of z.program b ≡ base_for r → Target_sort b
    improper : Improper b (base_of z.program b) → Target_sort b

  named_sort : (n : ℕ) (pl : Place) (x : Bytes) (r : Option Ref) → base_of z.program (tree n pl (t.Shape.name x)) ≡
      base_named z.program r x →
      Target_sort (tree n pl (t.Shape.name x))
  named_sort n pl x (Some (ref.Field c slot)) h = proper (self_root slot) at_self h
  named_sort n pl x r h = proper (variable_root x) at_variable h

  member_sort : (n : ℕ) (pl : Place) (b : Tree) (x : Bytes) (r : Option Ref) →
      base_of z.program (tree n pl (t.Shape.member b x)) ≡ base_member z.program r → Target_sort (tree n pl (t.Shape.member b x))
  member_sort n pl b x (Some (ref.Field c slot)) h = proper (object_root slot) at_object h
  member_sort n pl b x r h = proper no_root at_none h

  index_sort : (n : ℕ) (pl : Place) (b : Tree) (ts : Trees) → Target_sort b → Target_sort (tree n pl (t.Shape.index b ts))
  index_sort n pl b ts (proper r p h) = proper r (at_index p) h
  index_sort n pl b ts (improper q) = improper (record {
    code = λ ss a s e i. q.code ss a s _ (then_stand z s e (low.target_piece z.program differ b (base_of z.program b) ss a)
        (low.args z.program differ ts ss (up (raised (target_operands b) a))) i).0;
    run = λ M f left w e y go. q.run M f (trees_list ts ++ left) w e y _;
  })

  pub sort_target : (b : Tree) → Target_sort b
  sort_target (tree n pl (t.Shape.name x)) = named_sort n pl x (ref_at z.program n) refl
  sort_target (tree n pl (t.Shape.member b x)) = member_sort n pl b x (ref_at z.program n) refl
  sort_target (tree n pl (t.Shape.index b ts)) = index_sort n pl b ts (sort_target b)
  sort_target (tree n pl s) = improper (record { code = λ ss a s e i. stuck_stand z i; run = λ M f left w e y go. refl })
