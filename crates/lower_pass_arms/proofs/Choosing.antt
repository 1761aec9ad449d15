-- `case`: its subject lies in a local, and each arm but the last compares it with a pattern. One lemma an arm.
use Rattle.std.proofs.Common.{◌≡◌, ℕ, zero, suc, ◌≤◌, ◌<◌, length, List, [], ◌∷◌, Option, Some, None, Bool, true, false, ◌⊎◌, inl, inr}
use Rattle.std.proofs.Common.{refl, sym, ◌∙◌, subst, ap, arith}
use Rattle.std.specs.Prelude.{option_map}
use Rattle.std.proofs.lemmas.Option.{none-some, same_Some}
use Rattle.verse_tree.specs.Tree.{Bytes, Tree, tree, Shape}
use Rattle.verse_tree.specs.Tree as t
use Rattle.verse_tree.specs.ItemTree.{EnumTree}
use Rattle.verse_code.specs.declared.codes.Code.{Code}
use Rattle.verse_code.specs.declared.operations.Op.{Op}
use Rattle.verse_code.specs.declared.operations.Op.TheVariants as o
use Rattle.verse_value.specs.Val.{Val, enum}
use Rattle.verse_names_tables.specs.Names.{Table}
use Rattle.verse_sorts.specs.Sorts as s
use Rattle.verse_sorts.specs.Sorts.{Sort, IsKnown, Fits}
use Rattle.verse_sorts.specs.Typing.{at}
use Rattle.verse_sorts.proofs.Fitting.{fits_itself}
use Rattle.verse_meaning_state.specs.Waits.{nth}
use Rattle.verse_meaning.specs.Programs.{Program, enums, enum_names, enum_val, value_in, named_value, pattern_value, place_of}
use Rattle.verse_sound_rules.specs.Found as rules
use Rattle.verse_sound_rules.specs.Found.{Allowed}
use Rattle.verse_sound_rules.specs.Fine.{ArmFits, arm_fits, no_subject}
use Rattle.verse_verify_kept.specs.Notes.{Notes, parent_of}
use Rattle.verse_verify_kept.specs.Rules as r
use Rattle.verse_verify_kept.specs.Rules.{AnyNever, first_never, later_never, Asked, asked, no_local, To, TriesFit}
use Rattle.lower_simulation_runs.specs.Programs.{is_some, has_value, has_value_shape}
use Rattle.lower_code.specs.Pieces as c
use Rattle.lower_code.specs.Pieces.{Spot, Piece, Maker, past, next}
use Rattle.lower_code.specs.declared.arounds.Around.{Around}
use Rattle.lower_code.specs.Scopes.{Scope, hidden}
use Rattle.lower_code.specs.Lowering as lower
use Rattle.lower_code.specs.Lowering.{is_any}
use Rattle.lower_code.proofs.Standing.{ahead_stands, behind_least}
use Rattle.lower_notes.specs.States.{State, with_local, pops, gives, gets, puts}
use Rattle.lower_notes.specs.Stretches as n
use Rattle.lower_notes.specs.Stretches.{Stretch, Walk, with_value, is_left}
use Rattle.lower_notes.specs.Noting as walks
use Rattle.lower_notes.specs.Laws.{Beside}
use Rattle.lower_notes.proofs.Counted as counted
use Rattle.lower_notes.proofs.Counted.{code_then, walk_then}
use Rattle.lower_pass_states.proofs.Points.{pt, Even, over, with_stack, stack_over, tries_over, gives_is, drop_none}
use Rattle.lower_pass_states.proofs.Locals.{local_is, with_here, is_at}
use Rattle.lower_pass_states.proofs.Meeting.{LeadsTo, Meets, no_value, leads_to, MeetsAt, meets_below}
use Rattle.lower_pass_states.proofs.Steps as step
use Rattle.lower_pass_stretches.proofs.Names.{sees_hidden}
use Rattle.lower_pass_stretches.proofs.Going.{Way, If, itself, Lies, Within, within_less, Steady, Going, then_goes}
use Rattle.lower_pass_stretches.proofs.Single.{OneItem, just_goes, IsValue, Lands, meets_value, lands_goes}
use Rattle.lower_pass_stretches.proofs.Combined.{if_map, begins_so, jump_asked, either_goes, opens_nothing}
use Rattle.lower_pass_stretches.proofs.Inside.{Inside, steady_of}
use Rattle.lower_pass_contexts.proofs.Scopes.{inside_with}
use Rattle.lower_pass_contexts.proofs.After.{after_itself, after_bound, after_below}
use Rattle.lower_pass_forms.proofs.Applied.{noted_found}
use Rattle.lower_pass_forms.proofs.Finishing.{IsOver, steady_over, step_goes, over_itself}
use Rattle.lower_pass_blocks.proofs.Binding.{bound, below_bound, IsBound, put_goes}
use Rattle.lower_pass_blocks.proofs.Stated.{weaker}

-- ---- patterns

-- a value of an enum
data IsEnum : Option Val → Type 0 where
  is_enum : {e i : ℕ} → IsEnum (Some (enum e i))

enum_place : (e : ℕ) (i : Option ℕ) → is_some (enum_val e i) ≡ true → IsEnum (enum_val e i)
enum_place e None h = absurd (cc)
enum_place e (Some i) h = is_enum

enum_item : (e : ℕ) (x : Bytes) (i : Option EnumTree) → is_some (value_in e x i) ≡ true → IsEnum (value_in e x i)
enum_item e x None h = absurd (cc)
enum_item e x (Some i) h = enum_place e (place_of x i.values) h

enum_number : (p : Program) (x : Bytes) (i : Option ℕ) → is_some (named_value p x i) ≡ true → IsEnum (named_value p x i)
enum_number p x None h = absurd (cc)
enum_number p x (Some e) h = enum_item e x (nth (enums p.items) e) h

module _ (code : Code) (notes : Notes) where
  -- an operation that gives the value of a pattern
  data IsPattern : Maker → Walk → Type 0 where
    is_pattern : {f : Maker} {q : Sort} (op : Spot → Op) → OneItem f op → Beside f (n.one (gives 0 q)) →
        ((y : State) → Even y → (s : Spot) → Meets code notes (over (q ∷ []) y) (suc s.at) → Asked code notes s.at (pt y) (op s)) →
        IsPattern f (n.one (gives 0 q))

  enum_pattern : (v : Option Val) → IsEnum v → IsPattern (lower.enum_pattern v) (walks.enum_pattern v)
  enum_pattern v (is_enum {e = e} {i = i}) = is_pattern (λ s. o.Enum e i) (λ s. refl) counted.just
      (λ y even u m. step.enum_asked code notes y even m e i (fits_itself (parent_of notes) (s.enum e)))

  module _ (p : Program) (found : rules.Found) (differ : ℕ → ℕ → Bool) where
    pattern_is : (x : Shape) → has_value_shape p x ≡ true → is_any p differ x ≡ false →
        IsPattern (lower.pattern_op p differ x) (walks.pattern_walk p found differ x)
    pattern_is (t.Shape.integer_pattern z) h e = is_pattern (λ s. o.Int z) (λ s. refl) counted.just
        (λ y even u m. step.int_asked code notes y even m z (fits_itself (parent_of notes) s.int))
    pattern_is (t.Shape.minus_pattern z) h e = is_pattern (λ s. o.Int _) (λ s. refl) counted.just
        (λ y even u m. step.int_asked code notes y even m _ (fits_itself (parent_of notes) s.int))
    pattern_is (t.Shape.character_pattern k) h e = is_pattern (λ s. o.Char k) (λ s. refl) counted.just
        (λ y even u m. step.char_asked code notes y even m k (fits_itself (parent_of notes) s.char))
    pattern_is (t.Shape.text_pattern bs) h e = is_pattern (λ s. o.Text s.text) (λ s. refl) counted.text
        (λ y even u m. step.text_asked code notes y even m u.text (fits_itself (parent_of notes) (s.list s.char)))
    pattern_is t.Shape.truth_pattern h e = is_pattern (λ s. o.True) (λ s. refl) counted.just
        (λ y even u m. step.true_asked code notes y even m (fits_itself (parent_of notes) s.logic))
    pattern_is t.Shape.falsehood_pattern h e = is_pattern (λ s. o.False) (λ s. refl) counted.just
        (λ y even u m. step.false_asked code notes y even m (fits_itself (parent_of notes) s.nil))
    pattern_is t.Shape.any_pattern h e = absurd (cc)
    pattern_is (t.Shape.enum_pattern x y) h e = enum_pattern (pattern_value p x y)
        (enum_number p y (place_of x (enum_names (enums p.items))) h)
    pattern_is x h e = absurd (cc)

  -- ---- single operations

  -- two operands are compared, and fall away
  to_without : (y : State) → Even y → (qs : List Sort) {j : ℕ} → LeadsTo code notes y j →
      To code notes (pt (over qs y)) (pt y).stack j
  to_without y even qs l = record {
    point = l.point;
    live = l.live;
    kin = record { func = l.kin.func; arm = l.kin.arm; block = l.kin.block; outer = l.kin.outer; under = l.kin.under };
    locals = l.locals;
    stack = l.stack;
    tries = subst (λ zs. TriesFit code notes zs l.point.tries) (sym (tries_over y even qs)) l.tries;
    defers = l.defers;
  }

  same_asked : (y : State) → Even y → (a b : Sort) (i l : ℕ) → Meets code notes y (suc i) → Meets code notes y l →
      Asked code notes i (pt (over (b ∷ a ∷ []) y)) (o.Same l)
  same_asked y even a b i l (no_value h) m = no_local h
  same_asked y even a b i l (leads_to k) (no_value h) = no_local h
  same_asked y even a b i l (leads_to k) (leads_to u) = asked (r.of_same (stack_over y even (b ∷ a ∷ []))
      (to_without y even (b ∷ a ∷ []) k) (to_without y even (b ∷ a ∷ []) u))

  -- ---- what is behind a form that is never reached

  nothing_met : (q : Sort) (y : Option State) (i : ℕ) → MeetsAt code notes (with_value q None y) i
  nothing_met q None i = tt
  nothing_met q (Some y) i = tt

  never_reached : {w : Way} {ts : List ℕ} {h : Maker} {j : Walk} {k : Option State → Option State} {Q : State → Type 0} (q : Sort) →
      Going code notes w ts None h j (with_value q None) Q → Going code notes w ts None h j k Q
  never_reached {j = j} q rest = record {
    leaves = rest.leaves;
    exits = rest.exits;
    goes = λ s l v m. rest.goes s l v (nothing_met q (j s.at None).exit _);
  }

  -- Jump L; what is never reached; L is behind it
  module _ {w : Way} {ts : List ℕ} {x : Option State} {h : Maker} {j : Walk} (k : Option State → Option State)
      (steady : If x (Steady code notes ts))
      (lands : (i : ℕ) → MeetsAt code notes (k x) i → MeetsAt code notes x i) (q : Sort)
      (rest : Going code notes w ts None h j (with_value q None) (λ z. Unit {0})) where
    abbrev part : Spot → Piece
    part s = h (next s)

    abbrev stop : Spot → ℕ
    stop s = (past (next s) (part s)).at

    part_lies : (s : Spot) → Lies code notes w s (c.ahead o.Jump h s) (n.over j s.at x) →
        Lies code notes w (next s) (part s) (j (suc s.at) None)
    part_lies s l = record {
      stands = (ahead_stands o.Jump h l.stands).inside;
      states = l.states.1;
      left = l.left;
      room = l.room;
    }

    part_within : (s : Spot) → Within code notes ts s.at (stop s) → Within code notes ts (suc s.at) (stop s)
    part_within s v = within_less code notes ts v (omega arith) (omega arith)

    over_goes : Going code notes w ts x (c.ahead o.Jump h) (n.over j) k (λ z. Unit {0})
    over_goes = record {
      leaves = λ s l v e. rest.leaves (next s) (part_lies s l) (part_within s v) e;
      exits = λ s l v y e. tt;
      goes = λ s l v m.
          let a = rest.goes (next s) (part_lies s l) (part_within s v) (nothing_met q (j (suc s.at) None).exit (stop s)) in
          let b = begins_so code notes x steady v (behind_least (part s).items (suc s.at)) (ahead_stands o.Jump h l.stands).begins.is
          l.states.0 (λ z e. jump_asked code notes z s.at (stop s) (subst (λ y. MeetsAt code notes y (stop s)) e (lands (stop s) m))) in
          (b.0, (b.1, a.1));
    }

-- ---- arms

never_local : (l : ℕ) (ls : List Sort) → l < length ls → AnyNever (with_local l s.never ls)
never_local l [] h = absurd (omega (arith, h))
never_local zero (b ∷ ls) h = first_never
never_local (suc l) (b ∷ ls) h = later_never (never_local l ls (omega (arith, h)))

fits_or_never : (p : Program) (found : rules.Found) {u q k : Sort} → ArmFits p found u q k → Fits found.up q k ⊎ (u ≡ s.never)
fits_or_never p found (arm_fits f) = inl f
fits_or_never p found no_subject = inr refl

pops_two : (a b : Sort) (y : State) → pops 2 (over (a ∷ b ∷ []) y) ≡ y
pops_two a b y = ap (λ st. with_stack st y) (drop_none y.stack)

-- the subject is of the sort qs, and the whole of the sort q
module _ (p : Program) (found : rules.Found) (differ : ℕ → ℕ → Bool) (code : Code) (notes : Notes) (w : Way) (ts : List ℕ)
    (al : Allowed) (xs : Table) (sc : Scope) (a : Around) (qs q : Sort) where
  abbrev F : rules.Found
  F = noted_found notes found

  abbrev l : ℕ
  l = length sc

  -- the state before the subject goes into its local, which the function has
  abbrev pub Before : State → Type 0
  Before y = (l < w.size) × Inside code notes F w ts al xs sc a y

  -- and a state within an arm
  abbrev pub WithSubject : State → Type 0
  WithSubject z = Inside code notes F w ts al xs (hidden ∷ sc) a z

  abbrev pub held : Option State → Option State
  held x = option_map (bound l qs) x

  -- arms that go on with the value of the whole
  pub record Chooses (f : Maker) (g : Walk) : Type 0 where
    pub goes : (x : Option State) → If x Before → Going code notes w ts (held x) f g (with_value q x) (λ z. Unit {0})

  less : {n m k : ℕ} → n < m → m ≤ k → n < k
  less h i = omega (arith, h, i)

  no_state : (P : State → Type 0) → If None P
  no_state P y e = absurd (none-some y e)

  inside_held : (x : Option State) → If x Before → If (held x) WithSubject
  inside_held x before = if_map code notes WithSubject (bound l qs) x (λ y e. let h = before y e in
      inside_with code notes hidden xs qs h.0 h.1 (sees_hidden F (below_bound l qs y) h.1.sees))

  there : (x : Option State) → If x Before → If (held x) (λ z. at z.locals l ≡ Some qs)
  there x before = if_map code notes (λ z. at z.locals l ≡ Some qs) (bound l qs) x
      (λ y e. let h = before y e in with_here l qs y.locals (less h.0 h.1.room))

  -- what an arm gives is the value of the whole
  value_lands : (x : Option State) → If x Before → (qd : Sort) → ArmFits p F qs qd q → (z : State) → IsValue code notes qd (held x) z →
      Lands code notes q x z
  value_lands None before qd fit z k = absurd (none-some k.0 k.1.0)
  value_lands (Some y) before qd fit z k = (y, (refl, λ i m. subst (λ v. Meets code notes v i) (sym is) (met (fits_or_never p F fit) i m)))
    where
      h : Before y
      h = before y refl

      is : z ≡ over (qd ∷ []) (bound l qs y)
      is = k.1.1 ∙ ap (over (qd ∷ [])) (sym (same_Some (bound l qs y) k.0 k.1.0))

      same : (n : ℕ) → n ≤ n
      same n = omega arith

      blank : at y.locals l ≡ Some s.none
      blank = let j = is_at y.locals l (less h.0 h.1.room) in j.1 ∙ ap Some (h.1.blank l j.0 (same l) j.1)

      met : Fits (parent_of notes) qd q ⊎ (qs ≡ s.never) → (i : ℕ) → Meets code notes (over (q ∷ []) y) i →
          Meets code notes (over (qd ∷ []) (bound l qs y)) i
      met (inl f) i m = meets_below code notes (after_below code notes (after_bound code notes (after_itself code notes y) l qs blank) f) m
      met (inr e) i m = no_value (subst (λ b. AnyNever (with_local l b y.locals)) (sym e) (never_local l y.locals (less h.0 h.1.room)))

  -- ---- what stands before a comparison: the value of the pattern, and then the subject

  abbrev Pushed : Option State → State → Type 0
  Pushed x z = (b : Sort) × IsOver code notes (b ∷ []) (held x) z

  abbrev Loaded : Option State → State → Type 0
  Loaded x z = (b : Sort) × IsOver code notes (qs ∷ b ∷ []) (held x) z

  beside_pattern : {f : Maker} {g : Walk} → IsPattern code notes f g → Beside f g
  beside_pattern (is_pattern op single b asks) = b

  pattern_goes : {f : Maker} {g : Walk} → IsPattern code notes f g → (x : Option State) → If x Before →
      Going code notes w ts (held x) f g itself (Pushed x)
  pattern_goes (is_pattern {f = f} {q = b} op single i asks) x before =
      let steady : If (held x) (Steady code notes ts) = λ y e. steady_of code notes (inside_held x before y e) in
      weaker F code notes w ts al (step_goes code notes f op single [] steady (over_itself code notes) (b ∷ []) (gives 0 b)
      (λ y e. gives_is b y) (λ y e u m. asks y (steady y e).even u m)) (λ z k. (b, k))

  get_goes : IsKnown qs → (x : Option State) → If x Before → {u : Option State} → If u (Pushed x) →
      Going code notes w ts u (c.one (o.Get l)) (n.one (gets l)) itself (Loaded x)
  get_goes read x before {u} above = just_goes code notes (c.one (o.Get l)) (λ i. o.Get l) (λ i. refl)
      (λ z e. calm z (above z e))
      (λ z e i room m. let k = above z e in step.get_asked code notes z (calm z k).even
      (subst (λ b. Meets code notes (over (b ∷ []) z) (suc i.at)) (local_is z.locals l (at_pushed z k)) m) l (at_pushed z k) read
      (fits_itself (parent_of notes) qs))
      (λ z e i room. let k = above z e in (
        k.0,
        (
          k.1.0,
          (
            k.1.1.0,
            ap (gets l) k.1.1.1 ∙
                ap (λ b. over (b ∷ k.0 ∷ []) k.1.0) (local_is k.1.0.locals l (there x before k.1.0 k.1.1.0)),
          ),
        ),
      ))
    where
      calm : (z : State) → Pushed x z → Steady code notes ts z
      calm z k = subst (Steady code notes ts) (sym k.1.1.1)
          (steady_over code notes (k.0 ∷ []) (steady_of code notes (inside_held x before k.1.0 k.1.1.0)))

      at_pushed : (z : State) → Pushed x z → at z.locals l ≡ Some qs
      at_pushed z k = subst (λ (v : State). at v.locals l ≡ Some qs) (sym k.1.1.1) (there x before k.1.0 k.1.1.0)

  -- behind the comparison stands what stood before the pattern
  below : (x u : Option State) → If u (Loaded x) → (option_map (pops 2) u ≡ None) ⊎ (option_map (pops 2) u ≡ held x)
  below x None k = inl refl
  below x (Some z) k = let e = k z refl in inr (ap Some (ap (pops 2) e.1.1.1 ∙ pops_two qs e.0 e.1.0) ∙ sym e.1.1.0)

  compared : (x : Option State) → If x Before → (z : State) → Loaded x z → (i k : ℕ) → Meets code notes (pops 2 z) (suc i) →
      Meets code notes (pops 2 z) k → Asked code notes i (pt z) (o.Same k)
  compared x before z e i k m n =
      let y = e.1.0 in
      let is : pops 2 z ≡ y = ap (pops 2) e.1.1.1 ∙ pops_two qs e.0 y in
      subst (λ v. Asked code notes i (pt v) (o.Same k)) (sym e.1.1.1)
      (same_asked code notes y (inside_held x before y e.1.1.0).even e.0 qs i k (subst (λ v. Meets code notes v (suc i)) is m)
      (subst (λ v. Meets code notes v k) is n))

  -- ---- one arm

  module _ {f : Maker} {g : Walk} (qd : Sort) (fit : ArmFits p F qs qd q) (beside : Beside f g)
      (body : (z : Option State) → If z WithSubject → Going code notes w ts z f g itself (IsValue code notes qd z)) where
    abbrev Value : Option State → State → Type 0
    Value x z = IsValue code notes qd (held x) z

    here_goes : (x : Option State) → If x Before → Going code notes w ts (held x) f g itself (Value x)
    here_goes x before = body (held x) (inside_held x before)

    steady_value : (x : Option State) → If x Before → (z : State) → Value x z → Steady code notes ts z
    steady_value x before z k = subst (Steady code notes ts) (sym k.1.1)
        (steady_over code notes (qd ∷ []) (steady_of code notes (inside_held x before k.0 k.1.0)))

    -- the last one
    last_chooses : Chooses f g
    last_chooses = record {
      goes = λ x before. weaker F code notes w ts al
          (lands_goes code notes q (here_goes x before) (value_lands x before qd fit)) (λ z k. tt);
    }

    first_goes : (x : Option State) → If x Before → (v : Option State) → (v ≡ None) ⊎ (v ≡ held x) →
        Going code notes w ts v f g itself (Value x)
    first_goes x before v (inl e) = subst (λ v. Going code notes w ts v f g itself (Value x)) (sym e)
        (weaker F code notes w ts al (body None (no_state WithSubject)) (λ z k. absurd (none-some k.0 k.1.0)))
    first_goes x before v (inr e) = subst (λ v. Going code notes w ts v f g itself (Value x)) (sym e) (here_goes x before)

    module _ {h : Maker} {j : Walk} (rest : Chooses h j) where
      -- one that takes anything, before others
      any_chooses : Chooses (code_then f (c.ahead o.Jump h)) (walk_then g (n.over j))
      any_chooses = record {
        goes = λ x before. then_goes code notes beside (here_goes x before) (λ z k. over_goes code notes (with_value q x)
            (λ u e. steady_value x before u (k u e))
            (λ i m. meets_value code notes q x z i (λ u e. value_lands x before qd fit u (k u e)) m) q
            (rest.goes None (no_state Before)));
      }

      second_goes : (x : Option State) → If x Before → (v : Option State) → (v ≡ None) ⊎ (v ≡ held x) →
          Going code notes w ts v h j (with_value q x) (λ z. Unit {0})
      second_goes x before v (inl e) = subst (λ v. Going code notes w ts v h j (with_value q x) (λ z. Unit {0})) (sym e)
          (never_reached code notes q (rest.goes None (no_state Before)))
      second_goes x before v (inr e) = subst (λ v. Going code notes w ts v h j (with_value q x) (λ z. Unit {0})) (sym e)
          (rest.goes x before)

      same_goes : (x : Option State) → If x Before → {u : Option State} → If u (Loaded x) →
          Going code notes w ts u (c.either o.Same f h) (n.either_same g j) (with_value q x) (λ z. Unit {0})
      same_goes x before {u} above = either_goes code notes {x = u} {x0 = x} (n.always (pops 2)) (n.always (pops 2)) (λ i. ts) q o.Same
          (λ i k. Unit {0}) beside (λ i k. tt)
          (λ z e. calm z (above z e)) (opens_nothing code notes ts o.Same)
          (λ i k e. first_goes x before (option_map (pops 2) u) (below x u above)) (steady_value x before) (value_lands x before qd fit)
          (λ i. second_goes x before (option_map (pops 2) u) (below x u above))
          (λ z e i k m n. compared x before z (above z e) i k m n)
        where
          calm : (z : State) → Loaded x z → Steady code notes ts z
          calm z k = subst (Steady code notes ts) (sym k.1.1.1)
              (steady_over code notes (qs ∷ k.0 ∷ []) (steady_of code notes (inside_held x before k.1.0 k.1.1.0)))

      -- one with a pattern, before others
      tested_chooses : {f1 : Maker} {g1 : Walk} → IsKnown qs → IsPattern code notes f1 g1 →
          Chooses (code_then f1 (code_then (c.one (o.Get l)) (c.either o.Same f h)))
          (walk_then g1 (walk_then (n.one (gets l)) (n.either_same g j)))
      tested_chooses read i = record {
        goes = λ x before. then_goes code notes (beside_pattern i) (pattern_goes i x before) (λ z k.
            then_goes code notes counted.just (get_goes read x before k) (λ u e. same_goes x before e));
      }

    by_arm : {h : Maker} {j : Walk} (x : Shape) (last any : Bool) → IsKnown qs →
        (last ≡ false → any ≡ false → IsPattern code notes (lower.pattern_op p differ x) (walks.pattern_walk p found differ x)) →
        (last ≡ false → Chooses h j) →
        Chooses (lower.arm_by p differ x l last any f h) (walks.arm_by p found differ x l last any g j)
    unfolding lower.arm_by walks.arm_by
    by_arm x true any read i rest = last_chooses
    by_arm x false true read i rest = any_chooses (rest refl)
    by_arm x false false read i rest = tested_chooses (rest refl) read (i refl refl)

    -- one arm, and what comes behind it if it is not the last
    pub arm_chooses : {h : Maker} {j : Walk} (b : Tree) (last : Bool) → IsKnown qs → (last ≡ false → has_value p b ≡ true) →
        (last ≡ false → Chooses h j) →
        Chooses (lower.arm_of p differ b l last f h) (walks.arm_of p found differ b l last g j)
    arm_chooses (tree n pl x) last read value rest = by_arm x last (is_any p differ x) read
        (λ e i. pattern_is code notes p found differ x (value e) i) rest

  -- `case`
  module _ {f h : Maker} {g j : Walk} (x : Option State) (here : If x (Inside code notes F w ts al xs sc a)) (beside : Beside f g)
      (subject : Going code notes w ts x f g itself (IsValue code notes qs x)) (arms : Chooses h j) where
    at_bound : (v : Option State) → If v (IsBound F code notes w ts al xs sc a x here qs) →
        Going code notes w ts v h j (with_value q x) (λ z. Unit {0})
    at_bound None i = never_reached code notes q (arms.goes None (no_state Before))
    at_bound (Some z) i = let e = i z refl in subst (λ v. Going code notes w ts v h j (with_value q x) (λ z. Unit {0}))
        (e.1.1.0 ∙ ap Some (sym e.1.1.1)) (arms.goes x (λ y k. (e.0, here y k)))

    pub case_goes : Going code notes w ts x (code_then f (code_then (c.put_away l) h)) (walk_then g (walk_then (n.one (puts l qs)) j))
        (with_value q x) (λ z. Unit {0})
    case_goes = then_goes code notes beside subject (λ z k. then_goes code notes counted.away
        (put_goes F code notes w ts al xs sc a x here qs qs (fits_itself (parent_of notes) qs) k) (λ v i. at_bound v i))
