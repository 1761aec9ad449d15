-- Turns of loops and of generators, statements and callees: what does not rest in each does not rest in all.
use Rattle.std.proofs.Common.{◌≡◌, [], ℕ, zero, suc, Bool, true, false, Option, Some, None, refl, sym, subst}
use Rattle.verse_base.specs.declared.places.Place.{Place}
use Rattle.verse_tree.specs.Tree.{Bytes, Trees}
use Rattle.verse_tree.specs.declared.tables.Ref.{Ref}
use Rattle.verse_tree.specs.declared.tables.Ref.TheVariants as ref
use Rattle.verse_value.specs.Val as v
use Rattle.verse_value.specs.Val.{Val}
use Rattle.verse_names_tables.specs.Names.{Table}
use Rattle.verse_sorts.specs.Sorts as s
use Rattle.verse_sorts.specs.Sorts.{Sort, Fits}
use Rattle.verse_sorts.specs.Typing.{Typing, Grows, Is, is_unit}
use Rattle.verse_sorts.proofs.Fitting.{is_up, grows_itself, grows_on}
use Rattle.verse_meaning.specs.Programs.{Program}
use Rattle.verse_meaning.specs.Residuals.{Env, Form, Bound, constant, variable, Binder, Generator, Residual, Values}
use Rattle.verse_meaning.specs.Outcomes.{World, Outcome, if_there}
use Rattle.verse_meaning.specs.Forms.{Deeper, read_bound, read_slot_of, look, this_of, next_value, values_of}
use Rattle.verse_meaning.specs.Evaluating.{Statement, plain, defines, defers, generates, stated, levelled, Callee}
use Rattle.verse_meaning.specs.Evaluating.{alone}
use Rattle.verse_meaning.specs.Evaluating.{of_object, of_value, of_quotient, no_callee, by_callee, named, membered}
use Rattle.verse_meaning.specs.Evaluating.{on_bool}
use Rattle.verse_meaning.specs.Evaluating.{generates_from}
use Rattle.verse_meaning.specs.Runs.{deeper, on_next}
use Rattle.verse_sound_rules.specs.Found.{Found, Allowed}
use Rattle.verse_sound_rules.specs.Fine.{on_callee, on_member, on_statement, Defines, stated_behind}
use Rattle.verse_sound_trees.specs.Names.{Sees}
use Rattle.verse_sound_trees.specs.Outcomes.{any_names}
use Rattle.verse_sound_trees.specs.Going.{Level, turns, Kept, Comes}
use Rattle.verse_sound_trees.proofs.Names.{sees_more}
use Rattle.verse_sound_trees.proofs.Loops.{AreTaken, NextTaken, next_taken, taken_more}
use Rattle.verse_sound_waits.specs.Waits.{Stays, FormStays, ObjectStays, CalleeStays}
use Rattle.verse_sound_waits.proofs.Defining.{defined_stays}
use Rattle.verse_sound_waits.proofs.Passing.{told_stays, closing_stays, valued_stays, turned_stays, spends_stays}

bound_stays : (b : Option Bound) (pl : Place) (e : Env) (w : World) → Stays (read_bound b pl e w)
bound_stays None pl e w = tt
bound_stays (Some (constant x)) pl e w = tt
bound_stays (Some (variable c)) pl e w = told_stays _ pl e w

slot_stays : (x : Option Val) (slot : ℕ) (pl : Place) (e : Env) (w : World) → Stays (read_slot_of x slot pl e w)
slot_stays None slot pl e w = tt
slot_stays (Some x) slot pl e w = told_stays _ pl e w

pub named_stays : (p : Program) (k : Deeper) (r : Option Ref) (x : Bytes) (pl : Place) (e : Env) (w : World) →
    Stays (named p k r x pl e w)
unfolding named
named_stays p k (Some (ref.Field c slot)) x pl e w = slot_stays (this_of e) slot pl e w
named_stays p k r x pl e w = bound_stays (look x e) pl e w

pub membered_stays : (p : Program) (k : Deeper) (m : Option Val) (e : Env) (w : World) (go : World → Outcome)
    (A : Val → Type 0) (B : Type 0) → on_member m A B → (B → Stays (go w)) → Stays (membered p k m e w go)
unfolding membered
membered_stays p k (Some x) e w go A B i h = tt
membered_stays p k None e w go A B i h = h i

pub bool_stays : (b : Bool) (x y : Bool → Outcome) → Stays (x true) → Stays (y false) → Stays (on_bool b x y)
bool_stays true x y h i = h
bool_stays false x y h i = i

pub callee_stays : (p : Program) (f : Found) (suspends : ℕ → Bool) (class : Option ℕ) (q : Sort) (k : Deeper)
    (c : Callee) (w : World) (A B C D : Form → Type 0) (f1 f2 f3 f4 : Form → World → Outcome) → on_callee c A B C D →
    CalleeStays p f suspends class c q → ((x : Form) → A x → FormStays p f suspends class x [] → Stays (f1 x w)) →
    ((x : Form) → B x → ObjectStays p f suspends class x q → Stays (f2 x w)) →
    ((x : Form) → C x → FormStays p f suspends class x [] → Stays (f3 x w)) →
    ((x : Form) → D x → FormStays p f suspends class x [] → Stays (f4 x w)) → Stays (by_callee p k c w f1 f2 f3 f4)
unfolding by_callee
callee_stays p f suspends class q k (alone x) w A B C D f1 f2 f3 f4 i j h1 h2 h3 h4 = h1 x i j
callee_stays p f suspends class q k (of_object x) w A B C D f1 f2 f3 f4 i j h1 h2 h3 h4 = h2 x i j
callee_stays p f suspends class q k (of_value x) w A B C D f1 f2 f3 f4 i j h1 h2 h3 h4 = h3 x i j
callee_stays p f suspends class q k (of_quotient x) w A B C D f1 f2 f3 f4 i j h1 h2 h3 h4 = h4 x i j
callee_stays p f suspends class q k no_callee w A B C D f1 f2 f3 f4 i j h1 h2 h3 h4 = tt

pub levelled_stays : (p : Program) (k : Deeper) (x : Statement) (y : Val) (e : Env) (so_far : Val) (w : World)
    (on_go : World → Outcome) (tk : Generator → Val × Val → Val → World → Outcome)
    (wrap : Generator → Values → Residual → Residual) → (x ≡ plain → Stays (on_go w)) →
    ((z : Binder) → x ≡ defines z → Stays (on_go w)) → ((z : Generator) → x ≡ generates z →
    Stays (if_there (values_of z y) w (λ vs. k.takes (tk z) (wrap z) e vs so_far w))) →
    Stays (levelled p k x y e so_far w on_go tk wrap)
unfolding levelled generates_from
levelled_stays p k plain y e so_far w on_go tk wrap h1 h2 h3 = h1 refl
levelled_stays p k (defines z) y e so_far w on_go tk wrap h1 h2 h3 = h2 z refl
levelled_stays p k (defers z) y e so_far w on_go tk wrap h1 h2 h3 = tt
levelled_stays p k (generates z) y e so_far w on_go tk wrap h1 h2 h3 = h3 z refl

module _ (p : Program) (f : Found) (n : ℕ) where
  -- it comes to its sort, and does not rest
  abbrev pub Good : Typing → Allowed → Sort → (World → Outcome) → Type 0
  Good t a q go = (u : Typing) (w : World) → Grows t u → Kept p f (turns n) u w →
      Comes p f (turns n) any_names u a q (go w) × Stays (go w)

  pub loops_stay : (h : ℕ) (a : Allowed) (q : Sort) (t : Typing) (go : World → Outcome) (wrap : Residual → Residual)
      (e : Env) (w : World) → Good t a q go → Kept p f (turns n) t w → Stays ((deeper p h).loops go wrap e w)
  loops_stay zero a q t go wrap e w h k = tt
  loops_stay (suc i) a q t go wrap e w h k = spends_stays p f n w w.state.clock.left _ k (λ z kz.
      let x = h t z grows_itself kz in
      turned_stays p f n wrap e _ x.0 x.1 (λ u z1 gr k1.
      loops_stay i a q u go wrap e z1 (λ o z2 g2 k2. h o z2 (grows_on gr g2) k2) k1))

  module _ (top : Level) (fuel : ℕ) where
    next_stays : {t : Typing} (q i : Sort) (x : Option ((Val × Val) × Values)) (y : Outcome)
        (go : Val × Val → Values → Outcome) → NextTaken p f top fuel t q i x → Stays y →
        ((z : Val × Val) (vs : Values) → Is f.up t z.0 q → Is f.up t z.1 i → AreTaken p f top fuel t q i vs →
        Stays (go z vs)) → Stays (on_next x y go)
    unfolding on_next
    next_stays q i None y go h j m = j
    next_stays q i (Some x) y go h j m = m x.0 x.1 h.0.0 h.0.1 h.1

    pub takes_stay : (h : ℕ) (t : Typing) (a : Allowed) (b q i : Sort) (go : Val × Val → Val → World → Outcome)
        (wrap : Values → Residual → Residual) (e : Env) (vs : Values) (so_far : Val) (w : World) →
        AreTaken p f top fuel t q i vs → Is f.up t so_far b → Kept p f (turns n) t w →
        ((u : Typing) (x : Val × Val) (y : Val) (z : World) → Grows t u → Is f.up u x.0 q → Is f.up u x.1 i →
        Is f.up u y b → Kept p f (turns n) u z → Comes p f (turns n) any_names u a b (go x y z) × Stays (go x y z)) →
        Stays ((deeper p h).takes go wrap e vs so_far w)
    takes_stay zero t a b q i go wrap e vs so_far w h y k m =
        next_stays q i (next_value vs) _ _ (next_taken p f top fuel t q i vs h) tt (λ x left j1 k1 m1. tt)
    takes_stay (suc d) t a b q i go wrap e vs so_far w h y k m =
        next_stays q i (next_value vs) _ _ (next_taken p f top fuel t q i vs h) tt (λ x left j1 k1 m1.
        spends_stays p f n w w.state.clock.left _ k (λ z kz.
        let c = m t x so_far z grows_itself j1 k1 y kz in
        valued_stays p f n _ _ c.0 c.1 (λ u c1 z2 gr i2 k2.
        takes_stay d u a b q i go wrap e left c1 z2 (taken_more p f top fuel t u q i left gr m1) k2 i2
        (λ r x2 y2 z3 g3. m r x2 y2 z3 (grows_on gr g3)))))

  -- a statement, and those behind it; q is the sort of its node, qi that of its part
  pub stated_stays : (g i : ℕ) (d : Bool) (t : Typing) (a : Allowed) (xs : Table) (e : Env) (q qi : Sort) (ts : Trees)
      (whole inn : World → Outcome) (go : Env → Val → World → Outcome) (w : World) (x y : Statement)
      (A B C : Type 0) → y ≡ x → (A → Good t a q whole) → ((z : Binder) → y ≡ defines z → B → Good t a qi inn) →
      q ≡ f.sort i → Sees f t a.this xs e → Kept p f (turns n) t w →
      ((u : Typing) (e1 : Env) (x1 : Val) (z : World) → Grows t u → Sees f u a.this (stated_behind x i xs) e1 →
      Is f.up u x1 q → Kept p f (turns n) u z → Stays (go e1 x1 z)) →
      on_statement x A (λ z. B × Fits f.up qi (f.sort i) × Defines p f z i xs)
      (λ z. (d ≡ true) × C × Fits f.up s.unit q) (λ z. ⊥) →
      Stays (stated p (deeper p g) x e ts w whole inn go)
  unfolding stated
  stated_stays g i d t a xs e q qi ts whole inn go w plain y A B C same h1 h2 sort see k next j =
      let x = h1 j t w grows_itself k in
      valued_stays p f n _ _ x.0 x.1 (λ u x1 z gr kz is. next u e x1 z gr (sees_more f gr see) is kz)
  stated_stays g i d t a xs e q qi ts whole inn go w (defines b) y A B C same h1 h2 sort see k next j =
      let x = h2 b same j.0 t w grows_itself k in
      valued_stays p f n _ _ x.0 x.1 (λ u x1 z gr kz is.
      defined_stays p f n (deeper p g) i u a a.this xs b e x1 z go j.2
      (sees_more f gr see) (is_up f.up is j.1) kz (λ o e1 z1 g2 se j2 k2. next o e1 x1 z1 (grows_on gr g2) se
      (subst (λ q. Is f.up o x1 q) (sym sort) j2) k2))
  stated_stays g i d t a xs e q qi ts whole inn go w (defers b) y A B C same h1 h2 sort see k next j =
      closing_stays _ _ _ e (next t e v.unit w grows_itself see (is_up f.up is_unit j.2) k)
  stated_stays g i d t a xs e q qi ts whole inn go w (generates z) y A B C same h1 h2 sort see k next j = absurd j
