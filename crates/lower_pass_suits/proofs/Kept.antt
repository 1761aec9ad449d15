-- Stretches whose states are suited: how the combinators keep it.
use Rattle.std.proofs.Common.{◌≡◌, ℕ, zero, suc, ◌+◌, ◌≤◌, length, List, [], ◌∷◌, ◌++◌, map, Option, Some, None, Bool, true, false, cond}
use Rattle.std.proofs.Common.{refl, arith, length-append}
use Rattle.std.specs.Prelude.{option_map}
use Rattle.verse_base.specs.declared.places.Place.{Place}
use Rattle.verse_tree.specs.Tree.{Bytes}
use Rattle.verse_code.specs.declared.operations.Op.{Op}
use Rattle.verse_code.specs.declared.operations.Op.TheVariants as o
use Rattle.verse_sorts.specs.Sorts as sort
use Rattle.verse_sorts.specs.Sorts.{Sort}
use Rattle.verse_meaning.specs.Programs.{or_else}
use Rattle.lower_code.specs.Pieces as c
use Rattle.lower_code.specs.Pieces.{Spot, Item, sure, leaving, Maker, past, next, closed, deepest, drops, arms_spot, arms_at, behind, later}
use Rattle.lower_code.specs.Lowering as l
use Rattle.lower_code.proofs.Standing.{behind_is, later_is}
use Rattle.lower_bounds.proofs.Lists.{Each, each_first, each_rest, each_joined, each_weaker}
use Rattle.lower_notes.specs.States.{State, Change, pops, gives, in_arm, in_block, deferred}
use Rattle.lower_notes.specs.Stretches as n
use Rattle.lower_notes.specs.Stretches.{Walk, with_value, is_left, out_with, outs, unreached, above}
use Rattle.lower_notes.proofs.Counted.{code_then, walk_then, walk_beside, outs_count, unreached_count}
use Rattle.lower_notes.proofs.Counted.{loop_code, loop_walk, turn_code, turn_walk}
use Rattle.lower_pass_stretches.proofs.Begins.{Starts, starts, Begins}
use Rattle.lower_pass_suits.proofs.Suited.{Kind, SuitedAt, Keeping, suited_on, at_on, at_map, stays, popped, given, given_one}
use Rattle.lower_pass_suits.proofs.Suited.{try_opened, try_closed, arm_begun, block_begun, block_deferred, left_above}

-- ---- what defers nothing

abbrev pub IsSober : Item → Type 0
IsSober (sure (o.Defer k)) = ⊥
IsSober i = Unit {0}

abbrev pub Sober : List Item → Type 0
Sober = Each IsSober

some_states : {x : Option State} {xs : List (Option State)} → Starts x xs → 1 ≤ length xs
some_states starts = omega arith

closed_sober : (out : ℕ) (is : List Item) → Sober (map (closed out) is) → Sober is
closed_sober out [] h = tt
closed_sober out (sure op ∷ is) h = (h.0, closed_sober out is h.1)
closed_sober out (leaving m ∷ is) h = (tt, closed_sober out is h.1)

arms_sober : (ls : List ℕ) (is : List Item) → Sober (arms_at ls is) → Sober is
arms_sober [] is h = h
arms_sober (a ∷ ls) is h = arms_sober ls is h.1

module _ (w : Kind) where
  -- states from an index on, and what stands behind them
  pub record Goes (at : ℕ) (xs : List (Option State)) (y : Option State) : Type 0 where
    pub states : Each (SuitedAt w (at + length xs)) xs
    pub exit : SuitedAt w (at + length xs) y

  pub record Keeps (f : Maker) (g : Walk) : Type 0 where
    pub keeps : (s : Spot) (at : ℕ) (x : Option State) → (w.sober ≡ true → Sober (f s).items) → SuitedAt w at x →
        Goes at (g at x).states (g at x).exit

  each_on : {n m : ℕ} → n ≤ m → (xs : List (Option State)) → Each (SuitedAt w n) xs → Each (SuitedAt w m) xs
  each_on l xs h = each_weaker (at_on w l) xs h

  joined_goes : (at : ℕ) (xs ys : List (Option State)) {y z : Option State} → Goes at xs y → Goes (behind xs at) ys z →
      Goes at (xs ++ ys) z
  joined_goes at xs ys {z = z} h k = record {
    states = each_joined (SuitedAt w (at + length (xs ++ ys))) xs ys (each_on (omega (arith, length-append xs ys)) xs h.states)
        (each_on (omega (arith, length-append xs ys, behind_is xs at)) ys k.states);
    exit = at_on w (omega (arith, length-append xs ys, behind_is xs at)) z k.exit;
  }

  cons_goes : (at : ℕ) (x : Option State) (xs : List (Option State)) {y : Option State} → SuitedAt w at x → Goes (suc at) xs y →
      Goes at (x ∷ xs) y
  cons_goes at x xs {y} h k = record {
    states = (at_on w (omega arith) x h, each_on (omega arith) xs k.states);
    exit = at_on w (omega arith) y k.exit;
  }

  exits : {at : ℕ} {xs : List (Option State)} {y z : Option State} → SuitedAt w (at + length xs) z → Goes at xs y → Goes at xs z
  exits k h = record { states = h.states; exit = k }

  value_suited : (a : Sort) → w.Good a → (at : ℕ) {m : ℕ} → suc at ≤ m → (x y : Option State) → SuitedAt w at x →
      SuitedAt w m (with_value a x y)
  value_suited a g at l x None h = tt
  value_suited a g at l x (Some y) h = at_map (gives 0 a) (λ z r. suited_on l (gives 0 a z) (given 0 a g at z r)) x h

  ahead_goes : (at : ℕ) (x : Option State) (xs : List (Option State)) {y : Option State} (h : Change) → Keeping w h →
      SuitedAt w at x → Goes (suc at) xs y → Goes at (x ∷ xs) (option_map h x)
  ahead_goes at x xs h k i j = exits (at_map h (λ y r. suited_on (omega arith) (h y) (k at y r)) x i) (cons_goes at x xs i j)

  first_of : {n m k : ℕ} → n ≤ k → m ≤ k → (x y : Option State) → SuitedAt w n x → SuitedAt w m y → SuitedAt w k (or_else x y)
  first_of l u (Some x) y h i = suited_on l x h
  first_of l u None y h i = at_on w u y i

  either_goes : (at : ℕ) (x : Option State) (xs ys : List (Option State)) (y z : Option State) → SuitedAt w at x →
      Goes (suc at) xs y → Goes (suc (behind xs (suc at))) ys z →
      Goes at (x ∷ xs ++ y ∷ ys) (or_else y z)
  either_goes at x xs ys y z h i j =
      let k = cons_goes at x (xs ++ y ∷ ys) h (joined_goes (suc at) xs (y ∷ ys) i
      (cons_goes (behind xs (suc at)) y ys (at_on w (omega (arith, behind_is xs (suc at))) y i.exit) j)) in
      exits (first_of (omega (arith, length-append xs (y ∷ ys))) (omega arith) y z i.exit k.exit) k

  unreached_suited : (n m : ℕ) (xs : List (Option State)) → Each (SuitedAt w n) xs → Each (SuitedAt w n) (unreached m xs)
  unreached_suited n zero xs h = h
  unreached_suited n (suc m) xs h = (tt, unreached_suited n m xs h)

  group_goes : (at m : ℕ) (x y : Option State) (xs : List (Option State)) {z : Option State} → SuitedAt w at x →
      SuitedAt w (suc at) y → Goes (later m (suc (suc at))) xs z →
      Goes at (x ∷ unreached m (y ∷ xs)) y
  group_goes at m x y xs h i k =
      let many = unreached_count m (y ∷ xs) in
      record {
        states = (
          at_on w (omega arith) x h,
          unreached_suited (at + suc (length (unreached m (y ∷ xs)))) m (y ∷ xs)
              (at_on w (omega (arith, many)) y i, each_on (omega (arith, many, later_is m (suc (suc at)))) xs k.states),
        );
        exit = at_on w (omega (arith, many)) y i;
      }

  module _ (any : w.Good sort.any) where
    out_suited : (at k : ℕ) {m : ℕ} (left : Option ℕ) → at + k ≤ m → (x : Option State) → SuitedAt w at x →
        SuitedAt w m (out_with k left x)
    out_suited at k {m} left l x h = by (is_left k left)
      where
        by : (b : Bool) → SuitedAt w m (cond b (option_map (above k) x) None)
        by true = at_map (above k) (left_above any k l) x h
        by false = tt

    outs_suited : (at d : ℕ) {m : ℕ} (left : Option ℕ) → at + d ≤ m → (x : Option State) → SuitedAt w at x →
        Each (SuitedAt w m) (outs d left x)
    outs_suited at zero left l x h = (out_suited at 0 left l x h, tt)
    outs_suited at (suc d) left l x h = (out_suited at (suc d) left l x h, outs_suited at d left (omega (arith, l)) x h)

    closed_goes : (at d : ℕ) (left : Option ℕ) (xs : List (Option State)) (x : Option State) {y : Option State} →
        SuitedAt w at x → Goes at xs y → Goes at (xs ++ outs d left x) (out_with 0 left x)
    closed_goes at d left xs x h k =
        let many = outs_count d left x in
        let all = length-append xs (outs d left x) in
        record {
          states = each_joined (SuitedAt w (at + length (xs ++ outs d left x))) xs (outs d left x)
              (each_on (omega (arith, all)) xs k.states) (outs_suited at d left (omega (arith, all, many)) x h);
          exit = out_suited at 0 left (omega arith) x h;
        }

module _ {w : Kind} where
  -- ---- single operations

  pub none : Keeps w c.nothing n.nothing
  none = record { keeps = λ s at x q h. record { states = tt; exit = at_on w (omega arith) x h } }

  change : {f : Maker} {h : Change} → Keeping w h → Keeps w f (n.one h)
  change {h = h} k = record {
    keeps = λ s at x q i. record {
      states = (at_on w (omega arith) x i, tt);
      exit = at_map h (λ y r. suited_on (omega arith) (h y) (k at y r)) x i;
    };
  }

  pub just : {op : Op} {h : Change} → Keeping w h → Keeps w (c.one op) (n.one h)
  just k = change k

  pub just_last : {op : Op} → Keeps w (c.one op) n.last
  just_last = change stays

  pub at_place : {pl : Place} {h : Change} (op : ℕ → Op) → Keeping w h → Keeps w (c.placed pl op) (n.one h)
  at_place op k = change k

  pub place_last : {pl : Place} (op : ℕ → Op) → Keeps w (c.placed pl op) n.last
  place_last op = change stays

  pub text : {bs : Bytes} {h : Change} → Keeping w h → Keeps w (c.texted bs) (n.one h)
  text k = change k

  pub away : (l : ℕ) {h : Change} → Keeping w h → Keeps w (c.put_away l) (n.one h)
  away l k = change k

  -- whatever the operation
  pub stops : {f : Maker} → Keeps w f n.ends
  stops = record { keeps = λ s at x q h. record { states = (at_on w (omega arith) x h, tt); exit = tt } }

  pub just_ends : {op : Op} → Keeps w (c.one op) n.ends
  just_ends = stops

  pub jumps : (k : ℕ) → Keeps w (c.leave_loop k) (n.leave_loop k)
  jumps k = record { keeps = λ s at x q h. record { states = (at_on w (omega arith) x h, tt); exit = tt } }

  pub if_so : {f : Maker} {g : Walk} (b : Bool) → Keeps w f g → Keeps w (c.when b f) (n.when b g)
  if_so true x = record { keeps = x.keeps }
  if_so false x = record { keeps = λ s at x q h. record { states = tt; exit = at_on w (omega arith) x h } }

  pub else_stuck : {f : Maker} {g : Walk} (b : Bool) → Keeps w f g → Keeps w (c.when_else b f) (n.when_else b g)
  else_stuck true x = x
  else_stuck false x = stops

  -- ---- combinators

  pub both : {f h : Maker} {g k : Walk} → Keeps w f g → Keeps w h k → Keeps w (code_then f h) (walk_then g k)
  both {f = f} {h = h} {g = g} {k = k} x y = record {
    keeps = λ s at z q i.
        let e : Spot = past s (f s) in
        let xs : List (Option State) = (g at z).states in
        let one = x.keeps s at z (λ r. each_first IsSober (f s).items (h e).items (q r)) i in
        joined_goes w at xs (k (behind xs at) (g at z).exit).states one
        (y.keeps e (behind xs at) (g at z).exit (λ r. each_rest IsSober (f s).items (h e).items (q r))
        (at_on w (omega (arith, behind_is xs at)) (g at z).exit one.exit));
  }

  -- both walks begin with one state
  pub each : {f h : Maker} {g k : Walk} → Keeps w f g → Keeps w h k → Keeps w (code_then f h) (walk_beside g k)
  each {f = f} {h = h} {g = g} {k = k} x y = record {
    keeps = λ s at z q i.
        let e : Spot = past s (f s) in
        let xs : List (Option State) = (g at z).states in
        joined_goes w at xs (k (behind xs at) z).states (x.keeps s at z (λ r. each_first IsSober (f s).items (h e).items (q r)) i)
        (y.keeps e (behind xs at) z (λ r. each_rest IsSober (f s).items (h e).items (q r))
        (at_on w (omega (arith, behind_is xs at)) z i));
  }

  pub numbered : {f : ℕ → Maker} {g : Walk} (pl : Place) → ((m : ℕ) → Keeps w (f m) g) → Keeps w (c.numbering pl f) g
  numbered pl x = record {
    keeps = λ s at z q i. (x s.place).keeps (record { at = s.at; place = suc s.place; text = s.text }) at z q i;
  }

  pub with_locals : {f : Maker} {g : Walk} (k : ℕ) → Keeps w f g → Keeps w (code_then (c.using_locals k) f) g
  with_locals k x = record { keeps = λ s at z q i. x.keeps (past s (c.using_locals k s)) at z q i }

  pub by_place : {f : ℕ → Maker} {g : Walk} → ((a : ℕ) → Keeps w (f a) g) → Keeps w (c.from_here f) g
  by_place x = record { keeps = λ s at z q i. (x s.at).keeps s at z q i }

  -- ---- values

  pub gives_value : {f : Maker} {g : Walk} (a : Sort) → w.Good a → Begins g → Keeps w f g → Keeps w f (n.giving a g)
  gives_value {g = g} a good begins x = record {
    keeps = λ s at z q i. exits w
        (value_suited w a good at (omega (arith, some_states (begins at z))) z (g at z).exit i) (x.keeps s at z q i);
  }

  pub wider : {f : Maker} {g : Walk} (a : Sort) → w.Good a → Begins g → Keeps w f g → Keeps w f (n.widened a g)
  wider {g = g} a good begins x = record {
    keeps = λ s at z q i.
        let h = x.keeps s at z q i in
        exits w (at_map (gives 1 a)
        (given_one a good (at + length (g at z).states) (omega (arith, some_states (begins at z)))) (g at z).exit h.exit) h;
  }

  -- ---- labels

  pub before : {f : Maker} {g : Walk} {into beyond : ℕ → Change} (op : ℕ → Op) → ((a : ℕ) → Keeping w (into a)) →
      ((a : ℕ) → Keeping w (beyond a)) → Keeps w f g →
      Keeps w (c.ahead op f) (n.ahead into beyond g)
  before {g = g} {into = into} {beyond = beyond} op j k x = record {
    keeps = λ s at z q i. ahead_goes w at z (g (suc at) (option_map (into at) z)).states (beyond at) (k at) i
        (x.keeps (next s) (suc at) (option_map (into at) z) (λ r. (q r).1) (at_map (into at) (j at at) z i));
  }

  pub defers : {f : Maker} {g : Walk} → Keeps w f g → Keeps w (c.ahead o.Defer f) (n.ahead in_block deferred g)
  defers {g = g} x = record {
    keeps = λ s at z q i. ahead_goes w at z (g (suc at) (option_map (in_block at) z)).states (deferred at)
        (block_deferred (λ r. (q r).0) at) i
        (x.keeps (next s) (suc at) (option_map (in_block at) z) (λ r. (q r).1)
        (at_map (in_block at) (block_begun (λ r. (q r).0) at at) z i));
  }

  pub jumps_over : {f : Maker} {g : Walk} (op : ℕ → Op) → Keeps w f g → Keeps w (c.ahead op f) (n.over g)
  jumps_over {g = g} op x = record {
    keeps = λ s at z q i. exits w (at_on w (omega arith) z i)
        (cons_goes w at z (g (suc at) None).states i (x.keeps (next s) (suc at) None (λ r. (q r).1) tt));
  }

  one_of : {f h : Maker} {g k : Walk} {into other : ℕ → Change} (op : ℕ → Op) → ((a : ℕ) → Keeping w (into a)) →
      ((a : ℕ) → Keeping w (other a)) → Keeps w f g → Keeps w h k →
      Keeps w (c.either op f h) (n.either into other g k)
  one_of {f = f} {h = h} {g = g} {k = k} {into = into} {other = other} op i j x y = record {
    keeps = λ s at z q r.
        let e : Spot = next (past (next s) (f (next s))) in
        let p : n.Stretch = g (suc at) (option_map (into at) z) in
        let b : ℕ = suc (behind p.states (suc at)) in
        let jump : Item = sure (o.Jump (past e (h e)).at) in
        either_goes w at z p.states (k b (option_map (other at) z)).states p.exit (k b (option_map (other at) z)).exit r
        (x.keeps (next s) (suc at) (option_map (into at) z)
        (λ u. each_first IsSober (f (next s)).items (jump ∷ (h e).items) (q u).1) (at_map (into at) (i at at) z r))
        (y.keeps e b (option_map (other at) z)
        (λ u. (each_rest IsSober (f (next s)).items (jump ∷ (h e).items) (q u).1).1)
        (at_map (other at) (λ v m. suited_on (omega (arith, behind_is p.states (suc at))) (other at v) (j at at v m)) z r));
  }

  pub tries : {f : Maker} {g : Walk} → Keeps w f g → Keeps w (c.ahead o.Try f) (n.attempt g)
  tries x = before o.Try try_opened (λ a. stays) x

  pub attempts : {f h : Maker} {g k : Walk} → Keeps w f g → Keeps w h k → Keeps w (c.either o.Try f h) (n.either_try g k)
  attempts x y = one_of o.Try try_opened (λ a. stays) x y

  pub compares : {f h : Maker} {g k : Walk} → Keeps w f g → Keeps w h k → Keeps w (c.either o.Same f h) (n.either_same g k)
  compares x y = one_of o.Same (λ a. popped 2) (λ a. popped 2) x y

  -- ---- loops

  module _ (any : w.Good sort.any) where
    closes : {f : Maker} {g : Walk} → Keeps w f g → Keeps w (c.closing f) (n.closing g)
    closes {f = f} {g = g} x = record {
      keeps = λ s at z q i.
          let d : ℕ = deepest (f s).items in
          let out : ℕ = later d (past s (f s)).at in
          closed_goes w any at (g at z).deep (g at z).left (g at z).states z i
          (x.keeps s at z (λ r. closed_sober out (f s).items
          (each_first IsSober (map (closed out) (f s).items) (drops d (sure o.Unit ∷ [])) (q r))) i);
    }

    loop_keeps : {f : Maker} {g : Walk} → Keeps w f g → (a : ℕ) → Keeps w (loop_code f a) (loop_walk g)
    loop_keeps x a = both (before o.Jump (λ a. stays) (λ a. stays) (both x (just (popped 1)))) just_ends

    pub loops : {f : Maker} {g : Walk} → Keeps w f g → Keeps w (c.looping f) (n.looping g)
    loops {f = f} {g = g} x = closes {f = c.from_here (loop_code f)} {g = loop_walk g}
        (by_place {f = loop_code f} {g = loop_walk g} (loop_keeps x))

  turn_keeps : {f : Maker} {g : Walk} {turn : Change} (k : ℕ) → Keeping w turn → Keeps w f g → (a : ℕ) →
      Keeps w (turn_code f k a) (turn_walk turn g)
  turn_keeps k t x a = both (before o.Jump (λ a. t) (λ a. stays) (tries x)) just_last

  pub turns : {f : Maker} {g : Walk} {domain turn : Change} (op : Op) (k : ℕ) → Keeping w domain → Keeping w turn →
      Keeps w f g → Keeps w (c.turning op k f) (n.turning domain turn g)
  turns {f = f} {g = g} {turn = turn} op k d t x = with_locals (suc (suc (suc (suc k))))
      (both {f = c.one o.Commit} (just try_closed) (both {f = c.one op} (just d)
      (by_place {f = turn_code f k} {g = turn_walk turn g} (turn_keeps k t x))))

  -- ---- groups

  pub groups : {arms : Maker} {g : Walk} (kind m : ℕ) (pl : Place) (a : Sort) (where_at : Spot → List ℕ) → w.Good a →
      Keeps w arms g → Keeps w (l.grouped kind m pl where_at arms) (n.grouped m a g)
  unfolding l.grouped
  groups {arms = arms} {g = g} kind m pl a where_at good x = record {
    keeps = λ s at z q i.
        let e : Spot = arms_spot m s in
        let is : List Item = sure (o.Jump (past e (arms e)).at) ∷ (arms e).items in
        let b : ℕ = later m (suc (suc at)) in
        group_goes w at m z (option_map (gives 0 a) z) (g b z).states i (at_map (gives 0 a) (given 0 a good at) z i)
        (x.keeps e b z (λ r. (arms_sober (where_at e) is (q r).1).1) (at_on w (omega (arith, later_is m (suc (suc at)))) z i));
  }

  -- an arm of a group
  pub arms : {f : Maker} {g : Walk} (h : Maker) (a : Sort) → w.Good a → Keeps w f g → Keeps w (code_then f h) (n.arm a g)
  arms {f = f} {g = g} h a good x =
      let y = both {f = f} {h = h} {g = g} {k = n.ends} x stops in
      record {
        keeps = λ s at z q i. y.keeps s at (option_map (in_arm a) z) q (at_map (in_arm a) (arm_begun a good at) z i);
      }
