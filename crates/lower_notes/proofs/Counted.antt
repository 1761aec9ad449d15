-- One state for each operation: how the combinators keep it.
use Rattle.std.proofs.Common.{◌≡◌, ℕ, zero, suc, ◌+◌, List, [], ◌∷◌, map, length, Bool, true, false, refl}
use Rattle.std.proofs.Common.{arith}
use Rattle.std.proofs.Common.{length-append}
use Rattle.std.specs.Prelude.{Option, None, option_map}
use Rattle.verse_base.specs.declared.places.Place.{Place}
use Rattle.verse_tree.specs.Tree.{Bytes}
use Rattle.verse_code.specs.declared.operations.Op.{Op}
use Rattle.verse_code.specs.declared.operations.Op.TheVariants as o
use Rattle.verse_sorts.specs.Sorts.{Sort}
use Rattle.lower_code.specs.Pieces as c
use Rattle.lower_code.specs.Pieces.{Spot, Item, sure, Maker, past, next, closed, deepest, drops}
use Rattle.lower_code.specs.Pieces.{arms_spot, behind, later}
use Rattle.lower_code.specs.Lowering as l
use Rattle.lower_code.proofs.Depths.{deepest_more, arms_shallow, drops_shallow, closed_shallow, closed_length, arms_length}
use Rattle.lower_notes.specs.States.{State, Change, pops, gives, tried, untried, in_arm}
use Rattle.lower_notes.specs.Stretches as n
use Rattle.lower_notes.specs.Stretches.{Walk, outs, unreached}
use Rattle.lower_notes.specs.Laws.{Beside}

-- one behind the other, on both sides
abbrev pub code_then : Maker → Maker → Maker
code_then f g s = c.joined_at s (f s) g

abbrev pub walk_then : Walk → Walk → Walk
walk_then f g at x = n.joined_on at (f at x) g

abbrev pub walk_beside : Walk → Walk → Walk
walk_beside f g at x = n.joined_at at (f at x) x g

pub both : {f h : Maker} {g k : Walk} → Beside f g → Beside h k → Beside (code_then f h) (walk_then g k)
both {f = f} {h = h} {g = g} {k = k} x y = record {
  count = λ s at z.
      let e : Spot = past s (f s) in
      let b : ℕ = behind (g at z).states at in
      omega (
        arith,
        length-append (f s).items (h e).items,
        length-append (g at z).states (k b (g at z).exit).states,
        x.count s at z,
        y.count e b (g at z).exit,
      );
  deep = λ s at z.
      let e : Spot = past s (f s) in
      omega (
        arith,
        deepest_more (f s).items (h e).items,
        x.deep s at z,
        y.deep e (behind (g at z).states at) (g at z).exit,
      );
}

-- both walks begin with one state
pub each : {f h : Maker} {g k : Walk} → Beside f g → Beside h k → Beside (code_then f h) (walk_beside g k)
each {f = f} {h = h} {g = g} {k = k} x y = record {
  count = λ s at z.
      let e : Spot = past s (f s) in
      let b : ℕ = behind (g at z).states at in
      omega (
        arith,
        length-append (f s).items (h e).items,
        length-append (g at z).states (k b z).states,
        x.count s at z,
        y.count e b z,
      );
  deep = λ s at z.
      let e : Spot = past s (f s) in
      omega (
        arith,
        deepest_more (f s).items (h e).items,
        x.deep s at z,
        y.deep e
            (behind (g at z).states at) z,
      );
}

-- ---- single operations

pub none : Beside c.nothing n.nothing
none = record { count = λ s at x. refl; deep = λ s at x. refl }

pub just : {op : Op} {h : Change} → Beside (c.one op) (n.one h)
just = record { count = λ s at x. refl; deep = λ s at x. refl }

pub just_ends : {op : Op} → Beside (c.one op) n.ends
just_ends = record { count = λ s at x. refl; deep = λ s at x. refl }

pub just_leaves : (op : Op) (m : ℕ) → Beside (c.one op) (n.leave m)
just_leaves op m = record { count = λ s at x. refl; deep = λ s at x. refl }

pub at_place : {pl : Place} {h : Change} (op : ℕ → Op) → Beside (c.placed pl op) (n.one h)
at_place op = record { count = λ s at x. refl; deep = λ s at x. refl }

pub text : {bs : Bytes} {h : Change} → Beside (c.texted bs) (n.one h)
text = record { count = λ s at x. refl; deep = λ s at x. refl }

pub away : {k : ℕ} {h : Change} → Beside (c.put_away k) (n.one h)
away = record { count = λ s at x. refl; deep = λ s at x. refl }

pub jumps : (k : ℕ) → Beside (c.leave_loop k) (n.leave_loop k)
jumps k = record { count = λ s at x. refl; deep = λ s at x. omega arith }

pub sticks : Beside c.stuck n.ends
sticks = record { count = λ s at x. refl; deep = λ s at x. refl }

pub if_so : {f : Maker} {g : Walk} (b : Bool) → Beside f g → Beside (c.when b f) (n.when b g)
if_so true x = record { count = x.count; deep = x.deep }
if_so false x = record { count = λ s at x. refl; deep = λ s at x. refl }

pub else_stuck : {f : Maker} {g : Walk} (b : Bool) → Beside f g → Beside (c.when_else b f) (n.when_else b g)
else_stuck true x = x
else_stuck false x = sticks

pub ends_or_stuck : (op : Op) (b : Bool) → Beside (c.when_else b (c.one op)) n.ends
ends_or_stuck op true = just_ends
ends_or_stuck op false = sticks

-- ---- combinators

pub numbered : {f : ℕ → Maker} {g : Walk} (pl : Place) → ((m : ℕ) → Beside (f m) g) →
    Beside (c.numbering pl f) g
numbered pl x = record {
  count = λ s at z. (x s.place).count (record { at = s.at; place = suc s.place; text = s.text }) at z;
  deep = λ s at z. (x s.place).deep (record { at = s.at; place = suc s.place; text = s.text }) at z;
}

pub with_locals : {f : Maker} {g : Walk} (k : ℕ) → Beside f g → Beside (code_then (c.using_locals k) f) g
with_locals k x = record {
  count = λ s at z. x.count (past s (c.using_locals k s)) at z;
  deep = λ s at z. x.deep (past s (c.using_locals k s)) at z;
}

pub by_place : {f : ℕ → Maker} {g : Walk} → ((a : ℕ) → Beside (f a) g) → Beside (c.from_here f) g
by_place x = record { count = λ s at z. (x s.at).count s at z; deep = λ s at z. (x s.at).deep s at z }

pub gives_value : {f : Maker} {g : Walk} (a : Sort) → Beside f g → Beside f (n.giving a g)
gives_value a x = record { count = λ s at z. x.count s at z; deep = λ s at z. x.deep s at z }

pub wider : {f : Maker} {g : Walk} (a : Sort) → Beside f g → Beside f (n.widened a g)
wider a x = record { count = λ s at z. x.count s at z; deep = λ s at z. x.deep s at z }

pub begins : {f : Maker} {g : Walk} (h : Change) → Beside f g → Beside f (n.beginning h g)
begins h x = record {
  count = λ s at z. x.count s at (option_map h z);
  deep = λ s at z. x.deep s at
      (option_map h z);
}

pub before : {f : Maker} {g : Walk} {into beyond : ℕ → Change} (op : ℕ → Op) → Beside f g →
    Beside (c.ahead op f) (n.ahead into beyond g)
before {into = into} op x = record {
  count = λ s at z. omega (arith, x.count (next s) (suc at) (option_map (into at) z));
  deep = λ s at z. x.deep (next s) (suc at) (option_map (into at) z);
}

pub jumps_over : {f : Maker} {g : Walk} (op : ℕ → Op) → Beside f g → Beside (c.ahead op f) (n.over g)
jumps_over op x = record {
  count = λ s at z. omega (arith, x.count (next s) (suc at) None);
  deep = λ s at z. x.deep (next s) (suc at) None;
}

one_of : {f h : Maker} {g k : Walk} (op : ℕ → Op) (into other : ℕ → Change) → Beside f g → Beside h k →
    Beside (c.either op f h) (n.either into other g k)
one_of {f = f} {h = h} {g = g} {k = k} op into other x y = record {
  count = λ s at z.
      let e : Spot = next (past (next s) (f (next s))) in
      let p : n.Stretch = g (suc at) (option_map (into at) z) in
      let q : n.Stretch = k (suc (behind p.states (suc at))) (option_map (other at) z) in
      omega (
        arith,
        length-append (f (next s)).items (sure (o.Jump (past e (h e)).at) ∷ (h e).items),
        length-append p.states (p.exit ∷ q.states),
        x.count (next s) (suc at) (option_map (into at) z),
        y.count e (suc (behind p.states (suc at))) (option_map (other at) z),
      );
  deep = λ s at z.
      let e : Spot = next (past (next s) (f (next s))) in
      let p : n.Stretch = g (suc at) (option_map (into at) z) in
      omega (
        arith,
        deepest_more (f (next s)).items (sure (o.Jump (past e (h e)).at) ∷ (h e).items),
        x.deep (next s) (suc at) (option_map (into at) z),
        y.deep e (suc (behind p.states (suc at))) (option_map (other at) z),
      );
}

pub tries : {f : Maker} {g : Walk} → Beside f g → Beside (c.ahead o.Try f) (n.attempt g)
tries = before {into = tried} {beyond = n.always n.same} o.Try

pub attempts : {f h : Maker} {g k : Walk} → Beside f g → Beside h k → Beside (c.either o.Try f h)
    (n.either_try g k)
attempts = one_of o.Try tried (n.always n.same)

pub compares : {f h : Maker} {g k : Walk} → Beside f g → Beside h k → Beside (c.either o.Same f h)
    (n.either_same g k)
compares = one_of o.Same (n.always (pops 2)) (n.always (pops 2))

-- ---- loops

drops_count : (d : ℕ) (is : List Item) → length (drops d is) ≡ d + length is
drops_count zero is = omega arith
drops_count (suc d) is = omega (arith, drops_count d is)

pub outs_count : (d : ℕ) (left : Option ℕ) (x : Option State) → length (outs d left x) ≡ suc d
outs_count zero left x = refl
outs_count (suc d) left x = omega (arith, outs_count d left x)

closes : {f : Maker} {g : Walk} → Beside f g → Beside (c.closing f) (n.closing g)
closes {f = f} {g = g} x = record {
  count = λ s at z.
      let d : ℕ = deepest (f s).items in
      let out : ℕ = later d (past s (f s)).at in
      let p : n.Stretch = g at z in
      omega (
        arith,
        length-append (map (closed out) (f s).items) (drops d (sure o.Unit ∷ [])),
        closed_length out (f s).items,
        drops_count d (sure o.Unit ∷ []),
        length-append p.states (outs p.deep p.left z),
        outs_count p.deep p.left z,
        x.count s at z,
        x.deep s at z,
      );
  deep = λ s at z.
      let d : ℕ = deepest (f s).items in
      let out : ℕ = later d (past s (f s)).at in
      omega (
        arith,
        deepest_more (map (closed out) (f s).items) (drops d (sure o.Unit ∷ [])),
        closed_shallow out (f s).items,
        drops_shallow d,
      );
}

abbrev pub loop_code : Maker → ℕ → Maker
loop_code f a = code_then (c.ahead o.Jump (code_then f (c.one o.Drop))) (c.one (o.Again (suc a)))

abbrev pub loop_walk : Walk → Walk
loop_walk g = walk_then (n.ahead (n.always n.same) (n.always n.same) (walk_then g (n.one (pops 1)))) n.ends

loop_beside : {f : Maker} {g : Walk} → Beside f g → (a : ℕ) → Beside (loop_code f a) (loop_walk g)
loop_beside x a = both (before {into = n.always n.same} {beyond = n.always n.same} o.Jump
    (both x (just {h = pops 1}))) just_ends

pub loops : {f : Maker} {g : Walk} → Beside f g → Beside (c.looping f) (n.looping g)
loops {f = f} {g = g} x = closes {f = c.from_here (loop_code f)} {g = loop_walk g}
    (by_place {f = loop_code f} {g = loop_walk g} (loop_beside x))

abbrev pub turn_code : Maker → ℕ → ℕ → Maker
turn_code f k a = code_then (c.ahead o.Jump (c.ahead o.Try f)) (c.one (o.Take k (suc (suc k)) (suc a)))

abbrev pub turn_walk : Change → Walk → Walk
turn_walk turn g = walk_then (n.ahead (n.always turn) (n.always n.same) (n.attempt g)) n.last

turn_beside : {f : Maker} {g : Walk} (turn : Change) (k : ℕ) → Beside f g → (a : ℕ) →
    Beside (turn_code f k a) (turn_walk turn g)
turn_beside turn k x a = both (before {into = n.always turn} {beyond = n.always n.same} o.Jump (tries x))
    (just {h = n.same})

pub turns : {f : Maker} {g : Walk} (op : Op) (domain turn : Change) (k : ℕ) → Beside f g →
    Beside (c.turning op k f) (n.turning domain turn g)
turns {f = f} {g = g} op domain turn k x = with_locals (suc (suc (suc (suc k))))
    (both (just {op = o.Commit} {h = untried}) (both (just {op = op} {h = domain})
    (by_place {f = turn_code f k} {g = turn_walk turn g} (turn_beside turn k x))))

-- ---- groups

pub unreached_count : (m : ℕ) (xs : List (Option State)) → length (unreached m xs) ≡ m + length xs
unreached_count zero xs = omega arith
unreached_count (suc m) xs = omega (arith, unreached_count m xs)

pub groups : {arms : Maker} {g : Walk} (kind m : ℕ) (pl : Place) (a : Sort) (where_at : Spot → List ℕ) →
    ((s : Spot) → length (where_at s) ≡ m) → Beside arms g → Beside (l.grouped kind m pl where_at arms)
    (n.grouped m a g)
unfolding l.grouped
groups {arms = arms} {g = g} kind m pl a where_at many x = record {
  count = λ s at z.
      let e : Spot = arms_spot m s in
      let is : List Item = sure (o.Jump (past e (arms e)).at) ∷ (arms e).items in
      omega (
        arith,
        many e,
        arms_length (where_at e) is,
        unreached_count m (option_map (gives 0 a) z ∷ (g (later m (suc (suc at))) z).states),
        x.count e (later m (suc (suc at))) z,
      );
  deep = λ s at z.
      let e : Spot = arms_spot m s in
      omega (
        arith,
        arms_shallow (where_at e) (sure (o.Jump (past e (arms e)).at) ∷ (arms e).items),
        x.deep e (later m (suc (suc at))) z,
      );
}

-- an arm of a group
pub arms : {f : Maker} {g : Walk} (op : Op) (a : Sort) → Beside f g → Beside (code_then f (c.one op))
    (n.arm a g)
arms op a x = begins (in_arm a) (both x just_ends)
