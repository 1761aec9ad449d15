-- How many operations of deferred blocks stand in a stretch of code, and how the combinators add them.
use Rattle.std.proofs.Common.{◌≡◌, ℕ, zero, suc, ◌+◌, ◌-◌, ◌<◌, ◌≤◌, List, [], ◌∷◌, ◌++◌, map, Bool, true, false}
use Rattle.std.proofs.Common.{refl}
use Rattle.std.proofs.Common.{◌∙◌, arith}
use Rattle.verse_base.specs.declared.places.Place.{Place}
use Rattle.verse_tree.specs.Tree.{Bytes}
use Rattle.verse_code.specs.declared.operations.Op.{Op}
use Rattle.verse_code.specs.declared.operations.Op.TheVariants as o
use Rattle.lower_code.specs.Pieces.{Spot, Item, sure, leaving, Piece, Maker, past, next, nothing, one, placed}
use Rattle.lower_code.specs.Pieces.{numbering, texted, put_away, stuck, when, leave_loop, ahead, either, closing}
use Rattle.lower_code.specs.Pieces.{from_here, looping, turning, using_locals, arms_at, arms_spot, closed, drops}
use Rattle.lower_code.specs.Pieces.{deepest, later, ◌then◌}
use Rattle.lower_code.specs.Lowering.{grouped}
use Rattle.lower_code_defers.specs.Counts.{begins, ends}

-- 1 for what leaves a block
abbrev pub leaves : Op → ℕ
leaves (o.Leave n) = 1
leaves op = 0

abbrev pub tally : (Op → ℕ) → List Item → ℕ
tally f [] = 0
tally f (sure op ∷ is) = f op + tally f is
tally f (leaving n ∷ is) = tally f is

tally_joined : (f : Op → ℕ) (xs ys : List Item) → tally f (xs ++ ys) ≡ tally f xs + tally f ys
tally_joined f [] ys = omega arith
tally_joined f (sure op ∷ xs) ys = omega (arith, tally_joined f xs ys)
tally_joined f (leaving n ∷ xs) ys = tally_joined f xs ys

-- no beginning and no end of a deferred block
abbrev pub IsOther : Op → Type 0
IsOther op = (begins op ≡ 0) × (ends op ≡ 0)

-- the code of n `defer`s; where k is not 0, some of them are in blocks that are left
pub record Counts (f : Maker) (n k : ℕ) : Type 0 where
  pub begin : (s : Spot) → tally begins (f s).items ≡ n
  pub end : (s : Spot) → tally ends (f s).items ≡ n
  pub left : (s : Spot) → 0 < k → 0 < tally leaves (f s).items

-- all of them are in blocks that are left
abbrev pub Has : Maker → ℕ → Type 0
Has f n = Counts f n n

pub same : {f : Maker} {n m k j : ℕ} → n ≡ m → j ≤ k → Counts f n k → Counts f m j
same e le x = record {
  begin = λ s. x.begin s ∙ e;
  end = λ s. x.end s ∙ e;
  left = λ s h. x.left s (omega (arith, le, h));
}

pub so : {f : Maker} {n m : ℕ} → n ≡ m → Has f n → Has f m
so e x = same e (omega (arith, e)) x

-- ---- one behind the other

some_of : (k j a b : ℕ) → (0 < k → 0 < a) → (0 < j → 0 < b) → 0 < k + j → 0 < a + b
some_of zero j a b x y h = omega (arith, y (omega (arith, h)))
some_of (suc k) j a b x y h = omega (arith, x (omega arith))

pub both : {f g : Maker} {n m k j : ℕ} → Counts f n k → Counts g m j → Counts (f then g) (n + m) (k + j)
both {f = f} {g = g} {k = k} {j = j} x y = record {
  begin = λ s. omega (
    arith,
    tally_joined begins (f s).items (g (past s (f s))).items,
    x.begin s,
    y.begin (past s
        (f s)),
  );
  end = λ s. omega (arith, tally_joined ends (f s).items (g (past s (f s))).items, x.end s, y.end (past s (f s)));
  left = λ s h.
      let e : Spot = past s (f s) in
      omega (
        arith,
        tally_joined leaves (f s).items (g e).items,
        some_of k j (tally leaves (f s).items) (tally leaves (g e).items) (x.left s) (y.left e) h,
      );
}

-- with what has none of them
pub then_other : {f g : Maker} {n : ℕ} → Has f n → Has g 0 → Has (f then g) n
then_other x y = so (omega arith) (both x y)

pub other_then : {f g : Maker} {n : ℕ} → Has f 0 → Has g n → Has (f then g) n
other_then x y = so (omega arith) (both x y)

-- ---- single operations

pub none : Has nothing 0
none = record { begin = λ s. refl; end = λ s. refl; left = λ s h. absurd (omega (arith, h)) }

pub just : (op : Op) → IsOther op → Has (one op) 0
just op h = record {
  begin = λ s. omega (arith, h.0);
  end = λ s. omega (arith, h.1);
  left = λ s l. absurd (omega (arith, l));
}

pub at_place : (pl : Place) (op : ℕ → Op) → ((m : ℕ) → IsOther (op m)) → Has (placed pl op) 0
at_place pl op h = record {
  begin = λ s. omega (arith, (h s.place).0);
  end = λ s. omega (arith, (h s.place).1);
  left = λ s l. absurd (omega (arith, l));
}

pub text : (bs : Bytes) → Has (texted bs) 0
text bs = record { begin = λ s. refl; end = λ s. refl; left = λ s h. absurd (omega (arith, h)) }

pub away : (l : ℕ) → Has (put_away l) 0
away l = record { begin = λ s. refl; end = λ s. refl; left = λ s h. absurd (omega (arith, h)) }

pub jumps : (n : ℕ) → Has (leave_loop n) 0
jumps n = record { begin = λ s. refl; end = λ s. refl; left = λ s h. absurd (omega (arith, h)) }

pub sticks : Has stuck 0
sticks = record { begin = λ s. refl; end = λ s. refl; left = λ s h. absurd (omega (arith, h)) }

pub using_none : (n : ℕ) → Has (using_locals n) 0
using_none n = record { begin = λ s. refl; end = λ s. refl; left = λ s h. absurd (omega (arith, h)) }

pub if_so : {f : Maker} (b : Bool) → (b ≡ true → Has f 0) → Has (when b f) 0
if_so true x = let y = x refl in record { begin = y.begin; end = y.end; left = y.left }
if_so false x = record { begin = λ s. refl; end = λ s. refl; left = λ s h. absurd (omega (arith, h)) }

-- what leaves blocks counts for all that are in them
pub leave : (n k : ℕ) → Counts (one (o.Leave n)) 0 k
leave n k = record { begin = λ s. refl; end = λ s. refl; left = λ s h. omega arith }

-- where there is a deferred block
abbrev pub only : Bool → ℕ → ℕ
only true k = k
only false k = 0

pub leave_if : (b : Bool) (n k : ℕ) → Counts (when b (one (o.Leave n))) 0 (only b k)
leave_if true n k = record { begin = λ s. refl; end = λ s. refl; left = λ s h. omega arith }
leave_if false n k = record { begin = λ s. refl; end = λ s. refl; left = λ s h. absurd (omega (arith, h)) }

-- ---- combinators

pub numbered : {n : ℕ} (pl : Place) (f : ℕ → Maker) → ((m : ℕ) → Has (f m) n) → Has (numbering pl f) n
numbered pl f x = record {
  begin = λ s. (x s.place).begin (record { at = s.at; place = suc s.place; text = s.text });
  end = λ s. (x s.place).end (record { at = s.at; place = suc s.place; text = s.text });
  left = λ s. (x s.place).left (record { at = s.at; place = suc s.place; text = s.text });
}

pub before : {f : Maker} {n : ℕ} (op : ℕ → Op) → ((m : ℕ) → IsOther (op m)) → Has f n → Has (ahead op f) n
before {f = f} op h x = record {
  begin = λ s. omega (arith, (h (past (next s) (f (next s))).at).0, x.begin (next s));
  end = λ s. omega (arith, (h (past (next s) (f (next s))).at).1, x.end (next s));
  left = λ s l. omega (arith, x.left (next s) l);
}

-- a deferred block, whose own is one more
pub deferred : {f : Maker} {n : ℕ} → Has f n → Counts (ahead o.Defer (f then one o.Drop then one o.DeferEnd)) (suc n) n
deferred {f = f} x = record {
  begin = λ s. omega (
    arith,
    tally_joined begins (f (next s)).items (sure o.Drop ∷ sure o.DeferEnd ∷ []),
    x.begin
        (next s),
  );
  end = λ s. omega (arith, tally_joined ends (f (next s)).items (sure o.Drop ∷ sure o.DeferEnd ∷ []), x.end (next s));
  left = λ s l.
      omega (arith, tally_joined leaves (f (next s)).items (sure o.Drop ∷ sure o.DeferEnd ∷ []), x.left (next s) l);
}

pub one_of : {f g : Maker} {n m : ℕ} (op : ℕ → Op) → ((m : ℕ) → IsOther (op m)) → Has f n → Has g m →
    Has (either op f g) (n + m)
one_of {f = f} {g = g} {n = n} {m = m} op h x y = record {
  begin = λ s.
      let e : Spot = next (past (next s) (f (next s))) in
      omega (
        arith,
        (h e.at).0,
        x.begin (next s),
        y.begin e,
        tally_joined begins (f (next s)).items (sure (o.Jump (past e (g e)).at) ∷ (g e).items),
      );
  end = λ s.
      let e : Spot = next (past (next s) (f (next s))) in
      omega (
        arith,
        (h e.at).1,
        x.end (next s),
        y.end e,
        tally_joined ends (f (next s)).items (sure (o.Jump (past e (g e)).at) ∷ (g e).items),
      );
  left = λ s l.
      let e : Spot = next (past (next s) (f (next s))) in
      omega (
        arith,
        tally_joined leaves (f (next s)).items (sure (o.Jump (past e (g e)).at) ∷ (g e).items),
        some_of n m (tally leaves (f (next s)).items) (tally leaves (g e).items) (x.left (next s)) (y.left e) l,
      );
}

-- ---- loops

module _ (f : Op → ℕ) (jump : (l : ℕ) → f (o.Jump l) ≡ 0) (drop : f o.Drop ≡ 0) (unit : f o.Unit ≡ 0) where
  closed_same : (out : ℕ) (is : List Item) → tally f (map (closed out) is) ≡ tally f is
  closed_same out [] = refl
  closed_same out (sure op ∷ is) = omega (arith, closed_same out is)
  closed_same out (leaving n ∷ is) = omega (arith, closed_same out is, jump (out - n))

  drops_none : (d : ℕ) → tally f (drops d (sure o.Unit ∷ [])) ≡ 0
  drops_none zero = omega (arith, unit)
  drops_none (suc d) = omega (arith, drop, drops_none d)

  closing_same : (p : Piece) (out : ℕ) →
      tally f (map (closed out) p.items ++ drops (deepest p.items) (sure o.Unit ∷ [])) ≡ tally f p.items
  closing_same p out = omega (
    arith,
    tally_joined f (map (closed out) p.items) (drops (deepest p.items) (sure o.Unit ∷ [])),
    closed_same out p.items,
    drops_none (deepest p.items),
  )

closes : {f : Maker} {n : ℕ} → Has f n → Has (closing f) n
closes {f = f} x = record {
  begin = λ s.
      closing_same begins (λ l. refl) refl refl (f s) (later (deepest (f s).items) (past s (f s)).at) ∙ x.begin s;
  end = λ s.
      closing_same ends (λ l. refl) refl refl (f s) (later (deepest (f s).items) (past s (f s)).at) ∙ x.end s;
  left = λ s h.
      omega (
        arith,
        x.left s h,
        closing_same leaves (λ l. refl) refl refl (f s) (later (deepest (f s).items) (past s (f s)).at),
      );
}

by_place : {f : ℕ → Maker} {n : ℕ} → ((a : ℕ) → Has (f a) n) → Has (from_here f) n
by_place x = record { begin = λ s. (x s.at).begin s; end = λ s. (x s.at).end s; left = λ s. (x s.at).left s }

pub loops : {f : Maker} {n : ℕ} → Has f n → Has (looping f) n
loops x = closes (by_place (λ a. then_other (before o.Jump (λ m. (refl, refl)) (then_other x (just o.Drop
    (refl, refl))))
    (just (o.Again (suc a)) (refl, refl))))

pub turns : {f : Maker} {n : ℕ} (op : Op) (l : ℕ) → IsOther op → Has f n → Has (turning op l f) n
turns op l h x = other_then (using_none (suc (suc (suc (suc l))))) (other_then (just o.Commit (refl, refl))
    (other_then (just op h) (by_place (λ a. then_other
    (before o.Jump (λ m. (refl, refl)) (before o.Try (λ m. (refl, refl)) x))
    (just (o.Take l (suc (suc l)) (suc a)) (refl, refl))))))

-- ---- groups

arms_same : (f : Op → ℕ) → ((l : ℕ) → f (o.Arm l) ≡ 0) → (ls : List ℕ) (is : List Item) → tally f
    (arms_at ls is) ≡ tally f is
arms_same f h [] is = refl
arms_same f h (l ∷ ls) is = omega (arith, h l, arms_same f h ls is)

pub groups : {n : ℕ} (kind m : ℕ) (pl : Place) (at : Spot → List ℕ) (arms : Maker) → Has arms n →
    Has (grouped kind m pl at arms) n
unfolding grouped
groups kind m pl at arms x = record {
  begin = λ s.
      let e : Spot = arms_spot m s in
      omega (
        arith,
        x.begin e,
        arms_same begins (λ l. refl) (at e) (sure (o.Jump (past e (arms e)).at) ∷
            (arms e).items),
      );
  end = λ s.
      let e : Spot = arms_spot m s in
      omega (arith, x.end e, arms_same ends (λ l. refl) (at e) (sure (o.Jump (past e (arms e)).at) ∷ (arms e).items));
  left = λ s h.
      let e : Spot = arms_spot m s in
      omega (
        arith,
        x.left e h,
        arms_same leaves (λ l. refl) (at e) (sure (o.Jump (past e (arms e)).at) ∷ (arms e).items),
      );
}
