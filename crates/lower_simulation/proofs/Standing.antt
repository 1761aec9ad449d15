-- A piece stands in the code: its operations, places and texts, at places where the frame may go on; and how each combinator splits.
use Rattle.std.proofs.Common.{◌≡◌, ℕ, zero, suc, ◌-◌, ◌≤◌, ◌<◌, List, [], ◌∷◌, ◌++◌, length, Some, Bool, true, false, cond, nat_lt, refl}
use Rattle.std.proofs.Common.{sym, ap, ◌∙◌, subst, arith}
use Rattle.std.specs.Prelude.{max, slice_get, map}
use Rattle.std.proofs.lemmas.Bool.{lt-ltb, ltb-false}
use Rattle.std.proofs.Math.Nat.{le_trans, max-le, le-max_left, le-max_right}
use Rattle.verse_base.specs.declared.places.Place.{Place}
use Rattle.verse_tree.specs.Tree.{Bytes}
use Rattle.verse_code.specs.declared.operations.Op.{Op}
use Rattle.verse_code.specs.declared.operations.Op.TheVariants as o
use Rattle.verse_code_machine.specs.Acts.{labels, after_arms, on_label, label_of}
use Rattle.lower_code.specs.Pieces.{Spot, Item, sure, leaving, Piece, Maker, behind, next, past, joined, one, placed, numbering, texted}
use Rattle.lower_code.specs.Pieces.{put_away, kept, stuck}
use Rattle.lower_code.specs.Pieces.{when, when_else, leave_loop, ◌then◌, ahead, either, closed, deepest, drops, closing, looping}
use Rattle.lower_code.specs.Pieces.{using_locals, turning, later}
use Rattle.lower_code.specs.Pieces.{arms_at, arms_spot}
use Rattle.lower_code.specs.Lowering.{grouped}
use Rattle.lower_code.specs.declared.arounds.Around.{Around as Where}
use Rattle.lower_code.specs.Arounds.{leaving_to}
use Rattle.lower_code.proofs.Standing.{Entries, entries_first, entries_rest, behind_more, behind_least, behind_closed, later_is}
use Rattle.lower_simulation.proofs.Claims.{Setting, Goes_on, Here, Way}

-- out is where the innermost loop goes on
abbrev pub op_of : Way → Item → Op
op_of out (sure x) = x
op_of out (leaving n) = o.Jump (out.label - n)

abbrev pub HasItems : Way → List Op → ℕ → List Item → Type 0
HasItems out xs a [] = Unit {0}
HasItems out xs a (i ∷ is) = (slice_get xs a ≡ Some (op_of out i)) × HasItems out xs (suc a) is

pub items_both : (out : Way) (all : List Op) (xs ys : List Item) (a : ℕ) → HasItems out all a (xs ++ ys) →
    HasItems out all a xs × HasItems out all (behind xs a) ys
items_both out all [] ys a h = (tt, h)
items_both out all (x ∷ xs) ys a h = let r = items_both out all xs ys (suc a) h.1 in ((h.0, r.0), r.1)

-- the places of a stretch fit
abbrev pub Range : (ok : ℕ → Bool) → (a b : ℕ) → Type 0
Range ok a b = (q : ℕ) → a ≤ q → q ≤ b → ok q ≡ true

-- within a failure context
abbrev pub narrow : (ok : ℕ → Bool) (a l : ℕ) → ℕ → Bool
narrow ok a l q = cond (nat_lt a q) (cond (nat_lt q l) (ok q) false) false

both_true : (x y b : Bool) → x ≡ true → y ≡ true → b ≡ true → cond x (cond y b false) false ≡ true
both_true false y b e f g = cc
both_true true false b e f g = cc
both_true true true b e f g = g

pub narrowed : {ok : ℕ → Bool} {a b : ℕ} (c d m l : ℕ) → Range ok a b → a ≤ c → d ≤ b → m < c → d < l → Range (narrow ok m l) c d
narrowed {ok} c d m l w x y u v = λ q i j. both_true (nat_lt m q) (nat_lt q l) (ok q) (lt-ltb m q (omega (arith, i, u)))
    (lt-ltb q l (omega (arith, j, v))) (w q (omega (arith, i, x)) (omega (arith, j, y)))

-- e is the spot behind it
pub record Stands (z : Setting) (ok : ℕ → Bool) (size : ℕ) (out : Way) (s : Spot) (p : Piece) (e : Spot) : Type 0 where
  pub ops : HasItems out z.code.ops s.at p.items
  pub places : Entries z.code.places p.places s.place
  pub texts : Entries z.code.texts p.texts s.text
  pub fit : Range ok s.at e.at
  pub room : p.locals ≤ size
  pub deep : deepest p.items ≤ out.most
  pub ends : past s p ≡ e

pub past_joined : (s : Spot) (p q : Piece) → past s (joined p q) ≡ past (past s p) q
past_joined s p q =
    ap (λ x. record { at = x; place = behind (p.places ++ q.places) s.place; text = behind (p.texts ++ q.texts) s.text })
    (behind_more p.items q.items s.at) ∙
    ap (λ x. record { at = behind q.items (behind p.items s.at); place = x; text = behind (p.texts ++ q.texts) s.text })
    (behind_more p.places q.places s.place) ∙
    ap (λ x. record { at = behind q.items (behind p.items s.at); place = behind q.places (behind p.places s.place); text = x })
    (behind_more p.texts q.texts s.text)

-- what stands at the end of a stretch is within it
pub past_le : (s e : Spot) (p : Piece) → past s p ≡ e → s.at ≤ e.at
past_le s e p h = subst (λ (x : Spot). s.at ≤ x.at) h (behind_least p.items s.at)

pub both_room : (n m k : ℕ) → max n m ≤ k → (n ≤ k) × (m ≤ k)
both_room n m k le = (le_trans (le-max_left n m) le, le_trans (le-max_right n m) le)

pub deep_both : (xs ys : List Item) (k : ℕ) → deepest (xs ++ ys) ≤ k → (deepest xs ≤ k) × (deepest ys ≤ k)
deep_both [] ys k h = (omega arith, h)
deep_both (sure x ∷ xs) ys k h = deep_both xs ys k h
deep_both (leaving n ∷ xs) ys k h = let r = both_room n (deepest (xs ++ ys)) k h in let q = deep_both xs ys k r.1 in (max-le r.0 q.0, q.1)

module _ (z : Setting) where
  pub joined_stands : {ok : ℕ → Bool} {size : ℕ} {out : Way} (s e : Spot) (p q : Piece) → Stands z ok size out s (joined p q) e →
      Stands z ok size out s p (past s p) × Stands z ok size out (past s p) q e
  joined_stands {ok} {size} {out} s e p q h =
      let a = items_both out z.code.ops p.items q.items s.at h.ops in
      let x = past_le (past s p) e q (sym (past_joined s p q) ∙ h.ends) in
      let r = both_room p.locals q.locals size h.room in let y = behind_least p.items s.at in
      let dp = deep_both p.items q.items out.most h.deep in (
        record {
          ops = a.0;
          places = entries_first z.code.places p.places q.places s.place h.places;
          texts = entries_first z.code.texts p.texts q.texts s.text h.texts;
          fit = λ u i j. h.fit u i (omega (arith, j, x));
          room = r.0;
          deep = dp.0;
          ends = refl;
        },
        record {
          ops = a.1;
          places = entries_rest z.code.places p.places q.places s.place h.places;
          texts = entries_rest z.code.texts p.texts q.texts s.text h.texts;
          fit = λ u i j. h.fit u (omega (arith, i, y)) j;
          room = r.1;
          deep = dp.1;
          ends = sym (past_joined s p q) ∙ h.ends;
        },
      )

  -- one operation, that goes on behind it
  pub op_stands : {ok : ℕ → Bool} {size : ℕ} {out : Way} {s e : Spot} {x : Op} {n : ℕ} {pls : List Place} {ts : List Bytes} →
      Stands z ok size out s (record { items = sure x ∷ []; places = pls; texts = ts; locals = n }) e → Goes_on z ok s.at (suc s.at) x
  op_stands {ok} {size} {out} {s} {e} {x} {n} {pls} {ts} h = record {
    is = h.ops.0;
    fit = h.fit (suc s.at) (omega arith)
        (subst (λ (y : Spot). suc s.at ≤ y.at) h.ends (omega arith));
  }

  -- what stands within a failure context, stands
  pub widened : {ok : ℕ → Bool} {size : ℕ} {out : Way} {s e : Spot} {p : Piece} (m l : ℕ) → Stands z (narrow ok m l) size out s p e →
      Stands z ok size out s p e
  widened {ok} m l h = record {
    ops = h.ops;
    places = h.places;
    texts = h.texts;
    fit = λ q i j. third (nat_lt m q) (nat_lt q l) (ok q)
        (h.fit q i j);
    room = h.room;
    deep = h.deep;
    ends = h.ends;
  }
    where
      third : (x y b : Bool) → cond x (cond y b false) false ≡ true → b ≡ true
      third false y b e = cc
      third true false b e = cc
      third true true b e = e

  -- Op L; the first; Jump M; L: the second; M is behind it
  pub record Either (ok : ℕ → Bool) (size : ℕ) (out : Way) (s : Spot) (x : ℕ → Op) (p : Piece) (q : Piece) (e : Spot) : Type 0 where
    pub begins : slice_get z.code.ops s.at ≡ Some (x (suc (past (next s) p).at))
    pub first : Stands z (narrow ok s.at (suc (past (next s) p).at)) size out (next s) p (past (next s) p)
    pub jump : slice_get z.code.ops (past (next s) p).at ≡ Some (o.Jump e.at)
    pub rest : Stands z ok size out (next (past (next s) p)) q e
    pub wide : Range ok s.at e.at
    pub order : (suc (past (next s) p).at ≤ e.at) × (suc s.at ≤ (past (next s) p).at)

  pub either_stand : {ok : ℕ → Bool} {size : ℕ} {out : Way} (s e : Spot) (x : ℕ → Op) (f g : Maker) →
      Stands z ok size out s (either x f g s) e →
      Either ok size out s x (f (next s)) (g (next (past (next s) (f (next s))))) e
  either_stand {ok} {size} {out} s e x f g h =
      let p = f (next s) in
      let l = next (past (next s) p) in
      let q = g l in
      let js = sure (o.Jump (past l q).at) ∷ q.items in
      let a = items_both out z.code.ops p.items js (suc s.at) h.ops.1 in
      let r = both_room p.locals q.locals size h.room in
      let i1 : past l q ≡ past s (either x f g s) =
      ap (λ u. record { at = u; place = behind q.places (behind p.places s.place); text = behind q.texts (behind p.texts s.text) })
      (sym (behind_more p.items js (suc s.at))) ∙
      ap (λ u. record { at = behind (p.items ++ js) (suc s.at); place = u; text = behind q.texts (behind p.texts s.text) })
      (sym (behind_more p.places q.places s.place)) ∙
      ap (λ u. record { at = behind (p.items ++ js) (suc s.at); place = behind (p.places ++ q.places) s.place; text = u })
      (sym (behind_more p.texts q.texts s.text)) in
      let i : past l q ≡ e = i1 ∙ h.ends in
      let y = behind_least p.items (suc s.at) in
      let v = past_le l e q i in
      let dp = deep_both p.items js out.most h.deep in
      record {
        begins = h.ops.0;
        first = record {
          ops = a.0;
          places = entries_first z.code.places p.places q.places s.place h.places;
          texts = entries_first z.code.texts p.texts q.texts s.text h.texts;
          fit = narrowed (suc s.at) (past (next s) p).at s.at
              (suc (past (next s) p).at) h.fit (omega arith) (omega (arith, v)) (omega arith) (omega arith);
          room = r.0;
          deep = dp.0;
          ends = refl;
        };
        jump = a.1.0 ∙ ap (λ (u : Spot). Some (o.Jump u.at)) i;
        rest = record {
          ops = a.1.1;
          places = entries_rest z.code.places p.places q.places s.place h.places;
          texts = entries_rest z.code.texts p.texts q.texts s.text h.texts;
          fit = λ u k j. h.fit u (omega (arith, k, y)) j;
          room = r.1;
          deep = dp.1;
          ends = i;
        };
        wide = h.fit;
        order = (v, y);
      }

  -- Op L; the piece; L is behind it
  pub record Ahead (ok : ℕ → Bool) (size : ℕ) (out : Way) (s : Spot) (x : ℕ → Op) (p : Piece) (e : Spot) : Type 0 where
    pub begins : slice_get z.code.ops s.at ≡ Some (x e.at)
    pub inside : Stands z ok size out (next s) p e
    pub wide : Range ok s.at e.at

  pub ahead_stand : {ok : ℕ → Bool} {size : ℕ} {out : Way} (s e : Spot) (x : ℕ → Op) (f : Maker) →
      Stands z ok size out s (ahead x f s) e → Ahead ok size out s x (f (next s)) e
  ahead_stand s e x f h = record {
    begins = h.ops.0 ∙ ap (λ (u : Spot). Some (x u.at)) h.ends;
    inside = record {
      ops = h.ops.1;
      places = h.places;
      texts = h.texts;
      fit = λ u i j. h.fit u (omega (arith, i)) j;
      room = h.room;
      deep = h.deep;
      ends = h.ends;
    };
    wide = h.fit;
  }

  pub narrow_stands : {ok : ℕ → Bool} {size : ℕ} {out : Way} {s e : Spot} {p : Piece} (m l : ℕ) → m < s.at → e.at < l →
      Stands z ok size out s p e → Stands z (narrow ok m l) size out s p e
  narrow_stands {s = s} {e} m l lo hi h = record {
    ops = h.ops;
    places = h.places;
    texts = h.texts;
    fit = narrowed s.at e.at m l h.fit
        (omega arith) (omega arith) lo hi;
    room = h.room;
    deep = h.deep;
    ends = h.ends;
  }

  -- where a stretch ends
  pub end_at : {ok : ℕ → Bool} {size : ℕ} {out : Way} {s e : Spot} {x : Op} {n : ℕ} {pls : List Place} {ts : List Bytes} →
      Stands z ok size out s (record { items = sure x ∷ []; places = pls; texts = ts; locals = n }) e → suc s.at ≡ e.at
  end_at h = ap (λ (x : Spot). x.at) h.ends

  pub then_stand : {ok : ℕ → Bool} {size : ℕ} {out : Way} (s e : Spot) (f g : Maker) → Stands z ok size out s ((f then g) s) e →
      Stands z ok size out s (f s) (past s (f s)) × Stands z ok size out (past s (f s)) (g (past s (f s))) e
  then_stand s e f g h = joined_stands s e (f s) (g (past s (f s))) h

  -- ---- one operation, with what it adds to the tables

  -- an operation with a new place
  pub record Placed (ok : ℕ → Bool) (s : Spot) (pl : Place) (x : Op) (e : Spot) : Type 0 where
    pub op : Goes_on z ok s.at (suc s.at) x
    pub place : slice_get z.code.places s.place ≡ Some pl
    pub last : suc s.at ≡ e.at

  pub placed_stand : {ok : ℕ → Bool} {size : ℕ} {out : Way} {s e : Spot} (pl : Place) (x : ℕ → Op) →
      Stands z ok size out s (placed pl x s) e → Placed ok s pl (x s.place) e
  placed_stand pl x h = record { op = op_stands h; place = h.places.0; last = end_at h }

  -- the spot behind a new place
  abbrev pub behind_place : Spot → Spot
  behind_place s = record { at = s.at; place = suc s.place; text = s.text }

  pub numbering_stand : {ok : ℕ → Bool} {size : ℕ} {out : Way} (s e : Spot) (pl : Place) (f : ℕ → Maker) →
      Stands z ok size out s (numbering pl f s) e →
      (slice_get z.code.places s.place ≡ Some pl) × Stands z ok size out (behind_place s) (f s.place (behind_place s)) e
  numbering_stand s e pl f h =
      let r = joined_stands s e (record { items = []; places = pl ∷ []; texts = []; locals = 0 }) (f s.place (behind_place s)) h in
      (r.0.places.0, r.1)

  pub texted_stand : {ok : ℕ → Bool} {size : ℕ} {out : Way} {s e : Spot} (bs : Bytes) → Stands z ok size out s (texted bs s) e →
      Goes_on z ok s.at (suc s.at) (o.Text s.text) × (slice_get z.code.texts s.text ≡ Some bs)
  texted_stand bs h = (op_stands h, h.texts.0)

  pub put_stand : {ok : ℕ → Bool} {size : ℕ} {out : Way} {s e : Spot} (l : ℕ) → Stands z ok size out s (put_away l s) e →
      Goes_on z ok s.at (suc s.at) (o.Put l) × (l < size)
  put_stand l h = (op_stands h, h.room)

  -- Put; Get
  pub record Kept (ok : ℕ → Bool) (size : ℕ) (s : Spot) (l : ℕ) (e : Spot) : Type 0 where
    pub put : Goes_on z ok s.at (suc s.at) (o.Put l)
    pub get : Goes_on z ok (suc s.at) (suc (suc s.at)) (o.Get l)
    pub room : l < size
    pub ends : next (next s) ≡ e

  pub kept_stand : {ok : ℕ → Bool} {size : ℕ} {out : Way} (s e : Spot) (l : ℕ) → Stands z ok size out s (kept l s) e → Kept ok size s l e
  kept_stand s e l h =
      let r = then_stand s e (put_away l) (one (o.Get l)) h in
      record { put = op_stands r.0; get = op_stands r.1; room = r.0.room; ends = r.1.ends }

  -- the stuck operation
  pub stuck_stand : {ok : ℕ → Bool} {size : ℕ} {out : Way} {s e : Spot} → Stands z ok size out s (stuck s) e →
      (l : ℕ) × Here z.code s.at (o.Arm l)
  stuck_stand {s = s} h = (suc s.at, record { is = h.ops.0 })

  -- the jump out of the innermost loop
  pub leave_stand : {ok : ℕ → Bool} {size : ℕ} {out : Way} {s e : Spot} (n : ℕ) → Stands z ok size out s (leave_loop n s) e →
      (n ≤ out.most) × Here z.code s.at (o.Jump (out.label - n))
  leave_stand {out = out} n h = ((both_room n 0 out.most h.deep).0, record { is = h.ops.0 })

  -- ---- a piece or none, a piece or the stuck operation

  pub when_yes : {ok : ℕ → Bool} {size : ℕ} {out : Way} (t : Bool) (s e : Spot) (f : Maker) → t ≡ true →
      Stands z ok size out s (when t f s) e → Stands z ok size out s (f s) e
  when_yes true s e f h i = i
  when_yes false s e f h i = cc

  pub when_none : {ok : ℕ → Bool} {size : ℕ} {out : Way} (t : Bool) (s e : Spot) (f : Maker) → t ≡ false →
      Stands z ok size out s (when t f s) e → s ≡ e
  when_none true s e f h i = cc
  when_none false s e f h i = i.ends

  pub else_true : {ok : ℕ → Bool} {size : ℕ} {out : Way} (t : Bool) (s e : Spot) (f : Maker) → t ≡ true →
      Stands z ok size out s (when_else t f s) e → Stands z ok size out s (f s) e
  else_true true s e f h i = i
  else_true false s e f h i = cc

  pub else_false : {ok : ℕ → Bool} {size : ℕ} {out : Way} (t : Bool) (s e : Spot) (f : Maker) → t ≡ false →
      Stands z ok size out s (when_else t f s) e → (l : ℕ) × Here z.code s.at (o.Arm l)
  else_false true s e f h i = cc
  else_false false s e f h i = stuck_stand i

  -- a Leave where there is something to leave, and more behind it
  pub data Left (ok : ℕ → Bool) (size : ℕ) (out : Way) (s : Spot) (n : ℕ) (a : Where) (f : Maker) (e : Spot) : Type 0 where
    by_leave : ok s.at ≡ true → ok (suc s.at) ≡ true → Here z.code s.at (o.Leave n) → Stands z ok size out (next s) (f (next s)) e →
        Left ok size out s n a f e
    by_none : a.defers ≤ n → Stands z ok size out s (f s) e → Left ok size out s n a f e

  pub leaving_stand : {ok : ℕ → Bool} {size : ℕ} {out : Way} (s e : Spot) (n : ℕ) (a : Where) (f : Maker) →
      Stands z ok size out s ((leaving_to n a then f) s) e → Left ok size out s n a f e
  leaving_stand {ok} {size} {out} s e n a f h = by_blocks (nat_lt n a.defers) refl h
    where
      by_blocks : (t : Bool) → nat_lt n a.defers ≡ t → Stands z ok size out s ((when t (one (o.Leave n)) then f) s) e →
          Left ok size out s n a f e
      by_blocks true q h =
          let r = then_stand s e (one (o.Leave n)) f h in
          by_leave (r.0.fit s.at (omega arith) (omega arith)) (op_stands r.0).fit (record { is = (op_stands r.0).is }) r.1
      by_blocks false q h = by_none (ltb-false n a.defers q)
          (then_stand s e (λ s. record { items = []; places = []; texts = []; locals = 0 }) f h).1

  -- ---- loops

  pub items_closed : (out way : Way) (all : List Op) (is : List Item) (a : ℕ) → HasItems out all a (map (closed way.label) is) →
      HasItems way all a is
  items_closed out way all [] a h = tt
  items_closed out way all (sure x ∷ is) a h = (h.0, items_closed out way all is (suc a) h.1)
  items_closed out way all (leaving n ∷ is) a h = (h.0, items_closed out way all is (suc a) h.1)

  behind_drops : (n a : ℕ) → behind (drops n (sure o.Unit ∷ [])) a ≡ suc (later n a)
  behind_drops zero a = refl
  behind_drops (suc n) a = behind_drops n (suc a)

  -- where what leaves the piece goes on: behind as many Drops as its deepest operands
  abbrev pub way_out : Spot → Piece → Way
  way_out s p = record { label = later (deepest p.items) (past s p).at; most = deepest p.items }

  -- what leaves the piece goes on behind it: Drops; Unit
  pub record Closing_at (ok : ℕ → Bool) (size : ℕ) (out : Way) (s : Spot) (p : Piece) (e : Spot) : Type 0 where
    pub inside : Stands z ok size (way_out s p) s p (past s p)
    pub ladder : HasItems out z.code.ops (past s p).at (drops (deepest p.items) (sure o.Unit ∷ []))
    pub wide : Range ok s.at e.at
    pub last : suc (way_out s p).label ≡ e.at

  pub closing_stand : {ok : ℕ → Bool} {size : ℕ} {out : Way} (s e : Spot) (f : Maker) → Stands z ok size out s (closing f s) e →
      Closing_at ok size out s (f s) e
  closing_stand {ok} {size} {out} s e f h =
      let p : Piece = f s in
      let there : ℕ = later (deepest p.items) (past s p).at in
      let js : List Item = drops (deepest p.items) (sure o.Unit ∷ []) in
      let a = items_both out z.code.ops (map (closed there) p.items) js s.at h.ops in
      let l = sym (behind_drops (deepest p.items) (past s p).at) ∙ ap (λ x. behind js x) (sym (behind_closed there p.items s.at)) ∙
      sym (behind_more (map (closed there) p.items) js s.at) ∙ ap (λ (x : Spot). x.at) h.ends in
      let u = later_is (deepest p.items) (past s p).at in
      record {
        inside = record {
          ops = items_closed out (way_out s p) z.code.ops p.items s.at a.0;
          places = h.places;
          texts = h.texts;
          fit = λ q i j. h.fit q i (omega (arith, j, l, u));
          room = h.room;
          deep = omega arith;
          ends = refl;
        };
        ladder = subst (λ x. HasItems out z.code.ops x js) (behind_closed there p.items s.at) a.1;
        wide = h.fit;
        last = l;
      }

  -- Jump A; B: the body; Drop; A: Again B; Drops; Unit
  pub record Loop_at (ok : ℕ → Bool) (size : ℕ) (out : Way) (s : Spot) (p : Piece) (e : Spot) : Type 0 where
    -- where what leaves the body goes on
    pub way : Way
    pub jump : slice_get z.code.ops s.at ≡ Some (o.Jump (suc (past (next s) p).at))
    pub body : Stands z ok size way (next s) p (past (next s) p)
    pub drop : slice_get z.code.ops (past (next s) p).at ≡ Some o.Drop
    pub again : slice_get z.code.ops (suc (past (next s) p).at) ≡ Some (o.Again (suc s.at))
    pub ladder : HasItems out z.code.ops (suc (suc (past (next s) p).at)) (drops way.most (sure o.Unit ∷ []))
    pub label : way.label ≡ later way.most (suc (suc (past (next s) p).at))
    pub last : suc way.label ≡ e.at
    pub wide : Range ok s.at e.at
    pub order : suc s.at ≤ (past (next s) p).at

  pub loop_stand : {ok : ℕ → Bool} {size : ℕ} {out : Way} (s e : Spot) (f : Maker) → Stands z ok size out s (looping f s) e →
      Loop_at ok size out s (f (next s)) e
  loop_stand {ok} {size} {out} s e f h =
      let jumping : Maker = ahead o.Jump (f then one o.Drop) in
      let turn : Maker = jumping then one (o.Again (suc s.at)) in
      let q : Piece = turn s in
      let c = closing_stand s e turn h in
      let r = then_stand s (past s q) jumping (one (o.Again (suc s.at))) c.inside in
      let i = ahead_stand s (past s (jumping s)) o.Jump (f then one o.Drop) r.0 in
      let d = then_stand (next s) (past s (jumping s)) f (one o.Drop) i.inside in
      let e1 : suc (past (next s) (f (next s))).at ≡ (past s (jumping s)).at = end_at d.1 in
      let e2 : suc (past s (jumping s)).at ≡ (past s q).at = end_at r.1 in
      let e3 : (past s q).at ≡ suc (suc (past (next s) (f (next s))).at) = sym (ap suc e1 ∙ e2) in
      record {
        way = way_out s q;
        jump = i.begins ∙ ap (λ x. Some (o.Jump x)) (sym e1);
        body = d.0;
        drop = (op_stands d.1).is;
        again = subst (λ x. slice_get z.code.ops x ≡ Some (o.Again (suc s.at))) (sym e1) (op_stands r.1).is;
        ladder = subst (λ x. HasItems out z.code.ops x (drops (deepest q.items) (sure o.Unit ∷ []))) e3 c.ladder;
        label = ap (λ x. later (deepest q.items) x) e3;
        last = c.last;
        wide = c.wide;
        order = behind_least (f (next s)).items (suc s.at);
      }

  -- locals are used
  pub using_stand : {ok : ℕ → Bool} {size : ℕ} {out : Way} (s e : Spot) (n : ℕ) (f : Maker) →
      Stands z ok size out s ((using_locals n then f) s) e → (n ≤ size) × Stands z ok size out s (f s) e
  using_stand s e n f h = let r = then_stand s e (using_locals n) f h in (r.0.room, r.1)

  -- where what is taken goes on, in turns that begin at a spot
  abbrev pub turn_spot : Spot → Spot
  turn_spot s = next (next (next (next s)))

  -- Commit; Each or Range; Jump T; B: Try T; what is in it; T: Take B
  pub record Turning_at (ok : ℕ → Bool) (size : ℕ) (out : Way) (s : Spot) (l : ℕ) (x : Op) (p : Piece) (e : Spot) : Type 0 where
    pub commit : slice_get z.code.ops s.at ≡ Some o.Commit
    pub begins : slice_get z.code.ops (suc s.at) ≡ Some x
    pub jump : slice_get z.code.ops (suc (suc s.at)) ≡ Some (o.Jump (past (turn_spot s) p).at)
    pub tries : slice_get z.code.ops (suc (suc (suc s.at))) ≡ Some (o.Try (past (turn_spot s) p).at)
    pub inner : Stands z ok size out (turn_spot s) p (past (turn_spot s) p)
    pub take : slice_get z.code.ops (past (turn_spot s) p).at ≡ Some (o.Take l (suc (suc l)) (suc (suc (suc s.at))))
    pub last : suc (past (turn_spot s) p).at ≡ e.at
    pub order : suc (suc (suc (suc s.at))) ≤ (past (turn_spot s) p).at
    pub wide : Range ok s.at e.at
    pub room : suc (suc (suc (suc l))) ≤ size

  pub turning_stand : {ok : ℕ → Bool} {size : ℕ} {out : Way} (s e : Spot) (x : Op) (l : ℕ) (f : Maker) →
      Stands z ok size out s (turning x l f s) e → Turning_at ok size out s l x (f (turn_spot s)) e
  turning_stand {ok} {size} {out} s e x l f h =
      let s2 = next (next s) in
      let tries : Maker = ahead o.Try f in
      let jumps : Maker = ahead o.Jump tries in
      let takes : Maker = jumps then one (o.Take l (suc (suc l)) (suc s2.at)) in
      let u = using_stand s e (suc (suc (suc (suc l)))) (one o.Commit then one x then takes) h in
      let r1 = then_stand s e (one o.Commit) (one x then takes) u.1 in
      let r2 = then_stand (next s) e (one x) takes r1.1 in
      let r3 = then_stand s2 e jumps (one (o.Take l (suc (suc l)) (suc s2.at))) r2.1 in
      let i = ahead_stand s2 (past s2 (jumps s2)) o.Jump tries r3.0 in
      let k = ahead_stand (next s2) (past s2 (jumps s2)) o.Try f i.inside in
      record {
        commit = (op_stands r1.0).is;
        begins = (op_stands r2.0).is;
        jump = i.begins;
        tries = k.begins;
        inner = k.inside;
        take = (op_stands r3.1).is;
        last = end_at r3.1;
        order = behind_least (f (turn_spot s)).items (turn_spot s).at;
        wide = h.fit;
        room = u.0;
      }

  -- ---- groups: Group, its Arms, a Jump to behind them, the arms

  labels_there : (out : Way) (all : List Op) (ls : List ℕ) (is : List Item) (a m : ℕ) → length ls ≡ m →
      HasItems out all a (arms_at ls is) → (labels all a m ≡ Some ls) × HasItems out all (after_arms a m) is
  labels_there out all [] is a zero e h = (refl, h)
  labels_there out all [] is a (suc m) e h = absurd (omega (arith, e))
  labels_there out all (l ∷ ls) is a zero e h = absurd (omega (arith, e))
  labels_there out all (l ∷ ls) is a (suc m) e h =
      let r = labels_there out all ls is (suc a) m (omega (arith, e)) h.1 in
      (ap (λ x. on_label (label_of x) (labels all (suc a) m)) h.0 ∙ ap (λ y. on_label (label_of (Some (o.Arm l))) y) r.0, r.1)

  after_later : (m a : ℕ) → suc (after_arms a m) ≡ later m (suc a)
  after_later zero a = refl
  after_later (suc m) a = after_later m (suc a)

  behind_arms : (ls : List ℕ) (is : List Item) (a m : ℕ) → length ls ≡ m → behind (arms_at ls is) a ≡ behind is (after_arms a m)
  behind_arms [] is a zero e = refl
  behind_arms [] is a (suc m) e = absurd (omega (arith, e))
  behind_arms (l ∷ ls) is a zero e = absurd (omega (arith, e))
  behind_arms (l ∷ ls) is a (suc m) e = behind_arms ls is (suc a) m (omega (arith, e))

  deeper_arms : (most : ℕ) (ls : List ℕ) (is : List Item) → deepest (arms_at ls is) ≤ most → deepest is ≤ most
  deeper_arms most [] is d = d
  deeper_arms most (l ∷ ls) is d = deeper_arms most ls is d

  -- ls are where the arms begin, p the arms
  pub record Group_at (ok : ℕ → Bool) (size : ℕ) (out : Way) (kind m : ℕ) (pl : Place) (s : Spot) (ls : List ℕ) (p : Piece)
      (e : Spot) : Type 0 where
    pub begins : slice_get z.code.ops s.at ≡ Some (o.Group kind m s.place)
    pub place : slice_get z.code.places s.place ≡ Some pl
    pub labelled : labels z.code.ops (suc s.at) m ≡ Some ls
    pub jump : slice_get z.code.ops (after_arms (suc s.at) m) ≡ Some (o.Jump e.at)
    pub arms : Stands z ok size out (arms_spot m s) p (past (arms_spot m s) p)
    pub wide : Range ok s.at e.at
    pub order : suc s.at ≤ e.at

  pub group_stand : {ok : ℕ → Bool} {size : ℕ} {out : Way} (s e : Spot) (kind m : ℕ) (pl : Place) (starts : Spot → List ℕ)
      (arms : Maker) → length (starts (arms_spot m s)) ≡ m → Stands z ok size out s (grouped kind m pl starts arms s) e →
      Group_at ok size out kind m pl s (starts (arms_spot m s)) (arms (arms_spot m s)) e
  unfolding grouped
  group_stand {ok} {size} {out} s e kind m pl starts arms many h =
      let b = arms_spot m s in
      let p : Piece = arms b in
      let ls : List ℕ = starts b in
      let is : List Item = sure (o.Jump (past b p).at) ∷ p.items in
      let r = labels_there out z.code.ops ls is (suc s.at) m many h.ops.1 in
      let same : behind p.items b.at ≡ e.at = ap (λ x. behind p.items x) (sym (after_later m (suc s.at))) ∙
      sym (behind_arms ls is (suc s.at) m many) ∙ ap (λ (x : Spot). x.at) h.ends in
      let le = behind_least (arms_at ls is) (suc s.at) in
      let q = ap (λ (x : Spot). x.at) h.ends in
      let y = later_is m (suc (suc s.at)) in
      record {
        begins = h.ops.0;
        place = h.places.0;
        labelled = r.0;
        jump = r.1.0 ∙ ap (λ x. Some (o.Jump x)) same;
        arms = record {
          ops = subst (λ x. HasItems out z.code.ops x p.items) (after_later m (suc s.at)) r.1.1;
          places = h.places.1;
          texts = h.texts;
          fit = λ u i j. h.fit u (omega (arith, i, y)) (omega (arith, j, same));
          room = h.room;
          deep = deeper_arms out.most ls is h.deep;
          ends = refl;
        };
        wide = h.fit;
        order = omega (arith, le, q);
      }
