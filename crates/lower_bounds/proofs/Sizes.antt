-- Pieces are small: how many operations, places, texts and locals they have.
use Rattle.std.proofs.Common.{◌≡◌, ℕ, zero, suc, ◌+◌, ◌≤◌, List, [], ◌∷◌, map, length, Bool, true, false, refl, arith}
use Rattle.std.proofs.Common.{length-append}
use Rattle.std.specs.Prelude.{Option, Some, None}
use Rattle.verse_base.specs.declared.places.Place.{Place}
use Rattle.verse_tree.specs.Tree.{Bytes, Tree, Holes, no_holes, more_holes}
use Rattle.verse_code.specs.declared.operations.Op.{Op}
use Rattle.verse_code.specs.declared.operations.Op.TheVariants as o
use Rattle.verse_meaning.specs.Programs.{Program, fields_of}
use Rattle.lower_code.specs.Pieces.{Spot, Item, sure, leaving, Maker, later, next, past, nothing, one, placed, numbering, texted}
use Rattle.lower_code.specs.Pieces.{put_away, stuck}
use Rattle.lower_code.specs.Pieces.{when, leave_loop, ahead, either, closing, from_here, looping, turning, using_locals}
use Rattle.lower_code.specs.Pieces.{arms_spot}
use Rattle.lower_code.specs.Pieces.{closed, deepest, drops, ◌then◌}
use Rattle.lower_code.specs.Defaults.{default_number}
use Rattle.lower_code.specs.Lowering.{grouped, default_op}
use Rattle.std.specs.Prelude.{nat_lt}
use Rattle.lower_code.proofs.Depths.{deepest_more, arms_shallow, drops_shallow, closed_shallow, closed_length, arms_length}
use Rattle.lower_bounds.proofs.Lists.{each_of}
use Rattle.lower_bounds.proofs.Kept.{Kept, PiecesAre}

-- Behind l locals and h operands that lie there before: no more than n operations,
-- and n + h together with the deepest operands that leave
-- a loop; no more than n places and n texts, and n locals more.
pub record Small (l h n : ℕ) (f : Maker) : Type 0 where
  pub few : (s : Spot) → length (f s).items ≤ n
  pub deep : (s : Spot) → length (f s).items + deepest (f s).items ≤ n + h
  pub places : (s : Spot) → length (f s).places ≤ n
  pub texts : (s : Spot) → length (f s).texts ≤ n
  pub locals : (s : Spot) → (f s).locals ≤ n + l

pub small_wider : {l h n i j m : ℕ} {f : Maker} → l ≤ i → h ≤ j → n ≤ m → Small l h n f → Small i j m f
small_wider p q r x = record {
  few = λ s. omega (arith, r, x.few s);
  deep = λ s. omega (arith, q, r, x.deep s);
  places = λ s. omega (arith, r, x.places s);
  texts = λ s. omega (arith, r, x.texts s);
  locals = λ s. omega (arith, p, r, x.locals s);
}

small_lower : {l h n x m : ℕ} {f : Maker} → n + x ≤ m + h → n ≤ m → Small l x n f → Small l h m f
small_lower q r x = record {
  few = λ s. omega (arith, r, x.few s);
  deep = λ s. omega (arith, q, x.deep s);
  places = λ s. omega (arith, r, x.places s);
  texts = λ s. omega (arith, r, x.texts s);
  locals = λ s. omega (arith, r, x.locals s);
}

pub small_over : {l h n i j m : ℕ} {f g : Maker} (d : ℕ) → Small l h n f → Small i j m g → j ≤ d + h → i ≤ d + n + l → Small l h
    (d + n + m) (f then g)
small_over {f = f} {g = g} d a b v w = record {
  few = λ s. let e = past s (f s) in omega (arith, length-append (f s).items (g e).items, a.few s, b.few e);
  deep = λ s. let e = past s (f s) in
      omega (arith, length-append (f s).items (g e).items, deepest_more (f s).items (g e).items, a.few s, b.few e, a.deep s, b.deep e, v);
  places = λ s. let e = past s (f s) in omega (arith, length-append (f s).places (g e).places, a.places s, b.places e);
  texts = λ s. let e = past s (f s) in omega (arith, length-append (f s).texts (g e).texts, a.texts s, b.texts e);
  locals = λ s. omega (arith, a.locals s, b.locals (past s (f s)), w);
}

pub small_none : {l h : ℕ} → Small l h 0 nothing
small_none = record {
  few = λ s. omega arith;
  deep = λ s. omega arith;
  places = λ s. omega arith;
  texts = λ s. omega arith;
  locals = λ s.
      omega arith;
}

pub small_one : {l h : ℕ} (op : Op) → Small l h 1 (one op)
small_one op = record {
  few = λ s. omega arith;
  deep = λ s. omega arith;
  places = λ s. omega arith;
  texts = λ s. omega arith;
  locals = λ
      s. omega arith;
}

small_stuck : {l h : ℕ} → Small l h 1 stuck
small_stuck = record {
  few = λ s. omega arith;
  deep = λ s. omega arith;
  places = λ s. omega arith;
  texts = λ s. omega arith;
  locals = λ
      s. omega arith;
}

small_when : {l h n : ℕ} {f : Maker} (b : Bool) → (b ≡ true → Small l h n f) → Small l h n (when b f)
small_when true x = let y = x refl in record { few = y.few; deep = y.deep; places = y.places; texts = y.texts; locals = y.locals }
small_when false x = record {
  few = λ s. omega arith;
  deep = λ s. omega arith;
  places = λ s. omega arith;
  texts = λ s. omega arith;
  locals = λ s. omega arith;
}

small_placed : {l h : ℕ} (pl : Place) (op : ℕ → Op) → Small l h 1 (placed pl op)
small_placed pl op = record {
  few = λ s. omega arith;
  deep = λ s. omega arith;
  places = λ s. omega arith;
  texts = λ s. omega arith;
  locals = λ s. omega arith;
}

small_numbering : {l h n : ℕ} (pl : Place) (f : ℕ → Maker) → ((m : ℕ) → Small l h n (f m)) → Small l h (suc n) (numbering pl f)
small_numbering pl f x = record {
  few = λ s. omega (arith, (x s.place).few (record { at = s.at; place = suc s.place; text = s.text }));
  deep = λ s. omega (arith, (x s.place).deep (record { at = s.at; place = suc s.place; text = s.text }));
  places = λ s. omega (arith, (x s.place).places (record { at = s.at; place = suc s.place; text = s.text }));
  texts = λ s. omega (arith, (x s.place).texts (record { at = s.at; place = suc s.place; text = s.text }));
  locals = λ s. omega (arith, (x s.place).locals (record { at = s.at; place = suc s.place; text = s.text }));
}

small_texted : {l h : ℕ} (bs : Bytes) → Small l h 1 (texted bs)
small_texted bs = record {
  few = λ s. omega arith;
  deep = λ s. omega arith;
  places = λ s. omega arith;
  texts = λ s. omega arith;
  locals =
      λ s. omega arith;
}

small_put_away : {l h : ℕ} → Small l h 1 (put_away l)
small_put_away = record {
  few = λ s. omega arith;
  deep = λ s. omega arith;
  places = λ s. omega arith;
  texts = λ s. omega arith;
  locals =
      λ s. omega arith;
}

small_leave : {l h : ℕ} → Small l h 1 (leave_loop h)
small_leave = record {
  few = λ s. omega arith;
  deep = λ s. omega arith;
  places = λ s. omega arith;
  texts = λ s. omega arith;
  locals = λ
      s. omega arith;
}

small_ahead : {l h n : ℕ} {f : Maker} (op : ℕ → Op) → Small l h n f → Small l h (suc n) (ahead op f)
small_ahead op x = record {
  few = λ s. omega (arith, x.few (next s));
  deep = λ s. omega (arith, x.deep (next s));
  places = λ s. omega (arith, x.places (next s));
  texts = λ s. omega (arith, x.texts (next s));
  locals = λ s. omega (arith, x.locals (next s));
}

small_either : {l h n m : ℕ} {f g : Maker} (op : ℕ → Op) → Small l h n f → Small l h m g → Small l h (2 + n + m) (either op f g)
small_either {f = f} {g = g} op a b = record {
  few = λ s. let e = next (past (next s) (f (next s))) in let j : List Item = sure (o.Jump (past e (g e)).at) ∷ (g e).items in
      omega (arith, length-append (f (next s)).items j, a.few (next s), b.few e);
  deep = λ s. let e = next (past (next s) (f (next s))) in let j : List Item = sure (o.Jump (past e (g e)).at) ∷ (g e).items in
      omega (
        arith,
        length-append (f (next s)).items j,
        deepest_more (f (next s)).items j,
        a.few (next s),
        b.few e,
        a.deep (next s),
        b.deep e,
      );
  places = λ s. let e = next (past (next s) (f (next s))) in omega (
    arith,
    length-append (f (next s)).places (g e).places,
    a.places
        (next s),
    b.places e,
  );
  texts = λ s. let e = next (past (next s) (f (next s))) in omega (
    arith,
    length-append (f (next s)).texts (g e).texts,
    a.texts (next s),
    b.texts e,
  );
  locals = λ s. omega (arith, a.locals (next s), b.locals (next (past (next s) (f (next s)))));
}

drops_length : (d : ℕ) → length (drops d (sure o.Unit ∷ [])) ≡ d + 1
drops_length zero = omega arith
drops_length (suc d) = omega (arith, drops_length d)

-- the Drops of a loop are no more than the operands that lie above those of the loop, each of a node
small_closing : {l h n : ℕ} {f : Maker} → Small l 0 n f → Small l h (suc n) (closing f)
small_closing {f = f} x = record {
  few = λ s. let p = f s in let out = later (deepest p.items) (past s p).at in let d : List Item = drops (deepest p.items)
      (sure o.Unit ∷ []) in
      omega (arith, length-append (map (closed out) p.items) d, closed_length out p.items, drops_length (deepest p.items), x.deep s);
  deep = λ s. let p = f s in let out = later (deepest p.items) (past s p).at in let d : List Item = drops (deepest p.items)
      (sure o.Unit ∷ []) in
      omega (
        arith,
        length-append (map (closed out) p.items) d,
        closed_length out p.items,
        drops_length (deepest p.items),
        x.deep s,
        deepest_more (map (closed out) p.items) d,
        closed_shallow out p.items,
        drops_shallow (deepest p.items),
      );
  places = λ s. omega (arith, x.places s);
  texts = λ s. omega (arith, x.texts s);
  locals = λ s. omega (arith, x.locals s);
}

small_from : {l h n : ℕ} {f : ℕ → Maker} → ((a : ℕ) → Small l h n (f a)) → Small l h n (from_here f)
small_from x = record {
  few = λ s. (x s.at).few s;
  deep = λ s. (x s.at).deep s;
  places = λ s. (x s.at).places s;
  texts = λ s. (x s.at).texts s;
  locals = λ s. (x s.at).locals s;
}

pub small_both : {l h n m : ℕ} {f g : Maker} → Small l h n f → Small l h m g → Small l h (n + m) (f then g)
small_both x y = small_wider (omega arith) (omega arith) (omega arith) (small_over 0 x y (omega arith) (omega arith))

small_looping : {l h n : ℕ} {f : Maker} → Small l 0 n f → Small l h (4 + n) (looping f)
small_looping {l} {h} x = small_wider {l = l} {h = h} (omega arith) (omega arith) (omega arith)
    (small_closing (small_from (λ a. small_both (small_ahead o.Jump (small_both x (small_one o.Drop))) (small_one (o.Again (suc a))))))

small_using : {l h : ℕ} → Small l h 4 (using_locals (suc (suc (suc (suc l)))))
small_using = record {
  few = λ s. omega arith;
  deep = λ s. omega arith;
  places = λ s. omega arith;
  texts = λ s. omega arith;
  locals = λ
      s. omega arith;
}

small_turning : {l h n i : ℕ} {f : Maker} (op : Op) → i ≤ 4 + l → Small i h n f → Small l h (9 + n) (turning op l f)
small_turning {l} {h} {n} {i} op le x = small_wider {l = l} {h = h} (omega arith) (omega arith) (omega arith)
    (small_over {i = i} {j = h} 0 small_using
    (small_both (small_one o.Commit) (small_both (small_one op) (small_from (λ a. small_both (small_ahead o.Jump (small_ahead o.Try x))
    (small_one (o.Take l (suc (suc l)) (suc a))))))) (omega arith) (omega (arith, le)))

small_grouped : {l h n : ℕ} (kind m : ℕ) (pl : Place) (begins : Spot → List ℕ) (arms : Maker) → ((s : Spot) → length (begins s) ≡ m) →
    Small l 0 n arms → Small l h (2 + m + n) (grouped kind m pl begins arms)
unfolding grouped
small_grouped kind m pl begins arms many x = record {
  few = λ s. let e = arms_spot m s in let js : List Item = sure (o.Jump (past e (arms e)).at) ∷ (arms e).items in
      omega (arith, arms_length (begins e) js, many e, x.few e);
  deep = λ s. let e = arms_spot m s in let js : List Item = sure (o.Jump (past e (arms e)).at) ∷ (arms e).items in
      omega (arith, arms_length (begins e) js, arms_shallow (begins e) js, many e, x.deep e);
  places = λ s. omega (arith, x.places (arms_spot m s));
  texts = λ s. omega (arith, x.texts (arms_spot m s));
  locals = λ s. omega (arith, x.locals (arms_spot m s));
}

pieces_are : (hs : Holes) → PiecesAre (λ bs. Unit {0}) hs
pieces_are no_holes = tt
pieces_are (more_holes a bs hs) = (tt, pieces_are hs)

small_default : (p : Program) (differ : ℕ → ℕ → Bool) (d : Option Tree) (f l h : ℕ) → Small l h 1 (default_op p differ d f)
small_default p differ None f l h = small_stuck
small_default p differ (Some b) f l h = small_one (o.Call (default_number p f))

pub sizes_kept : (p : Program) (differ : ℕ → ℕ → Bool) →
    Kept p differ (λ v. Unit {0}) (λ a. Unit {0}) (λ k l h n f. Small l h n f) (λ pl. Unit {0}) (λ bs. Unit {0}) (Unit {0})
sizes_kept p differ = record {
  wider = small_wider;
  over = small_over;
  lower = small_lower;
  none = small_none;
  op = λ op b. small_one op;
  op_with = λ m op b. small_one op;
  stuck = small_stuck;
  when = small_when;
  object = λ n c pl e s. small_placed pl (o.Object c);
  placed = λ pl op s b. small_placed pl op;
  numbering = λ pl f s x. small_numbering pl f x;
  texted = λ bs x. small_texted bs;
  put_away = small_put_away;
  leave_loop = small_leave;
  leaving = λ n a x. small_when (nat_lt n a.defers) (λ e. small_one (o.Leave n));
  leave = λ n x. small_one (o.Leave n);
  deferred = λ d x. small_wider (omega arith) (omega arith) (omega arith) (small_ahead o.Defer
      (small_both x (small_both (small_one o.Drop) (small_one o.DeferEnd))));
  ahead = λ op b x. small_ahead op x;
  either = λ op b x y. small_either op x y;
  looping = small_looping;
  turning = λ op b le x. small_turning op le x;
  grouped = λ kind m pl begins arms le s many between x. small_grouped kind m pl begins arms many x;
  call = λ f n e. small_one (o.Call f);
  spawn = λ f n e. small_one (o.Spawn f);
  defaults = λ c. each_of (λ f k l h. small_default p differ f.default f.number l h) (fields_of p c);
  site = λ v g. tt;
  char = λ n pl c g. small_one (o.Char c);
  char_pattern = λ n pl c g. small_one (o.Char c);
  text = λ n pl bs g. tt;
  text_pattern = λ n pl bs g. tt;
  first_piece = λ n pl bs hs g. tt;
  pieces = λ n pl bs hs g. pieces_are hs;
  sleep = λ n pl d g. small_one (o.Sleep d);
  defer = λ n pl b g. tt;
  fresh = tt;
  up = λ a x. tt;
  looped = λ a x. tt;
  enclosed = λ a x. tt;
  deferring = λ a d x. tt;
}
