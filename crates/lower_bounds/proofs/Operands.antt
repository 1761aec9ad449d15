-- The operands of a piece suit where it stands: labels lead ahead, or back for turns, and inside; what is named by number is there.
use Rattle.std.proofs.Common.{◌≡◌, ℕ, zero, suc, ◌+◌, ◌-◌, ◌<◌, ◌≤◌, ◌&&◌, List, [], ◌∷◌, ◌++◌, map, length, Bool, true, false, nat_lt}
use Rattle.std.proofs.Common.{nat_le, refl, sym, ap}
use Rattle.std.proofs.Common.{◌∙◌, arith, subst, ap₂, lt-ltb, le-leb}
use Rattle.verse_base.specs.declared.places.Place.{Place}
use Rattle.verse_tree.specs.Tree.{Bytes}
use Rattle.verse_code.specs.declared.operations.Op.{Op}
use Rattle.verse_code.specs.declared.operations.Op.TheVariants as o
use Rattle.verse_code.specs.declared.validity.Sizes.{Sizes}
use Rattle.verse_code.specs.Operations.{operands_of}
use Rattle.verse_code.specs.Validity.{all_suit, IsPlace, IsText}
use Rattle.lower_code.specs.Pieces.{Spot, Item, sure, leaving, Piece, Maker, behind, later, next, past, nothing, one, placed, numbering}
use Rattle.lower_code.specs.Pieces.{texted, put_away}
use Rattle.lower_code.specs.Pieces.{stuck, when, leave_loop, ahead, either, closing, from_here, looping, turning, using_locals, arms_at}
use Rattle.lower_code.specs.Pieces.{arms_spot}
use Rattle.lower_code.specs.Pieces.{closed, deepest, drops, ◌then◌}
use Rattle.lower_code.specs.Lowering.{grouped}
use Rattle.lower_code.proofs.Standing.{behind_more, behind_least, behind_closed, later_is}
use Rattle.lower_bounds.proofs.Lists.{Each, each_joined}
use Rattle.lower_bounds.proofs.Kept.{IsBare, Placed, Between}

abbrev pub Suit : Sizes → ℕ → Op → Type 0
Suit z at op = all_suit z at (operands_of op) ≡ true

abbrev pub AllSuit : Sizes → List Item → ℕ → Type 0
AllSuit z [] at = Unit {0}
AllSuit z (sure op ∷ is) at = Suit z at op × AllSuit z is (suc at)
AllSuit z (leaving n ∷ is) at = AllSuit z is (suc at)

-- its operands suit where the label l is ahead
abbrev pub LeadsOn : ℕ → Op → Type 0
LeadsOn l op = (z : Sizes) (at : ℕ) → (nat_lt at l && nat_lt l z.ops) ≡ true → Suit z at op

-- Sizes of a code in which a piece ends at e, before the last operation; it has so many functions and classes.
pub record Room (functions classes : ℕ) (z : Sizes) (e : Spot) : Type 0 where
  pub ops : e.at < z.ops
  pub places : e.place ≤ z.places
  pub texts : e.text ≤ z.texts
  pub calls : functions ≤ z.functions
  pub objects : classes ≤ z.classes

pub suit_joined : (z : Sizes) (xs ys : List Item) (at : ℕ) → AllSuit z xs at → AllSuit z ys (behind xs at) → AllSuit z (xs ++ ys) at
suit_joined z [] ys at h k = k
suit_joined z (sure op ∷ xs) ys at h k = (h.0, suit_joined z xs ys (suc at) h.1 k)
suit_joined z (leaving n ∷ xs) ys at h k = suit_joined z xs ys (suc at) h k

pub ahead_suits : (at l end : ℕ) → at < l → l < end → (nat_lt at l && nat_lt l end) ≡ true
ahead_suits at l end g h = ap₂ ◌&&◌ (lt-ltb at l g) (lt-ltb l end h)

module _ (files functions classes : ℕ) where
  -- where the places below k are there
  pub record Suits (k : ℕ) (f : Maker) : Type 0 where
    pub operands : (s : Spot) (z : Sizes) → Room functions classes z (past s (f s)) → k ≤ z.places → AllSuit z (f s).items s.at
    pub places : (s : Spot) → Each (IsPlace files) (f s).places
    pub texts : (s : Spot) → Each IsText (f s).texts

  room_before : {z : Sizes} (xs ys : Spot) → xs.at ≤ ys.at → xs.place ≤ ys.place → xs.text ≤ ys.text → Room functions classes z ys →
      Room functions classes z xs
  room_before xs ys a b c r = record {
    ops = omega (arith, a, r.ops);
    places = omega (arith, b, r.places);
    texts = omega (arith, c, r.texts);
    calls = r.calls;
    objects = r.objects;
  }

  -- behind both pieces
  ends_behind : (z : Sizes) (s : Spot) (f g : Maker) → Room functions classes z (past s ((f then g) s)) → Room functions classes z
      (past (past s (f s)) (g (past s (f s))))
  ends_behind z s f g r =
      let e = past s (f s) in
      let q = g e in
      room_before (past e q) (past s ((f then g) s)) (omega (arith, behind_more (f s).items q.items s.at))
      (omega (arith, behind_more (f s).places q.places s.place))
      (omega (arith, behind_more (f s).texts q.texts s.text)) r

  pub begins_before : (z : Sizes) (e : Spot) (q : Piece) → Room functions classes z (past e q) → Room functions classes z e
  begins_before z e q r = room_before e (past e q) (behind_least q.items e.at) (behind_least q.places e.place)
      (behind_least q.texts e.text) r

  pub suits_then : {k : ℕ} {f g : Maker} → Suits k f → Suits k g → Suits k (f then g)
  suits_then {f = f} {g = g} x y = record {
    operands = λ s z r b.
        let e = past s (f s) in
        let rest = ends_behind z s f g r in
        suit_joined z (f s).items (g e).items s.at (x.operands s z (begins_before z e (g e) rest) b) (y.operands e z rest b);
    places = λ s. each_joined (IsPlace files) (f s).places (g (past s (f s))).places (x.places s) (y.places (past s (f s)));
    texts = λ s. each_joined IsText (f s).texts (g (past s (f s))).texts (x.texts s) (y.texts (past s (f s)));
  }

  pub suits_none : {k : ℕ} → Suits k nothing
  suits_none = record { operands = λ s z r b. tt; places = λ s. tt; texts = λ s. tt }

  pub suits_op : {k : ℕ} (op : Op) → ((z : Sizes) (at : ℕ) → functions ≤ z.functions → Suit z at op) → Suits k (one op)
  suits_op op h = record { operands = λ s z r b. (h z s.at r.calls, tt); places = λ s. tt; texts = λ s. tt }

  pub suits_op_with : (m : ℕ) (op : Op) → Placed m op → Suits (suc m) (one op)
  suits_op_with m op h = record { operands = λ s z r b. (h.0 z s.at (lt-ltb m z.places b), tt); places = λ s. tt; texts = λ s. tt }

  pub suits_stuck : {k : ℕ} → Suits k stuck
  suits_stuck = record {
    operands = λ s z r b. (
      ahead_suits s.at (suc s.at) z.ops (omega arith) r.ops,
      tt,
    );
    places = λ s. tt;
    texts = λ s. tt;
  }

  pub suits_when : {k : ℕ} {f : Maker} (b : Bool) → (b ≡ true → Suits k f) → Suits k (when b f)
  suits_when true x = let y = x refl in record { operands = y.operands; places = y.places; texts = y.texts }
  suits_when false x = record { operands = λ s z r b. tt; places = λ s. tt; texts = λ s. tt }

  pub suits_placed : {k : ℕ} (pl : Place) (op : ℕ → Op) → IsPlace files pl →
      ((m : ℕ) (z : Sizes) (at : ℕ) → classes ≤ z.classes → nat_lt m z.places ≡ true → Suit z at (op m)) → Suits k (placed pl op)
  suits_placed pl op site h = record {
    operands = λ s z r b. (h s.place z s.at r.objects (lt-ltb s.place z.places r.places), tt);
    places = λ s. (site, tt);
    texts = λ s. tt;
  }

  pub suits_numbering : {k : ℕ} (pl : Place) (f : ℕ → Maker) → IsPlace files pl → ((m : ℕ) → Suits (suc m) (f m)) → Suits k
      (numbering pl f)
  suits_numbering pl f site x = record {
    operands = λ s z r b.
        let e : Spot = record { at = s.at; place = suc s.place; text = s.text } in
        (x s.place).operands e z r (begins_before z e (f s.place e) r).places;
    places = λ s. (site, (x s.place).places (record { at = s.at; place = suc s.place; text = s.text }));
    texts = λ s. (x s.place).texts (record { at = s.at; place = suc s.place; text = s.text });
  }

  pub suits_texted : {k : ℕ} (bs : Bytes) → IsText bs → Suits k (texted bs)
  suits_texted bs h = record { operands = λ s z r b. (lt-ltb s.text z.texts r.texts, tt); places = λ s. tt; texts = λ s. (h, tt) }

  pub suits_put_away : {k l : ℕ} → Suits k (put_away l)
  suits_put_away = record { operands = λ s z r b. (refl, tt); places = λ s. tt; texts = λ s. tt }

  pub suits_leave : {k h : ℕ} → Suits k (leave_loop h)
  suits_leave = record { operands = λ s z r b. tt; places = λ s. tt; texts = λ s. tt }

  pub suits_ahead : {k : ℕ} {f : Maker} (op : ℕ → Op) → ((m : ℕ) → LeadsOn m (op m)) → Suits k f → Suits k (ahead op f)
  suits_ahead {f = f} op leads x = record {
    operands = λ s z r b.
        let e = (past (next s) (f (next s))).at in (
          leads e z s.at (ahead_suits s.at e z.ops (omega (arith, behind_least (f (next s)).items (suc s.at))) r.ops),
          x.operands
              (next s) z r b,
        );
    places = λ s. x.places (next s);
    texts = λ s. x.texts (next s);
  }

  pub suits_either : {k : ℕ} {f g : Maker} (op : ℕ → Op) → ((m : ℕ) → LeadsOn m (op m)) → Suits k f → Suits k g → Suits k (either op f g)
  suits_either {f = f} {g = g} op leads x y = record {
    operands = λ s z r b.
        let p : Piece = f (next s) in
        let e : Spot = next (past (next s) p) in
        let q : Piece = g e in
        let js : List Item = sure (o.Jump (past e q).at) ∷ q.items in
        let low : suc s.at ≤ (past (next s) p).at = behind_least p.items (suc s.at) in
        let high : e.at ≤ (past e q).at = behind_least q.items e.at in
        let end : behind (p.items ++ js) (suc s.at) ≡ (past e q).at = behind_more p.items js (suc s.at) in
        let rest : Room functions classes z (past e q) = room_before (past e q) (past s (either op f g s)) (omega (arith, end))
        (omega (arith, behind_more p.places q.places s.place)) (omega (arith, behind_more p.texts q.texts s.text)) r in
        let before : Room functions classes z (past (next s) p) = room_before (past (next s) p) e (omega arith) (omega arith)
        (omega arith) (begins_before z e q rest) in (
          leads e.at z s.at (ahead_suits s.at e.at z.ops (omega (arith, low)) (omega (arith, high, rest.ops))),
          suit_joined z p.items js (suc s.at) (x.operands (next s) z before b)
              (ahead_suits (past (next s) p).at (past e q).at z.ops (omega (arith, high)) rest.ops, y.operands e z rest b),
        );
    places = λ s. each_joined (IsPlace files) (f (next s)).places _ (x.places (next s)) (y.places (next (past (next s) (f (next s)))));
    texts = λ s. each_joined IsText (f (next s)).texts _ (x.texts (next s)) (y.texts (next (past (next s) (f (next s)))));
  }

  suit_closed : (z : Sizes) (out d : ℕ) (is : List Item) (at : ℕ) → behind is at + d ≤ out → out < z.ops → deepest is ≤ d →
      AllSuit z is at →
      AllSuit z (map (closed out) is) at
  suit_closed z out d [] at l k m h = tt
  suit_closed z out d (sure op ∷ is) at l k m h = (h.0, suit_closed z out d is (suc at) l k m h.1)
  suit_closed z out d (leaving n ∷ is) at l k m h = (
    ahead_suits at (out - n) z.ops (omega (arith, behind_least is (suc at), l, m)) (omega (arith, k)),
    suit_closed z out d is (suc at) l k (omega (arith, m)) h,
  )

  suit_drops : (z : Sizes) (d at : ℕ) → AllSuit z (drops d (sure o.Unit ∷ [])) at
  suit_drops z zero at = (refl, tt)
  suit_drops z (suc d) at = (refl, suit_drops z d (suc at))

  drops_end : (d at : ℕ) → behind (drops d (sure o.Unit ∷ [])) at ≡ suc (later d at)
  drops_end zero at = refl
  drops_end (suc d) at = drops_end d (suc at)

  suits_closing : {k : ℕ} {f : Maker} → Suits k f → Suits k (closing f)
  suits_closing {f = f} x = record {
    operands = λ s z r b.
        let p : Piece = f s in
        let d : ℕ = deepest p.items in
        let e : ℕ = (past s p).at in
        let out : ℕ = later d e in
        let ds : List Item = drops d (sure o.Unit ∷ []) in
        let end : behind (map (closed out) p.items ++ ds) s.at ≡ suc out =
        behind_more (map (closed out) p.items) ds s.at ∙ ap (behind ds) (behind_closed out p.items s.at) ∙ drops_end d e in
        let within : Room functions classes z (past s p) =
        room_before (past s p) (past s (closing f s)) (omega (arith, end, later_is d e)) (omega arith) (omega arith) r in
        suit_joined z (map (closed out) p.items) ds s.at
        (suit_closed z out d p.items s.at (omega (arith, later_is d e)) (omega (arith, end, r.ops)) (omega arith)
        (x.operands s z within b)) (suit_drops z d _);
    places = x.places;
    texts = x.texts;
  }

  -- a label that leads back over a piece, and over one operation more
  abbrev Back : (ℕ → Op) → Type 0
  Back op = (z : Sizes) (at l : ℕ) → nat_lt l at ≡ true → Suit z at (op l)

  suits_back : {k : ℕ} {f : Maker} (op : ℕ → Op) → Back op → ((s : Spot) → suc s.at < (past s (f s)).at) → Suits k f →
      Suits k (from_here (λ a. f then one (op (suc a))))
  suits_back {f = f} op back far x = record {
    operands = λ s z r b.
        let e = past s (f s) in
        let rest = ends_behind z s f (one (op (suc s.at))) r in
        suit_joined z (f s).items (sure (op (suc s.at)) ∷ []) s.at (x.operands s z (begins_before z e (one (op (suc s.at)) e) rest) b)
        (back z e.at (suc s.at) (lt-ltb (suc s.at) e.at (far s)), tt);
    places = λ s. each_joined (IsPlace files) (f s).places [] (x.places s) tt;
    texts = λ s. each_joined IsText (f s).texts [] (x.texts s) tt;
  }

  pub suits_looping : {k : ℕ} {f : Maker} → Suits k f → Suits k (looping f)
  suits_looping {f = f} x = suits_closing (suits_back {f = ahead o.Jump (f then one o.Drop)} o.Again (λ z at l e. e)
      (λ s. omega (arith, behind_more (f (next s)).items (sure o.Drop ∷ []) (suc s.at), behind_least (f (next s)).items (suc s.at)))
      (suits_ahead o.Jump (λ m z at e. e) (suits_then x (suits_op o.Drop (λ z at c. refl)))))

  suits_using : {k n : ℕ} → Suits k (using_locals n)
  suits_using = record { operands = λ s z r b. tt; places = λ s. tt; texts = λ s. tt }

  pub suits_turning : {k : ℕ} {f : Maker} (op : Op) (l : ℕ) → IsBare op → Suits k f → Suits k (turning op l f)
  suits_turning {f = f} op l bare x = suits_then suits_using (suits_then (suits_op o.Commit (λ z at c. refl))
      (suits_then (suits_op op (λ z at c. bare.0 z at))
      (suits_back {f = ahead o.Jump (ahead o.Try f)} (o.Take l (suc (suc l))) (λ z at l e. e)
      (λ s. omega (arith, behind_least (f (next (next s))).items (suc (suc s.at))))
      (suits_ahead o.Jump (λ m z at e. e) (suits_ahead o.Try (λ m z at e. e) x)))))

  suit_arms : (z : Sizes) (ls : List ℕ) (is : List Item) (at low end : ℕ) → Between ls low end → end < z.ops → at + length ls < low + 1 →
      AllSuit z is (later (length ls) at) → AllSuit z (arms_at ls is) at
  suit_arms z [] is at low end b e k h = h
  suit_arms z (l ∷ ls) is at low end b e k h = (
    ahead_suits at l z.ops (omega (arith, b.0.0, k)) (omega (arith, b.0.1, e)),
    suit_arms z ls is (suc at) low end b.1 e (omega (arith, k)) h,
  )

  behind_arms : (ls : List ℕ) (is : List Item) (at : ℕ) → behind (arms_at ls is) at ≡ behind is (later (length ls) at)
  behind_arms [] is at = refl
  behind_arms (l ∷ ls) is at = behind_arms ls is (suc at)

  later_suc : (n at : ℕ) → suc (later n at) ≡ later n (suc at)
  later_suc zero at = refl
  later_suc (suc n) at = later_suc n (suc at)

  pub suits_grouped : {k : ℕ} (kind m : ℕ) (pl : Place) (begins : Spot → List ℕ) (arms : Maker) → kind ≤ 2 → IsPlace files pl →
      ((s : Spot) → length (begins s) ≡ m) → ((s : Spot) → Between (begins s) s.at (past s (arms s)).at) → Suits k arms →
      Suits k (grouped kind m pl begins arms)
  unfolding grouped
  suits_grouped kind m pl begins arms small site many within x = record {
    operands = λ s z r b.
        let e : Spot = arms_spot m s in
        let p : Piece = arms e in
        let ls : List ℕ = begins e in
        let end : ℕ = (past e p).at in
        let js : List Item = sure (o.Jump end) ∷ p.items in
        let low : e.at ≤ end = behind_least p.items e.at in
        let first : suc (later (length ls) (suc s.at)) ≡ e.at = ap (λ n. suc (later n (suc s.at))) (many e) ∙ later_suc m (suc s.at) in
        let far : later m (suc (suc s.at)) ≡ m + suc (suc s.at) = later_is m (suc (suc s.at)) in
        let ends : behind (arms_at ls js) (suc s.at) ≡ end = behind_arms ls js (suc s.at) ∙ ap (behind p.items) first in
        let room : Room functions classes z (past e p) = room_before (past e p) (past s (grouped kind m pl begins arms s))
        (omega (arith, ends)) (omega arith) (omega arith) r in
        let inside : AllSuit z js (later (length ls) (suc s.at)) = (
          ahead_suits (later (length ls) (suc s.at)) end z.ops (omega (arith, first, low)) room.ops,
          subst (λ n. AllSuit z p.items n)
              (sym first) (x.operands e z room b),
        ) in
        let group : (nat_le kind 2 && nat_lt (s.at + m) z.ops && nat_lt s.place z.places) ≡ true = ap₂ ◌&&◌
        (ap₂ ◌&&◌ (le-leb kind 2 small)
        (lt-ltb (s.at + m) z.ops (omega (arith, far, low, room.ops)))) (lt-ltb s.place z.places (begins_before z e p room).places) in
        (group, suit_arms z ls js (suc s.at) e.at end (within e) room.ops (omega (arith, first, later_is (length ls) (suc s.at))) inside);
    places = λ s. (site, x.places (arms_spot m s));
    texts = λ s. x.texts (arms_spot m s);
  }
