-- Store: a write at a path in a slot.
use Rattle.std.proofs.Common.{◌≡◌, ◌≢◌, ℕ, zero, suc, List, [], ◌∷◌, ◌++◌, length, Option, Some, None, Bool, true, false, refl, sym, subst}
use Rattle.std.proofs.Common.{ap, ◌∙◌}
use Rattle.std.specs.Prelude.{slice_get, slice_set, if◌then◌else◌}
use Rattle.std.proofs.lemmas.Option.{same_Some, none-some}
use Rattle.verse_base.specs.declared.places.Place.{Place}
use Rattle.verse_base.specs.declared.refusals.Kind.{Kind as Error}
use Rattle.verse_code.specs.declared.operations.Op.TheVariants as o
use Rattle.verse_code.specs.declared.codes.Code.{Code}
use Rattle.verse_value.specs.Val as v
use Rattle.verse_value.specs.Val.{Val}
use Rattle.verse_value.specs.Answer.{Answer, gives, error}
use Rattle.verse_value.specs.Store.{Store, Cell, slot_of, with_cell_slot, stored, with_cell}
use Rattle.verse_value.specs.Storing.{write_in, with_written}
use Rattle.verse_value.specs.declared.runs.CellKind.{CellKind}
use Rattle.verse_meaning_state.specs.State.{State, with_store}
use Rattle.verse_meaning_state.specs.Effects.{object_made, added, changed, slot_written}
use Rattle.verse_code_machine.specs.Tasks.{Life, Handler, Frame, Who, World, Step}
use Rattle.verse_code_machine.specs.Frames.{on_top, on_many, on_there, goes, answered}
use Rattle.verse_code.specs.declared.codes.Class.{Class}
use Rattle.verse_value.specs.Storing.{add_cell}
use Rattle.verse_code_machine.specs.Acts.{place_at, mode_of, act}
use Rattle.verse_sorts.specs.Sorts as sort
use Rattle.verse_sorts.specs.Sorts.{Sort, itself}
use Rattle.verse_sorts.specs.Typing.{at, Typing, Adds, is_object, is_event, is_var, are_no, are_so}
use Rattle.verse_sorts.proofs.Fitting.{is_up, is_more, are_more, are_up}
use Rattle.verse_verify_kept.proofs.Places.{moves, kin_itself, tries_itself}
use Rattle.verse_verify_kept.proofs.Resting.{cells_more, cell_more, at_more, at_end}
use Rattle.verse_value.specs.declared.runs.CellKind.TheVariants as cell
use Rattle.verse_verify_kept.specs.Notes.{ClassNote, Point, Notes, parent_of}
use Rattle.verse_verify_kept.specs.Known.{Known}
use Rattle.verse_verify_kept.specs.Rules.{To, MayFail, Passes, Slot, slot_var, slot_obj, slot_never, Path, Mode}
use Rattle.verse_verify_kept.specs.Rules as r
use Rattle.verse_verify_kept.specs.Kept.{giver, Of, All, CellIs, var_is, object_is, event_is, CellsAre, cells_no, cells_so, StoreIs}
use Rattle.verse_verify_kept.specs.Kept.{Beneath, Bottom}
use Rattle.verse_verify_kept.proofs.Going.{Good, goes_to, Ends, Rest, Fresh}
use Rattle.verse_verify_kept.proofs.Acts.{Fine, fine_gives, fine_fails, fine_error, many_good}
use Rattle.verse_verify_kept.proofs.Values.{Has, Slotted, slotted, var_slot, obj_slot, answered_good}
use Rattle.verse_verify_kept.proofs.Paths.{write_fine}

shifted : (m : Option Cell) (x : Cell) (cells : List Cell) (i k : ℕ) (u : Val) → with_cell_slot m (x ∷ cells) (suc i) k u ≡ x ∷
    with_cell_slot m cells i k u
shifted None x cells i k u = refl
shifted (Some y) x cells i k u = refl

module _ (c : Code) (n : Notes) (t : Typing) where
  set_are : {us : List Val} {xs : List Sort} {a : Sort} (k : ℕ) (u : Val) → All c n t us xs → at xs k ≡ Some a → Of c n t u a →
      All c n t (slice_set us k u) xs
  set_are k u are_no e i = are_no
  set_are zero u (are_so j r) e i = are_so (subst (Of c n t u) (sym (same_Some _ _ e)) i) r
  set_are (suc k) u (are_so j r) e i = are_so j (set_are k u r e i)

  not_empty : {us : List Val} {xs : List Sort} → All c n t us xs → us ≢ [] → xs ≢ []
  not_empty are_no h e = h refl
  not_empty (are_so i r) h e = cc

  stored_are : {cells : List Cell} {xs : List Sort} {a : Sort} (i k : ℕ) (u : Val) → CellsAre c n t cells xs → at xs i ≡ Some a →
      ((kd : CellKind) (us : List Val) → CellIs c n t kd us a → CellIs c n t kd (slice_set us k u) a) →
      CellsAre c n t (stored cells i k u) xs
  stored_are i k u cells_no e h = elim (none-some _ e) [ ]
  stored_are zero k u (cells_so {x = x} {a = b} j r) e h =
      cells_so (subst (CellIs c n t x.kind (slice_set x.slots k u)) (sym (same_Some _ _ e)) (h x.kind x.slots (subst (CellIs c n t x.kind
      x.slots) (same_Some _ _ e) j))) r
  stored_are (suc i) k u (cells_so {x = x} {xs = cells} {a = b} {ys = ys} j r) e h =
      subst (λ cells. CellsAre c n t cells (b ∷ ys)) (sym (shifted (slice_get cells i) x cells i k u)) (cells_so j (stored_are i k u r e h))

  -- the cell that a value names: its slot is there, and takes a value of its sort
  data Named (st : Store) (slot : ℕ) (b : Sort) : Val → Type 0 where
    named : {i : ℕ} {from : Val} → slot_of st i slot ≡ Some from → Of c n t from b → ((u : Val) → Of c n t u b →
        CellsAre c n t (stored st i slot u) t.cells) → Named st slot b (v.object i)

  names_slot : (ok : Known c n) (st : Store) (slot : ℕ) {a b : Sort} {u : Val} → StoreIs c n t st → Slot c n a slot b → Of c n t u a →
      Named st slot b u
  names_slot ok st slot {b = b} z slot_var (is_var {i = i} h) = go (var_slot c n i z h)
    where
      sets : (u : Val) → Of c n t u b → (kd : CellKind) (us : List Val) → CellIs c n t kd us (sort.var b) →
          CellIs c n t kd (slice_set us 0 u) (sort.var b)
      sets u j kd us (var_is i) = var_is j

      go : Slotted (parent_of n) t (slot_of st i 0) b → Named st 0 b (v.object i)
      go (slotted e j) = named e j (λ u h2. stored_are i 0 u z h (sets u h2))
  names_slot ok st slot {b = b} z (slot_obj {class = class} {x = y} e l) (is_object {i = i} {c = heir} h up) =
      go (obj_slot c n i slot z h (ok.slots heir class y up e).1 ((ok.slots heir class y up e).2 slot b l))
    where
      sets : (u : Val) → Of c n t u b → (kd : CellKind) (us : List Val) → CellIs c n t kd us (sort.obj heir) → CellIs c n t kd (slice_set us
          slot u) (sort.obj heir)
      sets u j kd us (object_is {x = x} g k) =
          object_is g (set_are slot u k (subst (λ (x : ClassNote). at x.slots slot ≡ Some b) (same_Some _ _ (sym (ok.slots heir class y up
          e).1 ∙ g)) ((ok.slots heir class y up e).2 slot b l)) j)

      go : Slotted (parent_of n) t (slot_of st i slot) b → Named st slot b (v.object i)
      go (slotted e j) = named e j (λ u h2. stored_are i slot u z h (sets u h2))
  names_slot ok st slot z slot_never i = elim i [ ]

module _ (c : Code) (n : Notes) where
  cells_count : {t : Typing} {xs : List Cell} {ys : List Sort} → CellsAre c n t xs ys → length xs ≡ length ys
  cells_count cells_no = refl
  cells_count (cells_so i r) = ap suc (cells_count r)

  cells_end : {t : Typing} {xs : List Cell} {ys : List Sort} (x : Cell) (a : Sort) → CellsAre c n t xs ys → CellIs c n t x.kind x.slots a →
      CellsAre c n t (xs ++ x ∷ []) (ys ++ a ∷ [])
  cells_end x a cells_no j = cells_so j cells_no
  cells_end x a (cells_so i r) j = cells_so i (cells_end x a r j)

module _ (c : Code) (n : Notes) (bottom : Bottom c n) (ok : Known c n) (ends : Ends c n bottom) (w : Who) (x : World) (s : State)
    (g : Life) (pc : ℕ) (bl : List Frame) (t : Typing) (p : Point) (z : StoreIs c n t s.memory.store) (f : Fresh c n bottom t s.clock.left)
    (ls more : List Val) (hs : List Handler) (k : Beneath c n (Rest c n bottom w x s (giver n p) bl) t p p.defers ls more hs g.defers
    g.noted) (a : All c n t ls p.locals) where
  pub store_good : {above : List Val} {slot m mode pl : ℕ} → Has (place_at c pl) → All c n t above p.stack → Passes c n pc p (o.Store slot m
      mode pl) → Good c n bottom (act c (o.Store slot m mode pl) w x s g ls (above ++ more) pc hs bl)
  store_good {above = above} {slot = slot} {m = m} {mode = mode} {pl = pl} h b (r.of_store {v = d} {b = place} {r = e} {xs = xs} {st = st}
      {us = us} is pops names path how may l) = have (subst (All c n t above) is b)
    where
      have : {above : List Val} → All c n t above (d ∷ us) →
          Good c n bottom (act c (o.Store slot m mode pl) w x s g ls (above ++ more) pc hs bl)
      have (are_so {w = u} {vs = vs} i rest) =
          many_good c n bottom ok ends w x s g pc bl t p z f ls more hs k a vs [] _ pops rest are_no
          (λ index above j b. cell index l (λ y i. names_slot c n t ok s.memory.store slot z names i) b j)
        where
          cell : {above : List Val} {d : Sort} {st : List Sort} (index : List Val) → To c n p (e ∷ st) (suc pc) → ((y : Val) → Of c n t y
              d → Named c n t s.memory.store slot place y) → All c n t above (d ∷ st) → All c n t index xs → Good c n bottom (on_top (above
              ++ more) s (λ y st. answered (place_at c pl) (slot_written slot index (mode_of mode) u y s) w x s g ls st pc hs bl))
          cell {st = st} index l find (are_so {w = y} {vs = vs} i2 rest2) j = by_name (find y i2)
            where
              by_written : (q : ℕ) {x2 : Answer (Val × Val)} {b : Sort} →
                  ((v2 : Val) → Of c n t v2 b → CellsAre c n t (stored s.memory.store q slot v2) t.cells) →
                  Fine (MayFail c n p) (Has (place_at c pl)) (λ y. Of c n t y.0 b × Of c n t y.1 e) x2 →
                  Fine (MayFail c n p) (Has (place_at c pl)) (λ y. Good c n bottom (goes w x s y.1 g ls (y.0 ∷ vs ++ more) (suc pc) hs bl))
                  (changed (with_written s.memory.store q slot x2) s)
              by_written q sets (fine_gives {x = r2} i3) =
                  sized _ _ _ (goes_to c n bottom ok w x s (with_store s (stored s.memory.store q slot r2.0)) g ls (r2.1 ∷ vs) more hs bl t
                  l a (are_so i3.1 rest2) k (sets r2.0 i3.0) f)
                where
                  sized : (b : Bool) (st2 : Store) (kind : Error) → Good c n bottom (goes w x s (with_store s st2) g ls (r2.1 ∷ vs ++ more)
                      (suc pc) hs bl) → Fine (MayFail c n p) (Has (place_at c pl)) (λ y. Good c n bottom (goes w x s y.1 g ls (y.0 ∷ vs ++
                      more) (suc pc) hs bl)) (changed (if b then gives (st2, r2.1) else error kind) s)
                  sized true st2 kind q = fine_gives q
                  sized false st2 kind q = fine_error h
              by_written q sets (fine_fails m) = fine_fails m
              by_written q sets (fine_error m) = fine_error m

              by_name : {y : Val} → Named c n t s.memory.store slot place y → Good c n bottom (answered (place_at c pl) (slot_written slot
                  index (mode_of mode) u y s) w x s g ls (vs ++ more) pc hs bl)
              by_name (named {i = q} {from = from} e2 i2 sets) =
                  answered_good c n bottom ok ends w x s g pc bl t p z f ls more hs k a vs (place_at c pl) _ l
                  (subst (λ m2. Fine (MayFail c n p) (Has (place_at c pl))
                  (λ y. Good c n bottom (goes w x s y.1 g ls (y.0 ∷ vs ++ more) (suc pc) hs bl))
                  (changed (write_in s.memory.store q slot index (mode_of mode) u m2) s)) (sym e2)
                  (by_written q sets (write_fine c n from u h (λ e3. may (not_empty c n t j e3)) path j i2 how i)))

  pub new_good : {above : List Val} {pl : ℕ} → Has (place_at c pl) → All c n t above p.stack → Passes c n pc p (o.New pl) →
      Good c n bottom (act c (o.New pl) w x s g ls (above ++ more) pc hs bl)
  new_good {above = above} {pl = pl} h b (r.of_new {a = d} {u = e} {st = st} is fit l) = have (subst (All c n t above) is b)
    where
      u : Typing
      u = record t { cells = t.cells ++ sort.var e ∷ [] }

      adds : Adds t u
      adds = record {
        grows = record {
          cells = λ i a h. at_more c n ok t.cells (sort.var e ∷ []) i a h;
          entries = λ i a h. h;
          waits = λ i a h. h;
          parts = λ i a h. h;
        };
        entries = refl;
        waits = refl;
        parts = refl;
      }

      have : {above : List Val} → All c n t above (d ∷ st) → Good c n bottom (act c (o.New pl) w x s g ls (above ++ more) pc hs bl)
      have (are_so {w = y} {vs = vs} i rest) = answered_good c n bottom ok ends w x s g pc bl t p z f ls more hs k a vs (place_at c pl) _ l
          (sized _ _)
        where
          made_cell : Cell
          made_cell = record { kind = cell.Var; slots = y ∷ [] }

          place : at u.cells (length s.memory.store) ≡ Some (sort.var e)
          place = subst (λ i. at u.cells i ≡ Some (sort.var e)) (sym (cells_count c n z)) (at_end c n ok t.cells (sort.var e))

          sized : (b : Bool) (kind : Error) → Fine (MayFail c n p) (Has (place_at c pl))
              (λ y. Good c n bottom (goes w x s y.1 g ls (y.0 ∷ vs ++ more) (suc pc) hs bl))
              (added (if b then gives (with_cell s.memory.store made_cell) else error kind) (v.object (length s.memory.store)) s)
          sized true kind =
              fine_gives (goes_to c n bottom ok w x s (with_store s (with_cell s.memory.store made_cell)) g ls (v.object (length
              s.memory.store) ∷ vs) more hs bl u l (are_more (parent_of n) adds.grows a) (are_so (is_var place) (are_more (parent_of n)
              adds.grows rest)) (moves c n k (kin_itself p) (tries_itself c n p.tries) adds)
              (cells_end c n made_cell (sort.var e) (cells_more c n ok adds.grows z)
              (var_is (is_more (parent_of n) adds.grows (is_up (parent_of n) i fit)))) f)
          sized false kind = fine_error h

  -- one cell more, and the value that names it
  pub made_good : {vs : List Val} {st : List Sort} (pl : Option Place) (e : Sort) (value : ℕ → Val) (y : Cell) → Has pl →
      To c n p (e ∷ st) (suc pc) → All c n t vs st → CellIs c n t y.kind y.slots e →
      ((u : Typing) (i : ℕ) → at u.cells i ≡ Some e → Of c n u (value i) e) →
      Good c n bottom (answered pl (added (add_cell s.memory.store y) (value (length s.memory.store)) s) w x s g ls (vs ++ more) pc hs bl)
  made_good {vs = vs} pl e value y h l rest i is =
      answered_good c n bottom ok ends w x s g pc bl t p z f ls more hs k a vs pl _ l (sized _ _)
    where
      u : Typing
      u = record t { cells = t.cells ++ e ∷ [] }

      adds : Adds t u
      adds = record {
        grows = record {
          cells = λ i a h. at_more c n ok t.cells (e ∷ []) i a h;
          entries = λ i a h. h;
          waits = λ i a h. h;
          parts = λ i a h. h;
        };
        entries = refl;
        waits = refl;
        parts = refl;
      }

      place : at u.cells (length s.memory.store) ≡ Some e
      place = subst (λ i. at u.cells i ≡ Some e) (sym (cells_count c n z)) (at_end c n ok t.cells e)

      sized : (b : Bool) (kind : Error) → Fine (MayFail c n p) (Has pl) (λ y. Good c n bottom (goes w x s y.1 g ls (y.0 ∷ vs ++ more) (suc
          pc) hs bl)) (added (if b then gives (with_cell s.memory.store y) else error kind) (value (length s.memory.store)) s)
      sized true kind =
          fine_gives (goes_to c n bottom ok w x s (with_store s (with_cell s.memory.store y)) g ls (value (length s.memory.store) ∷ vs) more
          hs bl u l (are_more (parent_of n) adds.grows a) (are_so (is u (length s.memory.store) place) (are_more (parent_of n) adds.grows
          rest)) (moves c n k (kin_itself p) (tries_itself c n p.tries) adds) (cells_end c n y e (cells_more c n ok adds.grows z) (cell_more
          c n ok adds.grows i)) f)
      sized false kind = fine_error h

  pub event_good : {above : List Val} {pl : ℕ} → Has (place_at c pl) → All c n t above p.stack → Passes c n pc p (o.Event pl) →
      Good c n bottom (act c (o.Event pl) w x s g ls (above ++ more) pc hs bl)
  event_good {pl = pl} h b (r.of_event {u = e} l) =
      made_good (place_at c pl) (sort.event e) v.event _ h l b event_is (λ u i h. is_event h)

  pub object_good : {above : List Val} {q pl : ℕ} → Has (place_at c pl) → All c n t above p.stack → Passes c n pc p (o.Object q pl) →
      Good c n bottom (act c (o.Object q pl) w x s g ls (above ++ more) pc hs bl)
  object_good {above = above} {q = q} {pl = pl} h b (r.of_object {q = class} {x = notes} e d pops fit l) =
      subst (λ m. Good c n bottom (on_there m s (λ (k : Class). on_many k.slots (above ++ more) [] s (λ vs st. answered (place_at c pl)
      (object_made q vs s) w x s g ls st pc hs bl)))) (sym e) (many_good c n bottom ok ends w x s g pc bl t p z f ls more hs k a above [] _
      pops b are_no (λ vs rest i j. made_good (place_at c pl) (sort.obj q) v.object _ h l j (object_is d (are_up (parent_of n) i fit)) (λ u
      i h. is_object h itself)))

  pub arm_never : {l : ℕ} {q : Step} → Passes c n pc p (o.Arm l) → Good c n bottom q
  arm_never q = elim q [ ]
