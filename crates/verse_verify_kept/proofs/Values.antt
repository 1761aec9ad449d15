-- Operations on values and on memory.
use Rattle.std.proofs.Common.{◌≡◌, ℕ, zero, suc, List, [], ◌∷◌, ◌++◌, Option, Some, None, Bool, true, false, refl, sym, subst, ap}
use Rattle.std.proofs.Common.{◌∙◌}
use Rattle.std.specs.Prelude.{ℤ, pos, negsuc, slice_get, if◌then◌else◌, option_map}
use Rattle.std.proofs.lemmas.Option.{same_Some, none-some}
use Rattle.verse_base.specs.declared.places.Place.{Place}
use Rattle.verse_base.specs.declared.refusals.Kind.{Kind as Error}
use Rattle.verse_code.specs.declared.operations.Op.TheVariants as o
use Rattle.verse_code.specs.declared.codes.Code.{Code}
use Rattle.verse_value.specs.Val as v
use Rattle.verse_value.specs.Val.{Val, Vals, no_vals, more_vals, Pairs, no_pairs, more_pairs}
use Rattle.verse_value.specs.Answer.{Answer, gives, error, stuck, given_or}
use Rattle.verse_value.specs.Keys.{bytes_of, with_byte, key_of, at_key, key_eq}
use Rattle.verse_value.specs.Places.{nth, in_array, in_map as map_step, part_or, outside, absent}
use Rattle.verse_value.specs.Operations.{sum_of, at_of, query_of, concat_of, step_answer}
use Rattle.verse_value.specs.Parts.{joined}
use Rattle.verse_value.specs.Store.{Store, Cell, slot_of}
use Rattle.verse_value.specs.Storing.{read_slot}
use Rattle.verse_value.specs.declared.keys.Key.{Key}
use Rattle.verse_value.specs.declared.runs.CellKind.{CellKind}
use Rattle.verse_meaning_state.specs.State.{State}
use Rattle.verse_meaning_state.specs.Effects.{Effect, still, slot_read}
use Rattle.verse_code_machine.specs.Tasks.{Life, Handler, Frame, Who, World}
use Rattle.verse_code_machine.specs.Frames.{goes, faulting, answered}
use Rattle.verse_code_machine.specs.Acts.{unary, binary, place_at, act}
use Rattle.verse_sorts.specs.Sorts as s
use Rattle.verse_sorts.specs.Sorts.{Sort, Fits, IsKey, key_never, key_nil, key_int, key_logic, key_char, key_enum, key_text}
use Rattle.verse_sorts.specs.Typing.{at, Typing, Grows, Adds, Is, AreAll, ArePairs, is_int, is_object, is_list, is_map, is_some, is_empty}
use Rattle.verse_sorts.specs.Typing.{is_true}
use Rattle.verse_sorts.specs.Typing.{is_false, is_nil, is_var, no_all, more_all, no_entries, more_entries, are_so, is_char}
use Rattle.verse_sorts.specs.Typing as ty
use Rattle.verse_sorts.proofs.Fitting.{is_up}
use Rattle.verse_verify_kept.specs.Notes.{ClassNote, Point, Notes, parent_of}
use Rattle.verse_verify_kept.specs.Known.{Known}
use Rattle.verse_verify_kept.specs.Rules.{To, MayFail, Passes, Indexed, in_list, in_map, in_never, Queried, of_option, of_logic, of_nil}
use Rattle.verse_verify_kept.specs.Rules.{of_never, Slot}
use Rattle.verse_verify_kept.specs.Rules.{slot_var, slot_obj, slot_never}
use Rattle.verse_verify_kept.specs.Rules as r
use Rattle.verse_verify_kept.specs.Kept.{giver, Of, All, CellIs, var_is, object_is, event_is, CellsAre, cells_no, cells_so, StoreIs}
use Rattle.verse_verify_kept.specs.Kept.{Beneath, Bottom}
use Rattle.verse_verify_kept.proofs.Going.{Good, over, only_good, goes_to, failing_good, Ends, Rest, Fresh}
use Rattle.verse_verify_kept.proofs.Acts.{Fine, fine_gives, fine_fails, fine_error, fits_to}

-- an error has its place
pub data Has (p : Option Place) : Type 0 where
  has : {x : Place} → p ≡ Some x → Has p

pub if_fine : {A : Type 0} {F E : Type 0} {R : A → Type 0} (b : Bool) (x : A) (k : Error) → E → R x →
    Fine F E R (if b then gives x else error k)
if_fine true x k e i = fine_gives i
if_fine false x k e i = fine_error e

pub data Keyed_by (w : Val) : Type 0 where
  keyed_by : {k : Key} → key_of w ≡ Some k → Keyed_by w

var_same : (a b : Sort) → s.var a ≡ s.var b → a ≡ b
var_same a b e = cc

obj_same : (a b : ℕ) → s.obj a ≡ s.obj b → a ≡ b
obj_same a b e = cc

-- a slot is there, with a value of its sort
pub data Slotted (up : ℕ → Option ℕ) (t : Typing) (m : Option Val) (a : Sort) : Type 0 where
  slotted : {u : Val} → m ≡ Some u → Is up t u a → Slotted up t m a

module _ (c : Code) (n : Notes) {t : Typing} where
  sum_fine : {F E : Type 0} {u w : Val} → E → Is (parent_of n) t u s.int → Is (parent_of n) t w s.int →
      Fine F E (λ z. Is (parent_of n) t z s.int) (sum_of u w)
  sum_fine e (is_int {n = a}) (is_int {n = b}) = if_fine _ _ _ e is_int

  query_fine : {F E : Type 0} {u : Val} {a b : Sort} → F → Queried c n a b → Is (parent_of n) t u a →
      Fine F E (λ z. Is (parent_of n) t z b) (query_of u)
  query_fine f of_option is_empty = fine_fails f
  query_fine f of_option (is_some i) = fine_gives i
  query_fine f of_logic is_false = fine_fails f
  query_fine f of_logic is_true = fine_gives is_true
  query_fine f of_nil is_nil = fine_fails f
  query_fine f of_never i = elim i [ ]

  pub joined_all : {xs ys : Vals} {a : Sort} → AreAll (parent_of n) t xs a → AreAll (parent_of n) t ys a →
      AreAll (parent_of n) t (joined xs ys) a
  joined_all no_all b = b
  joined_all (more_all i r) b = more_all i (joined_all r b)

  concat_fine : {F E : Type 0} {u w : Val} {a : Sort} → E → Is (parent_of n) t u (s.list a) → Is (parent_of n) t w (s.list a) →
      Fine F E (λ z. Is (parent_of n) t z (s.list a)) (concat_of u w)
  concat_fine e (is_list i) (is_list j) = if_fine _ _ _ e (is_list (joined_all i j))

  pub nth_all : {vs : Vals} {a : Sort} {x : Val} (k : ℕ) → AreAll (parent_of n) t vs a → nth vs k ≡ Some x → Is (parent_of n) t x a
  nth_all k no_all e = elim (none-some _ e) [ ]
  nth_all {a = a} zero (more_all i r) e = subst (λ x. Is (parent_of n) t x a) (same_Some _ _ e) i
  nth_all (suc k) (more_all i r) e = nth_all k r e

  part_fine : {F E : Type 0} {a : Sort} (m : Option Val) → F → ((x : Val) → m ≡ Some x → Is (parent_of n) t x a) →
      Fine F E (λ z. Is (parent_of n) t z a) (step_answer (part_or outside m))
  part_fine None f h = fine_fails f
  part_fine (Some x) f h = fine_gives (h x refl)

  entry_fine : {F E : Type 0} {a : Sort} (m : Option Val) → F → ((x : Val) → m ≡ Some x → Is (parent_of n) t x a) →
      Fine F E (λ z. Is (parent_of n) t z a) (step_answer (part_or absent m))
  entry_fine None f h = fine_fails f
  entry_fine (Some x) f h = fine_gives (h x refl)

  in_array_fine : {F E : Type 0} {a : Sort} {vs : Vals} (z : ℤ) → F → AreAll (parent_of n) t vs a →
      Fine F E (λ x. Is (parent_of n) t x a) (step_answer (in_array vs (v.int z)))
  in_array_fine {vs = vs} (pos k) f i = part_fine (nth vs k) f (λ x e. nth_all k i e)
  in_array_fine (negsuc k) f i = fine_fails f

  either_is : {a : Sort} {y z x : Val} (b : Bool) → Is (parent_of n) t y a → Is (parent_of n) t z a →
      (if b then Some y else Some z) ≡ Some x → Is (parent_of n) t x a
  either_is {a = a} true i j e = subst (λ x. Is (parent_of n) t x a) (same_Some _ _ e) i
  either_is {a = a} false i j e = subst (λ x. Is (parent_of n) t x a) (same_Some _ _ e) j

  pub key_found : {ps : Pairs} {k a : Sort} {x : Val} (l : Key) → ArePairs (parent_of n) t ps k a → at_key ps l ≡ Some x →
      Is (parent_of n) t x a
  key_found l no_entries e = elim (none-some _ e) [ ]
  key_found {a = a} l (more_entries {l = m} {w = w} {ps = ps} i j r) e = go (key_eq l m) (λ x h. key_found l r h) e
    where
      go : {x : Val} (b : Bool) → ((x : Val) → at_key ps l ≡ Some x → Is (parent_of n) t x a) →
          (if b then Some w else at_key ps l) ≡ Some x → Is (parent_of n) t x a
      go true h e = subst (λ x. Is (parent_of n) t x a) (same_Some _ _ e) j
      go false h e = h _ e

  pub bytes_there : {vs : Vals} → AreAll (parent_of n) t vs s.char → (bs : List ℕ) × (bytes_of vs ≡ Some bs)
  bytes_there no_all = ([], refl)
  bytes_there (more_all (is_char {n = b}) r) = (b ∷ (bytes_there r).0, ap (with_byte (Some b)) (bytes_there r).1)

  pub key_there : {w : Val} {b : Sort} → IsKey b → Is (parent_of n) t w b → Keyed_by w
  key_there key_never i = elim i [ ]
  key_there key_nil is_nil = keyed_by refl
  key_there key_int is_int = keyed_by refl
  key_there key_logic is_false = keyed_by refl
  key_there key_logic is_true = keyed_by refl
  key_there key_char is_char = keyed_by refl
  key_there key_enum ty.is_enum = keyed_by refl
  key_there key_text (is_list i) = keyed_by (ap (option_map _) (bytes_there i).1)

  at_fine : {F E : Type 0} {u w : Val} {a b d : Sort} → F → Indexed c n a b d → Is (parent_of n) t u a → Is (parent_of n) t w b →
      Fine F E (λ z. Is (parent_of n) t z d) (at_of u w)
  at_fine {F = F} {E = E} {d = d} f (in_list {a = a} fit) (is_list {vs = vs} i) j = by_int (is_up (parent_of n) j fit)
    where
      by_int : {w : Val} → Is (parent_of n) t w s.int → Fine F E (λ z. Is (parent_of n) t z d) (at_of (v.array vs) w)
      by_int (is_int {n = z}) = in_array_fine z f i
  at_fine {F = F} {E = E} {w = w} {d = d} f (in_map k fit) (is_map {ps = ps} i) j = by_key (key_there k j)
    where
      by_key : Keyed_by w → Fine F E (λ z. Is (parent_of n) t z d) (at_of (v.mapping ps) w)
      by_key (keyed_by {k = l} e) =
          subst (λ m. Fine F E (λ z. Is (parent_of n) t z d) (step_answer (map_step ps m))) (sym e) (entry_fine (at_key ps l) f (λ x h.
          key_found l i h))
  at_fine f in_never i j = elim i [ ]

  slot_is : {us : List Val} {xs : List Sort} {a : Sort} (k : ℕ) → All c n t us xs → at xs k ≡ Some a →
      Slotted (parent_of n) t (slice_get us k) a
  slot_is k ty.are_no e = elim (none-some _ e) [ ]
  slot_is zero (are_so {w = u} i r) e = slotted refl (subst (Of c n t u) (same_Some _ _ e) i)
  slot_is (suc k) (are_so i r) e = slot_is k r e

  pub var_slot : {cells : List Cell} {xs : List Sort} {a : Sort} (i : ℕ) → CellsAre c n t cells xs → at xs i ≡ Some (s.var a) →
      Slotted (parent_of n) t (slot_of cells i 0) a
  var_slot i cells_no e = elim (none-some _ e) [ ]
  var_slot {a = a} zero (cells_so {x = x} {a = b} i r) e = by_cell i (same_Some _ _ e)
    where
      by_cell : {kd : CellKind} {us : List Val} {b : Sort} → CellIs c n t kd us b → b ≡ s.var a → Slotted (parent_of n) t (slice_get us 0) a
      by_cell (var_is {v = u} i) e = slotted refl (subst (Of c n t u) (var_same _ _ e) i)
      by_cell (object_is h i) e = no_obj e
        where
          no_obj : {A : Type 0} {k : ℕ} → s.obj k ≡ s.var a → A
          no_obj e = cc
      by_cell event_is e = no_event e
        where
          no_event : {A : Type 0} {b : Sort} → s.event b ≡ s.var a → A
          no_event e = cc
  var_slot (suc i) (cells_so j r) e = var_slot i r e

  pub obj_slot : {cells : List Cell} {xs : List Sort} {a : Sort} {class : ℕ} {x : ClassNote} (i k : ℕ) → CellsAre c n t cells xs →
      at xs i ≡ Some (s.obj class) → slice_get n.classes class ≡ Some x → at x.slots k ≡ Some a →
      Slotted (parent_of n) t (slot_of cells i k) a
  obj_slot i k cells_no e h l = elim (none-some _ e) [ ]
  obj_slot {a = a} {class = class} {x = x} zero k (cells_so i r) e h l = by_cell i (same_Some _ _ e)
    where
      by_cell : {kd : CellKind} {us : List Val} {b : Sort} → CellIs c n t kd us b → b ≡ s.obj class →
          Slotted (parent_of n) t (slice_get us k) a
      by_cell (object_is {class = other} {x = y} g j) e =
          slot_is k j (subst (λ (y : ClassNote). at y.slots k ≡ Some a) (same_Some _ _ (sym h ∙ subst (λ o. slice_get n.classes o ≡ Some y)
          (obj_same other class e) g)) l)
      by_cell (var_is i) e = no_var e
        where
          no_var : {A : Type 0} {b : Sort} → s.var b ≡ s.obj class → A
          no_var e = cc
      by_cell event_is e = no_event e
        where
          no_event : {A : Type 0} {b : Sort} → s.event b ≡ s.obj class → A
          no_event e = cc
  obj_slot (suc i) k (cells_so j r) e h l = obj_slot i k r e h l

  read_fine : {F E : Type 0} {u : Val} {a d : Sort} (ok : Known c n) (store : Store) (st : State) (m : ℕ) → StoreIs c n t st.memory.store →
      Slot c n a m d → Of c n t u a → (q : Answer Val) × (slot_read m u st ≡ still q st) × Fine F E (λ z. Of c n t z d) q
  read_fine {F = F} {E = E} {d = d} ok store st m z slot_var (is_var {i = i} h) =
      (read_slot st.memory.store i 0, refl, found (var_slot i z h))
    where
      found : Slotted (parent_of n) t (slot_of st.memory.store i 0) d → Fine F E (λ z. Of c n t z d) (read_slot st.memory.store i 0)
      found (slotted e j) = subst (λ m. Fine F E (λ z. Of c n t z d) (given_or stuck m)) (sym e) (fine_gives j)
  read_fine {F = F} {E = E} {d = d} ok store st m z (slot_obj {class = class} {x = y} e l) (is_object {i = i} {c = heir} h up) =
      (read_slot st.memory.store i m, refl, found (obj_slot i m z h (ok.slots heir class y up e).1 ((ok.slots heir class y up e).2 m d l)))
    where
      found : Slotted (parent_of n) t (slot_of st.memory.store i m) d → Fine F E (λ z. Of c n t z d) (read_slot st.memory.store i m)
      found (slotted e j) = subst (λ m. Fine F E (λ z. Of c n t z d) (given_or stuck m)) (sym e) (fine_gives j)
  read_fine ok store st m z slot_never i = elim i [ ]

module _ (c : Code) (n : Notes) (bottom : Bottom c n) (ok : Known c n) (ends : Ends c n bottom) (w : Who) (x : World) (s : State)
    (g : Life) (pc : ℕ) (bl : List Frame) (t : Typing) (p : Point) (z : StoreIs c n t s.memory.store) (f : Fresh c n bottom t s.clock.left)
    (ls more : List Val) (hs : List Handler) (k : Beneath c n (Rest c n bottom w x s (giver n p) bl) t p p.defers ls more hs g.defers
    g.noted) (a : All c n t ls p.locals) where
  -- an operation has come to an answer
  pub answered_good : {d : Sort} {st : List Sort} (vs : List Val) (pl : Option Place) (e : Effect) → To c n p (d ∷ st) (suc pc) →
      Fine (MayFail c n p) (Has pl) (λ y. Good c n bottom (goes w x s y.1 g ls (y.0 ∷ vs ++ more) (suc pc) hs bl)) e →
      Good c n bottom (answered pl e w x s g ls (vs ++ more) pc hs bl)
  answered_good vs pl e l (fine_gives i) = i
  answered_good vs pl e l (fine_fails m) = failing_good c n bottom ok w x ends s ls hs bl k m f
  answered_good vs pl e l (fine_error {k = kind} (has {x = y} h)) =
      only_good c n bottom s _ (fits_to c n bottom ok ends w x s g pc bl t p z f ls more hs k a l) (subst (λ m. Good c n bottom (faulting m
      kind s)) (sym h) (over tt))

  -- of values alone
  pub still_good : {d : Sort} {st : List Sort} {vs : List Val} (pl : Option Place) (e : Answer Val) → To c n p (d ∷ st) (suc pc) →
      All c n t vs st → Fine (MayFail c n p) (Has pl) (λ u. Of c n t u d) e →
      Good c n bottom (answered pl (still e s) w x s g ls (vs ++ more) pc hs bl)
  still_good {vs = vs} pl e l b (fine_gives {x = u} i) =
      goes_to c n bottom ok w x s s g ls (u ∷ vs) more hs bl t l a (are_so i b) k z f
  still_good pl e l b (fine_fails m) = failing_good c n bottom ok w x ends s ls hs bl k m f
  still_good pl e l b (fine_error {k = kind} (has {x = y} h)) =
      only_good c n bottom s _ (fits_to c n bottom ok ends w x s g pc bl t p z f ls more hs k a l) (subst (λ m. Good c n bottom (faulting m
      kind s)) (sym h) (over tt))

  pub unary_good : {b d : Sort} {st : List Sort} {above : List Val} (fn : Val → Answer Val) (pl : Option Place) → All c n t above p.stack →
      p.stack ≡ b ∷ st → To c n p (d ∷ st) (suc pc) →
      ((u : Val) → Of c n t u b → Fine (MayFail c n p) (Has pl) (λ u. Of c n t u d) (fn u)) →
      Good c n bottom (unary fn pl w x s g ls (above ++ more) pc hs bl)
  unary_good {b = b} {st = st} {above = above} fn pl i e l h = have (subst (All c n t above) e i)
    where
      have : {above : List Val} → All c n t above (b ∷ st) → Good c n bottom (unary fn pl w x s g ls (above ++ more) pc hs bl)
      have (are_so {w = u} j r) = still_good pl (fn u) l r (h u j)

  pub binary_good : {b d e : Sort} {st : List Sort} {above : List Val} (fn : Val → Val → Answer Val) (pl : Option Place) →
      All c n t above p.stack → p.stack ≡ d ∷ b ∷ st → To c n p (e ∷ st) (suc pc) →
      ((u w : Val) → Of c n t u b → Of c n t w d → Fine (MayFail c n p) (Has pl) (λ u. Of c n t u e) (fn u w)) →
      Good c n bottom (binary fn pl w x s g ls (above ++ more) pc hs bl)
  binary_good {b = b} {d = d} {st = st} {above = above} fn pl i same l h = have (subst (All c n t above) same i)
    where
      have : {above : List Val} → All c n t above (d ∷ b ∷ st) → Good c n bottom (binary fn pl w x s g ls (above ++ more) pc hs bl)
      have (are_so {w = y} j (are_so {w = u} q r)) = still_good pl (fn u y) l r (h u y q j)

  pub add_good : {above : List Val} {j : ℕ} → Has (place_at c j) → All c n t above p.stack → Passes c n pc p (o.Add j) →
      Good c n bottom (act c (o.Add j) w x s g ls (above ++ more) pc hs bl)
  add_good {j = j} h b (r.of_add e fa fb l) =
      binary_good sum_of (place_at c j) b e l (λ u y i j. sum_fine c n h (is_up (parent_of n) i fa) (is_up (parent_of n) j fb))

  pub concat_good : {above : List Val} {j : ℕ} → Has (place_at c j) → All c n t above p.stack → Passes c n pc p (o.Concat j) →
      Good c n bottom (act c (o.Concat j) w x s g ls (above ++ more) pc hs bl)
  concat_good {j = j} h b (r.of_concat e fa fb l) =
      binary_good concat_of (place_at c j) b e l (λ u y i j. concat_fine c n h (is_up (parent_of n) i fa) (is_up (parent_of n) j fb))

  pub query_good : {above : List Val} → All c n t above p.stack → Passes c n pc p o.Query →
      Good c n bottom (act c o.Query w x s g ls (above ++ more) pc hs bl)
  query_good b (r.of_query e q m l) = unary_good query_of None b e l (λ u i. query_fine c n m q i)

  pub at_good : {above : List Val} → All c n t above p.stack → Passes c n pc p o.At →
      Good c n bottom (act c o.At w x s g ls (above ++ more) pc hs bl)
  at_good b (r.of_at e q m l) = binary_good at_of None b e l (λ u y i j. at_fine c n m q i j)

  pub load_good : {above : List Val} {m : ℕ} → All c n t above p.stack → Passes c n pc p (o.Load m) →
      Good c n bottom (act c (o.Load m) w x s g ls (above ++ more) pc hs bl)
  load_good {above = above} {m = m} b (r.of_load {a = d} {r = e} {st = st} is slot l) = have (subst (All c n t above) is b)
    where
      have : {above : List Val} → All c n t above (d ∷ st) → Good c n bottom (act c (o.Load m) w x s g ls (above ++ more) pc hs bl)
      have (are_so {w = u} {vs = vs} i rest) = through (read_fine c n ok s.memory.store s m z slot i)
        where
          through : (q : Answer Val) × (slot_read m u s ≡ still q s) × Fine (MayFail c n p) (Has None) (λ z. Of c n t z e) q →
              Good c n bottom (answered None (slot_read m u s) w x s g ls (vs ++ more) pc hs bl)
          through q =
              subst (λ y. Good c n bottom (answered None y w x s g ls (vs ++ more) pc hs bl)) (sym q.1) (still_good None q.0 l rest q.2)
