-- What is read and written in the slots of cells, and cells that are made.
use Rattle.std.proofs.Common.{◌≡◌, ◌≢◌, ℕ, zero, suc, List, [], ◌∷◌, ◌++◌, length, Option, Some, None, Bool, true, false, refl, sym}
use Rattle.std.proofs.Common.{subst, ap}
use Rattle.std.specs.Prelude.{slice_get, slice_set, if◌then◌else◌}
use Rattle.std.proofs.lemmas.Option.{same_Some, none-some}
use Rattle.verse_base.specs.declared.refusals.Kind.TheVariants as kind
use Rattle.verse_value.specs.Val as v
use Rattle.verse_value.specs.Val.{Val}
use Rattle.verse_value.specs.Answer as a
use Rattle.verse_value.specs.Answer.{Answer, given_or}
use Rattle.verse_value.specs.Store.{Store, Cell, slot_of, with_cell_slot, stored, with_cell}
use Rattle.verse_value.specs.Storing.{read_slot, write_slot, with_written, write_in, add_cell}
use Rattle.verse_value.specs.declared.runs.CellKind.{CellKind}
use Rattle.verse_value.specs.declared.modes.Mode.{Mode}
use Rattle.verse_sorts.specs.Sorts as s
use Rattle.verse_sorts.specs.Sorts.{Sort, Inherits}
use Rattle.verse_sorts.specs.Typing.{at, Typing, Grows, Is, Are, are_no, are_so, is_object}
use Rattle.verse_sorts.proofs.Fitting.{is_more, are_more}
use Rattle.verse_sorts_values.specs.Operands.{Path, Writes}
use Rattle.verse_sorts_values.specs.Answers.{Answers, answers, answers_failure, answers_error}
use Rattle.verse_sorts_values.specs.Cells.{CellIs, var_is, object_is, event_is, CellsAre, cells_no, cells_so}
use Rattle.verse_sorts_values.proofs.Paths.{written}

var_same : (a b : Sort) → s.var a ≡ s.var b → a ≡ b
var_same a b e = cc

obj_same : (a b : ℕ) → s.obj a ≡ s.obj b → a ≡ b
obj_same a b e = cc

shifted : (m : Option Cell) (x : Cell) (cells : List Cell) (i k : ℕ) (u : Val) → with_cell_slot m (x ∷ cells) (suc i) k u ≡ x ∷
    with_cell_slot m cells i k u
shifted None x cells i k u = refl
shifted (Some y) x cells i k u = refl

pub at_more : {A : Type 0} (xs ys : List A) (i : ℕ) (x : A) → at xs i ≡ Some x → at (xs ++ ys) i ≡ Some x
at_more [] ys i x e = elim (none-some _ e) [ ]
at_more (y ∷ xs) ys zero x e = e
at_more (y ∷ xs) ys (suc i) x e = at_more xs ys i x e

pub at_end : {A : Type 0} (xs : List A) (x : A) → at (xs ++ x ∷ []) (length xs) ≡ Some x
at_end [] x = refl
at_end (y ∷ xs) x = at_end xs x

-- a value that is there, of its sort
pub data Slotted (up : ℕ → Option ℕ) (t : Typing) (m : Option Val) (a : Sort) : Type 0 where
  slotted : {u : Val} → m ≡ Some u → Is up t u a → Slotted up t m a

module _ (up : ℕ → Option ℕ) {t : Typing} where
  pub slot_there : {us : List Val} {xs : List Sort} {a : Sort} (k : ℕ) → Are up t us xs → at xs k ≡ Some a → Slotted up t (slice_get us k) a
  slot_there k are_no e = elim (none-some _ e) [ ]
  slot_there zero (are_so {w = u} i r) e = slotted refl (subst (Is up t u) (same_Some _ _ e) i)
  slot_there (suc k) (are_so i r) e = slot_there k r e

  set_are : {us : List Val} {xs : List Sort} {a : Sort} (k : ℕ) (u : Val) → Are up t us xs → at xs k ≡ Some a → Is up t u a →
      Are up t (slice_set us k u) xs
  set_are k u are_no e i = are_no
  set_are zero u (are_so j r) e i = are_so (subst (Is up t u) (sym (same_Some _ _ e)) i) r
  set_are (suc k) u (are_so j r) e i = are_so j (set_are k u r e i)

module _ (up : ℕ → Option ℕ) (slots : ℕ → List Sort) where
  pub cells_count : {t : Typing} {xs : List Cell} {ys : List Sort} → CellsAre up slots t xs ys → length xs ≡ length ys
  cells_count cells_no = refl
  cells_count (cells_so i r) = ap suc (cells_count r)

  pub cells_end : {t : Typing} {xs : List Cell} {ys : List Sort} (x : Cell) (a : Sort) → CellsAre up slots t xs ys →
      CellIs up slots t x.kind x.slots a → CellsAre up slots t (xs ++ x ∷ []) (ys ++ a ∷ [])
  cells_end x a cells_no j = cells_so j cells_no
  cells_end x a (cells_so i r) j = cells_so i (cells_end x a r j)

  pub cell_more : {t u : Typing} {kd : CellKind} {us : List Val} {a : Sort} → Grows t u → CellIs up slots t kd us a →
      CellIs up slots u kd us a
  cell_more g (var_is i) = var_is (is_more up g i)
  cell_more g (object_is i) = object_is (are_more up g i)
  cell_more g event_is = event_is

  pub cells_more : {t u : Typing} {xs : List Cell} {ys : List Sort} → Grows t u → CellsAre up slots t xs ys → CellsAre up slots u xs ys
  cells_more g cells_no = cells_no
  cells_more g (cells_so i r) = cells_so (cell_more g i) (cells_more g r)

  -- the cell of a sort
  pub data Cell_of (t : Typing) (m : Option Cell) (a : Sort) : Type 0 where
    cell_of : {x : Cell} → m ≡ Some x → CellIs up slots t x.kind x.slots a → Cell_of t m a

  pub cell_there : {t : Typing} {xs : List Cell} {ys : List Sort} {a : Sort} (i : ℕ) → CellsAre up slots t xs ys → at ys i ≡ Some a →
      Cell_of t (slice_get xs i) a
  cell_there i cells_no e = elim (none-some _ e) [ ]
  cell_there {t} zero (cells_so {x} i r) e = cell_of refl (subst (CellIs up slots t x.kind x.slots) (same_Some _ _ e) i)
  cell_there (suc i) (cells_so j r) e = cell_there i r e

  var_cell : {t : Typing} {kd : CellKind} {us : List Val} {a b : Sort} → CellIs up slots t kd us b → b ≡ s.var a →
      Slotted up t (slice_get us 0) a
  var_cell {t} (var_is {w} i) e = slotted refl (subst (Is up t w) (var_same _ _ e) i)
  var_cell (object_is i) e = cc
  var_cell event_is e = cc

  obj_cell : {t : Typing} {kd : CellKind} {us : List Val} {a b : Sort} {class : ℕ} (k : ℕ) → CellIs up slots t kd us b → b ≡ s.obj class →
      at (slots class) k ≡ Some a → Slotted up t (slice_get us k) a
  obj_cell k (var_is i) e l = cc
  obj_cell {a = a} k (object_is {class = c} i) e l = slot_there up k i (subst (λ z. at (slots z) k ≡ Some a) (sym (obj_same _ _ e)) l)
  obj_cell k event_is e l = cc

  slot_from : {t : Typing} {a b : Sort} (m : Option Cell) (k : ℕ) → Cell_of t m b →
      ((x : Cell) → CellIs up slots t x.kind x.slots b → Slotted up t (slice_get x.slots k) a) →
      Slotted up t (Rattle.std.specs.Prelude.option_and_then (λ (c : Cell). slice_get c.slots k) m) a
  slot_from {t} {a} m k (cell_of {x} e i) f =
      subst (λ z. Slotted up t (Rattle.std.specs.Prelude.option_and_then (λ (c : Cell). slice_get c.slots k) z) a) (sym e) (f x i)

  stored_are : {t : Typing} {cells : List Cell} {xs : List Sort} {a : Sort} (i k : ℕ) (u : Val) → CellsAre up slots t cells xs →
      at xs i ≡ Some a →
      ((kd : CellKind) (us : List Val) → CellIs up slots t kd us a → CellIs up slots t kd (slice_set us k u) a) →
      CellsAre up slots t (stored cells i k u) xs
  stored_are i k u cells_no e h = elim (none-some _ e) [ ]
  stored_are {t} zero k u (cells_so {x = x} {a = b} j r) e h =
      cells_so (subst (CellIs up slots t x.kind (slice_set x.slots k u)) (sym (same_Some _ _ e)) (h x.kind x.slots (subst
      (CellIs up slots t x.kind
      x.slots) (same_Some _ _ e) j))) r
  stored_are {t} (suc i) k u (cells_so {x = x} {xs = cells} {a = b} {ys = ys} j r) e h =
      subst (λ cells. CellsAre up slots t cells (b ∷ ys)) (sym (shifted (slice_get cells i) x cells i k u)) (cells_so j
      (stored_are i k u r e h))

  -- a slot that a value names: it is there, and takes a value of its sort
  pub data Names (t : Typing) (st : Store) (slot : ℕ) (b : Sort) : Val → Type 0 where
    names : {i : ℕ} {from : Val} → slot_of st i slot ≡ Some from → Is up t from b → ((u : Val) → Is up t u b →
        CellsAre up slots t (stored st i slot u) t.cells) → Names t st slot b (v.object i)

  pub variable_named : {t : Typing} {st : Store} {i : ℕ} {b : Sort} → CellsAre up slots t st t.cells → at t.cells i ≡ Some (s.var b) →
      Names t st 0 b (v.object i)
  variable_named {t} {st} {i} {b} z h = by (slot_from (slice_get st i) 0 (cell_there i z h) (λ x j. var_cell j refl))
    where
      sets : (u : Val) → Is up t u b → (kd : CellKind) (us : List Val) → CellIs up slots t kd us (s.var b) →
          CellIs up slots t kd (slice_set us 0 u) (s.var b)
      sets u j kd us (var_is i) = var_is j

      by : Slotted up t (slot_of st i 0) b → Names t st 0 b (v.object i)
      by (slotted e j) = names e j (λ u g. stored_are i 0 u z h (sets u g))

  -- a field, which every heir of its class has
  pub field_named : {t : Typing} {st : Store} {w : Val} {c slot : ℕ} {b : Sort} → ((d : ℕ) → Inherits up d c → at (slots d) slot ≡ Some b) →
      CellsAre up slots t st t.cells → Is up t w (s.obj c) → Names t st slot b w
  field_named {t} {st} {slot = slot} {b = b} heirs z (is_object {i} {c = heir} h k) =
      by (slot_from (slice_get st i) slot (cell_there i z h) (λ x j. obj_cell slot j refl (heirs heir k)))
    where
      sets : (u : Val) → Is up t u b → (kd : CellKind) (us : List Val) → CellIs up slots t kd us (s.obj heir) →
          CellIs up slots t kd (slice_set us slot u) (s.obj heir)
      sets u j kd us (object_is i) = object_is (set_are up slot u i (heirs heir k) j)

      by : Slotted up t (slot_of st i slot) b → Names t st slot b (v.object i)
      by (slotted e j) = names e j (λ u g. stored_are i slot u z h (sets u g))

  -- what is read, and what is written: the store is as it was typed, but for the value
  module _ {F E : Type 0} where
    pub read : {t : Typing} {b : Sort} (st : Store) (slot i : ℕ) → Slotted up t (slot_of st i slot) b →
        Answers F E (λ w. Is up t w b) (read_slot st i slot)
    read {t} {b} st slot i (slotted e j) = subst (λ m. Answers F E (λ w. Is up t w b) (given_or a.stuck m)) (sym e) (answers j)

    sized : {A : Type 0} {R : A → Type 0} (b : Bool) (x : A) → E → R x → Answers F E R (if b then a.gives x else a.error kind.Store)
    sized true x e i = answers i
    sized false x e i = answers_error e

    pub write : {t : Typing} (st : Store) (slot i : ℕ) {q : Sort} {m : Mode} {path : List Val} {is : List Sort} {x r w : Sort}
        (value from : Val) →
        slot_of st i slot ≡ Some from → Is up t from q → ((u : Val) → Is up t u q → CellsAre up slots t (stored st i slot u) t.cells) → E →
        (path ≢ [] → F) → Path q is r → Are up t path is → Writes up m x r w → Is up t value x →
        Answers F E (λ y. CellsAre up slots t y.0 t.cells × Is up t y.1 w) (write_slot st i slot path m value)
    write {t} st slot i {q} {m} {path} {w = w} value from e k sets err f p are h j =
        subst (λ z. Answers F E (λ y. CellsAre up slots t y.0 t.cells × Is up t y.1 w) (write_in st i slot path m value z)) (sym e)
        (over (written up from value err f p are k h j))
      where
        over : {x : Answer (Val × Val)} → Answers F E (λ y. Is up t y.0 q × Is up t y.1 w) x →
            Answers F E (λ y. CellsAre up slots t y.0 t.cells × Is up t y.1 w) (with_written st i slot x)
        over (answers {x} g) = sized _ (stored st i slot x.0, x.1) err (sets x.0 g.0, g.1)
        over (answers_failure g) = answers_failure g
        over (answers_error g) = answers_error g

    -- one cell more, of a sort in the typing that has it
    pub make : {t u : Typing} {st : Store} (x : Cell) (a : Sort) → E → Grows t u → u.cells ≡ t.cells ++ a ∷ [] →
        CellsAre up slots t st t.cells →
        CellIs up slots t x.kind x.slots a → Answers F E (λ z. CellsAre up slots u z u.cells) (add_cell st x)
    make {t} {u} {st} x a e g same z i =
        sized _ (with_cell st x) e (subst (CellsAre up slots u (with_cell st x)) (sym same) (cells_end x a (cells_more g z)
        (cell_more g i)))
