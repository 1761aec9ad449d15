-- What the rules come to over chains of parents.
use Rattle.std.specs.Prelude.{◌≡◌, ℕ, ◌∷◌, Some, true, slice_get}
use Rattle.verse_code.specs.declared.codes.Func.{Func}
use Rattle.verse_code.specs.declared.codes.Class.{Class}
use Rattle.verse_code.specs.declared.codes.Code.{Code}
use Rattle.verse_sorts.specs.Sorts as s
use Rattle.verse_sorts.specs.Sorts.{Sort, Inherits}
use Rattle.verse_sorts.specs.Typing.{at}
use Rattle.verse_verify_kept.specs.Notes.{ClassNote, FuncNote, Point, Notes, parent_of, point_at}
use Rattle.verse_verify_kept.specs.Rules as r
use Rattle.verse_verify_kept.specs.Rules.{rest_of}

module _ (c : Code) (n : Notes) where
  -- the method that is called where the sort names another (V2, told over the chain of parents)
  pub record Called (class m : ℕ) (g : FuncNote) : Type 0 where
    pub made : Class
    pub is_class : slice_get c.classes class ≡ Some made
    pub number : ℕ
    pub is_method : slice_get made.methods m ≡ Some number
    pub func : Func
    pub is_func : slice_get c.functions number ≡ Some func
    pub note : FuncNote
    pub is_note : slice_get n.functions number ≡ Some note
    pub first : Sort
    pub params : note.params ≡ first ∷ rest_of g.params
    pub fits : r.Fit c n (s.obj class) first
    pub overrides : r.Overrides c n note g

  pub record Known : Type 0 where
    pub methods : (a b m : ℕ) (g : FuncNote) → Inherits (parent_of n) a b →
        r.Method c n (s.obj b) m g → Called a m g
    pub live : (i : ℕ) (p : Point) → point_at n i ≡ Some p → r.Sound c n i p
    pub noted : (k : ℕ) (f : Func) → slice_get c.functions k ≡ Some f → (g : FuncNote) ×
        (slice_get n.functions k ≡ Some g)
    pub begins : (k : ℕ) (f : Func) (g : FuncNote) → slice_get c.functions k ≡ Some f →
        slice_get n.functions k ≡ Some g → r.Begins c n f k g
    -- a class has the slots of those that it inherits from (V2, told over the chain of parents)
    pub slots : (a b : ℕ) (y : ClassNote) → Inherits (parent_of n) a b →
        slice_get n.classes b ≡ Some y → (x : ClassNote) × (slice_get n.classes a ≡ Some x) ×
        ((k : ℕ) (s : Sort) → at y.slots k ≡ Some s → at x.slots k ≡ Some s)
    pub either : (k : ℕ) (g : FuncNote) → slice_get n.functions k ≡ Some g → g.may_fail ≡ true →
        g.may_wait ≡ true → ⊥
