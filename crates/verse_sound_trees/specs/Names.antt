-- Names that are bound as the checker has them.
use Rattle.std.specs.Prelude.{◌≡◌, ℕ, Bool, true, false, Option, Some, None}
use Rattle.verse_tree.specs.Tree.{Bytes}
use Rattle.verse_tree.specs.declared.tables.Ref.TheVariants as ref
use Rattle.verse_value.specs.Val.{Val}
use Rattle.verse_names_tables.specs.Names as names
use Rattle.verse_names_tables.specs.Names.{Table}
use Rattle.verse_sorts.specs.Sorts as s
use Rattle.verse_sorts.specs.Sorts.{Sort}
use Rattle.verse_sorts.specs.Typing.{at, Typing, Is}
use Rattle.verse_meaning.specs.Residuals.{Env, Bound, constant, variable}
use Rattle.verse_meaning.specs.Forms as forms
use Rattle.verse_sound_rules.specs.Found.{Found}

module _ (f : Found) where
  -- what a name is bound to; the mark says whether it is a variable
  pub data Holds (t : Typing) : Sort → Bool → Option Bound → Type 0 where
    holds_value : {w : Val} {a : Sort} → Is f.up t w a → Holds t a false (Some (constant w))
    holds_cell : {c : ℕ} {a : Sort} → at t.cells c ≡ Some (s.var a) →
        Holds t a true (Some (variable c))

  -- the object of a method, where there is one
  pub data HasThis (t : Typing) : Option ℕ → Option Val → Type 0 where
    no_this : HasThis t None None
    this_is : {c : ℕ} {w : Val} → Is f.up t w (s.obj c) → HasThis t (Some c) (Some w)

  -- each local name that the checker sees stands in the environment, with what its node has, and so
  -- does `Self`
  pub record Sees (t : Typing) (class : Option ℕ) (xs : Table) (e : Env) : Type 0 where
    pub locals : (x : Bytes) (n : ℕ) → names.look x xs ≡ Some (ref.Local n) →
        Holds t (f.sort n) (f.is_var n) (forms.look x e)
    pub keys : (x : Bytes) (n : ℕ) → names.look x xs ≡ Some (ref.Key n) →
        Holds t (f.key n) false (forms.look x e)
    pub this : HasThis t class (forms.this_of e)
