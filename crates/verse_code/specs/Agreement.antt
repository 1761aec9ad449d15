-- The operations as cases, and their table: that the two agree.
use Rattle.std.specs.Prelude.{◌≡◌, ℕ, suc, ℤ, pos, List, [], ◌∷◌, Some, slice_get}
use Rattle.verse_code.specs.declared.operands.Operands.{Operands}
use Rattle.verse_code.specs.declared.operands.Operands.TheVariants as os
use Rattle.verse_code.specs.declared.operations.Op.{Op}
use Rattle.verse_code.specs.declared.shapes.Shape.{Shape}
use Rattle.verse_code.specs.declared.shapes.Shape.TheVariants as s
use Rattle.verse_code.specs.declared.shapes.Parts.{Parts}
use Rattle.verse_code.specs.Operations.{code_of, operands_of}
use Rattle.verse_code.specs.Forms.{Form, forms, shape_of, made}

-- the operands of a shape that are made of these numbers
abbrev pub filled : Parts → Shape → Operands
filled p s.Bare = os.Bare
filled p s.Integer = os.Integer p.integer
filled p (s.One k) = os.One (record { 0 = k; 1 = p.a })
filled p (s.Two k l) = os.Two (record { 0 = k; 1 = p.a }) (record { 0 = l; 1 = p.b })
filled p (s.Three k l m) = os.Three (record { 0 = k; 1 = p.a }) (record { 0 = l; 1 = p.b })
    (record { 0 = m; 1 = p.c })
filled p (s.Four k l m n) = os.Four (record { 0 = k; 1 = p.a }) (record { 0 = l; 1 = p.b })
    (record { 0 = m; 1 = p.c }) (record { 0 = n; 1 = p.d })

-- the shape of operands
abbrev pub shape_for : Operands → Shape
shape_for os.Bare = s.Bare
shape_for (os.Integer n) = s.Integer
shape_for (os.One a) = s.One a.0
shape_for (os.Two a b) = s.Two a.0 b.0
shape_for (os.Three a b c) = s.Three a.0 b.0 c.0
shape_for (os.Four a b c d) = s.Four a.0 b.0 c.0 d.0

abbrev pub parts : ℤ → ℕ → ℕ → ℕ → ℕ → Parts
parts n a b c d = record { integer = n; a = a; b = b; c = c; d = d }

-- the numbers of operands
abbrev pub parts_for : Operands → Parts
parts_for os.Bare = parts (pos 0) 0 0 0 0
parts_for (os.Integer n) = parts n 0 0 0 0
parts_for (os.One a) = parts (pos 0) a.1 0 0 0
parts_for (os.Two a b) = parts (pos 0) a.1 b.1 0 0
parts_for (os.Three a b c) = parts (pos 0) a.1 b.1 c.1 0
parts_for (os.Four a b c d) = parts (pos 0) a.1 b.1 c.1 d.1

-- The forms from a code on make operations of their codes, with their operands
abbrev pub Right : ℕ → List Form → Type 0
Right code [] = Unit {0}
Right code (f ∷ fs) = ((p : Parts) → (code_of (made p f) ≡ code) ×
    (operands_of (made p f) ≡ filled p (shape_of f))) × Right (suc code) fs

-- an operation stands in the table at its code, and its operands make it
pub record HasForm (op : Op) : Type 0 where
  pub form : Form
  pub at : slice_get forms (code_of op) ≡ Some form
  pub makes : made (parts_for (operands_of op)) form ≡ op
  pub shaped : shape_of form ≡ shape_for (operands_of op)

abbrev pub AllHaveForms : Type 0
AllHaveForms = (op : Op) → HasForm op
