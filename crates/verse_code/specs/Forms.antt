-- The operations in the order of their codes, each with its operands and how it is made of them.
use Rattle.std.specs.Prelude.{ℕ, ℤ, List, [], ◌∷◌}
use Rattle.verse_code.specs.declared.operands.OperandKind.{OperandKind}
use Rattle.verse_code.specs.declared.operands.OperandKind.TheVariants.{Number, Char, Text, Place}
use Rattle.verse_code.specs.declared.operands.OperandKind.TheVariants.{Function, Class, Ahead}
use Rattle.verse_code.specs.declared.operands.OperandKind.TheVariants.{Behind, Mode}
use Rattle.verse_code.specs.declared.operands.OperandKind.TheVariants.{Group, Arms, Pause}
use Rattle.verse_code.specs.declared.operations.Op.{Op}
use Rattle.verse_code.specs.declared.operations.Op.TheVariants as o
use Rattle.verse_code.specs.declared.shapes.Shape.{Shape}
use Rattle.verse_code.specs.declared.shapes.Shape.TheVariants as s
use Rattle.verse_code.specs.declared.shapes.Parts.{Parts}

pub data Form : Type 0 where
  bare : Op → Form
  integer : (ℤ → Op) → Form
  one : OperandKind → (ℕ → Op) → Form
  two : OperandKind → OperandKind → (ℕ → ℕ → Op) → Form
  three : OperandKind → OperandKind → OperandKind → (ℕ → ℕ → ℕ → Op) → Form
  four : OperandKind → OperandKind → OperandKind → OperandKind → (ℕ → ℕ → ℕ → ℕ → Op) → Form

abbrev pub forms : List Form
forms =
    integer o.Int ∷
    bare o.Unit ∷
    bare o.False ∷
    bare o.True ∷
    one Char o.Char ∷
    one Text o.Text ∷
    two Number Number o.Enum ∷
    one Number o.Get ∷
    one Number o.Put ∷
    bare o.Drop ∷
    one Place o.Add ∷
    one Place o.Sub ∷
    one Place o.Mul ∷
    one Place o.Neg ∷
    one Place o.Floor ∷
    one Place o.Ceil ∷
    bare o.Mod ∷
    one Place o.Concat ∷
    two Number Place o.Join ∷
    bare o.Lt ∷
    bare o.Le ∷
    bare o.Gt ∷
    bare o.Ge ∷
    bare o.Eq ∷
    bare o.Ne ∷
    two Number Place o.Array ∷
    two Number Place o.Map ∷
    two Number Place o.Tuple ∷
    one Place o.Some ∷
    bare o.Query ∷
    one Number o.Item ∷
    bare o.At ∷
    bare o.Length ∷
    one Place o.New ∷
    one Number o.Load ∷
    four Number Number Mode Place o.Store ∷
    two Class Place o.Object ∷
    one Place o.Event ∷
    one Ahead o.Jump ∷
    one Ahead o.Same ∷
    one Behind o.Again ∷
    one Ahead o.Try ∷
    bare o.Commit ∷
    bare o.Undo ∷
    bare o.Fail ∷
    one Function o.Call ∷
    two Number Number o.Method ∷
    bare o.Return ∷
    one Number o.Each ∷
    one Number o.Range ∷
    three Number Number Behind o.Take ∷
    two Number Place o.Append ∷
    one Place o.Print ∷
    one Pause o.Sleep ∷
    bare o.Forever ∷
    bare o.AwaitTask ∷
    bare o.AwaitEvent ∷
    bare o.Signal ∷
    one Function o.Spawn ∷
    two Number Number o.SpawnMethod ∷
    three Group Arms Place o.Group ∷
    one Ahead o.Arm ∷
    one Ahead o.Branch ∷
    bare o.ArmEnd ∷
    one Ahead o.Defer ∷
    one Number o.Leave ∷
    bare o.DeferEnd ∷ []

-- what operands a form has
abbrev pub shape_of : Form → Shape
shape_of (bare op) = s.Bare
shape_of (integer f) = s.Integer
shape_of (one k f) = s.One k
shape_of (two k l f) = s.Two k l
shape_of (three k l m f) = s.Three k l m
shape_of (four k l m n f) = s.Four k l m n

-- the operation of a form with these operands
abbrev pub made : Parts → Form → Op
made p (bare op) = op
made p (integer f) = f p.integer
made p (one k f) = f p.a
made p (two k l f) = f p.a p.b
made p (three k l m f) = f p.a p.b p.c
made p (four k l m n f) = f p.a p.b p.c p.d
