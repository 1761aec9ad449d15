-- A function value that lowers the parts of forms.
use Rattle.std.specs.Prelude.{◌≡◌, ℕ, ◌<◌, ◌++◌, Result, OnOk}
use Rattle.verse_base.specs.declared.places.Place.{Place}
use Rattle.verse_base.specs.declared.refusals.Memory.{Memory}
use denote.Ref.{Bor, MutBor}
use Rattle.verse_tree.specs.Tree.{Tree, Shape, Trees}
use Rattle.verse_tree.specs.View.{tree_of}
use Rattle.verse_tree.specs.declared.exprs.Expr.{Expr}
use Rattle.verse_tree.specs.declared.programs.Program.{Program}
use Rattle.verse_meaning.specs.Programs.{program_of}
use Rattle.lower_code.specs.Pieces.{Maker}
use Rattle.lower_code.specs.Scopes.{Scope}
use Rattle.lower_code.specs.Lowering.{piece, shape_piece, args}
use Rattle.lower_code.specs.declared.arounds.Around.{Around}
use Rattle.lower_lookup.specs.Types.{differ_of}
use Rattle.lower_expr.specs.Building.{built, made}
use Rattle.lower_expr.specs.Locals.{scope_of}
use Rattle.lower_expr.specs.declared.builder.Builder.{Builder}
use Rattle.lower_expr.specs.declared.scopes.Scopes.{Scopes}
use Rattle.lower_items.specs.declared.tables.Tables.{Tables}

-- the code of a tree, of a form whose node has the number n, and of operands, in a program
module _ (p : Program) where
  abbrev pub tree_code : Tree → Scope → Around → Maker
  tree_code = piece (program_of p) (differ_of p)

  abbrev pub form_code : Shape → (n : ℕ) → Place → Scope → Around → Maker
  form_code = shape_piece (program_of p) (differ_of p)

  abbrev pub operands_code : Trees → Scope → Around → Maker
  operands_code = args (program_of p) (differ_of p)

-- the place of a form whose code does not look at it
abbrev pub no_place : Place
no_place = record { file = 0; line = 0; col = 0 }

-- a scope with more slots
abbrev pub Grown : (old new : Scope) → Type 0
Grown old new = (added : Scope) × (new ≡ added ++ old)

-- what a call of a function value that lowers trees asks and answers
abbrev pub Asks : Type 1
Asks = Bor Tables → (depth : ℕ) → MutBor Builder → MutBor Scopes → Around → Bor Expr → Type 0

abbrev pub Answers : Type 1
Answers = Bor Tables → (depth : ℕ) → MutBor Builder → MutBor Scopes → Around → Bor Expr →
    Result (Unit {0}) Memory → MutBor Builder → MutBor Scopes → Type 0

-- a function value that lowers trees, for lesser depths than `most`: it may be called, it adds
-- the code of the tree, and it leaves the scope as it was
pub record Lowers (most : ℕ) (pre : Asks) (post : Answers) : Type 0 where
  pub callable : (t : Bor Tables) (depth : ℕ) (b : MutBor Builder) (sc : MutBor Scopes)
      (a : Around) (e : Bor Expr) → depth < most → pre t depth b sc a e
  pub lowers : (t : Bor Tables) (depth : ℕ) (b : MutBor Builder) (sc : MutBor Scopes)
      (a : Around) (e : Bor Expr) (r : Result (Unit {0}) Memory) (b' : MutBor Builder)
      (sc' : MutBor Scopes) → post t depth b sc a e r b' sc' →
      OnOk r (built b'.now ≡
      made (tree_code t.now.program.now (tree_of e.now) (scope_of sc.now) a) (built b.now))
  pub keeps : (t : Bor Tables) (depth : ℕ) (b : MutBor Builder) (sc : MutBor Scopes)
      (a : Around) (e : Bor Expr) (r : Result (Unit {0}) Memory) (b' : MutBor Builder)
      (sc' : MutBor Scopes) → post t depth b sc a e r b' sc' →
      OnOk r (scope_of sc'.now ≡ scope_of sc.now)
