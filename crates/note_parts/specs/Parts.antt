-- A function value that notes the parts of forms.
use Rattle.std.specs.Prelude.{◌≡◌, ℕ, ◌<◌, Result, OnOk}
use Rattle.verse_base.specs.declared.places.Place.{Place}
use Rattle.verse_base.specs.declared.refusals.Memory.{Memory}
use denote.Ref.{Bor, MutBor}
use Rattle.verse_tree.specs.Tree.{Tree, Shape, Trees}
use Rattle.verse_tree.specs.View.{tree_of}
use Rattle.verse_tree.specs.declared.exprs.Expr.{Expr}
use Rattle.verse_tree.specs.declared.programs.Program.{Program}
use Rattle.verse_meaning.specs.Programs.{program_of}
use Rattle.lower_code.specs.Scopes.{Scope}
use Rattle.lower_code.specs.declared.arounds.Around.{Around}
use Rattle.lower_lookup.specs.Types.{differ_of}
use Rattle.lower_expr.specs.Locals.{scope_of}
use Rattle.lower_expr.specs.declared.scopes.Scopes.{Scopes}
use Rattle.lower_items.specs.declared.tables.Tables.{Tables}
use Rattle.lower_notes.specs.Stretches.{Walk}
use Rattle.lower_notes.specs.Noting.{walk, shape_walk, args}
use Rattle.note_sorts.specs.Tabled.{found_of}
use Rattle.note_stretches.specs.Noted.{noted, walked}
use Rattle.note_stretches.specs.declared.noting.Noting.{Noting}

-- the states of a tree, of a form whose node has the number n, and of operands, in a program
module _ (p : Program) where
  abbrev pub tree_walk : Tree → Scope → Around → Walk
  tree_walk = walk (program_of p) (found_of p) (differ_of p)

  abbrev pub form_walk : Shape → (n : ℕ) → Place → Scope → Around → Walk
  form_walk = shape_walk (program_of p) (found_of p) (differ_of p)

  abbrev pub operands_walk : Trees → Scope → Around → Walk
  operands_walk = args (program_of p) (found_of p) (differ_of p)

-- the place of a form whose states do not depend on it
abbrev pub no_place : Place
no_place = record { file = 0; line = 0; col = 0 }

-- what a call of a function value that notes trees asks and answers
abbrev pub Asks : Type 1
Asks = Bor Tables → (depth : ℕ) → MutBor Noting → MutBor Scopes → Around → Bor Expr → Type 0

abbrev pub Answers : Type 1
Answers = Bor Tables → (depth : ℕ) → MutBor Noting → MutBor Scopes → Around → Bor Expr →
    Result (Unit {0}) Memory → MutBor Noting → MutBor Scopes → Type 0

-- a function value that notes trees, for lesser depths than `most`: it may be called, it adds
-- the states of the tree, and it leaves the scope as it was
pub record Notes (most : ℕ) (pre : Asks) (post : Answers) : Type 0 where
  pub callable : (t : Bor Tables) (depth : ℕ) (b : MutBor Noting) (sc : MutBor Scopes)
      (a : Around) (e : Bor Expr) → depth < most → pre t depth b sc a e
  pub notes : (t : Bor Tables) (depth : ℕ) (b : MutBor Noting) (sc : MutBor Scopes)
      (a : Around) (e : Bor Expr) (r : Result (Unit {0}) Memory) (b' : MutBor Noting)
      (sc' : MutBor Scopes) → post t depth b sc a e r b' sc' →
      OnOk r (noted b'.now ≡
      walked (tree_walk t.now.program.now (tree_of e.now) (scope_of sc.now) a) (noted b.now))
  pub keeps : (t : Bor Tables) (depth : ℕ) (b : MutBor Noting) (sc : MutBor Scopes)
      (a : Around) (e : Bor Expr) (r : Result (Unit {0}) Memory) (b' : MutBor Noting)
      (sc' : MutBor Scopes) → post t depth b sc a e r b' sc' →
      OnOk r (scope_of sc'.now ≡ scope_of sc.now)
