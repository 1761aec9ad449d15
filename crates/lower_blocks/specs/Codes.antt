-- The code of the parts of forms with blocks, in a program.
use Rattle.std.specs.Prelude.{ℕ, [], ◌∷◌, length}
use Rattle.verse_tree.specs.Tree.{Tree, Trees, Shape}
use Rattle.verse_tree.specs.Tree as t
use Rattle.verse_tree.specs.declared.programs.Program.{Program}
use Rattle.verse_meaning.specs.Programs.{program_of}
use Rattle.verse_meaning.specs.Evaluating.{statement_of}
use Rattle.verse_code.specs.declared.operations.Op.TheVariants as o
use Rattle.lower_code.specs.Pieces.{Maker, one, stuck, ◌then◌}
use Rattle.lower_code.specs.Scopes.{Scope, hidden}
use Rattle.lower_code.specs.Arounds.{up, enclosed}
use Rattle.lower_code.specs.Lowering.{inner, stated, around_stated, claused, levels}
use Rattle.lower_code.specs.Lowering.{statements, more_statements}
use Rattle.lower_code.specs.declared.arounds.Around.{Around}
use Rattle.lower_lookup.specs.Types.{differ_of}
use Rattle.lower_parts.specs.Parts.{tree_code}
use Rattle.lower_blocks.specs.Insides.{Inside, nothing_inside, one_part, deferred, both_ends}

-- definitions, whose code does not look at their names and types
abbrev pub constant_shape : Tree → Shape
constant_shape = t.Shape.definition []

abbrev pub variable_shape : Tree → Shape
variable_shape = t.Shape.variable [] t.Written.void

module _ (p : Program) where
  -- what stands in a statement or a clause, and by what it is
  abbrev pub inner_code : Tree → Scope → Around → Maker
  inner_code = inner (program_of p) (differ_of p)

  abbrev pub inside_code : Inside → Scope → Around → Maker
  inside_code nothing_inside sc a = stuck
  inside_code (one_part e) sc a = tree_code p e sc a
  inside_code (deferred e) sc a = tree_code p e sc (enclosed a)
  inside_code (both_ends e f) sc a = tree_code p e sc a then tree_code p f sc (up a)

  -- a statement; statements, and those behind the first
  abbrev pub stated_code : Tree → Scope → Around → Maker
  stated_code t sc a =
      stated (program_of p) (differ_of p) (statement_of t) sc (tree_code p t sc a)
      (inner_code t sc a)

  -- where the statements behind it stand
  abbrev pub around_behind : Tree → Around → Around
  around_behind t = around_stated (program_of p) (differ_of p) (statement_of t)

  abbrev pub statements_code : Trees → Scope → Around → Maker
  statements_code = statements (program_of p) (differ_of p)

  abbrev pub more_code : Trees → Scope → Around → Maker
  more_code = more_statements (program_of p) (differ_of p)

  -- a clause of a `for` with what comes behind it, and clauses with what comes behind the last
  abbrev pub claused_code : Tree → Scope → Around → (rest : Scope → Maker) → Maker
  claused_code t sc a rest =
      claused (program_of p) (differ_of p) (statement_of t) sc (tree_code p t sc a)
      (inner_code t sc a) rest

  abbrev pub levels_code : Trees → Scope → Around → (rest : Scope → Maker) → Maker
  levels_code cs sc a rest = levels (program_of p) (differ_of p) cs sc a rest

  -- the body of a `for` whose result is in local l, and whose place has number m
  abbrev pub body_code : Tree → Around → (l m : ℕ) → Scope → Maker
  body_code t a l m sc = one o.Commit then tree_code p t sc a then one (o.Append l m)

  -- what stands in the attempt of a `for`
  abbrev pub for_code : Trees → Tree → Scope → Around → (m : ℕ) → Maker
  for_code cs t sc a m = levels_code cs (hidden ∷ sc) (enclosed a) (body_code t a (length sc) m)
