-- The functions of a code, one behind the other, as the builder has them.
use Rattle.std.specs.Prelude.{ℕ, List}
use Rattle.verse_tree.specs.declared.programs.Program.{Program}
use Rattle.verse_code.specs.declared.codes.Func.{Func}
use Rattle.verse_meaning.specs.Programs.{program_of}
use Rattle.lower_code.specs.Pieces.{Spot, Maker}
use Rattle.lower_code.specs.Programs.{Body, body_piece, bodies_from, func_of, funcs_from}
use Rattle.lower_lookup.specs.Types.{differ_of}
use Rattle.lower_expr.specs.Building.{Built, spot, with_locals, made}

module _ (p : Program) where
  abbrev pub body_code : Body → Maker
  body_code = body_piece (program_of p) (differ_of p)

  abbrev pub function_of : Spot → Body → Func
  function_of s b = func_of (program_of p) (differ_of p) s b (body_code b s)

  -- with a body behind what there is: the locals are those of the body
  abbrev pub with_body : Body → Built → Built
  with_body b so_far = made (body_code b) (with_locals 0 so_far)

  abbrev pub bodies_code : List Body → Maker
  bodies_code = bodies_from (program_of p) (differ_of p)

  abbrev pub functions_from : List Body → Spot → List Func
  functions_from = funcs_from (program_of p) (differ_of p)

  -- with all these bodies; the locals are no more counted
  abbrev pub with_bodies : List Body → Built → Built
  with_bodies bs so_far = with_locals 0 (made (bodies_code bs) so_far)
