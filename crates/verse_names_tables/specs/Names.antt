-- Names with what they stand for, in the order in which they came.
use Rattle.std.specs.Prelude.{ℕ, ◌+◌, Bool, true, false, cond, List, [], ◌∷◌, Option, Some, None}
use Rattle.std.specs.Prelude.{is_some, map}
use Rattle.std.specs.Str.{bytes_eq}
use Rattle.verse_tree.specs.Tree.{Bytes}
use Rattle.verse_tree.specs.declared.tables.Ref.{Ref}

abbrev pub one_further : Option ℕ → Option ℕ
one_further None = None
one_further (Some i) = Some (i + 1)

module _ {V : Type 0} where
  -- what a name stands for
  abbrev pub look : Bytes → List (Bytes × V) → Option V
  look x [] = None
  look x (e ∷ es) = cond (bytes_eq x e.0) (Some e.1) (look x es)

  -- where a name stands, from 0
  abbrev pub place : Bytes → List (Bytes × V) → Option ℕ
  place x [] = None
  place x (e ∷ es) = cond (bytes_eq x e.0) (Some 0) (one_further (place x es))

  -- a name stands for something else from now on, in its place; a new one goes last
  abbrev pub put : Bytes → V → List (Bytes × V) → List (Bytes × V)
  put x v [] = (x, v) ∷ []
  put x v (e ∷ es) = cond (bytes_eq x e.0) ((e.0, v) ∷ es) (e ∷ put x v es)

  abbrev pub put_absent : Option V → Bytes → V → List (Bytes × V) → List (Bytes × V)
  put_absent None x v es = put x v es
  put_absent (Some w) x v es = es

  -- a name that stands for something keeps that
  abbrev pub keep : Bytes → V → List (Bytes × V) → List (Bytes × V)
  keep x v es = put_absent (look x es) x v es

abbrev pub Table : Type 0
Table = List (Bytes × Ref)

abbrev pub meanings : Table → List Ref
meanings t = map (λ e. e.1) t

abbrev pub names : Table → List Bytes
names t = map (λ e. e.0) t

-- a table with what an item, a member or nothing adds
abbrev pub keep_named : Option (Bytes × Ref) → Table → Table
keep_named None t = t
keep_named (Some e) t = keep e.0 e.1 t

-- names, each with whether it came again
abbrev pub Roll : Type 0
Roll = List (Bytes × Bool)

abbrev pub called : Bytes → Roll → Roll
called x r = put x (is_some (look x r)) r

abbrev pub call_named : Option (Bytes × Ref) → Roll → Roll
call_named None r = r
call_named (Some e) r = called e.0 r

abbrev pub came_again : Option Bool → Bool
came_again None = false
came_again (Some again) = again

abbrev pub is_repeated : Bytes → Roll → Bool
is_repeated x r = came_again (look x r)

-- a list of names called in turn
abbrev pub call_all : List Bytes → Roll → Roll
call_all [] r = r
call_all (x ∷ xs) r = call_all xs (called x r)

-- a name of a list comes again
abbrev pub any_again : List Bytes → Roll → Bool
any_again [] r = false
any_again (x ∷ xs) r = cond (is_some (look x r)) true (any_again xs (called x r))
