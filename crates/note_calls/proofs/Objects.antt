-- The object of a callee.
use Rattle.std.proofs.Common.{◌≡◌, sym, ap, ◌∙◌}
use Rattle.verse_base.specs.declared.places.Place.{Place}
use Rattle.verse_tree.specs.Tree.{Tree, Trees}
use Rattle.verse_tree.specs.declared.programs.Program.{Program}
use Rattle.verse_meaning.specs.Programs.{program_of}
use Rattle.verse_meaning.specs.Residuals.{Form}
use Rattle.verse_meaning.specs.Evaluating.{callee_of, spawned_callee, of_object}
use Rattle.lower_code.specs.Scopes.{Scope}
use Rattle.lower_code.specs.declared.arounds.Around.{Around}
use Rattle.lower_calls.specs.Views.{object_of}
use Rattle.lower_calls.proofs.Steps.{spawned_object}
use Rattle.lower_notes.specs.Stretches.{◌then◌}
use Rattle.note_stretches.specs.Noted.{Noted, walked}
use Rattle.note_calls.specs.Calls.{object_walk, behind_walk, member_walk}
use Rattle.note_calls.proofs.Seen.{object_is}

module _ (p : Program) (b : Tree) (ts : Trees) (sc : Scope) (a : Around) (f whole : Form) (pl : Place)
    (x all : Noted) where
  pub with_object : of_object f ≡ callee_of (program_of p) b whole pl →
      all ≡ walked (object_walk p (object_of b) sc a then behind_walk p ts sc a f) x →
      all ≡ walked (member_walk p b ts sc a f) x
  with_object e is =
      is ∙ ap (λ m. walked (m then behind_walk p ts sc a f) x) (sym (object_is p sc a b whole f pl (sym e)))

  pub spawned_with : of_object f ≡ spawned_callee (callee_of (program_of p) b whole pl) →
      all ≡ walked (object_walk p (object_of b) sc a then behind_walk p ts sc a f) x →
      all ≡ walked (member_walk p b ts sc a f) x
  spawned_with e is =
      spawned_object (callee_of (program_of p) b whole pl) f (sym e) (λ g h.
      is ∙ ap (λ m. walked (m then behind_walk p ts sc a f) x) (sym (object_is p sc a b whole g pl h)))
