-- Where the arms of a group begin: between the beginning of the first and the end of the last.
use Rattle.std.proofs.Common.{◌≡◌, ℕ, suc, ◌≤◌, List, [], ◌∷◌, ◌++◌, length, Bool, ap, arith, subst, sym}
use Rattle.verse_tree.specs.Tree.{Trees, no_trees, more_trees}
use Rattle.verse_code.specs.declared.operations.Op.TheVariants as o
use Rattle.verse_meaning.specs.Programs.{Program}
use Rattle.lower_code.specs.Pieces.{Spot, Piece, Maker, behind, past, one, ◌then◌}
use Rattle.lower_code.specs.Scopes.{Scope}
use Rattle.lower_code.specs.Arounds.{fresh}
use Rattle.lower_code.specs.Lowering.{piece, task_arms, arm_spots, how_many}
use Rattle.lower_code.proofs.Standing.{behind_more, behind_least}
use Rattle.lower_bounds.proofs.Kept.{Between}

between_lower : (ls : List ℕ) (low more end : ℕ) → low ≤ more → Between ls more end → Between ls low end
between_lower [] low more end le h = tt
between_lower (l ∷ ls) low more end le h = ((omega (arith, le, h.0.0), h.0.1), between_lower ls low more end le h.1)

module _ (p : Program) (differ : ℕ → ℕ → Bool) where
  pub arms_many : (ts : Trees) (sc : Scope) (s : Spot) → length (arm_spots p differ ts sc s) ≡ how_many ts
  arms_many no_trees sc s = omega arith
  arms_many (more_trees b ts) sc s = ap suc (arms_many ts sc (past s ((piece p differ b sc fresh then one o.ArmEnd) s)))

  pub arms_between : (ts : Trees) (sc : Scope) (s : Spot) → Between (arm_spots p differ ts sc s) s.at
      (past s (task_arms p differ ts sc s)).at
  arms_between no_trees sc s = tt
  arms_between (more_trees b ts) sc s =
      let f : Maker = piece p differ b sc fresh then one o.ArmEnd in
      let q : Piece = f s in
      let r : Piece = task_arms p differ ts sc (past s q) in
      let end : behind (q.items ++ r.items) s.at ≡ behind r.items (behind q.items s.at) = behind_more q.items r.items s.at in
      let low : s.at ≤ behind q.items s.at = behind_least q.items s.at in
      let high : behind q.items s.at ≤ behind r.items (behind q.items s.at) = behind_least r.items (behind q.items s.at) in (
        (omega arith, omega (arith, end, low, high)),
        subst (λ e. Between (arm_spots p differ ts sc (past s q)) s.at e) (sym end)
            (between_lower (arm_spots p differ ts sc (past s q)) s.at (past s q).at (past (past s q) r).at low
            (arms_between ts sc (past s q))),
      )
