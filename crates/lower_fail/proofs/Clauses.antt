-- Statements, clauses and arms of a `case`, by the calls that stand between their parts.
use Rattle.std.proofs.Common.{◌≡◌, ℕ, suc, length, Bool, true, false, refl, ap, ◌∙◌}
use Rattle.verse_tree.specs.Tree.{Tree, Shape}
use Rattle.verse_code.specs.declared.operations.Op.TheVariants as o
use Rattle.verse_meaning.specs.Programs.{Program}
use Rattle.verse_meaning.specs.Residuals.{Binder, Generator}
use Rattle.verse_meaning.specs.Evaluating.{plain, defines, defers, generates}
use Rattle.lower_code.specs.Pieces.{Maker, one, stuck, turning, ◌then◌}
use Rattle.lower_code.specs.Scopes.{Scope}
use Rattle.lower_code.specs.Lowering.{bind, with_binder, with_generator, taking, stated, claused, arm_by, pattern_op}
use Rattle.lower_expr.specs.Building.{Built, pushed, with_local, ended_here, made}
use Rattle.lower_expr.proofs.Laws.{made_then, made_one}
use Rattle.lower_fail.specs.Attempts.{turns_begun, turns_ended, same_begun, other_begun, defer_ended}
use Rattle.lower_fail.proofs.Forms.{turning_law, defer_law, same_law, any_law}

module _ (p : Program) (k : ℕ → ℕ → Bool) (sc : Scope) where
  pub stated_plain : (whole inner : Maker) (b : Built) → made (stated p k plain sc whole inner) b ≡ made whole b
  unfolding stated
  stated_plain whole inner b = refl

  pub stated_defines : (x : Binder) (whole inner : Maker) (b : Built) →
      made (stated p k (defines x) sc whole inner) b ≡ made (bind x (length sc)) (made inner b)
  unfolding stated
  stated_defines x whole inner b = made_then inner (bind x (length sc)) b

  pub stated_defers : (d : Tree) (whole inner : Maker) (b : Built) →
      made (stated p k (defers d) sc whole inner) b ≡ defer_ended (length b.ops) (made inner (pushed (o.Defer 0) b))
  unfolding stated
  stated_defers d whole inner b = defer_law inner b

  pub stated_generates : (g : Generator) (whole inner : Maker) (b : Built) → made (stated p k (generates g) sc whole inner) b ≡ made stuck b
  unfolding stated
  stated_generates g whole inner b = refl

  pub claused_plain : (whole inner : Maker) (rest : Scope → Maker) (b : Built) →
      made (claused p k plain sc whole inner rest) b ≡ made (rest sc) (pushed o.Drop (made whole b))
  unfolding claused
  claused_plain whole inner rest b =
      made_then whole (one o.Drop then rest sc) b ∙ made_then (one o.Drop) (rest sc) (made whole b) ∙
      ap (made (rest sc)) (made_one o.Drop (made whole b))

  pub claused_defines : (x : Binder) (whole inner : Maker) (rest : Scope → Maker) (b : Built) →
      made (claused p k (defines x) sc whole inner rest) b ≡
      made (rest (with_binder x sc)) (pushed o.Drop (made (bind x (length sc)) (made inner b)))
  unfolding claused
  claused_defines x whole inner rest b =
      let f : Maker = bind x (length sc) in
      let r : Maker = rest (with_binder x sc) in
      made_then inner (f then one o.Drop then r) b ∙ made_then f (one o.Drop then r) (made inner b) ∙
      made_then (one o.Drop) r (made f (made inner b)) ∙ ap (made r) (made_one o.Drop (made f (made inner b)))

  pub claused_defers : (d : Tree) (whole inner : Maker) (rest : Scope → Maker) (b : Built) →
      made (claused p k (defers d) sc whole inner rest) b ≡ made stuck b
  unfolding claused
  claused_defers d whole inner rest b = refl

  -- the rest stands in the turns of the generator
  pub claused_generates : (g : Generator) (whole inner : Maker) (rest : Scope → Maker) (b : Built) →
      made (claused p k (generates g) sc whole inner rest) b ≡
      turns_ended (length (pushed (taking g (length sc)) (pushed o.Commit (with_local (suc (suc (suc (length sc)))) (made inner b)))).ops)
      (length sc) (made (rest (with_generator g sc)) (turns_begun (taking g (length sc)) (length sc) (made inner b)))
  unfolding claused
  claused_generates g whole inner rest b =
      made_then inner (turning (taking g (length sc)) (length sc) (rest (with_generator g sc))) b
      ∙ turning_law (taking g (length sc)) (length sc) (rest (with_generator g sc)) (made inner b)

module _ (p : Program) (k : ℕ → ℕ → Bool) (s : Shape) (l : ℕ) (body rest : Maker) (b : Built) where
  pub arm_last : (any : Bool) → made (arm_by p k s l true any body rest) b ≡ made body b
  unfolding arm_by
  arm_last any = refl

  pub arm_any : made (arm_by p k s l false true body rest) b ≡
      ended_here (length (made body b).ops) (made rest (pushed (o.Jump 0) (made body b)))
  unfolding arm_by
  arm_any = any_law body rest b

  pub arm_same : made (arm_by p k s l false false body rest) b ≡
      (let y = made (pattern_op p k s) b in let x = made body (same_begun l y) in
      ended_here (length x.ops) (made rest (other_begun (length (pushed (o.Get l) y).ops) x)))
  unfolding arm_by
  arm_same = same_law (pattern_op p k s) l body rest b
