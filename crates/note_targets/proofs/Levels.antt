-- The indices of a target, from the first to the last.
use Rattle.std.proofs.Common.{◌≡◌, ℕ, ◌+◌, ◌<◌, ◌≤◌, refl, sym, ap, ◌∙◌, arith}
use Rattle.verse_tree.specs.Tree.{Tree, tree, Shape}
use Rattle.verse_tree.specs.Tree as t
use Rattle.verse_tree.specs.declared.programs.Program.{Program}
use Rattle.verse_meaning.specs.Programs.{program_of}
use Rattle.verse_meaning.specs.Residuals.{Base}
use Rattle.lower_code.specs.Scopes.{Scope}
use Rattle.lower_code.specs.declared.arounds.Around.{Around}
use Rattle.lower_code.specs.Lowering.{target_operands, target_operands_shape}
use Rattle.lower_lookup.specs.Types.{differ_of}
use Rattle.lower_calls.specs.Aims.{Aimed, at_name, at_member, at_index, at_other, aimed, aimed_in, levels, levels_in}
use Rattle.lower_calls.specs.Aims.{before, beneath, under}
use Rattle.lower_calls.proofs.Indices.{operands_at, levels_at, levels_are, levels_under}
use Rattle.lower_calls.proofs.Indices.{behind_one, one_left}
use Rattle.lower_notes.specs.Stretches.{◌then◌}
use Rattle.lower_notes.specs.Noting.{target_shape}
use Rattle.note_sorts.specs.Tabled.{found_of}
use Rattle.note_stretches.specs.Noted.{Noted, walked}
use Rattle.note_stretches.proofs.Laws.{walked_then}
use Rattle.note_targets.specs.Targets.{bottom_walk, level_walk, target_walk, aim_walk}

module _ (p : Program) (base : Base) (sc : Scope) (a : Around) where
  abbrev Aims : Shape → Type 0
  Aims s = (target_shape (program_of p) (found_of p) (differ_of p) s base sc a ≡ aim_walk p (aimed_in s) base sc a)
      × (target_operands_shape s ≡ operands_at (aimed_in s)) × (levels_in s ≡ levels_at (aimed_in s))

  -- a shape is what it is as a target
  aims : (s : Shape) → Aims s
  aims (t.Shape.block ts) = (refl, refl, refl)
  aims (t.Shape.defer a) = (refl, refl, refl)
  aims (t.Shape.definition x a) = (refl, refl, refl)
  aims (t.Shape.typed x w a) = (refl, refl, refl)
  aims (t.Shape.variable x w a) = (refl, refl, refl)
  aims (t.Shape.assignment x a b) = (refl, refl, refl)
  aims (t.Shape.returned a) = (refl, refl, refl)
  aims t.Shape.returned_unit = (refl, refl, refl)
  aims t.Shape.break_form = (refl, refl, refl)
  aims (t.Shape.if_else ts a b) = (refl, refl, refl)
  aims (t.Shape.if_alone ts a) = (refl, refl, refl)
  aims (t.Shape.chained x a b) = (refl, refl, refl)
  aims (t.Shape.compared x a b) = (refl, refl, refl)
  aims (t.Shape.negation a) = (refl, refl, refl)
  aims (t.Shape.minus a) = (refl, refl, refl)
  aims (t.Shape.call a ts) = (refl, refl, refl)
  aims (t.Shape.index a ts) = (refl, refl, refl)
  aims (t.Shape.member a x) = (refl, refl, refl)
  aims (t.Shape.query a) = (refl, refl, refl)
  aims (t.Shape.integer x) = (refl, refl, refl)
  aims (t.Shape.character x) = (refl, refl, refl)
  aims (t.Shape.text x) = (refl, refl, refl)
  aims (t.Shape.holes x hs) = (refl, refl, refl)
  aims t.Shape.truth = (refl, refl, refl)
  aims t.Shape.falsehood = (refl, refl, refl)
  aims t.Shape.this = (refl, refl, refl)
  aims (t.Shape.name x) = (refl, refl, refl)
  aims (t.Shape.tuple ts) = (refl, refl, refl)
  aims (t.Shape.array ts) = (refl, refl, refl)
  aims (t.Shape.option ts) = (refl, refl, refl)
  aims (t.Shape.logic ts) = (refl, refl, refl)
  aims (t.Shape.mapping ps) = (refl, refl, refl)
  aims (t.Shape.instance x gs) = (refl, refl, refl)
  aims (t.Shape.event w) = (refl, refl, refl)
  aims t.Shape.bare_event = (refl, refl, refl)
  aims (t.Shape.for_form ts a) = (refl, refl, refl)
  aims (t.Shape.loop_form a) = (refl, refl, refl)
  aims (t.Shape.block_form a) = (refl, refl, refl)
  aims (t.Shape.branch a) = (refl, refl, refl)
  aims (t.Shape.sync ts) = (refl, refl, refl)
  aims (t.Shape.race ts) = (refl, refl, refl)
  aims (t.Shape.rush ts) = (refl, refl, refl)
  aims (t.Shape.cases a ts) = (refl, refl, refl)
  aims (t.Shape.spawn a) = (refl, refl, refl)
  aims (t.Shape.sleep x) = (refl, refl, refl)
  aims t.Shape.sleep_forever = (refl, refl, refl)
  aims (t.Shape.elements x a) = (refl, refl, refl)
  aims (t.Shape.entries x y a) = (refl, refl, refl)
  aims (t.Shape.range x a b) = (refl, refl, refl)
  aims (t.Shape.arm a b) = (refl, refl, refl)
  aims (t.Shape.integer_pattern x) = (refl, refl, refl)
  aims (t.Shape.minus_pattern x) = (refl, refl, refl)
  aims (t.Shape.character_pattern x) = (refl, refl, refl)
  aims (t.Shape.text_pattern x) = (refl, refl, refl)
  aims t.Shape.truth_pattern = (refl, refl, refl)
  aims t.Shape.falsehood_pattern = (refl, refl, refl)
  aims t.Shape.any_pattern = (refl, refl, refl)
  aims (t.Shape.enum_pattern x y) = (refl, refl, refl)

  walk_at : (b : Tree) → target_walk p b base sc a ≡ aim_walk p (aimed b) base sc a
  walk_at (tree n pl s) = (aims s).0

  -- where no index is left
  bottom_is : (b : Tree) → levels b ≡ 0 → target_walk p b base sc a ≡ bottom_walk p (aimed b) base sc a
  bottom_is b h = by (aimed b) refl
    where
      same : (m : Aimed) → aimed b ≡ m → aim_walk p m base sc a ≡ bottom_walk p m base sc a →
          target_walk p b base sc a ≡ bottom_walk p (aimed b) base sc a
      same m e is = walk_at b ∙ ap (λ m. aim_walk p m base sc a) e ∙ is ∙ sym (ap (λ m. bottom_walk p m base sc a) e)

      by : (m : Aimed) → aimed b ≡ m → target_walk p b base sc a ≡ bottom_walk p (aimed b) base sc a
      by at_name e = same at_name e refl
      by (at_member c) e = same (at_member c) e refl
      by (at_index c ts) e = absurd (omega (arith, h, levels_are p base sc a b (at_index c ts) e))
      by at_other e = same at_other e refl

  -- the last index stands behind what is indexed
  level_is : (b : Tree) → 0 < levels b →
      target_walk p b base sc a ≡
      target_walk p (beneath b) base sc a then level_walk p (target_operands (beneath b)) (aimed b) sc a
  level_is b h = by (aimed b) refl
    where
      by : (m : Aimed) → aimed b ≡ m →
          target_walk p b base sc a ≡
          target_walk p (beneath b) base sc a then level_walk p (target_operands (beneath b)) (aimed b) sc a
      by at_name e = absurd (omega (arith, h, levels_are p base sc a b at_name e))
      by (at_member c) e = absurd (omega (arith, h, levels_are p base sc a b (at_member c) e))
      by (at_index c ts) e = walk_at b ∙ ap (λ m. aim_walk p m base sc a) e
          ∙ sym (ap
          (λ m. target_walk p (before m b) base sc a then level_walk p (target_operands (before m b)) m sc a) e)
      by at_other e = absurd (omega (arith, h, levels_are p base sc a b at_other e))

  pub target_begun : (b part : Tree) (left : ℕ) (x all : Noted) → left ≡ levels b → part ≡ under left b →
      all ≡ walked (bottom_walk p (aimed part) base sc a) x → all ≡ walked (target_walk p (under left b) base sc a) x
  target_begun b part left x all e same is =
      let none : levels (under left b) ≡ 0 = omega (arith, e, levels_under p base sc a left b) in
      is ∙ ap (λ c. walked (bottom_walk p (aimed c) base sc a) x) same
      ∙ ap (λ f. walked f x) (sym (bottom_is (under left b) none))

  pub target_done : (b : Tree) (left : ℕ) (x all : Noted) → left ≤ 0 →
      all ≡ walked (target_walk p (under left b) base sc a) x →
      all ≡ walked (target_walk p b base sc a) x
  target_done b left x all h is =
      let none : left ≡ 0 = omega (arith, h) in
      is ∙ ap (λ n. walked (target_walk p (under n b) base sc a) x) none

  module _ (b part : Tree) (left next n : ℕ) where
    pub target_next : (here : Scope) (x mid last : Noted) → left ≡ next + 1 → left ≤ levels b →
        part ≡ under next b → here ≡ sc →
        n ≡ target_operands (under left b) → mid ≡ walked (target_walk p (under left b) base sc a) x →
        last ≡ walked (level_walk p n (aimed part) here a) mid → last ≡ walked (target_walk p (under next b) base sc a) x
    target_next here x mid last e h same k count is go =
        let u : Tree = under next b in
        go ∙ ap (λ c. walked (level_walk p n (aimed c) here a) mid) same
        ∙ ap (λ s. walked (level_walk p n (aimed u) s a) mid) k
        ∙ ap (λ n. walked (level_walk p n (aimed u) sc a) mid) (count ∙ ap target_operands (behind_one p base sc a b part left next n e))
        ∙ ap (walked (level_walk p (target_operands (beneath u)) (aimed u) sc a))
        (is ∙ ap (λ c. walked (target_walk p c base sc a) x) (behind_one p base sc a b part left next n e))
        ∙ sym (walked_then (target_walk p (beneath u) base sc a)
        (level_walk p (target_operands (beneath u)) (aimed u) sc a) x)
        ∙ ap (λ f. walked f x) (sym (level_is u (one_left p base sc a b part left next n e h)))
