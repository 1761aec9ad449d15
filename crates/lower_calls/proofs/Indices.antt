-- The indices of a target, from the first to the last.
use Rattle.std.proofs.Common.{◌≡◌, ℕ, zero, suc, ◌+◌, ◌-◌, ◌<◌, ◌≤◌, refl, sym, ap, ◌∙◌, arith}
use Rattle.verse_tree.specs.Tree.{Tree, tree, Shape}
use Rattle.verse_tree.specs.Tree as t
use Rattle.verse_tree.specs.declared.programs.Program.{Program}
use Rattle.verse_meaning.specs.Programs.{program_of}
use Rattle.verse_meaning.specs.Residuals.{Base}
use Rattle.lower_code.specs.Pieces.{◌then◌}
use Rattle.lower_code.specs.Scopes.{Scope}
use Rattle.lower_code.specs.declared.arounds.Around.{Around}
use Rattle.lower_code.specs.Lowering.{target_operands, target_operands_shape, target_shape}
use Rattle.lower_lookup.specs.Types.{differ_of}
use Rattle.lower_expr.specs.Building.{Built, made}
use Rattle.lower_expr.proofs.Laws.{made_then}
use Rattle.lower_calls.specs.Aims.{Aimed, at_name, at_member, at_index, at_other, aimed, aimed_in, levels, levels_in}
use Rattle.lower_calls.specs.Aims.{before, beneath, under, operands_to, bottom_code, level_code, target_code, aim_code}
use Rattle.lower_calls.proofs.Unders.{under_next}

abbrev pub levels_at : Aimed → ℕ
levels_at (at_index b ts) = suc (levels b)
levels_at other = 0

abbrev pub operands_at : Aimed → ℕ
operands_at (at_index b ts) = operands_to (target_operands b) (at_index b ts)
operands_at other = 0

module _ (p : Program) (base : Base) (sc : Scope) (a : Around) where
  abbrev Aims : Shape → Type 0
  Aims s = (target_shape (program_of p) (differ_of p) s base sc a ≡ aim_code p (aimed_in s) base sc a)
      × (target_operands_shape s ≡ operands_at (aimed_in s)) × (levels_in s ≡ levels_at (aimed_in s))

  -- a shape is what it is as a target
  aims : (s : Shape) → Aims s
  aims (t.Shape.block ts) = (refl, refl, refl)
  aims (t.Shape.defer a) = (refl, refl, refl)
  aims (t.Shape.definition x a) = (refl, refl, refl)
  aims (t.Shape.typed x w a) = (refl, refl, refl)
  aims (t.Shape.variable x w a) = (refl, refl, refl)
  aims (t.Shape.assignment x a b) = (refl, refl, refl)
  aims (t.Shape.returned a) = (refl, refl, refl)
  aims t.Shape.returned_unit = (refl, refl, refl)
  aims t.Shape.break_form = (refl, refl, refl)
  aims (t.Shape.if_else ts a b) = (refl, refl, refl)
  aims (t.Shape.if_alone ts a) = (refl, refl, refl)
  aims (t.Shape.chained x a b) = (refl, refl, refl)
  aims (t.Shape.compared x a b) = (refl, refl, refl)
  aims (t.Shape.negation a) = (refl, refl, refl)
  aims (t.Shape.minus a) = (refl, refl, refl)
  aims (t.Shape.call a ts) = (refl, refl, refl)
  aims (t.Shape.index a ts) = (refl, refl, refl)
  aims (t.Shape.member a x) = (refl, refl, refl)
  aims (t.Shape.query a) = (refl, refl, refl)
  aims (t.Shape.integer x) = (refl, refl, refl)
  aims (t.Shape.character x) = (refl, refl, refl)
  aims (t.Shape.text x) = (refl, refl, refl)
  aims (t.Shape.holes x hs) = (refl, refl, refl)
  aims t.Shape.truth = (refl, refl, refl)
  aims t.Shape.falsehood = (refl, refl, refl)
  aims t.Shape.this = (refl, refl, refl)
  aims (t.Shape.name x) = (refl, refl, refl)
  aims (t.Shape.tuple ts) = (refl, refl, refl)
  aims (t.Shape.array ts) = (refl, refl, refl)
  aims (t.Shape.option ts) = (refl, refl, refl)
  aims (t.Shape.logic ts) = (refl, refl, refl)
  aims (t.Shape.mapping ps) = (refl, refl, refl)
  aims (t.Shape.instance x gs) = (refl, refl, refl)
  aims (t.Shape.event w) = (refl, refl, refl)
  aims t.Shape.bare_event = (refl, refl, refl)
  aims (t.Shape.for_form ts a) = (refl, refl, refl)
  aims (t.Shape.loop_form a) = (refl, refl, refl)
  aims (t.Shape.block_form a) = (refl, refl, refl)
  aims (t.Shape.branch a) = (refl, refl, refl)
  aims (t.Shape.sync ts) = (refl, refl, refl)
  aims (t.Shape.race ts) = (refl, refl, refl)
  aims (t.Shape.rush ts) = (refl, refl, refl)
  aims (t.Shape.cases a ts) = (refl, refl, refl)
  aims (t.Shape.spawn a) = (refl, refl, refl)
  aims (t.Shape.sleep x) = (refl, refl, refl)
  aims t.Shape.sleep_forever = (refl, refl, refl)
  aims (t.Shape.elements x a) = (refl, refl, refl)
  aims (t.Shape.entries x y a) = (refl, refl, refl)
  aims (t.Shape.range x a b) = (refl, refl, refl)
  aims (t.Shape.arm a b) = (refl, refl, refl)
  aims (t.Shape.integer_pattern x) = (refl, refl, refl)
  aims (t.Shape.minus_pattern x) = (refl, refl, refl)
  aims (t.Shape.character_pattern x) = (refl, refl, refl)
  aims (t.Shape.text_pattern x) = (refl, refl, refl)
  aims t.Shape.truth_pattern = (refl, refl, refl)
  aims t.Shape.falsehood_pattern = (refl, refl, refl)
  aims t.Shape.any_pattern = (refl, refl, refl)
  aims (t.Shape.enum_pattern x y) = (refl, refl, refl)

  code_at : (b : Tree) → target_code p b base sc a ≡ aim_code p (aimed b) base sc a
  code_at (tree n pl s) = (aims s).0

  pub operands_are : (b : Tree) → target_operands b ≡ operands_at (aimed b)
  operands_are (tree n pl s) = (aims s).1

  pub levels_are : (b : Tree) (m : Aimed) → aimed b ≡ m → levels b ≡ levels_at m
  levels_are (tree n pl s) m e = (aims s).2 ∙ ap levels_at e

  pub levels_beneath : (b : Tree) → levels (beneath b) ≡ levels b - 1
  levels_beneath b = by (aimed b) refl
    where
      same : (m : Aimed) → aimed b ≡ m → levels (beneath b) ≡ levels (before m b)
      same m e = ap (λ m. levels (before m b)) e

      by : (m : Aimed) → aimed b ≡ m → levels (beneath b) ≡ levels b - 1
      by at_name e = omega (arith, same at_name e, levels_are b at_name e)
      by (at_member c) e = omega (arith, same (at_member c) e, levels_are b (at_member c) e)
      by (at_index c ts) e = omega (arith, same (at_index c ts) e, levels_are b (at_index c ts) e)
      by at_other e = omega (arith, same at_other e, levels_are b at_other e)

  pub levels_under : (n : ℕ) (b : Tree) → levels (under n b) ≡ levels b - n
  levels_under zero b = omega arith
  levels_under (suc n) b = omega (arith, levels_beneath (under n b), levels_under n b)

  -- where no index is left
  bottom_is : (b : Tree) → levels b ≡ 0 → target_code p b base sc a ≡ bottom_code p (aimed b) base sc a
  bottom_is b h = by (aimed b) refl
    where
      same : (m : Aimed) → aimed b ≡ m → aim_code p m base sc a ≡ bottom_code p m base sc a →
          target_code p b base sc a ≡ bottom_code p (aimed b) base sc a
      same m e is = code_at b ∙ ap (λ m. aim_code p m base sc a) e ∙ is ∙ sym (ap (λ m. bottom_code p m base sc a) e)

      by : (m : Aimed) → aimed b ≡ m → target_code p b base sc a ≡ bottom_code p (aimed b) base sc a
      by at_name e = same at_name e refl
      by (at_member c) e = same (at_member c) e refl
      by (at_index c ts) e = absurd (omega (arith, h, levels_are b (at_index c ts) e))
      by at_other e = same at_other e refl

  pub no_operands : (b : Tree) → levels b ≡ 0 → target_operands b ≡ 0
  no_operands b h = by (aimed b) refl
    where
      by : (m : Aimed) → aimed b ≡ m → target_operands b ≡ 0
      by at_name e = operands_are b ∙ ap operands_at e
      by (at_member c) e = operands_are b ∙ ap operands_at e
      by (at_index c ts) e = absurd (omega (arith, h, levels_are b (at_index c ts) e))
      by at_other e = operands_are b ∙ ap operands_at e

  -- the last index stands behind what is indexed
  level_is : (b : Tree) → 0 < levels b →
      target_code p b base sc a ≡
      target_code p (beneath b) base sc a then level_code p (target_operands (beneath b)) (aimed b) sc a
  level_is b h = by (aimed b) refl
    where
      by : (m : Aimed) → aimed b ≡ m →
          target_code p b base sc a ≡
          target_code p (beneath b) base sc a then level_code p (target_operands (beneath b)) (aimed b) sc a
      by at_name e = absurd (omega (arith, h, levels_are b at_name e))
      by (at_member c) e = absurd (omega (arith, h, levels_are b (at_member c) e))
      by (at_index c ts) e = code_at b ∙ ap (λ m. aim_code p m base sc a) e
          ∙ sym (ap
          (λ m. target_code p (before m b) base sc a then level_code p (target_operands (before m b)) m sc a) e)
      by at_other e = absurd (omega (arith, h, levels_are b at_other e))

  pub level_operands : (b : Tree) → 0 < levels b → target_operands b ≡ operands_to (target_operands (beneath b)) (aimed b)
  level_operands b h = by (aimed b) refl
    where
      by : (m : Aimed) → aimed b ≡ m → target_operands b ≡ operands_to (target_operands (beneath b)) (aimed b)
      by at_name e = absurd (omega (arith, h, levels_are b at_name e))
      by (at_member c) e = absurd (omega (arith, h, levels_are b (at_member c) e))
      by (at_index c ts) e =
          operands_are b ∙ ap operands_at e ∙ sym (ap (λ m. operands_to (target_operands (before m b)) m) e)
      by at_other e = absurd (omega (arith, h, levels_are b at_other e))

  pub target_begun : (b part : Tree) (left : ℕ) (x all : Built) → left ≡ levels b → part ≡ under left b →
      all ≡ made (bottom_code p (aimed part) base sc a) x → all ≡ made (target_code p (under left b) base sc a) x
  target_begun b part left x all e same is =
      let none : levels (under left b) ≡ 0 = omega (arith, e, levels_under left b) in
      is ∙ ap (λ c. made (bottom_code p (aimed c) base sc a) x) same
      ∙ ap (λ f. made f x) (sym (bottom_is (under left b) none))

  pub operands_begun : (b : Tree) (left : ℕ) → left ≡ levels b → 0 ≡ target_operands (under left b)
  operands_begun b left e =
      let none : levels (under left b) ≡ 0 = omega (arith, e, levels_under left b) in
      sym (no_operands (under left b) none)

  pub target_done : (b : Tree) (left : ℕ) (x all : Built) → left ≤ 0 →
      all ≡ made (target_code p (under left b) base sc a) x →
      all ≡ made (target_code p b base sc a) x
  target_done b left x all h is =
      let none : left ≡ 0 = omega (arith, h) in
      is ∙ ap (λ n. made (target_code p (under n b) base sc a) x) none

  pub operands_done : (b : Tree) (left n : ℕ) → left ≤ 0 → n ≡ target_operands (under left b) → n ≡ target_operands b
  operands_done b left n h is =
      let none : left ≡ 0 = omega (arith, h) in
      is ∙ ap (λ n. target_operands (under n b)) none

  module _ (b part : Tree) (left next n : ℕ) where
    pub behind_one : left ≡ next + 1 → under left b ≡ beneath (under next b)
    behind_one e = ap (λ n. under n b) e ∙ under_next next b

    pub one_left : left ≡ next + 1 → left ≤ levels b → 0 < levels (under next b)
    one_left e h = omega (arith, e, h, levels_under next b)

    pub target_next : (here : Scope) (x mid last : Built) → left ≡ next + 1 → left ≤ levels b →
        part ≡ under next b → here ≡ sc →
        n ≡ target_operands (under left b) → mid ≡ made (target_code p (under left b) base sc a) x →
        last ≡ made (level_code p n (aimed part) here a) mid → last ≡ made (target_code p (under next b) base sc a) x
    target_next here x mid last e h same k count is go =
        let u : Tree = under next b in
        go ∙ ap (λ c. made (level_code p n (aimed c) here a) mid) same
        ∙ ap (λ s. made (level_code p n (aimed u) s a) mid) k
        ∙ ap (λ n. made (level_code p n (aimed u) sc a) mid) (count ∙ ap target_operands (behind_one e))
        ∙ ap (made (level_code p (target_operands (beneath u)) (aimed u) sc a))
        (is ∙ ap (λ c. made (target_code p c base sc a) x) (behind_one e))
        ∙ sym (made_then (target_code p (beneath u) base sc a)
        (level_code p (target_operands (beneath u)) (aimed u) sc a) x)
        ∙ ap (λ f. made f x) (sym (level_is u (one_left e h)))

    pub operands_next : (more : ℕ) → left ≡ next + 1 → left ≤ levels b → part ≡ under next b →
        n ≡ target_operands (under left b) →
        more ≡ operands_to n (aimed part) → more ≡ target_operands (under next b)
    operands_next more e h same count is =
        let u : Tree = under next b in
        is ∙ ap (λ c. operands_to n (aimed c)) same
        ∙ ap (λ n. operands_to n (aimed u)) (count ∙ ap target_operands (behind_one e))
        ∙ sym (level_operands u (one_left e h))
