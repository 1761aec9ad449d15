-- The arms of a `case`.
use Rattle.std.proofs.Common.{◌≡◌, ℕ, List, [], ◌∷◌, ◌++◌, length, map, Bool, true, false, Option, Some, None, cond}
use Rattle.std.proofs.Common.{refl, sym, ap, ◌∙◌, arith}
use Rattle.verse_tree.specs.Tree.{Tree, tree, Shape, Trees}
use Rattle.verse_tree.specs.Tree as t
use Rattle.verse_tree.specs.View.{tree_of, trees}
use Rattle.verse_tree.specs.declared.exprs.Expr.{Expr}
use Rattle.verse_tree.specs.declared.programs.Program.{Program}
use Rattle.verse_code.specs.declared.operations.Op.TheVariants as o
use Rattle.verse_meaning.specs.Programs.{program_of}
use Rattle.verse_meaning.specs.Evaluating.{none_left}
use Rattle.lower_code.specs.Pieces.{Maker, stuck, put_away, ◌then◌}
use Rattle.lower_code.specs.Scopes.{Scope, hidden}
use Rattle.lower_code.specs.Lowering.{arm_shape, arm_tree, arm_of, arm_by}
use Rattle.lower_code.specs.declared.arounds.Around.{Around}
use Rattle.lower_lookup.specs.Types.{differ_of}
use Rattle.lower_expr.specs.Building.{Built, pushed, ended_here, made}
use Rattle.lower_expr.proofs.Laws.{made_then}
use Rattle.lower_expr.specs.Locals.{cut_to}
use Rattle.lower_expr.proofs.Scoping.{cut_back}
use Rattle.lower_fail.specs.Attempts.{other_begun, all_ended}
use Rattle.lower_fail.proofs.Clauses.{arm_last, arm_any, arm_same}
use Rattle.lower_fail.proofs.OpenEnds.{one_more_end}
use Rattle.lower_parts.specs.Parts.{tree_code, form_code, no_place}
use Rattle.lower_blocks.specs.Arms.{ArmLeads, arm_parts, arm_parts_shape, arm_code, arms_code, is_any_shape}
use Rattle.lower_blocks.specs.Arms.{is_any_tree, compared_arm, comparison}

module _ (p : Program) (ts : Trees) (l : ℕ) (sc : Scope) (a : Around) (rest : Maker) where
  shape_arm : (s : Shape) →
      arm_shape (program_of p) (differ_of p) s ts l sc a rest ≡
      arm_code p (arm_parts_shape s) l (none_left ts) sc a rest
  shape_arm (t.Shape.block x) = refl
  shape_arm (t.Shape.defer x) = refl
  shape_arm (t.Shape.definition x y) = refl
  shape_arm (t.Shape.typed x y z) = refl
  shape_arm (t.Shape.variable x y z) = refl
  shape_arm (t.Shape.assignment x y z) = refl
  shape_arm (t.Shape.returned x) = refl
  shape_arm t.Shape.returned_unit = refl
  shape_arm t.Shape.break_form = refl
  shape_arm (t.Shape.if_else x y z) = refl
  shape_arm (t.Shape.if_alone x y) = refl
  shape_arm (t.Shape.chained x y z) = refl
  shape_arm (t.Shape.compared x y z) = refl
  shape_arm (t.Shape.negation x) = refl
  shape_arm (t.Shape.minus x) = refl
  shape_arm (t.Shape.call x y) = refl
  shape_arm (t.Shape.index x y) = refl
  shape_arm (t.Shape.member x y) = refl
  shape_arm (t.Shape.query x) = refl
  shape_arm (t.Shape.integer x) = refl
  shape_arm (t.Shape.character x) = refl
  shape_arm (t.Shape.text x) = refl
  shape_arm (t.Shape.holes x y) = refl
  shape_arm t.Shape.truth = refl
  shape_arm t.Shape.falsehood = refl
  shape_arm t.Shape.this = refl
  shape_arm (t.Shape.name x) = refl
  shape_arm (t.Shape.tuple x) = refl
  shape_arm (t.Shape.array x) = refl
  shape_arm (t.Shape.option x) = refl
  shape_arm (t.Shape.logic x) = refl
  shape_arm (t.Shape.mapping x) = refl
  shape_arm (t.Shape.instance x y) = refl
  shape_arm (t.Shape.event x) = refl
  shape_arm t.Shape.bare_event = refl
  shape_arm (t.Shape.for_form x y) = refl
  shape_arm (t.Shape.loop_form x) = refl
  shape_arm (t.Shape.block_form x) = refl
  shape_arm (t.Shape.branch x) = refl
  shape_arm (t.Shape.sync x) = refl
  shape_arm (t.Shape.race x) = refl
  shape_arm (t.Shape.rush x) = refl
  shape_arm (t.Shape.cases x y) = refl
  shape_arm (t.Shape.spawn x) = refl
  shape_arm (t.Shape.sleep x) = refl
  shape_arm t.Shape.sleep_forever = refl
  shape_arm (t.Shape.elements x y) = refl
  shape_arm (t.Shape.entries x y z) = refl
  shape_arm (t.Shape.range x y z) = refl
  shape_arm (t.Shape.arm x y) = refl
  shape_arm (t.Shape.integer_pattern x) = refl
  shape_arm (t.Shape.minus_pattern x) = refl
  shape_arm (t.Shape.character_pattern x) = refl
  shape_arm (t.Shape.text_pattern x) = refl
  shape_arm t.Shape.truth_pattern = refl
  shape_arm t.Shape.falsehood_pattern = refl
  shape_arm t.Shape.any_pattern = refl
  shape_arm (t.Shape.enum_pattern x y) = refl

  -- an arm, by its parts
  arm_is : (e : Tree) →
      arm_tree (program_of p) (differ_of p) e ts l sc a rest ≡ arm_code p (arm_parts e) l (none_left ts) sc a rest
  arm_is (tree n pl s) = shape_arm s

-- the three kinds of arms, by their steps
module _ (p : Program) (l : ℕ) (f rest : Maker) (b : Built) where
  last_made : (e : Tree) → made (arm_of (program_of p) (differ_of p) e l true f rest) b ≡ made f b
  last_made (tree n pl s) = arm_last (program_of p) (differ_of p) s l f rest b (is_any_shape p s)

  any_made : (e : Tree) → is_any_tree p e ≡ true →
      made (arm_of (program_of p) (differ_of p) e l false f rest) b ≡ ended_here (length (made f b).ops)
      (made rest (pushed (o.Jump 0) (made f b)))
  any_made (tree n pl s) h =
      ap (λ q. made (arm_by (program_of p) (differ_of p) s l false q f rest) b) h
      ∙ arm_any (program_of p) (differ_of p) s l f rest b

  same_made : (e : Tree) → is_any_tree p e ≡ false →
      made (arm_of (program_of p) (differ_of p) e l false f rest) b ≡
      ended_here (length (compared_arm p e l f b).ops)
      (made rest (other_begun (comparison p e l b) (compared_arm p e l f b)))
  same_made (tree n pl s) h =
      ap (λ q. made (arm_by (program_of p) (differ_of p) s l false q f rest) b) h
      ∙ arm_same (program_of p) (differ_of p) s l f rest b

module _ (p : Program) (q : Tree × Tree) (l : ℕ) (sc : Scope) (a : Around) where
  pub last_arm : (last : Bool) (part : Tree) (js : List ℕ) (b c : Built) → last ≡ true → part ≡ q.1 →
      c ≡ made (tree_code p part sc a) b →
      ArmLeads (arm_code p (Some q) l last sc a) false js js b c
  last_arm last part js b c h e is = record {
    leads = λ rest. ap (all_ended js)
        (is ∙ ap (λ k. made (tree_code p k sc a) b) e ∙ sym (last_made p l (tree_code p q.1 sc a) rest b q.0)
        ∙ ap (λ k. made (arm_code p (Some q) l k sc a rest) b) (sym h));
  }

  pub untested_arm : (last any : Bool) (pattern part : Tree) (n : ℕ) (js ks : List ℕ) (b c : Built) → last ≡ false →
      any ≡ is_any_tree p pattern →
      any ≡ true → pattern ≡ q.0 → part ≡ q.1 → n ≡ length (made (tree_code p part sc a) b).ops →
      c ≡ pushed (o.Jump 0) (made (tree_code p part sc a) b) → ks ≡ js ++ n ∷ [] →
      ArmLeads (arm_code p (Some q) l last sc a) true js ks b c
  untested_arm last any pattern part n js ks b c h x y d e m is more = record {
    leads = λ rest.
        ap (λ k. all_ended k (made rest c)) more ∙ one_more_end js n (made rest c)
        ∙ ap (all_ended js)
        (ap (λ k. ended_here k (made rest c)) m
        ∙ ap (λ k. ended_here (length (made (tree_code p part sc a) b).ops) (made rest k)) is
        ∙ ap (λ k. ended_here (length (made (tree_code p k sc a) b).ops)
        (made rest (pushed (o.Jump 0) (made (tree_code p k sc a) b)))) e
        ∙ sym (any_made p l (tree_code p q.1 sc a) rest b q.0 (ap (is_any_tree p) (sym d) ∙ sym x ∙ y))
        ∙ ap (λ k. made (arm_code p (Some q) l k sc a rest) b) (sym h));
  }

  pub tested_arm : (last any : Bool) (pattern : Tree) (n : ℕ) (js ks : List ℕ) (b c : Built) → last ≡ false →
      any ≡ is_any_tree p pattern →
      any ≡ false → pattern ≡ q.0 → n ≡ length (compared_arm p q.0 l (tree_code p q.1 sc a) b).ops →
      c ≡ other_begun (comparison p q.0 l b) (compared_arm p q.0 l (tree_code p q.1 sc a) b) → ks ≡ js ++ n ∷ [] →
      ArmLeads (arm_code p (Some q) l last sc a) true js ks b c
  tested_arm last any pattern n js ks b c h x y d m is more = record {
    leads = λ rest.
        ap (λ k. all_ended k (made rest c)) more ∙ one_more_end js n (made rest c)
        ∙ ap (all_ended js)
        (ap (λ k. ended_here k (made rest c)) m
        ∙ ap (λ k. ended_here (length (compared_arm p q.0 l (tree_code p q.1 sc a) b).ops) (made rest k)) is
        ∙ sym (same_made p l (tree_code p q.1 sc a) rest b q.0 (ap (is_any_tree p) (sym d) ∙ sym x ∙ y))
        ∙ ap (λ k. made (arm_code p (Some q) l k sc a rest) b) (sym h));
  }

module _ (p : Program) (l : ℕ) (sc : Scope) (a : Around) where
  pub no_arm : (e : Option (Tree × Tree)) (last : Bool) (js : List ℕ) (b c : Built) → e ≡ None → c ≡ made stuck b →
      ArmLeads (arm_code p e l last sc a) false js js b c
  no_arm e last js b c h is = record {
    leads = λ rest. ap (all_ended js) (is ∙ ap (λ k. made (arm_code p k l last sc a rest) b) (sym h));
  }

  -- the first of the arms left, with those behind it
  arms_first : (xs ys : List Expr) (x : Expr) (js : List ℕ) (b : Built) → xs ≡ x ∷ ys →
      all_ended js (made (arms_code p (trees (map tree_of xs)) l sc a) b) ≡
      all_ended js
      (made (arm_code p (arm_parts (tree_of x)) l (none_left (trees (map tree_of ys))) sc a
      (arms_code p (trees (map tree_of ys)) l sc a)) b)
  arms_first xs ys x js b e =
      ap (λ k. all_ended js (made (arms_code p (trees (map tree_of k)) l sc a) b)) e
      ∙ ap (λ f. all_ended js (made f b))
      (arm_is p (trees (map tree_of ys)) l sc a (arms_code p (trees (map tree_of ys)) l sc a)
      (tree_of x))

  arms_step : (goes_on last : Bool) (xs ys : List Expr) (x : Expr) (here : Scope) (js ks : List ℕ) (b c all : Built) →
      xs ≡ x ∷ ys →
      last ≡ none_left (trees (map tree_of ys)) → here ≡ sc →
      ArmLeads (arm_code p (arm_parts (tree_of x)) l last here a) goes_on js ks b c →
      all_ended js (made (arms_code p (trees (map tree_of xs)) l sc a) b) ≡ all →
      all_ended ks (cond goes_on (made (arms_code p (trees (map tree_of ys)) l sc a) c) c) ≡ all
  arms_step goes_on last xs ys x here js ks b c all e h s arm is =
      let rest = arms_code p (trees (map tree_of ys)) l sc a in
      arm.leads rest ∙ ap (λ k. all_ended js (made (arm_code p (arm_parts (tree_of x)) l k here a rest) b)) h
      ∙ ap (λ k. all_ended js
      (made (arm_code p (arm_parts (tree_of x)) l (none_left (trees (map tree_of ys))) k a rest) b)) s
      ∙ sym (arms_first xs ys x js b e) ∙ is

  pub arms_next : (goes_on last : Bool) (xs ys : List Expr) (x : Expr) (here : Scope) (js ks : List ℕ)
      (b c all : Built) → xs ≡ x ∷ ys →
      last ≡ none_left (trees (map tree_of ys)) → here ≡ sc → goes_on ≡ true →
      ArmLeads (arm_code p (arm_parts (tree_of x)) l last here a) goes_on js ks b c →
      all_ended js (made (arms_code p (trees (map tree_of xs)) l sc a) b) ≡ all →
      all_ended ks (made (arms_code p (trees (map tree_of ys)) l sc a) c) ≡ all
  arms_next goes_on last xs ys x here js ks b c all e h s g arm is =
      ap (λ k. all_ended ks (cond k (made (arms_code p (trees (map tree_of ys)) l sc a) c) c)) (sym g)
      ∙ arms_step goes_on last xs ys x here js ks b c all e h s arm is

  pub arms_cut : (goes_on last : Bool) (xs ys : List Expr) (x : Expr) (here : Scope) (js ks : List ℕ)
      (b c all : Built) → xs ≡ x ∷ ys →
      last ≡ none_left (trees (map tree_of ys)) → here ≡ sc → goes_on ≡ false →
      ArmLeads (arm_code p (arm_parts (tree_of x)) l last here a) goes_on js ks b c →
      all_ended js (made (arms_code p (trees (map tree_of xs)) l sc a) b) ≡ all → all_ended ks c ≡ all
  arms_cut goes_on last xs ys x here js ks b c all e h s g arm is =
      ap (λ k. all_ended ks (cond k (made (arms_code p (trees (map tree_of ys)) l sc a) c) c)) (sym g)
      ∙ arms_step goes_on last xs ys x here js ks b c all e h s arm is

  pub arms_none : (xs : List Expr) (js : List ℕ) (b c all : Built) → length xs ≡ 0 → c ≡ made stuck b →
      all_ended js (made (arms_code p (trees (map tree_of xs)) l sc a) b) ≡ all → all_ended js c ≡ all
  arms_none [] js b c all h f is = ap (all_ended js) f ∙ is
  arms_none (x ∷ xs) js b c all h f is = absurd (omega (arith, h))

-- the jumps of all arms lead to the end
pub arms_ended : (f : Maker) (js ks ls : List ℕ) (b c r : Built) → js ≡ [] →
    all_ended ks c ≡ all_ended js (made f b) → ls ≡ ks →
    r ≡ all_ended ls c →
    r ≡ made f b
arms_ended f js ks ls b c r h e k is = is ∙ ap (λ k. all_ended k c) k ∙ e ∙ ap (λ k. all_ended k (made f b)) h

pub case_by : (p : Program) (e subject : Tree) (ts us : Trees) (sc here there : Scope) (a : Around) (l : ℕ)
    (b c d r : Built) →
    l ≡ length sc →
    subject ≡ e → here ≡ sc → there ≡ hidden ∷ here → us ≡ ts → c ≡ made (tree_code p subject sc a) b →
    d ≡ made (put_away l) c →
    r ≡ made (arms_code p us l there a) d → r ≡ made (form_code p (t.Shape.cases e ts) 0 no_place sc a) b
case_by p e subject ts us sc here there a l b c d r h x s u y f g is =
    is ∙ ap (λ k. made (arms_code p k l there a) d) y
    ∙ ap (λ k. made (arms_code p ts l k a) d) (u ∙ ap (λ k. hidden ∷ k) s)
    ∙ ap (made (arms_code p ts l (hidden ∷ sc) a))
    (g ∙ ap (made (put_away l)) (f ∙ ap (λ k. made (tree_code p k sc a) b) x))
    ∙ ap (λ k. made (arms_code p ts k (hidden ∷ sc) a) (made (put_away k) (made (tree_code p e sc a) b))) h
    ∙ sym (made_then (tree_code p e sc a) (put_away (length sc) then arms_code p ts (length sc) (hidden ∷ sc) a) b
    ∙ made_then (put_away (length sc)) (arms_code p ts (length sc) (hidden ∷ sc) a) (made (tree_code p e sc a) b))

pub case_cut : (l : ℕ) (sc here there behind r : Scope) → l ≡ length sc → here ≡ sc → there ≡ hidden ∷ here →
    behind ≡ there →
    r ≡ cut_to l behind →
    r ≡ sc
case_cut l sc here there behind r h s u k is =
    is ∙ ap (λ n. cut_to n behind) h ∙ ap (cut_to (length sc)) (k ∙ u ∙ ap (λ k. hidden ∷ k) s)
    ∙ cut_back (hidden ∷ []) sc
