-- The arms of a `case`.
use Rattle.std.proofs.Common.{◌≡◌, ℕ, List, [], ◌∷◌, ◌++◌, length, map, Bool, true, false, Option, Some, None, cond}
use Rattle.std.proofs.Common.{refl, sym, ap, ◌∙◌, arith}
use Rattle.std.proofs.lemmas.List.{map-append}
use Rattle.verse_tree.specs.Tree.{Tree, tree, Shape, Trees}
use Rattle.verse_tree.specs.Tree as t
use Rattle.verse_tree.specs.View.{tree_of, trees}
use Rattle.verse_tree.specs.declared.exprs.Expr.{Expr}
use Rattle.verse_tree.specs.declared.programs.Program.{Program}
use Rattle.verse_meaning.specs.Programs.{program_of}
use Rattle.verse_meaning.specs.Evaluating.{none_left, number_of}
use Rattle.lower_code.specs.Scopes.{Scope, hidden}
use Rattle.lower_code.specs.declared.arounds.Around.{Around}
use Rattle.lower_lookup.specs.Types.{differ_of}
use Rattle.lower_blocks.specs.Arms.{arm_parts, arm_parts_shape, is_any_tree}
use Rattle.lower_notes.specs.States.{gets, puts}
use Rattle.lower_notes.specs.Stretches.{Walk, one, ends, over, either_same, ◌then◌}
use Rattle.lower_notes.specs.Noting.{arm_shape, arm_tree, arm_of, arm_by}
use Rattle.note_states.specs.View.{standing_of}
use Rattle.note_sorts.specs.Tabled.{found_of}
use Rattle.note_stretches.specs.Noted.{Noted, marked, resumed, stopped, met, walked}
use Rattle.note_stretches.specs.Forms.{other_begun}
use Rattle.note_stretches.proofs.Laws.{walked_then, walked_over, walked_either_same}
use Rattle.note_parts.specs.Parts.{tree_walk, form_walk, no_place}
use Rattle.note_cases.specs.Ends.{End, end_of, ended_by, all_ended}
use Rattle.note_cases.specs.declared.ends.End.{End as Made}
use Rattle.note_cases.specs.Arms.{ArmLeads, arm_walk, arms_walk, shape_pattern, tree_pattern, compared, compared_arm, other_at}
use Rattle.note_cases.proofs.OpenEnds.{one_more_end}

module _ (p : Program) (ts : Trees) (l : ℕ) (sc : Scope) (a : Around) (rest : Walk) where
  shape_arm : (s : Shape) →
      arm_shape (program_of p) (found_of p) (differ_of p) s ts l sc a rest ≡
      arm_walk p (arm_parts_shape s) l (none_left ts) sc a rest
  shape_arm (t.Shape.block x) = refl
  shape_arm (t.Shape.defer x) = refl
  shape_arm (t.Shape.definition x y) = refl
  shape_arm (t.Shape.typed x y z) = refl
  shape_arm (t.Shape.variable x y z) = refl
  shape_arm (t.Shape.assignment x y z) = refl
  shape_arm (t.Shape.returned x) = refl
  shape_arm t.Shape.returned_unit = refl
  shape_arm t.Shape.break_form = refl
  shape_arm (t.Shape.if_else x y z) = refl
  shape_arm (t.Shape.if_alone x y) = refl
  shape_arm (t.Shape.chained x y z) = refl
  shape_arm (t.Shape.compared x y z) = refl
  shape_arm (t.Shape.negation x) = refl
  shape_arm (t.Shape.minus x) = refl
  shape_arm (t.Shape.call x y) = refl
  shape_arm (t.Shape.index x y) = refl
  shape_arm (t.Shape.member x y) = refl
  shape_arm (t.Shape.query x) = refl
  shape_arm (t.Shape.integer x) = refl
  shape_arm (t.Shape.character x) = refl
  shape_arm (t.Shape.text x) = refl
  shape_arm (t.Shape.holes x y) = refl
  shape_arm t.Shape.truth = refl
  shape_arm t.Shape.falsehood = refl
  shape_arm t.Shape.this = refl
  shape_arm (t.Shape.name x) = refl
  shape_arm (t.Shape.tuple x) = refl
  shape_arm (t.Shape.array x) = refl
  shape_arm (t.Shape.option x) = refl
  shape_arm (t.Shape.logic x) = refl
  shape_arm (t.Shape.mapping x) = refl
  shape_arm (t.Shape.instance x y) = refl
  shape_arm (t.Shape.event x) = refl
  shape_arm t.Shape.bare_event = refl
  shape_arm (t.Shape.for_form x y) = refl
  shape_arm (t.Shape.loop_form x) = refl
  shape_arm (t.Shape.block_form x) = refl
  shape_arm (t.Shape.branch x) = refl
  shape_arm (t.Shape.sync x) = refl
  shape_arm (t.Shape.race x) = refl
  shape_arm (t.Shape.rush x) = refl
  shape_arm (t.Shape.cases x y) = refl
  shape_arm (t.Shape.spawn x) = refl
  shape_arm (t.Shape.sleep x) = refl
  shape_arm t.Shape.sleep_forever = refl
  shape_arm (t.Shape.elements x y) = refl
  shape_arm (t.Shape.entries x y z) = refl
  shape_arm (t.Shape.range x y z) = refl
  shape_arm (t.Shape.arm x y) = refl
  shape_arm (t.Shape.integer_pattern x) = refl
  shape_arm (t.Shape.minus_pattern x) = refl
  shape_arm (t.Shape.character_pattern x) = refl
  shape_arm (t.Shape.text_pattern x) = refl
  shape_arm t.Shape.truth_pattern = refl
  shape_arm t.Shape.falsehood_pattern = refl
  shape_arm t.Shape.any_pattern = refl
  shape_arm (t.Shape.enum_pattern x y) = refl

  -- an arm, by its parts
  arm_is : (e : Tree) →
      arm_tree (program_of p) (found_of p) (differ_of p) e ts l sc a rest ≡ arm_walk p (arm_parts e) l (none_left ts) sc a rest
  arm_is (tree n pl s) = shape_arm s

-- the three kinds of arms, by their steps
module _ (p : Program) (l : ℕ) (f rest : Walk) (b : Noted) where
  by_last : (s : Shape) (any : Bool) → walked (arm_by (program_of p) (found_of p) (differ_of p) s l true any f rest) b ≡ walked f b
  unfolding arm_by
  by_last s any = refl

  by_any : (s : Shape) → walked (arm_by (program_of p) (found_of p) (differ_of p) s l false true f rest) b ≡
      resumed (walked f b).exit (walked rest (stopped (marked (walked f b))))
  unfolding arm_by
  by_any s = walked_then f (over rest) b ∙ walked_over rest (walked f b)

  by_same : (s : Shape) → walked (arm_by (program_of p) (found_of p) (differ_of p) s l false false f rest) b ≡
      walked (shape_pattern p s then one (gets l) then either_same f rest) b
  unfolding arm_by
  by_same s = refl

  last_walked : (e : Tree) → walked (arm_of (program_of p) (found_of p) (differ_of p) e l true f rest) b ≡ walked f b
  last_walked (tree n pl s) = by_last s _

  any_walked : (e : Tree) → is_any_tree p e ≡ true →
      walked (arm_of (program_of p) (found_of p) (differ_of p) e l false f rest) b ≡
      resumed (walked f b).exit (walked rest (stopped (marked (walked f b))))
  any_walked (tree n pl s) h =
      ap (λ q. walked (arm_by (program_of p) (found_of p) (differ_of p) s l false q f rest) b) h ∙ by_any s

  same_pattern : (e : Tree) → walked (tree_pattern p e then one (gets l) then either_same f rest) b ≡
      met (compared_arm p e l f b).exit (walked rest (other_begun (other_at p e l b) (compared_arm p e l f b)))
  same_pattern e =
      walked_then (tree_pattern p e) (one (gets l) then either_same f rest) b
      ∙ walked_then (one (gets l)) (either_same f rest) (walked (tree_pattern p e) b)
      ∙ walked_either_same f rest (compared p e l b)

  same_walked : (e : Tree) → is_any_tree p e ≡ false →
      walked (arm_of (program_of p) (found_of p) (differ_of p) e l false f rest) b ≡
      met (compared_arm p e l f b).exit (walked rest (other_begun (other_at p e l b) (compared_arm p e l f b)))
  same_walked (tree n pl s) h =
      ap (λ q. walked (arm_by (program_of p) (found_of p) (differ_of p) s l false q f rest) b) h ∙ by_same s
      ∙ same_pattern (tree n pl s)

module _ (p : Program) (q : Tree × Tree) (l : ℕ) (sc : Scope) (a : Around) where
  pub last_arm : (last : Bool) (part : Tree) (es : List End) (b c : Noted) → last ≡ true → part ≡ q.1 →
      c ≡ walked (tree_walk p part sc a) b →
      ArmLeads (arm_walk p (Some q) l last sc a) false es es b c
  last_arm last part es b c h e is = record {
    leads = λ rest. ap (all_ended es)
        (is ∙ ap (λ k. walked (tree_walk p k sc a) b) e ∙ sym (last_walked p l (tree_walk p q.1 sc a) rest b q.0)
        ∙ ap (λ k. walked (arm_walk p (Some q) l k sc a rest) b) (sym h));
  }

  pub untested_arm : (last any : Bool) (pattern part : Tree) (x : Made) (es fs : List Made) (b c : Noted) → last ≡ false →
      any ≡ is_any_tree p pattern → any ≡ true → pattern ≡ q.0 → part ≡ q.1 → x.is_only ≡ true →
      standing_of x.behind ≡ (walked (tree_walk p part sc a) b).exit →
      c ≡ stopped (marked (walked (tree_walk p part sc a) b)) → fs ≡ es ++ x ∷ [] →
      ArmLeads (arm_walk p (Some q) l last sc a) true (map end_of es) (map end_of fs) b c
  untested_arm last any pattern part x es fs b c h y z d e only at is more = record {
    leads = λ rest.
        ap (λ k. all_ended k (walked rest c)) (ap (map end_of) more ∙ map-append end_of es (x ∷ []))
        ∙ one_more_end (map end_of es) (end_of x) (walked rest c)
        ∙ ap (all_ended (map end_of es))
        (ap (λ k. ended_by k (standing_of x.behind) (walked rest c)) only
        ∙ ap (λ k. resumed k (walked rest c)) at
        ∙ ap (λ k. resumed (walked (tree_walk p part sc a) b).exit (walked rest k)) is
        ∙ ap (λ k. resumed (walked (tree_walk p k sc a) b).exit
        (walked rest (stopped (marked (walked (tree_walk p k sc a) b))))) e
        ∙ sym (any_walked p l (tree_walk p q.1 sc a) rest b q.0 (ap (is_any_tree p) (sym d) ∙ sym y ∙ z))
        ∙ ap (λ k. walked (arm_walk p (Some q) l k sc a rest) b) (sym h));
  }

  pub tested_arm : (last any : Bool) (pattern : Tree) (x : Made) (es fs : List Made) (b c : Noted) → last ≡ false →
      any ≡ is_any_tree p pattern → any ≡ false → pattern ≡ q.0 → x.is_only ≡ false →
      standing_of x.behind ≡ (compared_arm p q.0 l (tree_walk p q.1 sc a) b).exit →
      c ≡ other_begun (other_at p q.0 l b) (compared_arm p q.0 l (tree_walk p q.1 sc a) b) → fs ≡ es ++ x ∷ [] →
      ArmLeads (arm_walk p (Some q) l last sc a) true (map end_of es) (map end_of fs) b c
  tested_arm last any pattern x es fs b c h y z d only at is more = record {
    leads = λ rest.
        ap (λ k. all_ended k (walked rest c)) (ap (map end_of) more ∙ map-append end_of es (x ∷ []))
        ∙ one_more_end (map end_of es) (end_of x) (walked rest c)
        ∙ ap (all_ended (map end_of es))
        (ap (λ k. ended_by k (standing_of x.behind) (walked rest c)) only
        ∙ ap (λ k. met k (walked rest c)) at
        ∙ ap (λ k. met (compared_arm p q.0 l (tree_walk p q.1 sc a) b).exit (walked rest k)) is
        ∙ sym (same_walked p l (tree_walk p q.1 sc a) rest b q.0 (ap (is_any_tree p) (sym d) ∙ sym y ∙ z))
        ∙ ap (λ k. walked (arm_walk p (Some q) l k sc a rest) b) (sym h));
  }

module _ (p : Program) (l : ℕ) (sc : Scope) (a : Around) where
  pub no_arm : (e : Option (Tree × Tree)) (last : Bool) (es : List End) (b c : Noted) → e ≡ None → c ≡ walked ends b →
      ArmLeads (arm_walk p e l last sc a) false es es b c
  no_arm e last es b c h is = record {
    leads = λ rest. ap (all_ended es) (is ∙ ap (λ k. walked (arm_walk p k l last sc a rest) b) (sym h));
  }

  -- the first of the arms left, with those behind it
  arms_first : (xs ys : List Expr) (x : Expr) (es : List End) (b : Noted) → xs ≡ x ∷ ys →
      all_ended es (walked (arms_walk p (trees (map tree_of xs)) l sc a) b) ≡
      all_ended es
      (walked (arm_walk p (arm_parts (tree_of x)) l (none_left (trees (map tree_of ys))) sc a
      (arms_walk p (trees (map tree_of ys)) l sc a)) b)
  arms_first xs ys x es b e =
      ap (λ k. all_ended es (walked (arms_walk p (trees (map tree_of k)) l sc a) b)) e
      ∙ ap (λ f. all_ended es (walked f b))
      (arm_is p (trees (map tree_of ys)) l sc a (arms_walk p (trees (map tree_of ys)) l sc a)
      (tree_of x))

  arms_step : (goes_on last : Bool) (xs ys : List Expr) (x : Expr) (here : Scope) (es fs : List End) (b c all : Noted) →
      xs ≡ x ∷ ys →
      last ≡ none_left (trees (map tree_of ys)) → here ≡ sc →
      ArmLeads (arm_walk p (arm_parts (tree_of x)) l last here a) goes_on es fs b c →
      all_ended es (walked (arms_walk p (trees (map tree_of xs)) l sc a) b) ≡ all →
      all_ended fs (cond goes_on (walked (arms_walk p (trees (map tree_of ys)) l sc a) c) c) ≡ all
  arms_step goes_on last xs ys x here es fs b c all e h s arm is =
      let rest = arms_walk p (trees (map tree_of ys)) l sc a in
      arm.leads rest ∙ ap (λ k. all_ended es (walked (arm_walk p (arm_parts (tree_of x)) l k here a rest) b)) h
      ∙ ap (λ k. all_ended es
      (walked (arm_walk p (arm_parts (tree_of x)) l (none_left (trees (map tree_of ys))) k a rest) b)) s
      ∙ sym (arms_first xs ys x es b e) ∙ is

  pub arms_next : (goes_on last : Bool) (xs ys : List Expr) (x : Expr) (here : Scope) (es fs : List End)
      (b c all : Noted) → xs ≡ x ∷ ys →
      last ≡ none_left (trees (map tree_of ys)) → here ≡ sc → goes_on ≡ true →
      ArmLeads (arm_walk p (arm_parts (tree_of x)) l last here a) goes_on es fs b c →
      all_ended es (walked (arms_walk p (trees (map tree_of xs)) l sc a) b) ≡ all →
      all_ended fs (walked (arms_walk p (trees (map tree_of ys)) l sc a) c) ≡ all
  arms_next goes_on last xs ys x here es fs b c all e h s g arm is =
      ap (λ k. all_ended fs (cond k (walked (arms_walk p (trees (map tree_of ys)) l sc a) c) c)) (sym g)
      ∙ arms_step goes_on last xs ys x here es fs b c all e h s arm is

  pub arms_cut : (goes_on last : Bool) (xs ys : List Expr) (x : Expr) (here : Scope) (es fs : List End)
      (b c all : Noted) → xs ≡ x ∷ ys →
      last ≡ none_left (trees (map tree_of ys)) → here ≡ sc → goes_on ≡ false →
      ArmLeads (arm_walk p (arm_parts (tree_of x)) l last here a) goes_on es fs b c →
      all_ended es (walked (arms_walk p (trees (map tree_of xs)) l sc a) b) ≡ all → all_ended fs c ≡ all
  arms_cut goes_on last xs ys x here es fs b c all e h s g arm is =
      ap (λ k. all_ended fs (cond k (walked (arms_walk p (trees (map tree_of ys)) l sc a) c) c)) (sym g)
      ∙ arms_step goes_on last xs ys x here es fs b c all e h s arm is

  pub arms_none : (xs : List Expr) (es : List End) (b c all : Noted) → length xs ≡ 0 → c ≡ walked ends b →
      all_ended es (walked (arms_walk p (trees (map tree_of xs)) l sc a) b) ≡ all → all_ended es c ≡ all
  arms_none [] es b c all h f is = ap (all_ended es) f ∙ is
  arms_none (x ∷ xs) es b c all h f is = absurd (omega (arith, h))

-- all arms lead to the end
pub arms_ended : (f : Walk) (es fs gs : List Made) (b c r : Noted) → es ≡ [] →
    all_ended (map end_of fs) c ≡ all_ended (map end_of es) (walked f b) → gs ≡ fs →
    r ≡ all_ended (map end_of gs) c →
    r ≡ walked f b
arms_ended f es fs gs b c r h e k is =
    is ∙ ap (λ k. all_ended (map end_of k) c) k ∙ e ∙ ap (λ k. all_ended (map end_of k) (walked f b)) h

pub case_by : (p : Program) (e subject : Tree) (ts us : Trees) (sc here there : Scope) (a : Around) (l n : ℕ)
    (b c d r : Noted) → l ≡ length sc →
    subject ≡ e → here ≡ sc → there ≡ hidden ∷ here → us ≡ ts → c ≡ walked (tree_walk p subject sc a) b →
    n ≡ number_of subject → d ≡ walked (one (puts l ((found_of p).sort n))) c →
    r ≡ walked (arms_walk p us l there a) d → r ≡ walked (form_walk p (t.Shape.cases e ts) 0 no_place sc a) b
case_by p e subject ts us sc here there a l n b c d r h x s u y f m g is =
    let q = (found_of p).sort (number_of e) in
    is ∙ ap (λ k. walked (arms_walk p k l there a) d) y
    ∙ ap (λ k. walked (arms_walk p ts l k a) d) (u ∙ ap (λ k. hidden ∷ k) s)
    ∙ ap (walked (arms_walk p ts l (hidden ∷ sc) a))
    (g ∙ ap (λ k. walked (one (puts l ((found_of p).sort k))) c) (m ∙ ap number_of x)
    ∙ ap (walked (one (puts l q))) (f ∙ ap (λ k. walked (tree_walk p k sc a) b) x))
    ∙ ap (λ k. walked (arms_walk p ts k (hidden ∷ sc) a) (walked (one (puts k q)) (walked (tree_walk p e sc a) b))) h
    ∙ sym (walked_then (tree_walk p e sc a) (one (puts (length sc) q) then arms_walk p ts (length sc) (hidden ∷ sc) a) b
    ∙ walked_then (one (puts (length sc) q)) (arms_walk p ts (length sc) (hidden ∷ sc) a) (walked (tree_walk p e sc a) b))
