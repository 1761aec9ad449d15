-- What stands round the parts of a node, the names behind statements, and where values stand.
use Rattle.std.proofs.Common.{◌≡◌, ℕ, ◌-◌, Bool, true, false, not, ◌&&◌, ◌||◌, List, [], ◌∷◌, ◌++◌, Option, refl, sym, ap, ◌∙◌, subst}
use Rattle.std.specs.Prelude.{Some, None, is_some, slice_get}
use Rattle.verse_base.specs.declared.places.Place.{Place}
use Rattle.verse_base.proofs.Facts.{none_is}
use Rattle.verse_tree.specs.Tree.{Bytes, Written, Tree, tree, Shape, Trees, no_trees, more_trees}
use Rattle.verse_tree.specs.Tree as t
use Rattle.verse_tree.specs.ItemTree.{ItemTree}
use Rattle.verse_tree.specs.PostOrder.{expression}
use Rattle.verse_tree.specs.Shapes.{Stand, as_block, as_part, as_statement, as_body, as_expression, as_generator, as_clause, sort}
use Rattle.verse_tree.specs.Shapes as stand
use Rattle.verse_tree.specs.Shapes.{may_stand, Shaped, AllShaped, SomeShaped, TwoShaped, ClausesShaped, AllHoles, SomeHoles}
use Rattle.verse_tree.specs.declared.exprs.Operator.TheVariants as op
use Rattle.verse_tree.specs.declared.tables.Ref.{Ref}
use Rattle.verse_tree.specs.declared.tables.Ref.TheVariants as ref
use Rattle.verse_rules_walk.specs.Around.{Used, free, value, argument, callee, object, Around, used_as}
use Rattle.verse_rules_walk.specs.Around as around
use Rattle.verse_rules_walk.specs.Nodes.{number_of_tree}
use Rattle.verse_names_tables.specs.Names.{Table}
use Rattle.verse_names_scopes.specs.Visible.{World, visible, with_local}
use Rattle.verse_names_scopes.specs.Subjects.{subject, is_defined, is_unknown}
use Rattle.verse_check_typing.specs.Refs as refs
use Rattle.verse_check_typing.specs.Sets.{has_number}
use Rattle.verse_check_typing.specs.TypeRules.{has_value, takes_item, is_called, is_enum, is_round, is_rounded}
use Rattle.verse_effects.specs.Forms.{is_on_path, is_spawned}
use Rattle.verse_meaning.specs.Programs.{Program, ref_at}
use Rattle.verse_meaning.specs.Residuals.{Form}
use Rattle.verse_meaning.specs.Evaluating.{of_value, callee_of, member_form}
use Rattle.verse_sound_rules.specs.Found.{Allowed}
use Rattle.verse_sound_rules.specs.Found as allowed
use Rattle.verse_sound_rules.specs.Fine.{seen_behind, seen_after}
use Rattle.verse_accept_scopes.specs.Sites.{Site, behind, all_behind}
use Rattle.verse_accept_scopes.specs.Holding.{OnPart, OnAll}
use Rattle.verse_accept_rows.specs.Found.{final, Found}
use Rattle.verse_accept_rows.proofs.Quiet.{first_kept}
use Rattle.verse_accept_classes.specs.Referring.{Names}
use Rattle.verse_accept_classes.specs.Laws.{Quiet, FunctionsStand}
use Rattle.verse_accept_fine.specs.Needs as needs
use Rattle.verse_accept_fine.specs.Sorted.{At, ty_at, sorted, program, Allows, is_event_type}
use Rattle.verse_accept_fine.proofs.Rules.{or_left, or_right}
use Rattle.verse_accept_fine.proofs.Names.{added}
use Rattle.verse_accept_forms.specs.Plain.{Plain, PlainNeeds}
use Rattle.verse_accept_forms.specs.Callees.{Callees, CalleesNeed, HasValue}
use Rattle.verse_accept_trees.specs.Targets.{Targets, TargetsNeed}
use Rattle.verse_accept_trees.specs.Names.{Named}

pub no : {A : Type 0} → false ≡ true → A
no e = cc

-- ---- shapes

-- a form of its own: no `defer`, generator, arm or pattern
abbrev pub IsForm : Shape → Type 0
IsForm (t.Shape.defer e) = ⊥
IsForm (t.Shape.elements x e) = ⊥
IsForm (t.Shape.entries k x e) = ⊥
IsForm (t.Shape.range x e f) = ⊥
IsForm (t.Shape.arm e f) = ⊥
IsForm (t.Shape.integer_pattern x) = ⊥
IsForm (t.Shape.minus_pattern x) = ⊥
IsForm (t.Shape.character_pattern x) = ⊥
IsForm (t.Shape.text_pattern x) = ⊥
IsForm t.Shape.truth_pattern = ⊥
IsForm t.Shape.falsehood_pattern = ⊥
IsForm t.Shape.any_pattern = ⊥
IsForm (t.Shape.enum_pattern x y) = ⊥
IsForm s = Unit {0}

abbrev pub SortForm : stand.Sort → Type 0
SortForm stand.defer_sort = ⊥
SortForm stand.generator_sort = ⊥
SortForm stand.arm_sort = ⊥
SortForm stand.pattern_sort = ⊥
SortForm q = Unit {0}

form_of_sort : (s : Shape) → SortForm (sort s) → IsForm s
form_of_sort (t.Shape.defer e) h = h
form_of_sort (t.Shape.elements x e) h = h
form_of_sort (t.Shape.entries k x e) h = h
form_of_sort (t.Shape.range x e f) h = h
form_of_sort (t.Shape.arm e f) h = h
form_of_sort (t.Shape.integer_pattern x) h = h
form_of_sort (t.Shape.minus_pattern x) h = h
form_of_sort (t.Shape.character_pattern x) h = h
form_of_sort (t.Shape.text_pattern x) h = h
form_of_sort t.Shape.truth_pattern h = h
form_of_sort t.Shape.falsehood_pattern h = h
form_of_sort t.Shape.any_pattern h = h
form_of_sort (t.Shape.enum_pattern x y) h = h
form_of_sort s h = tt

-- where forms of their own stand alone
abbrev pub TakesForms : Stand → Type 0
TakesForms as_part = ⊥
TakesForms as_generator = ⊥
TakesForms as_clause = ⊥
TakesForms stand.as_arm = ⊥
TakesForms stand.as_pattern = ⊥
TakesForms st = Unit {0}

sort_stands : (st : Stand) → TakesForms st → (q : stand.Sort) → may_stand st q ≡ true → SortForm q
sort_stands as_block f stand.block_sort h = tt
sort_stands as_statement f stand.typed_sort h = tt
sort_stands as_statement f stand.action_sort h = tt
sort_stands as_statement f stand.expression_sort h = tt
sort_stands as_body f stand.block_sort h = tt
sort_stands as_body f stand.expression_sort h = tt
sort_stands as_expression f stand.expression_sort h = tt
sort_stands as_part f q h = absurd f
sort_stands as_generator f q h = absurd f
sort_stands as_clause f q h = absurd f
sort_stands stand.as_arm f q h = absurd f
sort_stands stand.as_pattern f q h = absurd f
sort_stands st f q h = no h

pub form_stands : (st : Stand) → TakesForms st → (s : Shape) → may_stand st (sort s) ≡ true → IsForm s
form_stands st f s h = form_of_sort s (sort_stands st f (sort s) h)

-- in blocks, and as conditions and in the like
abbrev pub stand_in : Bool → Stand
stand_in true = as_part
stand_in false = as_statement

pub may_defer : (m : Bool) → may_stand (stand_in m) stand.defer_sort ≡ true → m ≡ true
may_defer true h = refl
may_defer false h = no h

pub no_generator : {A : Type 0} (m : Bool) → may_stand (stand_in m) stand.generator_sort ≡ true → A
no_generator true h = no h
no_generator false h = no h

abbrev pub is_deferring : Shape → Bool
is_deferring (t.Shape.defer e) = true
is_deferring s = false

abbrev pub sort_defers : stand.Sort → Bool
sort_defers stand.defer_sort = true
sort_defers q = false

part_stands : (q : stand.Sort) → may_stand as_part q ≡ true → sort_defers q ≡ false → SortForm q
part_stands stand.typed_sort h e = tt
part_stands stand.action_sort h e = tt
part_stands stand.expression_sort h e = tt
part_stands stand.defer_sort h e = cc
part_stands q h e = no h

pub statement_stands : (m : Bool) (s : Shape) → may_stand (stand_in m) (sort s) ≡ true → sort_defers (sort s) ≡ false → IsForm s
statement_stands true s h e = form_of_sort s (part_stands (sort s) h e)
statement_stands false s h e = form_stands as_statement tt s h

abbrev pub sort_generates : stand.Sort → Bool
sort_generates stand.generator_sort = true
sort_generates q = false

clause_form : (q : stand.Sort) → may_stand as_clause q ≡ true → sort_generates q ≡ false → SortForm q
clause_form stand.action_sort h e = tt
clause_form stand.expression_sort h e = tt
clause_form stand.generator_sort h e = cc
clause_form q h e = no h

pub clause_stands : (s : Shape) → may_stand as_clause (sort s) ≡ true → sort_generates (sort s) ≡ false → IsForm s
clause_stands s h e = form_of_sort s (clause_form (sort s) h e)

as_clause_too : (q : stand.Sort) → may_stand as_generator q ≡ true → may_stand as_clause q ≡ true
as_clause_too stand.generator_sort h = refl
as_clause_too q h = no h

pub clauses_all : (ts : Trees) → ClausesShaped ts → AllShaped as_clause ts
clauses_all no_trees h = absurd h
clauses_all (more_trees (tree n p s) ts) h = ((as_clause_too (sort s) h.0.0, h.0.1), h.1)

pub some_all : (st : Stand) (ts : Trees) → SomeShaped st ts → AllShaped st ts
some_all st no_trees h = absurd h
some_all st (more_trees b ts) h = h

pub two_all : (ts : Trees) → TwoShaped ts → AllShaped as_expression ts
two_all no_trees h = absurd h
two_all (more_trees b ts) h = (h.0, some_all as_expression ts h.1)

pub holes_all : (hs : t.Holes) → SomeHoles hs → AllHoles hs
holes_all t.Holes.no_holes h = absurd h
holes_all (t.Holes.more_holes b x hs) h = h

module _ (is : List ItemTree) (w : World) where
  -- ---- the names behind statements

  one_kept : (n : ℕ) (p : Place) (a : Around) (xs : Table) (s : Shape) → At is w a xs n p s → is_defined w xs (subject n s) ≡ false
  one_kept n p a xs s h =
      first_kept 40 (is_defined w xs (subject n s)) ((41, is_unknown w xs (subject n s)) ∷ []) h.names

  one_behind : (n : ℕ) (p : Place) (a : Around) (xs : Table) (x : Bytes) (s : Shape) → At is w a xs n p s →
      is_defined w xs (subject n s) ≡ is_some (visible w xs x) →
      with_local w x (ref.Local n) xs ≡ xs ++ (x, ref.Local n) ∷ []
  one_behind n p a xs x s h e = added w xs x (ref.Local n) (none_is (visible w xs x) (sym e ∙ one_kept n p a xs s h))

  pub behind_is : (n : ℕ) (a : Around) (xs : Table) (b : Tree) → OnPart (Found is) w n a xs b → behind w b xs ≡ seen_behind b xs
  behind_is n a xs (tree m p (t.Shape.definition x e)) h = one_behind m p a xs x (t.Shape.definition x e) h.2 refl
  behind_is n a xs (tree m p (t.Shape.typed x v e)) h = one_behind m p a xs x (t.Shape.typed x v e) h.2 refl
  behind_is n a xs (tree m p (t.Shape.variable x v e)) h = one_behind m p a xs x (t.Shape.variable x v e) h.2 refl
  behind_is n a xs (tree m p (t.Shape.elements x e)) h = one_behind m p a xs x (t.Shape.elements x e) h.2 refl
  behind_is n a xs (tree m p (t.Shape.range x e f)) h = one_behind m p a xs x (t.Shape.range x e f) h.2 refl
  behind_is n a xs (tree m p (t.Shape.entries k x e)) h =
      let kept = one_kept m p a xs (t.Shape.entries k x e) h.2 in
      let first : visible w xs k ≡ None = none_is (visible w xs k) (or_left _ _ kept) in
      let ys = with_local w k (ref.Key m) xs in
      let second : visible w ys x ≡ None = none_is (visible w ys x) (or_right _ _ kept) in
      added w ys x (ref.Local m) second ∙ ap (λ zs. zs ++ (x, ref.Local m) ∷ []) (added w xs k (ref.Key m) first)
  behind_is n a xs (tree m p s) h = refl

  pub all_behind_is : (n : ℕ) (a : Around) (xs : Table) (ts : Trees) → OnAll (Found is) w n a xs ts → all_behind w ts xs ≡ seen_after ts xs
  all_behind_is n a xs no_trees h = refl
  all_behind_is n a xs (more_trees b ts) h =
      all_behind_is n a (behind w b xs) ts h.1 ∙ ap (λ ys. seen_after ts ys) (behind_is n a xs b h.0)
