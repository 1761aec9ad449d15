-- What holds of each site holds form by form, and the numbers of parts are below those of the whole.
use Rattle.std.proofs.Common.{ℕ, ◌+◌, ◌<◌, ◌≤◌, Bool, true, false, List, [], ◌∷◌, ◌++◌, Option, arith}
use Rattle.std.specs.Prelude.{Some, None}
use Rattle.verse_tree.specs.Tree.{Written, Writtens, no_writtens, more_writtens, Tree, tree, Shape, Trees, no_trees, more_trees, Holes}
use Rattle.verse_tree.specs.Tree.{no_holes, more_holes, Pairs, no_pairs, more_pairs, Givens, no_givens, more_givens}
use Rattle.verse_tree.specs.Tree as t
use Rattle.verse_tree.specs.ItemTree.{FieldTree, ParamTree, FunTree, MemberTree, field, method, ItemTree, using, enumeration, class}
use Rattle.verse_tree.specs.ItemTree.{function}
use Rattle.verse_names_tables.specs.Names.{Table}
use Rattle.verse_names_tables.specs.Counting.{Counted}
use Rattle.verse_names_tables.specs.declared.counting.Counts.{Counts}
use Rattle.verse_names_declarations.specs.Known.{Known}
use Rattle.verse_names_scopes.specs.Visible.{World, inside}
use Rattle.verse_names_scopes.specs.Visible as visible
use Rattle.verse_names_scopes.specs.Subjects.{locals_behind}
use Rattle.verse_rules_walk.specs.Around.{Around, value, callee, object, target, spawned, argument, outside, default_around, used_as}
use Rattle.verse_rules_walk.specs.Around.{freely}
use Rattle.verse_rules_walk.specs.Around.{caught, looped, repeated, armed, deferred, left_of, indexed}
use Rattle.verse_rules_walk.specs.Nodes.{number_of_tree, round_body}
use Rattle.verse_accept_scopes.specs.Lists.{Each}
use Rattle.verse_accept_scopes.specs.Sites.{Site, behind, all_behind, param_subject, params_behind, written_sites, writtens_sites}
use Rattle.verse_accept_scopes.specs.Sites.{tree_sites}
use Rattle.verse_accept_scopes.specs.Sites.{shape_sites, all_sites, each_sites, argument_sites, holes_sites, pairs_sites, givens_sites}
use Rattle.verse_accept_scopes.specs.Sites.{params_sites, fun_sites, default_sites, field_sites, member_parts, member_site, members_sites}
use Rattle.verse_accept_scopes.specs.Sites.{item_parts, item_site, items_sites}
use Rattle.verse_accept_scopes.specs.Holding.{OnWritten, OnWrittens, On, OnShape, OnPart, OnAll, OnEach, OnArguments, OnHoles, OnPairs}
use Rattle.verse_accept_scopes.specs.Holding.{OnGivens, OnParams, OnFun, OnDefault, OnField, OnMember, OnMembers, OnItem, OnItems}
use Rattle.verse_accept_scopes.proofs.Rows.{each_first, each_rest, Row, split, rises}

module _ (P : Site → Type 0) where
  -- sites in a row, below n, of which it holds
  record Runs (n : ℕ) (vs : List Site) : Type 0 where
    low : ℕ
    high : ℕ
    row : Row low vs high
    within : high ≤ n
    each : Each P vs

  first : {n : ℕ} {vs : List Site} (us : List Site) → Runs n (vs ++ us) → Runs n vs
  first {n} {vs} us r =
      let c = split r.low vs us r.high r.row in
      record {
        low = r.low;
        high = c.middle;
        row = c.first;
        within = omega (arith, rises c.middle us r.high c.rest, r.within);
        each = each_first P vs us r.each;
      }

  rest : {n : ℕ} (vs : List Site) {us : List Site} → Runs n (vs ++ us) → Runs n us
  rest {n} vs {us} r =
      let c = split r.low vs us r.high r.row in
      record { low = c.middle; high = r.high; row = c.rest; within = r.within; each = each_rest P vs us r.each }

  -- a node behind its parts
  parts : (n : ℕ) {vs : List Site} (v : Site) → Runs n (vs ++ v ∷ []) → Runs v.number vs
  parts n {vs} v r =
      let c = split r.low vs (v ∷ []) r.high r.row in
      record { low = r.low; high = c.middle; row = c.first; within = omega (arith, c.rest.0); each = each_first P vs (v ∷ []) r.each }

  below : {n : ℕ} (vs : List Site) (v : Site) → Runs n (vs ++ v ∷ []) → v.number < n
  below {n} vs v r =
      let c = split r.low vs (v ∷ []) r.high r.row in
      omega (arith, c.rest.0, c.rest.1, r.within)

  own : (n : ℕ) (vs : List Site) {v : Site} → Runs n (vs ++ v ∷ []) → P v
  own n vs {v} r = (each_rest P vs (v ∷ []) r.each).0

  module _ (w : World) where
    mutual
      on_written : (n : ℕ) (a : Around) (b : Bool) (xs : Table) (ty : Written) → Runs n (written_sites w a b xs ty) →
          OnWritten P w a b xs ty
      on_written n a b xs t.Written.int r = tt
      on_written n a b xs t.Written.logic r = tt
      on_written n a b xs t.Written.char r = tt
      on_written n a b xs t.Written.string r = tt
      on_written n a b xs t.Written.void r = tt
      on_written n a b xs (t.Written.named m p x) r = r.each.0
      on_written n a b xs (t.Written.option ty) r = on_written n a b xs ty r
      on_written n a b xs (t.Written.array ty) r = on_written n a b xs ty r
      on_written n a b xs (t.Written.task ty) r = on_written n a b xs ty r
      on_written n a b xs (t.Written.map key ty) r = (on_written n a b xs key (first _ r), on_written n a b xs ty (rest _ r))
      on_written n a b xs (t.Written.tuple tys) r = on_writtens n a b xs tys r
      on_written n a b xs (t.Written.event ty) r = on_written n a b xs ty r
      on_written n a b xs t.Written.bare_event r = tt

      on_writtens : (n : ℕ) (a : Around) (b : Bool) (xs : Table) (tys : Writtens) → Runs n (writtens_sites w a b xs tys) →
          OnWrittens P w a b xs tys
      on_writtens n a b xs no_writtens r = tt
      on_writtens n a b xs (more_writtens ty tys) r = (on_written n a b xs ty (first _ r), on_writtens n a b xs tys (rest _ r))

    mutual
      on_part : (n : ℕ) (a : Around) (xs : Table) (e : Tree) → Runs n (tree_sites w a xs e) → OnPart P w n a xs e
      on_part n a xs (tree m p s) r = (below _ _ r, on_shape m a xs s (parts _ _ r), own _ _ r)

      on_shape : (n : ℕ) (a : Around) (xs : Table) (s : Shape) → Runs n (shape_sites w n a xs s) → OnShape P w n a xs s
      on_shape n a xs (t.Shape.block ts) r = on_all n (freely a) xs ts r
      on_shape n a xs (t.Shape.defer b) r = on_part n (deferred a) xs b r
      on_shape n a xs (t.Shape.definition x b) r = on_part n (freely a) xs b r
      on_shape n a xs (t.Shape.typed x ty b) r =
          (on_written n a true xs ty (first _ r), on_part n (used_as (value ty) a) xs b (rest _ r))
      on_shape n a xs (t.Shape.variable x ty b) r =
          (on_written n a true xs ty (first _ r), on_part n (used_as (value ty) a) xs b (rest _ r))
      on_shape n a xs (t.Shape.assignment m b c) r =
          (on_part n (used_as target a) xs b (first _ r), on_part n (freely a) xs c (rest _ r))
      on_shape n a xs (t.Shape.returned b) r = on_part n (freely a) xs b r
      on_shape n a xs t.Shape.returned_unit r = tt
      on_shape n a xs t.Shape.break_form r = tt
      on_shape n a xs (t.Shape.if_else ts b c) r = (
        on_all n (caught a) xs ts (first _ (first _ r)),
        on_part n (freely a) (all_behind w ts xs) b (rest _ (first _ r)),
        on_part n (freely a) xs c (rest _ r),
      )
      on_shape n a xs (t.Shape.if_alone ts b) r =
          (on_all n (caught a) xs ts (first _ r), on_part n (freely a) (all_behind w ts xs) b (rest _ r))
      on_shape n a xs (t.Shape.chained x b c) r = (on_part n (left_of x a) xs b (first _ r), on_part n (freely a) xs c (rest _ r))
      on_shape n a xs (t.Shape.compared x b c) r = (on_part n (freely a) xs b (first _ r), on_part n (freely a) xs c (rest _ r))
      on_shape n a xs (t.Shape.negation b) r = on_part n (caught a) xs b r
      on_shape n a xs (t.Shape.minus b) r = on_part n (freely a) xs b r
      on_shape n a xs (t.Shape.call b ts) r =
          (on_part n (used_as callee a) xs b (first _ r), on_arguments n a xs (number_of_tree b) 0 ts (rest _ r))
      on_shape n a xs (t.Shape.index b ts) r =
          (on_part n (indexed a) xs b (first _ r), on_arguments n a xs (number_of_tree b) 0 ts (rest _ r))
      on_shape n a xs (t.Shape.member b x) r = on_part n (used_as object a) xs b r
      on_shape n a xs (t.Shape.query b) r = on_part n (freely a) xs b r
      on_shape n a xs (t.Shape.integer x) r = tt
      on_shape n a xs (t.Shape.character x) r = tt
      on_shape n a xs (t.Shape.text x) r = tt
      on_shape n a xs (t.Shape.holes x hs) r = on_holes n (freely a) xs hs r
      on_shape n a xs t.Shape.truth r = tt
      on_shape n a xs t.Shape.falsehood r = tt
      on_shape n a xs t.Shape.this r = tt
      on_shape n a xs (t.Shape.name x) r = tt
      on_shape n a xs (t.Shape.tuple ts) r = on_each n (freely a) xs ts r
      on_shape n a xs (t.Shape.array ts) r = on_each n (freely a) xs ts r
      on_shape n a xs (t.Shape.option ts) r = on_all n (caught a) xs ts r
      on_shape n a xs (t.Shape.logic ts) r = on_all n (caught a) xs ts r
      on_shape n a xs (t.Shape.mapping ps) r = on_pairs n (freely a) xs ps r
      on_shape n a xs (t.Shape.instance x gs) r = on_givens n (freely a) xs gs r
      on_shape n a xs (t.Shape.event ty) r = on_written n a true xs ty r
      on_shape n a xs t.Shape.bare_event r = tt
      on_shape n a xs (t.Shape.for_form ts b) r =
          (on_all n (caught a) xs ts (first _ r), on_part n (repeated a) (all_behind w ts xs) b (rest _ r))
      on_shape n a xs (t.Shape.loop_form b) r = on_part n (looped n a) xs b r
      on_shape n a xs (t.Shape.block_form b) r = on_part n (freely a) xs b r
      on_shape n a xs (t.Shape.branch b) r = on_part n (armed a) xs b r
      on_shape n a xs (t.Shape.sync ts) r = on_each n (armed a) xs ts r
      on_shape n a xs (t.Shape.race ts) r = on_each n (armed a) xs ts r
      on_shape n a xs (t.Shape.rush ts) r = on_each n (armed a) xs ts r
      on_shape n a xs (t.Shape.cases b ts) r = (on_part n (freely a) xs b (first _ r), on_each n (freely a) xs ts (rest _ r))
      on_shape n a xs (t.Shape.spawn b) r = on_part n (used_as spawned a) xs b r
      on_shape n a xs (t.Shape.sleep x) r = tt
      on_shape n a xs t.Shape.sleep_forever r = tt
      on_shape n a xs (t.Shape.elements x b) r = on_part n (freely a) xs b r
      on_shape n a xs (t.Shape.entries x y b) r = on_part n (freely a) xs b r
      on_shape n a xs (t.Shape.range x b c) r = (on_part n (freely a) xs b (first _ r), on_part n (freely a) xs c (rest _ r))
      on_shape n a xs (t.Shape.arm b c) r = (on_part n (freely a) xs b (first _ r), on_part n (freely a) xs c (rest _ r))
      on_shape n a xs (t.Shape.integer_pattern x) r = tt
      on_shape n a xs (t.Shape.minus_pattern x) r = tt
      on_shape n a xs (t.Shape.character_pattern x) r = tt
      on_shape n a xs (t.Shape.text_pattern x) r = tt
      on_shape n a xs t.Shape.truth_pattern r = tt
      on_shape n a xs t.Shape.falsehood_pattern r = tt
      on_shape n a xs t.Shape.any_pattern r = tt
      on_shape n a xs (t.Shape.enum_pattern x y) r = tt

      on_all : (n : ℕ) (a : Around) (xs : Table) (es : Trees) → Runs n (all_sites w a xs es) → OnAll P w n a xs es
      on_all n a xs no_trees r = tt
      on_all n a xs (more_trees e es) r = (on_part n a xs e (first _ r), on_all n a (behind w e xs) es (rest _ r))

      on_each : (n : ℕ) (a : Around) (xs : Table) (es : Trees) → Runs n (each_sites w a xs es) → OnEach P w n a xs es
      on_each n a xs no_trees r = tt
      on_each n a xs (more_trees e es) r = (on_part n a xs e (first _ r), on_each n a xs es (rest _ r))

      on_arguments : (n : ℕ) (a : Around) (xs : Table) (f i : ℕ) (es : Trees) → Runs n (argument_sites w a xs f i es) →
          OnArguments P w n a xs f i es
      on_arguments n a xs f i no_trees r = tt
      on_arguments n a xs f i (more_trees e es) r =
          (on_part n (used_as (argument f i) a) xs e (first _ r), on_arguments n a xs f (i + 1) es (rest _ r))

      on_holes : (n : ℕ) (a : Around) (xs : Table) (hs : Holes) → Runs n (holes_sites w a xs hs) → OnHoles P w n a xs hs
      on_holes n a xs no_holes r = tt
      on_holes n a xs (more_holes e bs hs) r = (on_part n a xs e (first _ r), on_holes n a xs hs (rest _ r))

      on_pairs : (n : ℕ) (a : Around) (xs : Table) (ps : Pairs) → Runs n (pairs_sites w a xs ps) → OnPairs P w n a xs ps
      on_pairs n a xs no_pairs r = tt
      on_pairs n a xs (more_pairs k e ps) r =
          (on_part n a xs k (first _ (first _ r)), on_part n a xs e (rest _ (first _ r)), on_pairs n a xs ps (rest _ r))

      on_givens : (n : ℕ) (a : Around) (xs : Table) (gs : Givens) → Runs n (givens_sites w a xs gs) → OnGivens P w n a xs gs
      on_givens n a xs no_givens r = tt
      on_givens n a xs (more_givens x e gs) r = (on_part n a xs e (first _ r), on_givens n a xs gs (rest _ r))

    on_tree : (n : ℕ) (a : Around) (xs : Table) (e : Tree) → Runs n (tree_sites w a xs e) → On P w a xs e
    on_tree n a xs (tree m p s) r = (on_shape m a xs s (parts _ _ r), own _ _ r)

    on_params : (n : ℕ) (xs : Table) (ps : List ParamTree) → Runs n (params_sites w xs ps) → OnParams P w xs ps
    on_params n xs [] r = tt
    on_params n xs (p ∷ ps) r = (
      on_written n outside false xs p.written (first _ (first _ r)),
      own _ _ (first _ r),
      on_params n (locals_behind w (param_subject p) xs) ps (rest _ r),
    )

    on_fun : (n : ℕ) (xs : Table) (f : FunTree) → Runs n (fun_sites w xs f) → OnFun P w xs f
    on_fun n xs f r = (
      on_params n xs f.params (first _ (first _ r)),
      on_written n outside false (params_behind w f.params xs) f.written (rest _ (first _ r)),
      on_tree n (round_body f) (params_behind w f.params xs) f.body (rest _ r),
    )

    on_default : (n : ℕ) (xs : Table) (ty : Written) (o : Option Tree) → Runs n (default_sites w xs ty o) → OnDefault P w xs ty o
    on_default n xs ty None r = tt
    on_default n xs ty (Some e) r = on_tree n (default_around ty) xs e r

    on_field : (n : ℕ) (xs : Table) (d : FieldTree) → Runs n (field_sites w xs d) → OnField P w xs d
    on_field n xs d r = (on_written n outside false xs d.written (first _ r), on_default n xs d.written d.default (rest _ r))

  on_member : (n : ℕ) (w v : World) (xs : Table) (m : MemberTree) → Runs n (member_parts w v xs m ++ member_site w xs m ∷ []) →
      OnMember P w v xs m
  on_member n w v xs (field d) r = (on_field w n xs d (first _ r), own _ _ r)
  on_member n w v xs (method f) r = (on_fun v n xs f (first _ r), own _ _ r)

  on_members : (n : ℕ) (w v : World) (xs : Table) (ms : List MemberTree) → Runs n (members_sites w v xs ms) → OnMembers P w v xs ms
  on_members n w v xs [] r = tt
  on_members n w v xs (m ∷ ms) r = (on_member n w v xs m (first _ r), on_members n w v xs ms (rest _ r))

  module _ (k : Known) where
    on_item : (n : ℕ) (xs : Table) (i : ItemTree) (c : Counts) → Runs n (item_parts k xs i c ++ item_site k xs i ∷ []) → OnItem P k xs i c
    on_item n xs (using u) c r = own n [] r
    on_item n xs (enumeration e) c r = own n [] r
    on_item n xs (class d) c r = (on_members n (visible.outside k) (inside k c.classes) xs d.members (first _ r), own _ _ r)
    on_item n xs (function f) c r = (on_fun (visible.outside k) n xs f (first _ r), own _ _ r)

    on_items : (n : ℕ) (xs : Table) (is : List Counted) → Runs n (items_sites k xs is) → OnItems P k xs is
    on_items n xs [] r = tt
    on_items n xs (i ∷ is) r = (on_item n xs i.item i.before (first _ r), on_items n xs is (rest _ r))

  pub all_on : (k : Known) (xs : Table) (is : List Counted) (m : ℕ) → Row 0 (items_sites k xs is) m → Each P (items_sites k xs is) →
      OnItems P k xs is
  all_on k xs is m r h = on_items k m xs is (record { low = 0; high = m; row = r; within = omega arith; each = h })
