-- The nodes that are walked and those whose names are looked up are the sites, and parts are numbered below the whole.
use Rattle.std.proofs.Common.{◌≡◌, ℕ, suc, ◌+◌, ◌<◌, ◌≤◌, Bool, true, false, List, [], ◌∷◌, ◌++◌, map, length, Option, refl, ap, sym, ◌∙◌}
use Rattle.std.proofs.Common.{append_assoc}
use Rattle.std.proofs.Common.{subst, arith, append-nil}
use Rattle.std.specs.Prelude.{Some, None}
use Rattle.std.proofs.lemmas.List.{map-append}
use Rattle.std.proofs.lemmas.Option.{same_Some}
use Rattle.verse_base.specs.declared.places.Place.{Place}
use Rattle.verse_tree.specs.Tree.{Bytes, Written, Writtens, no_writtens, more_writtens, Tree, tree, Shape, Trees, no_trees, more_trees}
use Rattle.verse_tree.specs.Tree.{Holes}
use Rattle.verse_tree.specs.Tree.{no_holes, more_holes, Pairs, no_pairs, more_pairs, Givens, no_givens, more_givens}
use Rattle.verse_tree.specs.Tree as t
use Rattle.verse_tree.specs.ItemTree.{FieldTree, ParamTree, FunTree, MemberTree, field, method, ItemTree, using, enumeration, class}
use Rattle.verse_tree.specs.ItemTree.{function}
use Rattle.verse_tree.specs.PostOrder.{What, item, member, parameter, type_name, expression}
use Rattle.verse_tree.specs.Shapes.{Stand, as_block, as_part, as_statement, as_body, as_expression, as_generator, as_clause, as_arm}
use Rattle.verse_tree.specs.Shapes.{as_pattern, sort, may_stand, Shaped, PartsShaped, AllShaped, SomeShaped, TwoShaped, ClausesShaped}
use Rattle.verse_tree.specs.Shapes.{AllHoles, SomeHoles, PairsShaped, GivensShaped, AllOf, DefaultShaped, FieldShaped}
use Rattle.verse_tree.specs.Shapes.{FunShaped}
use Rattle.verse_tree.specs.Shapes.{MemberShaped, ItemShaped, ItemsShaped}
use Rattle.verse_tree.specs.declared.exprs.Operator.{Operator}
use Rattle.verse_tree.specs.declared.exprs.Operator.TheVariants as op
use Rattle.verse_tree.specs.declared.tables.Ref.{Ref}
use Rattle.verse_tree.specs.declared.tables.Ref.TheVariants as ref
use Rattle.verse_names_tables.specs.Names.{Table}
use Rattle.verse_names_tables.specs.Counting.{counted, counts_after, no_counts}
use Rattle.verse_names_tables.specs.declared.counting.Counts.{Counts}
use Rattle.verse_names_tables.specs.Notes.{notes}
use Rattle.verse_names_declarations.specs.Known.{Known, known}
use Rattle.verse_names_scopes.specs.Visible.{World, inside, visible, with_name, with_local}
use Rattle.verse_names_scopes.specs.Visible as worlds
use Rattle.verse_names_scopes.specs.Subjects.{Subject, quiet, subject, locals_behind}
use Rattle.verse_names_scopes.specs.Subjects as u
use Rattle.verse_names_scopes.specs.Scopes.{apart, operand, through_written, through_writtens, through, through_parts, through_all}
use Rattle.verse_names_scopes.specs.Scopes.{through_arms}
use Rattle.verse_names_scopes.specs.Scopes.{through_holes, through_pairs, through_givens, through_params, through_fun, through_default}
use Rattle.verse_names_scopes.specs.Scopes.{through_field, through_member, through_members, through_item, through_items}
use Rattle.verse_names_scopes.specs.Visits.{Visit, Seen, visit, leave}
use Rattle.verse_rules_walk.specs.Around.{Used, free, base, Around, value, callee, object, target, spawned, argument, outside, used_as}
use Rattle.verse_rules_walk.specs.Around.{freely}
use Rattle.verse_rules_walk.specs.Around.{caught, looped, repeated, armed, deferred, left_of, indexed, indexed_use}
use Rattle.verse_rules_walk.specs.Around.{default_around}
use Rattle.verse_rules_walk.specs.Nodes.{Node, node, number_of_tree, written_nodes, writtens_nodes, tree_nodes, shape_nodes}
use Rattle.verse_rules_walk.specs.Nodes.{trees_nodes, argument_nodes, holes_nodes, pairs_nodes, givens_nodes, params_nodes}
use Rattle.verse_rules_walk.specs.Nodes.{round_body, fun_nodes, default_nodes, field_nodes, member_node, members_nodes, item_node}
use Rattle.verse_rules_walk.specs.Nodes.{items_nodes}
use Rattle.verse_rules_walk.specs.Nodes as walked
use Rattle.verse_accept_scopes.specs.Lists.{Each}
use Rattle.verse_accept_scopes.specs.Sites.{Site, node_of, visit_of, behind, all_behind, param_subject, params_behind, site, tree_site}
use Rattle.verse_accept_scopes.specs.Sites.{written_sites, writtens_sites, tree_sites, shape_sites, all_sites, each_sites}
use Rattle.verse_accept_scopes.specs.Sites.{argument_sites, holes_sites, pairs_sites, givens_sites, params_sites, fun_sites, default_sites}
use Rattle.verse_accept_scopes.specs.Sites.{field_sites, member_parts, member_site, members_sites, item_parts, item_site, items_sites}
use Rattle.verse_accept_scopes.specs.Laws.{parts_of, LocalBelow, Stands}
use Rattle.verse_accept_scopes.proofs.Rows.{each_joined, Row, split, rises, last_number, all_below}

-- a part of a program: how it is visited, the names behind it, its sites by the names before it, and its nodes
pub record Part : Type 0 where
  pub see : Seen → Seen
  pub names : Table → Table
  pub sites : Table → List Site
  pub nodes : List Node

-- numbers above those of a part, of the node that it belongs to and of the loop round it; and numbers below them
abbrev pub Below : List ℕ → ℕ → Type 0
Below bs h = Each (λ (b : ℕ). h ≤ b) bs

abbrev pub Above : List ℕ → ℕ → Type 0
Above ls l = Each (λ (c : ℕ). c < l) ls

abbrev pub NamesBelow : ℕ → Table → Type 0
NamesBelow n xs = Each (λ (e : Bytes × Ref). LocalBelow n e.1) xs

below_down : (bs : List ℕ) (k h : ℕ) → k ≤ h → Below bs h → Below bs k
below_down [] k h l r = tt
below_down (b ∷ bs) k h l r = (omega (arith, l, r.0), below_down bs k h l r.1)

above_up : (ls : List ℕ) (k h : ℕ) → k ≤ h → Above ls k → Above ls h
above_up [] k h l r = tt
above_up (c ∷ ls) k h l r = (omega (arith, l, r.0), above_up ls k h l r.1)

ref_up : (r : Ref) (k h : ℕ) → k ≤ h → LocalBelow k r → LocalBelow h r
ref_up (ref.Local m) k h l b = omega (arith, l, b)
ref_up (ref.Key m) k h l b = omega (arith, l, b)
ref_up r k h l b = absurd b

names_up : (xs : Table) (k h : ℕ) → k ≤ h → NamesBelow k xs → NamesBelow h xs
names_up [] k h l r = tt
names_up (e ∷ xs) k h l r = (ref_up e.1 k h l r.0, names_up xs k h l r.1)

abbrev pub behind_all : (Table → Table) → (Table → List Site) → Seen → Seen
behind_all names sites s = record { locals = names s.locals; visits = s.visits ++ map visit_of (sites s.locals) }

-- In says which worlds there are
pub record Agrees (In : World → Type 0) (ls bs : List ℕ) (p : Part) (s : Seen) : Type 0 where
  pub seen : p.see s ≡ behind_all p.names p.sites s
  pub walked : map node_of (p.sites s.locals) ≡ p.nodes
  pub stand : (lo hi : ℕ) → Row lo (p.sites s.locals) hi → Below bs hi → Above ls lo → NamesBelow lo s.locals →
      Each Stands (p.sites s.locals)
  pub names : (lo hi : ℕ) → Row lo (p.sites s.locals) hi → NamesBelow lo s.locals → NamesBelow hi (p.names s.locals)
  pub worlds : Each (λ (v : Site). In v.world) (p.sites s.locals)

abbrev pub Agree : (World → Type 0) → List ℕ → List ℕ → Part → Type 0
Agree In ls bs p = (s : Seen) → Agrees In ls bs p s

abbrev nothing : Part
nothing = record { see = λ s. s; names = λ xs. xs; sites = λ xs. []; nodes = [] }

with_visits : (s : Seen) (vs : List Visit) → vs ≡ s.visits → s ≡ record { locals = s.locals; visits = vs }
with_visits s vs e = ap (λ (l : List Visit). record { locals = s.locals; visits = l }) (sym e)

nothing_agrees : {In : World → Type 0} {ls bs : List ℕ} → Agree In ls bs nothing
nothing_agrees s = record {
  seen = with_visits s (s.visits ++ []) (append-nil s.visits);
  walked = refl;
  stand = λ lo hi r b a m. tt;
  names = λ lo hi r m. subst (λ (k : ℕ). NamesBelow k s.locals) r m;
  worlds = tt;
}

-- one part behind the other
abbrev then_part : Part → Part → Part
then_part p q = record {
  see = λ s. q.see (p.see s);
  names = λ xs. q.names (p.names xs);
  sites = λ xs. p.sites xs ++ q.sites (p.names xs);
  nodes = p.nodes ++ q.nodes;
}

abbrev with_list : Table → List Visit → Seen
with_list xs vs = record { locals = xs; visits = vs }

-- the second part stands above the numbers ms, which the end of the first one is above
in_turn_above : {In : World → Type 0} {ls bs : List ℕ} {p q : Part} (ms : List ℕ) →
    ((xs : Table) (lo hi : ℕ) → Row lo (p.sites xs) hi → Above ls lo → Above ms hi) → Agree In ls bs p → Agree In ms bs q →
    Agree In ls bs (then_part p q)
in_turn_above {In} {ls} {bs} {p} {q} ms up f g s =
    let own = p.sites s.locals in
    let ys = p.names s.locals in
    let middle = behind_all p.names p.sites s in
    record {
      seen =
          ap q.see (f s).seen ∙ (g middle).seen
          ∙ ap (with_list (q.names ys)) (append_assoc s.visits (map visit_of own) (map visit_of (q.sites ys)))
          ∙ ap (λ (l : List Visit). with_list (q.names ys) (s.visits ++ l)) (sym (map-append visit_of own (q.sites ys)));
      walked =
          map-append node_of own (q.sites ys) ∙ ap (λ (l : List Node). l ++ map node_of (q.sites ys)) (f s).walked
          ∙ ap (λ (l : List Node). p.nodes ++ l) (g middle).walked;
      stand = λ lo hi r b a m.
          let c = split lo own (q.sites ys) hi r in
          each_joined Stands own (q.sites ys)
          ((f s).stand lo c.middle c.first (below_down bs c.middle hi (rises c.middle (q.sites ys) hi c.rest) b) a m)
          ((g middle).stand c.middle hi c.rest b (up s.locals lo c.middle c.first a) ((f s).names lo c.middle c.first m));
      names = λ lo hi r m.
          let c = split lo own (q.sites ys) hi r in
          (g middle).names c.middle hi c.rest ((f s).names lo c.middle c.first m);
      worlds = each_joined (λ (v : Site). In v.world) own (q.sites ys) (f s).worlds (g middle).worlds;
    }

in_turn : {In : World → Type 0} {ls bs : List ℕ} {p q : Part} → Agree In ls bs p → Agree In ls bs q → Agree In ls bs (then_part p q)
in_turn {In} {ls} {bs} {p} {q} f g =
    in_turn_above ls (λ xs lo hi r a. above_up ls lo hi (rises lo (p.sites xs) hi r) a) f g

-- the names of a part are left behind
abbrev apart_part : Part → Part
apart_part p = record { see = apart leave p.see; names = λ xs. xs; sites = p.sites; nodes = p.nodes }

shut : {In : World → Type 0} {ls bs : List ℕ} {p : Part} → Agree In ls bs p → Agree In ls bs (apart_part p)
shut {In} {ls} {bs} {p} f s = record {
  seen = ap (leave s) (f s).seen;
  walked = (f s).walked;
  stand = (f s).stand;
  names = λ lo hi r m. names_up s.locals lo hi (rises lo (p.sites s.locals) hi r) m;
  worlds = (f s).worlds;
}

-- a part that adds no names
abbrev still_part : Part → Part
still_part p = record { see = p.see; names = λ xs. xs; sites = p.sites; nodes = p.nodes }

still : {In : World → Type 0} {ls bs : List ℕ} {p : Part} → ((xs : Table) → p.names xs ≡ xs) → Agree In ls bs p →
    Agree In ls bs (still_part p)
still {In} {ls} {bs} {p} calm f s = record {
  seen = (f s).seen ∙ ap (λ (xs : Table). with_list xs (s.visits ++ map visit_of (p.sites s.locals))) (calm s.locals);
  walked = (f s).walked;
  stand = (f s).stand;
  names = λ lo hi r m. names_up s.locals lo hi (rises lo (p.sites s.locals) hi r) m;
  worlds = (f s).worlds;
}

-- a part that belongs to a node, used by itself or as the node is
sub : {n : ℕ} {In : World → Type 0} {ls bs : List ℕ} {p : Part} → Agree In [] bs p → Agree In ls (n ∷ bs) p
sub f s = record {
  seen = (f s).seen;
  walked = (f s).walked;
  stand = λ lo hi r b a m. (f s).stand lo hi r b.1 tt m;
  names =
      (f s).names;
  worlds = (f s).worlds;
}

sub_used : {n : ℕ} {In : World → Type 0} {ls bs : List ℕ} {p : Part} → Agree In ls bs p → Agree In ls (n ∷ bs) p
sub_used f s = record {
  seen = (f s).seen;
  walked = (f s).walked;
  stand = λ lo hi r b a m. (f s).stand lo hi r b.1 a m;
  names =
      (f s).names;
  worlds = (f s).worlds;
}

-- the body of a loop
sub_loop : {n : ℕ} {In : World → Type 0} {ls bs : List ℕ} {p : Part} → Agree In [] (n ∷ []) p → Agree In ls (n ∷ bs) p
sub_loop f s = record {
  seen = (f s).seen;
  walked = (f s).walked;
  stand = λ lo hi r b a m. (f s).stand lo hi r (b.0, tt) tt m;
  names = (f s).names;
  worlds = (f s).worlds;
}

abbrev pub loop_list : Option ℕ → List ℕ
loop_list None = []
loop_list (Some m) = m ∷ []

abbrev pub loops : Around → List ℕ
loops a = loop_list a.enclosing

abbrev pub used_list : Used → List ℕ
used_list (argument c i) = c ∷ []
used_list u = []

abbrev pub callees : Around → List ℕ
callees a = used_list a.used

loop_above : (o : Option ℕ) (h n m : ℕ) → suc n ≡ h → Below (loop_list o) h → o ≡ Some m → n < m
loop_above None h n m e b f = cc
loop_above (Some k) h n m e b f = omega (arith, e, b.0, same_Some k m f)

same_callee : (c d i j : ℕ) → argument c i ≡ argument d j → c ≡ d
same_callee c d i j e = cc

callee_below : (u : Used) (lo n c i : ℕ) → lo ≤ n → Above (used_list u) lo → u ≡ argument c i → c < n
callee_below (argument d j) lo n c i l a e = omega (arith, l, a.0, same_callee d c j i e)
callee_below u lo n c i l a e = cc

-- ---- single nodes

-- what a node gives names to is itself
abbrev SubjectAt : ℕ → Subject → Type 0
SubjectAt n (u.defined x r) = LocalBelow (suc n) r
SubjectAt n (u.both_defined x r y q) = LocalBelow (suc n) r × LocalBelow (suc n) q
SubjectAt n v = Unit {0}

with_below : (n : ℕ) (x : Bytes) (r : Ref) (o : Option Ref) (xs : Table) → LocalBelow n r → NamesBelow n xs →
    NamesBelow n (with_name x r o xs)
with_below n x r None xs h m = each_joined (λ (e : Bytes × Ref). LocalBelow n e.1) xs ((x, r) ∷ []) m (h, tt)
with_below n x r (Some q) xs h m = m

shape_at : (n : ℕ) (s : Shape) → SubjectAt n (subject n s)
shape_at n (t.Shape.definition x e) = omega arith
shape_at n (t.Shape.typed x ty e) = omega arith
shape_at n (t.Shape.variable x ty e) = omega arith
shape_at n (t.Shape.elements x e) = omega arith
shape_at n (t.Shape.entries x y e) = (omega arith, omega arith)
shape_at n (t.Shape.range x e f) = omega arith
shape_at n s = tt

module _ (w : World) where
  names_behind : (n : ℕ) (v : Subject) (xs : Table) → SubjectAt n v → NamesBelow n xs → NamesBelow (suc n) (locals_behind w v xs)
  names_behind n (u.defined x r) xs h m =
      with_below (suc n) x r (visible w xs x) xs h (names_up xs n (suc n) (omega arith) m)
  names_behind n (u.both_defined x r y q) xs h m =
      with_below (suc n) y q (visible w (with_local w x r xs) y) (with_local w x r xs) h.1
      (with_below (suc n) x r (visible w xs x) xs h.0 (names_up xs n (suc n) (omega arith) m))
  names_behind n v xs h m = names_up xs n (suc n) (omega arith) m

  abbrev node_part : ℕ → Place → Around → What → Subject → Part
  node_part n p a x v = record {
    see = visit w n p v;
    names = locals_behind w v;
    sites = λ xs. site w n p a xs x v ∷ [];
    nodes = node n p a x ∷ [];
  }

  one_behind : (n lo hi : ℕ) (v : Subject) (xs : Table) → SubjectAt n v → n ≡ lo → suc lo ≡ hi → NamesBelow lo xs →
      NamesBelow hi (locals_behind w v xs)
  one_behind n lo hi v xs h e f m =
      let at : NamesBelow n xs = subst (λ (k : ℕ). NamesBelow k xs) (sym e) m in
      subst (λ (k : ℕ). NamesBelow k (locals_behind w v xs)) (let same : suc n ≡ hi = omega (arith, e, f) in same)
      (names_behind n v xs h at)

module _ (In : World → Type 0) (w : World) (home : In w) where
  -- one without parts
  node_agrees : (n : ℕ) (p : Place) (a : Around) (x : What) (v : Subject) → parts_of n a x ≡ [] → SubjectAt n v →
      Agree In (callees a) (loops a) (node_part w n p a x v)
  node_agrees n p a x v e at s = record {
    seen = refl;
    walked = refl;
    stand = λ lo hi r b c m. (
      record {
        parts = subst (Each (λ (u : Node). u.number < n)) (sym e) tt;
        locals = subst (λ (k : ℕ). NamesBelow k s.locals) (sym r.0) m;
        callee = λ d i. callee_below a.used lo n d i (omega (arith, r.0)) c;
        loop = λ m. loop_above a.enclosing hi n m (let here : suc n ≡ hi = omega (arith, r.0, r.1) in here) b;
      },
      tt,
    );
    names = λ lo hi r m. one_behind w n lo hi v s.locals at r.0 r.1 m;
    worlds = (home, tt);
  }

  -- ---- types

  abbrev written_part : Around → Bool → Written → Part
  written_part a b ty = record {
    see = through_written (visit w) b ty;
    names = λ xs. xs;
    sites = λ xs. written_sites w a b xs ty;
    nodes = written_nodes a ty;
  }

  abbrev writtens_part : Around → Bool → Writtens → Part
  writtens_part a b tys = record {
    see = through_writtens (visit w) b tys;
    names = λ xs. xs;
    sites = λ xs. writtens_sites w a b xs tys;
    nodes = writtens_nodes a tys;
  }

  mutual
    written_agrees : (a : Around) (b : Bool) (ty : Written) → Agree In (callees a) (loops a) (written_part a b ty)
    written_agrees a b t.Written.int = nothing_agrees
    written_agrees a b t.Written.logic = nothing_agrees
    written_agrees a b t.Written.char = nothing_agrees
    written_agrees a b t.Written.string = nothing_agrees
    written_agrees a b t.Written.void = nothing_agrees
    written_agrees a b (t.Written.named n p x) = node_agrees n p a (type_name x) (u.type_name b x) refl tt
    written_agrees a b (t.Written.option ty) = written_agrees a b ty
    written_agrees a b (t.Written.array ty) = written_agrees a b ty
    written_agrees a b (t.Written.task ty) = written_agrees a b ty
    written_agrees a b (t.Written.map key ty) = in_turn (written_agrees a b key) (written_agrees a b ty)
    written_agrees a b (t.Written.tuple tys) = writtens_agree a b tys
    written_agrees a b (t.Written.event ty) = written_agrees a b ty
    written_agrees a b t.Written.bare_event = nothing_agrees

    writtens_agree : (a : Around) (b : Bool) (tys : Writtens) → Agree In (callees a) (loops a) (writtens_part a b tys)
    writtens_agree a b no_writtens = nothing_agrees
    writtens_agree a b (more_writtens ty tys) = in_turn (written_agrees a b ty) (writtens_agree a b tys)

  -- ---- expressions

  abbrev tree_part : Around → Tree → Part
  tree_part a e = record {
    see = through (visit w) leave e;
    names = behind w e;
    sites = λ xs. tree_sites w a xs e;
    nodes = tree_nodes a e;
  }

  abbrev shape_part : ℕ → Around → Shape → Part
  shape_part n a s = record {
    see = through_parts (visit w) leave s;
    names = λ xs. xs;
    sites = λ xs. shape_sites w n a xs s;
    nodes = shape_nodes n a s;
  }

  abbrev all_part : Around → Trees → Part
  all_part a es = record {
    see = through_all (visit w) leave es;
    names = all_behind w es;
    sites = λ xs. all_sites w a xs es;
    nodes = trees_nodes a es;
  }

  -- expressions one behind the other
  abbrev each_part : Around → Trees → Part
  each_part a es = record {
    see = through_all (visit w) leave es;
    names = λ xs. xs;
    sites = λ xs. each_sites w a xs es;
    nodes = trees_nodes a es;
  }

  abbrev arms_part : Around → Trees → Part
  arms_part a es = record {
    see = through_arms (visit w) leave es;
    names = λ xs. xs;
    sites = λ xs. each_sites w a xs es;
    nodes = trees_nodes a es;
  }

  abbrev arguments_part : Around → ℕ → ℕ → Trees → Part
  arguments_part a f i es = record {
    see = through_all (visit w) leave es;
    names = λ xs. xs;
    sites = λ xs. argument_sites w a xs f i es;
    nodes = argument_nodes a f i es;
  }

  abbrev holes_part : Around → Holes → Part
  holes_part a hs = record {
    see = through_holes (visit w) leave hs;
    names = λ xs. xs;
    sites = λ xs. holes_sites w a xs hs;
    nodes = holes_nodes a hs;
  }

  abbrev pairs_part : Around → Pairs → Part
  pairs_part a ps = record {
    see = through_pairs (visit w) leave ps;
    names = λ xs. xs;
    sites = λ xs. pairs_sites w a xs ps;
    nodes = pairs_nodes a ps;
  }

  abbrev givens_part : Around → Givens → Part
  givens_part a gs = record {
    see = through_givens (visit w) leave gs;
    names = λ xs. xs;
    sites = λ xs. givens_sites w a xs gs;
    nodes = givens_nodes a gs;
  }

  -- a node behind its parts
  whole : (n : ℕ) (p : Place) (a : Around) (e : Shape) → Agree In (callees a) (n ∷ loops a) (shape_part n a e) →
      Agree In (callees a) (loops a) (tree_part a (tree n p e))
  whole n p a e f s =
      let own = shape_sites w n a s.locals e in
      let at = tree_site w a s.locals (tree n p e) in
      record {
        seen =
            ap (visit w n p (subject n e)) (f s).seen
            ∙ ap (with_list (behind w (tree n p e) s.locals)) (append_assoc s.visits (map visit_of own) (visit_of at ∷ []))
            ∙ ap (λ (l : List Visit). with_list (behind w (tree n p e) s.locals) (s.visits ++ l)) (sym (map-append visit_of own (at ∷ [])));
        walked =
            map-append node_of own (at ∷ []) ∙ ap (λ (l : List Node). l ++ node n p a (expression e) ∷ []) (f s).walked;
        stand = λ lo hi r b c m.
            let d = split lo own (at ∷ []) hi r in
            let here : suc n ≡ hi = omega (arith, d.rest.0, d.rest.1) in
            let first : d.middle ≤ n = omega (arith, d.rest.0) in
            let before : d.middle ≤ hi = omega (arith, here, first) in
            let low : lo ≤ n = omega (arith, rises lo own d.middle d.first, first) in
            each_joined Stands own (at ∷ [])
            ((f s).stand lo d.middle d.first (first, below_down (loops a) d.middle hi before b) c m) (
              record {
                parts = subst (Each (λ (u : Node). u.number < n)) (f s).walked (all_below lo own d.middle n d.first first);
                locals = names_up s.locals lo n low m;
                callee = λ k i. callee_below a.used lo n k i low c;
                loop = λ m. loop_above a.enclosing hi n m here b;
              },
              tt,
            );
        names = λ lo hi r m.
            let d = split lo own (at ∷ []) hi r in
            one_behind w n d.middle hi (subject n e) s.locals (shape_at n e) d.rest.0 d.rest.1
            (names_up s.locals lo d.middle (rises lo own d.middle d.first) m);
        worlds = each_joined (λ (v : Site). In v.world) own (at ∷ []) (f s).worlds (home, tt);
      }

  -- forms that give no name to what stands behind
  calm_shape : (n : ℕ) (s : Shape) (xs : Table) → may_stand as_expression (sort s) ≡ true → locals_behind w (subject n s) xs ≡ xs
  calm_shape n (t.Shape.definition x e) xs h = cc
  calm_shape n (t.Shape.typed x ty e) xs h = cc
  calm_shape n (t.Shape.variable x ty e) xs h = cc
  calm_shape n (t.Shape.elements x e) xs h = cc
  calm_shape n (t.Shape.entries x y e) xs h = cc
  calm_shape n (t.Shape.range x e f) xs h = cc
  calm_shape n s xs h = refl

  calm_block : (n : ℕ) (s : Shape) (xs : Table) → may_stand as_block (sort s) ≡ true → locals_behind w (subject n s) xs ≡ xs
  calm_block n (t.Shape.definition x e) xs h = cc
  calm_block n (t.Shape.typed x ty e) xs h = cc
  calm_block n (t.Shape.variable x ty e) xs h = cc
  calm_block n (t.Shape.elements x e) xs h = cc
  calm_block n (t.Shape.entries x y e) xs h = cc
  calm_block n (t.Shape.range x e f) xs h = cc
  calm_block n s xs h = refl

  calm_body : (n : ℕ) (s : Shape) (xs : Table) → may_stand as_body (sort s) ≡ true → locals_behind w (subject n s) xs ≡ xs
  calm_body n (t.Shape.definition x e) xs h = cc
  calm_body n (t.Shape.typed x ty e) xs h = cc
  calm_body n (t.Shape.variable x ty e) xs h = cc
  calm_body n (t.Shape.elements x e) xs h = cc
  calm_body n (t.Shape.entries x y e) xs h = cc
  calm_body n (t.Shape.range x e f) xs h = cc
  calm_body n s xs h = refl

  calm_pattern : (n : ℕ) (s : Shape) (xs : Table) → may_stand as_pattern (sort s) ≡ true → locals_behind w (subject n s) xs ≡ xs
  calm_pattern n (t.Shape.definition x e) xs h = cc
  calm_pattern n (t.Shape.typed x ty e) xs h = cc
  calm_pattern n (t.Shape.variable x ty e) xs h = cc
  calm_pattern n (t.Shape.elements x e) xs h = cc
  calm_pattern n (t.Shape.entries x y e) xs h = cc
  calm_pattern n (t.Shape.range x e f) xs h = cc
  calm_pattern n s xs h = refl

  calm_expression : (e : Tree) → Shaped as_expression e → (xs : Table) → behind w e xs ≡ xs
  calm_expression (tree n p s) h xs = calm_shape n s xs h.0

  block_calm : (e : Tree) → Shaped as_block e → (xs : Table) → behind w e xs ≡ xs
  block_calm (tree n p s) h xs = calm_block n s xs h.0

  body_calm : (e : Tree) → Shaped as_body e → (xs : Table) → behind w e xs ≡ xs
  body_calm (tree n p s) h xs = calm_body n s xs h.0

  pattern_calm : (e : Tree) → Shaped as_pattern e → (xs : Table) → behind w e xs ≡ xs
  pattern_calm (tree n p s) h xs = calm_pattern n s xs h.0

  -- an expression, a block, a body and a pattern
  quietly : (a : Around) {n : ℕ} {ls bs : List ℕ} (e : Tree) → Shaped as_expression e → Agree In [] bs (tree_part a e) →
      Agree In ls (n ∷ bs) (still_part (tree_part a e))
  quietly a e h f = sub (still (calm_expression e h) f)

  blockly : (a : Around) {n : ℕ} {ls bs : List ℕ} (e : Tree) → Shaped as_block e → Agree In [] bs (tree_part a e) →
      Agree In ls (n ∷ bs) (still_part (tree_part a e))
  blockly a e h f = sub (still (block_calm e h) f)

  bodily : (a : Around) {n : ℕ} {ls bs : List ℕ} (e : Tree) → Shaped as_body e → Agree In [] bs (tree_part a e) →
      Agree In ls (n ∷ bs) (still_part (tree_part a e))
  bodily a e h f = sub (still (body_calm e h) f)

  abbrev operand_part : Operator → Part → Part
  operand_part x p = record { see = operand leave x p.see; names = λ xs. xs; sites = p.sites; nodes = p.nodes }

  operand_agrees : {ls bs : List ℕ} (p : Part) (x : Operator) → Agree In ls bs (still_part p) → Agree In ls bs (operand_part x p)
  operand_agrees p op.Or f = shut f
  operand_agrees p op.And f = f
  operand_agrees p op.Add f = f
  operand_agrees p op.Sub f = f
  operand_agrees p op.Mul f = f
  operand_agrees p op.Div f = f

  left : {p : Part} (x : Operator) (a : Around) → Agree In (callees (left_of x a)) (loops (left_of x a)) p → Agree In [] (loops a) p
  left op.Or a f = f
  left op.And a f = f
  left op.Add a f = f
  left op.Sub a f = f
  left op.Mul a f = f
  left op.Div a f = f

  indexed_list : (u : Used) → used_list (indexed_use u) ≡ []
  indexed_list free = refl
  indexed_list callee = refl
  indexed_list object = refl
  indexed_list (argument c i) = refl
  indexed_list (value ty) = refl
  indexed_list target = refl
  indexed_list base = refl
  indexed_list spawned = refl

  in_index : {p : Part} (a : Around) → Agree In (callees (indexed a)) (loops a) p → Agree In [] (loops a) p
  in_index {p} a f = subst (λ (ls : List ℕ). Agree In ls (loops a) p) (indexed_list a.used) f

  tree_last : (a : Around) (e : Tree) (xs : Table) (lo hi : ℕ) → Row lo (tree_sites w a xs e) hi → number_of_tree e < hi
  tree_last a (tree n p s) xs lo hi r =
      let end = last_number lo (shape_sites w n a xs s) (tree_site w a xs (tree n p s)) hi r in
      omega (arith, end)

  -- arguments behind what is called
  called : {n : ℕ} {ls bs : List ℕ} {q : Part} (a : Around) (e : Tree) → Agree In ls (n ∷ bs) (still_part (tree_part a e)) →
      Agree In (number_of_tree e ∷ []) (n ∷ bs) q → Agree In ls (n ∷ bs) (then_part (still_part (tree_part a e)) q)
  called a e f g = in_turn_above (number_of_tree e ∷ []) (λ xs lo hi r l. (tree_last a e xs lo hi r, tt)) f g

  mutual
    tree_agrees : (a : Around) (e : Tree) (st : Stand) → Shaped st e → Agree In (callees a) (loops a) (tree_part a e)
    tree_agrees a (tree n p s) st h = whole n p a s (shape_agrees n a s h.1)

    shape_agrees : (n : ℕ) (a : Around) (s : Shape) → PartsShaped s → Agree In (callees a) (n ∷ loops a) (shape_part n a s)
    shape_agrees n a (t.Shape.block ts) h = sub (shut (all_agree (freely a) ts as_part h))
    shape_agrees n a (t.Shape.defer b) h = blockly _ b h (tree_agrees (deferred a) b as_block h)
    shape_agrees n a (t.Shape.definition x b) h = quietly _ b h (tree_agrees (freely a) b as_expression h)
    shape_agrees n a (t.Shape.typed x ty b) h =
        in_turn (sub_used (written_agrees a true ty)) (quietly _ b h.1 (tree_agrees (used_as (value ty) a) b as_expression h.1))
    shape_agrees n a (t.Shape.variable x ty b) h =
        in_turn (sub_used (written_agrees a true ty)) (quietly _ b h.1 (tree_agrees (used_as (value ty) a) b as_expression h.1))
    shape_agrees n a (t.Shape.assignment m b c) h =
        in_turn (quietly _ b h.0 (tree_agrees (used_as target a) b as_expression h.0))
        (quietly _ c h.1 (tree_agrees (freely a) c as_expression h.1))
    shape_agrees n a (t.Shape.returned b) h = quietly _ b h (tree_agrees (freely a) b as_expression h)
    shape_agrees n a t.Shape.returned_unit h = nothing_agrees
    shape_agrees n a t.Shape.break_form h = nothing_agrees
    shape_agrees n a (t.Shape.if_else ts b c) h =
        in_turn (sub (shut (in_turn (some_agree (caught a) ts as_statement h.0) (tree_agrees (freely a) b as_body h.1))))
        (bodily _ c h.2 (tree_agrees (freely a) c as_body h.2))
    shape_agrees n a (t.Shape.if_alone ts b) h =
        sub (shut (in_turn (some_agree (caught a) ts as_statement h.0) (tree_agrees (freely a) b as_body h.1)))
    shape_agrees n a (t.Shape.chained x b c) h =
        in_turn (operand_agrees (tree_part (left_of x a) b) x (quietly _ b h.0 (left x a (tree_agrees (left_of x a) b as_expression h.0))))
        (operand_agrees (tree_part (freely a) c) x (quietly _ c h.1 (tree_agrees (freely a) c as_expression h.1)))
    shape_agrees n a (t.Shape.compared x b c) h =
        in_turn (quietly _ b h.0 (tree_agrees (freely a) b as_expression h.0)) (quietly _ c h.1 (tree_agrees
        (freely a) c as_expression h.1))
    shape_agrees n a (t.Shape.negation b) h = sub (shut (tree_agrees (caught a) b as_expression h))
    shape_agrees n a (t.Shape.minus b) h = quietly _ b h (tree_agrees (freely a) b as_expression h)
    shape_agrees n a (t.Shape.call b ts) h =
        called _ b (quietly _ b h.0 (tree_agrees (used_as callee a) b as_expression h.0))
        (sub_used (arguments_agree a (number_of_tree b) 0 ts h.1))
    shape_agrees n a (t.Shape.index b ts) h =
        called _ b (quietly _ b h.0 (in_index a (tree_agrees (indexed a) b as_expression h.0)))
        (sub_used (arguments_agree a (number_of_tree b) 0 ts h.1))
    shape_agrees n a (t.Shape.member b x) h = quietly _ b h (tree_agrees (used_as object a) b as_expression h)
    shape_agrees n a (t.Shape.query b) h = quietly _ b h (tree_agrees (freely a) b as_expression h)
    shape_agrees n a (t.Shape.integer x) h = nothing_agrees
    shape_agrees n a (t.Shape.character x) h = nothing_agrees
    shape_agrees n a (t.Shape.text x) h = nothing_agrees
    shape_agrees n a (t.Shape.holes x hs) h = sub (some_holes_agree (freely a) hs h)
    shape_agrees n a t.Shape.truth h = nothing_agrees
    shape_agrees n a t.Shape.falsehood h = nothing_agrees
    shape_agrees n a t.Shape.this h = nothing_agrees
    shape_agrees n a (t.Shape.name x) h = nothing_agrees
    shape_agrees n a (t.Shape.tuple ts) h = sub (two_agree (freely a) ts h)
    shape_agrees n a (t.Shape.array ts) h = sub (each_agree (freely a) ts h)
    shape_agrees n a (t.Shape.option ts) h = sub (shut (some_agree (caught a) ts as_statement h))
    shape_agrees n a (t.Shape.logic ts) h = sub (shut (some_agree (caught a) ts as_statement h))
    shape_agrees n a (t.Shape.mapping ps) h = sub (pairs_agree (freely a) ps h)
    shape_agrees n a (t.Shape.instance x gs) h = sub (givens_agree (freely a) gs h)
    shape_agrees n a (t.Shape.event ty) h = sub_used (written_agrees a true ty)
    shape_agrees n a t.Shape.bare_event h = nothing_agrees
    shape_agrees n a (t.Shape.for_form ts b) h =
        sub (shut (in_turn (clauses_agree (caught a) ts h.0) (tree_agrees (repeated a) b as_block h.1)))
    shape_agrees n a (t.Shape.loop_form b) h = sub_loop (still (block_calm b h) (tree_agrees (looped n a) b as_block h))
    shape_agrees n a (t.Shape.block_form b) h = blockly _ b h (tree_agrees (freely a) b as_block h)
    shape_agrees n a (t.Shape.branch b) h = blockly _ b h (tree_agrees (armed a) b as_block h)
    shape_agrees n a (t.Shape.sync ts) h = sub (arms_agree (armed a) ts as_statement h)
    shape_agrees n a (t.Shape.race ts) h = sub (arms_agree (armed a) ts as_statement h)
    shape_agrees n a (t.Shape.rush ts) h = sub (arms_agree (armed a) ts as_statement h)
    shape_agrees n a (t.Shape.cases b ts) h =
        in_turn (quietly _ b h.0 (tree_agrees (freely a) b as_expression h.0)) (sub (some_arms_agree (freely a) ts h.1))
    shape_agrees n a (t.Shape.spawn b) h = quietly _ b h (tree_agrees (used_as spawned a) b as_expression h)
    shape_agrees n a (t.Shape.sleep x) h = nothing_agrees
    shape_agrees n a t.Shape.sleep_forever h = nothing_agrees
    shape_agrees n a (t.Shape.elements x b) h = quietly _ b h (tree_agrees (freely a) b as_expression h)
    shape_agrees n a (t.Shape.entries x y b) h = quietly _ b h (tree_agrees (freely a) b as_expression h)
    shape_agrees n a (t.Shape.range x b c) h =
        in_turn (quietly _ b h.0 (tree_agrees (freely a) b as_expression h.0)) (quietly _ c h.1 (tree_agrees
        (freely a) c as_expression h.1))
    shape_agrees n a (t.Shape.arm b c) h =
        in_turn (sub (still (pattern_calm b h.0) (tree_agrees (freely a) b as_pattern h.0)))
        (bodily _ c h.1 (tree_agrees (freely a) c as_body h.1))
    shape_agrees n a (t.Shape.integer_pattern x) h = nothing_agrees
    shape_agrees n a (t.Shape.minus_pattern x) h = nothing_agrees
    shape_agrees n a (t.Shape.character_pattern x) h = nothing_agrees
    shape_agrees n a (t.Shape.text_pattern x) h = nothing_agrees
    shape_agrees n a t.Shape.truth_pattern h = nothing_agrees
    shape_agrees n a t.Shape.falsehood_pattern h = nothing_agrees
    shape_agrees n a t.Shape.any_pattern h = nothing_agrees
    shape_agrees n a (t.Shape.enum_pattern x y) h = nothing_agrees

    all_agree : (a : Around) (ts : Trees) (st : Stand) → AllShaped st ts → Agree In (callees a) (loops a) (all_part a ts)
    all_agree a no_trees st h = nothing_agrees
    all_agree a (more_trees e es) st h = in_turn (tree_agrees a e st h.0) (all_agree a es st h.1)

    some_agree : (a : Around) (ts : Trees) (st : Stand) → SomeShaped st ts → Agree In (callees a) (loops a) (all_part a ts)
    some_agree a no_trees st h = absurd h
    some_agree a (more_trees e es) st h = in_turn (tree_agrees a e st h.0) (all_agree a es st h.1)

    clauses_agree : (a : Around) (ts : Trees) → ClausesShaped ts → Agree In (callees a) (loops a) (all_part a ts)
    clauses_agree a no_trees h = absurd h
    clauses_agree a (more_trees e es) h = in_turn (tree_agrees a e as_generator h.0) (all_agree a es as_clause h.1)

    each_agree : (a : Around) (ts : Trees) → AllShaped as_expression ts → Agree In (callees a) (loops a) (each_part a ts)
    each_agree a no_trees h = nothing_agrees
    each_agree a (more_trees e es) h =
        in_turn (still (calm_expression e h.0) (tree_agrees a e as_expression h.0)) (each_agree a es h.1)

    two_agree : (a : Around) (ts : Trees) → TwoShaped ts → Agree In (callees a) (loops a) (each_part a ts)
    two_agree a no_trees h = absurd h
    two_agree a (more_trees e no_trees) h = absurd h.1
    two_agree a (more_trees e (more_trees d es)) h =
        in_turn (still (calm_expression e h.0) (tree_agrees a e as_expression h.0))
        (in_turn (still (calm_expression d h.1.0) (tree_agrees a d as_expression h.1.0)) (each_agree a es h.1.1))

    arms_agree : (a : Around) (ts : Trees) (st : Stand) → AllShaped st ts → Agree In (callees a) (loops a) (arms_part a ts)
    arms_agree a no_trees st h = nothing_agrees
    arms_agree a (more_trees e es) st h = in_turn (shut (tree_agrees a e st h.0)) (arms_agree a es st h.1)

    some_arms_agree : (a : Around) (ts : Trees) → SomeShaped as_arm ts → Agree In (callees a) (loops a) (arms_part a ts)
    some_arms_agree a no_trees h = absurd h
    some_arms_agree a (more_trees e es) h = in_turn (shut (tree_agrees a e as_arm h.0)) (arms_agree a es as_arm h.1)

    arguments_agree : (a : Around) (f i : ℕ) (ts : Trees) → AllShaped as_expression ts →
        Agree In (f ∷ []) (loops a) (arguments_part a f i ts)
    arguments_agree a f i no_trees h = nothing_agrees
    arguments_agree a f i (more_trees e es) h =
        in_turn (still (calm_expression e h.0) (tree_agrees (used_as (argument f i) a) e as_expression h.0)) (arguments_agree a f _ es h.1)

    holes_agree : (a : Around) (hs : Holes) → AllHoles hs → Agree In (callees a) (loops a) (holes_part a hs)
    holes_agree a no_holes h = nothing_agrees
    holes_agree a (more_holes e bs hs) h =
        in_turn (still (calm_expression e h.0) (tree_agrees a e as_expression h.0)) (holes_agree a hs h.1)

    some_holes_agree : (a : Around) (hs : Holes) → SomeHoles hs → Agree In (callees a) (loops a) (holes_part a hs)
    some_holes_agree a no_holes h = absurd h
    some_holes_agree a (more_holes e bs hs) h =
        in_turn (still (calm_expression e h.0) (tree_agrees a e as_expression h.0)) (holes_agree a hs h.1)

    pairs_agree : (a : Around) (ps : Pairs) → PairsShaped ps → Agree In (callees a) (loops a) (pairs_part a ps)
    pairs_agree a no_pairs h = nothing_agrees
    pairs_agree a (more_pairs k e ps) h =
        in_turn (in_turn (still (calm_expression k h.0) (tree_agrees a k as_expression h.0))
        (still (calm_expression e h.1) (tree_agrees a e as_expression h.1))) (pairs_agree a ps h.2)

    givens_agree : (a : Around) (gs : Givens) → GivensShaped gs → Agree In (callees a) (loops a) (givens_part a gs)
    givens_agree a no_givens h = nothing_agrees
    givens_agree a (more_givens x e gs) h =
        in_turn (still (calm_expression e h.0) (tree_agrees a e as_expression h.0)) (givens_agree a gs h.1)

  -- ---- functions and fields

  abbrev params_part : List ParamTree → Part
  params_part ps = record {
    see = through_params (visit w) leave ps;
    names = params_behind w ps;
    sites = λ xs. params_sites w xs ps;
    nodes = params_nodes ps;
  }

  params_agree : (ps : List ParamTree) → Agree In [] [] (params_part ps)
  params_agree [] = nothing_agrees
  params_agree (p ∷ ps) =
      in_turn (in_turn (written_agrees outside false p.written)
      (node_agrees p.number p.place outside (parameter p) (param_subject p) refl
      (let low : p.number < suc p.number = omega arith in low))) (params_agree ps)

  abbrev fun_part : FunTree → Part
  fun_part f = record {
    see = through_fun (visit w) leave f;
    names = λ xs. xs;
    sites = λ xs. fun_sites w xs f;
    nodes = fun_nodes f;
  }

  fun_agrees : (f : FunTree) → FunShaped f → Agree In [] [] (fun_part f)
  fun_agrees f h =
      shut (in_turn (in_turn (params_agree f.params) (written_agrees outside false f.written))
      (tree_agrees (round_body f) f.body as_body h.2))

  abbrev default_part : Written → Option Tree → Part
  default_part ty o = record {
    see = through_default (visit w) leave o;
    names = λ xs. xs;
    sites = λ xs. default_sites w xs ty o;
    nodes = default_nodes ty o;
  }

  default_agrees : (ty : Written) (o : Option Tree) → DefaultShaped o → Agree In [] [] (default_part ty o)
  default_agrees ty None h = nothing_agrees
  default_agrees ty (Some e) h = shut (tree_agrees (default_around ty) e as_expression h)

  abbrev field_part : FieldTree → Part
  field_part d = record {
    see = through_field (visit w) leave d;
    names = λ xs. xs;
    sites = λ xs. field_sites w xs d;
    nodes = field_nodes d;
  }

  field_agrees : (d : FieldTree) → FieldShaped d → Agree In [] [] (field_part d)
  field_agrees d h = in_turn (written_agrees outside false d.written) (default_agrees d.written d.default h.1)

-- Is says which classes there are
abbrev pub IsAt : (Is : ℕ → Type 0) → ItemTree → Counts → Type 0
IsAt Is (class d) c = Is c.classes
IsAt Is i c = Unit {0}

abbrev pub AreAt : (Is : ℕ → Type 0) → Counts → List ItemTree → Type 0
AreAt Is c [] = Unit {0}
AreAt Is c (i ∷ is) = IsAt Is i c × AreAt Is (counts_after i c) is

-- the classes of a program have numbers below how many they are
classes_at : (all : ℕ) (c : Counts) (is : List ItemTree) → c.classes + length (notes (counted c is)) ≤ all → AreAt (λ n. n < all) c is
classes_at all c [] h = tt
classes_at all c (using i ∷ is) h = (tt, classes_at all c is h)
classes_at all c (enumeration e ∷ is) h = (tt, classes_at all (counts_after (enumeration e) c) is h)
classes_at all c (class d ∷ is) h = (omega (arith, h), classes_at all (counts_after (class d) c) is (omega (arith, h)))
classes_at all c (function f ∷ is) h = (tt, classes_at all (counts_after (function f) c) is h)

module _ (In : World → Type 0) (Is : ℕ → Type 0) (k : Known) (out : In (worlds.outside k))
    (within : (c : ℕ) → Is c → In (inside k c)) where
  abbrev member_whole : World → World → MemberTree → Part
  member_whole w v m = record {
    see = through_member visit leave k w v m;
    names = λ xs. xs;
    sites = λ xs. member_parts w v xs m ++ member_site w xs m ∷ [];
    nodes = walked.member_parts m ++ member_node m ∷ [];
  }

  member_agrees : (w v : World) → In w → In v → (m : MemberTree) → MemberShaped m → Agree In [] [] (member_whole w v m)
  member_agrees w v f g (field d) h =
      in_turn (field_agrees In w f d h) (node_agrees In w f d.number d.place outside (member (field d)) quiet refl tt)
  member_agrees w v h0 g (method f) h =
      in_turn (fun_agrees In v g f h) (node_agrees In w h0 f.number f.place outside (member (method f)) quiet refl tt)

  abbrev members_part : World → World → List MemberTree → Part
  members_part w v ms = record {
    see = through_members visit leave k w v ms;
    names = λ xs. xs;
    sites = λ xs. members_sites w v xs ms;
    nodes = members_nodes ms;
  }

  members_agree : (w v : World) → In w → In v → (ms : List MemberTree) → AllOf MemberShaped ms → Agree In [] [] (members_part w v ms)
  members_agree w v f g [] h = nothing_agrees
  members_agree w v f g (m ∷ ms) h = in_turn (member_agrees w v f g m h.0) (members_agree w v f g ms h.1)

  abbrev item_whole : ItemTree → Counts → Part
  item_whole i c = record {
    see = through_item visit leave k i c;
    names = λ xs. xs;
    sites = λ xs. item_parts k xs i c ++ item_site k xs i ∷ [];
    nodes = walked.item_parts i ++ item_node i ∷ [];
  }

  item_agrees : (i : ItemTree) (c : Counts) → IsAt Is i c → ItemShaped i → Agree In [] [] (item_whole i c)
  item_agrees (using i) c n h = node_agrees In (worlds.outside k) out i.number i.place outside (item (using i)) quiet refl tt
  item_agrees (enumeration e) c n h = node_agrees In (worlds.outside k) out e.number e.place outside (item (enumeration e)) quiet refl tt
  item_agrees (class d) c n h =
      in_turn (members_agree (worlds.outside k) (inside k c.classes) out (within c.classes n) d.members h)
      (node_agrees In (worlds.outside k) out d.number d.place outside (item (class d)) quiet refl tt)
  item_agrees (function f) c n h =
      in_turn (fun_agrees In (worlds.outside k) out f h)
      (node_agrees In (worlds.outside k) out f.number f.place outside (item (function f)) quiet refl tt)

  abbrev items_part : Counts → List ItemTree → Part
  items_part c is = record {
    see = through_items visit leave k (counted c is);
    names = λ xs. xs;
    sites = λ xs. items_sites k xs (counted c is);
    nodes = items_nodes is;
  }

  items_agree : (c : Counts) (is : List ItemTree) → AreAt Is c is → ItemsShaped is → Agree In [] [] (items_part c is)
  items_agree c [] n h = nothing_agrees
  items_agree c (i ∷ is) n h = in_turn (item_agrees i c n.0 h.0) (items_agree (counts_after i c) is n.1 h.1)

-- a class of this number
abbrev pub InClasses : List ItemTree → ℕ → Type 0
InClasses is c = c < length (known is).notes

pub program_agrees : (In : World → Type 0) (is : List ItemTree) (out : In (worlds.outside (known is)))
    (within : (c : ℕ) → InClasses is c → In (inside (known is) c)) → ItemsShaped is →
    Agree In [] [] (items_part In (InClasses is) (known is) out within no_counts is)
program_agrees In is out within h =
    items_agree In (InClasses is) (known is) out within no_counts is
    (classes_at (length (known is).notes) no_counts is (omega arith)) h
