-- How many `defer`s are in the parts of a tree, and in the items of a program.
use Rattle.std.proofs.Common.{◌≡◌, ℕ, ◌+◌, List, [], ◌∷◌, ◌++◌, Bool, true, false, cond, Option, Some, None}
use Rattle.std.proofs.Common.{refl, ap, arith, ◌≤◌}
use Rattle.verse_base.specs.declared.places.Place.{Place}
use Rattle.verse_tree.specs.Tree.{Written, Writtens, no_writtens, more_writtens, Tree, tree, Shape, Trees, no_trees}
use Rattle.verse_tree.specs.Tree.{more_trees}
use Rattle.verse_tree.specs.Tree as t
use Rattle.verse_tree.specs.ItemTree.{FieldTree, ParamTree, FunTree, MemberTree, field, method, ItemTree, using}
use Rattle.verse_tree.specs.ItemTree.{enumeration}
use Rattle.verse_tree.specs.ItemTree.{class, function}
use Rattle.verse_tree.specs.PostOrder.{Node, post_order, parts, trees_order, written_order, writtens_order}
use Rattle.verse_tree.specs.PostOrder.{default_order}
use Rattle.verse_tree.specs.PostOrder.{params_order, param_order, fun_parts, field_parts, member_order, members_order}
use Rattle.verse_tree.specs.PostOrder.{item_order, items_order, node_at, item, member, parameter}
use Rattle.verse_meaning.specs.Programs.{own_fields}
use Rattle.lower_code.specs.Defaults.{with_default, with_defaults, defaults_in}
use Rattle.lower_code.specs.Lowering.{is_defer_shape, any_defer}
use Rattle.lower_code.specs.Programs.{Body, methods_in, bodies_in, default_body, default_bodies, all_bodies}
use Rattle.lower_bounds.proofs.Lists.{node}
use Rattle.lower_code_defers.specs.Counts.{defers_shape, defers_in}

abbrev pub count : Tree → ℕ
count b = defers_in (post_order b)

abbrev pub many : Trees → ℕ
many ts = defers_in (trees_order ts)

pub joined : (xs ys : List Node) → defers_in (xs ++ ys) ≡ defers_in xs + defers_in ys
joined [] ys = omega arith
joined (x ∷ xs) ys = omega (arith, joined xs ys)

mutual
  pub written_none : (w : Written) → defers_in (written_order w) ≡ 0
  written_none t.Written.int = refl
  written_none t.Written.logic = refl
  written_none t.Written.char = refl
  written_none t.Written.string = refl
  written_none t.Written.void = refl
  written_none (t.Written.named n pl x) = refl
  written_none (t.Written.option w) = written_none w
  written_none (t.Written.array w) = written_none w
  written_none (t.Written.task w) = written_none w
  written_none (t.Written.map k w) =
      omega (arith, joined (written_order k) (written_order w), written_none k, written_none w)
  written_none (t.Written.tuple ws) = writtens_none ws
  written_none (t.Written.event w) = written_none w
  written_none t.Written.bare_event = refl

  writtens_none : (ws : Writtens) → defers_in (writtens_order ws) ≡ 0
  writtens_none no_writtens = refl
  writtens_none (more_writtens w ws) =
      omega (arith, joined (written_order w) (writtens_order ws), written_none w, writtens_none ws)

-- ---- a tree, and its parts

-- those in the parts of a tree
abbrev pub inside : Tree → ℕ
inside (tree n pl s) = defers_in (parts s)

pub all_of : (n : ℕ) (pl : Place) (s : Shape) → count (tree n pl s) ≡ defers_in (parts s) + defers_shape s
all_of n pl s = omega (arith, joined (parts s) (node n pl s ∷ []))

-- of a tree that is no `defer`
pub of_parts : (n : ℕ) (pl : Place) (s : Shape) → defers_shape s ≡ 0 → defers_in (parts s) ≡ count (tree n pl s)
of_parts n pl s e = omega (arith, all_of n pl s, e)

pub typed_part : (w : Written) (b : Tree) → count b ≡ defers_in (written_order w ++ post_order b)
typed_part w b = omega (arith, joined (written_order w) (post_order b), written_none w)

-- ---- statements

abbrev pub insides : Trees → ℕ
insides no_trees = 0
insides (more_trees b ts) = inside b + insides ts

no_defer : (s : Shape) → is_defer_shape s ≡ false → defers_shape s ≡ 0
no_defer (t.Shape.defer b) e = absurd (cc)
no_defer s e = refl

neither : (b c : Bool) → cond b true c ≡ false → (b ≡ false) × (c ≡ false)
neither true c e = absurd (cc)
neither false c e = (refl, e)

-- where no statement defers, all of them are in the parts of statements
pub none_defers : (ts : Trees) → any_defer ts ≡ false → many ts ≤ insides ts
none_defers no_trees e = omega arith
none_defers (more_trees (tree n pl s) ts) e =
    let each = neither (is_defer_shape s) (any_defer ts) e in
    omega (
      arith,
      joined (post_order (tree n pl s)) (trees_order ts),
      all_of n pl s,
      no_defer s each.0,
      none_defers ts each.1,
    )

-- ---- the bodies of a program

abbrev pub in_bodies : List Body → ℕ
in_bodies [] = 0
in_bodies (b ∷ bs) = count b.body + in_bodies bs

bodies_joined : (bs cs : List Body) → in_bodies (bs ++ cs) ≡ in_bodies bs + in_bodies cs
bodies_joined [] cs = omega arith
bodies_joined (b ∷ bs) cs = omega (arith, bodies_joined bs cs)

defaults_joined : (fs gs : List FieldTree) → in_bodies (default_bodies (fs ++ gs)) ≡ in_bodies (default_bodies fs) +
    in_bodies (default_bodies gs)
defaults_joined [] gs = omega arith
defaults_joined (f ∷ fs) gs = omega (
  arith,
  bodies_joined (default_body f.default) (default_bodies (fs ++ gs)),
  bodies_joined (default_body f.default) (default_bodies fs),
  defaults_joined fs gs,
)

default_count : (d : Option Tree) → in_bodies (default_body d) ≡ defers_in (default_order d)
default_count None = refl
default_count (Some b) = omega arith

-- the default of a field, where it has one
own_default : (f : FieldTree) (d : Option Tree) → f.default ≡ d → in_bodies (default_bodies (with_default f d)) ≡
    defers_in (default_order d)
own_default f None e = refl
own_default f (Some b) e = omega (
  arith,
  bodies_joined (default_body f.default) [],
  ap (λ d. in_bodies (default_body d)) e,
)

params_none : (xs : List ParamTree) → defers_in (params_order xs) ≡ 0
params_none [] = refl
params_none (x ∷ xs) = omega (
  arith,
  joined (param_order x) (params_order xs),
  joined (written_order x.written) (node_at x.number x.place (parameter x)),
  written_none x.written,
  params_none xs,
)

fun_count : (f : FunTree) → defers_in (fun_parts f) ≡ count f.body
fun_count f = omega (
  arith,
  joined (params_order f.params ++ written_order f.written) (post_order f.body),
  joined (params_order f.params) (written_order f.written),
  params_none f.params,
  written_none f.written,
)

field_count : (f : FieldTree) → defers_in (field_parts f) ≡ defers_in (default_order f.default)
field_count f = omega (
  arith,
  joined (written_order f.written) (default_order f.default),
  written_none f.written,
)

members_count : (ms : List MemberTree) → in_bodies (methods_in ms) +
    in_bodies (default_bodies (with_defaults (own_fields ms))) ≡ defers_in (members_order ms)
members_count [] = omega arith
members_count (field f ∷ ms) = omega (
  arith,
  members_count ms,
  joined (member_order (field f)) (members_order ms),
  joined (field_parts f) (node_at f.number f.place (member (field f))),
  field_count f,
  defaults_joined (with_default f f.default) (with_defaults (own_fields ms)),
  own_default f f.default refl,
)
members_count (method f ∷ ms) = omega (
  arith,
  members_count ms,
  joined (member_order (method f)) (members_order ms),
  joined (fun_parts f) (node_at f.number f.place (member (method f))),
  fun_count f,
)

items_count : (is : List ItemTree) → in_bodies (bodies_in is) + in_bodies (default_bodies (defaults_in is)) ≡
    defers_in (items_order is)
items_count [] = omega arith
items_count (using u ∷ is) = omega (arith, items_count is, joined (item_order (using u)) (items_order is))
items_count (enumeration e ∷ is) = omega (arith, items_count is, joined (item_order (enumeration e)) (items_order is))
items_count (class c ∷ is) = omega (
  arith,
  items_count is,
  joined (item_order (class c)) (items_order is),
  joined (members_order c.members) (node_at c.number c.place (item (class c))),
  members_count c.members,
  bodies_joined (methods_in c.members) (bodies_in is),
  defaults_joined (with_defaults (own_fields c.members)) (defaults_in is),
)
items_count (function f ∷ is) = omega (
  arith,
  items_count is,
  joined (item_order (function f)) (items_order is),
  joined (fun_parts f) (node_at f.number f.place (item (function f))),
  fun_count f,
)

-- each `defer` of the items is in one of the bodies
pub all_count : (is : List ItemTree) → in_bodies (all_bodies is) ≡ defers_in (items_order is)
all_count is = omega (arith, items_count is, bodies_joined (bodies_in is) (default_bodies (defaults_in is)))
