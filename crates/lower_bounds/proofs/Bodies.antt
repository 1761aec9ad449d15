-- The bodies of a program: their nodes, their size, and which is Main.
use Rattle.std.proofs.Common.{◌≡◌, ℕ, zero, suc, ◌+◌, ◌*◌, ◌≤◌, List, [], ◌∷◌, ◌++◌, length, Bool, true, false, cond, Option, Some, None}
use Rattle.std.proofs.Common.{refl, ap, ◌∙◌}
use Rattle.std.proofs.Common.{arith, slice_get, length-append, All}
use Rattle.std.proofs.lemmas.List.Elements.{All-head, All-tail}
use Rattle.std.proofs.lemmas.Option.{none-some}
use Rattle.verse_base.proofs.Facts.{get_rest}
use Rattle.verse_tree.specs.Tree.{Tree}
use Rattle.verse_tree.specs.ItemTree.{FieldTree, FunTree, ParamTree, MemberTree, field, method, ItemTree, using, enumeration, class}
use Rattle.verse_tree.specs.ItemTree.{function}
use Rattle.verse_tree.specs.Numbering.{list_nodes, member_nodes, items_nodes, param_nodes, default_nodes}
use Rattle.verse_tree.specs.Sizes.{default_fields, member_fields, item_fields}
use Rattle.verse_tree.specs.PostOrder.{Node, post_order, default_order, params_order, written_order, fun_parts, field_parts, member_order}
use Rattle.verse_tree.specs.PostOrder.{members_order}
use Rattle.verse_tree.specs.PostOrder.{item_order, items_order, node_at, item, member}
use Rattle.verse_meaning.specs.Programs.{classes, own_fields, main_in, main_name, same_name}
use Rattle.verse_meaning.specs.Forms.{this_name}
use Rattle.lower_code.specs.Scopes.{Scope, constant_at}
use Rattle.lower_code.specs.Defaults.{with_default, with_defaults, defaults_in}
use Rattle.lower_code.specs.Programs.{Body, body_of, params_scope, methods_in, bodies_in, default_body, default_bodies, all_bodies}
use Rattle.lower_code.specs.Programs.{main_from}
use Rattle.lower_bounds.proofs.Lists.{Each, each_first, each_rest, each_joined}
use Rattle.lower_bounds.proofs.Costs.{weight}

-- lists
pub each_all : {X : Type 0} (P : X → Type 0) (xs : List X) → Each P xs → All P xs
each_all P [] h k d lt = absurd (omega (arith, lt))
each_all P (x ∷ xs) h zero d lt = h.0
each_all P (x ∷ xs) h (suc k) d lt = each_all P xs h.1 k d (omega (arith, lt))

pub all_each : {X : Type 0} (P : X → Type 0) (xs : List X) → All P xs → Each P xs
all_each P [] h = tt
all_each P (x ∷ xs) h = (All-head P x xs h, all_each P xs (All-tail P x xs h))

-- the parameters of a function
pub params_many : (xs : List ParamTree) (sc : Scope) → length (params_scope xs sc) ≡ length xs + length sc
params_many [] sc = omega arith
params_many (x ∷ xs) sc = omega (arith, params_many xs (constant_at x.name ∷ sc))

params_have : (xs : List ParamTree) → length xs ≤ list_nodes param_nodes xs
params_have [] = omega arith
params_have (x ∷ xs) = omega (arith, params_have xs)

-- nodes
module _ (P : Node → Type 0) where
  abbrev pub BodyHas : Body → Type 0
  BodyHas b = Each P (post_order b.body)

  abbrev DefaultHas : FieldTree → Type 0
  DefaultHas f = Each P (default_order f.default)

  fun_has : (f : FunTree) → Each P (fun_parts f) → Each P (post_order f.body)
  fun_has f h = each_rest P (params_order f.params ++ written_order f.written) (post_order f.body) h

  methods_have : (ms : List MemberTree) → Each P (members_order ms) → Each BodyHas (methods_in ms)
  methods_have [] h = tt
  methods_have (field f ∷ ms) h = methods_have ms (each_rest P (member_order (field f)) (members_order ms) h)
  methods_have (method f ∷ ms) h = (
    fun_has f (each_first P (fun_parts f) (node_at f.number f.place (member (method f)))
        (each_first P (member_order (method f)) (members_order ms) h)),
    methods_have ms (each_rest P (member_order (method f)) (members_order ms) h),
  )

  own_has : (ms : List MemberTree) → Each P (members_order ms) → Each DefaultHas (own_fields ms)
  own_has [] h = tt
  own_has (method f ∷ ms) h = own_has ms (each_rest P (member_order (method f)) (members_order ms) h)
  own_has (field f ∷ ms) h = (
    each_rest P (written_order f.written) (default_order f.default)
        (each_first P (field_parts f) (node_at f.number f.place (member (field f)))
        (each_first P (member_order (field f)) (members_order ms) h)),
    own_has ms (each_rest P (member_order (field f)) (members_order ms) h),
  )

  one_has : (f : FieldTree) (d : Option Tree) → DefaultHas f → Each DefaultHas (with_default f d)
  one_has f None h = tt
  one_has f (Some a) h = (h, tt)

  defaults_have : (fs : List FieldTree) → Each DefaultHas fs → Each DefaultHas (with_defaults fs)
  defaults_have [] h = tt
  defaults_have (f ∷ fs) h = each_joined DefaultHas (with_default f f.default) (with_defaults fs) (one_has f f.default h.0)
      (defaults_have fs h.1)

  bodies_have : (is : List ItemTree) → Each P (items_order is) → Each BodyHas (bodies_in is)
  bodies_have [] h = tt
  bodies_have (using u ∷ is) h = bodies_have is (each_rest P (item_order (using u)) (items_order is) h)
  bodies_have (enumeration e ∷ is) h = bodies_have is (each_rest P (item_order (enumeration e)) (items_order is) h)
  bodies_have (class c ∷ is) h = each_joined BodyHas (methods_in c.members) (bodies_in is)
      (methods_have c.members (each_first P (members_order c.members) (node_at c.number c.place (item (class c)))
      (each_first P (item_order (class c)) (items_order is) h)))
      (bodies_have is (each_rest P (item_order (class c)) (items_order is) h))
  bodies_have (function f ∷ is) h = (
    fun_has f (each_first P (fun_parts f) (node_at f.number f.place (item (function f)))
        (each_first P (item_order (function f)) (items_order is) h)),
    bodies_have is (each_rest P (item_order (function f)) (items_order is) h),
  )

  fields_have : (is : List ItemTree) → Each P (items_order is) → Each DefaultHas (defaults_in is)
  fields_have [] h = tt
  fields_have (using u ∷ is) h = fields_have is (each_rest P (item_order (using u)) (items_order is) h)
  fields_have (enumeration e ∷ is) h = fields_have is (each_rest P (item_order (enumeration e)) (items_order is) h)
  fields_have (function f ∷ is) h = fields_have is (each_rest P (item_order (function f)) (items_order is) h)
  fields_have (class c ∷ is) h = each_joined DefaultHas (with_defaults (own_fields c.members)) (defaults_in is)
      (defaults_have (own_fields c.members) (own_has c.members
      (each_first P (members_order c.members) (node_at c.number c.place (item (class c)))
      (each_first P (item_order (class c)) (items_order is) h))))
      (fields_have is (each_rest P (item_order (class c)) (items_order is) h))

  body_has : (d : Option Tree) → Each P (default_order d) → Each BodyHas (default_body d)
  body_has None h = tt
  body_has (Some a) h = (h, tt)

  default_bodies_have : (fs : List FieldTree) → Each DefaultHas fs → Each BodyHas (default_bodies fs)
  default_bodies_have [] h = tt
  default_bodies_have (f ∷ fs) h = each_joined BodyHas (default_body f.default) (default_bodies fs) (body_has f.default h.0)
      (default_bodies_have fs h.1)

  -- the nodes of all bodies are nodes of the items
  pub all_have : (is : List ItemTree) → Each P (items_order is) → Each BodyHas (all_bodies is)
  all_have is h = each_joined BodyHas (bodies_in is) (default_bodies (defaults_in is)) (bodies_have is h)
      (default_bodies_have (defaults_in is) (fields_have is h))

-- size
module _ (fields : ℕ → ℕ) where
  -- a body, with its parameters and its end
  abbrev pub bodies_cost : List Body → ℕ
  bodies_cost [] = 0
  bodies_cost (b ∷ bs) = weight fields b.body + length b.scope + bodies_cost bs

  cost_more : (bs cs : List Body) → bodies_cost (bs ++ cs) ≡ bodies_cost bs + bodies_cost cs
  cost_more [] cs = omega arith
  cost_more (b ∷ bs) cs = omega (arith, cost_more bs cs)

  default_cost : (d : Option Tree) → bodies_cost (default_body d) ≡ 16 * default_nodes d + 4 * default_fields fields d
  default_cost None = omega arith
  default_cost (Some a) = omega arith

  defaults_more : (fs gs : List FieldTree) → bodies_cost (default_bodies (fs ++ gs)) ≡ bodies_cost (default_bodies fs) + bodies_cost
      (default_bodies gs)
  defaults_more [] gs = omega arith
  defaults_more (f ∷ fs) gs = omega (
    arith,
    cost_more (default_body f.default) (default_bodies (fs ++ gs)),
    cost_more
        (default_body f.default) (default_bodies fs),
    defaults_more fs gs,
  )

  with_default_cost : (f : FieldTree) (d : Option Tree) → bodies_cost (default_bodies (with_default f d)) ≤ bodies_cost
      (default_body f.default)
  with_default_cost f None = omega arith
  with_default_cost f (Some a) = omega (arith, cost_more (default_body f.default) [])

  members_cost : (ms : List MemberTree) → bodies_cost (methods_in ms) + bodies_cost (default_bodies (with_defaults (own_fields ms)))
      ≤ 16 * list_nodes member_nodes ms + 4 * list_nodes (member_fields fields) ms
  members_cost [] = omega arith
  members_cost (field f ∷ ms) = omega (
    arith,
    members_cost ms,
    defaults_more (with_default f f.default) (with_defaults (own_fields ms)),
    with_default_cost f f.default,
    default_cost f.default,
  )
  members_cost (method f ∷ ms) = omega (arith, members_cost ms, params_many f.params (constant_at this_name ∷ []), params_have f.params)

  items_cost : (is : List ItemTree) → bodies_cost (bodies_in is) + bodies_cost (default_bodies (defaults_in is))
      ≤ 16 * items_nodes is + 4 * list_nodes (item_fields fields) is
  items_cost [] = omega arith
  items_cost (using u ∷ is) = omega (arith, items_cost is)
  items_cost (enumeration e ∷ is) = omega (arith, items_cost is)
  items_cost (class c ∷ is) = omega (
    arith,
    items_cost is,
    cost_more (methods_in c.members) (bodies_in is),
    defaults_more (with_defaults (own_fields c.members)) (defaults_in is),
    members_cost c.members,
  )
  items_cost (function f ∷ is) = omega (arith, items_cost is, params_many f.params [], params_have f.params)

  -- all bodies are no more than the items
  pub all_cost : (is : List ItemTree) → bodies_cost (all_bodies is) ≤ 16 * items_nodes is + 4 * list_nodes (item_fields fields) is
  all_cost is = omega (arith, items_cost is, cost_more (bodies_in is) (default_bodies (defaults_in is)))

-- each class is a node
pub classes_many : (is : List ItemTree) → length (classes is) ≤ items_nodes is
classes_many [] = omega arith
classes_many (using u ∷ is) = omega (arith, classes_many is)
classes_many (enumeration e ∷ is) = omega (arith, classes_many is)
classes_many (class c ∷ is) = omega (arith, classes_many is)
classes_many (function f ∷ is) = omega (arith, classes_many is)

-- each default that is numbered is a function
abbrev HasDefault : FieldTree → Type 0
HasDefault f = (a : Tree) × (f.default ≡ Some a)

with_default_each : (f : FieldTree) (d : Option Tree) → f.default ≡ d → Each HasDefault (with_default f d)
with_default_each f None e = tt
with_default_each f (Some a) e = ((a, e), tt)

with_defaults_each : (fs : List FieldTree) → Each HasDefault (with_defaults fs)
with_defaults_each [] = tt
with_defaults_each (f ∷ fs) = each_joined HasDefault (with_default f f.default) (with_defaults fs) (with_default_each f f.default refl)
    (with_defaults_each fs)

defaults_each : (is : List ItemTree) → Each HasDefault (defaults_in is)
defaults_each [] = tt
defaults_each (using u ∷ is) = defaults_each is
defaults_each (enumeration e ∷ is) = defaults_each is
defaults_each (class c ∷ is) = each_joined HasDefault (with_defaults (own_fields c.members)) (defaults_in is)
    (with_defaults_each (own_fields c.members)) (defaults_each is)
defaults_each (function f ∷ is) = defaults_each is

default_bodies_many : (fs : List FieldTree) → Each HasDefault fs → length fs ≤ length (default_bodies fs)
default_bodies_many [] h = omega arith
default_bodies_many (f ∷ fs) h = omega (
  arith,
  length-append (default_body f.default) (default_bodies fs),
  ap (λ d. length (default_body d)) h.0.1,
  default_bodies_many fs h.1,
)

pub bodies_many : (is : List ItemTree) → length (bodies_in is) + length (defaults_in is) ≤ length (all_bodies is)
bodies_many is = omega (
  arith,
  length-append (bodies_in is) (default_bodies (defaults_in is)),
  default_bodies_many (defaults_in is)
      (defaults_each is),
)

abbrev main_body : Option FunTree → Option Body
main_body None = None
main_body (Some f) = Some (body_of [] f)

-- the body of Main, where n functions stand before
abbrev MainAt : ℕ → List Body → (main : ℕ) → FunTree → Type 0
MainAt n bs main f = (m : ℕ) × (main ≡ m + n) × (slice_get bs m ≡ Some (body_of [] f))

main_or : (b : Bool) (n other : ℕ) (g f : FunTree) (bs : List Body) (rest : Option FunTree) → cond b (Some g) rest ≡ Some f →
    (rest ≡ Some f → MainAt (suc n) bs other f) → MainAt n (body_of [] g ∷ bs) (cond b n other) f
main_or true n other g f bs rest e h = (0, omega arith, ap main_body e)
main_or false n other g f bs rest e h = let x = h e in (suc x.0, omega (arith, x.1), x.2)

pub main_at : (is : List ItemTree) (n : ℕ) (f : FunTree) → main_in is ≡ Some f → MainAt n (bodies_in is) (main_from n is) f
main_at [] n f e = elim (none-some f e) [ ]
main_at (using u ∷ is) n f e = main_at is n f e
main_at (enumeration x ∷ is) n f e = main_at is n f e
main_at (class c ∷ is) n f e =
    let x = main_at is (n + length (methods_in c.members)) f e in
    (x.0 + length (methods_in c.members), omega (arith, x.1), get_rest (methods_in c.members) (bodies_in is) x.0 ∙ x.2)
main_at (function g ∷ is) n f e = main_or (same_name g.name main_name) n (main_from (suc n) is) g f (bodies_in is) (main_in is) e
    (λ r. main_at is (suc n) f r)
