-- The code of a whole program.
use Rattle.std.proofs.Common.{◌≡◌, ℕ, List, [], ◌∷◌, Bool, true, Option, Some, None, refl, sym, subst}
use Rattle.verse_tree.specs.Tree.{Tree}
use Rattle.verse_tree.specs.ItemTree.{FieldTree, FunTree, MemberTree, field, method, ItemTree, using, enumeration}
use Rattle.verse_tree.specs.ItemTree.{class, function}
use Rattle.verse_tree.specs.PostOrder.{items_order}
use Rattle.verse_code.specs.declared.operations.Op.TheVariants as o
use Rattle.verse_sorts.specs.Sorts.{Sort}
use Rattle.verse_meaning.specs.Programs.{Program, fun_at, own_fields}
use Rattle.verse_meaning.specs.Forms.{this_name}
use Rattle.verse_sound_rules.specs.Found.{Found, Signature, in_function, in_default}
use Rattle.verse_sound_rules.specs.Forms.{IsDefault}
use Rattle.verse_sound_rules.specs.Programs.{params_behind, FineFound}
use Rattle.lower_code.specs.Pieces.{Spot, past}
use Rattle.lower_code.specs.Scopes.{Scope, constant_at}
use Rattle.lower_code.specs.Arounds.{fresh}
use Rattle.lower_code.specs.Defaults.{with_default, with_defaults, defaults_in}
use Rattle.lower_code.specs.Programs.{Body, body_of, params_scope, methods_in, bodies_in, default_body, default_bodies}
use Rattle.lower_code.specs.Programs.{all_bodies}
use Rattle.lower_code.specs.Programs.{body_piece, bodies_from, first_spot, whole}
use Rattle.lower_bounds.proofs.Lists.{Each, each_first, each_rest, each_joined}
use Rattle.lower_bounds.proofs.Bodies.{BodyHas, all_have, all_each}
use Rattle.lower_simulation_runs.specs.Programs.{NodeStands}
use Rattle.lower_sound.specs.Programs.{DefaultFound, MembersFound, ItemsFound}
use Rattle.lower_sound.specs.Laws.{FineArmsStand}
use Rattle.lower_sound.proofs.Armed.{Orderly, both, just, Several, no_stretch, beside, arms_stand}
use Rattle.lower_sound.proofs.Names.{Sees, sees_nothing, sees_own, sees_params}
use Rattle.lower_sound.proofs.Leaves.{Leaves}
use Rattle.lower_sound.proofs.Forms.{orderly}

pub in_body : (g : Signature) → Leaves (in_function g true) fresh
in_body g = record { returns = λ r e. refl; breaks = λ e. absurd (cc) }

pub in_field : Leaves (in_default true) fresh
in_field = record { returns = λ r e. refl; breaks = λ e. absurd (cc) }

-- ---- fields that have a default

module _ (p : Program) (f : Found) where
  one_found : (d : FieldTree) (e : Option Tree) → DefaultFound p f d → Each (DefaultFound p f) (with_default d e)
  one_found d None m = tt
  one_found d (Some b) m = (m, tt)

  own_found : (ms : List MemberTree) → MembersFound p f ms → Each (DefaultFound p f) (with_defaults (own_fields ms))
  own_found [] m = tt
  own_found (method x ∷ ms) m = own_found ms m.1
  own_found (field d ∷ ms) m = each_joined (DefaultFound p f) (with_default d d.default) (with_defaults
      (own_fields ms))
      (one_found d d.default m.0) (own_found ms m.1)

  pub defaults_found : (is : List ItemTree) → ItemsFound p f is → Each (DefaultFound p f) (defaults_in is)
  defaults_found [] m = tt
  defaults_found (using u ∷ is) m = defaults_found is m
  defaults_found (enumeration e ∷ is) m = defaults_found is m
  defaults_found (class c ∷ is) m = each_joined (DefaultFound p f) (with_defaults (own_fields c.members))
      (defaults_in is)
      (own_found c.members m.0) (defaults_found is m.1)
  defaults_found (function x ∷ is) m = defaults_found is m.1

module _ (p : Program) (differ : ℕ → ℕ → Bool) (f : Found) (known : FineFound p f) where
  abbrev Has : Body → Type 0
  Has b = BodyHas (NodeStands p) b

  abbrev InOrder : Body → Type 0
  InOrder b = Orderly (body_piece p differ b)

  -- a function or a method, whose scope begins with what it has of `Self`
  fun_orderly : (x : FunTree) (g : ℕ) → fun_at p g ≡ Some x → (sc : Scope) →
      Sees f (f.signature g).this [] sc → Has (body_of sc x) → InOrder (body_of sc x)
  fun_orderly x g e sc see h =
      let own = known.functions g x e in
      both (orderly p differ f known x.body h (in_function (f.signature g) true) (params_behind x.params [])
      (params_scope x.params sc) fresh
      (own.body true (λ l. refl)) (sees_params f p x.params (f.signature g).params own.params see) (in_body
      (f.signature g)))
      (just o.Return refl)

  methods_orderly : (ms : List MemberTree) → MembersFound p f ms → Each Has (methods_in ms) → Each InOrder
      (methods_in ms)
  methods_orderly [] m h = tt
  methods_orderly (field d ∷ ms) m h = methods_orderly ms m.1 h
  methods_orderly (method x ∷ ms) m h = (
    fun_orderly x m.0.number m.0.found (constant_at this_name ∷ []) (sees_own f (f.signature m.0.number).this []) h.0,
    methods_orderly ms m.1 h.1,
  )

  bodies_orderly : (is : List ItemTree) → ItemsFound p f is → Each Has (bodies_in is) → Each InOrder (bodies_in is)
  bodies_orderly [] m h = tt
  bodies_orderly (using u ∷ is) m h = bodies_orderly is m h
  bodies_orderly (enumeration e ∷ is) m h = bodies_orderly is m h
  bodies_orderly (class c ∷ is) m h = each_joined InOrder (methods_in c.members) (bodies_in is)
      (methods_orderly c.members m.0 (each_first Has (methods_in c.members) (bodies_in is) h))
      (bodies_orderly is m.1 (each_rest Has (methods_in c.members) (bodies_in is) h))
  bodies_orderly (function x ∷ is) m h = (
    fun_orderly x m.0.number m.0.found [] (subst (λ t. Sees f t [] []) (sym m.0.this) (sees_nothing f [])) h.0,
    bodies_orderly is m.1 h.1,
  )

  -- ---- defaults

  default_orderly : (e : Option Tree) → ((b : Tree) → e ≡ Some b → (q : Sort) × IsDefault p f b q) → Each Has
      (default_body e) →
      Each InOrder (default_body e)
  default_orderly None m h = tt
  default_orderly (Some b) m h =
      let d = m b refl in (
        both (orderly p differ f known b h.0 (in_default true) [] [] fresh ((known.defaults b d.0 d.1).value true)
            (sees_nothing f [])
            in_field) (just o.Return refl),
        tt,
      )

  defaults_orderly : (ds : List FieldTree) → Each (DefaultFound p f) ds → Each Has (default_bodies ds) → Each InOrder
      (default_bodies ds)
  defaults_orderly [] m h = tt
  defaults_orderly (d ∷ ds) m h = each_joined InOrder (default_body d.default) (default_bodies ds)
      (default_orderly d.default m.0 (each_first Has (default_body d.default) (default_bodies ds) h))
      (defaults_orderly ds m.1 (each_rest Has (default_body d.default) (default_bodies ds) h))

  -- ---- all bodies

  -- where the bodies begin
  abbrev pub begins : List Body → Spot → List ℕ
  begins [] s = []
  begins (b ∷ bs) s = s.at ∷ begins bs (past s (body_piece p differ b s))

  in_turn : (bs : List Body) → Each InOrder bs → Several (bodies_from p differ bs) (begins bs)
  in_turn [] h = no_stretch
  in_turn (b ∷ bs) h = beside h.0 (in_turn bs h.1)

  pub whole_orderly : ItemsFound p f p.items → Each (NodeStands p) (items_order p.items) →
      Several (bodies_from p differ (all_bodies p.items)) (begins (all_bodies p.items))
  whole_orderly m h =
      let has = all_have (NodeStands p) p.items h in
      let bs = bodies_in p.items in
      let ds = default_bodies (defaults_in p.items) in
      in_turn (all_bodies p.items) (each_joined InOrder bs ds (bodies_orderly p.items m (each_first Has bs ds has))
      (defaults_orderly (defaults_in p.items) (defaults_found p f p.items m) (each_rest Has bs ds has)))

pub fine_arms_stand : FineArmsStand
fine_arms_stand p fine found stand differ files =
    let nodes = all_each (NodeStands p) (items_order p.items) stand in
    arms_stand (whole p differ).items ((whole_orderly p differ fine.found fine.fine found nodes).whole.arms first_spot)
