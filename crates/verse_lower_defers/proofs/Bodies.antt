-- The checker has found sorts for all of each body of a program whose tables find them, so each `defer` has its
-- operations.
use Rattle.std.proofs.Common.{◌≡◌, ℕ, List, [], ◌∷◌, Bool, true, Option, Some, None, refl, All}
use Rattle.verse_tree.specs.Tree.{Tree}
use Rattle.verse_tree.specs.ItemTree.{FieldTree, FunTree, MemberTree, field, method, ItemTree, using, enumeration}
use Rattle.verse_tree.specs.ItemTree.{class, function}
use Rattle.verse_tree.specs.PostOrder.{items_order}
use Rattle.verse_sorts.specs.Sorts.{Sort}
use Rattle.verse_meaning.specs.Programs.{Program, fun_at}
use Rattle.verse_meaning.specs.Forms.{this_name}
use Rattle.verse_sound_rules.specs.Found.{Found, in_function, in_default}
use Rattle.verse_sound_rules.specs.Forms.{IsDefault}
use Rattle.verse_sound_rules.specs.Programs.{params_behind, FineFound}
use Rattle.lower_code.specs.Scopes.{Scope, constant_at}
use Rattle.lower_code.specs.Defaults.{defaults_in}
use Rattle.lower_code.specs.Programs.{Body, body_of, methods_in, bodies_in, default_body, default_bodies, all_bodies}
use Rattle.lower_code.specs.Programs.{code_of}
use Rattle.lower_bounds.proofs.Bodies.{each_all}
use Rattle.lower_bounds.proofs.Lists.{Each, each_joined}
use Rattle.lower_code_defers.specs.Programs.{BodyIsFine, NodeShows}
use Rattle.lower_code_defers.specs.Laws.{DefersHaveCode, FineDefersShow}
use Rattle.lower_sound.specs.Programs.{DefaultFound, MembersFound, ItemsFound}
use Rattle.lower_sound.proofs.Whole.{defaults_found}

module _ (p : Program) (f : Found) (known : FineFound p f) where
  abbrev IsFine : Body → Type 0
  IsFine b = BodyIsFine p f b

  fun_fine : (x : FunTree) (g : ℕ) → fun_at p g ≡ Some x → (sc : Scope) → IsFine (body_of sc x)
  fun_fine x g e sc = record {
    allowed = in_function (f.signature g) true;
    visible = params_behind x.params [];
    fine = (known.functions g x e).body true (λ l. refl);
  }

  methods_fine : (ms : List MemberTree) → MembersFound p f ms → Each IsFine (methods_in ms)
  methods_fine [] m = tt
  methods_fine (field d ∷ ms) m = methods_fine ms m.1
  methods_fine (method x ∷ ms) m =
      (fun_fine x m.0.number m.0.found (constant_at this_name ∷ []), methods_fine ms m.1)

  bodies_fine : (is : List ItemTree) → ItemsFound p f is → Each IsFine (bodies_in is)
  bodies_fine [] m = tt
  bodies_fine (using u ∷ is) m = bodies_fine is m
  bodies_fine (enumeration e ∷ is) m = bodies_fine is m
  bodies_fine (class c ∷ is) m =
      each_joined IsFine (methods_in c.members) (bodies_in is) (methods_fine c.members m.0) (bodies_fine is m.1)
  bodies_fine (function x ∷ is) m = (fun_fine x m.0.number m.0.found [], bodies_fine is m.1)

  -- ---- defaults

  default_fine : (e : Option Tree) → ((b : Tree) → e ≡ Some b → (q : Sort) × IsDefault p f b q) →
      Each IsFine (default_body e)
  default_fine None m = tt
  default_fine (Some b) m =
      let d = m b refl in
      (record { allowed = in_default true; visible = []; fine = (known.defaults b d.0 d.1).value true }, tt)

  defaults_fine : (ds : List FieldTree) → Each (DefaultFound p f) ds → Each IsFine (default_bodies ds)
  defaults_fine [] m = tt
  defaults_fine (d ∷ ds) m = each_joined IsFine (default_body d.default) (default_bodies ds)
      (default_fine d.default m.0) (defaults_fine ds m.1)

  all_fine : (is : List ItemTree) → ItemsFound p f is → Each IsFine (all_bodies is)
  all_fine is m = each_joined IsFine (bodies_in is) (default_bodies (defaults_in is)) (bodies_fine is m)
      (defaults_fine (defaults_in is) (defaults_found p f is m))

  pub defers_have_code : FineDefersShow → ItemsFound p f p.items → All (NodeShows p) (items_order p.items) →
      (differ : ℕ → ℕ → Bool) (files : ℕ) → DefersHaveCode p (code_of p differ files).ops
  defers_have_code show m h differ files =
      show p f (each_all IsFine (all_bodies p.items) (all_fine p.items m)) h differ files
