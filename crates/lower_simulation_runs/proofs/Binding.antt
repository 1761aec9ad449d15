-- The parameters of a function with its arguments: where their names stand in the locals of its frame.
use Rattle.std.proofs.Common.{◌≡◌, ℕ, zero, suc, ◌+◌, ◌-◌, ◌≤◌, List, [], ◌∷◌, ◌++◌, length, Option, Some, None, refl, sym, ap, ◌∙◌, subst}
use Rattle.std.proofs.Common.{arith}
use Rattle.std.proofs.Common.{append_assoc}
use Rattle.verse_tree.specs.ItemTree.{ParamTree}
use Rattle.verse_code.specs.declared.codes.Func.{Func}
use Rattle.verse_value.specs.Val.{Val}
use Rattle.verse_meaning_state.specs.Waits.{nth}
use Rattle.verse_meaning.specs.Residuals.{Env, constant}
use Rattle.verse_meaning.specs.Forms.{bound_to, this_name}
use Rattle.verse_meaning.specs.Runs.{with_params, with_this}
use Rattle.verse_code_machine.specs.Frames.{locals_of, units}
use Rattle.lower_code.specs.Scopes.{constant_at, Scope as Names}
use Rattle.lower_code.specs.Programs.{params_scope}
use Rattle.lower_simulation.proofs.Claims.{Locals, Holds, Low, Fits, first_in}
use Rattle.lower_simulation.proofs.Locals.{low_more, fits_more}
use Rattle.lower_simulation_values.proofs.Tables.{with_object}

-- the first names of a frame: the object of a method
abbrev pub object_scope : Option Val → Names
object_scope None = []
object_scope (Some v) = constant_at this_name ∷ []

-- where names stand, and what the locals hold
pub record Bound (ss : Names) (e : Env) (ls : List Val) : Type 0 where
  pub held : Locals
  pub fits : Fits ss e held
  pub low : Low (length ss) held
  pub holds : Holds held ls

at_end : (xs : List Val) (v : Val) (ys : List Val) (n : ℕ) → length xs ≡ n → nth (xs ++ (v ∷ ys)) n ≡ Some v
at_end [] v ys zero h = refl
at_end [] v ys (suc n) h = absurd (omega (arith, h))
at_end (x ∷ xs) v ys zero h = absurd (omega (arith, h))
at_end (x ∷ xs) v ys (suc n) h = at_end xs v ys n (omega (arith, h))

one_longer : (xs : List Val) (v : Val) → length (xs ++ (v ∷ [])) ≡ suc (length xs)
one_longer [] v = refl
one_longer (x ∷ xs) v = ap suc (one_longer xs v)

-- `before` are the locals below the parameters, `behind` those above
params_bound : (xs : List ParamTree) (vs : List Val) (ss : Names) (e env : Env) (before behind : List Val) →
    with_params xs vs e ≡ Some env → length before ≡ length ss → Bound ss e (before ++ (vs ++ behind)) →
    Bound (params_scope xs ss) env (before ++ (vs ++ behind))
params_bound [] [] ss e env before behind h n b =
    subst (λ e. Bound ss e (before ++ behind)) (some_is h) b
  where
    some_is : {a c : Env} → Some a ≡ Some c → a ≡ c
    some_is h = cc
params_bound [] (v ∷ vs) ss e env before behind h n b = cc
params_bound (x ∷ xs) [] ss e env before behind h n b = cc
params_bound (x ∷ xs) (v ∷ vs) ss e env before behind h n b =
    let same : (before ++ (v ∷ [])) ++ (vs ++ behind) ≡ before ++ (v ∷ (vs ++ behind)) = append_assoc before (v ∷ []) (vs ++ behind) in
    subst (λ ls. Bound (params_scope xs (constant_at x.name ∷ ss)) env ls) same
    (params_bound xs vs (constant_at x.name ∷ ss) (bound_to x.name (constant v) e) env (before ++ (v ∷ [])) behind h
    (one_longer before v ∙ ap suc n)
    (subst (λ ls. Bound (constant_at x.name ∷ ss) (bound_to x.name (constant v) e) ls) (sym same) (record {
      held = (length ss, v) ∷ b.held;
      fits = (record { holds = v; is = refl; held = first_in }, fits_more (length ss, v) b.held ss e b.fits);
      low = (omega arith, low_more (length ss) (suc (length ss)) b.held (omega arith) b.low);
      holds = (at_end before v (vs ++ behind) (length ss) n, b.holds);
    })))

-- the object and the arguments of a call
pub call_bound : (this : Option Val) (xs : List ParamTree) (vs : List Val) (env : Env) (fc : Func) →
    with_params xs vs (with_this this) ≡ Some env → Bound (params_scope xs (object_scope this)) env (locals_of fc (with_object this vs))
call_bound None xs vs env fc h = params_bound xs vs [] [] env [] (units (fc.locals - fc.params)) h refl
    (record { held = []; fits = tt; low = tt; holds = tt })
call_bound (Some v) xs vs env fc h = params_bound xs vs (constant_at this_name ∷ []) (bound_to this_name (constant v) []) env (v ∷ [])
    (units (fc.locals - fc.params)) h refl (record {
      held = (0, v) ∷ [];
      fits = (record { holds = v; is = refl; held = first_in }, tt);
      low = (omega arith, tt);
      holds = (refl, tt);
    })

-- as many arguments as parameters can be bound
pub can_bind : (xs : List ParamTree) (vs : List Val) (e : Env) → length vs ≡ length xs → (env : Env) × (with_params xs vs e ≡ Some env)
can_bind [] [] e h = (e, refl)
can_bind [] (v ∷ vs) e h = absurd (omega (arith, h))
can_bind (x ∷ xs) [] e h = absurd (omega (arith, h))
can_bind (x ∷ xs) (v ∷ vs) e h = can_bind xs vs (bound_to x.name (constant v) e) (omega (arith, h))

pub params_many : (xs : List ParamTree) (ss : Names) → length (params_scope xs ss) ≡ length xs + length ss
params_many [] ss = omega arith
params_many (x ∷ xs) ss = let h = params_many xs (constant_at x.name ∷ ss) in omega (arith, h)

units_many : (n : ℕ) → length (units n) ≡ n
units_many zero = refl
units_many (suc n) = ap suc (units_many n)

both_many : (xs ys : List Val) → length (xs ++ ys) ≡ length xs + length ys
both_many [] ys = omega arith
both_many (x ∷ xs) ys = let h = both_many xs ys in omega (arith, h)

pub locals_many : (fc : Func) (vs : List Val) → length vs ≡ fc.params → fc.params ≤ fc.locals → length (locals_of fc vs) ≡ fc.locals
locals_many fc vs h le =
    let a = both_many vs (units (fc.locals - fc.params)) in let b = units_many (fc.locals - fc.params) in omega (arith, a, b, h, le)
