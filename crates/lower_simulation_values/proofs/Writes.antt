-- `set`: a write, and the value that stays.
use Rattle.std.proofs.Common.{◌≡◌, ℕ, suc, ◌≤◌, ◌<◌, List, [], ◌∷◌, length, Option, Some, None, Bool, true, false, refl, sym, ap, ◌∙◌}
use Rattle.std.proofs.Common.{subst}
use Rattle.std.specs.Prelude.{slice_get, nat_le, if◌then◌else◌}
use Rattle.verse_base.specs.declared.places.Place.{Place}
use Rattle.verse_tree.specs.declared.exprs.Assign.{Assign}
use Rattle.verse_tree.specs.declared.exprs.Assign.TheVariants as assign
use Rattle.verse_code.specs.declared.operations.Op.TheVariants as op
use Rattle.verse_value.specs.Val.{Val, object}
use Rattle.verse_value.specs.Store.{Store, slot_of, stored, store_weight}
use Rattle.verse_value.specs.Answer.{Answer, gives, fails, error, stuck}
use Rattle.verse_value.specs.Storing.{write_slot, write_in, with_written}
use Rattle.verse_value.specs.Operations as ops
use Rattle.verse_value.specs.Sizes as sizes
use Rattle.verse_value.specs.Places as places
use Rattle.verse_value.specs.Places.{End}
use Rattle.verse_value.specs.declared.keys.Key.{Key}
use Rattle.verse_base.specs.declared.refusals.Kind.{Kind}
use Rattle.verse_meaning_state.specs.Waits.{nth}
use Rattle.lower_code.specs.Scopes.{Scope as Names}
use Rattle.lower_code.specs.declared.arounds.Around.{Around as Where}
use Rattle.verse_value.specs.declared.sizes.TheConstants.{MOST_STORE_WEIGHT}
use Rattle.verse_value.specs.declared.modes.Mode.{Mode}
use Rattle.verse_value.specs.declared.modes.Mode.TheVariants as mode
use Rattle.verse_meaning_state.specs.State.{State}
use Rattle.verse_meaning_state.specs.Effects.{Effect, changed, slot_written}
use Rattle.verse_meaning.specs.Residuals.{Env}
use Rattle.verse_meaning.specs.Outcomes.{World, with_state, value, told}
use Rattle.verse_meaning.specs.Forms.{split_last}
use Rattle.verse_meaning.specs.Evaluating.{mode_of}
use Rattle.verse_code_machine.specs.Frames.{fits, answered, faulting}
use Rattle.verse_code_machine.specs.Acts as acts
use Rattle.lower_code.specs.Applied.{storing, mode_number}
use Rattle.lower_code.specs.Pieces.{Spot, Maker, next, one, kept, ◌then◌}
use Rattle.lower_code.specs.Lowering.{keeps}
use Rattle.lower_simulation.proofs.Steps.{over}
use Rattle.lower_simulation.proofs.Claims.{Way, Setting, Ends, Ctx, Around, at, Good, on, Goes_on}
use Rattle.lower_simulation.proofs.Going.{le_self, trans}
use Rattle.lower_simulation.proofs.Going as going
use Rattle.lower_simulation.proofs.Locals.{PutIs, puts, holds_put}
use Rattle.lower_simulation.proofs.Standing.{Stands, then_stand, op_stands, kept_stand}
use Rattle.lower_simulation.proofs.Leading.{LeadsTo, does_leads, open_leads, there_leads, is_leads, told_leads, value_here, fails_here}
use Rattle.lower_simulation.proofs.Leading.{Calmly}
use Rattle.lower_simulation.proofs.Forms.{Static, stacked, op_leads, end_leads}
use Rattle.lower_simulation_values.proofs.Operators.{many_leads}

-- the last of some operands is on top
pub stacked_last : (u : Val) (us st : List Val) → stacked (u ∷ us) st ≡ (split_last u us).1 ∷ stacked (split_last u us).0 st
stacked_last u [] st = refl
stacked_last u (x ∷ xs) st = stacked_last x xs (u ∷ st)

pub split_many : (u : Val) (us : List Val) → length (split_last u us).0 ≡ length us
split_many u [] = refl
split_many u (x ∷ xs) = ap suc (split_many x xs)

pub same_mode : (m : Mode) → acts.mode_of (mode_number m) ≡ m
same_mode mode.Set = refl
same_mode mode.Add = refl
same_mode mode.Sub = refl
same_mode mode.Mul = refl

-- a local above those with names gets a value
pub good_put : {top n : ℕ} {c : Ctx} {ss : Names} {out : Way} {a : Where} {o : Around} {s : State} {ls : List Val} {u : Val} →
    Static top c ss out a →
    (r : PutIs ls (length ss) u) → Good n c.who.path o c.held c.also c.size s ls → Good n c.who.path o c.held c.also c.size s r.locals
good_put {c = c} {ss} {ls = ls} {u} sc r g = record {
  holds = holds_put c.held ls (length ss) (length ss) u r sc.low le_self g.holds;
  besides = holds_put c.also ls (length ss) (length ss) u r sc.low_also le_self g.besides;
  sized = r.sized ∙ g.sized;
  fine = g.fine;
}

-- ---- a write with `=` gives the value written

abbrev Writes : {A : Type 0} → Answer (A × Val) → Val → Type 0
Writes (gives x) u = x.1 ≡ u
Writes fails u = Unit {0}
Writes (error k) u = Unit {0}
Writes stuck u = Unit {0}

if_writes : {A : Type 0} (b : Bool) (x : A) (u w : Val) (k : Kind) → u ≡ w → Writes (if b then gives (x, u) else error k) w
if_writes true x u w k h = h
if_writes false x u w k h = tt

made_writes : (path : List Val) (u slot : Val) (k : Option Key) → Writes (ops.key_made path mode.Set u slot k) u
made_writes path u slot None = tt
made_writes path u slot (Some k) = if_writes (sizes.fits (places.applied (places.path_to_map path) (places.push k u) slot)) _ u u _ refl

at_writes : (x : End) (path : List Val) (u slot : Val) → Writes (ops.written_at x path mode.Set u slot) u
at_writes (places.there old) path u slot = if_writes (sizes.fits (places.applied path (places.put u) slot)) _ u u _ refl
at_writes places.new_key path u slot = made_writes path u slot (places.last_key path)
at_writes places.nowhere path u slot = tt
at_writes places.unfit path u slot = tt

cell_writes : (store : Store) (cell slot : ℕ) (u : Val) (x : Answer (Val × Val)) → Writes x u → Writes (with_written store cell slot x) u
cell_writes store cell slot u (gives w) h =
    if_writes (nat_le (store_weight (stored store cell slot w.0)) MOST_STORE_WEIGHT) (stored store cell slot w.0) w.1 u _ h
cell_writes store cell slot u fails h = tt
cell_writes store cell slot u (error k) h = tt
cell_writes store cell slot u stuck h = tt

in_writes : (store : Store) (cell slot : ℕ) (path : List Val) (u : Val) (x : Option Val) →
    Writes (write_in store cell slot path mode.Set u x) u
in_writes store cell slot path u None = tt
in_writes store cell slot path u (Some from) = cell_writes store cell slot u (ops.write_at path mode.Set u from)
    (at_writes (places.end_of path from) path u from)

abbrev Effects : Effect → Val → Type 0
Effects (gives x) u = x.0 ≡ u
Effects fails u = Unit {0}
Effects (error k) u = Unit {0}
Effects stuck u = Unit {0}

changed_writes : (x : Answer (Store × Val)) (u : Val) (s : State) → Writes x u → Effects (changed x s) u
changed_writes (gives x) u s h = h
changed_writes fails u s h = tt
changed_writes (error k) u s h = tt
changed_writes stuck u s h = tt

set_writes : (slot : ℕ) (path : List Val) (u cell : Val) (s : State) → Effects (slot_written slot path mode.Set u cell s) u
set_writes slot path u (object c) s = changed_writes (write_slot s.memory.store c slot path mode.Set u) u s
    (in_writes s.memory.store c slot path u (slot_of s.memory.store c slot))
set_writes slot path u cell s = tt

module _ (z : Setting) where
  changed_calm : (x : Answer (Store × Val)) (s : State) → Calmly z (changed x s) s
  changed_calm (gives x) s = refl
  changed_calm fails s = tt
  changed_calm (error k) s = tt
  changed_calm stuck s = tt

  written_calm : (slot : ℕ) (path : List Val) (m : Mode) (u cell : Val) (s : State) → Calmly z (slot_written slot path m u cell s) s
  written_calm slot path m u (object c) s = changed_calm (write_slot s.memory.store c slot path m u) s
  written_calm slot path m u cell s = tt

  -- the write alone
  store_leads : {j n : ℕ} {c : Ctx} {o : Around} {y : World} {ls st : List Val} {size : ℕ} {out : Way} {s e : Spot} (pl : Place) (m : Mode)
      (slot i p : ℕ) (path : List Val) (u cell : Val) → length path ≡ i → slice_get z.code.places p ≡ Some pl →
      Stands z (fits c.handlers) size out s (one (op.Store slot i (mode_number m) p) s) e →
      Good n c.who.path o c.held c.also c.size y.state ls → LeadsTo z j n c o y.behind y.tasks
      (at c o y.state ls (u ∷ stacked path (cell ∷ st)) s.at) (on e.at st) (told (slot_written slot path m u cell y.state) pl c.env y)
  store_leads {j} {n} {c} {o} {y} {ls} {st} {s = s} pl m slot i p path u cell q hp x g = op_leads z x (λ k. many_leads z _ _ q
      (subst (λ m1. LeadsTo z j n c o y.behind y.tasks (answered (slice_get z.code.places p)
      (slot_written slot path m1 u cell y.state) c.who
      o.world y.state c.life ls st s.at c.handlers c.below) (on (suc s.at) st) (told (slot_written slot path m u cell y.state) pl c.env y))
      (sym (same_mode m))
      (told_leads z (slot_written slot path m u cell y.state) pl c.env hp k.fit (written_calm slot path m u cell y.state) g)))

  -- what is left is dropped, and the value comes from its local
  kept_told : {j n : ℕ} {c : Ctx} {o : Around} {y : World} {ls st : List Val} {a l : ℕ} {pl : Place} {p : Option Place} (x : Effect)
      (u : Val) (env : Env) → Effects x u → Calmly z x y.state → p ≡ Some pl → fits c.handlers (suc a) ≡ true →
      Goes_on z (fits c.handlers) (suc a) (suc (suc a)) op.Drop →
      Goes_on z (fits c.handlers) (suc (suc a)) (suc (suc (suc a))) (op.Get l) → nth ls l ≡ Some u →
      Good n c.who.path o c.held c.also c.size y.state ls → LeadsTo z j n c o y.behind y.tasks
      (answered p x c.who o.world y.state c.life ls st a c.handlers c.below) (on (suc (suc (suc a))) st) (told x pl env y)
  unfolding told
  kept_told {y = y} {st = st} {a} (gives r) u env hu cm hp hf drop get there g =
      let s : State = r.1 in
      let gd = going.kept g (subst (λ (i : ℕ). i ≤ y.state.clock.left) (sym cm) le_self) in
      open_leads z y.state hf (does_leads z drop.is (open_leads z s drop.fit (does_leads z get.is
      (there_leads z s _ there (open_leads z s get.fit
      (is_leads z (ap (λ w. value env w (with_state y s)) hu) (value_here z {w = with_state y s} gd)))))))
  kept_told fails u env hu cm hp hf drop get there g = fails_here z g
  kept_told {y = y} (error k) u env hu cm hp hf drop get there g = open_leads z y.state hf
      (record { go = λ r h. subst (λ w. Ends z (faulting w k y.state) r) (sym hp) (over _ h) })
  kept_told stuck u env hu cm hp hf drop get there g = record { go = λ r h. over _ h }

  -- the value is kept, where the types differ
  kept_leads : {top j n : ℕ} {c : Ctx} {ss : Names} {out : Way} {a : Where} {o : Around} {y : World} {ls st : List Val} {s e : Spot}
      (pl : Place)
      (slot i p : ℕ) (path : List Val) (u cell : Val) → length path ≡ i → slice_get z.code.places p ≡ Some pl → Static top c ss out a →
      Stands z (fits c.handlers) c.size out s (storing (op.Store slot i 0 p) true (length ss) s) e →
      Good n c.who.path o c.held c.also c.size y.state ls → LeadsTo z j n c o y.behind y.tasks
      (at c o y.state ls (u ∷ stacked path (cell ∷ st)) s.at) (on e.at st)
      (told (slot_written slot path mode.Set u cell y.state) pl c.env y)
  kept_leads {c = c} {ss} {y = y} {ls} {s = s} {e} pl slot i p path u cell q hp sc x g =
      let l : ℕ = length ss in
      let stores : Maker = one (op.Store slot i 0 p) in
      let r = then_stand z s e (kept l) (stores then one op.Drop then one (op.Get l)) x in
      let k = kept_stand z s (next (next s)) l r.0 in
      let r2 = then_stand z (next (next s)) e stores (one op.Drop then one (op.Get l)) r.1 in
      let r3 = then_stand z (next (next (next s))) e (one op.Drop) (one (op.Get l)) r2.1 in
      let w = puts ls l u (subst (λ n. l < n) (sym g.sized) k.room) in
      let gd = good_put sc w g in
      end_leads z r3.1.ends (does_leads z k.put.is (there_leads z y.state _ w.is (open_leads z y.state k.put.fit
      (does_leads z k.get.is (there_leads z y.state _ w.here (open_leads z y.state k.get.fit
      (does_leads z (op_stands z r2.0).is (many_leads z y.state _ q
      (kept_told (slot_written slot path mode.Set u cell y.state) u c.env (set_writes slot path u cell y.state)
      (written_calm slot path mode.Set u cell y.state) hp (op_stands z r2.0).fit (op_stands z r3.0) (op_stands z r3.1) w.here gd)))))))))

  pub storing_leads : {top j n : ℕ} {c : Ctx} {ss : Names} {out : Way} {a : Where} {o : Around} {y : World} {ls st : List Val} {s e : Spot}
      (x : Assign) (b : Bool) (pl : Place) (slot i p : ℕ) (path : List Val) (u cell : Val) → length path ≡ i →
      slice_get z.code.places p ≡ Some pl → Static top c ss out a → Stands z (fits c.handlers) c.size out s
      (storing (op.Store slot i (mode_number (mode_of x)) p) (keeps x b) (length ss) s) e →
      Good n c.who.path o c.held c.also c.size y.state ls → LeadsTo z j n c o y.behind y.tasks
      (at c o y.state ls (u ∷ stacked path (cell ∷ st)) s.at) (on e.at st)
      (told (slot_written slot path (mode_of x) u cell y.state) pl c.env y)
  storing_leads assign.Set true pl slot i p path u cell q hp sc x g = kept_leads pl slot i p path u cell q hp sc x g
  storing_leads assign.Set false pl slot i p path u cell q hp sc x g = store_leads pl mode.Set slot i p path u cell q hp x g
  storing_leads assign.Add b pl slot i p path u cell q hp sc x g = store_leads pl mode.Add slot i p path u cell q hp x g
  storing_leads assign.Sub b pl slot i p path u cell q hp sc x g = store_leads pl mode.Sub slot i p path u cell q hp x g
  storing_leads assign.Mul b pl slot i p path u cell q hp sc x g = store_leads pl mode.Mul slot i p path u cell q hp x g
