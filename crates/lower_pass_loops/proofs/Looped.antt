-- `loop`: its body begins again with the state in which the loop began, and is left where a `break` stands in it.
use Rattle.std.proofs.Common.{◌≡◌, ℕ, zero, suc, ◌-◌, ◌≤◌, map, List, [], ◌∷◌, ◌++◌, Option, Some, None, Bool, true, false, cond}
use Rattle.std.proofs.Common.{refl, sym, subst, arith}
use Rattle.std.specs.Prelude.{option_map, slice_get}
use Rattle.std.proofs.lemmas.Option.{none-some, same_Some}
use Rattle.verse_code.specs.declared.codes.Code.{Code}
use Rattle.verse_code.specs.declared.operations.Op.TheVariants as o
use Rattle.verse_names_tables.specs.Names.{Table}
use Rattle.verse_sorts.specs.Sorts as s
use Rattle.verse_sorts.specs.Sorts.{Sort, Fits}
use Rattle.verse_sorts.proofs.Fitting.{all_itself}
use Rattle.verse_sound_rules.specs.Found as rules
use Rattle.verse_sound_rules.specs.Found.{Allowed}
use Rattle.verse_verify_kept.specs.Notes.{Notes, parent_of}
use Rattle.verse_verify_kept.specs.Rules.{first_never}
use Rattle.verse_verify_faults.specs.Spots.{point_of}
use Rattle.lower_code.specs.Pieces as c
use Rattle.lower_code.specs.Pieces.{Spot, Maker, Item, sure, later, deepest, drops, past, behind}
use Rattle.lower_code.proofs.Standing.{closing_stands, behind_more, behind_least, behind_closed}
use Rattle.lower_code.specs.declared.arounds.Around.{Around}
use Rattle.lower_code.specs.Arounds.{looped}
use Rattle.lower_code.specs.Scopes.{Scope}
use Rattle.lower_notes.specs.States.{State, spot_of, pops}
use Rattle.lower_notes.specs.Stretches as n
use Rattle.lower_notes.specs.Stretches.{Walk, Stretch, with_value, outs, is_left}
use Rattle.lower_notes.specs.Laws.{Beside}
use Rattle.lower_notes.proofs.Counted as counted
use Rattle.lower_notes.proofs.Counted.{code_then, walk_then}
use Rattle.lower_pass_states.proofs.Meeting.{Meets, MeetsAt, no_value, leads_to, leads_itself, Noted, SoundAt, AllSound}
use Rattle.lower_pass_stretches.proofs.Begins.{Starts, starts, Begins}
use Rattle.lower_pass_stretches.proofs.Going.{Way, If, itself, Lies, within_less, Going, Steady, then_goes, noted_first, all_more}
use Rattle.lower_pass_stretches.proofs.Single.{ends_goes, IsValue}
use Rattle.lower_pass_stretches.proofs.Combined.{jump_asked, ahead_goes, opens_nothing, if_map}
use Rattle.lower_pass_stretches.proofs.Inside.{Inside, Since, steady_of}
use Rattle.lower_pass_contexts.proofs.Loops.{way_out, closing_goes}
use Rattle.lower_pass_forms.proofs.Finishing.{IsOver, drop_goes}
use Rattle.lower_pass_loops.proofs.Placing.{here_goes, again_asked}

none_more : (k : ℕ) → k - k ≡ 0
none_more k = omega arith

module _ (found : rules.Found) (code : Code) (notes : Notes) (w : Way) (ts : List ℕ) (al : Allowed) (xs : Table) (sc : Scope)
    (a : Around) where
  -- what is known in the loop: where it is left stands the state in which it began
  pub inside_looped : (b : Bool) (out : ℕ) {y : State} → Inside code notes found w ts al xs sc a y →
      Inside code notes found (record { out = out; state = y; may_leave = b; size = w.size }) ts (rules.looped b al) xs sc (looped a) y
  inside_looped b out {y} h = record {
    even = h.even;
    names = h.names;
    stood = h.stood;
    blocks = h.blocks;
    count = h.count;
    order = (most h.order, same a.defers);
    keeps = h.keeps;
    sees = h.sees;
    blank = h.blank;
    quiet = h.quiet;
    room = h.room;
    fails = h.fails;
    waits = h.waits;
    returns = λ res i. let g = h.returns res i in record {
      may = g.may;
      base = g.base;
      arm = g.arm;
      block = g.block;
      tries = g.tries;
      under = g.under;
      func = g.func;
      is_func = g.is_func;
      result = g.result;
    };
    breaks = λ i. record {
      in_loop = refl;
      may = i;
      func = refl;
      arm = refl;
      block = refl;
      outer = refl;
      under = refl;
      tries = refl;
      stack = all_itself (parent_of notes) y.stack;
      locals = all_itself (parent_of notes) y.locals;
      since = subst (λ k. Since code notes y k y.defers) (sym (none_more a.defers)) refl;
    };
  }
    where
      most : {i j k : ℕ} → (i ≤ j) × (j ≤ k) → i ≤ k
      most l = omega (arith, l.0, l.1)

      same : (k : ℕ) → k ≤ k
      same k = omega arith

  module _ (b : Bool) (q qb : Sort) (unit : b ≡ true → Fits (parent_of notes) s.unit q) {f : Maker} {g : Walk} (beside : Beside f g)
      (begins : Begins g)
      (tree : (v : Way) (z : Option State) → If z (Inside code notes found v ts (rules.looped b al) xs sc (looped a)) →
      Going code notes v ts z f g itself (IsValue code notes qb z)) where
    abbrev body_code : Maker
    body_code = code_then f (c.one o.Drop)

    abbrev body_walk : Walk
    body_walk = walk_then g (n.one (pops 1))

    abbrev turn_code : ℕ → Maker
    turn_code i = code_then (c.ahead o.Jump body_code) (c.one (o.Again (suc i)))

    abbrev turn_walk : Walk
    turn_walk = walk_then (n.ahead (n.always n.same) (n.always n.same) body_walk) n.ends

    abbrev loop_code : Maker
    loop_code = c.from_here turn_code

    body_beside : Beside body_code body_walk
    body_beside = counted.both beside counted.just

    jump_beside : Beside (c.ahead o.Jump body_code) (n.ahead (n.always n.same) (n.always n.same) body_walk)
    jump_beside = counted.before {into = n.always n.same} {beyond = n.always n.same} o.Jump body_beside

    loop_beside : Beside loop_code turn_walk
    loop_beside = counted.by_place {f = turn_code} {g = turn_walk} (λ i. counted.both jump_beside counted.just_ends)

    module _ (v : Way) (x : Option State) (inside : If x (Inside code notes found v ts (rules.looped b al) xs sc (looped a))) where
      abbrev again : Option State
      again = option_map n.same x

      steady : If x (Steady code notes ts)
      steady y e = steady_of code notes (inside y e)

      abbrev Begun : ℕ → Type 0
      Begun i = slice_get notes.points (suc i) ≡ Some (point_of (option_map spot_of again))

      begun : (s : Spot) → Lies code notes v s (turn_code s.at s) (turn_walk s.at x) → Begun s.at
      begun s l = by_first (g (suc s.at) again).states (begins (suc s.at) again) _ _ (suc s.at) l.states.1
        where
          by_first : (zs : List (Option State)) → Starts again zs → (us os : List (Option State)) (i : ℕ) →
              Noted code notes i ((zs ++ us) ++ os) → slice_get notes.points i ≡ Some (point_of (option_map spot_of again))
          by_first zs starts us os i h = h.0

      body_goes : Going code notes v ts again body_code body_walk itself (IsOver code notes [] again)
      body_goes = then_goes code notes beside (tree v again (if_map code notes _ n.same x inside))
          (λ z h. drop_goes code notes (if_map code notes (Steady code notes ts) n.same x steady) qb [] h)

      turn_goes : (i : ℕ) → Begun i → Going code notes v ts x (turn_code i) turn_walk itself (λ z. ⊥)
      turn_goes i e = then_goes code notes jump_beside
          (ahead_goes code notes itself (λ z. x ≡ Some z) (n.always n.same) (n.always n.same) (λ j. ts) o.Jump (λ j. Unit {0})
          (λ s l. tt) steady (opens_nothing code notes ts o.Jump) (λ j k. body_goes)
          (λ j z k m t. lands again z k m t)
          (λ z k j m t u. jump_asked code notes z j m u)
          (λ z k j t. k))
          (λ z k. ends_goes code notes (c.one (o.Again (suc i))) (λ s. o.Again (suc i)) (λ s. refl)
          (λ u j. steady u (k u j))
          (λ u j s. again_asked code notes u s.at (suc i) (leads_to (leads_itself code notes u (suc i) (inside u (k u j)).even
          (subst (λ y. slice_get notes.points (suc i) ≡ Some (point_of (option_map spot_of (option_map n.same y)))) (k u j) e)))))
        where
          lands : (y : Option State) (z : State) → IsOver code notes [] y z → (m : ℕ) → MeetsAt code notes y m → Meets code notes z m
          lands y z k m t = subst (λ u. Meets code notes u m) (sym k.1.1) (subst (λ u. MeetsAt code notes u m) k.1.0 t)

      turns_go : Going code notes v ts x loop_code turn_walk itself (λ z. ⊥)
      turns_go = here_goes code notes turn_code Begun begun turn_goes

    -- where no state is, none is behind
    outs_nothing : (d i : ℕ) (left : Option ℕ) → AllSound code notes i (outs d left None)
    outs_nothing zero i left = (nothing (is_left 0 left), tt)
      where
        nothing : (b : Bool) → SoundAt code notes i (cond b None None)
        nothing true = tt
        nothing false = tt
    outs_nothing (suc d) i left = (nothing (is_left (suc d) left), outs_nothing d (suc i) left)
      where
        nothing : (b : Bool) → SoundAt code notes i (cond b None None)
        nothing true = tt
        nothing false = tt

    -- and no loop is left: it may have begun in a state with a local that has no value, which meets all
    abbrev no_state : State
    no_state = record {
      func = 0;
      arm = None;
      locals = s.never ∷ [];
      stack = [];
      tries = [];
      block = None;
      outer = [];
      under = 0;
      defers = [];
    }

    abbrev run : Spot → Stretch
    run s = turn_walk s.at None

    abbrev out_of : Spot → ℕ
    out_of s = later (deepest (loop_code s).items) (past s (loop_code s)).at

    abbrev no_way : Spot → Way
    no_way s = record { out = out_of s; state = no_state; may_leave = false; size = w.size }

    no_lies : (s : Spot) → Lies code notes w s (c.closing loop_code s) (n.closing turn_walk s.at None) →
        Lies code notes (no_way s) s (loop_code s) (run s)
    no_lies s l = record {
      stands = (closing_stands loop_code l.stands).inside;
      states = noted_first code notes (run s).states (outs (run s).deep (run s).left None) s.at l.states;
      left = λ m d e. no_value first_never;
      room = l.room;
    }

    abbrev drops_of : Spot → List Item
    drops_of s = drops (deepest (loop_code s).items) (sure o.Unit ∷ [])

    less_closed : (s : Spot) → (past s (loop_code s)).at ≤ (past s (c.closing loop_code s)).at
    less_closed s = subst (λ i. i ≤ (past s (c.closing loop_code s)).at) (behind_closed (out_of s) (loop_code s).items s.at)
        (subst (λ i. behind (map (c.closed (out_of s)) (loop_code s).items) s.at ≤ i)
        (sym (behind_more (map (c.closed (out_of s)) (loop_code s).items) (drops_of s) s.at))
        (behind_least (drops_of s) (behind (map (c.closed (out_of s)) (loop_code s).items) s.at)))

    nothing_goes : Going code notes w ts None (c.closing loop_code) (n.closing turn_walk) (with_value q None) (λ z. Unit {0})
    nothing_goes = record {
      leaves = λ s l v e. absurd (cc);
      exits = λ s l v z e. tt;
      goes = λ s l v m.
          let a = (turns_go (no_way s) None (λ y e. absurd (none-some y e))).goes s (no_lies s l)
          (within_less code notes ts v (omega arith) (less_closed s)) (nothing_met (run s).exit refl (past s (loop_code s)).at) in (
            tt,
            all_more code notes (run s).states (outs (run s).deep (run s).left None) s.at a.1
                (outs_nothing (run s).deep (behind (run s).states s.at) (run s).left),
          );
    }
      where
        nothing_met : (y : Option State) → y ≡ None → (i : ℕ) → MeetsAt code notes y i
        nothing_met None e i = tt
        nothing_met (Some y) e i = absurd (cc)

    pub loop_goes : (x : Option State) → If x (Inside code notes found w ts al xs sc a) →
        Going code notes w ts x (c.looping f) (n.looping g) (with_value q x) (λ z. Unit {0})
    loop_goes None here = nothing_goes
    loop_goes (Some y) here = closing_goes code notes ts w q b loop_beside (steady_of code notes (here y refl)) unit
        (λ s. turns_go (way_out code notes ts s (loop_code s) y b w.size) (Some y) (λ z e.
        subst (Inside code notes found (way_out code notes ts s (loop_code s) y b w.size) ts (rules.looped b al) xs sc (looped a))
        (same_Some y z e) (inside_looped b (out_of s) (here y refl))))
        (λ s. refl)
