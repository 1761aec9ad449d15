-- `for`: a list in a local, the clauses in a Try, and the list.
use Rattle.std.proofs.Common.{◌≡◌, ℕ, suc, ◌≤◌, ◌<◌, length, List, [], ◌∷◌, Option, Some, None, refl, sym, ◌∙◌, subst, ap, arith}
use Rattle.std.specs.Prelude.{option_map}
use Rattle.std.proofs.lemmas.Option.{none-some, same_Some}
use Rattle.verse_base.specs.declared.places.Place.{Place}
use Rattle.verse_code.specs.declared.codes.Code.{Code}
use Rattle.verse_code.specs.declared.operations.Op.TheVariants as o
use Rattle.verse_names_tables.specs.Names.{Table}
use Rattle.verse_sorts.specs.Sorts as s
use Rattle.verse_sorts.specs.Sorts.{Sort, IsKnown, Fits}
use Rattle.verse_sorts.specs.Typing.{at}
use Rattle.verse_sorts.proofs.Fitting.{fits_itself}
use Rattle.verse_sound_rules.specs.Found as rules
use Rattle.verse_sound_rules.specs.Found.{Allowed, tried}
use Rattle.verse_verify_kept.specs.Notes.{Notes, parent_of}
use Rattle.verse_verify_kept.specs.Rules.{Quiet, in_no}
use Rattle.lower_code.specs.Pieces as c
use Rattle.lower_code.specs.Pieces.{Maker}
use Rattle.lower_code.specs.declared.arounds.Around.{Around}
use Rattle.lower_code.specs.Scopes.{Scope, hidden}
use Rattle.lower_notes.specs.States.{State, gives, puts}
use Rattle.lower_notes.specs.States as states
use Rattle.lower_notes.specs.Stretches as n
use Rattle.lower_notes.specs.Stretches.{Walk, with_value}
use Rattle.lower_notes.specs.Laws.{Beside}
use Rattle.lower_notes.proofs.Counted as counted
use Rattle.lower_notes.proofs.Counted.{code_then, walk_then}
use Rattle.lower_pass_states.proofs.Points.{over, gives_is}
use Rattle.lower_pass_states.proofs.Locals.{is_at, with_here}
use Rattle.lower_pass_states.proofs.Meeting.{Meets, MeetsAt, meets_below}
use Rattle.lower_pass_states.proofs.Steps as step
use Rattle.lower_pass_stretches.proofs.Begins.{starts}
use Rattle.lower_pass_stretches.proofs.Names.{sees_hidden}
use Rattle.lower_pass_stretches.proofs.Going.{Way, If, Going, Steady, then_goes}
use Rattle.lower_pass_stretches.proofs.Single.{just_goes}
use Rattle.lower_pass_stretches.proofs.Combined.{Led}
use Rattle.lower_pass_stretches.proofs.Inside.{Inside, steady_of}
use Rattle.lower_pass_contexts.proofs.Contexts.{inside_try}
use Rattle.lower_pass_contexts.proofs.Scopes.{inside_with}
use Rattle.lower_pass_contexts.proofs.Attempts.{attempt_goes}
use Rattle.lower_pass_contexts.proofs.Trys.{try_asked}
use Rattle.lower_pass_contexts.proofs.After.{After, after_itself, after_bound, after_below}
use Rattle.lower_pass_forms.proofs.Finishing.{over_itself, step_goes}
use Rattle.lower_pass_blocks.proofs.Binding.{bound, IsBound, put_goes}
use Rattle.lower_pass_loops.proofs.Placing.{numbered_goes}
use Rattle.lower_pass_loops.proofs.Levels.{Level, LevelGoes}
use Rattle.lower_pass_loops.proofs.Generators.{below_with, behind_try, after_is_below}

module _ (found : rules.Found) (code : Code) (notes : Notes) (w : Way) (ts : List ℕ) (al : Allowed) (xs : Table) (sc : Scope) (a : Around)
    (x : Option State) (here : If x (Inside code notes found w ts al xs sc a)) (q qu : Sort) (is_list : q ≡ s.list qu) where
  abbrev l : ℕ
  l = length sc

  abbrev Fit : Sort → Sort → Type 0
  Fit = Fits (parent_of notes)

  empty_fits : Fit (s.list qu) q
  empty_fits = subst (λ u. Fit (s.list qu) u) (sym is_list) (fits_itself (parent_of notes) (s.list qu))

  steady : If x (Steady code notes ts)
  steady y e = steady_of code notes (here y e)

  -- the list is in its local
  record StartedFrom (before_it : Option State) (z : State) : Type 0 where
    pub before : State
    pub is : before_it ≡ Some before
    pub after : After code notes 0 before z
    pub inside : Inside code notes found w ts al xs (hidden ∷ sc) a z
    pub list : at z.locals l ≡ Some q
    pub quiet : Quiet code notes l ts

  abbrev Started : State → Type 0
  Started = StartedFrom x

  started : (y : State) → Inside code notes found w ts al xs sc a y → l < w.size → StartedFrom (Some y) (bound l q y)
  started y h free =
      let there = is_at y.locals l (within w.size (length y.locals) l free h.room) in record {
        before = y;
        is = refl;
        after = after_bound code notes (after_itself code notes y) l q (there.1 ∙ ap Some (h.blank l there.0 (same l) there.1));
        inside = inside_with code notes hidden xs q free h (sees_hidden found (below_with l q y.locals) h.sees);
        list = with_here l q y.locals (within w.size (length y.locals) l free h.room);
        quiet = h.quiet l (same l);
      }
    where
      within : (n m l : ℕ) → l < n → n ≤ m → l < m
      within n m l h k = omega (arith, h, k)

      same : (k : ℕ) → k ≤ k
      same k = omega arith

  started_of : {u : Option State} → If u (IsBound found code notes w ts al xs sc a x here q) → If u Started
  started_of there z e = let k = there z e in from x here k.0 k.1.0 z k.1.1.0 k.1.1.1
    where
      from : (y : Option State) → If y (Inside code notes found w ts al xs sc a) → l < w.size → (v z : State) →
          option_map (bound l q) y ≡ Some v → z ≡ over [] v → StartedFrom y z
      from None h free v z e f = absurd (none-some v e)
      from (Some y) h free v z e f = subst (StartedFrom (Some y)) (same_Some (bound l q y) v e ∙ sym f) (started y (h y refl) free)

  -- the clauses, and the list
  module _ (m : ℕ) {f : Maker} {g : Walk} (beside : Beside f g)
      (levels : LevelGoes found code notes w ts al a l q xs (hidden ∷ sc) f g) where
    level_of : (i label : ℕ) {u : Option State} → If u Started → Led code notes o.Try u u i label →
        If (option_map (states.tried i) u) (Level found code notes w ts al a l q i u xs (hidden ∷ sc))
    level_of i label {u = None} started led z e = absurd (none-some z e)
    level_of i label {u = Some y} started led z e = subst (Level found code notes w ts al a l q i (Some y) xs (hidden ∷ sc))
        (same_Some (states.tried i y) z e) (let h = started y refl in record {
          base = y;
          is = refl;
          even = h.inside.even;
          here = led.here;
          within = record { tries = refl; stack = refl; defers = refl };
          after = subst (After code notes 0 y) (sym (behind_try i y)) (after_itself code notes y);
          inside = inside_try code notes i label led h.inside;
          outer = subst (Inside code notes found w ts al xs (hidden ∷ sc) a) (sym (behind_try i y)) h.inside;
          listed = record { before = more l; is = h.list; quiet = h.quiet };
        })
      where
        more : (k : ℕ) → k < suc k
        more k = omega arith

    list_goes : {u : Option State} → If u Started → Going code notes w ts u (c.one (o.Get l)) n.last (with_value q x) (λ z. Unit {0})
    list_goes started = just_goes code notes (c.one (o.Get l)) (λ s. o.Get l) (λ s. refl)
        (λ z e. steady_of code notes (started z e).inside)
        (λ z e s room m. let h = started z e in step.get_asked code notes z h.inside.even
        (meets_below code notes (after_below code notes h.after (fits_itself (parent_of notes) q))
        (subst (λ v. Meets code notes v (suc s.at)) (gives_is q h.before)
        (subst (λ v. MeetsAt code notes (with_value q v (Some z)) (suc s.at)) h.is m))) l h.list (subst IsKnown (sym is_list) tt)
        (fits_itself (parent_of notes) q))
        (λ z e s room. tt)

    clauses_go : {u : Option State} → If u Started → Going code notes w ts u (code_then (c.ahead o.Try f) (c.one (o.Get l)))
        (walk_then (n.attempt g) n.last) (with_value q x) (λ z. Unit {0})
    clauses_go {u} started = attempt_goes code notes (with_value q x) (λ z. Unit {0}) beside (λ at y. starts)
        (λ z e. steady_of code notes (started z e).inside)
        (λ i label led. levels i u (option_map (states.tried i) u) (level_of i label started led))
        (λ z k i m. meets_below code notes (after_is_below code notes k.1.1) (subst (λ v. MeetsAt code notes v i) k.1.0 m))
        (list_goes started) (λ y e i label m k. try_asked code notes y i label m k)

  pub for_goes : (pl : Place) {f : ℕ → Maker} {g : Walk} → ((m : ℕ) → Beside (f m) g) →
      ((m : ℕ) → LevelGoes found code notes w ts al a l q xs (hidden ∷ sc) (f m) g) →
      Going code notes w ts x (c.numbering pl (λ m. code_then (c.one (o.Array 0 m)) (code_then (c.put_away l)
      (code_then (c.ahead o.Try (f m)) (c.one (o.Get l))))))
      (walk_then (n.one (gives 0 q)) (walk_then (n.one (puts l q)) (walk_then (n.attempt g) n.last))) (with_value q x) (λ z. Unit {0})
  for_goes pl beside levels = numbered_goes code notes pl _ (λ m. then_goes code notes counted.just
      (step_goes code notes (c.one (o.Array 0 m)) (λ s. o.Array 0 m) (λ s. refl) [] steady (over_itself code notes) (q ∷ []) (gives 0 q)
      (λ y e. gives_is q y)
      (λ y e s k. step.array_asked code notes y (here y e).even k 0 m [] refl in_no empty_fits))
      (λ z h. then_goes code notes counted.away
      (put_goes found code notes w ts al xs sc a x here q q (fits_itself (parent_of notes) q) h)
      (λ u k. clauses_go m (beside m) (levels m) (started_of k))))
