-- Generators: what one draws from, and how its turns begin.
use Rattle.std.proofs.Common.{◌≡◌, ℕ, ℤ, suc, List, [], ◌∷◌, ◌++◌, length, None, refl, sym, ap, subst, arith}
use Rattle.std.specs.Prelude.{pos}
use Rattle.verse_tree.specs.Tree.{Bytes}
use Rattle.verse_value.specs.Val as v
use Rattle.verse_value.specs.Val.{Val, unit, falsity, truth, int, char, object, enum, tuple, array, mapping, more_vals, no_vals}
use Rattle.verse_value.specs.declared.runs.Ending.TheVariants as ending
use Rattle.verse_meaning_state.specs.State.{State}
use Rattle.verse_meaning.specs.Residuals.{Env, Generator, of_elements, of_entries, of_range, Values}
use Rattle.verse_meaning.specs.Outcomes.{World, Outcome, if_there}
use Rattle.verse_meaning.specs.Forms.{with_taken, values_of, range_values}
use Rattle.verse_code_machine.specs.Tasks.{Step, Over, machine}
use Rattle.verse_code_machine.specs.Frames.{fits, only_where, on_there, put}
use Rattle.verse_code_machine.specs.Acts.{on_int}
use Rattle.lower_code.specs.Scopes.{Scope as Names}
use Rattle.lower_code.specs.Lowering.{with_generator, taking}
use Rattle.lower_simulation.proofs.Claims.{Setting, Ends, Ctx, Around, at, Target, Lies, pushed, spread, laid, Shown, plainly, paired}
use Rattle.lower_simulation.proofs.Claims.{Pair, Locals, Low, Fits, first_in, later_in}
use Rattle.lower_simulation.proofs.Steps.{act_at, over}
use Rattle.lower_simulation.proofs.Locals.{low_more, fits_more}
use Rattle.lower_simulation.proofs.Leading.{LeadsTo, is_leads}
use Rattle.lower_simulation_blocks.proofs.Domains.{Domain, of_array, of_map, of_range as from_range}

-- both ends of a range, or what no side takes as a range
data Ranged : Val → Val → Type 0 where
  a_range : (x y : ℤ) → Ranged (int x) (int y)
  unranged : {a b : Val} → range_values (tuple (more_vals a (more_vals b no_vals))) ≡ None →
      ((s : State) (go : Step) → on_int a s (on_int b s go) ≡ Over ending.Stuck s) → Ranged a b

ranged : (a b : Val) → Ranged a b
ranged unit b = unranged refl (λ s go. refl)
ranged falsity b = unranged refl (λ s go. refl)
ranged truth b = unranged refl (λ s go. refl)
ranged (char x0) b = unranged refl (λ s go. refl)
ranged (enum x0 x1) b = unranged refl (λ s go. refl)
ranged (object x0) b = unranged refl (λ s go. refl)
ranged (v.event x0) b = unranged refl (λ s go. refl)
ranged (v.task x0) b = unranged refl (λ s go. refl)
ranged (v.some x0) b = unranged refl (λ s go. refl)
ranged (array x0) b = unranged refl (λ s go. refl)
ranged (mapping x0) b = unranged refl (λ s go. refl)
ranged (tuple x0) b = unranged refl (λ s go. refl)
ranged (int x) unit = unranged refl (λ s go. refl)
ranged (int x) falsity = unranged refl (λ s go. refl)
ranged (int x) truth = unranged refl (λ s go. refl)
ranged (int x) (char y0) = unranged refl (λ s go. refl)
ranged (int x) (enum y0 y1) = unranged refl (λ s go. refl)
ranged (int x) (object y0) = unranged refl (λ s go. refl)
ranged (int x) (v.event y0) = unranged refl (λ s go. refl)
ranged (int x) (v.task y0) = unranged refl (λ s go. refl)
ranged (int x) (v.some y0) = unranged refl (λ s go. refl)
ranged (int x) (array y0) = unranged refl (λ s go. refl)
ranged (int x) (mapping y0) = unranged refl (λ s go. refl)
ranged (int x) (tuple y0) = unranged refl (λ s go. refl)
ranged (int x) (int y) = a_range x y

-- how what a generator draws from lies on the stack, and what is known of it: both ends of a range are two operands
abbrev pub lies_of : Generator → Lies
lies_of (of_elements x) = pushed
lies_of (of_entries k x) = pushed
lies_of (of_range x) = spread

abbrev pub shown_of : Generator → Shown
shown_of (of_elements x) = plainly
shown_of (of_entries k x) = plainly
shown_of (of_range x) = paired

abbrev pub Drawn : Generator → Val → Type 0
Drawn (of_elements x) v = Unit {0}
Drawn (of_entries k x) v = Unit {0}
Drawn (of_range x) v = Pair v

-- the four locals of a generator, from l on: two of the domain, the value that was taken, and its key
abbrev pub four : (l : ℕ) → (a b : Val) → Val × Val → Locals
four l a b x = (suc (suc (suc l)), x.1) ∷ (suc (suc l), x.0) ∷ (suc l, b) ∷ (l, a) ∷ []

four_fit : (l : ℕ) (a b : Val) (x : Val × Val) (ss : Names) (e : Env) (held : Locals) → Fits ss e held → Fits ss e (four l a b x ++ held)
four_fit l a b x ss e held h =
    fits_more (suc (suc (suc l)), x.1) _ ss e (fits_more (suc (suc l), x.0) _ ss e
    (fits_more (suc l, b) _ ss e (fits_more (l, a) held ss e h)))

pub generator_fits : (g : Generator) (a b : Val) (x : Val × Val) (ss : Names) (e : Env) (held : Locals) → Fits ss e held →
    Fits (with_generator g ss) (with_taken g x e) (four (length ss) a b x ++ held)
generator_fits (of_elements q) a b x ss e held h = (
  record { holds = x.0; is = refl; held = later_in first_in },
  four_fit (length ss) a b x ss e held h,
)
generator_fits (of_entries k q) a b x ss e held h = (
  record { holds = x.1; is = refl; held = first_in },
  (record { holds = x.0; is = refl; held = later_in first_in }, four_fit (length ss) a b x ss e held h),
)
generator_fits (of_range q) a b x ss e held h = (
  record { holds = x.0; is = refl; held = later_in first_in },
  four_fit (length ss) a b x ss e held h,
)

pub generator_size : (g : Generator) (ss : Names) → length (with_generator g ss) ≡ suc (suc (suc (suc (length ss))))
generator_size (of_elements q) ss = refl
generator_size (of_entries k q) ss = refl
generator_size (of_range q) ss = refl

pub four_low : (l : ℕ) (a b : Val) (x : Val × Val) (held : Locals) → Low l held → Low (suc (suc (suc (suc l)))) (four l a b x ++ held)
four_low l a b x held h =
    (omega arith, (omega arith, (omega arith, (omega arith, low_more l (suc (suc (suc (suc l)))) held (omega arith) h))))

module _ (z : Setting) (j n : ℕ) (c : Ctx) (o : Around) (y : World) (ls st : List Val) (into : Target) (l p : ℕ)
    (go : Values → Outcome) where
  -- the two locals of the domain are written
  abbrev pub Begun : Type 0
  Begun = (vs : Values) (a b : Val) → Domain vs a b → LeadsTo z j n c o y.behind y.tasks
      (on_there (put ls l a) y.state (λ ls. on_there (put ls (suc l) b) y.state
      (λ ls. only_where (fits c.handlers (suc p)) y.state (at c o y.state ls st (suc p))))) into (go vs)

  each_leads : (q : Bytes) → Begun → (v : Val) → LeadsTo z j n c o y.behind y.tasks
      (act_at z (taking (of_elements q) l) (machine c.who o.world y.state c.life ls (v ∷ st) p c.handlers c.below)) into
      (if_there (values_of (of_elements q) v) y go)
  unfolding if_there
  each_leads q h (array us) = h _ (array us) (int (pos 0)) (of_array 0 us)
  each_leads q h (mapping ps) = h _ (mapping ps) (int (pos 0)) (of_map 0 ps)
  each_leads q h unit = record { go = λ g h. over _ h }
  each_leads q h falsity = record { go = λ g h. over _ h }
  each_leads q h truth = record { go = λ g h. over _ h }
  each_leads q h (int x) = record { go = λ g h. over _ h }
  each_leads q h (char x) = record { go = λ g h. over _ h }
  each_leads q h (enum x u) = record { go = λ g h. over _ h }
  each_leads q h (object x) = record { go = λ g h. over _ h }
  each_leads q h (v.event x) = record { go = λ g h. over _ h }
  each_leads q h (v.task x) = record { go = λ g h. over _ h }
  each_leads q h (v.some x) = record { go = λ g h. over _ h }
  each_leads q h (tuple x) = record { go = λ g h. over _ h }

  range_leads : (q : Bytes) → Begun → (a b : Val) → Ranged a b → LeadsTo z j n c o y.behind y.tasks
      (act_at z (taking (of_range q) l) (machine c.who o.world y.state c.life ls (b ∷ a ∷ st) p c.handlers c.below)) into
      (if_there (values_of (of_range q) (tuple (more_vals a (more_vals b no_vals)))) y go)
  unfolding if_there
  range_leads q h a b (a_range x1 x2) = h _ (int x1) (int x2) (from_range x1 x2)
  range_leads q h a b (unranged h1 h2) = is_leads z (ap (λ x. if_there x y go) h1)
      (record { go = λ g h. subst (λ x. Ends z x g) (sym (h2 y.state _)) (over _ h) })

  -- Each or Range
  pub begin_leads : (g : Generator) → Begun → (v : Val) → Drawn g v → LeadsTo z j n c o y.behind y.tasks
      (act_at z (taking g l) (machine c.who o.world y.state c.life ls (laid (lies_of g) v [] ++ st) p c.handlers c.below)) into
      (if_there (values_of g v) y go)
  begin_leads (of_elements q) h v d = each_leads q h v
  begin_leads (of_entries k q) h v d = each_leads q h v
  begin_leads (of_range q) h (tuple (more_vals a (more_vals b no_vals))) d = range_leads q h a b (ranged a b)
  begin_leads (of_range q) h v d = absurd d
