-- A statement has given its value: its name is seen behind it.
use Rattle.std.proofs.Common.{ℕ, Option, Some, sym, subst}
use Rattle.verse_value.specs.Val.{Val}
use Rattle.verse_names_tables.specs.Names.{Table}
use Rattle.verse_sorts.specs.Sorts as s
use Rattle.verse_sorts.specs.Sorts.{Sort}
use Rattle.verse_sorts.specs.Typing.{Typing, Grows, Is, is_var}
use Rattle.verse_sorts.proofs.Fitting.{is_more, grows_itself}
use Rattle.verse_meaning.specs.Programs.{Program}
use Rattle.verse_meaning.specs.Residuals.{Env, Binder, no_name, a_constant, a_variable, constant, variable}
use Rattle.verse_meaning.specs.Outcomes.{World, Outcome}
use Rattle.verse_meaning.specs.Forms.{Deeper, defined, bound_to, variable_bound}
use Rattle.verse_sound_rules.specs.Found.{Found, Allowed}
use Rattle.verse_sound_rules.specs.Fine.{Defines, defined_behind}
use Rattle.verse_sound_trees.specs.Names.{Holds, holds_cell, Sees}
use Rattle.verse_sound_trees.specs.Going.{turns, Kept}
use Rattle.verse_sound_trees.proofs.Names.{binds_value, binds_local, sees_more}
use Rattle.verse_sound_trees.proofs.Going.{told_typed}
use Rattle.verse_sound_trees.proofs.Storing.{variable_told}
use Rattle.verse_sound_waits.specs.Waits.{Stays}
use Rattle.verse_sound_waits.proofs.Passing.{told_stays, valued_stays}

module _ (p : Program) (f : Found) (n : ℕ) where
  pub defined_stays : (k : Deeper) (i : ℕ) (t : Typing) (a : Allowed) (c : Option ℕ) (xs : Table) (y : Binder) (e : Env)
      (x : Val) (w : World) (go : Env → Val → World → Outcome) → Defines p f y i xs → Sees f t c xs e →
      Is f.up t x (f.sort i) → Kept p f (turns n) t w →
      ((u : Typing) (e1 : Env) (z : World) → Grows t u → Sees f u c (defined_behind y i xs) e1 →
      Is f.up u x (f.sort i) → Kept p f (turns n) u z → Stays (go e1 x z)) → Stays (defined p k y e x w go)
  unfolding defined
  defined_stays k i t a c xs no_name e x w go h see j kw next = absurd h
  defined_stays k i t a c xs (a_constant y) e x w go h see j kw next =
      next t (bound_to y (constant x) e) w grows_itself (binds_value f t e c xs y i x h.0 h.1 j see) j kw
  defined_stays k i t a c xs (a_variable y pl) e x w go h see j kw next =
      valued_stays p f n {a = a} (λ z. z) _ (told_typed p f (turns n) pl e kw (variable_told p f (turns n) a x kw j))
      (told_stays _ pl e w) (λ u q z gr kz l. by u q z gr kz l)
    where
      by : (u : Typing) (q : Val) (z : World) → Grows t u → Kept p f (turns n) u z → Is f.up u q (s.var (f.sort i)) →
          Stays (go (variable_bound y q e) x z)
      by u q z gr kz (is_var {i = m} l) = next u (bound_to y (variable m) e) z gr
          (binds_local f u e c xs y i (variable m) h.0
          (subst (λ b. Holds f u (f.sort i) b (Some (variable m))) (sym h.1) (holds_cell l)) (sees_more f gr see))
          (is_more f.up gr j) kz
