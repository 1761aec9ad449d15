-- An arm of its own: what is known in it, what leads there and what ends it; and `branch`.
use Rattle.std.proofs.Common.{◌≡◌, ℕ, suc, ◌+◌, ◌-◌, List, [], ◌∷◌, Option, Some, true, ◌⊎◌, inl, inr, refl, sym, subst}
use Rattle.std.proofs.Common.{arith}
use Rattle.std.specs.Prelude.{option_map}
use Rattle.std.proofs.lemmas.Option.{none-some}
use Rattle.verse_code.specs.declared.codes.Code.{Code}
use Rattle.verse_code.specs.declared.operations.Op.TheVariants as o
use Rattle.verse_names_tables.specs.Names.{Table}
use Rattle.verse_sorts.specs.Sorts as s
use Rattle.verse_sorts.specs.Sorts.{Sort, Fits}
use Rattle.verse_sorts.specs.Typing.{AllFit, fit_no, fit_so}
use Rattle.verse_sorts.proofs.Fitting.{fits_itself}
use Rattle.verse_sound_rules.specs.Found as rules
use Rattle.verse_sound_rules.specs.Found.{Allowed, armed}
use Rattle.verse_verify_kept.specs.Notes.{Notes, Open, parent_of}
use Rattle.verse_verify_kept.specs.Rules as r
use Rattle.verse_verify_kept.specs.Rules.{AnyNever, Arm, Asked, asked, no_local, MayWait, TriesFit, tries_no, keeps_all, quiet_no, ready_no}
use Rattle.lower_code.specs.Pieces as c
use Rattle.lower_code.specs.Pieces.{Spot, Maker}
use Rattle.lower_code.specs.declared.arounds.Around.{Around}
use Rattle.lower_code.specs.Arounds.{fresh}
use Rattle.lower_code.specs.Scopes.{Scope}
use Rattle.lower_notes.specs.States.{State, in_arm, gives}
use Rattle.lower_notes.specs.Stretches as n
use Rattle.lower_notes.specs.Stretches.{Walk, with_value}
use Rattle.lower_notes.specs.Laws.{Beside}
use Rattle.lower_notes.proofs.Counted.{code_then, walk_then}
use Rattle.lower_pass_states.proofs.Points.{pt, Even, over, gives_is}
use Rattle.lower_pass_states.proofs.Meeting.{Meets, no_value, leads_to, MeetsAt}
use Rattle.lower_pass_states.proofs.Steps.{goes_over}
use Rattle.lower_pass_stretches.proofs.Going.{Way, If, itself, Going, Steady, then_goes}
use Rattle.lower_pass_stretches.proofs.Single.{IsValue}
use Rattle.lower_pass_stretches.proofs.Combined.{ahead_goes, if_map}
use Rattle.lower_pass_stretches.proofs.Inside.{Inside, Blocks, blocks_before, steady_of}
use Rattle.lower_pass_forms.proofs.Finishing.{end_goes}

module _ (code : Code) (notes : Notes) where
  -- what is known in an arm: no loop of what stands round it may be left there
  pub inside_arm : {found : rules.Found} {w : Way} {ts : List ℕ} {al : Allowed} {xs : Table} {sc : Scope} {a : Around} {y : State} →
      al.waits ≡ true → (q : Sort) → Inside code notes found w ts al xs sc a y →
      Inside code notes found w [] (armed al) xs sc fresh (in_arm q y)
  inside_arm {y = y} waits q h = record {
    even = refl;
    names = refl;
    stood = record {
      tries = tt;
      lasts = λ r e. let m = h.waits waits in record { func = m.func; noted = m.is_func; waits = m.holds };
      within = λ e f. absurd (none-some e f);
    };
    blocks = subst (λ k. Blocks code notes (pt (in_arm q y)) [] k [] y.locals) (sym (none 0)) (blocks_before ready_no);
    count = no_more;
    order = (omega arith, omega arith);
    keeps = keeps_all refl;
    sees = h.sees;
    blank = h.blank;
    quiet = λ l k. quiet_no;
    room = h.room;
    fails = λ e. absurd (cc);
    waits = λ e. let g = h.waits waits in record { tries = refl; block = refl; func = g.func; is_func = g.is_func; holds = g.holds };
    returns = λ res e. absurd (none-some res e);
    breaks = λ e. absurd (cc);
  }
    where
      none : (k : ℕ) → k - k ≡ 0
      none k = omega arith

      no_more : 0 ≡ 0 + 0
      no_more = omega arith

  -- ---- what leads to an arm

  none_fit : {ys : List Sort} → AllFit (parent_of notes) [] ys → ys ≡ []
  none_fit fit_no = refl

  no_tries : {ys : List Open} → TriesFit code notes [] ys → ys ≡ []
  no_tries tries_no = refl

  -- an arm of what an operation asks
  pub arm_led : (q : Sort) (y : State) (i : ℕ) → Meets code notes (in_arm q y) i → Arm code notes (pt y) i q ⊎ AnyNever y.locals
  arm_led q y i (no_value h) = inr h
  arm_led q y i (leads_to l) = inl (record {
    point = l.point;
    live = l.live;
    func = l.kin.func;
    arm = sym l.kin.arm;
    locals = l.locals;
    stack = none_fit l.stack;
    tries = no_tries l.tries;
    block = sym l.kin.block;
    outer = sym l.kin.outer;
    under = sym l.kin.under;
    defers = sym l.defers;
  })

  pub branch_asked : (y : State) → Even y → MayWait code notes (pt y) → (q u : Sort) → Fits (parent_of notes) s.unit u → (i l : ℕ) →
      Meets code notes (in_arm q y) (suc i) → Meets code notes (over (u ∷ []) y) l → Asked code notes i (pt y) (o.Branch l)
  branch_asked y even waits q u fit i l a m = by_arm (arm_led q y (suc i) a)
    where
      by_arm : Arm code notes (pt y) (suc i) q ⊎ AnyNever y.locals → Asked code notes i (pt y) (o.Branch l)
      by_arm (inr h) = no_local h
      by_arm (inl k) = goes_over code notes y even [] (u ∷ []) (s.unit ∷ []) m (fit_so fit fit_no) (r.of_branch waits k)

  -- an arm ends with its value
  arm_end_asked : (q : Sort) (y : State) (i : ℕ) → Asked code notes i (pt (over (q ∷ []) (in_arm q y))) o.ArmEnd
  arm_end_asked q y i = asked (r.of_arm_end refl refl refl refl refl (fits_itself (parent_of notes) q))

  -- the code of an arm
  pub arm_goes : {w : Way} (x : Option State) {f : Maker} {g : Walk} (q : Sort) → Beside f g →
      If (option_map (in_arm q) x) (Steady code notes []) →
      Going code notes w [] (option_map (in_arm q) x) f g itself (IsValue code notes q (option_map (in_arm q) x)) →
      Going code notes w [] (option_map (in_arm q) x) (code_then f (c.one o.ArmEnd)) (walk_then g n.ends) itself (λ z. ⊥)
  arm_goes x q beside steady tree = then_goes code notes beside tree
      (λ z h. end_goes code notes (c.one o.ArmEnd) (λ s. o.ArmEnd) (λ s. refl) (q ∷ []) steady h
      (if_map code notes (λ y. (s : Spot) → Asked code notes s.at (pt (over (q ∷ []) y)) o.ArmEnd) (in_arm q) x
      (λ y e s. arm_end_asked q y s.at)))

module _ (found : rules.Found) (code : Code) (notes : Notes) (w : Way) (ts : List ℕ) (al : Allowed) (xs : Table) (sc : Scope) (a : Around)
    (x : Option State) (here : If x (Inside code notes found w ts al xs sc a)) (waits : al.waits ≡ true) where
  -- a state in an arm
  abbrev pub Armed : State → Type 0
  Armed z = Inside code notes found w [] (armed al) xs sc fresh z

  pub in_arms : (q : Sort) → If (option_map (in_arm q) x) Armed
  in_arms q = if_map code notes Armed (in_arm q) x (λ y e. inside_arm code notes waits q (here y e))

  -- the code of an arm, by that of its tree
  pub tree_arm : {f : Maker} {g : Walk} (q : Sort) → Beside f g →
      ((z : Option State) → If z Armed → Going code notes w [] z f g itself (IsValue code notes q z)) →
      Going code notes w [] (option_map (in_arm q) x) (code_then f (c.one o.ArmEnd)) (walk_then g n.ends) itself (λ z. ⊥)
  tree_arm q beside tree = arm_goes code notes x q beside (λ z e. steady_of code notes (in_arms q z e))
      (tree (option_map (in_arm q) x) (in_arms q))

  -- `branch`
  module _ (q qb : Sort) (fit : Fits (parent_of notes) s.unit q) {f : Maker} {g : Walk} (beside : Beside f g)
      (tree : (z : Option State) → If z Armed → Going code notes w [] z f g itself (IsValue code notes qb z)) where
    met_behind : (y : State) → x ≡ Some y → (j : ℕ) → MeetsAt code notes (with_value q x (Some (gives 0 q y))) j →
        Meets code notes (over (q ∷ []) y) j
    met_behind y e j m = subst (λ v. Meets code notes v j) (gives_is q y)
        (subst (λ v. MeetsAt code notes (option_map (gives 0 q) v) j) e m)

    pub branch_goes : Going code notes w ts x (c.ahead o.Branch (code_then f (c.one o.ArmEnd)))
        (n.ahead (n.always (in_arm qb)) (n.always (gives 0 q)) (walk_then g n.ends)) (with_value q x) (λ z. Unit {0})
    branch_goes = ahead_goes code notes (with_value q x) (λ z. Unit {0}) (n.always (in_arm qb)) (n.always (gives 0 q)) (λ i. []) o.Branch
        (λ i. Unit {0}) (λ s l. tt) (λ y e. steady_of code notes (here y e)) (λ i label b e l v. tt)
        (λ i u. tree_arm qb beside tree) (λ i z e j m. elim e [ ])
        (λ y e i j k m. branch_asked code notes y (here y e).even ((here y e).waits waits) qb q fit i j k (met_behind y e j m))
        (λ y e i u. tt)
