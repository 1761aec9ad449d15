-- Where a state leads: to what is noted at an index.
use Rattle.std.proofs.Common.{◌≡◌, ℕ, suc, map, List, [], ◌∷◌, Option, Some, None, cond, true, refl, sym, ◌∙◌, subst, ap}
use Rattle.std.proofs.lemmas.Option.{none-some}
use Rattle.verse_code.specs.declared.operations.Op.TheVariants as o
use Rattle.std.specs.Prelude.{option_map, slice_get}
use Rattle.verse_code.specs.declared.codes.Code.{Code}
use Rattle.verse_sorts.specs.Sorts as s
use Rattle.verse_sorts.specs.Sorts.{Sort, Fits, from_never}
use Rattle.verse_sorts.specs.Typing.{AllFit, fit_no, fit_so}
use Rattle.verse_sorts.proofs.Fitting.{all_itself, all_fit_on}
use Rattle.verse_verify_kept.specs.Notes.{FuncNote, Notes, Point, parent_of, point_at, live}
use Rattle.verse_verify_kept.specs.Rules.{AnyNever, first_never, later_never, Leads, Sound, TriesFit}
use Rattle.verse_verify_kept.proofs.Places.{kin_itself, kin_on, tries_itself, tries_on}
use Rattle.verse_verify_faults.specs.Spots.{above, opens, point_of}
use Rattle.verse_verify_faults.proofs.Cutting.{above_fit, opens_fit}
use Rattle.lower_notes.specs.States.{State, Deferred, spot_of}
use Rattle.lower_pass_states.proofs.Points.{pt, Even, opened}

abbrev pub entries : List Deferred → List ℕ
entries ds = map (λ (d : Deferred). d.entry) ds

-- what fits what no value is of, is of none
never_below : (up : ℕ → Option ℕ) {a : Sort} → Fits up a s.never → a ≡ s.never
never_below up from_never = refl

pub never_fits : (up : ℕ → Option ℕ) {xs ys : List Sort} → AllFit up xs ys → AnyNever ys → AnyNever xs
never_fits up fit_no h = elim h [ ]
never_fits up (fit_so {xs = xs} f r) first_never = subst (λ a. AnyNever (a ∷ xs)) (sym (never_below up f)) first_never
never_fits up (fit_so f r) (later_never h) = later_never (never_fits up r h)

module _ (c : Code) (n : Notes) where
  abbrev pub Each : List Sort → List Sort → Type 0
  Each = AllFit (parent_of n)

  abbrev pub LeadsTo : State → ℕ → Type 0
  LeadsTo x i = Leads c n (pt x) x.locals (pt x).stack (pt x).tries (entries x.defers) i

  -- no run comes to a state in which a local has no value, so nothing is asked of it
  pub data Meets (x : State) (i : ℕ) : Type 0 where
    no_value : AnyNever x.locals → Meets x i
    leads_to : LeadsTo x i → Meets x i

  abbrev pub MeetsAt : Option State → ℕ → Type 0
  MeetsAt None i = Unit {0}
  MeetsAt (Some x) i = Meets x i

  -- one state is another with wider sorts
  pub record Below (x y : State) : Type 0 where
    pub func : x.func ≡ y.func
    pub arm : x.arm ≡ y.arm
    pub block : x.block ≡ y.block
    pub outer : x.outer ≡ y.outer
    pub under : x.under ≡ y.under
    pub tries : x.tries ≡ y.tries
    pub locals : Each x.locals y.locals
    pub stack : Each x.stack y.stack
    pub defers : entries x.defers ≡ entries y.defers

  pub below_itself : (x : State) → Below x x
  below_itself x = record {
    func = refl;
    arm = refl;
    block = refl;
    outer = refl;
    under = refl;
    tries = refl;
    locals = all_itself (parent_of n) x.locals;
    stack = all_itself (parent_of n) x.stack;
    defers = refl;
  }

  pub meets_below : {x y : State} {i : ℕ} → Below x y → Meets y i → Meets x i
  meets_below b (no_value h) = no_value (never_fits (parent_of n) b.locals h)
  meets_below {x} {y} {i} b (leads_to l) = leads_to (record {
    point = l.point;
    live = l.live;
    kin = kin_on (record { func = b.func; arm = b.arm; block = b.block; outer = b.outer; under = b.under }) l.kin;
    locals = all_fit_on (parent_of n) b.locals l.locals;
    stack = all_fit_on (parent_of n) (subst (λ ms. Each (above x.stack ms) (above y.stack y.tries)) (sym b.tries)
        (above_fit (parent_of n) y.tries b.stack)) l.stack;
    tries = tries_on c n (subst (λ ms. TriesFit c n (opens x.stack ms) (opens y.stack y.tries)) (sym b.tries)
        (opens_fit c n y.tries x.stack y.stack b.stack)) l.tries;
    defers = b.defers ∙ l.defers;
  })

  -- states are noted from an index on
  abbrev pub Noted : ℕ → List (Option State) → Type 0
  Noted i [] = Unit {0}
  Noted i (x ∷ xs) = (slice_get n.points i ≡ Some (point_of (option_map spot_of x))) × Noted (suc i) xs

  -- a Try that is reached, and so is its label
  pub record Opened (t : ℕ) : Type 0 where
    pub label : ℕ
    pub is_try : slice_get c.ops t ≡ Some (o.Try label)
    pub here : (q : Point) × (point_at n t ≡ Some q)
    pub there : (q : Point) × (point_at n label ≡ Some q)

  abbrev pub AllOpened : List ℕ → Type 0
  AllOpened [] = Unit {0}
  AllOpened (t ∷ ts) = Opened t × AllOpened ts

  -- a function whose task may wait
  pub record Lasting (k : ℕ) : Type 0 where
    pub func : FuncNote
    pub noted : slice_get n.functions k ≡ Some func
    pub waits : func.may_wait ≡ true

  -- in the deferred block e, whose first operation is noted
  pub record InBlock (e func : ℕ) (arm : Option Sort) (outer : List ℕ) (under : ℕ) : Type 0 where
    pub point : Point
    pub live : point_at n e ≡ Some point
    pub same_func : func ≡ point.func
    pub same_arm : arm ≡ point.arm
    pub block : point.block ≡ Some e
    pub same_outer : outer ≡ point.outer
    pub same_under : under ≡ point.under
    pub stack : point.stack ≡ []
    pub tries : point.tries ≡ []
    pub defers : point.defers ≡ []

  -- where a state stands: with these Trys open, in an arm, in a deferred block
  pub record Ground (ts : List ℕ) (func : ℕ) (arm : Option Sort) (block : Option ℕ) (outer : List ℕ) (under : ℕ) : Type 0 where
    pub tries : AllOpened ts
    pub lasts : (r : Sort) → arm ≡ Some r → Lasting func
    pub within : (e : ℕ) → block ≡ Some e → InBlock e func arm outer under

  abbrev pub Stood : List ℕ → State → Type 0
  Stood ts x = Ground ts x.func x.arm x.block x.outer x.under

  pub stands_bare : (func : ℕ) (outer : List ℕ) (under : ℕ) → Ground [] func None None outer under
  stands_bare func outer under = record {
    tries = tt;
    lasts = λ r e. absurd (none-some r e);
    within = λ e f. absurd (none-some e f);
  }

  -- a state that fulfils the rules, its heights, and where it stands
  pub record Held (i : ℕ) (x : State) : Type 0 where
    pub sound : Sound c n i (pt x)
    pub even : Even x
    pub stood : Stood (opened x) x

  abbrev pub SoundAt : ℕ → Option State → Type 0
  SoundAt i None = Unit {0}
  SoundAt i (Some x) = Held i x

  -- what is noted at each operation from an index on fulfils the rules
  abbrev pub AllSound : ℕ → List (Option State) → Type 0
  AllSound i [] = Unit {0}
  AllSound i (x ∷ xs) = SoundAt i x × AllSound (suc i) xs

  pub noted_point : (x : State) (i : ℕ) → Even x → slice_get n.points i ≡ Some (point_of (option_map spot_of (Some x))) →
      point_at n i ≡ Some (pt x)
  noted_point x i e h = ap live h ∙ ap (λ b. cond b (Some (pt x)) None) e

  -- a state that is noted is met
  pub leads_itself : (x : State) (i : ℕ) → Even x → slice_get n.points i ≡ Some (point_of (option_map spot_of (Some x))) →
      LeadsTo x i
  leads_itself x i e h = record {
    point = pt x;
    live = noted_point x i e h;
    kin = kin_itself (pt x);
    locals = all_itself (parent_of n) x.locals;
    stack = all_itself (parent_of n) (pt x).stack;
    tries = tries_itself c n (pt x).tries;
    defers = refl;
  }
