-- How a stretch of states goes beside its piece of code: the operations of a state that is met behind it pass.
use Rattle.std.proofs.Common.{◌≡◌, ℕ, suc, ◌-◌, ◌<◌, ◌≤◌, length, max, List, [], ◌∷◌, ◌++◌, Option, Some, None, ◌⊎◌, inl, inr}
use Rattle.std.proofs.Common.{Bool, true, refl, sym, ◌∙◌, subst, arith, le-leb}
use Rattle.std.specs.Prelude.{nat_le, slice_get}
use Rattle.std.proofs.lemmas.Bool.{leb-true}
use Rattle.std.proofs.Math.Nat.{le_trans, le-max_left, le-max_right}
use Rattle.verse_code.specs.declared.codes.Code.{Code}
use Rattle.verse_code.specs.declared.operations.Op.{Op}
use Rattle.verse_code.specs.declared.operations.Op.TheVariants as o
use Rattle.verse_verify_kept.specs.Notes.{Notes}
use Rattle.verse_verify_kept.specs.Rules.{Around, around_no, around_so, Asked, Ready}
use Rattle.lower_code.specs.Pieces.{Spot, Piece, Maker, behind, past, joined}
use Rattle.lower_code.proofs.Standing.{Tables, Stands, first_stands, rest_stands, behind_more, behind_least}
use Rattle.lower_notes.specs.States.{State}
use Rattle.lower_notes.specs.Stretches as n
use Rattle.lower_notes.specs.Stretches.{Stretch, Walk, deeper, is_left, with_value}
use Rattle.lower_notes.specs.Laws.{Beside}
use Rattle.lower_notes.proofs.Counted.{code_then, walk_then}
use Rattle.lower_pass_states.proofs.Points.{pt, Even, opened, names_of}
use Rattle.lower_pass_states.proofs.Meeting.{Meets, MeetsAt, Noted, AllSound, Stood, Held, entries}

-- The innermost loop: where it goes on, the state in which it began, and whether it may be left; and how many locals
-- the function has.
pub record Way : Type 0 where
  pub out : ℕ
  pub state : State
  pub may_leave : Bool
  pub size : ℕ

-- of a state, where there is one
abbrev pub If : Option State → (State → Type 0) → Type 0
If x P = (y : State) → x ≡ Some y → P y

abbrev pub itself : Option State → Option State
itself x = x

pub behind_same : {A B : Type 0} (xs : List A) (ys : List B) (i : ℕ) → length xs ≡ length ys → behind xs i ≡ behind ys i
behind_same [] [] i e = refl
behind_same [] (y ∷ ys) i e = absurd (cc)
behind_same (x ∷ xs) [] i e = absurd (cc)
behind_same (x ∷ xs) (y ∷ ys) i e = behind_same xs ys (suc i) (omega (arith, e))

-- ---- how deep a loop is left

most : (k a b : ℕ) → nat_le k a ≡ true → a ≤ b → nat_le k b ≡ true
most k a b h l = le-leb k b (le_trans (leb-true k a h) l)

pub left_first : (k : ℕ) (a b : Option ℕ) → is_left k a ≡ true → is_left k (deeper a b) ≡ true
left_first k None b h = absurd (cc)
left_first k (Some m) None h = h
left_first k (Some m) (Some j) h = most k m (max m j) h (le-max_left m j)

pub left_rest : (k : ℕ) (a b : Option ℕ) → is_left k b ≡ true → is_left k (deeper a b) ≡ true
left_rest k None b h = h
left_rest k (Some m) None h = absurd (cc)
left_rest k (Some m) (Some j) h = most k j (max m j) h (le-max_right m j)

pub left_either : (a b : Option ℕ) → is_left 0 (deeper a b) ≡ true → (is_left 0 a ≡ true) ⊎ (is_left 0 b ≡ true)
left_either None b h = inr h
left_either (Some m) None h = inl h
left_either (Some m) (Some j) h = inl (le-leb 0 m (omega arith))

module _ (code : Code) (notes : Notes) where
  abbrev pub tables : Tables
  tables = record { ops = code.ops; places = code.places; texts = code.texts }

  abbrev pub everywhere : ℕ → Bool
  everywhere i = true

  -- where the loop is left with operands above its own, that is met
  abbrev pub Leaves : Way → (deep : ℕ) → Option ℕ → Type 0
  Leaves w deep left = (m : ℕ) → m ≤ deep → is_left m left ≡ true → Meets code notes (n.above m w.state) (w.out - m)

  -- the piece stands in the code, and the states in the notes
  pub record Lies (w : Way) (s : Spot) (p : Piece) (r : Stretch) : Type 0 where
    pub stands : Stands tables everywhere w.out s p
    pub states : Noted code notes s.at r.states
    pub left : Leaves w r.deep r.left
    pub room : p.locals ≤ w.size

  -- a Try that is open from before the first index to the second
  pub record IsTry (t first behind : ℕ) : Type 0 where
    pub label : ℕ
    pub before : t < first
    pub beyond : behind ≤ label
    pub is_try : slice_get code.ops t ≡ Some (o.Try label)

  abbrev pub Within : List ℕ → (first behind : ℕ) → Type 0
  Within [] a b = Unit {0}
  Within (t ∷ ts) a b = IsTry t a b × Within ts a b

  pub within_less : (ts : List ℕ) {a b d e : ℕ} → Within ts a b → a ≤ d → e ≤ b → Within ts d e
  within_less [] h l k = tt
  within_less (t ∷ ts) h l k = (
    record {
      label = h.0.label;
      before = omega (arith, h.0.before, l);
      beyond = omega (arith, h.0.beyond, k);
      is_try = h.0.is_try;
    },
    within_less ts h.1 l k,
  )

  pub around_of : (ts : List ℕ) {i b : ℕ} → Within ts i b → i < b → Around code notes i ts
  around_of [] h l = around_no
  around_of (t ∷ ts) h l = around_so h.0.before (omega (arith, h.0.beyond, l)) h.0.is_try (around_of ts h.1 l)

  -- a state whose Trys are these, and whose deferred blocks are ready
  pub record Steady (ts : List ℕ) (x : State) : Type 0 where
    pub even : Even x
    pub names : opened x ≡ ts
    pub ready : Ready code notes (pt x) x.locals (entries x.defers)
    pub stood : Stood code notes ts x

  pub sound_of : {ts : List ℕ} {i b : ℕ} {op : Op} (x : State) → Steady ts x → Within ts i b → i < b →
      slice_get code.ops i ≡ Some op → Asked code notes i (pt x) op → Held code notes i x
  sound_of {ts} {i} {b} {op} x st w l is a = record {
    sound = record {
      around = subst (Around code notes i) (sym (names_of x ∙ st.names)) (around_of ts w l);
      ready = st.ready;
      op = op;
      is_op = is;
      passes = a;
    };
    even = st.even;
    stood = subst (λ ts. Stood code notes ts x) (sym st.names) st.stood;
  }

  -- The states at the operations of a stretch pass, where what stands behind it meets what is noted there; of the exit
  -- more is known.
  pub record Going (w : Way) (ts : List ℕ) (x : Option State) (f : Maker) (g : Walk) (k : Option State → Option State)
      (Q : State → Type 0) : Type 0 where
    pub leaves : (s : Spot) → Lies w s (f s) (g s.at x) → Within ts s.at (past s (f s)).at →
        is_left 0 (g s.at x).left ≡ true → w.may_leave ≡ true
    pub exits : (s : Spot) → Lies w s (f s) (g s.at x) → Within ts s.at (past s (f s)).at → If (g s.at x).exit Q
    pub goes : (s : Spot) → Lies w s (f s) (g s.at x) → Within ts s.at (past s (f s)).at →
        MeetsAt code notes (k (g s.at x).exit) (past s (f s)).at →
        MeetsAt code notes x s.at × AllSound code notes s.at (g s.at x).states

  -- where a Try has ended, what holds without it holds
  pub outside : {w : Way} {ts : List ℕ} {x : Option State} {f : Maker} {g : Walk} {k : Option State → Option State} {Q : State → Type 0}
      (i : ℕ) → Going w ts x f g k Q → Going w (i ∷ ts) x f g k Q
  outside i h = record {
    leaves = λ s l v e. h.leaves s l v.1 e;
    exits = λ s l v. h.exits s l v.1;
    goes = λ s l v m. h.goes s l v.1 m;
  }

  -- ---- lists of states

  pub noted_first : (xs ys : List (Option State)) (i : ℕ) → Noted code notes i (xs ++ ys) → Noted code notes i xs
  noted_first [] ys i h = tt
  noted_first (x ∷ xs) ys i h = (h.0, noted_first xs ys (suc i) h.1)

  pub noted_rest : (xs ys : List (Option State)) (i : ℕ) → Noted code notes i (xs ++ ys) → Noted code notes (behind xs i) ys
  noted_rest [] ys i h = h
  noted_rest (x ∷ xs) ys i h = noted_rest xs ys (suc i) h.1

  pub all_more : (xs ys : List (Option State)) (i : ℕ) → AllSound code notes i xs → AllSound code notes (behind xs i) ys →
      AllSound code notes i (xs ++ ys)
  all_more [] ys i a b = b
  all_more (x ∷ xs) ys i a b = (a.0, all_more xs ys (suc i) a.1 b)

  -- ---- one behind the other

  pub first_lies : {w : Way} {s : Spot} (p q : Piece) (r u : Stretch) → Lies w s (joined p q) (n.joined r u) → Lies w s p r
  first_lies {w} {s} p q r u l = record {
    stands = first_stands p q l.stands;
    states = noted_first r.states u.states s.at l.states;
    left = λ m d h. l.left m (le_trans d (le-max_left r.deep u.deep)) (left_first m r.left u.left h);
    room = le_trans (le-max_left p.locals q.locals) l.room;
  }

  pub rest_lies : {w : Way} {s : Spot} (p q : Piece) (r u : Stretch) → behind r.states s.at ≡ (past s p).at →
      Lies w s (joined p q) (n.joined r u) → Lies w (past s p) q u
  rest_lies {w} {s} p q r u e l = record {
    stands = rest_stands p q l.stands;
    states = subst (λ i. Noted code notes i u.states) e (noted_rest r.states u.states s.at l.states);
    left = λ m d h. l.left m (le_trans d (le-max_right r.deep u.deep)) (left_rest m r.left u.left h);
    room = le_trans (le-max_right p.locals q.locals) l.room;
  }

  past_at : (s : Spot) (p q : Piece) → (past s (joined p q)).at ≡ (past (past s p) q).at
  past_at s p q = behind_more p.items q.items s.at

  module _ {w : Way} {ts : List ℕ} {x : Option State} {f h : Maker} {g j : Walk} {k : Option State → Option State}
      {Q R : State → Type 0} (beside : Beside f g) (first : Going w ts x f g itself Q)
      (rest : (z : Option State) → If z Q → Going w ts z h j k R) where
    same : (s : Spot) → behind (g s.at x).states s.at ≡ (past s (f s)).at
    same s = behind_same (g s.at x).states (f s).items s.at (sym (beside.count s s.at x))

    abbrev two : Spot → Piece
    two s = h (past s (f s))

    abbrev into : Spot → ℕ → Stretch
    into s i = j i (g s.at x).exit

    abbrev both : Spot → Stretch
    both s = n.joined (g s.at x) (into s (behind (g s.at x).states s.at))

    abbrev whole : Spot → Piece
    whole s = joined (f s) (two s)

    now : (s : Spot) → Lies w s (whole s) (both s) → Lies w s (f s) (g s.at x)
    now s l = first_lies (f s) (two s) (g s.at x) (into s (behind (g s.at x).states s.at)) l

    then_lies : (s : Spot) → Lies w s (whole s) (both s) → Lies w (past s (f s)) (two s) (into s (past s (f s)).at)
    then_lies s l = subst (λ i. Lies w (past s (f s)) (two s) (into s i)) (same s)
        (rest_lies (f s) (two s) (g s.at x) (into s (behind (g s.at x).states s.at)) (same s) l)

    now_within : (s : Spot) → Within ts s.at (past s (whole s)).at → Within ts s.at (past s (f s)).at
    now_within s v = within_less ts v (omega arith)
        (subst (λ i. (past s (f s)).at ≤ i) (sym (past_at s (f s) (two s))) (behind_least (two s).items (past s (f s)).at))

    then_within : (s : Spot) → Within ts s.at (past s (whole s)).at → Within ts (past s (f s)).at (past (past s (f s)) (two s)).at
    then_within s v = subst (λ i. Within ts (past s (f s)).at i) (past_at s (f s) (two s))
        (within_less ts v (behind_least (f s).items s.at) (omega arith))

    here : (s : Spot) → Lies w s (whole s) (both s) → Within ts s.at (past s (whole s)).at → If (g s.at x).exit Q
    here s l v = first.exits s (now s l) (now_within s v)

    by_part : (s : Spot) → Lies w s (whole s) (both s) → Within ts s.at (past s (whole s)).at →
        (is_left 0 (g s.at x).left ≡ true) ⊎ (is_left 0 (into s (behind (g s.at x).states s.at)).left ≡ true) → w.may_leave ≡ true
    by_part s l v (inl e) = first.leaves s (now s l) (now_within s v) e
    by_part s l v (inr e) = (rest (g s.at x).exit (here s l v)).leaves (past s (f s)) (then_lies s l) (then_within s v)
        (subst (λ i. is_left 0 (into s i).left ≡ true) (same s) e)

    pub then_goes : Going w ts x (code_then f h) (walk_then g j) k R
    then_goes = record {
      leaves = λ s l v e. by_part s l v (left_either (g s.at x).left (into s (behind (g s.at x).states s.at)).left e);
      exits = λ s l v. subst (λ i. If (into s i).exit R) (sym (same s))
          ((rest (g s.at x).exit (here s l v)).exits (past s (f s)) (then_lies s l) (then_within s v));
      goes = λ s l v m.
          let e = past_at s (f s) (two s) in
          let m2 = subst (λ i. MeetsAt code notes (k (into s i).exit) (past s (whole s)).at) (same s) m in
          let r = (rest (g s.at x).exit (here s l v)).goes (past s (f s)) (then_lies s l) (then_within s v)
          (subst (λ i. MeetsAt code notes (k (into s (past s (f s)).at).exit) i) e m2) in
          let a = first.goes s (now s l) (now_within s v) r.0 in (
            a.0,
            all_more (g s.at x).states (into s (behind (g s.at x).states s.at)).states s.at a.1
                (subst (λ i. AllSound code notes (behind (g s.at x).states s.at) (into s i).states) (sym (same s))
                (subst (λ i. AllSound code notes i (into s (past s (f s)).at).states) (sym (same s)) r.1)),
          );
    }
