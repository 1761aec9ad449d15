-- What is kept of each state that is noted: its sorts are of a kind, its stack and what is open or
-- deferred are no more than so many, and where the code defers nothing there is nothing of blocks.
use Rattle.std.proofs.Common.{◌≡◌, ℕ, zero, suc, ◌+◌, ◌-◌, ◌≤◌, length, drop, List, [], ◌∷◌, Option, Some, None, Bool, true, refl}
use Rattle.std.proofs.Common.{ap, ◌∙◌, arith, length-append, length-drop}
use Rattle.std.specs.Prelude.{option_map, IfSome}
use Rattle.verse_sorts.specs.Sorts as s
use Rattle.verse_sorts.specs.Sorts.{Sort}
use Rattle.verse_verify_faults.specs.Spots.{Mark}
use Rattle.lower_bounds.proofs.Lists.{Each}
use Rattle.lower_notes.specs.States.{State, Deferred, Change, top, local_in, with_local, pops, gives, gets, puts, takes_domain}
use Rattle.lower_notes.specs.States.{takes_range, turns_with, tried, untried, indices, in_arm, in_block, deferred, locals_behind}
use Rattle.lower_notes.specs.States.{left_behind, left_with}
use Rattle.lower_notes.specs.Stretches.{anys, above}

-- the sorts that bytes can spell, whether the code defers nothing, and a function with so many
-- locals
pub record Kind : Type 1 where
  pub Good : Sort → Type 0
  pub sober : Bool
  pub func : ℕ
  pub locals : ℕ

-- the sorts that are none of a node
pub record Plain (w : Kind) : Type 0 where
  pub none : w.Good s.none
  pub any : w.Good s.any
  pub unit : w.Good s.unit
  pub nil : w.Good s.nil
  pub int : w.Good s.int
  pub logic : w.Good s.logic
  pub char : w.Good s.char
  pub span : w.Good s.span
  pub text : w.Good (s.list s.char)

-- ---- lists

each_drop : {A : Type 0} (P : A → Type 0) (n : ℕ) (xs : List A) → Each P xs → Each P (drop n xs)
each_drop P zero [] h = tt
each_drop P zero (x ∷ xs) h = h
each_drop P (suc n) [] h = tt
each_drop P (suc n) (x ∷ xs) h = each_drop P n xs h.1

drop_no : {A : Type 0} (n : ℕ) (xs : List A) → xs ≡ [] → drop n xs ≡ []
drop_no {A} n xs e = ap (drop n) e ∙ of_none n
  where
    of_none : (n : ℕ) → drop {A = A} n [] ≡ []
    of_none zero = refl
    of_none (suc n) = refl

with_many : (a : Sort) (l : ℕ) (ls : List Sort) → length (with_local l a ls) ≡ length ls
with_many a l [] = refl
with_many a zero (b ∷ ls) = refl
with_many a (suc l) (b ∷ ls) = ap suc (with_many a l ls)

indices_many : (ms : List Mark) → length (indices ms) ≡ length ms
indices_many [] = refl
indices_many (m ∷ ms) = ap suc (indices_many ms)

-- ---- sorts

module _ (P : Sort → Type 0) where
  top_good : P s.any → (st : List Sort) → Each P st → P (top st)
  top_good h [] k = h
  top_good h (a ∷ st) k = k.0

  local_good : P s.none → (ls : List Sort) (l : ℕ) → Each P ls → P (local_in ls l)
  local_good h [] l k = h
  local_good h (a ∷ ls) zero k = k.0
  local_good h (a ∷ ls) (suc l) k = local_good h ls l k.1

  -- so many sorts
  abbrev pub Locals : ℕ → List Sort → Type 0
  Locals n ls = (length ls ≡ n) × Each P ls

  with_good : {a : Sort} (l : ℕ) (ls : List Sort) → P a → Each P ls → Each P (with_local l a ls)
  with_good l [] h k = tt
  with_good zero (b ∷ ls) h k = (h, k.1)
  with_good (suc l) (b ∷ ls) h k = (k.0, with_good l ls h k.1)

  with_locals : {n : ℕ} {a : Sort} (l : ℕ) (ls : List Sort) → P a → Locals n ls → Locals n (with_local l a ls)
  with_locals {a = a} l ls h k = (with_many a l ls ∙ k.0, with_good l ls h k.1)

  anys_good : P s.any → (n : ℕ) (st : List Sort) → Each P st → Each P (anys n st)
  anys_good h zero st k = k
  anys_good h (suc n) st k = (h, anys_good h n st k)

  locals_left : {n : ℕ} (m : ℕ) (ds : List Deferred) (ls : List Sort) → Each (λ (d : Deferred). Locals n d.locals) ds → Locals n ls →
      Locals n (locals_behind m ds ls)
  locals_left zero ds ls h k = k
  locals_left (suc m) [] ls h k = k
  locals_left (suc m) (d ∷ ds) ls h k = locals_left m ds d.locals h.1 h.0

anys_many : (n : ℕ) (st : List Sort) → length (anys n st) ≡ n + length st
anys_many zero st = omega arith
anys_many (suc n) st = omega (arith, anys_many n st)

-- ---- states

-- nothing is deferred, and it stands in no deferred block
pub record HasNone (x : State) : Type 0 where
  pub block : x.block ≡ None
  pub outer : x.outer ≡ []
  pub under : x.under ≡ 0
  pub defers : x.defers ≡ []

module _ (w : Kind) where
  abbrev pub Behind : Deferred → Type 0
  Behind d = Locals w.Good w.locals d.locals

  -- no more than n operands, Trys and deferred blocks
  pub record Suited (n : ℕ) (x : State) : Type 0 where
    pub func : x.func ≡ w.func
    pub arm : IfSome x.arm w.Good
    pub locals : Locals w.Good w.locals x.locals
    pub operands : length x.stack ≤ n
    pub stack : Each w.Good x.stack
    pub tries : length x.tries + length x.outer ≤ n
    pub blocks : x.under + length x.defers ≤ n
    pub defers : Each Behind x.defers
    pub none : w.sober ≡ true → HasNone x

  abbrev pub SuitedAt : ℕ → Option State → Type 0
  SuitedAt n None = Unit {0}
  SuitedAt n (Some x) = Suited n x

  -- what keeps it, with one more
  abbrev pub Keeping : Change → Type 0
  Keeping h = (n : ℕ) (x : State) → Suited n x → Suited (suc n) (h x)

module _ {w : Kind} where
  pub suited_on : {n m : ℕ} → n ≤ m → (x : State) → Suited w n x → Suited w m x
  suited_on l x h = record {
    func = h.func;
    arm = h.arm;
    locals = h.locals;
    operands = omega (arith, l, h.operands);
    stack = h.stack;
    tries = omega (arith, l, h.tries);
    blocks = omega (arith, l, h.blocks);
    defers = h.defers;
    none = h.none;
  }

pub at_on : (w : Kind) {n m : ℕ} → n ≤ m → (x : Option State) → SuitedAt w n x → SuitedAt w m x
at_on w l None h = tt
at_on w l (Some x) h = suited_on l x h

module _ {w : Kind} where
  pub at_map : {n m : ℕ} (h : Change) → ((x : State) → Suited w n x → Suited w m (h x)) → (x : Option State) → SuitedAt w n x →
      SuitedAt w m (option_map h x)
  at_map h f None k = tt
  at_map h f (Some x) k = f x k

  -- other operands
  with_operands : {n m : ℕ} (x : State) (st : List Sort) → n ≤ m → length st ≤ m → Each w.Good st → Suited w n x →
      Suited w m (record x { stack = st })
  with_operands x st l k g h = record {
    func = h.func;
    arm = h.arm;
    locals = h.locals;
    operands = k;
    stack = g;
    tries = omega (arith, l, h.tries);
    blocks = omega (arith, l, h.blocks);
    defers = h.defers;
    none = λ e. let z = h.none e in record { block = z.block; outer = z.outer; under = z.under; defers = z.defers };
  }

  -- and other locals
  with_both : {n m : ℕ} (x : State) (st ls : List Sort) → n ≤ m → length st ≤ m → Each w.Good st → Locals w.Good w.locals ls →
      Suited w n x → Suited w m (record x { stack = st; locals = ls })
  with_both x st ls l k g j h = record {
    func = h.func;
    arm = h.arm;
    locals = j;
    operands = k;
    stack = g;
    tries = omega (arith, l, h.tries);
    blocks = omega (arith, l, h.blocks);
    defers = h.defers;
    none = λ e. let z = h.none e in record { block = z.block; outer = z.outer; under = z.under; defers = z.defers };
  }

  pub stays : Keeping w (λ x. x)
  stays n x h = suited_on (omega arith) x h

  pub popped : (k : ℕ) → Keeping w (pops k)
  popped k n x h = with_operands x (drop k x.stack) (omega arith) (omega (arith, length-drop k x.stack, h.operands))
      (each_drop w.Good k x.stack h.stack) h

  pub given : (k : ℕ) (a : Sort) → w.Good a → Keeping w (gives k a)
  given k a g n x h = with_operands x (a ∷ drop k x.stack) (omega arith) (omega (arith, length-drop k x.stack, h.operands))
      (g, each_drop w.Good k x.stack h.stack) h

  -- in the place of one operand
  pub given_one : (a : Sort) → w.Good a → (n : ℕ) → 1 ≤ n → (x : State) → Suited w n x → Suited w n (gives 1 a x)
  given_one a g n l x h = with_operands x (a ∷ drop 1 x.stack) (omega arith) (fewer x.stack h.operands)
      (g, each_drop w.Good 1 x.stack h.stack) h
    where
      fewer : (st : List Sort) → length st ≤ n → suc (length (drop 1 st)) ≤ n
      fewer [] h = omega (arith, l)
      fewer (b ∷ []) h = omega (arith, h)
      fewer (b ∷ d ∷ st) h = omega (arith, h)

  pub got : w.Good s.none → (l : ℕ) → Keeping w (gets l)
  got g l n x h = with_operands x (local_in x.locals l ∷ x.stack) (omega arith) (omega (arith, h.operands))
      (local_good w.Good g x.locals l h.locals.1, h.stack) h

  pub put : (l : ℕ) (a : Sort) → w.Good a → Keeping w (puts l a)
  put l a g n x h = with_both x (drop 1 x.stack) (with_local l a x.locals) (omega arith)
      (omega (arith, length-drop 1 x.stack, h.operands)) (each_drop w.Good 1 x.stack h.stack) (with_locals w.Good l x.locals g h.locals) h

  pub domain_taken : Plain w → (l : ℕ) → Keeping w (takes_domain l)
  domain_taken g l n x h = with_both x (drop 1 x.stack) (with_local (suc l) s.int (with_local l (top x.stack) x.locals)) (omega arith)
      (omega (arith, length-drop 1 x.stack, h.operands)) (each_drop w.Good 1 x.stack h.stack)
      (with_locals w.Good (suc l) (with_local l (top x.stack) x.locals) g.int
      (with_locals w.Good l x.locals (top_good w.Good g.any x.stack h.stack) h.locals)) h

  pub range_taken : Plain w → (l : ℕ) → Keeping w (takes_range l)
  range_taken g l n x h = with_both x (drop 2 x.stack) (with_local (suc l) s.int (with_local l s.span x.locals)) (omega arith)
      (omega (arith, length-drop 2 x.stack, h.operands)) (each_drop w.Good 2 x.stack h.stack)
      (with_locals w.Good (suc l) (with_local l s.span x.locals) g.int (with_locals w.Good l x.locals g.span h.locals)) h

  pub turned : (l : ℕ) (a b : Sort) → w.Good a → w.Good b → Keeping w (turns_with l a b)
  turned l a b g k n x h = with_both x x.stack (with_local (suc l) b (with_local l a x.locals)) (omega arith)
      (omega (arith, h.operands)) h.stack
      (with_locals w.Good (suc l) (with_local l a x.locals) k (with_locals w.Good l x.locals g h.locals)) h

  -- ---- Trys

  with_tries : {n : ℕ} (x : State) (ms : List Mark) → length ms ≤ suc (length x.tries) → Suited w n x →
      Suited w (suc n) (record x { tries = ms })
  with_tries x ms l h = record {
    func = h.func;
    arm = h.arm;
    locals = h.locals;
    operands = omega (arith, h.operands);
    stack = h.stack;
    tries = omega (arith, l, h.tries);
    blocks = omega (arith, h.blocks);
    defers = h.defers;
    none = λ e. let z = h.none e in record { block = z.block; outer = z.outer; under = z.under; defers = z.defers };
  }

  pub try_opened : (at : ℕ) → Keeping w (tried at)
  try_opened at n x h = with_tries x (record { index = at; height = length x.stack } ∷ x.tries) (omega arith) h

  pub try_closed : Keeping w untried
  try_closed n x h = with_tries x (drop 1 x.tries) (omega (arith, length-drop 1 x.tries)) h

  -- ---- arms and deferred blocks

  pub arm_begun : (a : Sort) → w.Good a → (n : ℕ) (x : State) → Suited w n x → Suited w n (in_arm a x)
  arm_begun a g n x h = record {
    func = h.func;
    arm = g;
    locals = h.locals;
    operands = omega arith;
    stack = tt;
    tries = omega arith;
    blocks = omega arith;
    defers = tt;
    none = λ e. record { block = refl; outer = refl; under = refl; defers = refl };
  }

  pub arm_started : (a : Sort) → w.Good a → Keeping w (in_arm a)
  arm_started a g n x h = suited_on (omega arith) (in_arm a x) (arm_begun a g n x h)

  pub block_begun : (w.sober ≡ true → ⊥) → (at : ℕ) → Keeping w (in_block at)
  block_begun never at n x h = record {
    func = h.func;
    arm = h.arm;
    locals = h.locals;
    operands = omega arith;
    stack = tt;
    tries = omega (arith, h.tries, indices_many x.tries, length-append (indices x.tries) x.outer);
    blocks = omega (arith, h.blocks);
    defers = tt;
    none = λ e. absurd (never e);
  }

  pub block_deferred : (w.sober ≡ true → ⊥) → (at : ℕ) → Keeping w (deferred at)
  block_deferred never at n x h = record {
    func = h.func;
    arm = h.arm;
    locals = h.locals;
    operands = omega (arith, h.operands);
    stack = h.stack;
    tries = omega (arith, h.tries);
    blocks = omega (arith, h.blocks);
    defers = (h.locals, h.defers);
    none = λ e. absurd (never e);
  }

  blocks_left : (m : ℕ) → Keeping w (left_behind m)
  blocks_left m n x h = record {
    func = h.func;
    arm = h.arm;
    locals = locals_left w.Good m x.defers x.locals h.defers h.locals;
    operands = omega (arith, h.operands);
    stack = h.stack;
    tries = omega (arith, h.tries);
    blocks = omega (arith, h.blocks, length-drop m x.defers);
    defers = each_drop (Behind w) m x.defers h.defers;
    none = λ e.
        let z = h.none e in
        record { block = z.block; outer = z.outer; under = z.under; defers = drop_no m x.defers z.defers };
  }

  pub blocks_run : (m : ℕ) → Keeping w (left_with m)
  blocks_run m n x h = blocks_left (x.under + length x.defers - m) n x h

  -- with n operands of a loop that is left above
  pub left_above : w.Good s.any → (k : ℕ) {n m : ℕ} → n + k ≤ m → (x : State) → Suited w n x → Suited w m (above k x)
  left_above g k l x h = with_operands x (anys k x.stack) (omega (arith, l)) (omega (arith, l, anys_many k x.stack, h.operands))
      (anys_good w.Good g k x.stack h.stack) h
