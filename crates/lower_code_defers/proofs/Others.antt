-- What stands for no tree of its own has no operation of a deferred block but what leaves it.
use Rattle.std.proofs.Common.{◌≡◌, ℕ, Bool, true, false, nat_lt, Option, Some, None, refl, sym}
use Rattle.std.proofs.Common.{true≢false}
use Rattle.std.proofs.Common.{arith}
use Rattle.verse_tree.specs.Tree.{Bytes, Tree, Givens}
use Rattle.verse_tree.specs.declared.tables.Ref.{Ref}
use Rattle.verse_code.specs.declared.operations.Op.{Op}
use Rattle.verse_code.specs.declared.operations.Op.TheVariants as o
use Rattle.verse_value.specs.Val.{Val}
use Rattle.verse_value.specs.declared.modes.Mode.{Mode}
use Rattle.verse_meaning.specs.Programs.{Program, fields_of}
use Rattle.verse_meaning.specs.Residuals as form
use Rattle.verse_meaning.specs.Residuals.{Form, Base, Binder, no_name, a_constant, a_variable}
use Rattle.lower_code.specs.declared.arounds.Around.{Around}
use Rattle.lower_code.specs.Pieces.{Maker, when_else}
use Rattle.lower_code.specs.Scopes.{Scope, this_found, read_this}
use Rattle.lower_code.specs.Arounds.{returning, breaking}
use Rattle.lower_code.specs.Applied.{finish, start, storing, mode_number}
use Rattle.lower_code.specs.Defaults.{default_number}
use Rattle.lower_code.specs.Lowering.{bind, named, base_code, form_fits, default_op, enum_op, field_ops}
use Rattle.lower_bounds.proofs.Lists.{each_of}
use Rattle.lower_bounds.proofs.Kept.{Kept, IsLow}
use Rattle.lower_bounds.proofs.Leaves.{FormFits, Calls, NoCall, fits_call, no_call, finish_kept, named_kept}
use Rattle.lower_bounds.proofs.Leaves.{read_this_kept}
use Rattle.lower_bounds.proofs.Leaves.{base_code_kept, start_kept, storing_kept, returning_kept, breaking_kept}
use Rattle.lower_bounds.proofs.Statements.{BinderFits, bind_kept, enum_op_kept, field_ops_kept}
use Rattle.lower_code_defers.specs.Counts.{begins, ends}
use Rattle.lower_code_defers.proofs.Counted.{IsOther, Has, so, both, none, just, at_place, text, away, jumps}
use Rattle.lower_code_defers.proofs.Counted.{sticks, if_so}
use Rattle.lower_code_defers.proofs.Counted.{leave, numbered, before, one_of, loops, turns, groups}

-- an operation with a code below 64
no_begin : (op : Op) → IsLow op → begins op ≡ 0
no_begin (o.Defer l) h = elim (true≢false (sym h)) [ ]
no_begin op h = refl

no_end : (op : Op) → IsLow op → ends op ≡ 0
no_end o.DeferEnd h = elim (true≢false (sym h)) [ ]
no_end op h = refl

pub other : (op : Op) → IsLow op → IsOther op
other op h = (no_begin op h, no_end op h)

module _ (p : Program) (differ : ℕ → ℕ → Bool) where
  calls_other : (d : Option Tree) (n : ℕ) → Has (default_op p differ d n) 0
  calls_other None n = sticks
  calls_other (Some b) n = just (o.Call (default_number p n)) (refl, refl)

  -- of makers, whatever is round them; no node is asked
  pub quiet : Kept p differ (λ v. ⊥) (λ a. Unit {0}) (λ k l h n f. Has f 0) (λ pl. Unit {0}) (λ bs. Unit {0}) ⊥
  quiet = record {
    wider = λ l h n x. x;
    over = λ d x y v w. so (omega arith) (both x y);
    lower = λ v w x. x;
    none = none;
    op = λ op b. just op (other op b.1);
    op_with = λ m op b. just op (other op b.1);
    stuck = sticks;
    when = if_so;
    object = λ n c pl e s. at_place pl (o.Object c) (λ m. (refl, refl));
    placed = λ pl op s b. at_place pl op (λ m. other (op m) (b m).1);
    numbering = λ pl f s x. numbered pl f x;
    texted = λ bs x. text bs;
    put_away = away _;
    leave_loop = jumps _;
    leaving = λ n a x. if_so (nat_lt n a.defers) (λ e. leave n 0);
    leave = λ n x. absurd x;
    deferred = λ d x. absurd d;
    ahead = λ op b x. before op (λ m. other (op m) (b m).1) x;
    either = λ op b x y. so (omega arith) (one_of op (λ m. other (op m) (b m).1) x y);
    looping = loops;
    turning = λ {k} {l} op b le x. turns op l (other op b.1) x;
    grouped = λ kind m pl at arms le s many between x. groups kind m pl at arms x;
    call = λ f n e. just (o.Call f) (refl, refl);
    spawn = λ f n e. just (o.Spawn f) (refl, refl);
    defaults = λ c. each_of (λ f k l h. calls_other f.default f.number) (fields_of p c);
    site = λ v g. tt;
    char = λ n pl c g. absurd g;
    char_pattern = λ n pl c g. absurd g;
    text = λ n pl bs g. tt;
    text_pattern = λ n pl bs g. tt;
    first_piece = λ n pl bs hs g. tt;
    pieces = λ n pl bs hs g. absurd g;
    sleep = λ n pl d g. absurd g;
    defer = λ n pl b g. g;
    fresh = tt;
    up = λ a x. tt;
    looped = λ a x. tt;
    enclosed = λ a x. tt;
    deferring = λ a d x. tt;
  }

  -- ---- forms that are applied

  fits_all : (x : Form) → FormFits quiet x
  fits_all (form.computing x b pl) = tt
  fits_all x = tt

  pub finishes : (x : Form) (n : ℕ) (fits : Bool) → Calls quiet x n fits → Has (finish x n fits) 0
  finishes x n fits c = finish_kept quiet {k = 0} {l = 0} {h = 0} x n fits (fits_all x) c

  pub finishes_alone : (x : Form) (n : ℕ) (sc : Scope) → Has (finish x n (form_fits p differ x n sc)) 0
  finishes_alone x n sc = finishes x n (form_fits p differ x n sc) (fits_call quiet x n sc)

  pub finishes_so : (x : Form) (n : ℕ) → NoCall quiet x → Has (finish x n true) 0
  finishes_so x n h = finishes x n true (no_call quiet x n true h)

  pub starts : (x : Form) (sc : Scope) → Has (start x sc) 0
  starts x sc = start_kept quiet {k = 0} {l = 0} {h = 0} x sc

  -- ---- names and members

  pub reads_name : (r : Option Ref) (x : Bytes) (sc : Scope) → Has (named p differ r x sc) 0
  reads_name r x sc = named_kept quiet {k = 0} {l = 0} {h = 0} r x sc

  pub reads_this : (sc : Scope) → Has (read_this (this_found sc)) 0
  reads_this sc = read_this_kept quiet {k = 0} {l = 0} {h = 0} (this_found sc)

  pub enum_other : (w : Val) → Has (enum_op w) 0
  enum_other w = enum_op_kept quiet {k = 0} {l = 0} {h = 0} w

  -- ---- what is written to a place

  pub base_reads : (b : Base) (sc : Scope) → Has (base_code p differ b sc) 0
  base_reads b sc = base_code_kept quiet {k = 0} {l = 0} {h = 0} b sc

  pub stores : (md : Mode) (s n m : ℕ) (b : Bool) (l : ℕ) → Has (storing (o.Store s n (mode_number md) m) b l) 0
  stores md s n m b l = storing_kept quiet {l = l} {h = 0} md s n m b

  pub else_stuck : {f : Maker} (b : Bool) → Has f 0 → Has (when_else b f) 0
  else_stuck true x = x
  else_stuck false x = sticks

  -- ---- what leaves a function or a loop, and what defines

  pub returns : (a : Around) → Has (returning a) 0
  returns a = returning_kept quiet {k = 0} {l = 0} {h = 0} a tt

  pub breaks : (a : Around) → Has (breaking a) 0
  breaks a = breaking_kept quiet {k = 0} {l = 0} a tt

  binder_fits : (b : Binder) → BinderFits quiet b
  binder_fits no_name = tt
  binder_fits (a_constant x) = tt
  binder_fits (a_variable x pl) = tt

  pub binds : (b : Binder) (l : ℕ) → Has (bind b l) 0
  binds b l = bind_kept quiet {k = 0} {l = l} {h = 0} b (binder_fits b)

  -- ---- the fields of an instance

  pub fields_other : (c : ℕ) (gs : Givens) (l : ℕ) → Has (field_ops p differ (fields_of p c) gs l) 0
  fields_other c gs l = field_ops_kept quiet {k = 0} {l = l} {h = 0} (fields_of p c) gs l (quiet.defaults c)
