-- What is kept by the parts of the code that stand for no tree of their own.
use Rattle.std.proofs.Common.{◌≡◌, ℕ, zero, suc, ◌+◌, ◌≤◌, Bool, true, false, Option, Some, refl, arith}
use Rattle.verse_base.specs.declared.places.Place.{Place}
use Rattle.verse_tree.specs.Tree.{Bytes}
use Rattle.verse_tree.specs.PostOrder.{Node}
use Rattle.verse_tree.specs.declared.exprs.Comparison.{Comparison}
use Rattle.verse_tree.specs.declared.exprs.Comparison.TheVariants as c
use Rattle.verse_tree.specs.declared.exprs.Operator.{Operator}
use Rattle.verse_tree.specs.declared.exprs.Operator.TheVariants as op
use Rattle.verse_tree.specs.declared.tables.Ref.{Ref}
use Rattle.verse_tree.specs.declared.tables.Ref.TheVariants as ref
use Rattle.verse_code.specs.declared.operations.Op.TheVariants as o
use Rattle.verse_value.specs.declared.modes.Mode.{Mode}
use Rattle.verse_value.specs.declared.modes.Mode.TheVariants as mode
use Rattle.verse_meaning.specs.Programs.{Program, fun_at}
use Rattle.verse_meaning.specs.Forms.{place_in}
use Rattle.verse_meaning.specs.Residuals as form
use Rattle.verse_meaning.specs.Residuals.{Form, Base, in_variable, in_self, in_object, nowhere, Binder, no_name, a_constant, a_variable}
use Rattle.verse_meaning.specs.Residuals.{Generator, of_elements, of_entries, of_range}
use Rattle.lower_code.specs.declared.arounds.Around.{Around}
use Rattle.lower_code.specs.Pieces.{Maker, one, when_else, kept, ◌then◌}
use Rattle.lower_code.specs.Scopes.{Scope, Found, fixed, varies, absent, this_found, push_fixed, push_varies, read_found, read_this}
use Rattle.lower_code.specs.Scopes.{field_of_this, find}
use Rattle.lower_code.specs.Arounds.{returning, breaking}
use Rattle.lower_code.specs.Applied.{computing, comparing, awaiting, dropping, with_one, with_two, indexing, signalling, finish}
use Rattle.lower_code.specs.Applied.{start, started}
use Rattle.lower_code.specs.Applied.{storing, mode_number}
use Rattle.lower_code.specs.Lowering.{takes_params, form_fits}
use Rattle.lower_code.specs.Lowering.{base_code}
use Rattle.lower_code.specs.Lowering.{named}
use Rattle.lower_bounds.proofs.Kept.{Kept, Placed}

module _ {p : Program} {differ : ℕ → ℕ → Bool} {Good : Node → Type 0} {Plain : Around → Type 0} {Q : (k l h n : ℕ) → Maker → Type 0}
    {Site : Place → Type 0} {Piece : Bytes → Type 0} {Defers : Type 0} (q : Kept p differ Good Plain Q Site Piece Defers) where
  pub more : {k l h n m : ℕ} {f : Maker} → n ≤ m → Q k l h n f → Q k l h m f
  more le x = q.wider (omega arith) (omega arith) le x

  -- above no operands, and so above any
  pub ground : {k l h n : ℕ} {f : Maker} → Q k l 0 n f → Q k l h n f
  ground x = q.wider (omega arith) (omega arith) (omega arith) x

  pub and : {k l h n m : ℕ} {f g : Maker} → Q k l h n f → Q k l h m g → Q k l h (n + m) (f then g)
  and x y = more (omega arith) (q.over 0 x y (omega arith) (omega arith))

  pub when_else_kept : {k l h n : ℕ} {f : Maker} (b : Bool) → (b ≡ true → Q k l h n f) → Q k l h (suc n) (when_else b f)
  when_else_kept true x = more (omega arith) (x refl)
  when_else_kept false x = more (omega arith) q.stuck

  pub dropping_kept : {k l h m : ℕ} {f : Maker} (n : ℕ) → Q k l h m f → Q k l h (n + m) (dropping n f)
  dropping_kept zero x = more (omega arith) x
  dropping_kept (suc n) x = more (omega arith) (and (q.op o.Drop ((λ z at. refl), refl)) (dropping_kept n x))

  pub with_one_kept : {k l h m : ℕ} {f : Maker} (n : ℕ) → Q k l h m f → Q k l h (suc m) (with_one n f)
  with_one_kept zero x = more (omega arith) q.stuck
  with_one_kept (suc zero) x = more (omega arith) x
  with_one_kept (suc (suc n)) x = more (omega arith) q.stuck

  pub with_two_kept : {k l h m : ℕ} {f : Maker} (n : ℕ) → Q k l h m f → Q k l h (suc m) (with_two n f)
  with_two_kept zero x = more (omega arith) q.stuck
  with_two_kept (suc zero) x = more (omega arith) q.stuck
  with_two_kept (suc (suc zero)) x = more (omega arith) x
  with_two_kept (suc (suc (suc n))) x = more (omega arith) q.stuck

  pub computing_kept : {k l h : ℕ} (x : Operator) (pl : Place) (b : Bool) → Site pl → Q k l h 1 (computing x pl b)
  computing_kept op.Add pl true s = q.placed pl o.Concat s (λ m. ((λ z at e. e), refl))
  computing_kept op.Add pl false s = q.placed pl o.Add s (λ m. ((λ z at e. e), refl))
  computing_kept op.Sub pl b s = q.placed pl o.Sub s (λ m. ((λ z at e. e), refl))
  computing_kept op.Mul pl b s = q.placed pl o.Mul s (λ m. ((λ z at e. e), refl))
  computing_kept op.And pl b s = more (omega arith) q.none
  computing_kept op.Or pl b s = q.stuck
  computing_kept op.Div pl b s = q.stuck

  pub comparing_kept : {k l h : ℕ} (x : Comparison) → Q k l h 1 (one (comparing x))
  comparing_kept c.Equal = q.op o.Eq ((λ z at. refl), refl)
  comparing_kept c.Differs = q.op o.Ne ((λ z at. refl), refl)
  comparing_kept c.Below = q.op o.Lt ((λ z at. refl), refl)
  comparing_kept c.AtMost = q.op o.Le ((λ z at. refl), refl)
  comparing_kept c.Above = q.op o.Gt ((λ z at. refl), refl)
  comparing_kept c.AtLeast = q.op o.Ge ((λ z at. refl), refl)

  pub awaiting_kept : {k l h : ℕ} (b : Bool) → Q k l h 1 (one (awaiting b))
  awaiting_kept true = q.op o.AwaitEvent ((λ z at. refl), refl)
  awaiting_kept false = q.op o.AwaitTask ((λ z at. refl), refl)

  indexing_kept : {k l h : ℕ} (n : ℕ) → Q k l h (n + 2) (indexing n)
  indexing_kept zero = more (omega arith) q.none
  indexing_kept (suc n) = more (omega arith) (dropping_kept n (q.op o.At ((λ z at. refl), refl)))

  signalling_kept : {k l h : ℕ} (n : ℕ) → Q k l h (n + 2) (signalling n)
  signalling_kept zero = more (omega arith) (and (q.op o.Unit ((λ z at. refl), refl)) (q.op o.Signal ((λ z at. refl), refl)))
  signalling_kept (suc n) = more (omega arith) (dropping_kept n (q.op o.Signal ((λ z at. refl), refl)))

  -- the places of a form
  abbrev pub FormFits : Form → Type 0
  FormFits (form.computing x b pl) = Site pl
  FormFits (form.negating pl) = Site pl
  FormFits (form.making_tuple pl) = Site pl
  FormFits (form.making_array pl) = Site pl
  FormFits (form.making_map pl) = Site pl
  FormFits (form.joining xs pl) = Site pl
  FormFits (form.printing pl) = Site pl
  FormFits (form.flooring pl) = Site pl
  FormFits (form.ceiling pl) = Site pl
  FormFits f = Unit {0}

  -- what is called by its number is there
  abbrev pub Calls : Form → ℕ → Bool → Type 0
  Calls (form.calling f) n fits = fits ≡ true → takes_params p differ (fun_at p f) n ≡ true
  Calls (form.spawning f) n fits = fits ≡ true → takes_params p differ (fun_at p f) n ≡ true
  Calls f n fits = Unit {0}

  abbrev pub NoCall : Form → Type 0
  NoCall (form.calling f) = ⊥
  NoCall (form.spawning f) = ⊥
  NoCall f = Unit {0}

  pub no_call : (f : Form) (n : ℕ) (fits : Bool) → NoCall f → Calls f n fits
  no_call (form.calling f) n fits h = elim h [ ]
  no_call (form.spawning f) n fits h = elim h [ ]
  no_call f n fits h = tt

  pub fits_call : (f : Form) (n : ℕ) (sc : Scope) → Calls f n (form_fits p differ f n sc)
  fits_call (form.calling f) n sc = λ e. e
  fits_call (form.spawning f) n sc = λ e. e
  fits_call f n sc = tt

  -- how many of its operands may fall away
  abbrev pub dropped : Form → ℕ → ℕ
  dropped form.indexing n = n
  dropped (form.awaiting b) n = n
  dropped form.signalling n = n
  dropped f n = 0

  pub dropped_few : (f : Form) (n : ℕ) → dropped f n ≤ n
  dropped_few form.indexing n = omega arith
  dropped_few (form.awaiting b) n = omega arith
  dropped_few form.signalling n = omega arith
  dropped_few f n = omega arith

  pub finish_kept : {k l h : ℕ} (f : Form) (n : ℕ) (fits : Bool) → FormFits f → Calls f n fits →
      Q k l h (dropped f n + 2) (finish f n fits)
  finish_kept (form.computing x b pl) n fits s e = with_two_kept n (computing_kept x pl b s)
  finish_kept (form.comparing x) n fits s e = with_two_kept n (comparing_kept x)
  finish_kept (form.negating pl) n fits s e = with_one_kept n (q.placed pl o.Neg s (λ m. ((λ z at e. e), refl)))
  finish_kept form.querying n fits s e = with_one_kept n (q.op o.Query ((λ z at. refl), refl))
  finish_kept (form.reading k) n fits s e = with_one_kept n (q.op (o.Load k) ((λ z at. refl), refl))
  finish_kept form.measuring n fits s e = with_one_kept n (q.op o.Length ((λ z at. refl), refl))
  finish_kept (form.making_tuple pl) n fits s e = more (omega arith) (q.placed pl (o.Tuple n) s (λ m. ((λ z at e. e), refl)))
  finish_kept (form.making_array pl) n fits s e = more (omega arith) (q.placed pl (o.Array n) s (λ m. ((λ z at e. e), refl)))
  finish_kept (form.making_map pl) n fits s e = more (omega arith) (q.placed pl (o.Map n) s (λ m. ((λ z at e. e), refl)))
  finish_kept (form.joining xs pl) n fits s e = more (omega arith) (q.placed pl (o.Join n) s (λ m. ((λ z at e. e), refl)))
  finish_kept (form.picking i) n fits s e = more (omega arith) (q.op (o.Item (place_in i)) ((λ z at. refl), refl))
  finish_kept form.indexing n fits s e = indexing_kept n
  finish_kept (form.calling f) n fits s e = when_else_kept fits (λ is. q.call f n (e is))
  finish_kept (form.calling_own m) n fits s e = when_else_kept fits (λ is. q.op (o.Method m n) ((λ z at. refl), refl))
  finish_kept (form.calling_method m) n fits s e = more (omega arith) (q.op (o.Method m n) ((λ z at. refl), refl))
  finish_kept (form.printing pl) n fits s e = with_one_kept n (q.placed pl o.Print s (λ m. ((λ z at e. e), refl)))
  finish_kept (form.flooring pl) n fits s e = with_two_kept n (q.placed pl o.Floor s (λ m. ((λ z at e. e), refl)))
  finish_kept (form.ceiling pl) n fits s e = with_two_kept n (q.placed pl o.Ceil s (λ m. ((λ z at e. e), refl)))
  finish_kept form.taking_modulo n fits s e = with_two_kept n (q.op o.Mod ((λ z at. refl), refl))
  finish_kept (form.awaiting b) n fits s e = more (omega arith) (dropping_kept n (awaiting_kept b))
  finish_kept form.signalling n fits s e = signalling_kept n
  finish_kept (form.spawning f) n fits s e = when_else_kept fits (λ is. q.spawn f n (e is))
  finish_kept (form.spawning_own m) n fits s e = when_else_kept fits (λ is. q.op (o.SpawnMethod m n) ((λ z at. refl), refl))
  finish_kept (form.spawning_method m) n fits s e = more (omega arith) (q.op (o.SpawnMethod m n) ((λ z at. refl), refl))
  finish_kept (form.storing base mode pl) n fits s e = more (omega arith) q.stuck
  finish_kept (form.instancing class xs pl) n fits s e = more (omega arith) q.stuck
  finish_kept form.defining n fits s e = more (omega arith) q.none
  finish_kept (form.varying pl) n fits s e = more (omega arith) q.stuck
  finish_kept form.returning n fits s e = with_one_kept n (q.op o.Return ((λ z at. refl), refl))
  finish_kept (form.choosing ts) n fits s e = more (omega arith) q.stuck
  finish_kept (form.appending v pl) n fits s e = more (omega arith) q.stuck

  -- locals
  pub get : {k l h : ℕ} (x : ℕ) → Q k l h 1 (one (o.Get x))
  get x = q.op (o.Get x) ((λ z at. refl), refl)

  pub load : {k l h : ℕ} (x : ℕ) → Q k l h 1 (one (o.Load x))
  load x = q.op (o.Load x) ((λ z at. refl), refl)

  pub unit : {k l h : ℕ} → Q k l h 1 (one o.Unit)
  unit = q.op o.Unit ((λ z at. refl), refl)

  pub drop : {k l h : ℕ} → Q k l h 1 (one o.Drop)
  drop = q.op o.Drop ((λ z at. refl), refl)

  pub commit : {k l h : ℕ} → Q k l h 1 (one o.Commit)
  commit = q.op o.Commit ((λ z at. refl), refl)

  pub push_fixed_kept : {k l h : ℕ} (x : Found) → Q k l h 1 (push_fixed x)
  push_fixed_kept (fixed x) = get x
  push_fixed_kept (varies x) = unit
  push_fixed_kept absent = unit

  pub push_varies_kept : {k l h : ℕ} (x : Found) → Q k l h 1 (push_varies x)
  push_varies_kept (fixed x) = unit
  push_varies_kept (varies x) = get x
  push_varies_kept absent = unit

  pub read_found_kept : {k l h : ℕ} (x : Found) → Q k l h 2 (read_found x)
  read_found_kept (fixed x) = more (omega arith) (get x)
  read_found_kept (varies x) = and (get x) (load 0)
  read_found_kept absent = more (omega arith) q.stuck

  pub read_this_kept : {k l h : ℕ} (x : Found) → Q k l h 1 (read_this x)
  read_this_kept (fixed x) = get x
  read_this_kept (varies x) = q.stuck
  read_this_kept absent = q.stuck

  pub field_of_this_kept : {k l h : ℕ} (x : Found) (n : ℕ) → Q k l h 2 (field_of_this x n)
  field_of_this_kept (fixed x) n = and (get x) (load n)
  field_of_this_kept (varies x) n = more (omega arith) q.stuck
  field_of_this_kept absent n = more (omega arith) q.stuck

  pub named_kept : {k l h : ℕ} (r : Option Ref) (x : Bytes) (sc : Scope) → Q k l h 2 (named p differ r x sc)
  unfolding named
  named_kept (Some (ref.Field i n)) x sc = field_of_this_kept (this_found sc) n
  named_kept r x sc = read_found_kept (find x sc)

  pub base_code_kept : {k l h : ℕ} (b : Base) (sc : Scope) → Q k l h 1 (base_code p differ b sc)
  base_code_kept (in_variable x) sc = push_varies_kept (find x sc)
  base_code_kept (in_self n) sc = push_fixed_kept (this_found sc)
  base_code_kept (in_object n) sc = unit
  base_code_kept nowhere sc = unit

  pub kept_kept : {k l h : ℕ} → Q k l h 2 (kept l)
  kept_kept = and q.put_away (get _)

  pub start_kept : {k l h : ℕ} (f : Form) (sc : Scope) → Q k l h 1 (start f sc)
  start_kept (form.calling_own m) sc = push_fixed_kept (this_found sc)
  start_kept (form.spawning_own m) sc = push_fixed_kept (this_found sc)
  start_kept f sc = more (omega arith) q.none

  pub started_plain : (f : Form) (a : Around) → Plain a → Plain (started f a)
  started_plain (form.calling_own m) a x = q.up a x
  started_plain (form.spawning_own m) a x = q.up a x
  started_plain f a x = x

  -- what is written to a place
  store_placed : (md : Mode) (s n m : ℕ) → Placed m (o.Store s n (mode_number md) m)
  store_placed mode.Set s n m = ((λ z at e. e), refl)
  store_placed mode.Add s n m = ((λ z at e. e), refl)
  store_placed mode.Sub s n m = ((λ z at e. e), refl)
  store_placed mode.Mul s n m = ((λ z at e. e), refl)

  pub storing_kept : {l h : ℕ} (md : Mode) (s n m : ℕ) (b : Bool) → Q (suc m) l h 5 (storing (o.Store s n (mode_number md) m) b l)
  storing_kept md s n m true = more (omega arith) (and kept_kept (and (q.op_with m _ (store_placed md s n m)) (and drop (get _))))
  storing_kept md s n m false = more (omega arith) (q.op_with m _ (store_placed md s n m))

  -- what leaves a function or a loop
  pub returning_kept : {k l h : ℕ} (a : Around) → Plain a → Q k l h 3 (returning a)
  returning_kept a x = more (omega arith) (and (q.leaving a.base a x) (when_else_kept a.may_return
      (λ e. q.op o.Return ((λ z at. refl), refl))))

  pub breaking_kept : {k l : ℕ} (a : Around) → Plain a → Q k l a.height 3 (breaking a)
  breaking_kept a x = more (omega arith) (and (q.leaving a.floor a x) (when_else_kept a.in_loop (λ e. q.leave_loop)))
