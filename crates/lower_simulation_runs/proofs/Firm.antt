-- Code that nothing leaves for a loop around it: each of its items is an operation; and how the combinators keep that.
use Rattle.std.proofs.Common.{◌≡◌, ℕ, zero, suc, List, [], ◌∷◌, ◌++◌, map, Bool, true, false, refl}
use Rattle.verse_base.specs.declared.places.Place.{Place}
use Rattle.verse_tree.specs.Tree.{Bytes}
use Rattle.verse_code.specs.declared.operations.Op.{Op}
use Rattle.verse_code.specs.declared.operations.Op.TheVariants as o
use Rattle.verse_value.specs.Val as v
use Rattle.verse_value.specs.Val.{Val}
use Rattle.verse_meaning.specs.Residuals as form
use Rattle.verse_meaning.specs.Residuals.{Form, Base, in_variable, in_self, in_object, nowhere, Binder, no_name, a_constant, a_variable}
use Rattle.lower_code.specs.Pieces.{Spot, Item, sure, leaving, Piece, Maker, past, next, nothing, one, placed, numbering, texted, put_away}
use Rattle.lower_code.specs.Pieces.{kept, stuck, when, when_else, ahead, either, closed, deepest, drops, looping, turning, arms_at}
use Rattle.lower_code.specs.Pieces.{using_locals, from_here, later, arms_spot, ◌then◌}
use Rattle.lower_code.specs.Scopes.{Found, fixed, varies, absent, Scope, this_found, read_found, read_this, field_of_this, push_fixed}
use Rattle.lower_code.specs.Scopes.{push_varies}
use Rattle.lower_code.specs.declared.arounds.Around.{Around}
use Rattle.lower_code.specs.Arounds.{leaving_to, returning, breaking}
use Rattle.lower_code.specs.Applied.{start, finish, computing, dropping, with_one, with_two, indexing, signalling, storing}
use Rattle.lower_code.specs.Lowering.{bind, enum_op, grouped}
use Rattle.verse_tree.specs.declared.exprs.Operator.{Operator}
use Rattle.verse_tree.specs.declared.exprs.Operator.TheVariants as op

abbrev pub Sures : List Item → Type 0
Sures [] = Unit {0}
Sures (sure x ∷ is) = Sures is
Sures (leaving n ∷ is) = ⊥

pub record Firm (f : Maker) : Type 0 where
  pub sures : (s : Spot) → Sures (f s).items

sures_both : (xs ys : List Item) → Sures xs → Sures ys → Sures (xs ++ ys)
sures_both [] ys p q = q
sures_both (sure x ∷ xs) ys p q = sures_both xs ys p q
sures_both (leaving n ∷ xs) ys p q = absurd p

sures_closed : (out : ℕ) (is : List Item) → Sures (map (closed out) is)
sures_closed out [] = tt
sures_closed out (sure x ∷ is) = sures_closed out is
sures_closed out (leaving n ∷ is) = sures_closed out is

sures_drops : (n : ℕ) (is : List Item) → Sures is → Sures (drops n is)
sures_drops zero is p = p
sures_drops (suc n) is p = sures_drops n is p

sures_arms : (ls : List ℕ) (is : List Item) → Sures is → Sures (arms_at ls is)
sures_arms [] is p = p
sures_arms (l ∷ ls) is p = sures_arms ls is p

pub and : {f g : Maker} → Firm f → Firm g → Firm (f then g)
and {f} {g} x y = record { sures = λ s. sures_both (f s).items (g (past s (f s))).items (x.sures s) (y.sures (past s (f s))) }

pub one_firm : (op : Op) → Firm (one op)
one_firm op = record { sures = λ s. tt }

pub none_firm : Firm nothing
none_firm = record { sures = λ s. tt }

pub stuck_firm : Firm stuck
stuck_firm = record { sures = λ s. tt }

pub placed_firm : (pl : Place) (op : ℕ → Op) → Firm (placed pl op)
placed_firm pl op = record { sures = λ s. tt }

pub texted_firm : (bs : Bytes) → Firm (texted bs)
texted_firm bs = record { sures = λ s. tt }

pub put_firm : (l : ℕ) → Firm (put_away l)
put_firm l = record { sures = λ s. tt }

pub numbering_firm : (pl : Place) (f : ℕ → Maker) → ((m : ℕ) → Firm (f m)) → Firm (numbering pl f)
numbering_firm pl f h = record { sures = λ s. (h s.place).sures _ }

pub when_firm : (b : Bool) (f : Maker) → Firm f → Firm (when b f)
when_firm true f h = record { sures = h.sures }
when_firm false f h = record { sures = λ s. tt }

pub else_firm : (b : Bool) (f : Maker) → (b ≡ true → Firm f) → Firm (when_else b f)
else_firm true f h = h refl
else_firm false f h = stuck_firm

pub ahead_firm : (op : ℕ → Op) {f : Maker} → Firm f → Firm (ahead op f)
ahead_firm op h = record { sures = λ s. h.sures (next s) }

pub either_firm : (op : ℕ → Op) {f g : Maker} → Firm f → Firm g → Firm (either op f g)
either_firm op {f} {g} x y = record {
  sures = λ s. let l = next (past (next s) (f (next s))) in
      sures_both (f (next s)).items (sure (o.Jump (past l (g l)).at) ∷ (g l).items) (x.sures (next s)) (y.sures l);
}

closing_sures : (p : Piece) (e : Spot) (out : ℕ) → Sures (map (closed out) p.items ++ drops (deepest p.items) (sure o.Unit ∷ []))
closing_sures p e out = sures_both (map (closed out) p.items) (drops (deepest p.items) (sure o.Unit ∷ [])) (sures_closed out p.items)
    (sures_drops (deepest p.items) (sure o.Unit ∷ []) tt)

-- what leaves a loop is closed
pub looping_firm : (f : Maker) → Firm (looping f)
looping_firm f = record {
  sures = λ s.
      let p = from_here (λ a. ahead o.Jump (f then one o.Drop) then one (o.Again (suc a))) s in
      closing_sures p (past s p) (later (deepest p.items) (past s p).at);
}

from_firm : (f : ℕ → Maker) → ((a : ℕ) → Firm (f a)) → Firm (from_here f)
from_firm f h = record { sures = λ s. (h s.at).sures s }

pub turning_firm : (op : Op) (l : ℕ) {f : Maker} → Firm f → Firm (turning op l f)
turning_firm op l {f} h = and {f = using_locals (suc (suc (suc (suc l))))} (record { sures = λ s. tt })
    (and (one_firm o.Commit) (and (one_firm op) (from_firm _ (λ a. and (ahead_firm o.Jump (ahead_firm o.Try h))
    (one_firm (o.Take l (suc (suc l)) (suc a)))))))

pub grouped_firm : (kind m : ℕ) (pl : Place) (begins : Spot → List ℕ) {arms : Maker} → Firm arms → Firm (grouped kind m pl begins arms)
unfolding grouped
grouped_firm kind m pl begins {arms} h = record {
  sures = λ s. let b = arms_spot m s in
      sures_arms (begins b) (sure (o.Jump (past b (arms b)).at) ∷ (arms b).items) (h.sures b);
}

-- ---- the small parts

pub kept_firm : (l : ℕ) → Firm (kept l)
kept_firm l = record { sures = λ s. tt }

pub bind_firm : (b : Binder) (l : ℕ) → Firm (bind b l)
bind_firm no_name l = none_firm
bind_firm (a_constant x) l = kept_firm l
bind_firm (a_variable x pl) l = and (placed_firm pl o.New) (and (kept_firm l) (one_firm (o.Load 0)))

pub read_firm : (f : Found) → Firm (read_found f)
read_firm (fixed l) = one_firm (o.Get l)
read_firm (varies l) = and (one_firm (o.Get l)) (one_firm (o.Load 0))
read_firm absent = stuck_firm

pub this_firm : (f : Found) → Firm (read_this f)
this_firm (fixed l) = one_firm (o.Get l)
this_firm (varies l) = stuck_firm
this_firm absent = stuck_firm

pub field_firm : (f : Found) (n : ℕ) → Firm (field_of_this f n)
field_firm (fixed l) n = and (one_firm (o.Get l)) (one_firm (o.Load n))
field_firm (varies l) n = stuck_firm
field_firm absent n = stuck_firm

pub push_fixed_firm : (f : Found) → Firm (push_fixed f)
push_fixed_firm (fixed l) = one_firm (o.Get l)
push_fixed_firm (varies l) = one_firm o.Unit
push_fixed_firm absent = one_firm o.Unit

pub push_varies_firm : (f : Found) → Firm (push_varies f)
push_varies_firm (fixed l) = one_firm o.Unit
push_varies_firm (varies l) = one_firm (o.Get l)
push_varies_firm absent = one_firm o.Unit

pub enum_firm : (u : Val) → Firm (enum_op u)
enum_firm (v.enum e i) = one_firm (o.Enum e i)
enum_firm v.unit = stuck_firm
enum_firm v.falsity = stuck_firm
enum_firm v.truth = stuck_firm
enum_firm (v.int x) = stuck_firm
enum_firm (v.char x) = stuck_firm
enum_firm (v.object x) = stuck_firm
enum_firm (v.event x) = stuck_firm
enum_firm (v.task x) = stuck_firm
enum_firm (v.some x) = stuck_firm
enum_firm (v.array x) = stuck_firm
enum_firm (v.mapping x) = stuck_firm
enum_firm (v.tuple x) = stuck_firm

leaving_firm : (n : ℕ) (a : Around) → Firm (leaving_to n a)
leaving_firm n a = when_firm _ _ (one_firm (o.Leave n))

pub returning_firm : (a : Around) → Firm (returning a)
returning_firm a = and (leaving_firm a.base a) (else_firm a.may_return _ (λ h. one_firm o.Return))

-- outside of loops nothing is left by `break`
pub breaking_firm : (a : Around) → a.in_loop ≡ false → Firm (breaking a)
breaking_firm a h = and (leaving_firm a.floor a) (else_firm a.in_loop _ (λ e. no e h))
  where
    no : {b : Bool} {f : Maker} → b ≡ true → b ≡ false → Firm f
    no e h = cc

dropping_firm : (n : ℕ) {f : Maker} → Firm f → Firm (dropping n f)
dropping_firm zero h = h
dropping_firm (suc n) h = and (one_firm o.Drop) (dropping_firm n h)

one_with : (n : ℕ) {f : Maker} → Firm f → Firm (with_one n f)
one_with zero h = stuck_firm
one_with (suc zero) h = h
one_with (suc (suc n)) h = stuck_firm

two_with : (n : ℕ) {f : Maker} → Firm f → Firm (with_two n f)
two_with zero h = stuck_firm
two_with (suc zero) h = stuck_firm
two_with (suc (suc zero)) h = h
two_with (suc (suc (suc n))) h = stuck_firm

computing_firm : (x : Operator) (pl : Place) (b : Bool) → Firm (computing x pl b)
computing_firm op.Add pl true = placed_firm pl o.Concat
computing_firm op.Add pl false = placed_firm pl o.Add
computing_firm op.Sub pl b = placed_firm pl o.Sub
computing_firm op.Mul pl b = placed_firm pl o.Mul
computing_firm op.And pl b = none_firm
computing_firm op.Or pl b = stuck_firm
computing_firm op.Div pl b = stuck_firm

indexing_firm : (n : ℕ) → Firm (indexing n)
indexing_firm zero = none_firm
indexing_firm (suc n) = dropping_firm n (one_firm o.At)

signalling_firm : (n : ℕ) → Firm (signalling n)
signalling_firm zero = and (one_firm o.Unit) (one_firm o.Signal)
signalling_firm (suc n) = dropping_firm n (one_firm o.Signal)

pub storing_firm : (op : Op) (keeps : Bool) (l : ℕ) → Firm (storing op keeps l)
storing_firm op true l = and (kept_firm l) (and (one_firm op) (and (one_firm o.Drop) (one_firm (o.Get l))))
storing_firm op false l = one_firm op

pub finish_firm : (f : Form) (n : ℕ) (fit : Bool) → Firm (finish f n fit)
finish_firm (form.computing x t pl) n fit = two_with n (computing_firm x pl t)
finish_firm (form.comparing x) n fit = two_with n (one_firm _)
finish_firm (form.negating pl) n fit = one_with n (placed_firm pl o.Neg)
finish_firm form.querying n fit = one_with n (one_firm o.Query)
finish_firm (form.reading k) n fit = one_with n (one_firm (o.Load k))
finish_firm form.measuring n fit = one_with n (one_firm o.Length)
finish_firm (form.making_tuple pl) n fit = placed_firm pl (o.Tuple n)
finish_firm (form.making_array pl) n fit = placed_firm pl (o.Array n)
finish_firm (form.making_map pl) n fit = placed_firm pl (o.Map n)
finish_firm (form.joining xs pl) n fit = placed_firm pl (o.Join n)
finish_firm (form.picking i) n fit = one_firm (o.Item _)
finish_firm form.indexing n fit = indexing_firm n
finish_firm (form.calling f) n fit = else_firm fit _ (λ e. one_firm (o.Call f))
finish_firm (form.calling_own m) n fit = else_firm fit _ (λ e. one_firm (o.Method m n))
finish_firm (form.calling_method m) n fit = one_firm (o.Method m n)
finish_firm (form.printing pl) n fit = one_with n (placed_firm pl o.Print)
finish_firm (form.flooring pl) n fit = two_with n (placed_firm pl o.Floor)
finish_firm (form.ceiling pl) n fit = two_with n (placed_firm pl o.Ceil)
finish_firm form.taking_modulo n fit = two_with n (one_firm o.Mod)
finish_firm (form.awaiting t) n fit = dropping_firm n (one_firm _)
finish_firm form.signalling n fit = signalling_firm n
finish_firm (form.spawning f) n fit = else_firm fit _ (λ e. one_firm (o.Spawn f))
finish_firm (form.spawning_own m) n fit = else_firm fit _ (λ e. one_firm (o.SpawnMethod m n))
finish_firm (form.spawning_method m) n fit = one_firm (o.SpawnMethod m n)
finish_firm (form.storing base mode pl) n fit = stuck_firm
finish_firm (form.instancing class xs pl) n fit = stuck_firm
finish_firm form.defining n fit = none_firm
finish_firm (form.varying pl) n fit = stuck_firm
finish_firm form.returning n fit = one_with n (one_firm o.Return)
finish_firm (form.choosing ts) n fit = stuck_firm
finish_firm (form.appending x pl) n fit = stuck_firm

pub start_firm : (f : Form) (sc : Scope) → Firm (start f sc)
start_firm (form.calling_own m) sc = push_fixed_firm (this_found sc)
start_firm (form.spawning_own m) sc = push_fixed_firm (this_found sc)
start_firm f sc = none_firm
