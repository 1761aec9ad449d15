-- One state for each operation: what stands for no tree of its own.
use Rattle.std.proofs.Common.{ℕ, zero, suc, Bool, true, false, nat_lt, List, [], ◌∷◌, length, Option, Some, None}
use Rattle.verse_base.specs.declared.places.Place.{Place}
use Rattle.verse_tree.specs.Tree.{Bytes, Tree, tree, Shape, Givens}
use Rattle.verse_tree.specs.Tree as t
use Rattle.verse_tree.specs.ItemTree.{FieldTree}
use Rattle.verse_tree.specs.declared.exprs.Operator.{Operator}
use Rattle.verse_tree.specs.declared.exprs.Operator.TheVariants as op
use Rattle.verse_tree.specs.declared.tables.Ref.{Ref}
use Rattle.verse_tree.specs.declared.tables.Ref.TheVariants as ref
use Rattle.verse_code.specs.declared.operations.Op.{Op}
use Rattle.verse_code.specs.declared.operations.Op.TheVariants as o
use Rattle.verse_value.specs.Val.{Val, enum}
use Rattle.verse_sorts.specs.Sorts.{Sort}
use Rattle.verse_meaning.specs.Programs.{Program, pattern_value, fields_of}
use Rattle.verse_meaning.specs.Residuals as form
use Rattle.verse_meaning.specs.Residuals.{Form, Base, in_variable, in_self, in_object, nowhere, Binder, no_name}
use Rattle.verse_meaning.specs.Residuals.{a_constant, a_variable}
use Rattle.verse_meaning.specs.Residuals.{Generator, of_elements, of_entries, of_range}
use Rattle.verse_meaning.specs.Evaluating.{Statement, plain, defines, defers, generates, Callee, alone, of_object}
use Rattle.verse_meaning.specs.Evaluating.{of_value, of_quotient}
use Rattle.verse_meaning.specs.Evaluating.{no_callee}
use Rattle.verse_sound_rules.specs.Found.{Found}
use Rattle.lower_code.specs.declared.arounds.Around.{Around}
use Rattle.lower_code.specs.Pieces.{Maker, turning}
use Rattle.lower_code.specs.Pieces as c
use Rattle.lower_code.specs.Scopes as sc
use Rattle.lower_code.specs.Scopes.{Scope, fixed, varies, absent, find, this_found}
use Rattle.lower_code.specs.Arounds as ar
use Rattle.lower_code.specs.Applied as ap
use Rattle.lower_code.specs.Lowering as l
use Rattle.lower_code.specs.Lowering.{with_binder, with_generator, taking, is_any, given_local, is_text}
use Rattle.lower_notes.specs.States.{Change}
use Rattle.lower_notes.specs.Stretches.{Walk}
use Rattle.lower_notes.specs.Stretches as w
use Rattle.lower_notes.specs.Applied as a
use Rattle.lower_notes.specs.Noting as n
use Rattle.lower_notes.specs.Laws.{Beside}
use Rattle.lower_notes.proofs.Counted.{both, none, just, just_ends, just_leaves, at_place, text, away, jumps, sticks}
use Rattle.lower_notes.proofs.Counted.{if_so, else_stuck}
use Rattle.lower_notes.proofs.Counted.{ends_or_stuck, before, jumps_over, compares, turns}

-- ---- names

pub reads_found : (r : sc.Found) → Beside (sc.read_found r) (a.read_found r)
reads_found (fixed k) = just
reads_found (varies k) = both just just
reads_found absent = sticks

pub reads_this : (r : sc.Found) → Beside (sc.read_this r) (a.read_this r)
reads_this (fixed k) = just
reads_this (varies k) = sticks
reads_this absent = sticks

reads_field : (r : sc.Found) (k : ℕ) → Beside (sc.field_of_this r k) (a.field_of_this r)
reads_field (fixed i) k = both just just
reads_field (varies i) k = sticks
reads_field absent k = sticks

pushes_fixed : (r : sc.Found) → Beside (sc.push_fixed r) (a.push_fixed r)
pushes_fixed (fixed k) = just
pushes_fixed (varies k) = just
pushes_fixed absent = just

pushes_varies : (r : sc.Found) → Beside (sc.push_varies r) (a.push_varies r)
pushes_varies (fixed k) = just
pushes_varies (varies k) = just
pushes_varies absent = just

-- ---- what is written to a place, and what defines

pub keeps : {k : ℕ} {q : Sort} → Beside (c.kept k) (a.kept k q)
keeps = both away just

pub binds : (b : Binder) (k : ℕ) (q : Sort) → Beside (l.bind b k) (a.bind b k q)
binds no_name k q = none
binds (a_constant x) k q = keeps
binds (a_variable x pl) k q = both (at_place o.New) (both keeps just)

pub stores : (op : Op) (b : Bool) (k m : ℕ) (q r : Sort) → Beside (ap.storing op b k) (a.storing b k m q r)
stores op true k m q r = both keeps (both just (both just just))
stores op false k m q r = just

-- ---- forms that are applied

computes : (x : Operator) (pl : Place) (b : Bool) → Beside (ap.computing x pl b) (a.computing x)
computes op.Add pl true = at_place o.Concat
computes op.Add pl false = at_place o.Add
computes op.Sub pl b = at_place o.Sub
computes op.Mul pl b = at_place o.Mul
computes op.And pl b = none
computes op.Or pl b = sticks
computes op.Div pl b = sticks

drops : {f : Maker} {g : Walk} (k : ℕ) → Beside f g → Beside (ap.dropping k f) (a.dropping k g)
drops zero x = x
drops (suc k) x = both just (drops k x)

with_one : {f : Maker} {g : Walk} (k : ℕ) → Beside f g → Beside (ap.with_one k f) (a.with_one k g)
with_one zero x = sticks
with_one (suc zero) x = x
with_one (suc (suc k)) x = sticks

with_two : {f : Maker} {g : Walk} (k : ℕ) → Beside f g → Beside (ap.with_two k f) (a.with_two k g)
with_two zero x = sticks
with_two (suc zero) x = sticks
with_two (suc (suc zero)) x = x
with_two (suc (suc (suc k))) x = sticks

indexes : (k : ℕ) → Beside (ap.indexing k) (a.indexing k)
indexes zero = none
indexes (suc k) = drops k just

signals : (k : ℕ) → Beside (ap.signalling k) (a.signalling k)
signals zero = both just just
signals (suc k) = drops k just

pub finishes : (x : Form) (k : ℕ) (b : Bool) → Beside (ap.finish x k b) (a.finish x k b)
finishes (form.computing x t pl) k b = with_two k (computes x pl t)
finishes (form.comparing x) k b = with_two k just
finishes (form.negating pl) k b = with_one k (at_place o.Neg)
finishes form.querying k b = with_one k just
finishes (form.reading i) k b = with_one k just
finishes form.measuring k b = with_one k just
finishes (form.making_tuple pl) k b = at_place (o.Tuple k)
finishes (form.making_array pl) k b = at_place (o.Array k)
finishes (form.making_map pl) k b = at_place (o.Map k)
finishes (form.joining xs pl) k b = at_place (o.Join k)
finishes (form.picking i) k b = just
finishes form.indexing k b = indexes k
finishes (form.calling f) k b = else_stuck b just
finishes (form.calling_own m) k b = else_stuck b just
finishes (form.calling_method m) k b = just
finishes (form.printing pl) k b = with_one k (at_place o.Print)
finishes (form.flooring pl) k b = with_two k (at_place o.Floor)
finishes (form.ceiling pl) k b = with_two k (at_place o.Ceil)
finishes form.taking_modulo k b = with_two k just
finishes (form.awaiting t) k b = drops k just
finishes form.signalling k b = signals k
finishes (form.spawning f) k b = else_stuck b just
finishes (form.spawning_own m) k b = else_stuck b just
finishes (form.spawning_method m) k b = just
finishes (form.storing base mode pl) k b = sticks
finishes (form.instancing class xs pl) k b = sticks
finishes form.defining k b = none
finishes (form.varying pl) k b = sticks
finishes form.returning k b = with_one k just_ends
finishes (form.choosing ts) k b = sticks
finishes (form.appending v pl) k b = sticks

pub starts : (x : Form) (z : Scope) → Beside (ap.start x z) (a.start x z)
starts (form.calling_own m) z = pushes_fixed (this_found z)
starts (form.spawning_own m) z = pushes_fixed (this_found z)
starts x z = none

-- ---- what leaves

leaves_to : (m : ℕ) (z : Around) → Beside (ar.leaving_to m z) (a.leaving_to m z)
leaves_to m z = if_so (nat_lt m z.defers) (just_leaves (o.Leave m) m)

pub returns : (z : Around) → Beside (ar.returning z) (a.returning z)
returns z = both (leaves_to z.base z) (ends_or_stuck o.Return z.may_return)

pub breaks : (z : Around) → Beside (ar.breaking z) (a.breaking z)
breaks z = both (leaves_to z.floor z) (else_stuck z.in_loop (jumps z.height))

-- ---- texts and enums

pub texts : (bs : Bytes) → Beside (l.text_if bs) (n.text_if bs)
texts bs = if_so (is_text bs) text

values : (v : Val) → Beside (l.enum_op v) (n.enum_walk v)
values (enum e i) = just
values v = sticks

enums : (v : Option Val) → Beside (l.enum_pattern v) (n.enum_pattern v)
enums None = sticks
enums (Some v) = values v

-- ---- callees

pub callees : (k : Callee) {on_alone on_object on_value on_quotient : Form →
    Maker} {as_alone as_object as_value as_quotient : Form → Walk} →
    ((x : Form) → Beside (on_alone x) (as_alone x)) → ((x : Form) → Beside (on_object x) (as_object x)) →
    ((x : Form) → Beside (on_value x) (as_value x)) → ((x : Form) → Beside (on_quotient x) (as_quotient x)) →
    Beside (l.by_callee k on_alone on_object on_value on_quotient)
    (n.by_callee k as_alone as_object as_value as_quotient)
unfolding l.by_callee n.by_callee
callees (alone x) i j u v = i x
callees (of_object x) i j u v = j x
callees (of_value x) i j u v = u x
callees (of_quotient x) i j u v = v x
callees no_callee i j u v = sticks

module _ (p : Program) (found : Found) (differ : ℕ → ℕ → Bool) where
  pub reads_name : (r : Option Ref) (x : Bytes) (z : Scope) → Beside (l.named p differ r x z) (n.named r x z)
  unfolding l.named n.named
  reads_name (Some (ref.Field c k)) x z = reads_field (this_found z) k
  reads_name r x z = reads_found (find x z)

  pub members : (v : Option Val) {f : Maker} {g : Walk} → Beside f g → Beside (l.membered p differ v f)
      (n.membered v g)
  unfolding l.membered n.membered
  members (Some v) x = values v
  members None x = x

  pub bases : (b : Base) (z : Scope) → Beside (l.base_code p differ b z) (a.base_walk b z)
  bases (in_variable x) z = pushes_varies (find x z)
  bases (in_self k) z = pushes_fixed (this_found z)
  bases (in_object k) z = just
  bases nowhere z = just

  -- ---- statements and clauses

  pub states : (x : Statement) (q : Sort) (z : Scope) {whole inner : Maker} {all part : Walk} →
      Beside whole all → Beside inner part →
      Beside (l.stated p differ x z whole inner) (n.stated p found differ x q z all part)
  unfolding l.stated n.stated
  states plain q z h i = h
  states (defines b) q z h i = both i (binds b (length z) q)
  states (defers d) q z h i = both (before o.Defer (both i (both just just_ends))) just
  states (generates g) q z h i = sticks

  takes_from : {f : Maker} {g : Walk} (domain turn : Change) (y : Generator) (k : ℕ) → Beside f g →
      Beside (turning (taking y k) k f) (w.turning domain turn g)
  takes_from domain turn (of_elements x) k h = turns (o.Each k) domain turn k h
  takes_from domain turn (of_entries i x) k h = turns (o.Each k) domain turn k h
  takes_from domain turn (of_range x) k h = turns (o.Range k) domain turn k h

  pub clauses : (x : Statement) (q r : Sort)
      (z : Scope) {whole inner : Maker} {all part : Walk} {rest : Scope → Maker}
      {behind : Scope → Walk} → Beside whole all → Beside inner part →
      ((z : Scope) → Beside (rest z) (behind z)) →
      Beside (l.claused p differ x z whole inner rest) (n.claused p found differ x q r z all part behind)
  unfolding l.claused n.claused
  clauses plain q r z h i k = both h (both just (k z))
  clauses (defines b) q r z h i k = both i (both (binds b (length z) q) (both just (k (with_binder b z))))
  clauses (defers d) q r z h i k = sticks
  clauses (generates y) q r z h i k = both i (takes_from (n.takes y (length z)) (n.turns y (length z) q r) y
      (length z)
      (k (with_generator y z)))

  -- ---- arms of a `case`

  patterns : (x : Shape) → Beside (l.pattern_op p differ x) (n.pattern_walk p found differ x)
  patterns (t.Shape.integer_pattern z) = just
  patterns (t.Shape.minus_pattern z) = just
  patterns (t.Shape.character_pattern z) = just
  patterns (t.Shape.text_pattern bs) = text
  patterns t.Shape.truth_pattern = just
  patterns t.Shape.falsehood_pattern = just
  patterns (t.Shape.enum_pattern x y) = enums (pattern_value p x y)
  patterns x = sticks

  arm_by : (x : Shape) (k : ℕ) (last any : Bool) {body rest : Maker} {all others : Walk} → Beside body all →
      Beside rest others →
      Beside (l.arm_by p differ x k last any body rest) (n.arm_by p found differ x k last any all others)
  unfolding l.arm_by n.arm_by
  arm_by x k true any h i = h
  arm_by x k false true h i = both h (jumps_over o.Jump i)
  arm_by x k false false h i = both (patterns x) (both just (compares h i))

  pub arm_of : (b : Tree) (k : ℕ) (last : Bool) {body rest : Maker} {all others : Walk} → Beside body all →
      Beside rest others →
      Beside (l.arm_of p differ b k last body rest) (n.arm_of p found differ b k last all others)
  arm_of (tree i pl x) k last h r = arm_by x k last (is_any p differ x) h r

  -- ---- instances

  defaults : (d : Option Tree) (k : ℕ) → Beside (l.default_op p differ d k) (n.default_walk p found differ d)
  defaults None k = sticks
  defaults (Some b) k = just

  field : (g : Option ℕ) (d : Option Tree) (k : ℕ) → Beside (l.field_op p differ g d k)
      (n.field_walk p found differ g d)
  field None d k = defaults d k
  field (Some i) d k = just

  fields : (ds : List FieldTree) (gs : Givens) (k : ℕ) → Beside (l.field_ops p differ ds gs k)
      (n.field_walks p found differ ds gs k)
  fields [] gs k = none
  fields (d ∷ ds) gs k = both (field (given_local d.name gs k) d.default d.number) (fields ds gs k)

  pub makes : (i : Option ℕ) (pl : Place) (gs : Givens) (k : ℕ) {given : Maker} {values : Walk} →
      Beside given values →
      Beside (l.instance_of p differ i pl gs k given) (n.instance_of p found differ i gs k values)
  unfolding l.instance_of n.instance_of
  makes None pl gs k h = sticks
  makes (Some d) pl gs k h = both h (both (fields (fields_of p d) gs k) (at_place (o.Object d)))
