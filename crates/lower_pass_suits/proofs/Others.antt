-- Suited states: what stands for no tree of its own.
use Rattle.std.proofs.Common.{◌≡◌, ℕ, zero, suc, Bool, true, false, nat_lt, List, [], ◌∷◌, length, Option, Some, None, refl}
use Rattle.std.proofs.lemmas.Option.{none-some}
use Rattle.verse_base.specs.declared.places.Place.{Place}
use Rattle.verse_tree.specs.Tree.{Bytes, Tree, tree, Shape, Givens}
use Rattle.verse_tree.specs.Tree as t
use Rattle.verse_tree.specs.ItemTree.{FieldTree}
use Rattle.verse_tree.specs.declared.exprs.Operator.{Operator}
use Rattle.verse_tree.specs.declared.exprs.Operator.TheVariants as op
use Rattle.verse_tree.specs.declared.tables.Ref.{Ref}
use Rattle.verse_tree.specs.declared.tables.Ref.TheVariants as ref
use Rattle.verse_code.specs.declared.operations.Op.{Op}
use Rattle.verse_code.specs.declared.operations.Op.TheVariants as o
use Rattle.verse_value.specs.Val.{Val, enum}
use Rattle.verse_sorts.specs.Sorts as s
use Rattle.verse_sorts.specs.Sorts.{Sort}
use Rattle.verse_meaning.specs.Programs.{Program, ref_at, pattern_value, named_value, enum_value, place_of, enum_names, enums}
use Rattle.verse_meaning.specs.Programs.{fields_of}
use Rattle.verse_meaning.specs.Residuals as form
use Rattle.verse_meaning.specs.Residuals.{Form, Base, in_variable, in_self, in_object, nowhere, Binder, no_name}
use Rattle.verse_meaning.specs.Residuals.{a_constant, a_variable}
use Rattle.verse_meaning.specs.Residuals.{Generator, of_elements, of_entries, of_range}
use Rattle.verse_meaning.specs.Evaluating.{Statement, plain, defines, defers, generates, Callee, alone, of_object}
use Rattle.verse_meaning.specs.Evaluating.{of_value, of_quotient, no_callee, enum_member, is_enum, number_of}
use Rattle.verse_sound_rules.specs.Found.{Found}
use Rattle.lower_code.specs.declared.arounds.Around.{Around}
use Rattle.lower_code.specs.Pieces.{Maker, turning}
use Rattle.lower_code.specs.Pieces as c
use Rattle.lower_code.specs.Scopes as sc
use Rattle.lower_code.specs.Scopes.{Scope, fixed, varies, absent, find, this_found}
use Rattle.lower_code.specs.Arounds as ar
use Rattle.lower_code.specs.Applied as ap
use Rattle.lower_code.specs.Lowering as l
use Rattle.lower_code.specs.Lowering.{with_binder, with_generator, taking, is_any, given_local, is_text}
use Rattle.lower_notes.specs.Stretches.{Walk}
use Rattle.lower_notes.specs.Stretches as w
use Rattle.lower_notes.specs.Applied as a
use Rattle.lower_notes.specs.Noting as n
use Rattle.lower_pass_suits.proofs.Suited.{Kind, Plain, popped, given, got, put, domain_taken, range_taken, turned, blocks_run}
use Rattle.lower_pass_suits.proofs.Kept.{Keeps, both, none, just, just_last, at_place, place_last, text, away, stops, just_ends, jumps}
use Rattle.lower_pass_suits.proofs.Kept.{if_so, else_stuck, jumps_over, compares, turns}
use Rattle.lower_pass_suits.proofs.Kept as kept

-- what the states of a program are made of
pub record Made_of (p : Program) (found : Found) (k : Kind) : Type 0 where
  pub bare : Plain k
  pub sort : (i : ℕ) → k.Good (found.sort i)
  pub variable : (i : ℕ) → k.Good (s.var (found.sort i))
  pub key : (i : ℕ) → k.Good (found.key i)
  -- of the keys of what is a map
  pub keys : (i : ℕ) → k.Good (n.key_in (found.sort i))
  pub values : (e i j : ℕ) (x : Bytes) → enum_value p e x ≡ Some (enum i j) → k.Good (s.enum i)

-- ---- names

module _ {k : Kind} (g : Plain k) where
  reads_found : (r : sc.Found) → Keeps k (sc.read_found r) (a.read_found r)
  reads_found (fixed i) = just_last
  reads_found (varies i) = both (just (got g.none i)) just_last
  reads_found absent = stops

  reads_field : (r : sc.Found) (i : ℕ) → Keeps k (sc.field_of_this r i) (a.field_of_this r)
  reads_field (fixed j) i = both (just (got g.none j)) just_last
  reads_field (varies j) i = stops
  reads_field absent i = stops

  pushes_fixed : (r : sc.Found) → Keeps k (sc.push_fixed r) (a.push_fixed r)
  pushes_fixed (fixed i) = just (got g.none i)
  pushes_fixed (varies i) = just (given 0 s.unit g.unit)
  pushes_fixed absent = just (given 0 s.unit g.unit)

  pushes_varies : (r : sc.Found) → Keeps k (sc.push_varies r) (a.push_varies r)
  pushes_varies (fixed i) = just (given 0 s.unit g.unit)
  pushes_varies (varies i) = just (got g.none i)
  pushes_varies absent = just (given 0 s.unit g.unit)

  -- ---- what is written to a place, and what defines

  keeps : {i : ℕ} {q : Sort} → k.Good q → Keeps k (c.kept i) (a.kept i q)
  keeps {i} {q} h = both (away i (put i q h)) (just (got g.none i))

  pub binds : (b : Binder) (i : ℕ) (q : Sort) → k.Good q → k.Good (s.var q) → Keeps k (l.bind b i) (a.bind b i q)
  binds no_name i q h v = none
  binds (a_constant x) i q h v = keeps h
  binds (a_variable x pl) i q h v = both (at_place o.New (given 1 (s.var q) v)) (both (keeps v) (just (given 1 q h)))

  pub stores : (op : Op) (b : Bool) (i m : ℕ) (q r : Sort) → k.Good q → k.Good r →
      Keeps k (ap.storing op b i) (a.storing b i m q r)
  stores op true i m q r h j = both (keeps j) (both (just (given (suc m) q h)) (both (just (popped 1)) just_last))
  stores op false i m q r h j = just_last

  -- ---- forms that are applied

  computes : (x : Operator) (pl : Place) (b : Bool) → Keeps k (ap.computing x pl b) (a.computing x)
  computes op.Add pl true = place_last o.Concat
  computes op.Add pl false = place_last o.Add
  computes op.Sub pl b = place_last o.Sub
  computes op.Mul pl b = place_last o.Mul
  computes op.And pl b = none
  computes op.Or pl b = stops
  computes op.Div pl b = stops

  drops : {f : Maker} {h : Walk} (m : ℕ) → Keeps k f h → Keeps k (ap.dropping m f) (a.dropping m h)
  drops zero x = x
  drops (suc m) x = both (just (popped 1)) (drops m x)

  with_one : {f : Maker} {h : Walk} (m : ℕ) → Keeps k f h → Keeps k (ap.with_one m f) (a.with_one m h)
  with_one zero x = stops
  with_one (suc zero) x = x
  with_one (suc (suc m)) x = stops

  with_two : {f : Maker} {h : Walk} (m : ℕ) → Keeps k f h → Keeps k (ap.with_two m f) (a.with_two m h)
  with_two zero x = stops
  with_two (suc zero) x = stops
  with_two (suc (suc zero)) x = x
  with_two (suc (suc (suc m))) x = stops

  indexes : (m : ℕ) → Keeps k (ap.indexing m) (a.indexing m)
  indexes zero = none
  indexes (suc m) = drops m just_last

  signals : (m : ℕ) → Keeps k (ap.signalling m) (a.signalling m)
  signals zero = both (just (given 0 s.unit g.unit)) just_last
  signals (suc m) = drops m just_last

  pub finishes : (x : Form) (m : ℕ) (b : Bool) → Keeps k (ap.finish x m b) (a.finish x m b)
  finishes (form.computing x t pl) m b = with_two m (computes x pl t)
  finishes (form.comparing x) m b = with_two m just_last
  finishes (form.negating pl) m b = with_one m (place_last o.Neg)
  finishes form.querying m b = with_one m just_last
  finishes (form.reading i) m b = with_one m just_last
  finishes form.measuring m b = with_one m just_last
  finishes (form.making_tuple pl) m b = place_last (o.Tuple m)
  finishes (form.making_array pl) m b = place_last (o.Array m)
  finishes (form.making_map pl) m b = place_last (o.Map m)
  finishes (form.joining xs pl) m b = place_last (o.Join m)
  finishes (form.picking i) m b = just_last
  finishes form.indexing m b = indexes m
  finishes (form.calling f) m b = else_stuck b just_last
  finishes (form.calling_own i) m b = else_stuck b just_last
  finishes (form.calling_method i) m b = just_last
  finishes (form.printing pl) m b = with_one m (place_last o.Print)
  finishes (form.flooring pl) m b = with_two m (place_last o.Floor)
  finishes (form.ceiling pl) m b = with_two m (place_last o.Ceil)
  finishes form.taking_modulo m b = with_two m just_last
  finishes (form.awaiting t) m b = drops m just_last
  finishes form.signalling m b = signals m
  finishes (form.spawning f) m b = else_stuck b just_last
  finishes (form.spawning_own i) m b = else_stuck b just_last
  finishes (form.spawning_method i) m b = just_last
  finishes (form.storing base mode pl) m b = stops
  finishes (form.instancing class xs pl) m b = stops
  finishes form.defining m b = none
  finishes (form.varying pl) m b = stops
  finishes form.returning m b = with_one m just_ends
  finishes (form.choosing ts) m b = stops
  finishes (form.appending v pl) m b = stops

  pub starts : (x : Form) (z : Scope) → Keeps k (ap.start x z) (a.start x z)
  starts (form.calling_own m) z = pushes_fixed (this_found z)
  starts (form.spawning_own m) z = pushes_fixed (this_found z)
  starts x z = none

  -- ---- texts

  pub texts : (bs : Bytes) → Keeps k (l.text_if bs) (n.text_if bs)
  texts bs = if_so (is_text bs) (text (given 0 (s.list s.char) g.text))

module _ {k : Kind} where
  pub reads_this : (r : sc.Found) → Keeps k (sc.read_this r) (a.read_this r)
  reads_this (fixed i) = just_last
  reads_this (varies i) = stops
  reads_this absent = stops

  -- ---- what leaves

  leaves_to : (m : ℕ) (z : Around) → Keeps k (ar.leaving_to m z) (a.leaving_to m z)
  leaves_to m z = if_so (nat_lt m z.defers) (just (blocks_run m))

  ends_or_stuck : (op : Op) (b : Bool) → Keeps k (c.when_else b (c.one op)) w.ends
  ends_or_stuck op true = stops
  ends_or_stuck op false = stops

  pub returns : (z : Around) → Keeps k (ar.returning z) (a.returning z)
  returns z = both (leaves_to z.base z) (ends_or_stuck o.Return z.may_return)

  pub breaks : (z : Around) → Keeps k (ar.breaking z) (a.breaking z)
  breaks z = both (leaves_to z.floor z) (else_stuck z.in_loop (jumps z.height))

  -- ---- callees

  pub callees : (b : Callee) {on_alone on_object on_value on_quotient : Form → Maker}
      {as_alone as_object as_value as_quotient : Form → Walk} →
      ((x : Form) → Keeps k (on_alone x) (as_alone x)) → ((x : Form) → Keeps k (on_object x) (as_object x)) →
      ((x : Form) → Keeps k (on_value x) (as_value x)) → ((x : Form) → Keeps k (on_quotient x) (as_quotient x)) →
      Keeps k (l.by_callee b on_alone on_object on_value on_quotient) (n.by_callee b as_alone as_object as_value as_quotient)
  unfolding l.by_callee n.by_callee
  callees (alone x) i j u v = i x
  callees (of_object x) i j u v = j x
  callees (of_value x) i j u v = u x
  callees (of_quotient x) i j u v = v x
  callees no_callee i j u v = stops

-- the sort of an index, which is that of the keys where it leads into a map
pub index_good : (k : Kind) (q r : Sort) → k.Good (n.key_in q) → k.Good r → k.Good (n.index_in q r)
index_good k (s.map a b) r h i = h
index_good k q r h i = i

module _ (p : Program) (found : Found) (differ : ℕ → ℕ → Bool) {k : Kind} (g : Made_of p found k) where
  pub reads_name : (r : Option Ref) (x : Bytes) (z : Scope) → Keeps k (l.named p differ r x z) (n.named r x z)
  unfolding l.named n.named
  reads_name (Some (ref.Field c i)) x z = reads_field g.bare (this_found z) i
  reads_name r x z = reads_found g.bare (find x z)

  -- ---- enums

  abbrev IsValue : Option Val → Type 0
  IsValue v = (i j : ℕ) → v ≡ Some (enum i j) → k.Good (s.enum i)

  value_walks : (v : Val) → IsValue (Some v) → Keeps k (l.enum_op v) (n.enum_walk v)
  value_walks (enum e i) h = just (given 0 (s.enum e) (h e i refl))
  value_walks v h = stops

  enum_walks : (v : Option Val) → IsValue v → Keeps k (l.enum_pattern v) (n.enum_pattern v)
  enum_walks None h = stops
  enum_walks (Some v) h = value_walks v h

  pattern_values : (x y : Bytes) → IsValue (pattern_value p x y)
  pattern_values x y = by (place_of x (enum_names (enums p.items)))
    where
      by : (e : Option ℕ) → IsValue (named_value p y e)
      by None i j h = absurd (none-some _ h)
      by (Some e) i j h = g.values e i j y h

  member_values : (b : Tree) (x : Bytes) → IsValue (enum_member p b x)
  member_values (tree m pl y) x = by (ref_at p m)
    where
      by : (r : Option Ref) → IsValue (is_enum p r x)
      by (Some (ref.Enum e)) i j h = g.values e i j x h
      by other i j h = absurd (none-some _ h)

  of_member : (v : Option Val) {f : Maker} {h : Walk} → IsValue v → Keeps k f h →
      Keeps k (l.membered p differ v f) (n.membered v h)
  unfolding l.membered n.membered
  of_member (Some v) j i = value_walks v j
  of_member None j i = i

  pub members : (b : Tree) (x : Bytes) {f : Maker} {h : Walk} → Keeps k f h →
      Keeps k (l.membered p differ (enum_member p b x) f) (n.membered (enum_member p b x) h)
  members b x i = of_member (enum_member p b x) (member_values b x) i

  pub bases : (b : Base) (z : Scope) → Keeps k (l.base_code p differ b z) (a.base_walk b z)
  bases (in_variable x) z = pushes_varies g.bare (find x z)
  bases (in_self i) z = pushes_fixed g.bare (this_found z)
  bases (in_object i) z = just (given 0 s.unit g.bare.unit)
  bases nowhere z = just (given 0 s.unit g.bare.unit)

  -- ---- statements and clauses

  pub states : (x : Statement) (i : ℕ) (z : Scope) {whole inner : Maker} {all part : Walk} →
      Keeps k whole all → Keeps k inner part →
      Keeps k (l.stated p differ x z whole inner) (n.stated p found differ x (found.sort i) z all part)
  unfolding l.stated n.stated
  states plain i z h j = h
  states (defines b) i z h j = both j (binds g.bare b (length z) (found.sort i) (g.sort i) (g.variable i))
  states (defers d) i z h j = both (kept.defers (both j (both (just (popped 1)) just_ends)))
      (just (given 0 (found.sort i) (g.sort i)))
  states (generates y) i z h j = stops

  takes_from : {f : Maker} {h : Walk} (y : Generator) (m : ℕ) {q r : Sort} → k.Good q → k.Good r → Keeps k f h →
      Keeps k (turning (taking y m) m f) (w.turning (n.takes y m) (n.turns y m q r) h)
  takes_from (of_elements x) m {q} {r} i j h =
      turns (o.Each m) m (domain_taken g.bare m) (turned (suc (suc m)) q s.none i g.bare.none) h
  takes_from (of_entries y x) m {q} {r} i j h = turns (o.Each m) m (domain_taken g.bare m) (turned (suc (suc m)) q r i j) h
  takes_from (of_range x) m {q} {r} i j h =
      turns (o.Range m) m (range_taken g.bare m) (turned (suc (suc m)) q s.none i g.bare.none) h

  pub clauses : (x : Statement) (i : ℕ) (z : Scope) {whole inner : Maker} {all part : Walk} {rest : Scope → Maker}
      {behind : Scope → Walk} → Keeps k whole all → Keeps k inner part → ((z : Scope) → Keeps k (rest z) (behind z)) →
      Keeps k (l.claused p differ x z whole inner rest)
      (n.claused p found differ x (found.sort i) (found.key i) z all part behind)
  unfolding l.claused n.claused
  clauses plain i z h j u = both h (both (just (popped 1)) (u z))
  clauses (defines b) i z h j u = both j (both (binds g.bare b (length z) (found.sort i) (g.sort i) (g.variable i))
      (both (just (popped 1)) (u (with_binder b z))))
  clauses (defers d) i z h j u = stops
  clauses (generates y) i z h j u = both j (takes_from y (length z) (g.sort i) (g.key i) (u (with_generator y z)))

  -- ---- arms of a `case`

  patterns : (x : Shape) → Keeps k (l.pattern_op p differ x) (n.pattern_walk p found differ x)
  patterns (t.Shape.integer_pattern z) = just (given 0 s.int g.bare.int)
  patterns (t.Shape.minus_pattern z) = just (given 0 s.int g.bare.int)
  patterns (t.Shape.character_pattern z) = just (given 0 s.char g.bare.char)
  patterns (t.Shape.text_pattern bs) = text (given 0 (s.list s.char) g.bare.text)
  patterns t.Shape.truth_pattern = just (given 0 s.logic g.bare.logic)
  patterns t.Shape.falsehood_pattern = just (given 0 s.nil g.bare.nil)
  patterns (t.Shape.enum_pattern x y) = enum_walks (pattern_value p x y) (pattern_values x y)
  patterns x = stops

  arm_by : (x : Shape) (m : ℕ) (last any : Bool) {body rest : Maker} {all others : Walk} → Keeps k body all →
      Keeps k rest others → Keeps k (l.arm_by p differ x m last any body rest) (n.arm_by p found differ x m last any all others)
  unfolding l.arm_by n.arm_by
  arm_by x m true any h i = h
  arm_by x m false true h i = both h (jumps_over o.Jump i)
  arm_by x m false false h i = both (patterns x) (both (just (got g.bare.none m)) (compares h i))

  pub arm_of : (b : Tree) (m : ℕ) (last : Bool) {body rest : Maker} {all others : Walk} → Keeps k body all →
      Keeps k rest others → Keeps k (l.arm_of p differ b m last body rest) (n.arm_of p found differ b m last all others)
  arm_of (tree i pl x) m last h r = arm_by x m last (is_any p differ x) h r

  -- ---- instances

  defaults : (d : Option Tree) (m : ℕ) → Keeps k (l.default_op p differ d m) (n.default_walk p found differ d)
  defaults None m = stops
  defaults (Some b) m = just (given 0 (n.sort_at p found differ b) (g.sort (number_of b)))

  field : (x : Option ℕ) (d : Option Tree) (m : ℕ) → Keeps k (l.field_op p differ x d m) (n.field_walk p found differ x d)
  field None d m = defaults d m
  field (Some i) d m = just (got g.bare.none i)

  fields : (ds : List FieldTree) (gs : Givens) (m : ℕ) →
      Keeps k (l.field_ops p differ ds gs m) (n.field_walks p found differ ds gs m)
  fields [] gs m = none
  fields (d ∷ ds) gs m = both (field (given_local d.name gs m) d.default d.number) (fields ds gs m)

  pub makes : (i : Option ℕ) (pl : Place) (gs : Givens) (m : ℕ) {given : Maker} {values : Walk} → Keeps k given values →
      Keeps k (l.instance_of p differ i pl gs m given) (n.instance_of p found differ i gs m values)
  unfolding l.instance_of n.instance_of
  makes None pl gs m h = stops
  makes (Some d) pl gs m h = both h (both (fields (fields_of p d) gs m) (place_last (o.Object d)))
