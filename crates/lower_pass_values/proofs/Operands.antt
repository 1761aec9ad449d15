-- Operands in turn, one step each: each is noted as it is, or as one of a wider sort. What a map is made of.
use Rattle.std.proofs.Common.{◌≡◌, ℕ, zero, suc, ◌+◌, length, List, [], ◌∷◌, ◌++◌, Option, Some, refl, sym, ◌∙◌, subst, ap, arith}
use Rattle.verse_base.specs.declared.places.Place.{Place}
use Rattle.verse_tree.specs.Tree as t
use Rattle.verse_tree.specs.Tree.{Trees, no_trees, more_trees}
use Rattle.verse_code.specs.declared.codes.Code.{Code}
use Rattle.verse_code.specs.declared.operations.Op.{Op}
use Rattle.verse_code.specs.declared.operations.Op.TheVariants as o
use Rattle.verse_names_tables.specs.Names.{Table}
use Rattle.verse_sorts.specs.Sorts as s
use Rattle.verse_sorts.specs.Sorts.{Sort, IsKnown, Fits, IsKey, key_never, key_nil, key_int, key_logic, key_char, key_enum, key_text}
use Rattle.verse_sorts.proofs.Fitting.{fits_itself}
use Rattle.verse_meaning.specs.Programs.{Program}
use Rattle.verse_meaning.specs.Evaluating.{number_of}
use Rattle.verse_sound_rules.specs.Found as rules
use Rattle.verse_sound_rules.specs.Found.{Allowed}
use Rattle.verse_sound_rules.specs.Fine.{sort_at, sorts_at}
use Rattle.verse_verify_kept.specs.Notes.{Notes, parent_of}
use Rattle.verse_verify_kept.specs.Rules.{Asked, Keyed, keyed_no, keyed_so}
use Rattle.lower_code.specs.Pieces as c
use Rattle.lower_code.specs.Pieces.{Spot, Maker}
use Rattle.lower_code.specs.declared.arounds.Around.{Around}
use Rattle.lower_code.specs.Arounds.{up, raised}
use Rattle.lower_code.specs.Scopes.{Scope}
use Rattle.lower_code.specs.Lowering.{pairs_in}
use Rattle.lower_notes.specs.States.{State, gives}
use Rattle.lower_notes.specs.Stretches as n
use Rattle.lower_notes.specs.Stretches.{Walk, with_value}
use Rattle.lower_notes.specs.Noting.{key_in}
use Rattle.lower_notes.specs.Laws.{Beside}
use Rattle.lower_notes.proofs.Counted as counted
use Rattle.lower_notes.proofs.Counted.{code_then, walk_then}
use Rattle.lower_pass_states.proofs.Points.{pt, over, drop_none, gives_is}
use Rattle.lower_pass_states.proofs.Meeting.{Meets, MeetsAt, Below, meets_below}
use Rattle.lower_pass_states.proofs.Steps as step
use Rattle.lower_pass_states.proofs.Steps.{turned}
use Rattle.lower_pass_stretches.proofs.Going.{Way, If, itself, Going, Steady, then_goes}
use Rattle.lower_pass_stretches.proofs.Single.{OneItem, just_goes, IsValue, lands_goes, wider_goes}
use Rattle.lower_pass_stretches.proofs.Inside.{Inside, inside_up}
use Rattle.lower_pass_contexts.proofs.After.{After, after_itself, after_below}
use Rattle.lower_pass_forms.proofs.Finishing.{IsOver, steady_over, last_goes}
use Rattle.lower_pass_forms.proofs.Applied.{noted_found}
use Rattle.lower_pass_blocks.proofs.Stated.{weaker}
use Rattle.verse_sound_rules.specs.Fine.{PairsFit, IsMap, is_map}

-- sorts of operands, of each of which something is known
abbrev pub AreKnown : List Sort → Type 0
AreKnown [] = Unit {0}
AreKnown (q ∷ qs) = IsKnown q × AreKnown qs

pub turned_known : (qs rs : List Sort) → AreKnown qs → AreKnown rs → AreKnown (turned qs rs)
turned_known [] rs known more = more
turned_known (q ∷ qs) rs known more = turned_known qs (q ∷ rs) known.1 (known.0, more)

pub append_known : (qs rs : List Sort) → AreKnown qs → AreKnown rs → AreKnown (qs ++ rs)
append_known [] rs known more = more
append_known (q ∷ qs) rs known more = (known.0, append_known qs rs known.1 more)

pub key_known : {k : Sort} → IsKey k → IsKnown k
key_known key_never = tt
key_known key_nil = tt
key_known key_int = tt
key_known key_logic = tt
key_known key_char = tt
key_known key_enum = tt
key_known key_text = tt

-- a value above one that is of another sort
pub gives_over : (q r : Sort) (y : State) → gives 1 q (over (r ∷ []) y) ≡ over (q ∷ []) y
gives_over q r y = ap (λ st. over (q ∷ []) (record y { stack = st })) (drop_none y.stack)

-- what stands so many operands higher
pub raised_up : (n : ℕ) (a : Around) → raised n (up a) ≡ up (raised n a)
raised_up zero a = refl
raised_up (suc n) a = raised_up n (up a)

module _ (found : rules.Found) (code : Code) (notes : Notes) (w : Way) (ts : List ℕ) (al : Allowed) (xs : Table) (sc : Scope)
    (x : Option State) where
  abbrev Fit : Sort → Sort → Type 0
  Fit = Fits (parent_of notes)

  abbrev Here : Around → State → Type 0
  Here a y = Inside code notes found w ts al xs sc a y

  -- ---- states with operands

  -- one more
  pub value_over : {u v : Option State} (q : Sort) (qs : List Sort) → If u (IsOver code notes qs x) →
      If v (IsValue code notes q u) → If v (IsOver code notes (q ∷ qs) x)
  value_over q qs i j z e = let r = j z e in let t = i r.0 r.1.0 in (t.0, (t.1.0, r.1.1 ∙ ap (over (q ∷ [])) t.1.1))

  pub value_here : {u v : Option State} (q : Sort) (a : Around) → IsKnown q → If u (Here a) → If v (IsValue code notes q u) →
      If v (Here (up a))
  value_here q a known h j z e = let r = j z e in subst (Here (up a)) (sym r.1.1) (inside_up code notes q known (h r.0 r.1.0))

  -- several
  pub inside_raised : (qs : List Sort) → AreKnown qs → (a : Around) (y : State) → Here a y → Here (raised (length qs) a) (over qs y)
  inside_raised [] known a y h = h
  inside_raised (q ∷ qs) known a y h = subst (λ b. Here b (over (q ∷ qs) y)) (sym (raised_up (length qs) a))
      (inside_up code notes q known.0 (inside_raised qs known.1 a y h))

  pub over_here : {u : Option State} (qs : List Sort) → AreKnown qs → (m : ℕ) (a : Around) → m ≡ length qs → If x (Here a) →
      If u (IsOver code notes qs x) → If u (Here (raised m a))
  over_here qs known m a e h i z k = let r = i z k in
      subst (λ j. Here (raised j a) z) (sym e) (subst (Here (raised (length qs) a)) (sym r.1.1)
      (inside_raised qs known a r.0 (h r.0 r.1.0)))

  -- ---- a value of a wider sort

  pub wide_goes : {u : Option State} {f : Maker} {g : Walk} (r q : Sort) → Fit r q →
      Going code notes w ts u f g itself (IsValue code notes r u) →
      Going code notes w ts u f (n.widened q g) itself (IsValue code notes q u)
  wide_goes r q f h = wider_goes code notes q h
      (λ z k i m. meets_below code notes (subst (λ v. Below code notes v (over (q ∷ []) k.0)) (sym k.1.1)
      (after_below code notes (after_itself code notes k.0) f))
      (subst (λ v. Meets code notes v i) (ap (gives 1 q) k.1.1 ∙ gives_over q r k.0) m))
      (λ z k. (k.0, (k.1.0, ap (gives 1 q) k.1.1 ∙ gives_over q r k.0)))

  -- behind a form that gives a value of a narrower sort
  pub value_lands : {u : Option State} {f : Maker} {g : Walk} (r q : Sort) → Fit r q →
      Going code notes w ts u f g itself (IsValue code notes r x) → Going code notes w ts u f g (with_value q x) (λ z. Unit {0})
  value_lands r q f h = weaker found code notes w ts al (lands_goes code notes q h (λ z k. (
    k.0,
    (
      k.1.0,
      λ i m. meets_below code notes (subst (λ v. Below code notes v (over (q ∷ []) k.0)) (sym k.1.1)
          (after_below code notes (after_itself code notes k.0) f)) m,
    ),
  ))) (λ z k. tt)

  -- The last operation of a form, where locals were written in it: behind the form nothing is known of them.
  pub after_last_goes : {u v : Option State} (f : Maker) (op : Spot → Op) (single : OneItem f op) (qs : List Sort) (r q : Sort) →
      If v (Steady code notes ts) → If u (IsOver code notes qs v) →
      If v (λ z. (y : State) × ((x ≡ Some y) × After code notes 0 y z)) → Fit r q →
      If v (λ z. (s : Spot) → Meets code notes (over (r ∷ []) z) (suc s.at) → Asked code notes s.at (pt (over qs z)) (op s)) →
      Going code notes w ts u f n.last (with_value q x) (λ z. Unit {0})
  after_last_goes f op single qs r q steady above known fit asks = just_goes code notes f op single
      (λ z e. let k = above z e in subst (Steady code notes ts) (sym k.1.1) (steady_over code notes qs (steady k.0 k.1.0)))
      (λ z e s room m. let k = above z e in let b = known k.0 k.1.0 in
      subst (λ v. Asked code notes s.at (pt v) (op s)) (sym k.1.1) (asks k.0 k.1.0 s
      (meets_below code notes (after_below code notes b.1.1 fit) (subst (λ v. Meets code notes v (suc s.at)) (gives_is q b.0)
      (subst (λ v. MeetsAt code notes (with_value q v (Some z)) (suc s.at)) b.1.0 m))))) (λ z e s room. tt)

  -- ---- operands in turn

  -- behind the last one
  pub no_operand_goes : {u : Option State} (qs : List Sort) → If u (IsOver code notes qs x) →
      Going code notes w ts u c.nothing n.nothing itself (IsOver code notes qs x)
  no_operand_goes qs i = record { leaves = λ s l v e. absurd (cc); exits = λ s l v. i; goes = λ s l v m. (m, tt) }

  -- an operand of the sort q, with those behind it
  module _ {u : Option State} (a : Around) (qs : List Sort) (here : If u (Here a)) (above : If u (IsOver code notes qs x)) where
    pub operand_goes : {f h : Maker} {g j : Walk} {k : Option State → Option State} {Q : State → Type 0} (q : Sort) → IsKnown q →
        Beside f g → Going code notes w ts u f g itself (IsValue code notes q u) →
        ((v : Option State) → If v (Here (up a)) → If v (IsOver code notes (q ∷ qs) x) → Going code notes w ts v h j k Q) →
        Going code notes w ts u (code_then f h) (walk_then g j) k Q
    operand_goes q known beside first rest = then_goes code notes beside first (λ v i.
        rest v (value_here q a known here i) (value_over q qs above i))

    -- it is noted as one of a wider sort
    pub wide_operand_goes : {f h : Maker} {g j : Walk} {k : Option State → Option State} {Q : State → Type 0} (r q : Sort) → IsKnown q →
        Fit r q → Beside f g → Going code notes w ts u f g itself (IsValue code notes r u) →
        ((v : Option State) → If v (Here (up a)) → If v (IsOver code notes (q ∷ qs) x) → Going code notes w ts v h j k Q) →
        Going code notes w ts u (code_then f h) (walk_then (n.widened q g) j) k Q
    wide_operand_goes r q known f beside first rest = operand_goes q known (counted.wider q beside) (wide_goes r q f first) rest

    -- a key with its value
    pub pair_goes : {f h m : Maker} {g j l : Walk} {k : Option State → Option State} {Q : State → Type 0} (r q d : Sort) → IsKnown q →
        IsKnown d → Fit r q → Beside f g → Beside h j → Going code notes w ts u f g itself (IsValue code notes r u) →
        ((v : Option State) → If v (Here (up a)) → Going code notes w ts v h j itself (IsValue code notes d v)) →
        ((v : Option State) → If v (Here (up (up a))) → If v (IsOver code notes (d ∷ q ∷ qs) x) → Going code notes w ts v m l k Q) →
        Going code notes w ts u (code_then f (code_then h m)) (walk_then (n.widened q g) (walk_then j l)) k Q
    pair_goes r q d known_q known_d f b1 b2 first second rest = wide_operand_goes r q known_q f b1 first (λ v i e.
        then_goes code notes b2 (second v i) (λ z k. rest z (value_here d (up a) known_d i k) (value_over d (q ∷ qs) e k)))

-- ---- maps

module _ (p : Program) (found : rules.Found) where
  pub sorts_known : rules.AllKnown found → (bs : Trees) → AreKnown (sorts_at p found bs)
  sorts_known known no_trees = tt
  sorts_known known (more_trees b bs) = (known.sort (number_of b), sorts_known known bs)

  -- the sorts of pairs, as they are noted
  abbrev pub noted_pairs : Sort → t.Pairs → List Sort
  noted_pairs k t.Pairs.no_pairs = []
  noted_pairs k (t.Pairs.more_pairs b d ps) = k ∷ sort_at p found d ∷ noted_pairs k ps

  pub pairs_many : (k : Sort) (ps : t.Pairs) → pairs_in ps + pairs_in ps ≡ length (noted_pairs k ps)
  pairs_many k t.Pairs.no_pairs = omega arith
  pairs_many k (t.Pairs.more_pairs b d ps) = two (pairs_in ps) (length (noted_pairs k ps)) (pairs_many k ps)
    where
      two : (i j : ℕ) → i + i ≡ j → suc i + suc i ≡ suc (suc j)
      two i j e = omega (arith, e)

module _ (p : Program) (found : rules.Found) (code : Code) (notes : Notes) where
  abbrev F : rules.Found
  F = noted_found notes found

  pub pairs_keyed : {k q : Sort} (ps : t.Pairs) → IsKey k → PairsFit p F k q ps → Keyed code notes k q (noted_pairs p F k ps)
  pairs_keyed t.Pairs.no_pairs i h = keyed_no
  pairs_keyed {k = k} (t.Pairs.more_pairs b d ps) i h = keyed_so i (fits_itself (parent_of notes) k) h.1 (pairs_keyed ps i h.2)

  -- the keys and the values of a map fit
  pub map_fits : {q : Sort} {ps : t.Pairs} → IsMap p F q ps → (d : Sort) × PairsFit p F (key_in q) d ps
  map_fits (is_map {q = d} key fit) = (d, fit)

  pub map_keyed : {q : Sort} {ps : t.Pairs} → IsMap p F q ps → IsKnown (key_in q)
  map_keyed (is_map key fit) = key_known key

  -- a map of pairs, whose keys are noted as of the keys' sort
  pub mapping_goes : {w : Way} {ts : List ℕ} {x : Option State} {f : Maker} {g : Walk} (q : Sort) (ps : t.Pairs) (pl : Place) →
      If x (Steady code notes ts) → IsMap p F q ps → Beside f g →
      Going code notes w ts x f g itself (IsOver code notes (turned (noted_pairs p F (key_in q) ps) []) x) →
      Going code notes w ts x (code_then f (c.placed pl (o.Map (pairs_in ps)))) (walk_then g n.last) (with_value q x) (λ z. Unit {0})
  mapping_goes q ps pl steady (is_map {k = k} {q = d} key fit) beside run = then_goes code notes beside run (λ u i.
      last_goes code notes (c.placed pl (o.Map (pairs_in ps))) (λ z. o.Map (pairs_in ps) z.place) (λ z. refl)
      (turned (noted_pairs p F k ps) []) steady i (s.map k d) (λ y e z m.
      step.map_asked code notes y (steady y e).even m (pairs_in ps) z.place (noted_pairs p F k ps) (pairs_many p F k ps)
      (pairs_keyed ps key fit) (fits_itself (parent_of notes) (s.map k d))))
