-- A path whose last index is a new key.
use Rattle.std.proofs.Common.{◌≡◌, ℕ, suc, ◌<◌, ◌-◌, pos, negsuc, Bool, true, false, List, [], ◌∷◌, length, take, get_or, Option, Some}
use Rattle.std.proofs.Common.{None, Err, arith, refl, sym, ap, subst, ◌∙◌}
use Rattle.verse_value.specs.declared.keys.Key.{Key}
use Rattle.verse_value.specs.declared.values.Value.{Value}
use Rattle.verse_value.specs.View.{val_of, vals_of}
use Rattle.verse_value.specs.Val.{Val, unit, falsity, truth, int, char, enum, object, event, task, some, array, mapping, tuple, Vals, Pairs}
use Rattle.verse_value.specs.Val.{no_pairs, more_pairs}
use Rattle.verse_value.specs.Keys.{key_eq, key_of, at_key}
use Rattle.verse_value.specs.Places.{Step, part, outside, absent, misfit, step_in, in_array, in_map, part_or, nth, End, there, new_key}
use Rattle.verse_value.specs.Places.{end_from, end_of, push, pop, applied, pushed, with_last, Allows, LacksKey, path_to_map, last_key}
use Rattle.verse_value.proofs.EqualityLaw.{key_same}
use Rattle.verse_value_writes.proofs.Inside.{inside}
use Rattle.verse_value.specs.Operations.{write_at, written_at, key_made, sized_slot}
use Rattle.verse_value_writes.specs.Writes.{result_of, written, undone, CanUndo}
use Rattle.verse_value.specs.declared.modes.Mode.TheVariants.{Set}
use Rattle.verse_value_writes.specs.declared.writes.WriteFault.TheVariants.{Fail}
use Rattle.verse_value_writes.specs.declared.writes.Undo.{Undo}
use Rattle.verse_value_writes.specs.declared.writes.Undo.TheVariants.{DropLast}

absent_part : (ps : Pairs) (k : Key) (o : Option Val) → at_key ps k ≡ o → part_or absent o ≡ absent → at_key ps k ≡ None
absent_part ps k None e f = e
absent_part ps k (Some v) e f = absurd (cc)

in_map_absent : (ps : Pairs) (o : Option Key) (k : Key) → o ≡ Some k → in_map ps o ≡ absent → at_key ps k ≡ None
in_map_absent ps None k e f = absurd (cc)
in_map_absent ps (Some l) k e f =
    let same : l ≡ k = cc in
    absent_part ps k (at_key ps k) refl (ap (λ (m : Key). part_or absent (at_key ps m)) (sym same) ∙ f)

not_absent : (o : Option Val) → part_or outside o ≡ absent → ⊥
not_absent None e = cc
not_absent (Some v) e = cc

array_never : (vs : Vals) (index : Val) → in_array vs index ≡ absent → ⊥
array_never vs (int (pos n)) e = not_absent (nth vs n) e
array_never vs (int (negsuc n)) e = cc
array_never vs unit e = cc
array_never vs falsity e = cc
array_never vs truth e = cc
array_never vs (char n) e = cc
array_never vs (enum n m) e = cc
array_never vs (object n) e = cc
array_never vs (event n) e = cc
array_never vs (task n) e = cc
array_never vs (some v) e = cc
array_never vs (array ws) e = cc
array_never vs (mapping ps) e = cc
array_never vs (tuple ws) e = cc

-- an absent key is one that its map lacks
lacking : (v index : Val) (k : Key) → step_in v index ≡ absent → key_of index ≡ Some k → LacksKey k v
lacking (mapping ps) index k e f = in_map_absent ps (key_of index) k f e
lacking (array vs) index k e f = absurd (array_never vs index e)
lacking unit index k e f = absurd (cc)
lacking falsity index k e f = absurd (cc)
lacking truth index k e f = absurd (cc)
lacking (int n) index k e f = absurd (cc)
lacking (char n) index k e f = absurd (cc)
lacking (enum n m) index k e f = absurd (cc)
lacking (object n) index k e f = absurd (cc)
lacking (event n) index k e f = absurd (cc)
lacking (task n) index k e f = absurd (cc)
lacking (some v) index k e f = absurd (cc)
lacking (tuple vs) index k e f = absurd (cc)

last_allowed : (i slot : Val) (k : Key) (s : Step) → step_in slot i ≡ s → end_from s [] (end_of []) ≡ new_key → key_of i ≡ Some k →
    LacksKey k slot
last_allowed i slot k (part v) h g f = absurd (cc)
last_allowed i slot k outside h g f = absurd (cc)
last_allowed i slot k absent h g f = lacking slot i k h f
last_allowed i slot k misfit h g f = absurd (cc)

further_allowed : (i j : Val) (path : List Val) (slot : Val) (k : Key) (new : Val) (s : Step) → step_in slot i ≡ s →
    ((v : Val) → end_of (j ∷ path) v ≡ new_key → Allows (end_of (path_to_map (j ∷ path)) v) (push k new))
    → end_from s (j ∷ path) (end_of (j ∷ path)) ≡ new_key → Allows (end_of (i ∷ path_to_map (j ∷ path)) slot) (push k new)
further_allowed i j path slot k new (part v) h rest g =
    subst (λ (t : Step). Allows (end_from t (path_to_map (j ∷ path)) (end_of (path_to_map (j ∷ path)))) (push k new)) (sym h) (rest v g)
further_allowed i j path slot k new outside h rest g = absurd (cc)
further_allowed i j path slot k new absent h rest g = absurd (cc)
further_allowed i j path slot k new misfit h rest g = absurd (cc)

-- a new key can be added to the map that the rest of the path leads to
pub key_allowed : (path : List Val) (slot : Val) (k : Key) (new : Val) → end_of path slot ≡ new_key → last_key path ≡ Some k →
    Allows (end_of (path_to_map path) slot) (push k new)
key_allowed [] slot k new e f = absurd (cc)
key_allowed (i ∷ []) slot k new e f = last_allowed i slot k (step_in slot i) refl e f
key_allowed (i ∷ (j ∷ path)) slot k new e f =
    further_allowed i j path slot k new (step_in slot i) refl (λ v g. key_allowed (j ∷ path) v k new g f) e

-- all but the last index
pub map_path : (xs : List Value) → 0 < length xs → path_to_map (vals_of xs) ≡ vals_of (take (length xs - 1) xs)
map_path [] h = absurd (omega arith)
map_path (x ∷ []) h = refl
map_path (x ∷ (y ∷ xs)) h =
    let less : suc (length (y ∷ xs) - 1) ≡ length (x ∷ (y ∷ xs)) - 1 = omega arith in
    ap (λ (l : List Val). val_of x ∷ l) (map_path (y ∷ xs) (omega arith)) ∙ ap (λ (n : ℕ). vals_of (take n (x ∷ (y ∷ xs)))) less

pub last_key_is : (xs : List Value) (x : Value) → 0 < length xs → x ≡ get_or xs (length xs - 1) x →
    last_key (vals_of xs) ≡ key_of (val_of x)
last_key_is [] x h e = absurd (omega arith)
last_key_is (y ∷ []) x h e = ap (λ (z : Value). key_of (val_of z)) (sym e)
last_key_is (y ∷ (z ∷ xs)) x h e =
    let less : length (y ∷ (z ∷ xs)) - 1 ≡ suc (length (z ∷ xs) - 1) = omega arith in
    last_key_is (z ∷ xs) x (omega arith) (e ∙ ap (λ (n : ℕ). get_or (y ∷ (z ∷ xs)) n x) less)

last_cases : (k l : Key) (v new : Val) (ps : Pairs) (b : Bool) → key_eq k l ≡ b →
    (at_key ps k ≡ None → at_key (with_last ps k new) k ≡ Some new) → at_key (more_pairs l v ps) k ≡ None →
    at_key (more_pairs l v (with_last ps k new)) k ≡ Some new
last_cases k l v new ps true h rest e = absurd (let g : Some v ≡ None = rw h at e in cc)
last_cases k l v new ps false h rest e = rw h (rest (rw h at e))

at_last : (ps : Pairs) (k : Key) (new : Val) → at_key ps k ≡ None → at_key (with_last ps k new) k ≡ Some new
at_last no_pairs k new e = rw (key_same k) refl
at_last (more_pairs l v ps) k new e = last_cases k l v new ps (key_eq k l) refl (at_last ps k new) e

new_here : (slot i : Val) (k : Key) (new : Val) → LacksKey k slot → key_of i ≡ Some k → end_of (i ∷ []) (pushed k new slot) ≡ there new
new_here (mapping ps) i k new h is = ap (λ s. end_from s [] (end_of [])) (ap (in_map (with_last ps k new)) is ∙
    ap (part_or absent) (at_last ps k new h))
new_here unit i k new h is = absurd (h)
new_here falsity i k new h is = absurd (h)
new_here truth i k new h is = absurd (h)
new_here (int n) i k new h is = absurd (h)
new_here (char n) i k new h is = absurd (h)
new_here (enum n m) i k new h is = absurd (h)
new_here (object n) i k new h is = absurd (h)
new_here (event n) i k new h is = absurd (h)
new_here (task n) i k new h is = absurd (h)
new_here (some v) i k new h is = absurd (h)
new_here (array vs) i k new h is = absurd (h)
new_here (tuple vs) i k new h is = absurd (h)

further_new : (i j : Val) (path : List Val) (slot : Val) (k : Key) (new : Val) (s : Step) → step_in slot i ≡ s →
    ((v : Val) → end_of (j ∷ path) v ≡ new_key → end_of (j ∷ path) (applied (path_to_map (j ∷ path)) (push k new) v) ≡ there new)
    → end_from s (j ∷ path) (end_of (j ∷ path)) ≡ new_key →
    end_of (i ∷ (j ∷ path)) (applied (i ∷ path_to_map (j ∷ path)) (push k new) slot) ≡ there new
further_new i j path slot k new (part v) h rest e =
    ap (λ s. end_from s (j ∷ path) (end_of (j ∷ path))) ((inside slot i v h).step (applied (path_to_map (j ∷ path)) (push k new))) ∙
    rest v e
further_new i j path slot k new outside h rest e = absurd (cc)
further_new i j path slot k new absent h rest e = absurd (cc)
further_new i j path slot k new misfit h rest e = absurd (cc)

-- the path leads to the new key's value
pub key_lands : (path : List Val) (slot : Val) (k : Key) (new : Val) → end_of path slot ≡ new_key → last_key path ≡ Some k →
    end_of path (applied (path_to_map path) (push k new) slot) ≡ there new
key_lands [] slot k new e f = absurd (cc)
key_lands (i ∷ []) slot k new e f = new_here slot i k new (last_allowed i slot k (step_in slot i) refl e f) f
key_lands (i ∷ (j ∷ path)) slot k new e f =
    further_new i j path slot k new (step_in slot i) refl (λ v g. key_lands (j ∷ path) v k new g f) e

-- a write of a new key
module _ (xs : List Value) (x : Value) (some : 0 < length xs) (last : x ≡ get_or xs (length xs - 1) x) (new slot : Val)
    (leads : end_of (vals_of xs) slot ≡ new_key) (o : Option Key) (is : o ≡ key_of (val_of x)) where
  abbrev pub to_map : List Val
  to_map = vals_of (take (length xs - 1) xs)

  key_is : last_key (vals_of xs) ≡ o
  key_is = last_key_is xs x some last ∙ sym is

  made : write_at (vals_of xs) Set new slot ≡ key_made (vals_of xs) Set new slot o
  made = ap (λ (e : End). written_at e (vals_of xs) Set new slot) leads ∙ ap (key_made (vals_of xs) Set new slot) key_is

  pub no_key : o ≡ None → written (vals_of xs) Set new slot ≡ Err Fail
  no_key none = ap result_of (made ∙ ap (key_made (vals_of xs) Set new slot) none)

  pub key_added : (k : Key) → o ≡ Some k → write_at (vals_of xs) Set new slot ≡ sized_slot (applied to_map (push k new) slot) new
  key_added k one = made ∙ ap (key_made (vals_of xs) Set new slot) one ∙ ap (λ (p : List Val). sized_slot (applied p (push k new) slot) new)
      (map_path xs some)

  pub key_leads : (k : Key) (after : Val) → o ≡ Some k → after ≡ applied to_map (push k new) slot → end_of (vals_of xs) after ≡ there new
  key_leads k after one is =
      ap (end_of (vals_of xs)) (is ∙ ap (λ (p : List Val). applied p (push k new) slot) (sym (map_path xs some))) ∙
      key_lands (vals_of xs) slot k new leads (key_is ∙ one)

  pub key_fits : (k : Key) → o ≡ Some k → Allows (end_of to_map slot) (push k new)
  key_fits k one = subst (λ (p : List Val). Allows (end_of p slot) (push k new)) (map_path xs some)
      (key_allowed (vals_of xs) slot k new leads (key_is ∙ one))

-- what undoes a new key
module _ (xs ps : List Value) (some : 0 < length xs) (is : xs ≡ ps) where
  pub to_map_is : path_to_map (vals_of ps) ≡ vals_of (take (length xs - 1) xs)
  to_map_is = ap (λ (l : List Value). path_to_map (vals_of l)) (sym is) ∙ map_path xs some

  pub pop_fits : (slot : Val) (undo : Undo) → undo ≡ DropLast → CanUndo (vals_of ps) undo slot →
      Allows (end_of (vals_of (take (length xs - 1) xs)) slot) pop
  pop_fits slot undo one h = subst (λ (p : List Val). Allows (end_of p slot) pop) to_map_is
      (subst (λ (u : Undo). CanUndo (vals_of ps) u slot) one h)

  pub popped_back : (slot after : Val) (undo : Undo) → undo ≡ DropLast → after ≡ applied (vals_of (take (length xs - 1) xs)) pop slot →
      after ≡ undone (vals_of ps) undo slot
  popped_back slot after undo one e = e ∙ ap (λ (p : List Val). applied p pop slot) (sym to_map_is) ∙
      ap (λ (u : Undo). undone (vals_of ps) u slot) (sym one)
