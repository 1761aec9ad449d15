-- Locals that are there, and what stands in them behind writes.
use Rattle.std.proofs.Common.{◌≡◌, ℕ, suc, ◌+◌, ◌<◌, ◌≤◌, List, [], ◌∷◌, length, map, set, Bool, sym, ap, ◌∙◌, arith}
use Rattle.std.specs.Prelude.{Some, None}
use Rattle.std.proofs.lemmas.List.{length-map, length-set}
use Rattle.std.proofs.lemmas.Bool.{cases_lt}
use mathlib.Core.Logic.{⊎_elim}
use Rattle.verse_code_machine.specs.Frames.{put}
use Rattle.verse_sorts.specs.Sorts as s
use Rattle.verse_verify_faults.specs.Stepping as t
use Rattle.verse_verify_faults.specs.Stepping.{Stepped, breaks, leads, on_there}
use Rattle.verse_verify_notes.specs.declared.sorts.Sort.{Sort}
use Rattle.verse_verify_notes.specs.View.{sort_of, sorts_of}
use Rattle.verse_verify_parts.specs.declared.heres.Here.{Here}
use Rattle.verse_verify_parts.specs.declared.mades.Made.{Made}
use Rattle.verse_verify_parts.specs.Heres.{operands, suited, settled, rule_by}
use Rattle.verse_verify_parts.specs.Mades.{made_of}
use Rattle.verse_verify_next.specs.Leads.{goes_to, goes_written}
use Rattle.verse_verify_parts.proofs.Locals.{put_there, put_past}
use Rattle.verse_verify_operands.specs.declared.finding.Taking.{Taking}
use Rattle.verse_verify_operands.specs.Finds.{writes_of}
use Rattle.verse_verify_flow.specs.Writing.{writes_one, writes_two, writes_taken, wrote, to_state}

below : (k n l : ℕ) → k ≡ n → l < n → l < k
below k n l e h = omega (arith, e, h)

beyond : (k n l : ℕ) → k ≡ n → n ≤ l → k ≤ l
beyond k n l e h = omega (arith, e, h)

module _ (xs : List Sort) where
  abbrev before : List t.Made
  before = map t.is (sorts_of xs)

  size : length before ≡ length xs
  size = length-map (sorts_of xs) t.is ∙ length-map xs sort_of

  pub there : (l : ℕ) (m : t.Made) → l < length xs → put before l m ≡ Some (set before l m)
  there l m h = put_there before l m (below (length before) (length xs) l size h)

  pub past : (l : ℕ) (m : t.Made) → length xs ≤ l → put before l m ≡ None
  past l m h = put_past before l m (beyond (length before) (length xs) l size h)

  module _ (i : ℕ) (v : t.Made) where
    abbrev after : List t.Made
    after = set before i v

    after_size : length after ≡ length xs
    after_size = length-set before i v ∙ size

    pub then_there : (l : ℕ) (m : t.Made) → l < length xs → put after l m ≡ Some (set after l m)
    then_there l m h = put_there after l m (below (length after) (length xs) l after_size h)

    pub then_past : (l : ℕ) (m : t.Made) → length xs ≤ l → put after l m ≡ None
    then_past l m h = put_past after l m (beyond (length after) (length xs) l after_size h)

    module _ (j : ℕ) (w : t.Made) where
      abbrev last : List t.Made
      last = set after j w

      last_size : length last ≡ length xs
      last_size = length-set after j w ∙ after_size

      pub last_there : (l : ℕ) (m : t.Made) → l < length xs → put last l m ≡ Some (set last l m)
      last_there l m h = put_there last l m (below (length last) (length xs) l last_size h)

      pub last_past : (l : ℕ) (m : t.Made) → length xs ≤ l → put last l m ≡ None
      last_past l m h = put_past last l m (beyond (length last) (length xs) l last_size h)

  -- one write
  pub one_past : (l : ℕ) (m : t.Made) (go : List t.Made → Stepped) → length xs ≤ l → on_there 6 (put before l m) go ≡ breaks 6
  one_past l m go h = rw (past l m h)

  pub one_there : (l : ℕ) (m : t.Made) (go : List t.Made → Stepped) → l < length xs → on_there 6 (put before l m) go ≡ go (set before l m)
  one_there l m go h = rw (there l m h)

  -- a write, and one behind it
  pub two_past : (l : ℕ) (m n : t.Made) (go : List t.Made → Stepped) → length xs ≤ suc l →
      on_there 6 (put before l m) (λ ls. on_there 6 (put ls (suc l) n) go) ≡ breaks 6
  two_past l m n go h =
      ⊎_elim (λ k. rw (there l m k, then_past l m (suc l) n h)) (λ k. rw (past l m k)) (cases_lt l (length xs))

  pub two_there : (l : ℕ) (m n : t.Made) (go : List t.Made → Stepped) → suc l < length xs →
      on_there 6 (put before l m) (λ ls. on_there 6 (put ls (suc l) n) go) ≡ go (set (set before l m) (suc l) n)
  two_there l m n go h = rw (there l m (omega (arith, h)), then_there l m (suc l) n h)

  -- and a third one
  pub three_past : (l : ℕ) (m n : t.Made) (k : ℕ) (o : t.Made) (go : List t.Made → Stepped) → suc l < length xs → length xs ≤ k →
      on_there 6 (put before l m) (λ ls. on_there 6 (put ls (suc l) n) (λ ms. on_there 6 (put ms k o) go)) ≡ breaks 6
  three_past l m n k o go h p = two_there l m n (λ ms. on_there 6 (put ms k o) go) h ∙ rw (last_past l m (suc l) n k o p)

  pub three_there : (l : ℕ) (m n : t.Made) (k : ℕ) (o : t.Made) (go : List t.Made → Stepped) → suc l < length xs → k < length xs →
      on_there 6 (put before l m) (λ ls. on_there 6 (put ls (suc l) n) (λ ms. on_there 6 (put ms k o) go)) ≡
      go (set (set (set before l m) (suc l) n) k o)
  three_there l m n k o go h p = two_there l m n (λ ms. on_there 6 (put ms k o) go) h ∙ rw (last_there l m (suc l) n k o p)

-- a value is taken into locals that are not all there
module _ (h : Here) (st : List s.Sort) (l d label : ℕ) (q : Taking) where
  abbrev takes : List t.Made → Stepped
  takes zs = leads (to_state h (suc h.index) st ∷ record (to_state h label st) { locals = zs } ∷ []) (l ∷ suc l ∷ d ∷ suc d ∷ []) None

  pub taken_past : length h.spot.now.locals.value.items ≤ suc d → writes_taken h l d label (writes_of q) st ≡ breaks 6
  taken_past p =
      two_past h.spot.now.locals.value.items d (made_of q.value) (made_of q.beside)
      (λ ys. on_there 6 (put ys (l + q.far) (made_of q.last)) takes) p

  pub taken_far : suc d < length h.spot.now.locals.value.items → length h.spot.now.locals.value.items ≤ l + q.far →
      writes_taken h l d label (writes_of q) st ≡ breaks 6
  taken_far p o = three_past h.spot.now.locals.value.items d (made_of q.value) (made_of q.beside) (l + q.far) (made_of q.last) takes p o

  pub taken_there : suc d < length h.spot.now.locals.value.items → l + q.far < length h.spot.now.locals.value.items →
      writes_taken h l d label (writes_of q) st ≡
      takes (set (set (set (before h.spot.now.locals.value.items) d (made_of q.value)) (suc d) (made_of q.beside)) (l + q.far)
      (made_of q.last))
  taken_there p o = three_there h.spot.now.locals.value.items d (made_of q.value) (made_of q.beside) (l + q.far) (made_of q.last) takes p o

-- the rule that is broken where locals are written that are there
module _ (h : Here) (st : List Sort) (j : ℕ) (r : Bool) where
  pub one_rule : (l : ℕ) (m : Made) → l < length h.spot.now.locals.value.items → j ≡ suc h.index →
      r ≡ suited h (goes_written h j (record { local = l; made = m } ∷ []) st ∷ []) →
      settled h r (l ∷ []) None ≡ rule_by h (writes_one h l (made_of m) (operands st))
  one_rule l m p e f = ap (λ b. settled h b (l ∷ []) None)
      (f ∙ ap (λ j. suited h (goes_written h j (record { local = l; made = m } ∷ []) st ∷ [])) e) ∙
      sym (ap (rule_by h) (one_there h.spot.now.locals.value.items l (made_of m) (λ ls. wrote h ls (l ∷ []) (operands st)) p))

  pub two_rule : (l k : ℕ) (m n : Made) → k ≡ suc l → suc l < length h.spot.now.locals.value.items → j ≡ suc h.index →
      r ≡ suited h (goes_written h j (record { local = l; made = m } ∷ record { local = k; made = n } ∷ []) st ∷ []) →
      settled h r (l ∷ k ∷ []) None ≡ rule_by h (writes_two h l (made_of m) (made_of n) (operands st))
  two_rule l k m n i p e f = ap (λ k. settled h r (l ∷ k ∷ []) None) i ∙ ap (λ b. settled h b (l ∷ suc l ∷ []) None) (f ∙ ap (λ j. suited h
      (goes_written h j (record { local = l; made = m } ∷ record { local = k; made = n } ∷ []) st ∷ [])) e ∙ ap (λ k. suited h (goes_written
      h (suc h.index) (record { local = l; made = m } ∷ record { local = k; made = n } ∷ []) st ∷ [])) i) ∙ sym (ap (rule_by h) (two_there
      h.spot.now.locals.value.items l (made_of m) (made_of n) (λ ls. wrote h ls (l ∷ suc l ∷ []) (operands st)) p))

-- the same, behind the next state as it stands
module _ (h : Here) (st : List Sort) (r : Bool) where
  pub three_rule : (l d label : ℕ) (q : Taking) (s k : ℕ) → s ≡ suc l → k ≡ suc d → suc d < length h.spot.now.locals.value.items →
      l + q.far < length h.spot.now.locals.value.items → r ≡ suited h (goes_to h (suc h.index) None st ∷ goes_written h label (record {
        local = d;
        made = q.value;
      } ∷ record { local = k; made = q.beside } ∷ record { local = l + q.far; made = q.last } ∷ []) st ∷ []) →
      settled h r (l ∷ s ∷ d ∷ k ∷ []) None ≡ rule_by h (writes_taken h l d label (writes_of q) (operands st))
  three_rule l d label q s k i e p o f = ap (λ s. settled h r (l ∷ s ∷ d ∷ k ∷ []) None) i ∙ ap (λ k. settled h r (l ∷ suc l ∷ d ∷ k ∷ [])
      None) e ∙ ap (λ b. settled h b (l ∷ suc l ∷ d ∷ suc d ∷ []) None) (f ∙ ap (λ k. suited h (goes_to h (suc h.index) None st ∷
      goes_written h label (record { local = d; made = q.value } ∷ record { local = k; made = q.beside } ∷ record {
        local = l + q.far;
        made = q.last;
      } ∷ []) st ∷ [])) e) ∙ sym (ap (rule_by h) (taken_there h (operands st) l d label q p o))
