-- Single operations, and what is done with the value of a form.
use Rattle.std.proofs.Common.{◌≡◌, ℕ, suc, ◌≤◌, ◌<◌, List, [], ◌∷◌, Option, Some, None, refl, sym, ◌∙◌, subst, ap, arith}
use Rattle.std.specs.Prelude.{option_map}
use Rattle.std.proofs.lemmas.Option.{same_Some, none-some}
use Rattle.verse_code.specs.declared.codes.Code.{Code}
use Rattle.verse_code.specs.declared.operations.Op.{Op}
use Rattle.verse_sorts.specs.Sorts.{Sort}
use Rattle.verse_verify_kept.specs.Notes.{Notes}
use Rattle.verse_verify_kept.specs.Rules.{Asked}
use Rattle.lower_code.specs.Pieces as c
use Rattle.lower_code.specs.Pieces.{Spot, Item, sure, Piece, Maker, behind, past}
use Rattle.lower_code.proofs.Standing.{Here, Lie}
use Rattle.lower_notes.specs.States.{State, Change, gives}
use Rattle.lower_notes.specs.Stretches as n
use Rattle.lower_notes.specs.Stretches.{Stretch, Walk, with_value}
use Rattle.lower_pass_states.proofs.Points.{pt, over, gives_is}
use Rattle.lower_pass_states.proofs.Meeting.{Held, Meets, leads_to, MeetsAt, leads_itself}
use Rattle.lower_pass_stretches.proofs.Going.{Way, If, itself, Lies, Within, Steady, sound_of, Going, everywhere}

-- a stretch of one operation
abbrev pub OneItem : Maker → (Spot → Op) → Type 0
OneItem f op = (s : Spot) → (f s).items ≡ sure (op s) ∷ []

module _ (code : Code) (notes : Notes) where
  abbrev Laid : Way → Spot → List Item → Type 0
  Laid w s is = Lie code.ops (everywhere code notes) w.out is s.at

  past_is : (f : Maker) (op : Spot → Op) → OneItem f op → (s : Spot) → (past s (f s)).at ≡ suc s.at
  past_is f op single s = ap (λ is. behind is s.at) (single s)

  op_at : (f : Maker) (op : Spot → Op) → OneItem f op → (w : Way) (s : Spot) {r : Stretch} → Lies code notes w s (f s) r →
      Here code.ops (everywhere code notes) (op s) s.at
  op_at f op single w s l = (subst (λ is. Laid w s is) (single s) l.stands.items).0

  module _ {w : Way} {ts : List ℕ} (f : Maker) (op : Spot → Op) (single : OneItem f op) where
    one_sound : (s : Spot) (z : State) {r : Stretch} → Steady code notes ts z → Lies code notes w s (f s) r →
        Within code notes ts s.at (past s (f s)).at → Asked code notes s.at (pt z) (op s) →
        Held code notes s.at z
    one_sound s z st l v a = sound_of code notes z st v (subst (λ i. s.at < i) (sym (past_is f op single s)) (omega arith))
        (op_at f op single w s l).is a

    -- what goes on behind it
    pub just_goes : {x : Option State} {h : Change} {k : Option State → Option State} {Q : State → Type 0} →
        If x (Steady code notes ts) →
        If x (λ z. (s : Spot) → (f s).locals ≤ w.size → MeetsAt code notes (k (Some (h z))) (suc s.at) →
        Asked code notes s.at (pt z) (op s)) → If x (λ z. (s : Spot) → (f s).locals ≤ w.size → Q (h z)) →
        Going code notes w ts x f (n.one h) k Q
    just_goes {x = None} st a q = record {
      leaves = λ s l v e. absurd (cc);
      exits = λ s l v y e. absurd (none-some y e);
      goes = λ s l v m. (tt, (tt, tt));
    }
    just_goes {x = Some z} {h = h} {k = k} {Q = Q} st a q = record {
      leaves = λ s l v e. absurd (cc);
      exits = λ s l v y e. subst Q (same_Some (h z) y e) (q z refl s l.room);
      goes = λ s l v m. (
        leads_to (leads_itself code notes z s.at (st z refl).even l.states.0),
        (
          one_sound s z (st z refl) l v (a z refl s l.room
              (subst (λ i. MeetsAt code notes (k (Some (h z))) i) (past_is f op single s) m)),
          tt,
        ),
      );
    }

    -- nothing does
    pub ends_goes : {x : Option State} {k : Option State → Option State} {Q : State → Type 0} →
        If x (Steady code notes ts) →
        If x (λ z. (s : Spot) → Asked code notes s.at (pt z) (op s)) → Going code notes w ts x f n.ends k Q
    ends_goes {x = None} st a = record {
      leaves = λ s l v e. absurd (cc);
      exits = λ s l v y e. absurd (none-some y e);
      goes = λ s l v m. (tt, (tt, tt));
    }
    ends_goes {x = Some z} st a = record {
      leaves = λ s l v e. absurd (cc);
      exits = λ s l v y e. absurd (none-some y e);
      goes = λ s l v m. (
        leads_to (leads_itself code notes z s.at (st z refl).even l.states.0),
        (one_sound s z (st z refl) l v (a z refl s), tt),
      );
    }

  -- no operation
  pub none_goes : {w : Way} {ts : List ℕ} {x : Option State} → Going code notes w ts x c.nothing n.nothing itself (λ z. x ≡ Some z)
  none_goes = record { leaves = λ s l v e. absurd (cc); exits = λ s l v y e. e; goes = λ s l v m. (m, tt) }

  -- ---- values

  -- with a value of the sort above a state
  abbrev pub IsValue : Sort → Option State → State → Type 0
  IsValue q x z = (y : State) × ((x ≡ Some y) × (z ≡ over (q ∷ []) y))

  value_of : (q : Sort) (x y : Option State) → If (with_value q x y) (IsValue q x)
  value_of q x None z e = absurd (none-some z e)
  value_of q None (Some y) z e = absurd (none-some z e)
  value_of q (Some u) (Some y) z e = (u, (refl, sym (same_Some (gives 0 q u) z e) ∙ gives_is q u))

  -- a form, behind which stands what stood before it, with its value
  pub tree_goes : {w : Way} {ts : List ℕ} {x : Option State} {f : Maker} {g : Walk} {Q : State → Type 0} (q : Sort) →
      Going code notes w ts x f g (with_value q x) Q → Going code notes w ts x f (n.giving q g) itself (IsValue q x)
  tree_goes {x = x} {g = g} q h = record {
    leaves = λ s l v e. h.leaves s (record { stands = l.stands; states = l.states; left = l.left; room = l.room }) v e;
    exits = λ s l v. value_of q x (g s.at x).exit;
    goes = λ s l v m. h.goes s (record { stands = l.stands; states = l.states; left = l.left; room = l.room }) v m;
  }

  -- what is met behind the form is met by the state
  abbrev pub Lands : Sort → Option State → State → Type 0
  Lands q x z = (y : State) × ((x ≡ Some y) × ((i : ℕ) → Meets code notes (over (q ∷ []) y) i → Meets code notes z i))

  pub meets_value : (q : Sort) (x y : Option State) (i : ℕ) → If y (Lands q x) → MeetsAt code notes (with_value q x y) i →
      MeetsAt code notes y i
  meets_value q x None i d m = tt
  meets_value q x (Some z) i d m =
      let h = d z refl in
      h.1.1 i (subst (λ u. Meets code notes u i) (gives_is q h.0)
      (subst (λ u. MeetsAt code notes (with_value q u (Some z)) i) h.1.0 m))

  -- the exit of a part is that of the form
  pub lands_goes : {w : Way} {ts : List ℕ} {x y : Option State} {f : Maker} {g : Walk} {Q : State → Type 0} (q : Sort) →
      Going code notes w ts x f g itself Q → ((z : State) → Q z → Lands q y z) → Going code notes w ts x f g (with_value q y) Q
  lands_goes {x = x} {y = y} {f = f} {g = g} q h d = record {
    leaves = h.leaves;
    exits = h.exits;
    goes = λ s l v m. h.goes s l v (meets_value q y (g s.at x).exit (past s (f s)).at (λ z e. d z (h.exits s l v z e)) m);
  }

  -- a value of a wider sort is noted
  pub wider_goes : {w : Way} {ts : List ℕ} {x : Option State} {f : Maker} {g : Walk} {Q R : State → Type 0} (q : Sort) →
      Going code notes w ts x f g itself Q →
      ((z : State) → Q z → (i : ℕ) → Meets code notes (gives 1 q z) i → Meets code notes z i) →
      ((z : State) → Q z → R (gives 1 q z)) → Going code notes w ts x f (n.widened q g) itself R
  wider_goes {w = w} {x = x} {f = f} {g = g} {Q = Q} {R = R} q h d r = record {
    leaves = λ s l v e. h.leaves s (lies s l) v e;
    exits = λ s l v. widened (g s.at x).exit (h.exits s (lies s l) v);
    goes = λ s l v m. h.goes s (lies s l) v (meets (g s.at x).exit (past s (f s)).at (h.exits s (lies s l) v) m);
  }
    where
      lies : (s : Spot) → Lies code notes w s (f s) (n.widened q g s.at x) → Lies code notes w s (f s) (g s.at x)
      lies s l = record { stands = l.stands; states = l.states; left = l.left; room = l.room }

      widened : (y : Option State) → If y Q → If (option_map (gives 1 q) y) R
      widened None e z i = absurd (none-some z i)
      widened (Some u) e z i = subst R (same_Some (gives 1 q u) z i) (r u (e u refl))

      meets : (y : Option State) (i : ℕ) → If y Q → MeetsAt code notes (option_map (gives 1 q) y) i → MeetsAt code notes y i
      meets None i e m = tt
      meets (Some u) i e m = d u (e u refl) i m
