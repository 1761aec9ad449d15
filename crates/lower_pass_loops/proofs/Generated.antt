-- What is known behind a generator: its domain and what a turn takes stand in four locals.
use Rattle.std.proofs.Common.{◌≡◌, ℕ, ◌+◌, ◌-◌, ◌≤◌, length, List, [], ◌∷◌, ◌++◌, Option, Some, None, Bool, true, false, refl}
use Rattle.std.proofs.Common.{sym, ◌∙◌, subst, ap, arith}
use Rattle.std.specs.Prelude.{option_map, slice_get}
use Rattle.std.specs.Str.{bytes_eq}
use Rattle.std.proofs.lemmas.Option.{none-some}
use Rattle.verse_tree.specs.Tree.{Bytes}
use Rattle.verse_tree.specs.declared.tables.Ref.{Ref}
use Rattle.verse_code.specs.declared.codes.Code.{Code}
use Rattle.verse_code.specs.declared.operations.Op.TheVariants as o
use Rattle.verse_names_tables.specs.Names.{Table, look}
use Rattle.verse_sorts.specs.Sorts.{Sort}
use Rattle.verse_sorts.specs.Typing.{at}
use Rattle.verse_meaning.proofs.Names.{test_itself, test_same}
use Rattle.verse_sound_rules.specs.Found as rules
use Rattle.verse_sound_rules.specs.Found.{Allowed, New, tried}
use Rattle.verse_sound_rules.proofs.Tables.{look_new, look_old}
use Rattle.verse_verify_kept.specs.Notes.{Notes, Point}
use Rattle.verse_verify_kept.specs.Rules.{in_try, Quiet, quiet_so, keeps_some}
use Rattle.verse_verify_faults.specs.Spots.{point_of}
use Rattle.lower_code.specs.declared.arounds.Around.{Around}
use Rattle.lower_code.specs.Arounds.{enclosed}
use Rattle.lower_code.specs.Scopes.{Scope}
use Rattle.lower_notes.specs.States.{State, spot_of}
use Rattle.lower_notes.specs.States as states
use Rattle.lower_pass_states.proofs.Points.{pt, names_of, tries_tried, even_tried}
use Rattle.lower_pass_stretches.proofs.Names.{Sees}
use Rattle.lower_pass_stretches.proofs.Going.{Way}
use Rattle.lower_pass_stretches.proofs.Combined.{Led}
use Rattle.lower_pass_stretches.proofs.Inside.{Inside, Blocks, blocks_before, ready_moved, ready_of}
use Rattle.lower_pass_states.proofs.Meeting.{Opened}
use Rattle.lower_pass_contexts.proofs.Contexts.{many_entries, noted_is}

-- ---- two names that are new, in the other order

module _ (xs : Table) (k x : Bytes) (r q : Ref) (new_k : New k xs) (new_x : New x (xs ++ (k, r) ∷ [])) where
  differ : bytes_eq x k ≡ false
  differ = by (bytes_eq x k) refl
    where
      same : x ≡ k → ⊥
      same e = none-some r (sym (subst (λ z. look z (xs ++ (k, r) ∷ []) ≡ None) e new_x.0) ∙ look_new k r xs new_k.0)

      by : (b : Bool) → bytes_eq x k ≡ b → bytes_eq x k ≡ false
      by true e = absurd (same (test_same x k e))
      by false e = e

  differ_too : bytes_eq k x ≡ false
  differ_too = by (bytes_eq k x) refl
    where
      same : k ≡ x → ⊥
      same e = not_so (sym (subst (λ z. bytes_eq x z ≡ true) (sym e) (test_itself x)) ∙ differ)
        where
          not_so : true ≡ false → ⊥
          not_so h = absurd (cc)

      by : (b : Bool) → bytes_eq k x ≡ b → bytes_eq k x ≡ false
      by true e = absurd (same (test_same k x e))
      by false e = e

  pub new_before : New x xs
  new_before = (sym (look_old x k r xs differ) ∙ new_x.0, new_x.1)

  pub new_behind : New k (xs ++ (x, q) ∷ [])
  new_behind = (look_old k x q xs differ_too ∙ new_k.0, new_k.1)

  abbrev Same : Bytes → Type 0
  Same z = look z ((xs ++ (k, r) ∷ []) ++ (x, q) ∷ []) ≡ look z ((xs ++ (x, q) ∷ []) ++ (k, r) ∷ [])

  look_turned : (y : Bytes) → Same y
  look_turned y = by (bytes_eq y x) (bytes_eq y k) refl refl
    where
      by : (a b : Bool) → bytes_eq y x ≡ a → bytes_eq y k ≡ b → Same y
      by true b e f = subst Same (sym (test_same y x e)) (look_new x q (xs ++ (k, r) ∷ []) new_x.0 ∙
          sym (look_old x k r (xs ++ (x, q) ∷ []) differ ∙ look_new x q xs new_before.0))
      by false true e f = subst Same (sym (test_same y k f)) (look_old k x q (xs ++ (k, r) ∷ []) differ_too ∙
          look_new k r xs new_k.0 ∙ sym (look_new k r (xs ++ (x, q) ∷ []) new_behind.0))
      by false false e f = look_old y x q (xs ++ (k, r) ∷ []) e ∙ look_old y k r xs f ∙
          sym (look_old y k r (xs ++ (x, q) ∷ []) f ∙ look_old y x q xs e)

  pub sees_turned : {f : rules.Found} {this : Option ℕ} {sc : Scope} {ls : List Sort} →
      Sees f this ((xs ++ (x, q) ∷ []) ++ (k, r) ∷ []) sc ls → Sees f this ((xs ++ (k, r) ∷ []) ++ (x, q) ∷ []) sc ls
  sees_turned g = record { names = λ y u e. g.names y u (sym (look_turned y) ∙ e); own = g.own }

-- ---- in a Try

module _ (code : Code) (notes : Notes) {found : rules.Found} {w : Way} {ts : List ℕ} {al : Allowed} {xs : Table} {sc : Scope}
    {a : Around} {y : State} where
  -- in a Try that begins with the state, at whose label nothing is asked of the locals that are free
  pub inside_tried : (i : ℕ) → slice_get notes.points i ≡ Some (point_of (option_map spot_of (Some y))) →
      Opened code notes i → ((l : ℕ) → length sc ≤ l → Quiet code notes l (i ∷ ts)) → Inside code notes found w ts al xs sc a y →
      Inside code notes found w (i ∷ ts) (tried al) xs sc (enclosed a) (states.tried i y)
  inside_tried i here open_now quiet h = record {
    even = even_tried i y h.even;
    names = ap (λ zs. i ∷ zs) h.names;
    stood = record { tries = (open_now, h.stood.tries); lasts = h.stood.lasts; within = h.stood.within };
    blocks = subst (λ k. Blocks code notes (pt (states.tried i y)) (i ∷ ts) k y.defers y.locals) (sym (none a.defers))
        (blocks_before (ready_moved code notes (i ∷ []) (record { func = refl; arm = refl; under = refl })
        (names_of (states.tried i y) ∙ ap (λ zs. i ∷ zs) (sym (names_of y)))
        (ready_of code notes (sym h.names ∙ sym (names_of y)) h.blocks)));
    count = h.count;
    order = (same a.defers, same a.defers);
    keeps = keeps_some (tries_tried i y) (λ q e. subst (λ (p : Point). p.under + length p.defers ≤ a.defers)
        (noted_is notes code y i q h.even here e) (fewer y.under (many_entries y.defers) h.count));
    sees = h.sees;
    blank = h.blank;
    quiet = quiet;
    room = h.room;
    fails = λ e. in_try (tries_tried i y);
    waits = λ e. absurd (cc);
    returns = λ res e. absurd (none-some res e);
    breaks = λ e. absurd (cc);
  }
    where
      none : (k : ℕ) → k - k ≡ 0
      none k = omega arith

      same : (k : ℕ) → k ≤ k
      same k = omega arith

      fewer : (k : ℕ) {m n d : ℕ} → m ≡ n → d ≡ k + n → k + m ≤ d
      fewer k e f = omega (arith, e, f)

  -- a failure leads to the state at the label, in which the locals from n on are free
  pub quiet_label : {x : Option State} (i label : ℕ) → Led code notes o.Try x (Some y) i label →
      Inside code notes found w ts al xs sc a y → (l : ℕ) → length sc ≤ l → Quiet code notes l (i ∷ ts)
  quiet_label i label led h l k = quiet_so led.operation
      (λ p q e f. h.blank l q k (subst (λ (p : Point). at p.locals l ≡ Some q) (sym (noted_is notes code y label p h.even led.there e)) f))
      (h.quiet l k)
