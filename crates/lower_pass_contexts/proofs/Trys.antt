-- What the operations of a failure context ask.
use Rattle.std.proofs.Common.{◌≡◌, ℕ, suc, ◌-◌, length, take, drop, List, ◌∷◌, ◌++◌, Some, sym, ◌∙◌, subst, ap, arith, refl}
use Rattle.std.specs.Prelude.{slice_get, option_map}
use Rattle.std.proofs.lemmas.List.{length-append}
use Rattle.verse_code.specs.declared.codes.Code.{Code}
use Rattle.verse_code.specs.declared.operations.Op.TheVariants as o
use Rattle.verse_sorts.specs.Sorts.{Sort}
use Rattle.verse_sorts.specs.Typing.{AllFit}
use Rattle.verse_verify_kept.specs.Notes.{Notes, Point, parent_of}
use Rattle.verse_verify_kept.specs.Rules as r
use Rattle.verse_verify_kept.specs.Rules.{Asked, asked, no_local, Leads, TriesFit, MayFail}
use Rattle.verse_verify_faults.specs.Spots.{above, opens, point_of}
use Rattle.std.proofs.Math.Seq.{take-append_seam}
use Rattle.verse_verify_faults.proofs.Cutting.{drop_all}
use Rattle.lower_notes.specs.States.{State, spot_of, tried, untried}
use Rattle.lower_pass_states.proofs.Points.{pt, Even, drop_none, stack_over, tries_over, stack_tried, tries_tried}
use Rattle.lower_pass_states.proofs.Meeting.{Meets, no_value, leads_to, entries}
use Rattle.lower_pass_stretches.proofs.Combined.{Led}
use Rattle.lower_pass_contexts.proofs.Contexts.{noted_is}

module _ (code : Code) (notes : Notes) where
  -- a Try leads into its attempt and, where that fails, to its label
  pub try_asked : (y : State) (i l : ℕ) → Meets code notes (tried i y) (suc i) → Meets code notes y l → Asked code notes i (pt y) (o.Try l)
  try_asked y i l (no_value h) m = no_local h
  try_asked y i l (leads_to t) (no_value h) = no_local h
  try_asked y i l (leads_to t) (leads_to u) = asked (r.of_try (record {
    point = t.point;
    live = t.live;
    kin = record { func = t.kin.func; arm = t.kin.arm; block = t.kin.block; outer = t.kin.outer; under = t.kin.under };
    locals = t.locals;
    stack = subst (λ st. AllFit (parent_of notes) st t.point.stack) (stack_tried i y) t.stack;
    tries = subst (λ ts. TriesFit code notes ts t.point.tries) (tries_tried i y) t.tries;
    defers = t.defers;
  }) u)

  pub fail_asked : (z : State) (i : ℕ) → MayFail code notes (pt z) → Asked code notes i (pt z) o.Fail
  fail_asked z i h = asked (r.of_fail h)

  -- a state within the Try of index i that a state y begins: operands above its stack
  pub record Within (i : ℕ) (y z : State) (qs : List Sort) : Type 0 where
    pub tries : z.tries ≡ record { index = i; height = length y.stack } ∷ y.tries
    pub stack : z.stack ≡ qs ++ y.stack
    pub defers : entries z.defers ≡ entries y.defers

  room_is : (qs st : List Sort) → length (qs ++ st) - length st ≡ length qs
  room_is qs st = omega (arith, length-append qs st)

  above_is : (i : ℕ) (y z : State) (qs : List Sort) → Within i y z qs → (pt z).stack ≡ qs
  above_is i y z qs h = subst (λ ms. above z.stack ms ≡ qs) (sym h.tries)
      (subst (λ st. take (length st - length y.stack) st ≡ qs) (sym h.stack)
      (subst (λ k. take k (qs ++ y.stack) ≡ qs) (sym (room_is qs y.stack)) (take-append_seam qs y.stack)))

  beneath_is : (qs ys : List Sort) → drop (length (qs ++ ys) - length ys) (qs ++ ys) ≡ ys
  beneath_is qs ys = subst (λ k. drop k (qs ++ ys) ≡ ys) (sym (room_is qs ys)) (drop_all qs ys)

  opens_is : (i : ℕ) (y z : State) (qs : List Sort) → Within i y z qs →
      (pt z).tries ≡ record { index = i; beneath = (pt y).stack } ∷ (pt y).tries
  opens_is i y z qs h = ap (opens z.stack) h.tries ∙ ap (λ st. opens st (record { index = i; height = length y.stack } ∷ y.tries)) h.stack ∙
      ap (λ bs. record { index = i; beneath = above bs y.tries } ∷ opens bs y.tries) (beneath_is qs y.stack)

  tries_left : (i : ℕ) (y z : State) (qs : List Sort) → Within i y z qs → drop 1 z.tries ≡ y.tries
  tries_left i y z qs h = ap (drop 1) h.tries ∙ drop_none y.tries

  stack_behind : (i : ℕ) (y z : State) (qs : List Sort) → Within i y z qs → Even y → (pt (untried z)).stack ≡ qs ++ (pt y).stack
  stack_behind i y z qs h e = ap (above z.stack) (tries_left i y z qs h) ∙ ap (λ st. above st y.tries) h.stack ∙ stack_over y e qs

  tries_behind : (i : ℕ) (y z : State) (qs : List Sort) → Within i y z qs → Even y → (pt (untried z)).tries ≡ (pt y).tries
  tries_behind i y z qs h e = ap (opens z.stack) (tries_left i y z qs h) ∙ ap (λ st. opens st y.tries) h.stack ∙ tries_over y e qs

  -- behind a Commit stands what was found out
  pub commit_asked : (i j : ℕ) (y z : State) (qs : List Sort) → Within i y z qs → Even y →
      slice_get notes.points i ≡ Some (point_of (option_map spot_of (Some y))) →
      Meets code notes (untried z) (suc j) → Asked code notes j (pt z) o.Commit
  commit_asked i j y z qs h e here (no_value n) = no_local n
  commit_asked i j y z qs h e here (leads_to t) = asked (r.of_commit (opens_is i y z qs h)
      (λ q k. subst (λ (p : Point). p.defers ≡ entries z.defers) (noted_is notes code y i q e here k) (sym h.defers)) (record {
        point = t.point;
        live = t.live;
        kin = record { func = t.kin.func; arm = t.kin.arm; block = t.kin.block; outer = t.kin.outer; under = t.kin.under };
        locals = t.locals;
        stack = subst (λ zs. AllFit (parent_of notes) (zs ++ (pt y).stack) t.point.stack) (sym (above_is i y z qs h))
            (subst (λ zs. AllFit (parent_of notes) zs t.point.stack) (stack_behind i y z qs h e) t.stack);
        tries = subst (λ zs. TriesFit code notes zs t.point.tries) (tries_behind i y z qs h e) t.tries;
        defers = t.defers;
      }))

  -- an Undo takes all back: behind it stands what is at the label, which is what was at the Try
  pub undo_asked : (i l j : ℕ) (y : State) → Led code notes o.Try (Some y) (Some y) i l → Even y → Meets code notes y (suc j) →
      Asked code notes j (pt (tried i y)) o.Undo
  undo_asked i l j y led e (no_value n) = no_local n
  undo_asked i l j y led e (leads_to t) = asked (r.of_undo (tries_tried i y) (stack_tried i y)
      (λ q k. subst (λ (p : Point). p.defers ≡ entries y.defers) (noted_is notes code y i q e led.here k) refl) led.operation
      (λ p k. subst (λ (p : Point). Leads code notes (pt (tried i y)) p.locals (pt y).stack (pt y).tries (entries y.defers) (suc j))
      (noted_is notes code y l p e led.there k) (record {
        point = t.point;
        live = t.live;
        kin = record { func = t.kin.func; arm = t.kin.arm; block = t.kin.block; outer = t.kin.outer; under = t.kin.under };
        locals = t.locals;
        stack = t.stack;
        tries = t.tries;
        defers = t.defers;
      })))
