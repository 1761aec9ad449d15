-- Functions of a code, one behind the other: what notes say of them, and their states.
use Rattle.std.proofs.Common.{◌≡◌, ℕ, suc, ◌+◌, ◌<◌, ◌≤◌, List, [], ◌∷◌, ◌++◌, length, map, drop, get_or}
use Rattle.std.proofs.Common.{Option, Some, cond, refl, sym, ap, ◌∙◌, arith}
use Rattle.std.proofs.lemmas.Bool.{le-ltb}
use Rattle.std.proofs.lemmas.List.{append_assoc, append-nil, map-append}
use Rattle.verse_tree.specs.declared.programs.Program.{Program}
use Rattle.verse_code.specs.declared.codes.Code.{Code}
use Rattle.verse_verify_kept.specs.Notes.{FuncNote}
use Rattle.verse_verify_notes.specs.View.{func_of}
use Rattle.verse_verify_notes.specs.declared.notes.FuncNote.{FuncNote as Made}
use Rattle.lower_code.specs.Arounds.{fresh}
use Rattle.lower_code.specs.Programs as l
use Rattle.lower_code.specs.Scopes.{Scope}
use Rattle.lower_code.specs.declared.arounds.Around.{Around}
use Rattle.lower_items.specs.declared.bodies.Body.{Body}
use Rattle.lower_items.specs.Views.{body_view}
use Rattle.lower_parts.proofs.Lists.{seen_next, seen_none}
use Rattle.lower_notes.specs.Programs.{signed}
use Rattle.lower_notes.specs.States.{State}
use Rattle.lower_notes.specs.Stretches.{Walk, ends, ◌then◌}
use Rattle.note_sorts.specs.Tabled.{found_of}
use Rattle.note_stretches.specs.Noted.{Noted, resumed, walked}
use Rattle.note_stretches.proofs.Laws.{walked_then, walked_nothing}
use Rattle.note_parts.specs.Parts.{tree_walk}
use Rattle.verse_note.specs.Making.{default_note, note_of, notes_from, entry_of, body_walk, bodies_walk}

-- from the i-th body on
abbrev pub left_bodies : List Body → ℕ → List l.Body
left_bodies xs i = map body_view (drop i xs)

-- a walk that begins with another state than the one that stands
begun : (f : Walk) (x : Option State) (b : Noted) → walked (λ at y. f at x) b ≡ walked f (resumed x b)
unfolding walked resumed
begun f x b = refl

module _ (p : Program) (code : Code) where
  pub note_default : (count k : ℕ) (b : l.Body) → count ≤ k → note_of p code count k b ≡ default_note p code b
  note_default count k b h =
      ap (λ t. cond t (signed ((found_of p).signature k)) (default_note p code b)) (le-ltb k count h)

  -- a body, by what its steps make
  pub body_done : (k : ℕ) (b : l.Body) (sc : Scope) (a : Around) (x : Option State) (e : State)
      (so_far start tree all : Noted) → start ≡ resumed x so_far → x ≡ Some e → e ≡ entry_of p code k →
      sc ≡ b.scope → a ≡ fresh → tree ≡ walked (tree_walk p b.body sc a) start → all ≡ walked ends tree →
      all ≡ walked (body_walk p code k b) so_far
  body_done k b sc a x e so_far start tree all e1 e2 e3 e4 e5 e6 e7 =
      let f : Walk = tree_walk p b.body b.scope fresh in
      let here : start ≡ resumed (Some (entry_of p code k)) so_far =
      e1 ∙ ap (λ y. resumed y so_far) (e2 ∙ ap Some e3) in
      e7 ∙ ap (walked ends) (e6 ∙ ap (λ s. walked (tree_walk p b.body s a) start) e4
      ∙ ap (λ c. walked (tree_walk p b.body b.scope c) start) e5
      ∙ ap (walked f) here)
      ∙ sym (walked_then f ends (resumed (Some (entry_of p code k)) so_far))
      ∙ sym (begun (f then ends) (Some (entry_of p code k)) so_far)

  module _ (xs : List Body) (i k : ℕ) where
    -- behind one body more, and where none is left
    pub states_next : (x : Body) (next : ℕ) (b behind all : Noted) → i < length xs → x ≡ get_or xs i x →
        behind ≡ walked (body_walk p code k (body_view x)) b → next ≡ k + 1 →
        walked (bodies_walk p code k (left_bodies xs i)) b ≡ all →
        walked (bodies_walk p code next (left_bodies xs (i + 1))) behind ≡ all
    states_next x next b behind all h e g n is =
        let rest : List l.Body = left_bodies xs (i + 1) in
        let more : next ≡ suc k = omega (arith, n) in
        ap (λ m. walked (bodies_walk p code m rest) behind) more
        ∙ ap (walked (bodies_walk p code (suc k) rest)) g
        ∙ sym (walked_then (body_walk p code k (body_view x)) (bodies_walk p code (suc k) rest) b)
        ∙ sym (ap (λ bs. walked (bodies_walk p code k bs) b) (seen_next body_view xs i x h e))
        ∙ is

    pub states_done : (b all : Noted) → length xs ≤ i → walked (bodies_walk p code k (left_bodies xs i)) b ≡ all → b ≡ all
    states_done b all h is =
        sym (ap (λ bs. walked (bodies_walk p code k bs) b) (seen_none body_view xs i h) ∙ walked_nothing b) ∙ is

    module _ (count : ℕ) (ns : List Made) (all : List FuncNote) where
      pub notes_next : (x : Body) (next : ℕ) (n : Made) → i < length xs → x ≡ get_or xs i x →
          func_of n ≡ note_of p code count k (body_view x) → next ≡ k + 1 →
          map func_of ns ++ notes_from p code count k (left_bodies xs i) ≡ all →
          map func_of (ns ++ n ∷ []) ++ notes_from p code count next (left_bodies xs (i + 1)) ≡ all
      notes_next x next n h e g m is =
          let rest : ℕ → List FuncNote = λ j. notes_from p code count j (left_bodies xs (i + 1)) in
          let more : next ≡ suc k = omega (arith, m) in
          ap (λ ys. ys ++ rest next) (map-append func_of ns (n ∷ []))
          ∙ append_assoc (map func_of ns) (func_of n ∷ []) (rest next)
          ∙ ap (λ y. map func_of ns ++ y ∷ rest next) g
          ∙ ap (λ j. map func_of ns ++ note_of p code count k (body_view x) ∷ rest j) more
          ∙ sym (ap (λ bs. map func_of ns ++ notes_from p code count k bs) (seen_next body_view xs i x h e))
          ∙ is

      pub notes_done : length xs ≤ i → map func_of ns ++ notes_from p code count k (left_bodies xs i) ≡ all →
          map func_of ns ≡ all
      notes_done h is =
          sym (ap (λ bs. map func_of ns ++ notes_from p code count k bs) (seen_none body_view xs i h)
          ∙ append-nil (map func_of ns)) ∙ is
