-- One call more of a list of calls.
use Rattle.std.proofs.Common.{◌≡◌, ℕ, ◌+◌, ◌<◌, List, [], ◌∷◌, ◌++◌, length, take, drop, get_or, refl, sym, ap, subst, ◌∙◌}
use Rattle.std.proofs.lemmas.List.{take_more, drop_more}
use Rattle.sim_clock.specs.declared.waits.Pending.{Pending}
use Rattle.sim_clock.specs.declared.calls.Call.{Call}
use Rattle.sim_clock.specs.Calls.{AllAllowed, after, after_all}

after_push : (cs : List Call) (c : Call) (ps : List Pending) → after_all (cs ++ c ∷ []) ps ≡ after c (after_all cs ps)
after_push [] c ps = refl
after_push (x ∷ cs) c ps = after_push cs c (after x ps)

module _ (cs : List Call) (i : ℕ) (d : Call) (within : i < length cs) (now new : List Pending)
    (goes : new ≡ after (get_or cs i d) now) where
  pub allowed_next : AllAllowed (drop i cs) now → AllAllowed (drop (i + 1) cs) new
  allowed_next all =
      let P : List Call → Type 0 = λ l. AllAllowed l now in
      let both : AllAllowed (get_or cs i d ∷ drop (i + 1) cs) now = subst P (drop_more cs i d within) all in
      subst (AllAllowed (drop (i + 1) cs)) (sym goes) both.1

  pub left_next : after_all (drop (i + 1) cs) new ≡ after_all (drop i cs) now
  left_next =
      ap (after_all (drop (i + 1) cs)) goes ∙ sym (ap (λ (l : List Call). after_all l now) (drop_more cs i d within))

  pub made_next : (first : List Pending) → now ≡ after_all (take i cs) first → new ≡ after_all (take (i + 1) cs) first
  made_next first made =
      goes ∙ ap (after (get_or cs i d)) made ∙ sym (after_push (take i cs) (get_or cs i d) first) ∙
      sym (ap (λ (l : List Call). after_all l first) (take_more cs i d within))
