-- One call more.
use Rattle.std.proofs.Common.{◌≡◌, ℕ, ◌+◌, ◌<◌, List, [], ◌∷◌, ◌++◌, length, take, drop, get_or, refl, sym, ap, subst, ◌∙◌}
use Rattle.std.proofs.lemmas.List.{take_more, drop_more}
use Rattle.tx_heap.specs.State.{State}
use Rattle.tx_heap.specs.Calls.{AllAllowed, after, after_all}
use Rattle.tx_heap.specs.declared.calls.Call.{Call}

after_push : (cs : List Call) (c : Call) (s : State) → after_all (cs ++ c ∷ []) s ≡ after c (after_all cs s)
after_push [] c s = refl
after_push (x ∷ cs) c s = after_push cs c (after x s)

after_take : (cs : List Call) (i : ℕ) (c : Call) (s : State) → i < length cs →
    after_all (take (i + 1) cs) s ≡ after (get_or cs i c) (after_all (take i cs) s)
after_take cs i c s h = ap (λ (l : List Call). after_all l s) (take_more cs i c h) ∙ after_push (take i cs) (get_or cs i c) s

-- what the loop keeps, after one call more

pub allowed_next : (cs : List Call) (i : ℕ) (c : Call) (now new : State) → i < length cs → new ≡ after (get_or cs i c) now →
    AllAllowed (drop i cs) now → AllAllowed (drop (i + 1) cs) new
allowed_next cs i c now new h goes all =
    let P : List Call → Type 0 = λ l. AllAllowed l now in
    let both : AllAllowed (get_or cs i c ∷ drop (i + 1) cs) now = subst P (drop_more cs i c h) all in
    subst (AllAllowed (drop (i + 1) cs)) (sym goes) both.1

pub left_next : (cs : List Call) (i : ℕ) (c : Call) (now new : State) → i < length cs → new ≡ after (get_or cs i c) now →
    after_all (drop (i + 1) cs) new ≡ after_all (drop i cs) now
left_next cs i c now new h goes =
    ap (after_all (drop (i + 1) cs)) goes ∙ sym (ap (λ (l : List Call). after_all l now) (drop_more cs i c h))

pub made_next : (cs : List Call) (i : ℕ) (c : Call) (first now new : State) → i < length cs → new ≡ after (get_or cs i c) now →
    now ≡ after_all (take i cs) first → new ≡ after_all (take (i + 1) cs) first
made_next cs i c first now new h goes made =
    goes ∙ (ap (after (get_or cs i c)) made ∙ sym (after_take cs i c first h))
