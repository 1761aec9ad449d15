use Rattle.std.proofs.Common.{◌≡◌, ◌+◌, [], true, false, length, slice_get, refl, sym, ap, ◌∙◌, arith, rules}
use Rattle.vm_exec_tasks.proofs.Asking.{asks_by, asks_nothing, held_none, free_leads, free_bare, settled_moved}
use Rattle.vm_running.proofs.Steps.{one_leads, one_none}
use Rattle.verse_base.specs.declared.places.Place.{Place}
use Rattle.vm_running.specs.Doings.{with_one}
use Rattle.vm_exec_tasks.proofs.Starts.{grouped, group_none, group_empty, group_asks, labels_length, labels_fit, told_none, told_some}
use Rattle.vm_exec_tasks.proofs.Leaving.{like_moved, settles}
use Rattle.vm_exec_tasks.proofs.starting.begin_arms.Goals as goal

pub returns-then-not-is_free-clause-asks : goal.returns-then-not-is_free-clause-asks
returns-then-not-is_free-clause-asks g c =
    let not_so : c.is_free.result ≡ false = search rules in
    held_none (with_one (slice_get c.args.code.now.places c.args.group.place)
    (λ (p : Place). grouped c.args.code.now c.args.group.kind c.args.group.arms p)) _ _ (λ ms. sym not_so ∙ c.is_free.ensures ms)

pub returns-in_default-clause-asks : goal.returns-in_default-clause-asks
returns-in_default-clause-asks g c =
    let so : c.is_free.result ≡ true = search rules in
    asks_by (free_leads (with_one (slice_get c.args.code.now.places c.args.group.place)
    (λ (p : Place). grouped c.args.code.now c.args.group.kind c.args.group.arms p)) _ c.requires.ready
    (λ ms. sym so ∙ c.is_free.ensures ms)) (asks_nothing _
    (one_none (λ (p : Place). grouped c.args.code.now c.args.group.kind c.args.group.arms p) _ _ _ (sym c.in_default.ensures.value)))

pub returns-in_default-2-clause-asks : goal.returns-in_default-2-clause-asks
returns-in_default-2-clause-asks g c =
    let so : c.is_free.result ≡ true = search rules in
    let found = one_leads (λ (p : Place). grouped c.args.code.now c.args.group.kind c.args.group.arms p) _ c.in-Some.place.now _
    c.requires.ready (sym c.in-Some.ensures.value) in
    let next = ap (λ k. k + 1) c.place.ensures in
    asks_by (free_leads (with_one (slice_get c.args.code.now.places c.args.group.place)
    (λ (p : Place). grouped c.args.code.now c.args.group.kind c.args.group.arms p)) _ c.requires.ready
    (λ ms. sym so ∙ c.is_free.ensures ms)) (asks_by found
    (group_none c.args.code.now c.args.group.kind c.args.group.arms (c.place.result + 1) c.in-Some.place.now _ _ next
    (told_none _ _ _ c.in_default-2.is c.in_ok-labels.ensures)))

pub returns-then-is_empty-clause-asks : goal.returns-then-is_empty-clause-asks
returns-then-is_empty-clause-asks g c =
    let so : c.is_free.result ≡ true = search rules in
    let none : length c.in-Some-2.labels.items ≡ 0 = search rules in
    let found = one_leads (λ (p : Place). grouped c.args.code.now c.args.group.kind c.args.group.arms p) _ c.in-Some.place.now _
    c.requires.ready (sym c.in-Some.ensures.value) in
    let next = ap (λ k. k + 1) c.place.ensures in
    asks_by (free_leads (with_one (slice_get c.args.code.now.places c.args.group.place)
    (λ (p : Place). grouped c.args.code.now c.args.group.kind c.args.group.arms p)) _ c.requires.ready
    (λ ms. sym so ∙ c.is_free.ensures ms)) (asks_by found
    (group_empty c.args.code.now c.args.group.kind c.args.group.arms (c.place.result + 1) c.in-Some.place.now c.in-Some-2.labels.items _
    _ next (told_some _ _ _ _ c.in-Some-2.is c.in_ok-labels.ensures) none))

pub overflow_cast-first-2 : goal.overflow_cast-first-2
overflow_cast-first-2 g c =
    let some : length c.in-Some-2.labels.items ≡ 0 → ⊥ = search rules in
    let is = told_some _ _ _ _ c.in-Some-2.is c.in_ok-labels.ensures in
    let size : c.len.result ≡ length c.in-Some-2.labels.items = search rules in
    let count = labels_length c.args.code.now.ops (c.place.result + 1) c.args.group.arms c.in-Some-2.labels.items is in
    let fit = labels_fit c.args.code.now.ops (c.place.result + 1) c.args.group.arms c.in-Some-2.labels.items is some in
    let most = c.requires.valid.counts.ops.1 in
    omega (arith, size, count, fit, most)

pub go_to-requires-clause-free : goal.go_to-requires-clause-free
go_to-requires-clause-free g c =
    let so : c.is_free.result ≡ true = search rules in
    sym (c.is_free.ensures []) ∙ so

pub returns-clause-asks : goal.returns-clause-asks
returns-clause-asks g c =
    let so : c.is_free.result ≡ true = search rules in
    let found = one_leads (λ (p : Place). grouped c.args.code.now c.args.group.kind c.args.group.arms p) _ c.in-Some.place.now _
    c.requires.ready (sym c.in-Some.ensures.value) in
    let next = ap (λ k. k + 1) c.place.ensures in
    let is = told_some _ _ _ _ c.in-Some-2.is c.in_ok-labels.ensures in
    let size : c.len.result ≡ length c.in-Some-2.labels.items = search rules in
    let there = ap (λ k. (c.place.result + 1) + k)
    (size ∙ labels_length c.args.code.now.ops (c.place.result + 1) c.args.group.arms c.in-Some-2.labels.items is) in
    let set = settled_moved _ _ _ c.requires.ready (free_bare _ [] (sym (c.is_free.ensures []) ∙ so)) c.go_to.ensures in
    asks_by (free_leads (with_one (slice_get c.args.code.now.places c.args.group.place)
    (λ (p : Place). grouped c.args.code.now c.args.group.kind c.args.group.arms p)) _ c.requires.ready
    (λ ms. sym so ∙ c.is_free.ensures ms)) (asks_by found
    (group_asks c.args.code.now c.args.group.kind c.args.group.arms (c.place.result + 1) _ c.in-Some.place.now
    (record { kind = c.args.group.kind; place = c.in-Some.place.now; labels = c.in-Some-2.labels }) _ _ c.requires.ready next is refl
    refl there c.go_to.ensures set))

pub returns-clause-leaves : goal.returns-clause-leaves
returns-clause-leaves g c =
    let so : c.is_free.result ≡ true = search rules in
    settles _ _ refl (like_moved _ _ _ c.go_to.ensures) (sym (c.is_free.ensures []) ∙ so)
