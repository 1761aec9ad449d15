-- In the code of accepted files each arm stands behind its group.
use Rattle.std.proofs.Common.{ℕ, Bool, List, map, refl, sym, subst, inl, All, slice_get}
use Rattle.verse_tree.specs.ItemTree.{ItemTree}
use Rattle.verse_tree.specs.ItemView.{item_of}
use Rattle.verse_tree.specs.PostOrder.{items_order}
use Rattle.verse_tree.specs.declared.tables.Names.{Names}
use Rattle.verse_rules_walk.specs.Order.{InPostOrder}
use Rattle.verse_meaning.specs.Programs.{Program, is_array_type, is_event_type, of_type}
use Rattle.lower_code.specs.Programs.{code_of}
use Rattle.lower_simulation_runs.specs.Programs.{NodeStands}
use Rattle.lower_sound.specs.Laws.{ArmsStand, FineArmsStand}
use Rattle.verse_accept_nodes.specs.Laws.{AcceptedShaped, AcceptedStand}
use Rattle.verse_accept_classes.specs.Laws.{Quiet}
use Rattle.verse_accept_classes.proofs.Tables.{functions_found}
use Rattle.verse_accept_fine.specs.Sorted.{sorted}
use Rattle.verse_accept_sound.specs.Programs.{ProgramsAreFine}
use Rattle.verse_accept_sound.proofs.Told.{tables_tell}
use Rattle.verse_accept_sound.proofs.Whole as sound
use Rattle.verse_lower_sound.specs.Laws.{AcceptedArmsStand}
use Rattle.verse_lower_sound.proofs.Tables.{items_found}

module _ (order : InPostOrder) (shapes : AcceptedShaped) (stands : AcceptedStand) (programs : ProgramsAreFine)
    (arms : FineArmsStand) where
  pub accepted_arms : AcceptedArmsStand
  accepted_arms files made a told differ count =
      let is : List ItemTree = map item_of made.tree.items in
      let arrays : ℕ → Bool = λ n. of_type is_array_type (slice_get made.typed.types n) in
      let events : ℕ → Bool = λ n. of_type is_event_type (slice_get made.typed.types n) in
      let of_names : Names → Program = λ k. record { items = is; names = k; is_array = arrays; is_event = events } in
      let quiet : Quiet is = λ n c b. (sound.sound order shapes programs files is a).named n c (inl b) in
      let functions = functions_found is (sound.numbered order shapes programs files is a) in
      let fine = sound.items_found order shapes programs files is a arrays events
      (tables_tell is made.typed.types told.types) in
      subst (λ k. All (NodeStands (of_names k)) (items_order is) → ArmsStand (code_of (of_names k) differ count).ops) (sym told.names)
      (λ stand. arms _ (record { found = sorted is; fine = fine }) (items_found is quiet functions arrays events)
      stand differ count)
      (stands files is made a refl)
