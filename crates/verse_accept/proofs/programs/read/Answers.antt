-- The layers one behind the other.
use Rattle.std.proofs.Common.{◌≡◌, ◌≤◌, List, length, map, sym, ap, subst, ◌∙◌, arith, rules}
use Rattle.verse_join.specs.Joining.{file_items, joined}
use Rattle.verse_tree.specs.ItemTree.{ItemTree}
use Rattle.verse_tree.specs.Numbering.{items_numbered}
use Rattle.verse_accept.specs.Stages.{makes_each}
use Rattle.verse_accept.specs.Fronts.{laying, spelling, all_items}
use Rattle.verse_accept.specs.Files.{cut_of, laid_of}
use Rattle.verse_accept.specs.declared.files.CutFile.{CutFile}
use Rattle.verse_accept.specs.declared.files.LaidFile.{LaidFile}
use Rattle.verse_accept.proofs.Joined.{few_nodes, all_joined}
use Rattle.verse_accept.proofs.programs.read.Goals as goal

pub join-requires-clause-nodes : goal.join-requires-clause-nodes
join-requires-clause-nodes c =
    let few : length c.in_ok-items.items.items ≤ 16 = search rules in
    few_nodes c.in_ok-items.items.items c.in_ok-items.ensures.few few

pub returns-clause-made : goal.returns-clause-made
returns-clause-made c = (
  map file_items c.in_ok-items.items.items,
  (
    map laid_of c.in_ok-laid.laid.items,
    (
      map cut_of c.in_ok-cuts.cuts.items,
      (map (λ f. f.items) c.args.files.now, c.in_default.ensures.small, c.in_ok-cuts.ensures.made),
      subst (λ (xs : List CutFile). makes_each laying 0 (map cut_of xs) (map laid_of c.in_ok-laid.laid.items)) c.as_slice.ensures.value
          c.in_ok-laid.ensures.made,
    ),
    subst (λ (xs : List LaidFile). makes_each spelling 0 (map laid_of xs) (map file_items c.in_ok-items.items.items))
        c.as_slice-2.ensures.value c.in_ok-items.ensures.made,
  ),
  c.in_ok-join.ensures.items ∙ ap (λ (is : List ItemTree). items_numbered is 0) (sym (all_joined c.in_ok-items.items.items)),
)

pub returns-clause-numbered : goal.returns-clause-numbered
returns-clause-numbered c = (joined c.in_ok-items.items.items, c.in_ok-join.ensures.items, c.in_ok-join.ensures.nodes)
