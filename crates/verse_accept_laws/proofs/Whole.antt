-- An accepted program can be followed, by what is shown of its tables and of its nodes.
use Rattle.std.proofs.Common.{◌≡◌, ℕ, ◌≤◌, List, length, map, All, refl, sym, subst, ◌∙◌}
use Rattle.verse_tree.specs.ItemTree.{ItemTree}
use Rattle.verse_tree.specs.ItemView.{item_of}
use Rattle.verse_tree.specs.Numbering.{program_nodes}
use Rattle.verse_tree.specs.declared.programs.Program.{Program as Made}
use Rattle.verse_rules.specs.Breaking.{NamesBreak}
use Rattle.verse_rules.specs.Sound.{completed, most_size, size_of}
use Rattle.verse_accept.specs.Fronts.{Accepts, all_items}
use Rattle.verse_accept_tables.specs.Sound.{IsSoundProgram}
use Rattle.verse_accept_tables.specs.Laws.{NumbersStand, TablesStand, MainStands, SizeFits}
use Rattle.verse_accept_nodes.specs.Laws.{AcceptedFit, AcceptedStand}
use Rattle.verse_accept_laws.specs.Laws.{AcceptedCanBeFollowed}

-- the program with the count of its nodes that `join` gives it
abbrev counted : Made → List ItemTree → Made
counted made js = record made { tree = record made.tree { nodes = program_nodes js } }

sound : (made : Made) (files : List (List ℕ)) (a : Accepts files (map item_of made.tree.items)) →
    made.names ≡ completed (map item_of made.tree.items) → IsSoundProgram (counted made (all_items a.1.0))
sound made files a names =
    let is = map item_of made.tree.items in
    let tested = a.2 in
    let named = tested.1.1 in
    let typed = tested.1.2 in
    let same : is ≡ a.0 = tested.2.0 ∙ (typed.0 ∙ named.0) in
    record {
      names = names;
      numbered = (all_items a.1.0, same ∙ a.1.2, refl);
      sound = subst (λ js. (n c : ℕ) → NamesBreak js n c → ⊥) (sym same) named.1;
      size = subst (λ js. size_of js ≤ most_size) (sym tested.2.0) tested.2.1;
    }

pub followed : AcceptedFit → AcceptedStand → NumbersStand → TablesStand → MainStands → SizeFits → AcceptedCanBeFollowed
followed fit stand numbers tables main size made files some few a names =
    let is = map item_of made.tree.items in
    let here = counted made (all_items a.1.0) in
    let s = sound made files a names in
    record {
      lowered = record {
        count = (some, few);
        size = size here s;
        nodes = fit files is a;
        tables = tables here s;
        main = main here s;
      };
      numbers = numbers here s;
      nodes = stand files is made a refl;
    }
