-- The notes of classes, their outlines and their entries in the table stand in the order of the items.
use Rattle.std.proofs.Common.{◌≡◌, ℕ, suc, ◌+◌, List, [], ◌∷◌, map, length, refl, sym, ap, ◌∙◌}
use Rattle.std.proofs.lemmas.List.{length-map}
use Rattle.verse_tree.specs.ItemTree.{ClassTree, ItemTree, using, enumeration, class, function}
use Rattle.verse_rules_types.specs.Types.{Class}
use Rattle.verse_names_tables.specs.Counting.{counted, no_counts}
use Rattle.verse_names_tables.specs.declared.counting.Counts.{Counts}
use Rattle.verse_names_tables.specs.Notes.{Note, notes}
use Rattle.verse_names_tables.specs.Indexing.{outlined}
use Rattle.verse_names_declarations.specs.Known.{Known, known}
use Rattle.verse_names_items.specs.Tables.{class_tables_from, class_tables}
use Rattle.verse_rules.specs.Naming.{made_class}
use Rattle.verse_meaning.specs.Programs.{classes}

abbrev pub tree_of : Note → ClassTree
tree_of n = n.item

pub notes_are : (is : List ItemTree) (n : Counts) → map tree_of (notes (counted n is)) ≡ classes is
notes_are [] n = refl
notes_are (using u ∷ is) n = notes_are is _
notes_are (enumeration e ∷ is) n = notes_are is _
notes_are (class c ∷ is) n = ap (λ cs. c ∷ cs) (notes_are is _)
notes_are (function f ∷ is) n = notes_are is _

pub notes_many : (is : List ItemTree) → length (known is).notes ≡ length (classes is)
notes_many is = sym (length-map (notes (counted no_counts is)) tree_of) ∙ ap length (notes_are is no_counts)

pub outline_many : (is : List ItemTree) → length (known is).outline ≡ length (classes is)
outline_many is = length-map (known is).notes (outlined (known is).index.classes) ∙ notes_many is

tables_many : (k : Known) (c : ℕ) (os : List Class) → length (map made_class (class_tables_from k c os)) ≡ length os
tables_many k c [] = refl
tables_many k c (o ∷ os) = ap suc (tables_many k (c + 1) os)

pub classes_many : (is : List ItemTree) → length (map made_class (class_tables (known is))) ≡ length (classes is)
classes_many is = tables_many (known is) 0 (known is).outline ∙ outline_many is
