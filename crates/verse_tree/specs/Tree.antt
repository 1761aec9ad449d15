-- Syntax trees as the definitions see them: no addresses, and no room behind a list.
use Rattle.std.specs.Prelude.{ℕ, ℤ, List, Option}
use Rattle.verse_base.specs.declared.places.Place.{Place}
use Rattle.verse_tree.specs.declared.exprs.Assign.{Assign}
use Rattle.verse_tree.specs.declared.exprs.Comparison.{Comparison}
use Rattle.verse_tree.specs.declared.exprs.Operator.{Operator}

-- a name's or a text's bytes
abbrev pub Bytes : Type 0
Bytes = List ℕ

mutual
  -- a written type; a name in it is a node
  pub data Written : Type 0 where
    int logic char string void : Written
    named : (number : ℕ) (place : Place) (name : Bytes) → Written
    option array task : Written → Written
    map : Written → Written → Written
    tuple : Writtens → Written
    event : Written → Written
    bare_event : Written

  pub data Writtens : Type 0 where
    no_writtens : Writtens
    more_writtens : Written → Writtens → Writtens

mutual
  -- a node with its number and its place
  pub data Tree : Type 0 where
    tree : (number : ℕ) (place : Place) → Shape → Tree

  -- what kind of node it is, with its parts in order
  pub data Shape : Type 0 where
    -- blocks and statements
    block : Trees → Shape
    defer : Tree → Shape
    definition : Bytes → Tree → Shape
    typed variable : Bytes → Written → Tree → Shape
    assignment : Assign → Tree → Tree → Shape
    returned : Tree → Shape
    returned_unit break_form : Shape
    -- `if`: the conditions, the part taken where they hold, and the other
    if_else : Trees → Tree → Tree → Shape
    if_alone : Trees → Tree → Shape
    -- operators
    chained : Operator → Tree → Tree → Shape
    compared : Comparison → Tree → Tree → Shape
    negation minus : Tree → Shape
    -- postfixes
    call index : Tree → Trees → Shape
    member : Tree → Bytes → Shape
    query : Tree → Shape
    -- primary forms
    integer : ℤ → Shape
    character : ℕ → Shape
    text : Bytes → Shape
    holes : Bytes → Holes → Shape
    truth falsehood this : Shape
    name : Bytes → Shape
    tuple array option logic : Trees → Shape
    mapping : Pairs → Shape
    instance : Bytes → Givens → Shape
    event : Written → Shape
    bare_event : Shape
    for_form : Trees → Tree → Shape
    loop_form block_form branch : Tree → Shape
    sync race rush : Trees → Shape
    cases : Tree → Trees → Shape
    spawn : Tree → Shape
    sleep : (milliseconds : ℕ) → Shape
    sleep_forever : Shape
    -- what a `for` takes
    elements : Bytes → Tree → Shape
    entries : Bytes → Bytes → Tree → Shape
    range : Bytes → Tree → Tree → Shape
    -- the arms of a `case`, and their patterns
    arm : Tree → Tree → Shape
    integer_pattern : ℤ → Shape
    -- `-n`, by n
    minus_pattern : ℤ → Shape
    character_pattern : ℕ → Shape
    text_pattern : Bytes → Shape
    truth_pattern falsehood_pattern any_pattern : Shape
    enum_pattern : Bytes → Bytes → Shape

  pub data Trees : Type 0 where
    no_trees : Trees
    more_trees : Tree → Trees → Trees

  -- the holes of a text, each with the text behind it
  pub data Holes : Type 0 where
    no_holes : Holes
    more_holes : Tree → Bytes → Holes → Holes

  -- a map's keys with their values
  pub data Pairs : Type 0 where
    no_pairs : Pairs
    more_pairs : Tree → Tree → Pairs → Pairs

  -- the fields that an instance is given
  pub data Givens : Type 0 where
    no_givens : Givens
    more_givens : Bytes → Tree → Givens → Givens
