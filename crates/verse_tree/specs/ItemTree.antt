-- What a file defines, as the definitions see it.
use Rattle.std.specs.Prelude.{ℕ, List, Option, Bool}
use Rattle.verse_base.specs.declared.places.Place.{Place}
use Rattle.verse_tree.specs.Tree.{Bytes, Written, Tree}

-- a specifier: where its name stands, and the name
pub record SpecTree : Type 0 where
  pub place : Place
  pub name : Bytes

pub record UsingTree : Type 0 where
  pub number : ℕ
  pub place : Place
  pub path : List (List Bytes)

pub record EnumTree : Type 0 where
  pub number : ℕ
  pub place : Place
  pub name : Bytes
  pub specs : List SpecTree
  pub values : List Bytes

-- a field, with its default where it has one
pub record FieldTree : Type 0 where
  pub number : ℕ
  pub place : Place
  pub is_var : Bool
  pub var_specs : List SpecTree
  pub name : Bytes
  pub specs : List SpecTree
  pub written : Written
  pub default : Option Tree

pub record ParamTree : Type 0 where
  pub number : ℕ
  pub place : Place
  pub name : Bytes
  pub written : Written

pub record FunTree : Type 0 where
  pub number : ℕ
  pub place : Place
  pub name : Bytes
  pub specs : List SpecTree
  pub params : List ParamTree
  pub effects : List SpecTree
  pub written : Written
  pub body : Tree

pub data MemberTree : Type 0 where
  field : FieldTree → MemberTree
  method : FunTree → MemberTree

pub record ClassTree : Type 0 where
  pub number : ℕ
  pub place : Place
  pub name : Bytes
  pub specs : List SpecTree
  pub class_specs : List SpecTree
  pub parent : Option Bytes
  pub members : List MemberTree

pub data ItemTree : Type 0 where
  using : UsingTree → ItemTree
  enumeration : EnumTree → ItemTree
  class : ClassTree → ItemTree
  function : FunTree → ItemTree
