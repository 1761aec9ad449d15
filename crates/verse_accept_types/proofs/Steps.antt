-- What is found at each node is told by the tables, where what is written at it is narrow.
use Rattle.std.proofs.Common.{◌≡◌, ℕ, zero, suc, ◌≤◌, Bool, true, false, List, [], ◌∷◌, Option, Some, None, refl, arith}
use Rattle.std.proofs.lemmas.Bool.{ltb-false}
use Rattle.verse_tree.specs.ItemTree.{MemberTree, field, method, ItemTree, using, enumeration, class, function}
use Rattle.verse_tree.specs.PostOrder.{What, program, item, member, parameter, type_name, expression}
use Rattle.verse_tree.specs.declared.tables.Ref.{Ref}
use Rattle.verse_rules_types.specs.Types.{Ty}
use Rattle.verse_rules_types.specs.Kinds.{levels}
use Rattle.verse_rules_least.specs.Least.{each, first_true}
use Rattle.verse_rules_walk.specs.Around.{Around}
use Rattle.verse_rules_walk.specs.Nodes.{Node}
use Rattle.verse_names_tables.specs.Functions.{named_type}
use Rattle.verse_check_typing.specs.Refs.{ref_at}
use Rattle.verse_check_typing.specs.Facts.{World, Facts, named_ref, type_at}
use Rattle.verse_check_typing.specs.Judgement.{Judgement}
use Rattle.verse_check_typing.specs.Steps.{Sight, facts, type_by, ref_by, own_rules, expression_rules, type_rules, cut, own, served, judge}
use Rattle.verse_check_typing.specs.Steps.{step}
use Rattle.verse_check_typing.specs.Steps.{serves_as, item_type, member_type}
use Rattle.verse_accept_scopes.specs.Lists.{Each}
use Rattle.verse_accept_scopes.proofs.Rows.{each_joined}
use Rattle.verse_accept_rows.proofs.Quiet.{no_rule}
use Rattle.verse_accept_nodes.proofs.Fine.{WhatNarrow}
use Rattle.verse_accept_types.proofs.Bounds.{IsNamed, Good, never_good}
use Rattle.verse_accept_types.proofs.Rows.{RefNamed, WorldNamed, FactsNamed, written_named, row_named, shape_ref_named}

-- ---- what breaks no rule is not too deep

type_low : (u : Ty) → first_true (type_rules u) ≡ None → levels u ≤ 32
type_low u h = ltb-false 32 (levels u) (no_rule (type_rules u) h 1 _ refl)

pub own_low : (f : Facts) (a : Around) (n : ℕ) (x : What) → first_true (own_rules f a n x) ≡ None → levels (type_by f n x) ≤ 32
own_low f a n (expression x) h = ltb-false 32 _ (no_rule (expression_rules f a n x) h 11 _ refl)
own_low f a n (item i) h = type_low (item_type f i) h
own_low f a n (member m) h = type_low (member_type f m) h
own_low f a n (parameter q) h = type_low _ h
own_low f a n (type_name x) h = type_low (named_type (named_ref f n)) h
own_low f a n (program is) h = omega arith

module _ (classes enums : ℕ) where
  abbrev Named : Ty → Type 0
  Named = IsNamed classes enums

  abbrev Fair : Ty → Type 0
  Fair = Good classes enums

  abbrev Known : Option Ref → Type 0
  Known = RefNamed classes enums

  module _ (f : Facts) (g : FactsNamed classes enums f) where
    item_named : (i : ItemTree) → WhatNarrow 0 (item i) → Named (item_type f i)
    item_named (using u) h = tt
    item_named (enumeration e) h = tt
    item_named (class c) h = tt
    item_named (function d) h = written_named classes enums f.world.names.refs g.world.refs d.written h

    member_named : (m : MemberTree) → WhatNarrow 0 (member m) → Named (member_type f m)
    member_named (field d) h = written_named classes enums f.world.names.refs g.world.refs d.written h
    member_named (method d) h = written_named classes enums f.world.names.refs g.world.refs d.written h

    type_named : (n : ℕ) (x : What) → n ≤ 4294967295 → WhatNarrow n x → Named (type_by f n x)
    type_named n (expression x) l h = row_named classes enums f g n x l h
    type_named n (item i) l h = item_named i h
    type_named n (member m) l h = member_named m h
    type_named n (parameter q) l h = written_named classes enums f.world.names.refs g.world.refs q.written h
    type_named n (type_name x) l h = g.world.refs n
    type_named n (program is) l h = tt

    ref_named : (n : ℕ) (x : What) → Known (ref_by f n x)
    ref_named n (expression x) = shape_ref_named classes enums f g n x
    ref_named n (item i) = g.world.refs n
    ref_named n (member m) = g.world.refs n
    ref_named n (parameter q) = g.world.refs n
    ref_named n (type_name x) = g.world.refs n
    ref_named n (program is) = g.world.refs n

    -- what breaks a rule has the type never

    cut_good : (u : Ty) (c : Option ℕ) → (c ≡ None → Fair u) → Fair (cut u c).ty
    cut_good u None h = h refl
    cut_good u (Some c) h = never_good classes enums

    served_good : (b : Bool) (j : Judgement) → Fair j.ty → Fair (served b j).ty
    served_good true j h = h
    served_good false j h = never_good classes enums

    judged_good : (v : Node) → v.number ≤ 4294967295 → WhatNarrow v.number v.what → Fair (judge f v).ty
    judged_good v l h =
        served_good (serves_as f v.around.used v.what (own f v).ty) (own f v)
        (cut_good (type_by f v.number v.what) (first_true (own_rules f v.around v.number v.what))
        (λ e. (type_named v.number v.what l h, own_low f v.around v.number v.what e)))

  -- ---- from node to node

  pub record SightNamed (x : Sight) : Type 0 where
    pub types : Each Fair x.types
    pub refs : Each Known x.refs

  pub type_at_good : (us : List Ty) → Each Fair us → (n : ℕ) → Fair (type_at us n)
  type_at_good [] h n = never_good classes enums
  type_at_good (u ∷ us) h zero = h.0
  type_at_good (u ∷ us) h (suc n) = type_at_good us h.1 n

  pub ref_at_known : (rs : List (Option Ref)) → Each Known rs → (n : ℕ) → Known (ref_at rs n)
  ref_at_known [] h n = tt
  ref_at_known (r ∷ rs) h zero = h.0
  ref_at_known (r ∷ rs) h (suc n) = ref_at_known rs h.1 n

  pub record Fits (v : Node) : Type 0 where
    pub number : v.number ≤ 4294967295
    pub narrow : WhatNarrow v.number v.what

  module _ (k : World) (w : WorldNamed classes enums k) where
    facts_named : (x : Sight) → SightNamed x → FactsNamed classes enums (facts k x)
    facts_named x h = record {
      world = w;
      types = λ n. (type_at_good x.types h.types n).0;
      refs = λ n. ref_at_known x.refs h.refs n;
    }

    step_named : (v : Node) (x : Sight) → Fits v → SightNamed x → SightNamed (step k v x)
    unfolding step
    step_named v x d h = record {
      types = each_joined Fair x.types ((judge (facts k x) v).ty ∷ []) h.types
          (judged_good (facts k x) (facts_named x h) v d.number d.narrow, tt);
      refs = each_joined Known x.refs (ref_by (facts k x) v.number v.what ∷ []) h.refs
          (ref_named (facts k x) (facts_named x h) v.number v.what, tt);
    }

    pub all_named : (vs : List Node) (x : Sight) → Each Fits vs → SightNamed x → SightNamed (each (step k) vs x)
    all_named [] x d h = h
    all_named (v ∷ vs) x d h = all_named vs (step k v x) d.1 (step_named v x d.0 h)
