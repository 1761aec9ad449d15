-- What is found at the nodes of a program that breaks no rule.
use Rattle.std.proofs.Common.{◌≡◌, ℕ, ◌<◌, true, not, List, [], ◌∷◌, map, length, refl, sym, ap, ◌∙◌}
use Rattle.std.proofs.Common.{inl, inr}
use Rattle.std.proofs.Common.{arith, subst}
use Rattle.std.specs.Prelude.{None}
use Rattle.std.proofs.lemmas.Bool.{not-false}
use Rattle.verse_tree.specs.ItemTree.{ItemTree}
use Rattle.verse_tree.specs.Shapes.{ItemsShaped}
use Rattle.verse_rules_least.specs.Least.{each, first_true, Broken}
use Rattle.verse_check_typing.specs.Refs.{referred}
use Rattle.verse_rules_walk.specs.Nodes.{Node, number_of, items_nodes}
use Rattle.verse_rules_walk.specs.Order.{AreNumbered}
use Rattle.verse_rules_walk.proofs.Order.{numbers_in_row}
use Rattle.verse_check_typing.specs.Facts.{World, Facts, world_of, or_never, or_false, type_at}
use Rattle.verse_check_typing.specs.Judgement.{Judgement}
use Rattle.verse_check_typing.specs.Steps.{own_rules, rules_at, serves_as, type_by, cut, served, own, judge, step, Breaks}
use Rattle.verse_check_typing.specs.Steps.{begun}
use Rattle.verse_check.specs.Checking.{all_seen}
use Rattle.verse_effects.specs.Rules as effects
use Rattle.verse_effects.specs.Callees as callees
use Rattle.verse_rules.specs.Naming.{named}
use Rattle.verse_rules.specs.Sound.{completed, types_of, IsSound}
use Rattle.verse_accept_scopes.specs.Lists.{Each}
use Rattle.verse_accept_scopes.specs.Sites.{Site, node_of, program_sites}
use Rattle.verse_accept_scopes.specs.Laws.{Stands}
use Rattle.verse_accept_scopes.proofs.Rows.{Row, row_of, each_weaker}
use Rattle.verse_accept_scopes.proofs.Whole.{walked_are_sites, sites_stand, worlds_are, holds_on_items}
use Rattle.verse_accept_rows.specs.Agreeing.{LowRef}
use Rattle.verse_accept_rows.specs.Found.{final, Found}
use Rattle.verse_accept_rows.specs.Laws.{AllFound, ItemsFound}
use Rattle.verse_accept_rows.proofs.Quiet.{none_true, first_kept, rest_kept}
use Rattle.verse_accept_rows.proofs.Naming.{WideWorld, outside_wide, inside_wide, refers_low}
use Rattle.verse_accept_rows.proofs.Names.{Named, all_named, NamesKept, all_kept}
use Rattle.verse_accept_rows.proofs.Passing.{Typed, NamedLow, each_typed, ref_low}
use Rattle.verse_accept_rows.proofs.Effects as eff

each_both : {A : Type 0} {P Q : A → Type 0} (R : A → Type 0) → ((x : A) → P x → Q x → R x) → (xs : List A) → Each P xs → Each Q xs →
    Each R xs
each_both R f [] h g = tt
each_both R f (x ∷ xs) h g = (f x h.0 g.0, each_both R f xs h.1 g.1)

-- a node that breaks no rule has the type of its row, and may be used as it is
module _ (f : Facts) (v : Node) (h : first_true (rules_at f v) ≡ None) where
  own_kept : first_true (own_rules f v.around v.number v.what) ≡ None
  own_kept = rest_kept 50 (not (serves_as f v.around.used v.what (own f v).ty)) (own_rules f v.around v.number v.what) h

  own_is : own f v ≡ record { ty = type_by f v.number v.what; code = None }
  own_is = ap (cut (type_by f v.number v.what)) own_kept

  serves_own : serves_as f v.around.used v.what (own f v).ty ≡ true
  serves_own = not-false (serves_as f v.around.used v.what (own f v).ty)
      (first_kept 50 (not (serves_as f v.around.used v.what (own f v).ty)) (own_rules f v.around v.number v.what) h)

  its_type : (judge f v).ty ≡ type_by f v.number v.what
  its_type = ap (λ b. (served b (own f v)).ty) serves_own ∙ ap (λ (j : Judgement). j.ty) own_is

  it_serves : serves_as f v.around.used v.what (type_by f v.number v.what) ≡ true
  it_serves = subst (λ (j : Judgement). serves_as f v.around.used v.what j.ty ≡ true) own_is serves_own

-- ---- a program

module _ (is : List ItemTree) (shaped : ItemsShaped is) (numbered : AreNumbered is) (sound : IsSound is) where
  abbrev sites : List Site
  sites = program_sites is

  abbrev k : World
  k = world_of (named is) is

  row : Row 0 sites (length sites)
  row = row_of sites (items_nodes is) (walked_are_sites is shaped) (numbers_in_row is numbered)

  stand : Each Stands sites
  stand = sites_stand is shaped numbered

  names : Each (Named is) sites
  names = all_named is shaped (length sites) row

  kept : Each NamesKept sites
  kept = all_kept is shaped (λ n c b. sound.named n c (inr b))

  low_at : (v : Site) → WideWorld v.world → Stands v → Named is v → NamedLow k v
  low_at v w s e = subst (LowRef v.number) (sym e) (refers_low v.number v.world v.locals w s.locals v.subject)

  lows : Each (NamedLow k) sites
  lows =
      let wide = worlds_are WideWorld is (outside_wide is) (λ c l. inside_wide is c) shaped in
      let both = each_both (λ (v : Site). WideWorld v.world × Stands v) (λ v w s. (w, s)) sites wide stand in
      each_both (NamedLow k) (λ v p e. low_at v p.0 p.1 e) sites both names

  types_quiet : (n c : ℕ) → Broken number_of (step k) (Breaks k) (map node_of sites) begun n c → ⊥
  types_quiet n c b =
      sound.typed n c (inl (subst (λ (vs : List Node). Broken number_of (step k) (Breaks k) vs begun n c) (walked_are_sites is shaped) b))

  no_less : {A : Type 0} (m : ℕ) → m < 0 → A
  no_less m h = absurd (omega (arith, h))

  typed : Each (Typed k (all_seen (named is) is)) sites
  typed =
      subst (λ (vs : List Node). Each (Typed k (each (step k) vs begun)) sites) (walked_are_sites is shaped)
      (each_typed k sites begun 0 (length sites) row (record { types = refl; refs = refl; vars = refl }) stand lows
      (λ m h. no_less m h) types_quiet)

  -- members refer to fields and methods, so that all references are low
  low_effects : (v : Site) → NamedLow k v → Typed k (all_seen (named is) is) v → eff.LowAt (completed is) (final is).vars v
  low_effects v h t =
      subst (LowRef v.number) (sym (ap callees.referred t.ref)) (ref_low k (final is) v.number v.what h)

  effects_quiet : (n c : ℕ) →
      Broken number_of (effects.step (completed is)) (effects.Breaks (completed is)) (map node_of sites) effects.begun n c → ⊥
  effects_quiet n c b =
      sound.typed n c (inr (subst (λ (vs : List Node).
      Broken number_of (effects.step (completed is)) (effects.Breaks (completed is)) vs effects.begun n c) (walked_are_sites is shaped) b))

  effects_kept : Each (eff.Kept (completed is) (final is).vars) sites
  effects_kept =
      eff.each_kept (completed is) (final is).vars sites effects.begun 0 (length sites) row refl (λ m h. no_less m h)
      (each_both (eff.LowAt (completed is) (final is).vars) low_effects sites lows typed)
      (each_weaker (λ v t. t.var) sites typed) effects_quiet

  found : (v : Site) → Stands v × Named is v × NamesKept v →
      Typed k (all_seen (named is) is) v × eff.Kept (completed is) (final is).vars v →
      Found is v
  found v a b =
      let f = final is in
      let quiet = none_true (rules_at f (node_of v)) b.0.rules in
      let its : type_at (types_of is) v.number ≡ type_by f v.number v.what =
      ap or_never b.0.type ∙ its_type f (node_of v) quiet in
      record {
        stands = a.0;
        type = its;
        serves = ap (serves_as f v.around.used v.what) its ∙ it_serves f (node_of v) quiet;
        types = own_kept f (node_of v) quiet;
        ref = ap referred b.0.ref;
        named = a.1;
        names = a.2;
        var = ap or_false b.0.var;
        left = b.0.left;
        effects = b.1;
      }

  all : Each (Found is) sites
  all =
      let ones = each_both (λ (v : Site). Named is v × NamesKept v) (λ v n k. (n, k)) sites names kept in
      let first = each_both (λ (v : Site). Stands v × Named is v × NamesKept v) (λ v s n. (s, n.0, n.1)) sites stand ones in
      let second = each_both (λ (v : Site). Typed k (all_seen (named is) is) v × eff.Kept (completed is) (final is).vars v)
      (λ v t e. (t, e)) sites typed effects_kept in
      each_both (Found is) found sites first second

pub all_found : AllFound
all_found is shaped numbered sound = all is shaped numbered sound

pub items_found : ItemsFound
items_found is shaped numbered sound = holds_on_items (Found is) is shaped numbered (all is shaped numbered sound)
