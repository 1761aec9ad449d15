-- The pass over effects breaks no rule at any site, by the variables of all nodes.
use Rattle.std.proofs.Common.{◌≡◌, ℕ, suc, ◌+◌, ◌<◌, Bool, true, false, not, ◌&&◌, List, [], ◌∷◌, ◌++◌, map, length, Option}
use Rattle.std.proofs.Common.{refl, sym, ap, ◌∙◌}
use Rattle.std.proofs.Common.{arith, subst, slice_get, nat_eq, length-append}
use Rattle.std.proofs.lemmas.Bool.Decides.{nat_tests}
use Rattle.std.specs.Prelude.{Some, None}
use Rattle.verse_base.proofs.Facts.{get_front, get_last}
use Rattle.verse_tree.specs.Tree.{Shape}
use Rattle.verse_tree.specs.Tree as s
use Rattle.verse_tree.specs.PostOrder.{What, program, item, member, parameter, type_name, expression}
use Rattle.verse_tree.specs.declared.tables.Names.{Names}
use Rattle.verse_tree.specs.declared.tables.Ref.{Ref}
use Rattle.verse_tree.specs.declared.tables.Ref.TheVariants as ref
use Rattle.verse_rules_least.specs.Least.{first_true, Holds, Broken, here, later}
use Rattle.verse_rules_walk.specs.Around.{Around}
use Rattle.verse_rules_walk.specs.Nodes.{Node, number_of}
use Rattle.verse_check_typing.specs.Steps.{defines_variable}
use Rattle.verse_effects.specs.Callees.{ref_at}
use Rattle.verse_effects.specs.Forms.{entry_holds, is_variable, reads, is_on_path, touches}
use Rattle.verse_effects.specs.Rules.{rules_of, rules_at, is_variable_node, step, Breaks}
use Rattle.verse_effects.specs.declared.seen.Seen.{Seen}
use Rattle.verse_accept_scopes.specs.Lists.{Each}
use Rattle.verse_accept_scopes.specs.Sites.{Site, node_of}
use Rattle.verse_accept_scopes.proofs.Rows.{Row}
use Rattle.verse_accept_rows.specs.Agreeing.{LowRef}
use Rattle.verse_accept_rows.proofs.Quiet.{none_true}

same_shape_defines : (e : Shape) → is_variable_node (expression e) ≡ defines_variable (expression e)
same_shape_defines (s.Shape.variable x w a) = refl
same_shape_defines e = refl

same_defines : (e : What) → is_variable_node e ≡ defines_variable e
same_defines (expression e) = same_shape_defines e
same_defines (item i) = refl
same_defines (member m) = refl
same_defines (parameter p) = refl
same_defines (type_name x) = refl
same_defines (program is) = refl

module _ (k : Names) (ws : List Bool) where
  -- the same variables below n
  abbrev Same : ℕ → List Bool → Type 0
  Same n vs = (m : ℕ) → m < n → slice_get vs m ≡ slice_get ws m

  same_variable : (n : ℕ) (vs : List Bool) (o : Option Ref) → Same n vs → LowRef n o → is_variable k vs o ≡ is_variable k ws o
  same_variable n vs None h l = refl
  same_variable n vs (Some (ref.Local m)) h l = ap entry_holds (h m l)
  same_variable n vs (Some r) h l = refl

  same_reads : (n : ℕ) (vs : List Bool) (a : Around) → Same n vs → LowRef n (ref_at k n) → reads k vs a n ≡ reads k ws a n
  same_reads n vs a h l = ap (λ b. b && not (is_on_path a.used)) (same_variable n vs (ref_at k n) h l)

  same_touches : (n : ℕ) (vs : List Bool) (a : Around) (e : Shape) → Same n vs → LowRef n (ref_at k n) →
      touches k vs a n e ≡ touches k ws a n e
  same_touches n vs a (s.Shape.name x) h l = same_reads n vs a h l
  same_touches n vs a (s.Shape.member b x) h l = same_reads n vs a h l
  same_touches n vs a e h l = refl

  same_rules : (n : ℕ) (vs : List Bool) (a : Around) (e : What) → Same n vs → LowRef n (ref_at k n) →
      rules_of k vs a n e ≡ rules_of k ws a n e
  same_rules n vs a (expression e) h l = rw (same_touches n vs a e h l)
  same_rules n vs a (item i) h l = refl
  same_rules n vs a (member m) h l = refl
  same_rules n vs a (program is) h l = refl
  same_rules n vs a (parameter p) h l = refl
  same_rules n vs a (type_name x) h l = refl

  abbrev pub LowAt : Site → Type 0
  LowAt v = LowRef v.number (ref_at k v.number)

  abbrev pub DefinesAt : Site → Type 0
  DefinesAt v = slice_get ws v.number ≡ Some (defines_variable v.what)

  abbrev pub Kept : Site → Type 0
  Kept v = first_true (rules_at k ws (node_of v)) ≡ None

  vars_step : (v : Node) (x : Seen) → (step k v x).vars ≡ x.vars ++ is_variable_node v.what ∷ []
  unfolding step
  vars_step v x = refl

  one_more : (vs : List Bool) (b : Bool) (n : ℕ) → length vs ≡ n → length (vs ++ b ∷ []) ≡ suc n
  one_more vs b n h = omega (arith, h, length-append vs (b ∷ []))

  same_more : (vs : List Bool) (b : Bool) (n : ℕ) → length vs ≡ n → Same n vs → slice_get ws n ≡ Some b → Same (suc n) (vs ++ b ∷ [])
  same_more vs b n long h e m l = by (nat_eq m n) refl
    where
      by : (q : Bool) → nat_eq m n ≡ q → slice_get (vs ++ b ∷ []) m ≡ slice_get ws m
      by true q =
          let is : m ≡ length vs = grind (arith, nat_tests, q, long) in
          let at : m ≡ n = grind (arith, nat_tests, q) in
          ap (slice_get (vs ++ b ∷ [])) is ∙ get_last vs b ∙ sym e ∙ ap (slice_get ws) (sym at)
      by false q =
          let under : m < n = grind (arith, nat_tests, q, l) in
          get_front vs (b ∷ []) m (omega (arith, under, long)) ∙ h m under

  kept_at : (v : Site) (n : ℕ) (vs : List Bool) → v.number ≡ n → Same n vs → LowAt v → ((c : ℕ) → Holds (rules_at k vs (node_of v)) c →
      ⊥) → Kept v
  kept_at v n vs e h l quiet =
      let same = subst (λ (m : ℕ). Same m vs) (sym e) h in
      none_true (rules_at k ws (node_of v))
      (λ c b. quiet c (subst (λ rs. Holds rs c) (sym (same_rules v.number vs v.around v.what same l)) b))

  pub each_kept : (vs : List Site) (x : Seen) (n hi : ℕ) → Row n vs hi → length x.vars ≡ n → Same n x.vars → Each LowAt vs →
      Each DefinesAt vs →
      ((m c : ℕ) → Broken number_of (step k) (Breaks k) (map node_of vs) x m c → ⊥) → Each Kept vs
  each_kept [] x n hi r long h low defines quiet = tt
  each_kept (v ∷ vs) x n hi r long h low defines quiet =
      let own = vars_step (node_of v) x in
      let b = is_variable_node v.what in
      let entry : slice_get ws n ≡ Some b = ap (slice_get ws) (sym r.0) ∙ defines.0 ∙ ap Some (sym (same_defines v.what)) in (
        kept_at v n x.vars r.0 h low.0 (λ c q. quiet v.number c (here q)),
        each_kept vs (step k (node_of v) x) (suc n) hi r.1 (ap length own ∙ one_more x.vars b n long)
            (subst (Same (suc n)) (sym own) (same_more x.vars b n long h entry)) low.1 defines.1 (λ m c q. quiet m c (later q)),
      )
