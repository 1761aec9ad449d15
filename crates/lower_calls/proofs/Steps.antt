-- Two stretches, one behind the other, by the steps that made them.
use Rattle.std.proofs.Common.{◌≡◌, refl, sym, ap, ◌∙◌, Option, Some, None}
use Rattle.verse_value.specs.Val.{Val}
use Rattle.verse_tree.specs.declared.programs.Program.{Program}
use Rattle.verse_meaning.specs.Programs.{program_of}
use Rattle.verse_meaning.specs.Residuals.{Form}
use Rattle.verse_meaning.specs.Evaluating.{Callee, alone, of_object, of_value, of_quotient, no_callee, spawned_callee}
use Rattle.lower_code.specs.Pieces.{Maker, stuck, ◌then◌}
use Rattle.lower_code.specs.Lowering.{membered, enum_op, by_callee}
use Rattle.lower_lookup.specs.Actions.{form_of}
use Rattle.lower_lookup.specs.Callees.{called}
use Rattle.lower_lookup.specs.declared.actions.Action.{Action}
use Rattle.lower_lookup.specs.declared.callees.Callee.{Callee as Found}
use Rattle.lower_lookup.specs.declared.callees.Callee.TheVariants as found
use Rattle.lower_lookup.specs.Types.{differ_of}
use Rattle.lower_expr.specs.Building.{Built, made}
use Rattle.lower_expr.proofs.Laws.{made_then}

pub two_steps : (f g h : Maker) (b mid last : Built) → mid ≡ made f b → last ≡ made h mid → h ≡ g →
    last ≡ made (f then g) b
two_steps f g h b mid last e k is = k ∙ ap (λ h. made h mid) is ∙ ap (made g) e ∙ sym (made_then f g b)

pub three_steps : (f g h : Maker) (b first second last : Built) → first ≡ made f b → second ≡ made g first →
    last ≡ made h second →
    last ≡ made (f then g then h) b
three_steps f g h b first second last d e k =
    k ∙ ap (made h) (e ∙ ap (made g) d) ∙ sym (made_then f (g then h) b ∙ made_then g h (made f b))

pub same_made : (f g : Maker) (b last : Built) → last ≡ made f b → f ≡ g → last ≡ made g b
same_made f g b last e is = e ∙ ap (λ h. made h b) is

module _ (p : Program) (f : Maker) (b all : Built) (found : Option Val) where
  pub as_value : (v : Val) → Some v ≡ found → all ≡ made (enum_op v) b →
      all ≡ made (membered (program_of p) (differ_of p) found f) b
  unfolding membered
  as_value v e is = is ∙ ap (λ o. made (membered (program_of p) (differ_of p) o f) b) e

  pub as_read : None ≡ found → all ≡ made f b → all ≡ made (membered (program_of p) (differ_of p) found f) b
  unfolding membered
  as_read e is = is ∙ ap (λ o. made (membered (program_of p) (differ_of p) o f) b) e

-- what a callee stands for
module _ (g h i j : Form → Maker) (b all : Built) (c : Callee) where
  pub by_alone : (f : Form) → alone f ≡ c → all ≡ made (g f) b → all ≡ made (by_callee c g h i j) b
  unfolding by_callee
  by_alone f e is = is ∙ ap (λ c. made (by_callee c g h i j) b) e

  pub by_object : (f : Form) → of_object f ≡ c → all ≡ made (h f) b → all ≡ made (by_callee c g h i j) b
  unfolding by_callee
  by_object f e is = is ∙ ap (λ c. made (by_callee c g h i j) b) e

  pub by_value : (f : Form) → of_value f ≡ c → all ≡ made (i f) b → all ≡ made (by_callee c g h i j) b
  unfolding by_callee
  by_value f e is = is ∙ ap (λ c. made (by_callee c g h i j) b) e

  pub by_quotient : (f : Form) → of_quotient f ≡ c → all ≡ made (j f) b → all ≡ made (by_callee c g h i j) b
  unfolding by_callee
  by_quotient f e is = is ∙ ap (λ c. made (by_callee c g h i j) b) e

  pub by_none : no_callee ≡ c → all ≡ made stuck b → all ≡ made (by_callee c g h i j) b
  unfolding by_callee
  by_none e is = is ∙ ap (λ c. made (by_callee c g h i j) b) e

-- what is spawned with an object has it where it is called
pub spawned_object : {A : Type 0} (c : Callee) (f : Form) → spawned_callee c ≡ of_object f →
    ((f : Form) → c ≡ of_object f → A) → A
spawned_object (alone g) f e go = absurd (cc (e))
spawned_object (of_object g) f e go = go g refl
spawned_object (of_value g) f e go = absurd (cc (e))
spawned_object (of_quotient g) f e go = absurd (cc (e))
spawned_object no_callee f e go = absurd (cc (e))

-- neither alone nor of an object
pub by_neither : (g h : Form → Maker) (b all : Built) (c : Callee) (k : Found) → called k ≡ c →
    ((a : Action) → k ≡ found.Alone a → ⊥) → ((a : Action) → k ≡ found.OfObject a → ⊥) → all ≡ made stuck b →
    all ≡ made (by_callee c g h (λ f. stuck) (λ f. stuck)) b
by_neither g h b all c (found.Alone a) e n m is = absurd (n a refl)
by_neither g h b all c (found.OfObject a) e n m is = absurd (m a refl)
by_neither g h b all c (found.OfValue a) e n m is = by_value g h (λ f. stuck) (λ f. stuck) b all c (form_of a) e is
by_neither g h b all c (found.OfQuotient a) e n m is =
    by_quotient g h (λ f. stuck) (λ f. stuck) b all c (form_of a) e is
by_neither g h b all c found.None e n m is = by_none g h (λ f. stuck) (λ f. stuck) b all c e is
