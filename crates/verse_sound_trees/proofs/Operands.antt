-- Operands in turn, and then the form.
use Rattle.std.proofs.Common.{◌≡◌, ℕ, Bool, true, List, [], ◌∷◌, ◌++◌, refl, sym, subst}
use Rattle.std.proofs.Common.{append_assoc}
use Rattle.std.proofs.lemmas.List.{append-nil}
use Rattle.verse_tree.specs.Tree.{Tree}
use Rattle.verse_value.specs.Val.{Val}
use Rattle.verse_sorts.specs.Sorts.{Sort}
use Rattle.verse_sorts.specs.Typing.{Typing, Grows, Are, are_no, are_so}
use Rattle.verse_sorts.proofs.Fitting.{is_more, grows_itself, grows_on}
use Rattle.verse_meaning.specs.Programs.{Program}
use Rattle.verse_meaning.specs.Residuals as form
use Rattle.verse_meaning.specs.Residuals.{Env, Form, args}
use Rattle.verse_meaning.specs.Outcomes.{World, Outcome, valued}
use Rattle.verse_meaning.specs.Forms.{Deeper, apply}
use Rattle.verse_meaning.specs.Evaluating.{ev}
use Rattle.verse_meaning.specs.Resuming.{resume, form_done, operands}
use Rattle.verse_meaning.specs.Runs.{deeper}
use Rattle.verse_sound_rules.specs.Found.{Found, Allowed}
use Rattle.verse_sound_rules.specs.Forms.{NoCase}
use Rattle.verse_sound_trees.specs.Outcomes.{any_names}
use Rattle.verse_sound_trees.specs.Going.{Level, Kept, Ready, Comes, Within}
use Rattle.verse_sound_trees.proofs.Going.{Frames, OwnUndone, then}

module _ (p : Program) (k : Deeper) where
  abbrev pub list_args : Env → Form → List Val → List Tree → (m : Bool) → World → Outcome
  list_args e x vs [] m w = apply p k x vs m e w
  list_args e x vs (b ∷ ts) m w = valued (ev p k b m e w) (λ r. args e x vs r ts) (λ y z. list_args e x (vs ++ y ∷ []) ts m z)

  form_done_is : (x : Form) (vs : List Val) (e : Env) (w : World) → NoCase x → form_done p k x vs e w ≡ apply p k x vs true e w
  form_done_is (form.choosing ts) vs e w h = absurd h
  form_done_is x vs e w h = refl

  -- what is woken goes on as what begins
  as_operands : (e : Env) (x : Form) (vs : List Val) (ts : List Tree) (w : World) → NoCase x →
      operands p k e x vs ts w ≡ list_args e x vs ts true w
  as_operands e x vs [] w h = form_done_is x vs e w h
  as_operands e x vs (b ∷ ts) w h = λ i. valued (ev p k b true e w) (λ r. args e x vs r ts) (λ y z. as_operands e x (vs ++ y ∷ []) ts z h i)

module _ (p : Program) where
  args_frames : (e : Env) (x : Form) (vs : List Val) (ts : List Tree) → NoCase x → Frames p (λ r. args e x vs r ts)
      (λ g y. valued y (λ r. args e x vs r ts) (λ v z. list_args p (deeper p g) e x (vs ++ v ∷ []) ts true z))
  args_frames e x vs ts h = record {
    resumes = λ g r i y w. λ j. valued (resume p (deeper p g) r i y w) (λ r. args e x vs r ts)
        (λ v z. as_operands p (deeper p g) e x (vs ++ v ∷ []) ts z h j);
    same_leaves = λ r. refl;
    kids = λ g r w. refl;
  }

module _ (p : Program) (f : Found) (top : Level) (fuel : ℕ) where
  -- it comes to the sort from a typing on, before the level and the depth
  abbrev pub Well : Typing → Allowed → Sort → (ℕ → World → Outcome) → Type 0
  Well t a b go = (l : Level) (g : ℕ) → Within top fuel l g → Ready l a.waits → (u : Typing) (w : World) → Grows t u → Kept p f l u w →
      Comes p f l any_names u a b (go g w)

  pub well_more : (t u : Typing) (a : Allowed) (b : Sort) (go : ℕ → World → Outcome) → Grows t u → Well t a b go → Well u a b go
  well_more t u a b go h i l g s r o w k = i l g s r o w (grows_on h k)

  abbrev pub AllWell : Typing → Allowed → Env → List Tree → List Sort → Type 0
  AllWell t a e [] [] = Unit {0}
  AllWell t a e (b ∷ ts) (q ∷ qs) = Well t a q (λ g w. ev p (deeper p g) b a.waits e w) × AllWell t a e ts qs
  AllWell t a e ts qs = ⊥

  pub all_more : (t u : Typing) (a : Allowed) (e : Env) (ts : List Tree) (qs : List Sort) → Grows t u → AllWell t a e ts qs →
      AllWell u a e ts qs
  all_more t u a e [] [] h i = tt
  all_more t u a e (b ∷ ts) (q ∷ qs) h i =
      (well_more t u a q (λ g w. ev p (deeper p g) b a.waits e w) h i.0, all_more t u a e ts qs h i.1)
  all_more t u a e [] (q ∷ qs) h i = absurd i
  all_more t u a e (b ∷ ts) [] h i = absurd i

  -- the form, for all its operands' values
  abbrev pub Finishes : Typing → Allowed → Env → Form → List Val → List Sort → Sort → Type 0
  Finishes t a e x vs qs d = (l : Level) (g : ℕ) → Within top fuel l g → Ready l a.waits → (u : Typing) (ys : List Val) (w : World) →
      Grows t u →
      Are f.up u ys qs → Kept p f l u w → Comes p f l any_names u a d (apply p (deeper p g) x (vs ++ ys) a.waits e w)

  own_args : (t : Typing) (e : Env) (x : Form) (vs : List Val) (ts : List Tree) → OwnUndone p f (λ r. args e x vs r ts) t
  own_args t e x vs ts u r h i = i

  pub list_typed : (a : Allowed) (e : Env) (x : Form) (d : Sort) → NoCase x → (ts : List Tree) (qs : List Sort) (vs : List Val)
      (t : Typing) →
      AllWell t a e ts qs → Finishes t a e x vs qs d → (l : Level) (g : ℕ) → Within top fuel l g → Ready l a.waits → (w : World) →
      Kept p f l t w →
      Comes p f l any_names t a d (list_args p (deeper p g) e x vs ts a.waits w)
  list_typed a e x d n [] [] vs t h i l g s r w k =
      subst (λ z. Comes p f l any_names t a d (apply p (deeper p g) x z a.waits e w)) (append-nil vs)
      (i l g s r t [] w grows_itself are_no k)
  list_typed a e x d n (b ∷ ts) (q ∷ qs) vs t h i l g s r w k =
      then p f top fuel l g s t a q d (ev p (deeper p g) b a.waits e w) (λ r. args e x vs r ts)
      (λ g1 y z. list_args p (deeper p g1) e x (vs ++ y ∷ []) ts a.waits z) r
      (λ m. subst (λ m. Frames p (λ r. args e x vs r ts) (λ g1 y. valued y (λ r. args e x vs r ts) (λ v z. list_args p (deeper p g1) e x
      (vs ++ v ∷ []) ts m z)))
      (sym m) (args_frames p e x vs ts n))
      (own_args t e x vs ts) (h.0 l g s r t w grows_itself k)
      (λ l1 g1 u y z s1 r1 gr k1 j. list_typed a e x d n ts qs (vs ++ y ∷ []) u (all_more t u a e ts qs gr h.1)
      (λ l2 g2 s2 r2 o ys z2 gs are k2. subst (λ z3. Comes p f l2 any_names o a d (apply p (deeper p g2) x z3 a.waits e z2))
      (sym (append_assoc vs (y ∷ []) ys)) (i l2 g2 s2 r2 o (y ∷ ys) z2 (grows_on gr gs) (are_so
      (is_more f.up gs j) are) k2)) l1 g1 s1 r1 z k1)
  list_typed a e x d n [] (q ∷ qs) vs t h i l g s r w k = absurd h
  list_typed a e x d n (b ∷ ts) [] vs t h i l g s r w k = absurd h
