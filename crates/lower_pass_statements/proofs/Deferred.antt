-- A deferred block, as a statement.
use Rattle.std.proofs.Common.{◌≡◌, ℕ, suc, ◌+◌, List, [], ◌++◌, Option, Some, None, refl, sym, ◌∙◌, subst, ap}
use Rattle.std.specs.Prelude.{option_map}
use Rattle.std.proofs.lemmas.Option.{none-some, same_Some}
use Rattle.verse_code.specs.declared.codes.Code.{Code}
use Rattle.verse_code.specs.declared.operations.Op.TheVariants as o
use Rattle.verse_names_tables.specs.Names.{Table}
use Rattle.verse_sorts.specs.Sorts as s
use Rattle.verse_sorts.specs.Sorts.{Sort, Fits}
use Rattle.verse_sorts.specs.Typing.{AllFit, fit_no}
use Rattle.verse_sound_rules.specs.Found as rules
use Rattle.verse_sound_rules.specs.Found.{Allowed}
use Rattle.verse_verify_kept.specs.Notes.{Notes, Open, parent_of}
use Rattle.verse_verify_kept.specs.Rules as r
use Rattle.verse_verify_kept.specs.Rules.{Asked, asked, no_local, TriesFit, tries_no}
use Rattle.lower_code.specs.declared.arounds.Around.{Around}
use Rattle.lower_code.specs.Arounds.{enclosed, deferring}
use Rattle.lower_code.specs.Pieces as c
use Rattle.lower_code.specs.Pieces.{Maker}
use Rattle.lower_code.specs.Scopes.{Scope}
use Rattle.lower_notes.specs.States.{State, in_block, deferred, pops, gives}
use Rattle.lower_notes.specs.Stretches as n
use Rattle.lower_notes.specs.Stretches.{Walk}
use Rattle.lower_notes.specs.Laws.{Beside}
use Rattle.lower_notes.proofs.Counted as counted
use Rattle.lower_notes.proofs.Counted.{code_then, walk_then}
use Rattle.lower_pass_states.proofs.Points.{pt, names_of, gives_is}
use Rattle.lower_pass_states.proofs.Meeting.{Meets, no_value, leads_to}
use Rattle.lower_pass_states.proofs.Steps as step
use Rattle.lower_pass_stretches.proofs.Begins.{Starts, starts, Begins}
use Rattle.lower_pass_stretches.proofs.Going.{Way, If, itself, Going, Steady, then_goes}
use Rattle.lower_pass_stretches.proofs.Single.{just_goes, ends_goes, IsValue}
use Rattle.lower_pass_stretches.proofs.Combined.{if_map, ahead_goes, opens_nothing, first_noted}
use Rattle.lower_pass_stretches.proofs.Inside.{Inside, steady_of}
use Rattle.lower_pass_contexts.proofs.Deferring.{BlockNoted, inside_block, defer_end_asked, inside_deferring}
use Rattle.lower_pass_contexts.proofs.Contexts.{many_entries}
use Rattle.lower_pass_contexts.proofs.After.{After, after_itself, after_deferred}
use Rattle.lower_pass_forms.proofs.Finishing.{IsOver, drop_goes}
use Rattle.lower_pass_blocks.proofs.Stated.{Next}

first_still : {x : Option State} {zs : List (Option State)} (ys : List (Option State)) → Starts x zs → Starts x (zs ++ ys)
first_still ys starts = starts

module _ (code : Code) (notes : Notes) where
  nothing_fits : {up : ℕ → Option ℕ} {zs : List Sort} → AllFit up [] zs → zs ≡ []
  nothing_fits fit_no = refl

  no_tries : {os : List Open} → TriesFit code notes [] os → os ≡ []
  no_tries tries_no = refl

  -- an operation defers the block that begins behind it
  pub defer_leads : (y : State) (i l : ℕ) → Meets code notes (in_block i y) (suc i) → Meets code notes (deferred i y) l →
      Asked code notes i (pt y) (o.Defer l)
  defer_leads y i l (no_value n) m = no_local n
  defer_leads y i l (leads_to b) (no_value n) = no_local n
  defer_leads y i l (leads_to b) (leads_to t) = asked (r.of_defer (record {
    live = b.live;
    func = b.kin.func;
    arm = b.kin.arm;
    block = sym b.kin.block;
    stack = nothing_fits b.stack;
    tries = no_tries b.tries;
    defers = sym b.defers;
    under = sym b.kin.under ∙ ap (λ k. y.under + k) (sym (many_entries y.defers));
  }) (names_of y ∙ b.kin.outer) b.locals (record {
    point = t.point;
    live = t.live;
    kin = record { func = t.kin.func; arm = t.kin.arm; block = t.kin.block; outer = t.kin.outer; under = t.kin.under };
    locals = t.locals;
    stack = t.stack;
    tries = t.tries;
    defers = t.defers;
  }))

module _ (found : rules.Found) (code : Code) (notes : Notes) (w : Way) (ts : List ℕ) (al : Allowed) (xs : Table) (sc : Scope) (a : Around)
    (x : Option State) (here : If x (Inside code notes found w ts al xs sc a)) where
  steady : If x (Steady code notes ts)
  steady y e = steady_of code notes (here y e)

  -- a state of the block
  abbrev pub InBlock : State → Type 0
  InBlock z = Inside code notes found w ts (rules.deferred al) xs sc (enclosed a) z

  -- the block of the operation of index i is deferred
  pub record IsDeferred (z : State) : Type 0 where
    pub before : State
    pub is : x ≡ Some before
    pub index : ℕ
    pub noted : BlockNoted code notes (Some before) index
    pub state : z ≡ deferred index before

  module _ (q qb : Sort) (fit : Fits (parent_of notes) s.unit q) {f : Maker} {g : Walk} (beside : Beside f g) (begins : Begins g)
      (block : (z : Option State) → If z InBlock → Going code notes w ts z f g itself (IsValue code notes qb z)) where
    abbrev inner_code : Maker
    inner_code = code_then f (code_then (c.one o.Drop) (c.one o.DeferEnd))

    abbrev inner_walk : Walk
    inner_walk = walk_then g (walk_then (n.one (pops 1)) n.ends)

    noted_at : (i : ℕ) → BlockNoted code notes x i → (y : State) → x ≡ Some y → BlockNoted code notes (Some y) i
    noted_at i b y e = subst (λ z. BlockNoted code notes z i) e b

    in_first : (i : ℕ) → BlockNoted code notes x i → If (option_map (in_block i) x) InBlock
    in_first i b = if_map code notes InBlock (in_block i) x (λ y e. inside_block code notes (here y e) i (noted_at i b y e))

    -- the state of the block that a state defers
    block_is : (i : ℕ) (v : State) → option_map (in_block i) x ≡ Some v → (y : State) × ((x ≡ Some y) × (v ≡ in_block i y))
    block_is i v = from x
      where
        from : (x : Option State) → option_map (in_block i) x ≡ Some v → (y : State) × ((x ≡ Some y) × (v ≡ in_block i y))
        from None e = absurd (none-some v e)
        from (Some y) e = (y, (refl, sym (same_Some (in_block i y) v e)))

    ends_block : (i : ℕ) → BlockNoted code notes x i → {u : Option State} → If u (IsOver code notes [] (option_map (in_block i) x)) →
        Going code notes w ts u (c.one o.DeferEnd) n.ends itself (λ z. ⊥)
    ends_block i b above = ends_goes code notes (c.one o.DeferEnd) (λ s. o.DeferEnd) (λ s. refl)
        (λ z e. let k = above z e in subst (Steady code notes ts) (sym k.1.1) (steady_of code notes (in_first i b k.0 k.1.0)))
        (λ z e s. let k = above z e in let j = block_is i k.0 k.1.0 in
        subst (λ v. Asked code notes s.at (pt v) o.DeferEnd) (sym (k.1.1 ∙ j.1.1))
        (defer_end_asked code notes (here j.0 j.1.0) i s.at (noted_at i b j.0 j.1.0)))

    inner_goes : (i : ℕ) → BlockNoted code notes x i →
        Going code notes w ts (option_map (in_block i) x) inner_code inner_walk itself (λ z. ⊥)
    inner_goes i b =
        let calm : If (option_map (in_block i) x) (Steady code notes ts) = λ z e. steady_of code notes (in_first i b z e) in
        then_goes code notes beside (block (option_map (in_block i) x) (in_first i b)) (λ z h.
        then_goes code notes counted.just (drop_goes code notes calm qb [] h) (λ v j. ends_block i b j))

    defers_block : Going code notes w ts x (c.ahead o.Defer inner_code) (n.ahead in_block deferred inner_walk) itself IsDeferred
    defers_block = ahead_goes code notes itself IsDeferred in_block deferred (λ i. ts) o.Defer (BlockNoted code notes x)
        (λ s l. first_noted code notes (suc s.at) (inner_walk (suc s.at) (option_map (in_block s.at) x)).states
        (first_still _ (begins (suc s.at) (option_map (in_block s.at) x))) l.states.1)
        steady (opens_nothing code notes ts o.Defer) inner_goes (λ i z e j m. elim e [ ])
        (λ y e i l m k. defer_leads code notes y i l m k)
        (λ y e i b. record { before = y; is = e; index = i; noted = noted_at i b y e; state = refl })

    -- its value is unit
    unit_behind : {u : Option State} → If u IsDeferred → Going code notes w ts u (c.one o.Unit) (n.one (gives 0 q)) itself
        (Next found code notes w ts al 1 q xs sc (deferring a) x)
    unit_behind above = just_goes code notes (c.one o.Unit) (λ s. o.Unit) (λ s. refl)
        (λ z e. steady_of code notes (behind z (above z e)))
        (λ z e s room m. step.unit_asked code notes z (behind z (above z e)).even
        (subst (λ v. Meets code notes v (suc s.at)) (gives_is q z) m) fit)
        (λ z e s room. let k = above z e in record {
          before = k.before;
          is = k.is;
          state = z;
          above = gives_is q z;
          inside = behind z k;
          after = subst (λ v. After code notes 1 k.before v) (sym k.state)
              (after_deferred code notes (after_itself code notes k.before) k.index);
        })
      where
        behind : (z : State) → IsDeferred z → Inside code notes found w ts al xs sc (deferring a) z
        behind z k = subst (Inside code notes found w ts al xs sc (deferring a)) (sym k.state)
            (inside_deferring code notes (here k.before k.is) k.index k.noted)

    pub defers_goes : Going code notes w ts x (code_then (c.ahead o.Defer inner_code) (c.one o.Unit))
        (walk_then (n.ahead in_block deferred inner_walk) (n.one (gives 0 q))) itself
        (Next found code notes w ts al 1 q xs sc (deferring a) x)
    defers_goes = then_goes code notes (counted.before o.Defer (counted.both beside (counted.both counted.just counted.just_ends)))
        defers_block (λ z h. unit_behind h)
