-- The code of a whole program.
use Rattle.std.proofs.Common.{◌≡◌, ℕ, zero, suc, ◌+◌, ◌-◌, ◌<◌, ◌≤◌, List, [], ◌∷◌, map, Bool}
use Rattle.std.proofs.Common.{refl, sym, ap, ◌∙◌, arith, subst}
use Rattle.verse_tree.specs.Tree.{Shape}
use Rattle.verse_tree.specs.Tree as t
use Rattle.verse_tree.specs.PostOrder.{What, expression, Node}
use Rattle.verse_tree.specs.PostOrder.{items_order}
use Rattle.verse_code.specs.declared.operations.Op.{Op}
use Rattle.verse_code.specs.declared.operations.Op.TheVariants as o
use Rattle.verse_code.specs.Operations as operations
use Rattle.verse_meaning.specs.Programs.{Program}
use Rattle.verse_sound_rules.specs.Found.{Found}
use Rattle.lower_code.specs.Pieces.{Item, sure, leaving}
use Rattle.lower_code.specs.Arounds.{fresh}
use Rattle.lower_code.specs.Programs.{Body, all_bodies, item_op, first_spot, bodies_from, whole}
use Rattle.lower_bounds.specs.Laws.{HasNoDefer, IsNoDefer}
use Rattle.lower_bounds.proofs.Lists.{Each}
use Rattle.lower_bounds.proofs.Bodies.{BodyHas, all_have, all_each, each_all}
use Rattle.lower_bounds.proofs.Defers.{defers_show}
use Rattle.lower_code_defers.specs.Counts.{begins, ends, how_many, defers_shape, defers_what, defers_in}
use Rattle.lower_code_defers.specs.Programs.{BodyIsFine, NodeShows}
use Rattle.lower_code_defers.specs.Laws.{HasCode, FineDefersShow}
use Rattle.lower_code_defers.proofs.Counted.{leaves, tally, Has, both, then_other, none, just}
use Rattle.lower_code_defers.proofs.Nodes.{in_bodies, all_count}
use Rattle.lower_code_defers.proofs.Forms.{counts}

-- ---- operations, and the items that they are of

how_many_is : (f : Op → ℕ) → f o.Unit ≡ 0 → (is : List Item) → how_many f (map item_op is) ≡ tally f is
how_many_is f e [] = refl
how_many_is f e (sure op ∷ is) = omega (arith, how_many_is f e is)
how_many_is f e (leaving n ∷ is) = omega (arith, how_many_is f e is, e)

-- ---- a program without `defer`

no_defer : (s : Shape) → defers_shape s ≡ 0 → IsNoDefer s
no_defer (t.Shape.defer b) e = absurd (omega (arith, e))
no_defer s e = tt

of_expression : (x : What) → defers_what x ≡ 0 → (s : Shape) → x ≡ expression s → IsNoDefer s
of_expression x e s h = no_defer s (sym (ap defers_what h) ∙ e)

none_have : (vs : List Node) → defers_in vs ≡ 0 → Each HasNoDefer vs
none_have [] e = tt
none_have (v ∷ vs) e = (of_expression v.what (omega (arith, e)), none_have vs (omega (arith, e)))

-- ---- operations by their codes

-- one of the kind is there
first_of : (f : Op → ℕ) (code n m : ℕ) (op : Op) (ops : List Op) → f op ≡ n → (0 < f op → operations.code_of op ≡
    code) →
    0 < n + m → (0 < m → HasCode ops code) → HasCode (op ∷ ops) code
first_of f code zero m op ops e h l rest =
    let x = rest (omega (arith, l)) in record { at = suc x.at; op = x.op; there = x.there; coded = x.coded }
first_of f code (suc n) m op ops e h l rest = record { at = 0; op = op; there = refl; coded = h (omega (arith, e)) }

some_there : (f : Op → ℕ) (code : ℕ) → ((op : Op) → 0 < f op → operations.code_of op ≡ code) → (ops : List Op) →
    0 < how_many f ops → HasCode ops code
some_there f code h [] l = absurd (omega (arith, l))
some_there f code h (op ∷ ops) l =
    first_of f code (f op) (how_many f ops) op ops refl (h op) l (some_there f code h ops)

begin_code : (op : Op) → 0 < begins op → operations.code_of op ≡ 64
begin_code (o.Defer n) l = refl
begin_code op l = absurd (omega (arith, l))

leave_code : (op : Op) → 0 < leaves op → operations.code_of op ≡ 65
leave_code (o.Leave n) l = refl
leave_code op l = absurd (omega (arith, l))

end_code : (op : Op) → 0 < ends op → operations.code_of op ≡ 66
end_code o.DeferEnd l = refl
end_code op l = absurd (omega (arith, l))

of_codes : {ops : List Op} → HasCode ops 64 → HasCode ops 65 → HasCode ops 66 → (code : ℕ) → 64 ≤ code → code ≤ 66 →
    HasCode ops code
of_codes {ops} x y z code h k = by (code - 64) (omega (arith, h)) (omega (arith, h, k))
  where
    by : (n : ℕ) → code ≡ 64 + n → n ≤ 2 → HasCode ops code
    by zero e l = subst (HasCode ops) (let same : 64 ≡ code = omega (arith, e) in same) x
    by (suc zero) e l = subst (HasCode ops) (let same : 65 ≡ code = omega (arith, e) in same) y
    by (suc (suc zero)) e l = subst (HasCode ops) (let same : 66 ≡ code = omega (arith, e) in same) z
    by (suc (suc (suc n))) e l = absurd (omega (arith, l))

only_where : (n : ℕ) → (n ≡ 0 → ⊥) → 0 < n
only_where zero h = absurd (h refl)
only_where (suc n) h = omega arith

-- ---- all bodies

module _ (p : Program) (differ : ℕ → ℕ → Bool) (f : Found) where
  in_turn : (bs : List Body) → Each (BodyIsFine p f) bs → Each (BodyHas (NodeShows p)) bs →
      Has (bodies_from p differ bs) (in_bodies bs)
  in_turn [] h k = none
  in_turn (b ∷ bs) h k = both (then_other (counts p differ f b.body k.0 h.0.allowed h.0.visible b.scope fresh h.0.fine)
      (just o.Return (refl, refl))) (in_turn bs h.1 k.1)

pub fine_defers_show : FineDefersShow
fine_defers_show p f fine shows differ files =
    let is : List Item = (whole p differ).items in
    let code = in_turn p differ f (all_bodies p.items) (all_each (BodyIsFine p f) (all_bodies p.items) fine)
    (all_have (NodeShows p) p.items (all_each (NodeShows p) (items_order p.items) shows)) in
    let all = all_count p.items in
    record {
      begin = how_many_is begins refl is ∙ code.begin first_spot ∙ all;
      end = how_many_is ends refl is ∙ code.end first_spot ∙ all;
      there = λ l.
          let begin = how_many_is begins refl is ∙ code.begin first_spot ∙ all in
          let end = how_many_is ends refl is ∙ code.end first_spot ∙ all in
          of_codes (some_there begins 64 begin_code (map item_op is) (omega (arith, l, begin)))
          (some_there leaves 65 leave_code (map item_op is)
          (omega (arith, how_many_is leaves refl is, code.left first_spot (omega (arith, l, all)))))
          (some_there ends 66 end_code (map item_op is) (omega (arith, l, end)));
      only = λ n h x. only_where (defers_in (items_order p.items)) (λ e.
          let low = defers_show p differ files
          (each_all HasNoDefer (items_order p.items) (none_have (items_order p.items) e)) x.at x.op x.there in
          absurd (omega (arith, low, h, x.coded)));
    }
