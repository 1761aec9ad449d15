-- The end of a loop: the jumps out of it get their labels.
use Rattle.std.proofs.Common.{◌≡◌, ℕ, zero, suc, ◌+◌, ◌-◌, List, [], ◌∷◌, ◌++◌, length, map, drop, take, refl, sym, ap, ◌∙◌, arith}
use Rattle.std.proofs.Common.{append_assoc, length-append, append-nil}
use Rattle.std.specs.Prelude.{max, Some, slice_get, slice_set}
use Rattle.std.proofs.Math.Seq.{set-append_seam, drop-append_seam, take-append_seam}
use Rattle.verse_code.specs.declared.operations.Op.{Op}
use Rattle.verse_code.specs.declared.operations.Op.TheVariants as o
use Rattle.lower_code.specs.Pieces.{Item, sure, leaving, Piece, Maker, behind, later, closed, deepest, drops, closing}
use Rattle.lower_expr.specs.Building.{Built, pushed, raw, opened, spot, with_piece, made, height_of, deepest_at, closed_op, closed_at}
use Rattle.lower_expr.specs.Building.{dropped, all_closed, with_exits, loop_ended}
use Rattle.lower_expr.proofs.Laws.{map_more, opened_more, ops_behind, list_behind}

get_at : (xs ys : List Op) (op : Op) (n : ℕ) → n ≡ length xs → slice_get (xs ++ op ∷ ys) n ≡ Some op
get_at xs ys op n e = ap (λ i. slice_get (xs ++ op ∷ ys) i) e ∙ seam xs
  where
    seam : (xs : List Op) → slice_get (xs ++ op ∷ ys) (length xs) ≡ Some op
    seam [] = refl
    seam (x ∷ xs) = seam xs

set_at : (xs ys : List Op) (op op1 : Op) (n : ℕ) → n ≡ length xs → slice_set (xs ++ op ∷ ys) n op1 ≡ xs ++ op1 ∷ ys
set_at xs ys op op1 n e = ap (λ i. slice_set (xs ++ op ∷ ys) i op1) e ∙ set-append_seam xs op ys op1

further : (xs : List Op) (op : Op) (n : ℕ) → n ≡ length xs → suc n ≡ length (xs ++ op ∷ [])
further xs op n e = ap suc e ∙ sym (list_behind xs (op ∷ []))

pub closed_is : (out : ℕ) (is : List Item) (xs zs : List Op) (n : ℕ) → n ≡ length xs →
    closed_at (opened is n) out (xs ++ (map raw is ++ zs)) ≡ xs ++ (map raw (map (closed out) is) ++ zs)
closed_is out [] xs zs n e = refl
closed_is out (sure op ∷ is) xs zs n e =
    ap (closed_at (opened is (suc n)) out) (sym (append_assoc xs (op ∷ []) (map raw is ++ zs)))
    ∙ closed_is out is (xs ++ op ∷ []) zs (suc n) (further xs op n e) ∙ append_assoc xs (op ∷ []) (map raw (map (closed out) is) ++ zs)
closed_is out (leaving h ∷ is) xs zs n e =
    let here : closed_op (slice_get (xs ++ (o.Jump h ∷ (map raw is ++ zs))) n) n out (xs ++ (o.Jump h ∷ (map raw is ++ zs))) ≡ xs ++
    (o.Jump (out - h) ∷ (map raw is ++ zs)) =
    ap (λ g. closed_op g n out (xs ++ (o.Jump h ∷ (map raw is ++ zs)))) (get_at xs (map raw is ++ zs) (o.Jump h) n e) ∙
    set_at xs (map raw is ++ zs) (o.Jump h) (o.Jump (out - h)) n e in
    ap (closed_at (opened is (suc n)) out) (here ∙ sym (append_assoc xs (o.Jump (out - h) ∷ []) (map raw is ++ zs)))
    ∙ closed_is out is (xs ++ o.Jump (out - h) ∷ []) zs (suc n) (further xs (o.Jump (out - h)) n e) ∙
    append_assoc xs (o.Jump (out - h) ∷ []) (map raw (map (closed out) is) ++ zs)

pub deepest_is : (is : List Item) (xs zs : List Op) (n : ℕ) → n ≡ length xs →
    deepest_at (opened is n) (xs ++ (map raw is ++ zs)) ≡ deepest is
deepest_is [] xs zs n e = refl
deepest_is (sure op ∷ is) xs zs n e =
    ap (deepest_at (opened is (suc n))) (sym (append_assoc xs (op ∷ []) (map raw is ++ zs))) ∙
    deepest_is is (xs ++ op ∷ []) zs (suc n) (further xs op n e)
deepest_is (leaving h ∷ is) xs zs n e =
    ap (λ g. max (height_of g) (deepest_at (opened is (suc n)) (xs ++ (o.Jump h ∷ (map raw is ++ zs)))))
    (get_at xs (map raw is ++ zs) (o.Jump h) n e) ∙
    ap (λ l. max h (deepest_at (opened is (suc n)) l)) (sym (append_assoc xs (o.Jump h ∷ []) (map raw is ++ zs))) ∙
    ap (max h) (deepest_is is (xs ++ o.Jump h ∷ []) zs (suc n) (further xs (o.Jump h) n e))

dropped_is : (d : ℕ) (b : Built) → dropped d b ≡ record b { ops = b.ops ++ map raw (drops d []) }
unfolding pushed
dropped_is zero b = ap (λ k. record b { ops = k }) (sym (append-nil b.ops))
dropped_is (suc d) b = dropped_is d (record b { ops = b.ops ++ o.Drop ∷ [] }) ∙
    ap (λ k. record b { ops = k }) (append_assoc b.ops (o.Drop ∷ []) (map raw (drops d [])))

drops_more : (d : ℕ) (is : List Item) → drops d is ≡ drops d [] ++ is
drops_more zero is = refl
drops_more (suc d) is = ap (λ k. sure o.Drop ∷ k) (drops_more d is)

drops_length : (d a : ℕ) → later d a ≡ a + length (map raw (drops d []))
drops_length zero a = omega arith
drops_length (suc d) a = omega (arith, drops_length d (suc a))

opened_drops : (d a : ℕ) → opened (drops d (sure o.Unit ∷ [])) a ≡ []
opened_drops zero a = refl
opened_drops (suc d) a = opened_drops d (suc a)

opened_closed : (out : ℕ) (is : List Item) (a : ℕ) → opened (map (closed out) is) a ≡ []
opened_closed out [] a = refl
opened_closed out (sure op ∷ is) a = opened_closed out is (suc a)
opened_closed out (leaving n ∷ is) a = opened_closed out is (suc a)

pub made_closing : (f : Maker) (b : Built) → made (closing f) b ≡ loop_ended (length b.exits) (made f b)
unfolding made loop_ended all_closed with_exits pushed
made_closing f b =
    let p : Piece = f (spot b) in
    let a : List Op = b.ops in
    let ps : List Op = map raw p.items in
    let d : ℕ = deepest p.items in
    let w : Built = with_piece b p in
    let m : ℕ = length b.exits in
    let es : List ℕ = opened p.items (length a) in
    let out : ℕ = later d (behind p.items (length a)) in
    let q : List Op = map raw (drops d []) in
    let front : drop m w.exits ≡ es = drop-append_seam b.exits es in
    let depth : deepest_at (drop m w.exits) w.ops ≡ d =
    ap (λ k. deepest_at k w.ops) front ∙ ap (λ k. deepest_at es (a ++ k)) (sym (append-nil ps)) ∙
    deepest_is p.items a [] (length a) refl in
    let v : Built = record w { ops = w.ops ++ q } in
    let fell : dropped (deepest_at (drop m w.exits) w.ops) w ≡ v = ap (λ n. dropped n w) depth ∙ dropped_is d w in
    let long : length (w.ops ++ q) ≡ out = omega
    (arith, length-append w.ops q, ops_behind b p, drops_length d (behind p.items (length a))) in
    let shut : closed_at (drop m w.exits) (length (w.ops ++ q)) (w.ops ++ q) ≡ a ++ (map raw (map (closed out) p.items) ++ q) =
    ap (λ k. closed_at k (length (w.ops ++ q)) (w.ops ++ q)) front ∙ ap (λ n. closed_at es n (w.ops ++ q)) long ∙
    ap (closed_at es out) (append_assoc a ps q) ∙ closed_is out p.items a q (length a) refl in
    let ops : a ++ map raw (map (closed out) p.items ++ drops d (sure o.Unit ∷ [])) ≡ (a ++ (map raw (map (closed out) p.items) ++ q)) ++
    o.Unit ∷ [] =
    ap (λ k. a ++ k) (map_more (map (closed out) p.items) (drops d (sure o.Unit ∷ [])) ∙
    ap (λ k. map raw (map (closed out) p.items) ++ k)
    (ap (map raw) (drops_more d (sure o.Unit ∷ [])) ∙ map_more (drops d []) (sure o.Unit ∷ []))
    ∙ sym (append_assoc (map raw (map (closed out) p.items)) q (o.Unit ∷ []))) ∙
    sym (append_assoc a (map raw (map (closed out) p.items) ++ q) (o.Unit ∷ [])) in
    let left : b.exits ++ opened (map (closed out) p.items ++ drops d (sure o.Unit ∷ [])) (length a) ≡ take m w.exits =
    ap (λ k. b.exits ++ k) (opened_more (map (closed out) p.items) (drops d (sure o.Unit ∷ [])) (length a)
    ∙ ap (λ k. k ++ opened (drops d (sure o.Unit ∷ [])) (behind (map (closed out) p.items) (length a)))
    (opened_closed out p.items (length a)) ∙ opened_drops d (behind (map (closed out) p.items) (length a)))
    ∙ append-nil b.exits ∙ sym (take-append_seam b.exits es) in
    let done : record w {
      ops = a ++ map raw (map (closed out) p.items ++ drops d (sure o.Unit ∷ []));
      exits =
          b.exits ++ opened (map (closed out) p.items ++ drops d (sure o.Unit ∷ [])) (length a);
    }
    ≡ record w { ops = closed_at (drop m w.exits) (length (w.ops ++ q)) (w.ops ++ q) ++ o.Unit ∷ []; exits = take m w.exits } =
    ap (λ k. record w { ops = k; exits = b.exits ++ opened (map (closed out) p.items ++ drops d (sure o.Unit ∷ [])) (length a) })
    (ops ∙ ap (λ k. k ++ o.Unit ∷ []) (sym shut))
    ∙ ap (λ k. record w { ops = closed_at (drop m w.exits) (length (w.ops ++ q)) (w.ops ++ q) ++ o.Unit ∷ []; exits = k }) left in
    done ∙ ap (λ (v : Built). record v { ops = closed_at (drop m v.exits) (length v.ops) v.ops ++ o.Unit ∷ []; exits = take m v.exits })
    (sym fell)
