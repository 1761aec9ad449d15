-- What a maker that is put together of others adds to the code so far.
use Rattle.std.proofs.Common.{◌≡◌, ℕ, suc, List, [], ◌∷◌, ◌++◌, length, map, refl, sym, ap, ◌∙◌, arith, append_assoc, length-append}
use Rattle.std.proofs.Common.{append-nil}
use Rattle.std.specs.Prelude.{max, Some, slice_get, slice_set}
use Rattle.verse_base.specs.declared.places.Place.{Place}
use Rattle.verse_tree.specs.Tree.{Bytes}
use Rattle.verse_code.specs.declared.operations.Op.{Op}
use Rattle.verse_code.specs.declared.operations.Op.TheVariants as o
use Rattle.lower_code.specs.Pieces.{Spot, Item, sure, leaving, Piece, Maker, behind, next, past, joined, ◌then◌, one, nothing}
use Rattle.lower_code.specs.Pieces.{placed, numbering, texted, put_away, stuck, leave_loop, ahead, either, either_of, from_here}
use Rattle.lower_code.specs.Pieces.{using_locals}
use Rattle.std.proofs.Math.Seq.{set-append_seam}
use Rattle.lower_code.proofs.Standing.{behind_is}
use Rattle.lower_expr.specs.Building.{Built, pushed, with_place, with_text, with_local, opened_jump, relabelled, patched, patched_ops}
use Rattle.lower_expr.specs.Building.{ended_here, raw, opened, spot, with_piece, made}

pub length_raw : (is : List Item) → length (map raw is) ≡ length is
length_raw [] = refl
length_raw (i ∷ is) = ap suc (length_raw is)

pub map_more : (is js : List Item) → map raw (is ++ js) ≡ map raw is ++ map raw js
map_more [] js = refl
map_more (i ∷ is) js = ap (λ k. raw i ∷ k) (map_more is js)

pub opened_more : (is js : List Item) (a : ℕ) → opened (is ++ js) a ≡ opened is a ++ opened js (behind is a)
opened_more [] js a = refl
opened_more (sure op ∷ is) js a = opened_more is js (suc a)
opened_more (leaving n ∷ is) js a = ap (λ k. a ∷ k) (opened_more is js (suc a))

pub ops_behind : (b : Built) (p : Piece) → length (b.ops ++ map raw p.items) ≡ behind p.items (length b.ops)
ops_behind b p = omega (arith, length-append b.ops (map raw p.items), length_raw p.items, behind_is p.items (length b.ops))

pub list_behind : {A : Type 0} (xs ys : List A) → length (xs ++ ys) ≡ behind ys (length xs)
list_behind xs ys = omega (arith, length-append xs ys, behind_is ys (length xs))

pub spot_past : (b : Built) (p : Piece) → spot (with_piece b p) ≡ past (spot b) p
spot_past b p = ap (λ n. record { at = n; place = length (b.places ++ p.places); text = length (b.texts ++ p.texts) }) (ops_behind b p)
    ∙ ap (λ n. record { at = behind p.items (length b.ops); place = n; text = length (b.texts ++ p.texts) }) (list_behind b.places p.places)
    ∙ ap (λ n. record { at = behind p.items (length b.ops); place = behind p.places (length b.places); text = n })
    (list_behind b.texts p.texts)

pub with_joined : (b : Built) (p q : Piece) → with_piece b (joined p q) ≡ with_piece (with_piece b p) q
with_joined b p q =
    let e1 : b.ops ++ map raw (p.items ++ q.items) ≡ (b.ops ++ map raw p.items) ++ map raw q.items =
    ap (λ k. b.ops ++ k) (map_more p.items q.items) ∙ sym (append_assoc b.ops (map raw p.items) (map raw q.items)) in
    let e2 : b.exits ++ opened (p.items ++ q.items) (length b.ops) ≡ (b.exits ++ opened p.items (length b.ops)) ++
    opened q.items (length (b.ops ++ map raw p.items)) =
    ap (λ k. b.exits ++ k) (opened_more p.items q.items (length b.ops) ∙
    ap (λ n. opened p.items (length b.ops) ++ opened q.items n) (sym (ops_behind b p)))
    ∙ sym (append_assoc b.exits (opened p.items (length b.ops)) (opened q.items (length (b.ops ++ map raw p.items)))) in
    let e3 = sym (append_assoc b.places p.places q.places) in
    let e4 = sym (append_assoc b.texts p.texts q.texts) in
    let e5 : max b.locals (max p.locals q.locals) ≡ max (max b.locals p.locals) q.locals = omega arith in
    cc (e1, e2, e3, e4, e5)

pub made_then : (f g : Maker) (b : Built) → made (f then g) b ≡ made g (made f b)
unfolding made
made_then f g b =
    let s = spot b in
    with_joined b (f s) (g (past s (f s))) ∙ ap (λ r. with_piece (with_piece b (f s)) (g r)) (sym (spot_past b (f s)))

pub max_more : (a b c : ℕ) → max a (max b c) ≡ max (max a b) c
max_more a b c = omega arith

most_of : (n : ℕ) → max n 0 ≡ n
most_of n = omega arith

pub made_nothing : (b : Built) → made nothing b ≡ b
unfolding made
made_nothing b =
    ap (λ k. record b { ops = k; exits = b.exits ++ []; places = b.places ++ []; texts = b.texts ++ []; locals = max b.locals 0 })
    (append-nil b.ops) ∙ ap (λ k. record b { exits = k; places = b.places ++ []; texts = b.texts ++ []; locals = max b.locals 0 })
    (append-nil b.exits) ∙ ap (λ k. record b { places = k; texts = b.texts ++ []; locals = max b.locals 0 }) (append-nil b.places)
    ∙ ap (λ k. record b { texts = k; locals = max b.locals 0 }) (append-nil b.texts)
    ∙ ap (λ k. record b { locals = k }) (most_of b.locals)

pub made_one : (op : Op) (b : Built) → made (one op) b ≡ pushed op b
unfolding made pushed
made_one op b = cc (append-nil b.exits, append-nil b.places, append-nil b.texts, most_of b.locals)

pub made_placed : (p : Place) (op : ℕ → Op) (b : Built) → made (placed p op) b ≡ pushed (op (length b.places)) (with_place p b)
unfolding made pushed with_place
made_placed p op b = cc (append-nil b.exits, append-nil b.texts, most_of b.locals)

pub made_numbering : (p : Place) (f : ℕ → Maker) (b : Built) → made (numbering p f) b ≡ made (f (length b.places)) (with_place p b)
unfolding made with_place
made_numbering p f b =
    let q : Piece = record { items = []; places = p ∷ []; texts = []; locals = 0 } in
    let e : with_piece b q ≡ record b { places = b.places ++ p ∷ [] } =
    cc (append-nil b.ops, append-nil b.exits, append-nil b.texts, most_of b.locals) in
    with_joined b q (f (length b.places) (past (spot b) q)) ∙
    ap (λ s. with_piece (with_piece b q) (f (length b.places) s)) (sym (spot_past b q)) ∙
    ap (λ b1. with_piece b1 (f (length b.places) (spot b1))) e

pub made_texted : (bs : Bytes) (b : Built) → made (texted bs) b ≡ pushed (o.Text (length b.texts)) (with_text bs b)
unfolding made pushed with_text
made_texted bs b = cc (append-nil b.exits, append-nil b.places, most_of b.locals)

pub made_put_away : (l : ℕ) (b : Built) → made (put_away l) b ≡ pushed (o.Put l) (with_local l b)
unfolding made pushed with_local
made_put_away l b = cc (append-nil b.exits, append-nil b.places, append-nil b.texts)

pub made_stuck : (b : Built) → made stuck b ≡ pushed (o.Arm (suc (length b.ops))) b
unfolding made pushed
made_stuck b = cc (append-nil b.exits, append-nil b.places, append-nil b.texts, most_of b.locals)

pub made_leave_loop : (n : ℕ) (b : Built) → made (leave_loop n) b ≡ opened_jump n b
unfolding made opened_jump
made_leave_loop n b = cc (append-nil b.places, append-nil b.texts, most_of b.locals)

-- the operation at the end of a list, with others behind it
get_seam : (xs ys : List Op) (op : Op) → slice_get (xs ++ op ∷ ys) (length xs) ≡ Some op
get_seam [] ys op = refl
get_seam (x ∷ xs) ys op = get_seam xs ys op

spot_pushed : (op : Op) (b : Built) → spot (pushed op b) ≡ next (spot b)
unfolding pushed
spot_pushed op b = ap (λ n. record { at = n; place = length b.places; text = length b.texts }) (list_behind b.ops (op ∷ []))

pub made_ahead : (op : ℕ → Op) (f : Maker) (b : Built) → ((l : ℕ) → relabelled (op 0) l ≡ op l) →
    made (ahead op f) b ≡ ended_here (length b.ops) (made f (pushed (op 0) b))
unfolding made pushed patched ended_here
made_ahead op f b e =
    let s = next (spot b) in
    let r : Piece = f s in
    let l : ℕ = behind r.items (suc (length b.ops)) in
    let b1 : Built = record b { ops = b.ops ++ op 0 ∷ [] } in
    let xs : List Op = map raw r.items in
    let same : spot b1 ≡ s = ap (λ n. record { at = n; place = length b.places; text = length b.texts }) (list_behind b.ops (op 0 ∷ [])) in
    let flat : (b.ops ++ op 0 ∷ []) ++ xs ≡ b.ops ++ op 0 ∷ xs = append_assoc b.ops (op 0 ∷ []) xs in
    let n1 : length (b.ops ++ op 0 ∷ []) ≡ suc (length b.ops) = list_behind b.ops (op 0 ∷ []) in
    let len : length ((b.ops ++ op 0 ∷ []) ++ xs) ≡ l = ops_behind b1 r ∙ ap (λ n. behind r.items n) n1 in
    let got : slice_get ((b.ops ++ op 0 ∷ []) ++ xs) (length b.ops) ≡ Some (op 0) =
    ap (λ k. slice_get k (length b.ops)) flat ∙ get_seam b.ops xs (op 0) in
    let set : slice_set ((b.ops ++ op 0 ∷ []) ++ xs) (length b.ops) (op l) ≡ b.ops ++ op l ∷ xs =
    ap (λ k. slice_set k (length b.ops) (op l)) flat ∙ set-append_seam b.ops (op 0) xs (op l) in
    let done : patched_ops (slice_get ((b.ops ++ op 0 ∷ []) ++ xs) (length b.ops)) (length b.ops) (length ((b.ops ++ op 0 ∷ []) ++ xs))
    ((b.ops ++ op 0 ∷ []) ++ xs) ≡ b.ops ++ op l ∷ xs =
    ap (λ g. patched_ops g (length b.ops) (length ((b.ops ++ op 0 ∷ []) ++ xs)) ((b.ops ++ op 0 ∷ []) ++ xs)) got
    ∙ ap (λ m. slice_set ((b.ops ++ op 0 ∷ []) ++ xs) (length b.ops) m) (e (length ((b.ops ++ op 0 ∷ []) ++ xs)) ∙ ap op len) ∙ set in
    ap (λ k. record b {
      ops = k;
      exits = b.exits ++ opened r.items (suc (length b.ops));
      places = b.places ++ r.places;
      texts =
          b.texts ++ r.texts;
      locals = max b.locals r.locals;
    }) (sym done) ∙ ap (λ n. record b {
      ops = patched_ops (slice_get ((b.ops ++ op 0 ∷ []) ++ xs) (length b.ops)) (length b.ops) (length ((b.ops ++ op 0 ∷ []) ++ xs))
          ((b.ops ++ op 0 ∷ []) ++ xs);
      exits = b.exits ++ opened r.items n;
      places = b.places ++ r.places;
      texts = b.texts ++ r.texts;
      locals = max b.locals r.locals;
    }) (sym n1)
    ∙ ap (λ s. let q = with_piece b1 (f s) in record q
    { ops = patched_ops (slice_get q.ops (length b.ops)) (length b.ops) (length q.ops) q.ops }) (sym same)

pub made_try : (f : Maker) (b : Built) → made (ahead o.Try f) b ≡ ended_here (length b.ops) (made f (pushed (o.Try 0) b))
made_try f b = made_ahead o.Try f b (λ l. refl)

pub made_branch : (f : Maker) (b : Built) → made (ahead o.Branch f) b ≡ ended_here (length b.ops) (made f (pushed (o.Branch 0) b))
made_branch f b = made_ahead o.Branch f b (λ l. refl)

pub made_defer : (f : Maker) (b : Built) → made (ahead o.Defer f) b ≡ ended_here (length b.ops) (made f (pushed (o.Defer 0) b))
made_defer f b = made_ahead o.Defer f b (λ l. refl)

pub made_jump : (f : Maker) (b : Built) → made (ahead o.Jump f) b ≡ ended_here (length b.ops) (made f (pushed (o.Jump 0) b))
made_jump f b = made_ahead o.Jump f b (λ l. refl)

pub made_from_here : (f : ℕ → Maker) (b : Built) → made (from_here f) b ≡ made (f (length b.ops)) b
unfolding made
made_from_here f b = refl

pub made_using_locals : (n : ℕ) (b : Built) → made (using_locals n) b ≡ record b { locals = max b.locals n }
unfolding made
made_using_locals n b = cc (append-nil b.ops, append-nil b.exits, append-nil b.places, append-nil b.texts)

-- an operation gets its label, with others behind it
pub patch_seam : (xs ys all : List Op) (op : Op) (n l : ℕ) → all ≡ xs ++ op ∷ ys → n ≡ length xs →
    patched_ops (slice_get all n) n l all ≡ xs ++ relabelled op l ∷ ys
patch_seam xs ys all op n l e m =
    ap (λ k. patched_ops (slice_get k n) n l k) e ∙ ap (λ i. patched_ops (slice_get (xs ++ op ∷ ys) i) i l (xs ++ op ∷ ys)) m
    ∙ ap (λ g. patched_ops g (length xs) l (xs ++ op ∷ ys)) (get_seam xs ys op) ∙ set-append_seam xs op ys (relabelled op l)

-- the operations of `either`: m is the place of the jump
either_ops : (a p q : List Op) (op : ℕ → Op) (n m l k : ℕ) → ((i : ℕ) → relabelled (op 0) i ≡ op i) → n ≡ length a →
    m ≡ length ((a ++ op 0 ∷ []) ++ p) →
    let x : List Op = ((a ++ op 0 ∷ []) ++ p) ++ o.Jump 0 ∷ [] in
    let y : List Op = patched_ops (slice_get x n) n l x ++ q in
    patched_ops (slice_get y m) m k y ≡ a ++ (op l ∷ (p ++ (o.Jump k ∷ q)))
either_ops a p q op n m l k e en em =
    let x : List Op = ((a ++ op 0 ∷ []) ++ p) ++ o.Jump 0 ∷ [] in
    let flat : x ≡ a ++ op 0 ∷ (p ++ o.Jump 0 ∷ []) =
    append_assoc (a ++ op 0 ∷ []) p (o.Jump 0 ∷ []) ∙ append_assoc a (op 0 ∷ []) (p ++ o.Jump 0 ∷ []) in
    let first : patched_ops (slice_get x n) n l x ≡ a ++ op l ∷ (p ++ o.Jump 0 ∷ []) =
    patch_seam a (p ++ o.Jump 0 ∷ []) x (op 0) n l flat en ∙ ap (λ i. a ++ i ∷ (p ++ o.Jump 0 ∷ [])) (e l) in
    let y : List Op = patched_ops (slice_get x n) n l x ++ q in
    let again : y ≡ (a ++ op l ∷ p) ++ o.Jump 0 ∷ q = ap (λ i. i ++ q) first ∙ append_assoc a (op l ∷ (p ++ o.Jump 0 ∷ [])) q
    ∙ ap (λ i. a ++ op l ∷ i) (append_assoc p (o.Jump 0 ∷ []) q) ∙ sym (append_assoc a (op l ∷ p) (o.Jump 0 ∷ q)) in
    let at : m ≡ length (a ++ op l ∷ p) = omega
    (arith, em, length-append (a ++ op 0 ∷ []) p, length-append a (op 0 ∷ []), length-append a (op l ∷ p)) in
    patch_seam (a ++ op l ∷ p) q y (o.Jump 0) m k again at ∙ append_assoc a (op l ∷ p) (o.Jump k ∷ q)

pub made_either : (op : ℕ → Op) (f g : Maker) (b : Built) → ((l : ℕ) → relabelled (op 0) l ≡ op l) →
    made (either op f g) b ≡
    ended_here (length (made f (pushed (op 0) b)).ops) (made g (ended_here (length b.ops) (pushed (o.Jump 0) (made f (pushed (op 0) b)))))
unfolding made pushed patched ended_here
made_either op f g b rel =
    let s = next (spot b) in
    let p : Piece = f s in
    let e : Spot = next (past s p) in
    let q : Piece = g e in
    let a : List Op = b.ops in
    let ps : List Op = map raw p.items in
    let qs : List Op = map raw q.items in
    let b1 : Built = record b { ops = a ++ op 0 ∷ [] } in
    let n1 : length (a ++ op 0 ∷ []) ≡ suc (length a) = list_behind a (op 0 ∷ []) in
    let same1 : spot b1 ≡ s = ap (λ n. record { at = n; place = length b.places; text = length b.texts }) n1 in
    let c : Built = with_piece b1 p in
    let x : List Op = c.ops ++ o.Jump 0 ∷ [] in
    let d : Built = record c { ops = patched_ops (slice_get x (length a)) (length a) (length x) x } in
    let flat : x ≡ a ++ op 0 ∷ (ps ++ o.Jump 0 ∷ []) =
    append_assoc (a ++ op 0 ∷ []) ps (o.Jump 0 ∷ []) ∙ append_assoc a (op 0 ∷ []) (ps ++ o.Jump 0 ∷ []) in
    let kept : length d.ops ≡ length x = ap length (patch_seam a (ps ++ o.Jump 0 ∷ []) x (op 0) (length a) (length x) flat refl)
    ∙ omega (
      arith,
      length-append a (relabelled (op 0) (length x) ∷ (ps ++ o.Jump 0 ∷ [])),
      length-append a (op 0 ∷ (ps ++ o.Jump 0 ∷ [])),
      ap length flat,
    ) in
    let at1 : length c.ops ≡ behind p.items (suc (length a)) = ops_behind b1 p ∙ ap (λ n. behind p.items n) n1 in
    let at2 : length x ≡ suc (behind p.items (suc (length a))) = list_behind c.ops (o.Jump 0 ∷ []) ∙ ap suc at1 in
    let same2 : spot d ≡ e =
    ap (λ n. record { at = n; place = length (b.places ++ p.places); text = length (b.texts ++ p.texts) }) (kept ∙ at2)
    ∙ ap (λ n. record { at = suc (behind p.items (suc (length a))); place = n; text = length (b.texts ++ p.texts) })
    (list_behind b.places p.places)
    ∙ ap (λ n. record { at = suc (behind p.items (suc (length a))); place = behind p.places (length b.places); text = n })
    (list_behind b.texts p.texts) in
    let w : Built = with_piece d q in
    let at3 : length w.ops ≡ (past e q).at = ops_behind d q ∙ ap (λ n. behind q.items n) (kept ∙ at2) in
    let done : patched_ops (slice_get w.ops (length c.ops)) (length c.ops) (length w.ops) w.ops ≡ a ++ op e.at ∷
    (ps ++ o.Jump (past e q).at ∷ qs) =
    either_ops a ps qs op (length a) (length c.ops) (length x) (length w.ops) rel refl refl
    ∙ ap (λ i. a ++ op i ∷ (ps ++ o.Jump (length w.ops) ∷ qs)) at2 ∙ ap (λ i. a ++ op e.at ∷ (ps ++ o.Jump i ∷ qs)) at3 in
    let lhs : a ++ map raw (sure (op e.at) ∷ p.items ++ sure (o.Jump (past e q).at) ∷ q.items) ≡ a ++ op e.at ∷
    (ps ++ o.Jump (past e q).at ∷ qs) =
    ap (λ k. a ++ op e.at ∷ k) (map_more p.items (sure (o.Jump (past e q).at) ∷ q.items)) in
    let exits : b.exits ++ opened (p.items ++ sure (o.Jump (past e q).at) ∷ q.items) (suc (length a)) ≡ w.exits =
    ap (λ k. b.exits ++ k) (opened_more p.items (sure (o.Jump (past e q).at) ∷ q.items) (suc (length a)))
    ∙ sym (append_assoc b.exits (opened p.items (suc (length a))) (opened q.items (suc (behind p.items (suc (length a))))))
    ∙ ap (λ n. (b.exits ++ opened p.items n) ++ opened q.items (suc (behind p.items (suc (length a))))) (sym n1)
    ∙ ap (λ n. (b.exits ++ opened p.items (length (a ++ op 0 ∷ []))) ++ opened q.items n) (sym (kept ∙ at2)) in
    let goal1 : with_piece b (either_of op p e q) ≡
    record w { ops = patched_ops (slice_get w.ops (length c.ops)) (length c.ops) (length w.ops) w.ops } =
    cc (
      lhs,
      done,
      exits,
      sym (append_assoc b.places p.places q.places),
      sym (append_assoc b.texts p.texts q.texts),
      max_more b.locals p.locals q.locals,
    ) in
    goal1
    ∙ ap (λ r. let v = with_piece d (g r) in record v
    { ops = patched_ops (slice_get v.ops (length c.ops)) (length c.ops) (length v.ops) v.ops }) (sym same2)
    ∙ ap (λ r. let c = with_piece b1 (f r) in let x = c.ops ++ o.Jump 0 ∷ [] in let d =
    record c { ops = patched_ops (slice_get x (length a)) (length a) (length x) x } in let v = with_piece d (g (spot d)) in
    record v { ops = patched_ops (slice_get v.ops (length c.ops)) (length c.ops) (length v.ops) v.ops }) (sym same1)

pub made_either_try : (f g : Maker) (b : Built) → made (either o.Try f g) b ≡
    ended_here (length (made f (pushed (o.Try 0) b)).ops)
    (made g (ended_here (length b.ops) (pushed (o.Jump 0) (made f (pushed (o.Try 0) b)))))
made_either_try f g b = made_either o.Try f g b (λ l. refl)

pub made_either_same : (f g : Maker) (b : Built) → made (either o.Same f g) b ≡
    ended_here (length (made f (pushed (o.Same 0) b)).ops)
    (made g (ended_here (length b.ops) (pushed (o.Jump 0) (made f (pushed (o.Same 0) b)))))
made_either_same f g b = made_either o.Same f g b (λ l. refl)
