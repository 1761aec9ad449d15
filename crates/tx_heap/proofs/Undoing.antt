-- One more entry, and one entry fewer.
use Rattle.std.proofs.Common.{◌≡◌, ◌≢◌, ℕ, suc, ◌+◌, ◌-◌, ◌<◌, ◌≤◌, List, [], ◌∷◌, ◌++◌, length, take, drop, reverse, refl, sym, ap, subst}
use Rattle.std.proofs.Common.{◌∙◌, arith}
use Rattle.std.proofs.lemmas.List.{length-reverse, length_push, drop-append-le, take_at, take-take, take_all, drop_all, reverse-append}
use Rattle.verse_value.specs.Val.{Val}
use Rattle.verse_value.specs.Store.{Cell, Store, stored, with_cell}
use Rattle.verse_cells.specs.Held.{Held, store_of}
use Rattle.tx_heap.specs.State.{State, with_new, with_slot, rolled_back}
use Rattle.tx_heap.specs.Dues.{Raised, Joined}
use Rattle.tx_heap.specs.Weighed.{IsWeighed}
use Rattle.tx_heap.specs.Undo.{back, rewound, CanGoBack, Undoable, Ordered, copies, AllWeighed, gaps, IsWhole, Undoing}
use Rattle.tx_heap.specs.declared.entries.Entry.{Entry}
use Rattle.tx_heap.specs.declared.entries.Mark.{Mark}

pub rewound_push : (es : List Entry) (e : Entry) (cells : Store) → rewound (es ++ e ∷ []) cells ≡ rewound es (back e cells)
rewound_push [] e cells = refl
rewound_push (x ∷ es) e cells = ap (back x) (rewound_push es e cells)

undoable_push : (es : List Entry) (e : Entry) (cells : Store) → Undoable es (back e cells) → CanGoBack e cells →
    Undoable (es ++ e ∷ []) cells
undoable_push [] e cells u can = (tt, can)
undoable_push (x ∷ es) e cells u can = (undoable_push es e cells u.0 can, subst (CanGoBack x) (sym (rewound_push es e cells)) u.1)

undoable_rest : (es : List Entry) (e : Entry) (cells : Store) → Undoable (es ++ e ∷ []) cells → Undoable es (back e cells)
undoable_rest [] e cells u = tt
undoable_rest (x ∷ es) e cells u = (undoable_rest es e cells u.0, subst (CanGoBack x) (rewound_push es e cells) u.1)

undoable_last : (es : List Entry) (e : Entry) (cells : Store) → Undoable (es ++ e ∷ []) cells → CanGoBack e cells
undoable_last [] e cells u = u.1
undoable_last (x ∷ es) e cells u = undoable_last es e cells u.0

rewound_since : (m : ℕ) (es : List Entry) (e : Entry) (cells : Store) → m ≤ length es →
    rewound (drop m (es ++ e ∷ [])) cells ≡ rewound (drop m es) (back e cells)
rewound_since m es e cells h = ap (λ (xs : List Entry). rewound xs cells) (drop-append-le m es (e ∷ []) h) ∙
    rewound_push (drop m es) e cells

copies_push : (es : List Entry) (e : Entry) (cells : Store) (ms : List Mark) (top : ℕ) → Ordered top ms → top ≤ length es →
    copies (es ++ e ∷ []) cells ms ≡ copies es (back e cells) ms
copies_push es e cells [] top o h = refl
copies_push es e cells (m ∷ ms) top o h =
    let one = rewound_since m.start es e cells (omega (arith, o.0)) in
    let rest = copies_push es e cells ms m.start o.1 (omega (arith, o.0)) in
    ap (λ (c : Store). c ∷ copies (es ++ e ∷ []) cells ms) one ∙
    ap (λ (cs : List Store). rewound (drop m.start es) (back e cells) ∷ cs) rest

ordered_more : (top more : ℕ) (ms : List Mark) → ms ≢ [] → Ordered top ms → top ≤ more → Ordered more ms
ordered_more top more [] some o h = absurd (some refl)
ordered_more top more (m ∷ ms) some o h = (omega (arith, o.0), o.1)

copies_same : (es : List Entry) (e : Entry) (cells after : Store) (ms : List Mark) → back e after ≡ cells → Ordered (length es) ms →
    copies (es ++ e ∷ []) after ms ≡ copies es cells ms
copies_same es e cells after ms goes o = copies_push es e after ms (length es) o (omega arith) ∙ ap (λ (cs : Store). copies es cs ms) goes

-- an entry whose undoing gives the cells from before
whole_push : (es : List Entry) (e : Entry) (cells after : Store) (ms : List Mark) → ms ≢ [] → back e after ≡ cells → CanGoBack e after →
    IsWhole es ms cells → IsWhole (es ++ e ∷ []) ms after
whole_push es e cells after ms some goes can w = record {
  ordered = ordered_more (length es) _ ms some w.ordered (omega (arith, length_push es e));
  undoable = undoable_push es e after (subst (Undoable es) (sym goes) w.undoable) can;
  weighed = subst (AllWeighed ms) (sym (copies_same es e cells after ms goes w.ordered)) w.weighed;
}

gaps_raised : (most : ℕ) (es : List Entry) (e : Entry) (ms : List Mark) → 1 ≤ most →
    Raised most (gaps (length es) ms) (gaps (length (es ++ e ∷ [])) ms)
gaps_raised most es e [] h = refl
gaps_raised most es e (m ∷ ms) h = (length (es ++ e ∷ []) - m.start, omega (arith, length_push es e), refl)

gaps_joined : (top : ℕ) (m : Mark) (ms : List Mark) → Joined (gaps top (m ∷ ms)) (gaps top ms)
gaps_joined top m [] = refl
gaps_joined top m (k ∷ ms) = (top - k.start, omega arith, refl)

pub length_gaps : (top : ℕ) (ms : List Mark) → length (gaps top ms) ≡ length ms
length_gaps top [] = refl
length_gaps top (m ∷ ms) = ap suc (length_gaps m.start ms)

pub length_copies : (es : List Entry) (cells : Store) (ms : List Mark) → length (copies es cells ms) ≡ length ms
length_copies es cells [] = refl
length_copies es cells (m ∷ ms) = ap suc (length_copies es cells ms)

-- marks that two logs answer alike
copies_alike : (es es' : List Entry) (cells cells' : Store) (top : ℕ) (ms : List Mark) → Ordered top ms →
    ((m : ℕ) → m ≤ top → rewound (drop m es) cells ≡ rewound (drop m es') cells') → copies es cells ms ≡ copies es' cells' ms
copies_alike es es' cells cells' top [] o same = refl
copies_alike es es' cells cells' top (m ∷ ms) o same =
    let low : m.start ≤ top = o.0 in
    let rest = copies_alike es es' cells cells' m.start ms o.1 (λ (k : ℕ) (h : k ≤ m.start). same k (omega arith)) in
    ap (λ (c : Store). c ∷ copies es cells ms) (same m.start low) ∙ ap (λ (cs : List Store). rewound (drop m.start es') cells' ∷ cs) rest

pub undoing_none : (start : ℕ) (es : List Entry) (cells : Held) → start ≤ length es → Undoable es (store_of cells) →
    Undoing start es cells es cells
undoing_none start es cells h u = record {
  within = h;
  front = sym (take_all (length es) es (omega arith));
  undoable = u;
  alike = λ m l. refl;
  count = omega arith;
}

front_less : (es : List Entry) (e : Entry) (all : List Entry) → es ++ e ∷ [] ≡ take (length (es ++ e ∷ [])) all → es ≡ take (length es) all
front_less es e all h =
    sym (take_at es (e ∷ []) (length es) refl) ∙
    (ap (take (length es)) h ∙ take-take (length es) (length (es ++ e ∷ [])) all (omega (arith, length_push es e)))

undoing_less : (start : ℕ) (all : List Entry) (before : Held) (es : List Entry) (e : Entry) (now after : Held) →
    Undoing start all before (es ++ e ∷ []) now → start ≤ length es → store_of after ≡ back e (store_of now) →
    after.accesses ≤ now.accesses + 1 → Undoing start all before es after
undoing_less start all before es e now after u h goes count = record {
  within = h;
  front = front_less es e all u.front;
  undoable = subst (Undoable es) (sym goes) (undoable_rest es e (store_of now) u.undoable);
  alike = λ (m : ℕ) (l : m ≤ start). ap (rewound (drop m es)) goes ∙
      (sym (rewound_since m es e (store_of now) (omega arith)) ∙ u.alike m l);
  count = omega (arith, length_push es e, u.count);
}

pub reverse_some : (xs : List Mark) → 0 < length xs → reverse xs ≢ []
reverse_some xs h e = omega (arith, length-reverse xs, ap length e)

-- the steps of the code, with what each call gives as an equation

pub whole_noted : (es es' : List Entry) (e : Entry) (cells after : Store) (ms : List Mark) → es' ≡ es ++ e ∷ [] → ms ≢ [] →
    back e after ≡ cells → CanGoBack e after → IsWhole es ms cells → IsWhole es' ms after
whole_noted es es' e cells after ms log some goes can w =
    let P : List Entry → Type 0 = λ l. IsWhole l ms after in subst P (sym log) (whole_push es e cells after ms some goes can w)

pub copies_noted : (es es' : List Entry) (e : Entry) (cells after : Store) (ms : List Mark) → es' ≡ es ++ e ∷ [] → back e after ≡ cells →
    IsWhole es ms cells → copies es' after ms ≡ copies es cells ms
copies_noted es es' e cells after ms log goes w =
    ap (λ (l : List Entry). copies l after ms) log ∙ copies_same es e cells after ms goes w.ordered

pub raised_noted : (most : ℕ) (es es' : List Entry) (e : Entry) (ms : List Mark) (dues : List ℕ) → gaps (length es) ms ≡ dues →
    es' ≡ es ++ e ∷ [] → 1 ≤ most → Raised most dues (gaps (length es') ms)
raised_noted most es es' e ms dues same log h =
    let P : List Entry → Type 0 = λ l. Raised most (gaps (length es) ms) (gaps (length l) ms) in
    let Q : List ℕ → Type 0 = λ d. Raised most d (gaps (length es') ms) in
    subst Q same (subst P (sym log) (gaps_raised most es e ms h))

abbrev pub state : Store → List Store → State
state cells copies = record { cells = cells; copies = copies }

pub same_state : (cells cells' : Store) (marks marks' : List Store) → cells ≡ cells' → marks ≡ marks' →
    state cells marks ≡ state cells' marks'
same_state cells cells' marks marks' e f = ap (λ (c : Store). state c marks) e ∙ ap (λ (m : List Store). state cells' m) f

pub state_set : (now : State) (cells after : Store) (marks marks' : List Store) (cell slot : ℕ) (value : Val) → state cells marks ≡ now →
    after ≡ stored cells cell slot value → marks' ≡ marks → state after marks' ≡ with_slot now cell slot value
state_set now cells after marks marks' cell slot value is e f =
    same_state after (stored cells cell slot value) marks' marks e f ∙ ap (λ (s : State). with_slot s cell slot value) is

pub state_push : (now : State) (cells after : Store) (marks marks' : List Store) (c : Cell) → state cells marks ≡ now →
    after ≡ with_cell cells c → marks' ≡ marks → state after marks' ≡ with_new now c
state_push now cells after marks marks' c is e f =
    same_state after (with_cell cells c) marks' marks e f ∙ ap (λ (s : State). with_new s c) is

reverse_last : (xs ys : List Mark) (m : Mark) → xs ≡ ys ++ m ∷ [] → reverse xs ≡ m ∷ reverse ys
reverse_last xs ys m e = ap (λ (zs : List Mark). reverse zs) e ∙ reverse-append ys (m ∷ [])

-- one more mark
pub whole_marked : (log : List Entry) (cells : Store) (xs ys : List Mark) (m : Mark) → ys ≡ xs ++ m ∷ [] → m.start ≡ length log →
    IsWeighed m.weight cells → IsWhole log (reverse xs) cells → IsWhole log (reverse ys) cells
whole_marked log cells xs ys m e at weighed w =
    let P : List Mark → Type 0 = λ ms. IsWhole log ms cells in
    let none : drop m.start log ≡ [] = drop_all m.start log (omega arith) in
    let same : rewound (drop m.start log) cells ≡ cells = ap (λ (l : List Entry). rewound l cells) none in
    let Q : ℕ → Type 0 = λ n. Ordered n (reverse xs) in
    subst P (sym (reverse_last ys xs m e)) (record {
      ordered = (omega arith, subst Q (sym at) w.ordered);
      undoable = w.undoable;
      weighed = (subst (IsWeighed m.weight) (sym same) weighed, w.weighed);
    })

pub copies_marked : (log : List Entry) (cells : Store) (xs ys : List Mark) (m : Mark) → ys ≡ xs ++ m ∷ [] → m.start ≡ length log →
    copies log cells (reverse ys) ≡ cells ∷ copies log cells (reverse xs)
copies_marked log cells xs ys m e at =
    let none : drop m.start log ≡ [] = drop_all m.start log (omega arith) in
    ap (copies log cells) (reverse_last ys xs m e) ∙ ap (λ (l : List Entry). rewound l cells ∷ copies log cells (reverse xs)) none

pub gaps_marked : (top : ℕ) (xs ys : List Mark) (m : Mark) → ys ≡ xs ++ m ∷ [] → m.start ≡ top →
    gaps top (reverse ys) ≡ 0 ∷ gaps top (reverse xs)
gaps_marked top xs ys m e at =
    let zero_gap : top - m.start ≡ 0 = omega arith in
    ap (gaps top) (reverse_last ys xs m e) ∙
    (ap (λ (d : ℕ). d ∷ gaps m.start (reverse xs)) zero_gap ∙ ap (λ (n : ℕ). 0 ∷ gaps n (reverse xs)) at)

-- the newest mark is taken off
pub whole_less : (log : List Entry) (cells : Store) (xs ys : List Mark) (m : Mark) → xs ≡ ys ++ m ∷ [] → 0 < length ys →
    IsWhole log (reverse xs) cells → IsWhole log (reverse ys) cells
whole_less log cells xs ys m e h w =
    let P : List Mark → Type 0 = λ ms. IsWhole log ms cells in
    let v : IsWhole log (m ∷ reverse ys) cells = subst P (reverse_last xs ys m e) w in
    record {
      ordered = ordered_more m.start (length log) (reverse ys) (reverse_some ys h) v.ordered.1 v.ordered.0;
      undoable = v.undoable;
      weighed = v.weighed.1;
    }

pub joined_less : (top : ℕ) (xs ys : List Mark) (dues : List ℕ) (m : Mark) → gaps top (reverse xs) ≡ dues → xs ≡ ys ++ m ∷ [] →
    Joined dues (gaps top (reverse ys))
joined_less top xs ys dues m same e =
    let P : List ℕ → Type 0 = λ d. Joined d (gaps top (reverse ys)) in
    subst P (ap (gaps top) (sym (reverse_last xs ys m e)) ∙ same) (gaps_joined top m (reverse ys))

pub can_last : (log es : List Entry) (e : Entry) (cells : Store) → log ≡ es ++ e ∷ [] → Undoable log cells → CanGoBack e cells
can_last log es e cells is u =
    let P : List Entry → Type 0 = λ l. Undoable l cells in undoable_last es e cells (subst P is u)

pub undoing_step : (start : ℕ) (all : List Entry) (before : Held) (log es : List Entry) (e : Entry) (now after : Held) →
    log ≡ es ++ e ∷ [] → Undoing start all before log now → start < length log → store_of after ≡ back e (store_of now) →
    after.accesses ≤ now.accesses + 1 → Undoing start all before es after
undoing_step start all before log es e now after is u h goes count =
    let P : List Entry → Type 0 = λ l. Undoing start all before l now in
    undoing_less start all before es e now after (subst P is u) (omega (arith, ap length is, length_push es e)) goes count

-- what the newest mark says of the log
pub mark_within : (log : List Entry) (cells : Store) (xs ys : List Mark) (m : Mark) → xs ≡ ys ++ m ∷ [] → IsWhole log (reverse xs) cells →
    m.start ≤ length log
mark_within log cells xs ys m e w =
    let o : Ordered (length log) (m ∷ reverse ys) = subst (Ordered (length log)) (reverse_last xs ys m e) w.ordered in o.0

pub mark_weighed : (log : List Entry) (cells : Store) (xs ys : List Mark) (m : Mark) → xs ≡ ys ++ m ∷ [] → IsWhole log (reverse xs) cells →
    IsWeighed m.weight (rewound (drop m.start log) cells)
mark_weighed log cells xs ys m e w =
    let P : List Mark → Type 0 = λ ms. IsWhole log ms cells in
    let v : IsWhole log (m ∷ reverse ys) cells = subst P (reverse_last xs ys m e) w in v.weighed.0

-- all since a mark is undone
pub back_at : (start : ℕ) (all : List Entry) (before : Held) (log : List Entry) (after : Held) → Undoing start all before log after →
    length log ≡ start → store_of after ≡ rewound (drop start all) (store_of before)
back_at start all before log after u left =
    let none : drop start log ≡ [] = drop_all start log (omega arith) in
    sym (ap (λ (l : List Entry). rewound l (store_of after)) none) ∙ u.alike start (omega arith)

copies_back : (m : Mark) (all : List Entry) (before : Held) (log : List Entry) (after : Held) (xs ys : List Mark) → xs ≡ ys ++ m ∷ [] →
    Undoing m.start all before log after → IsWhole all (reverse xs) (store_of before) →
    copies log (store_of after) (reverse ys) ≡ copies all (store_of before) (reverse ys)
copies_back m all before log after xs ys e u w =
    let o : Ordered (length all) (m ∷ reverse ys) = subst (Ordered (length all)) (reverse_last xs ys m e) w.ordered in
    copies_alike log all (store_of after) (store_of before) m.start (reverse ys) o.1 u.alike

pub whole_back : (m : Mark) (all : List Entry) (before : Held) (log : List Entry) (after : Held) (xs ys : List Mark) → xs ≡ ys ++ m ∷ [] →
    Undoing m.start all before log after → length log ≡ m.start → IsWhole all (reverse xs) (store_of before) →
    IsWhole log (reverse ys) (store_of after)
whole_back m all before log after xs ys e u left w =
    let P : List Mark → Type 0 = λ ms. IsWhole all ms (store_of before) in
    let v : IsWhole all (m ∷ reverse ys) (store_of before) = subst P (reverse_last xs ys m e) w in
    let Q : ℕ → Type 0 = λ n. Ordered n (reverse ys) in
    record {
      ordered = subst Q (sym left) v.ordered.1;
      undoable = u.undoable;
      weighed = subst (AllWeighed (reverse ys)) (sym (copies_back m all before log after xs ys e u w)) v.weighed.1;
    }

pub state_back : (now : State) (m : Mark) (all : List Entry) (before : Held) (log : List Entry) (after : Held) (xs ys : List Mark) →
    state (store_of before) (copies all (store_of before) (reverse xs)) ≡ now → xs ≡ ys ++ m ∷ [] → Undoing m.start all before log after →
    length log ≡ m.start → IsWhole all (reverse xs) (store_of before) → state (store_of after) (copies log (store_of after) (reverse ys)) ≡
    rolled_back now
state_back now m all before log after xs ys is e u left w =
    let same = back_at m.start all before log after u left in
    let marks = copies_back m all before log after xs ys e u w in
    let at : state (store_of before) (copies all (store_of before) (m ∷ reverse ys)) ≡ now =
    ap (λ (ms : List Mark). state (store_of before) (copies all (store_of before) ms)) (sym (reverse_last xs ys m e)) ∙ is in
    same_state _ _ _ _ same marks ∙ ap rolled_back at
