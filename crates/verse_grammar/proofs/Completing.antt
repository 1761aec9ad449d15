-- What a rule reads is what it stands for, and what it reads before it sticks begins that.
use Rattle.std.proofs.Common.{◌≡◌, ℕ, ◌-◌, List, [], ◌∷◌, ◌++◌, length, take, refl, sym, ap, subst, ◌∙◌, append_assoc, arith, length-append}
use Rattle.std.proofs.Math.Seq.{take-append_seam}
use Rattle.verse_layout.specs.declared.toks.TokKind.{TokKind}
use Rattle.verse_layout.specs.declared.toks.Tok.{Tok}
use Rattle.verse_grammar.specs.declared.phrases.Phrase.TheVariants as p
use Rattle.verse_grammar.specs.Begins.{Whole, a_type, a_phrase, a_program, IsWhole, is_type, is_phrase, is_program, kinds, Begins}
use Rattle.verse_grammar.specs.Wholes.{rule_of}
use Rattle.verse_grammar.specs.Symbols.{Rule, Symbol, Move, a, rule, predict, takes, becomes, refuses}
use Rattle.verse_grammar.specs.Symbols as s
use Rattle.verse_grammar.specs.Reading.{Eats, eats_none, eats_tok, eats_rule, EatsRule, eats_takes, eats_becomes, Sticks, sticks_here}
use Rattle.verse_grammar.specs.Reading.{sticks_behind_tok, sticks_in_rule, sticks_behind_rule, SticksRule, sticks_refused, sticks_takes}
use Rattle.verse_grammar.specs.Reading.{sticks_becomes}
use Rattle.verse_grammar.specs.BeginsLaws.{StuckBegins, EatenIsWhole}
use Rattle.verse_grammar.proofs.CompletingMeanings.{Means, MeansAll, means_none, means_tok, means_rule, given_all, Sound, Readable, a_tok}
use Rattle.verse_grammar.proofs.CompletingTypes.{a_type_sound, bracket_rest_sound, tuple_rest_sound, types_sound, types_tail_sound}
use Rattle.verse_grammar.proofs.CompletingTypes.{bracket_type_sound, bracket_type_rest_sound, read_a_type, read_bracket_rest}
use Rattle.verse_grammar.proofs.CompletingTypes.{read_tuple_rest, read_types, read_types_tail, read_bracket_type, read_bracket_type_rest}
use Rattle.verse_grammar.proofs.CompletingExprs.{stmt_name_sound, typed_value_sound, set_rest_sound, assign_sound, return_value_sound}
use Rattle.verse_grammar.proofs.CompletingExprs.{an_if_sound, taken_sound, otherwise_sound, comparison_tail_sound, postfix_tail_sound}
use Rattle.verse_grammar.proofs.CompletingExprs.{hole_rest_sound, name_rest_sound, givens_until_sound, given_sound, givens_tail_sound}
use Rattle.verse_grammar.proofs.CompletingExprs.{round_rest_sound, pairs_until_sound, pair_sound, pairs_tail_sound, clauses_sound}
use Rattle.verse_grammar.proofs.CompletingExprs.{case_rest_sound, duration_sound, generator_rest_sound, entries_rest_sound}
use Rattle.verse_grammar.proofs.CompletingExprs.{clause_name_sound, clause_value_sound, range_rest_sound, an_int_sound, read_stmt_name}
use Rattle.verse_grammar.proofs.CompletingExprs.{read_typed_value, read_set_rest, read_assign, read_return_value, read_an_if, read_taken}
use Rattle.verse_grammar.proofs.CompletingExprs.{read_otherwise, read_comparison_tail, read_postfix_tail, read_hole_rest, read_name_rest}
use Rattle.verse_grammar.proofs.CompletingExprs.{read_givens_until, read_given, read_givens_tail, read_round_rest, read_pairs_until}
use Rattle.verse_grammar.proofs.CompletingExprs.{read_pair, read_pairs_tail, read_clauses, read_case_rest, read_duration}
use Rattle.verse_grammar.proofs.CompletingExprs.{read_generator_rest, read_entries_rest, read_clause_name, read_clause_value}
use Rattle.verse_grammar.proofs.CompletingExprs.{read_range_rest, read_an_int, read_phrase, block_sound, part_sound, stmt_sound, body_sound}
use Rattle.verse_grammar.proofs.CompletingExprs.{expr_sound, or_sound, and_sound, not_sound, comparison_sound, sum_sound, product_sound}
use Rattle.verse_grammar.proofs.CompletingExprs.{minus_sound, postfix_sound, primary_sound, generator_sound, clause_sound, arm_sound}
use Rattle.verse_grammar.proofs.CompletingExprs.{pattern_sound, chain_tail_sound, row_tail_sound, closed_sound, until_sound}
use Rattle.verse_grammar.proofs.CompletingExprs.{read_chain_tail, read_row_tail, read_closed, read_until}
use Rattle.verse_grammar.proofs.CompletingItems.{program_sound, items_tail_sound, an_item_sound, using_rest_sound, dotted_sound}
use Rattle.verse_grammar.proofs.CompletingItems.{dots_tail_sound, path_tail_sound, specs_sound, item_rest_sound, enum_or_class_sound}
use Rattle.verse_grammar.proofs.CompletingItems.{enum_rest_sound, values_until_sound, values_tail_sound, class_rest_sound, parent_sound}
use Rattle.verse_grammar.proofs.CompletingItems.{members_until_sound, members_tail_sound, member_sound, member_rest_sound, field_rest_sound}
use Rattle.verse_grammar.proofs.CompletingItems.{default_sound, fun_rest_sound, params_until_sound, param_sound, params_tail_sound}
use Rattle.verse_grammar.proofs.CompletingItems.{read_program, read_items_tail, read_an_item, read_using_rest, read_dotted, read_dots_tail}
use Rattle.verse_grammar.proofs.CompletingItems.{read_path_tail, read_specs, read_item_rest, read_enum_or_class, read_enum_rest}
use Rattle.verse_grammar.proofs.CompletingItems.{read_values_until, read_values_tail, read_class_rest, read_parent, read_members_until}
use Rattle.verse_grammar.proofs.CompletingItems.{read_members_tail, read_member, read_member_rest, read_field_rest, read_default}
use Rattle.verse_grammar.proofs.CompletingItems.{read_fun_rest, read_params_until, read_param, read_params_tail}

-- each move is right
sound : (b : List ℕ) (r : Rule) (ks : List Tok) → Sound b r ks (predict r ks)
sound b s.a_type ks = a_type_sound b ks
sound b s.bracket_rest ks = bracket_rest_sound b ks
sound b s.tuple_rest ks = tuple_rest_sound b ks
sound b s.types ks = types_sound b ks
sound b s.types_tail ks = types_tail_sound b ks
sound b s.bracket_type ks = bracket_type_sound b ks
sound b s.bracket_type_rest ks = bracket_type_rest_sound b ks
sound b s.stmt_name ks = stmt_name_sound b ks
sound b s.typed_value ks = typed_value_sound b ks
sound b s.set_rest ks = set_rest_sound b ks
sound b s.assign ks = assign_sound b ks
sound b s.return_value ks = return_value_sound b ks
sound b s.an_if ks = an_if_sound b ks
sound b s.taken ks = taken_sound b ks
sound b s.otherwise ks = otherwise_sound b ks
sound b s.comparison_tail ks = comparison_tail_sound b ks
sound b s.postfix_tail ks = postfix_tail_sound b ks
sound b s.hole_rest ks = hole_rest_sound b ks
sound b s.name_rest ks = name_rest_sound b ks
sound b s.givens_until ks = givens_until_sound b ks
sound b s.given ks = given_sound b ks
sound b s.givens_tail ks = givens_tail_sound b ks
sound b s.round_rest ks = round_rest_sound b ks
sound b s.pairs_until ks = pairs_until_sound b ks
sound b s.pair ks = pair_sound b ks
sound b s.pairs_tail ks = pairs_tail_sound b ks
sound b s.clauses ks = clauses_sound b ks
sound b s.case_rest ks = case_rest_sound b ks
sound b s.duration ks = duration_sound b ks
sound b s.generator_rest ks = generator_rest_sound b ks
sound b s.entries_rest ks = entries_rest_sound b ks
sound b s.clause_name ks = clause_name_sound b ks
sound b s.clause_value ks = clause_value_sound b ks
sound b s.range_rest ks = range_rest_sound b ks
sound b s.an_int ks = an_int_sound b ks
sound b s.program ks = program_sound b ks
sound b s.items_tail ks = items_tail_sound b ks
sound b s.an_item ks = an_item_sound b ks
sound b s.using_rest ks = using_rest_sound b ks
sound b s.dotted ks = dotted_sound b ks
sound b s.dots_tail ks = dots_tail_sound b ks
sound b s.path_tail ks = path_tail_sound b ks
sound b s.specs ks = specs_sound b ks
sound b s.item_rest ks = item_rest_sound b ks
sound b s.enum_or_class ks = enum_or_class_sound b ks
sound b s.enum_rest ks = enum_rest_sound b ks
sound b s.values_until ks = values_until_sound b ks
sound b s.values_tail ks = values_tail_sound b ks
sound b s.class_rest ks = class_rest_sound b ks
sound b s.parent ks = parent_sound b ks
sound b s.members_until ks = members_until_sound b ks
sound b s.members_tail ks = members_tail_sound b ks
sound b s.member ks = member_sound b ks
sound b s.member_rest ks = member_rest_sound b ks
sound b s.field_rest ks = field_rest_sound b ks
sound b s.default ks = default_sound b ks
sound b s.fun_rest ks = fun_rest_sound b ks
sound b s.params_until ks = params_until_sound b ks
sound b s.param ks = param_sound b ks
sound b s.params_tail ks = params_tail_sound b ks
sound b (s.phrase p.Block) ks = block_sound b ks
sound b (s.phrase p.Part) ks = part_sound b ks
sound b (s.phrase p.Stmt) ks = stmt_sound b ks
sound b (s.phrase p.Body) ks = body_sound b ks
sound b (s.phrase p.Expr) ks = expr_sound b ks
sound b (s.phrase p.Or) ks = or_sound b ks
sound b (s.phrase p.And) ks = and_sound b ks
sound b (s.phrase p.Not) ks = not_sound b ks
sound b (s.phrase p.Comparison) ks = comparison_sound b ks
sound b (s.phrase p.Sum) ks = sum_sound b ks
sound b (s.phrase p.Product) ks = product_sound b ks
sound b (s.phrase p.Minus) ks = minus_sound b ks
sound b (s.phrase p.Postfix) ks = postfix_sound b ks
sound b (s.phrase p.Primary) ks = primary_sound b ks
sound b (s.phrase p.Generator) ks = generator_sound b ks
sound b (s.phrase p.Clause) ks = clause_sound b ks
sound b (s.phrase p.Arm) ks = arm_sound b ks
sound b (s.phrase p.Pattern) ks = pattern_sound b ks
sound b (s.chain_tail q) ks = chain_tail_sound b q ks
sound b (s.row_tail q sep) ks = row_tail_sound b q sep ks
sound b (s.closed q sep c) ks = closed_sound b q sep c ks
sound b (s.until q sep c) ks = until_sound b q sep c ks

-- each rule can be read
readable : (b : List ℕ) (r : Rule) → Readable b r
readable b s.a_type = read_a_type b
readable b s.bracket_rest = read_bracket_rest b
readable b s.tuple_rest = read_tuple_rest b
readable b s.types = read_types b
readable b s.types_tail = read_types_tail b
readable b s.bracket_type = read_bracket_type b
readable b s.bracket_type_rest = read_bracket_type_rest b
readable b s.stmt_name = read_stmt_name b
readable b s.typed_value = read_typed_value b
readable b s.set_rest = read_set_rest b
readable b s.assign = read_assign b
readable b s.return_value = read_return_value b
readable b s.an_if = read_an_if b
readable b s.taken = read_taken b
readable b s.otherwise = read_otherwise b
readable b s.comparison_tail = read_comparison_tail b
readable b s.postfix_tail = read_postfix_tail b
readable b s.hole_rest = read_hole_rest b
readable b s.name_rest = read_name_rest b
readable b s.givens_until = read_givens_until b
readable b s.given = read_given b
readable b s.givens_tail = read_givens_tail b
readable b s.round_rest = read_round_rest b
readable b s.pairs_until = read_pairs_until b
readable b s.pair = read_pair b
readable b s.pairs_tail = read_pairs_tail b
readable b s.clauses = read_clauses b
readable b s.case_rest = read_case_rest b
readable b s.duration = read_duration b
readable b s.generator_rest = read_generator_rest b
readable b s.entries_rest = read_entries_rest b
readable b s.clause_name = read_clause_name b
readable b s.clause_value = read_clause_value b
readable b s.range_rest = read_range_rest b
readable b s.an_int = read_an_int b
readable b s.program = read_program b
readable b s.items_tail = read_items_tail b
readable b s.an_item = read_an_item b
readable b s.using_rest = read_using_rest b
readable b s.dotted = read_dotted b
readable b s.dots_tail = read_dots_tail b
readable b s.path_tail = read_path_tail b
readable b s.specs = read_specs b
readable b s.item_rest = read_item_rest b
readable b s.enum_or_class = read_enum_or_class b
readable b s.enum_rest = read_enum_rest b
readable b s.values_until = read_values_until b
readable b s.values_tail = read_values_tail b
readable b s.class_rest = read_class_rest b
readable b s.parent = read_parent b
readable b s.members_until = read_members_until b
readable b s.members_tail = read_members_tail b
readable b s.member = read_member b
readable b s.member_rest = read_member_rest b
readable b s.field_rest = read_field_rest b
readable b s.default = read_default b
readable b s.fun_rest = read_fun_rest b
readable b s.params_until = read_params_until b
readable b s.param = read_param b
readable b s.params_tail = read_params_tail b
readable b (s.phrase q) = read_phrase b q
readable b (s.chain_tail q) = read_chain_tail b q
readable b (s.row_tail q sep) = read_row_tail b q sep
readable b (s.closed q sep c) = read_closed b q sep c
readable b (s.until q sep c) = read_until b q sep c

all_readable : (b : List ℕ) (Xs : List Symbol) (rest : List Tok) → (ks : List Tok) × MeansAll b Xs ks rest
all_readable b [] rest = (rest, means_none)
all_readable b (a kind ∷ Xs) rest = let x = all_readable b Xs rest in (a_tok kind ∷ x.0, means_tok refl x.1)
all_readable b (rule r ∷ Xs) rest = let x = all_readable b Xs rest in let y = readable b r x.0 in (y.0, means_rule y.1 x.1)

-- by what a rule takes or becomes it stands for, also where other toks follow
by_takes : (b : List ℕ) (r : Rule) (k : Tok) (ks : List Tok) (Ys : List Symbol) → predict r (k ∷ ks) ≡ takes Ys → (ms rest : List Tok) →
    MeansAll b Ys ms rest → Means b r (k ∷ ms) rest
by_takes b r k ks Ys h ms rest x = given_all b Ys (λ is more. Means b r (k ∷ is) more) ms rest
    (subst (λ (M : Move). Sound b r (k ∷ ks) M) h (sound b r (k ∷ ks))) x

by_becomes : (b : List ℕ) (r : Rule) (ks : List Tok) (Ys : List Symbol) → predict r ks ≡ becomes Ys → (ms rest : List Tok) →
    MeansAll b Ys ms rest → Means b r ms rest
by_becomes b r ks Ys h ms rest x = given_all b Ys (Means b r) ms rest (subst (λ (M : Move). Sound b r ks M) h (sound b r ks)) x

-- the toks that were read, with whatever follows
record All (b : List ℕ) (Xs : List Symbol) (ks ls : List Tok) : Type 0 where
  front : List Tok
  parts : ks ≡ front ++ ls
  means : (ms : List Tok) → MeansAll b Xs (front ++ ms) ms

record One (b : List ℕ) (r : Rule) (ks ls : List Tok) : Type 0 where
  front : List Tok
  parts : ks ≡ front ++ ls
  means : (ms : List Tok) → Means b r (front ++ ms) ms

rule_all : {b : List ℕ} {r : Rule} {Xs : List Symbol} {ks ls rest : List Tok} → One b r ks ls → All b Xs ls rest →
    All b (rule r ∷ Xs) ks rest
rule_all {b = b} {r = r} {Xs = Xs} {rest = rest} i j = record {
  front = i.front ++ j.front;
  parts = i.parts ∙ ap (λ (z : List Tok). i.front ++ z) j.parts ∙ sym (append_assoc i.front j.front rest);
  means = λ ms. subst (λ (z : List Tok). MeansAll b (rule r ∷ Xs) z ms) (sym (append_assoc i.front j.front ms))
      (means_rule (i.means (j.front ++ ms)) (j.means ms));
}

mutual
  eaten_all : {Xs : List Symbol} {ks ls : List Tok} → Eats Xs ks ls → (b : List ℕ) → All b Xs ks ls
  eaten_all eats_none b = record { front = []; parts = refl; means = λ ms. means_none }
  eaten_all (eats_tok {k = k} h x) b = let i = eaten_all x b in
      record { front = k ∷ i.front; parts = ap (λ (z : List Tok). k ∷ z) i.parts; means = λ ms. means_tok h (i.means ms) }
  eaten_all (eats_rule d x) b = rule_all (eaten_one d b) (eaten_all x b)

  eaten_one : {r : Rule} {ks ls : List Tok} → EatsRule r ks ls → (b : List ℕ) → One b r ks ls
  eaten_one (eats_takes {r = r} {Ys = Ys} {k = k} {ks = ks} h x) b = let i = eaten_all x b in
      record {
        front = k ∷ i.front;
        parts = ap (λ (z : List Tok). k ∷ z) i.parts;
        means =
            λ ms. by_takes b r k ks Ys h (i.front ++ ms) ms (i.means ms);
      }
  eaten_one (eats_becomes {r = r} {Ys = Ys} {ks = ks} h x) b = let i = eaten_all x b in
      record { front = i.front; parts = i.parts; means = λ ms. by_becomes b r ks Ys h (i.front ++ ms) ms (i.means ms) }

-- the toks before the place where reading sticks, completed by others before any rest
record Halted (ks : List Tok) (left : ℕ) (P : List Tok → List Tok → Type 0) : Type 0 where
  front : List Tok
  back : List Tok
  parts : ks ≡ front ++ back
  count : length back ≡ left
  behind : List Tok → List Tok
  means : (rest : List Tok) → P (front ++ behind rest) rest

halted_here : (b : List ℕ) (Xs : List Symbol) (ks : List Tok) → Halted ks (length ks) (MeansAll b Xs)
halted_here b Xs ks = record {
  front = [];
  back = ks;
  parts = refl;
  count = refl;
  behind = λ rest. (all_readable b Xs rest).0;
  means =
      λ rest. (all_readable b Xs rest).1;
}

halted_refused : (b : List ℕ) (r : Rule) (ks : List Tok) → Halted ks (length ks) (Means b r)
halted_refused b r ks = record {
  front = [];
  back = ks;
  parts = refl;
  count = refl;
  behind = λ rest. (readable b r rest).0;
  means =
      λ rest. (readable b r rest).1;
}

halted_in : (b : List ℕ) (r : Rule) (Xs : List Symbol) (ks : List Tok) (left : ℕ) → Halted ks left (Means b r) →
    Halted ks left (MeansAll b (rule r ∷ Xs))
halted_in b r Xs ks left i = record {
  front = i.front;
  back = i.back;
  parts = i.parts;
  count = i.count;
  behind = λ rest. i.behind (all_readable b Xs rest).0;
  means = λ rest. means_rule (i.means (all_readable b Xs rest).0) (all_readable b Xs rest).1;
}

halted_behind : (b : List ℕ) (r : Rule) (Xs : List Symbol) (ks ls : List Tok) (left : ℕ) → One b r ks ls → Halted ls left (MeansAll b Xs) →
    Halted ks left (MeansAll b (rule r ∷ Xs))
halted_behind b r Xs ks ls left i j = record {
  front = i.front ++ j.front;
  back = j.back;
  parts = i.parts ∙ ap (λ (z : List Tok). i.front ++ z) j.parts ∙ sym (append_assoc i.front j.front j.back);
  count = j.count;
  behind = j.behind;
  means = λ rest. subst (λ (z : List Tok). MeansAll b (rule r ∷ Xs) z rest) (sym (append_assoc i.front j.front (j.behind rest)))
      (means_rule (i.means (j.front ++ j.behind rest)) (j.means rest));
}

mutual
  stuck_all : {Xs : List Symbol} {ks : List Tok} {left : ℕ} → Sticks Xs ks left → (b : List ℕ) → Halted ks left (MeansAll b Xs)
  stuck_all (sticks_here {kind = kind} {Xs = Xs} {ks = ks} n) b = halted_here b (a kind ∷ Xs) ks
  stuck_all (sticks_behind_tok {k = k} h x) b = let i = stuck_all x b in
      record {
        front = k ∷ i.front;
        back = i.back;
        parts = ap (λ (z : List Tok). k ∷ z) i.parts;
        count = i.count;
        behind = i.behind;
        means =
            λ rest. means_tok h (i.means rest);
      }
  stuck_all (sticks_in_rule {r = r} {Xs = Xs} {ks = ks} {left = left} x) b = halted_in b r Xs ks left (stuck_one x b)
  stuck_all (sticks_behind_rule {r = r} {Xs = Xs} {ks = ks} {ls = ls} {left = left} d x) b =
      halted_behind b r Xs ks ls left (eaten_one d b) (stuck_all x b)

  stuck_one : {r : Rule} {ks : List Tok} {left : ℕ} → SticksRule r ks left → (b : List ℕ) → Halted ks left (Means b r)
  stuck_one (sticks_refused {r = r} {ks = ks} h) b = halted_refused b r ks
  stuck_one (sticks_takes {r = r} {Ys = Ys} {k = k} {ks = ks} h x) b = let i = stuck_all x b in
      record {
        front = k ∷ i.front;
        back = i.back;
        parts = ap (λ (z : List Tok). k ∷ z) i.parts;
        count = i.count;
        behind = i.behind;
        means = λ rest. by_takes b r k ks Ys h (i.front ++ i.behind rest) rest (i.means rest);
      }
  stuck_one (sticks_becomes {r = r} {Ys = Ys} {ks = ks} h x) b = let i = stuck_all x b in
      record {
        front = i.front;
        back = i.back;
        parts = i.parts;
        count = i.count;
        behind = i.behind;
        means =
            λ rest. by_becomes b r ks Ys h (i.front ++ i.behind rest) rest (i.means rest);
      }

-- wholes
whole_of : (b : List ℕ) (whole : Whole) (ks : List Tok) → Means b (rule_of whole) ks [] → IsWhole whole ks
whole_of b a_type ks x = is_type x.1
whole_of b (a_phrase q) ks x = is_phrase x.1
whole_of b a_program ks x = is_program x.1

front_taken : (front back ks : List Tok) (left : ℕ) → ks ≡ front ++ back → length back ≡ left → take (length ks - left) ks ≡ front
front_taken front back ks left e h =
    let n : length ks - left ≡ length front = omega (arith, ap length e, length-append front back, h) in
    ap (λ (z : ℕ). take z ks) n ∙ ap (λ (z : List Tok). take (length front) z) e ∙ take-append_seam front back

kinds_append : (ks ls : List Tok) → kinds (ks ++ ls) ≡ kinds ks ++ kinds ls
kinds_append [] ls = refl
kinds_append (k ∷ ks) ls = ap (λ (z : List TokKind). k.kind ∷ z) (kinds_append ks ls)

pub stuck_begins : StuckBegins
stuck_begins whole ks left x =
    let i : Halted ks left (Means [] (rule_of whole)) = stuck_one x [] in
    record {
      all = i.front ++ i.behind [];
      behind = kinds (i.behind []);
      is_whole = whole_of [] whole (i.front ++ i.behind []) (i.means []);
      begins = kinds_append i.front (i.behind []) ∙ ap (λ (z : List Tok). kinds z ++ kinds (i.behind []))
          (sym (front_taken i.front i.back ks left i.parts i.count));
    }

no_kinds : (ks : List TokKind) → ks ++ [] ≡ ks
no_kinds [] = refl
no_kinds (k ∷ ks) = ap (λ (z : List TokKind). k ∷ z) (no_kinds ks)

right_none : (ks : List Tok) → ks ++ [] ≡ ks
right_none [] = refl
right_none (k ∷ ks) = ap (λ (z : List Tok). k ∷ z) (right_none ks)

pub eaten_is_whole : EatenIsWhole
eaten_is_whole whole ks rest x =
    let i : One [] (rule_of whole) ks rest = eaten_one x [] in
    let h : i.front ++ [] ≡ take (length ks - length rest) ks =
    right_none i.front ∙ sym (front_taken i.front rest ks (length rest) i.parts refl) in
    subst (IsWhole whole) h (whole_of [] whole (i.front ++ []) (i.means []))

pub eaten_begins : (whole : Whole) (ks rest : List Tok) → EatsRule (rule_of whole) ks rest →
    Begins whole (take (length ks - length rest) ks)
eaten_begins whole ks rest x = record {
  all = take (length ks - length rest) ks;
  behind = [];
  is_whole = eaten_is_whole whole ks rest x;
  begins = sym (no_kinds (kinds (take (length ks - length rest) ks)));
}
