-- What comes of the files of a program, by what is found of them.
use Rattle.std.proofs.Common.{◌≡◌, ◌⊎◌, ℕ, suc, ◌≤◌, List, [], ◌∷◌, length, map, Result, Ok, Err, IfOk, inl, inr, refl, sym, ap, subst, ◌∙◌}
use Rattle.verse_base.specs.declared.refusals.Memory.{Memory}
use Rattle.verse_tree.specs.ItemView.{item_of}
use Rattle.verse_tree.specs.Numbering.{program_nodes}
use Rattle.verse_tree.specs.declared.items.Tree.{Tree}
use Rattle.verse_tree.specs.declared.programs.Program.{Program as Made}
use Rattle.verse_tree.specs.declared.tables.Names.{Names}
use Rattle.verse_tree.specs.declared.tables.Typed.{Typed}
use Rattle.verse_rules_types.specs.Types.{ty_of}
use Rattle.verse_rules.specs.Sound.{completed, types_of}
use Rattle.verse_accept.specs.Fronts.{Accepts}
use Rattle.verse_outside.specs.Causes.{Rose}
use Rattle.verse_outside.specs.Held.{Holding}
use Rattle.verse_top_args.specs.Words.{Command, files_of}
use Rattle.verse_top.specs.Answers.{read_line}
use Rattle.verse_top.specs.Ends.{Replies}
use Rattle.verse_top.specs.Fronted.{Fronts, Judged}
use Rattle.verse_top.specs.Loading.{AreLoaded, IsAbsent, IsAmong}
use Rattle.verse_top.proofs.LoadLaws.{missing_of_program}
use Rattle.verse_top.specs.Programs.{IsAccepted, IsProgram}
use Rattle.verse_top.specs.declared.fronts.Fronted.{Fronted}
use Rattle.verse_top.specs.declared.fronts.Fronted.TheVariants as f
use Rattle.verse_top.proofs.AnswerLaws.{answers_refused}

-- the bytes were loaded, and judged
pub fronts_judged : (held : Holding) (before now : ℕ) (names files : List (List ℕ)) (r : Result Fronted Memory) →
    AreLoaded held names files → IfOk r (Judged names files) → IfOk r (Fronts held before now names)
fronts_judged held before now names files (Ok (f.Accepted p)) loaded j = (files, (loaded, j))
fronts_judged held before now names files (Ok (f.Refused a)) loaded j =
    λ c g n. inl (answers_refused held c names files a.status a.text.items j.1.0 g n j.0 j.1.1.1 loaded j.1.1.0)
fronts_judged held before now names files (Err e) loaded j = tt

-- a file was not read
pub replies_unread : (c : Command) (held : Holding) (before now : ℕ) (names : List (List ℕ)) (name : List ℕ) (status : ℕ) (text : List ℕ) →
    IsProgram c → files_of c ≡ names → IsAmong name names → Rose before now ⊎ IsAbsent held names name → status ≡ 6 →
    text ≡ read_line name →
    Replies c held before now status text
replies_unread c held before now names name status text g e among cause s t = inr (
  s,
  (
    name,
    (
      t,
      record {
        named = subst (λ (ns : List (List ℕ)). IsAmong name ns) (sym e) among;
        cause = elim cause [
          | inl rose ↦ inl rose
          | inr absent ↦ inr (missing_of_program held c name g (subst (λ (ns : List (List ℕ)). IsAbsent held ns name) (sym e) absent))
        ];
      },
    ),
  ),
)

-- a program whose parts are those that the front end answers
pub accepted_is : (files : List (List ℕ)) (p : Made) (tree : Tree) (names : Names) (types : Typed) → 1 ≤ length files → length files ≤ 16 →
    p.tree ≡ tree → p.names ≡ names → p.typed ≡ types → Accepts files (map item_of tree.items) → tree.files ≡ length files →
    tree.nodes ≡ program_nodes (map item_of tree.items) → names ≡ completed (map item_of tree.items) →
    map ty_of types.types ≡ types_of (map item_of tree.items) → IsAccepted files p
accepted_is files p tree names types some few e1 e2 e3 accepts are counted named typed = record {
  some = some;
  few = few;
  accepts = subst (λ (x : Tree). Accepts files (map item_of x.items)) (sym e1) accepts;
  files_are = ap (λ (x : Tree). x.files) e1 ∙ are;
  counted = ap (λ (x : Tree). x.nodes) e1 ∙ counted ∙ ap (λ (x : Tree). program_nodes (map item_of x.items)) (sym e1);
  named = e2 ∙ named ∙ ap (λ (x : Tree). completed (map item_of x.items)) (sym e1);
  typed = ap (λ (x : Typed). map ty_of x.types) e3 ∙ typed ∙ ap (λ (x : Tree). types_of (map item_of x.items)) (sym e1);
}

-- as many lists of bytes as files
pub as_many_files : {A B : Type 0} (f : A → B) (xs : List A) → length (map f xs) ≡ length xs
as_many_files f [] = refl
as_many_files f (x ∷ xs) = ap suc (as_many_files f xs)
