-- A program that breaks no rule is fine.
use Rattle.std.proofs.Common.{true, false, [], refl, subst, inl}
use Rattle.std.specs.Prelude.{Some, None}
use Rattle.verse_sound_rules.specs.Fine.{Fine}
use Rattle.verse_sound_rules.specs.Programs.{params_behind, FineFunction, FineMain}
use Rattle.verse_accept_classes.specs.Owners.{Owned}
use Rattle.verse_accept_classes.specs.Laws.{Quiet, FunctionsStand}
use Rattle.verse_accept_classes.proofs.Tables.{functions_found}
use Rattle.verse_accept_fine.specs.Sorted.{sorted, program}
use Rattle.verse_accept_fine.proofs.Known.{sorted_known}
use Rattle.verse_accept_trees.specs.Laws.{TreesAreFine}
use Rattle.verse_accept_sound.specs.Programs.{ProgramsAreFine}
use Rattle.verse_accept_sound.proofs.Bodies.{own_signature, own_params, body_fine, function_fine, defaults_fine}
use Rattle.verse_accept_sound.proofs.Inheriting.{slots_inherit, methods_inherit}
use Rattle.verse_accept_sound.proofs.Main.{main_starts}

pub programs_fine : TreesAreFine → ProgramsAreFine
programs_fine trees is arrays events told shaped numbered sound named = record {
  known = sorted_known is;
  functions = λ g f e.
      let o = functions.owner g f e in
      subst (FineFunction (program is arrays events) (sorted is) g) o.2
      (function_fine is arrays events told shaped numbered sound quiet functions trees named g o.0 o.1);
  defaults = defaults_fine is arrays events told shaped numbered sound quiet functions trees named;
  slots = slots_inherit is arrays events quiet functions;
  methods = methods_inherit is arrays events quiet functions;
  main = main;
}
  where
    quiet : Quiet is
    quiet n c b = sound.named n c (inl b)

    functions : FunctionsStand is
    functions = functions_found is numbered

    main : FineMain (program is arrays events) (sorted is)
    main =
        let m = main_starts is quiet in
        let f = m.0 in
        let s = m.2 in
        let o : Owned = record { class = None; tree = f } in
        let sign = own_signature is arrays events told shaped numbered sound quiet functions trees named o in
        record {
          function = f;
          found = m.1;
          inputs = sign.params;
          are = s.inputs;
          params = own_params is arrays events told shaped numbered sound quiet functions trees named s.number o s.there;
          result = sign.result;
          body = subst (λ d. Fine (program is arrays events) (sorted is) (record {
            fails = d;
            result = Some sign.result;
            breaks = false;
            waits =
                true;
            this = None;
          }) (params_behind f.params []) f.body) s.decides
              (body_fine is arrays events told shaped numbered sound quiet functions trees named s.number o s.there true (λ l. refl));
        }
