-- What the pass has seen, as the definitions see it.
use Rattle.std.specs.Prelude.{map}
use Rattle.verse_rules_types.specs.Types.{ty_of}
use Rattle.verse_check_typing.specs.Steps.{Sight}
use Rattle.verse_check_typing.specs.Views.{numbers_of}
use Rattle.verse_check.specs.declared.seen.Seen.{Seen}

abbrev pub sight_of : Seen → Sight
sight_of x = record {
  types = map ty_of x.types;
  refs = x.refs;
  vars = x.vars;
  left =
      numbers_of x.left;
  fault = x.fault;
}
