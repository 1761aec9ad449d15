-- What values of the code stand for.
use Rattle.std.specs.Prelude.{ℕ, List, map}
use denote.Ref.{Bor}
use Rattle.verse_tree.specs.Tree.{Bytes}
use Rattle.verse_rules_types.specs.Types.{ty_of}
use Rattle.verse_names_declarations.specs.Lines.{members_view}
use Rattle.verse_check_typing.specs.Facts as f
use Rattle.verse_check_typing.specs.Callees as c
use Rattle.verse_check_typing.specs.Members as m
use Rattle.verse_check_typing.specs.Judgement as j
use Rattle.verse_check_typing.specs.declared.sets.NameSet.{NameSet}
use Rattle.verse_check_typing.specs.declared.sets.NumberSet.{NumberSet}
use Rattle.verse_check_typing.specs.declared.worlds.World.{World}
use Rattle.verse_check_typing.specs.declared.facts.Facts.{Facts}
use Rattle.verse_check_typing.specs.declared.callees.Callee.{Callee}
use Rattle.verse_check_typing.specs.declared.callees.Callee.TheVariants as callee
use Rattle.verse_check_typing.specs.declared.judged.Judged.{Judged}

abbrev pub bytes_of : Bor Bytes → Bytes
bytes_of x = x.now

abbrev pub names_of : NameSet → List Bytes
names_of s = map bytes_of s.names.keys

abbrev pub numbers_of : NumberSet → List ℕ
numbers_of s = s.numbers.keys

abbrev pub world_of : World → f.World
world_of w = record {
  names = w.names.now;
  members = map members_view w.members.now;
  values =
      map names_of w.values.now;
}

abbrev pub facts_of : Facts → f.Facts
facts_of f = record {
  world = world_of f.world.now;
  types = map ty_of f.types.now;
  refs = f.refs.now;
  vars = f.vars.now;
  left = numbers_of f.left.now;
}

abbrev pub callee_of : Callee → c.Callee
callee_of (callee.Function g) = c.function g.now
callee_of callee.Print = c.print
callee_of callee.Round = c.round
callee_of callee.Modulo = c.modulo
callee_of (callee.Await t) = c.await (ty_of t.now)
callee_of (callee.Signal t) = c.signal (ty_of t.now)
callee_of callee.Item = c.item
callee_of (callee.Value t) = c.value (ty_of t.now)

-- a type with the least code of a rule, before what breaks a rule has the type never
abbrev pub judged_of : Judged → j.Judgement
judged_of j = record { ty = ty_of j.ty; code = j.code }
