-- What a member of the code stands for.
use Rattle.verse_rules_types.specs.Types.{ty_of}
use Rattle.verse_check_typing.specs.Members as m
use Rattle.verse_check_calls.specs.declared.members.Member.{Member}
use Rattle.verse_check_calls.specs.declared.members.Member.TheVariants as member

abbrev pub member_of : Member → m.Member
member_of (member.Part t) = m.part (ty_of t)
member_of member.Action = m.action
member_of member.Missing = m.missing
