-- The lemmas that the goals of a function want, by its name.
use Rattle.verse_parse.specs.Rests.{rest_of_class, type_and_default, braced_path, rest_defined, rest_of_function, defined_enum}
use Rattle.verse_parse.specs.Rests.{defined_class}
use Rattle.verse_grammar.proofs.EatingItems.{eats_class_rest, eats_parent_at, eats_parent_other, eats_members_until_at}
use Rattle.verse_grammar.proofs.EatingItems.{eats_members_until_other, eats_members_tail_other, eats_member_at, eats_member_rest_other}
use Rattle.verse_grammar.proofs.EatingItems.{eats_field_rest, eats_default_at, eats_default_other, eats_an_item_using, eats_using_rest}
use Rattle.verse_grammar.proofs.EatingItems.{eats_an_item_name, eats_item_rest_at, eats_item_rest_other, eats_enum_or_class_at1}
use Rattle.verse_grammar.proofs.EatingItems.{eats_enum_or_class_at2}
use Rattle.verse_grammar.proofs.StickingItems.{sticks_class_rest_1, sticks_class_rest_2, sticks_class_rest_3, sticks_class_rest_4}
use Rattle.verse_grammar.proofs.StickingItems.{sticks_parent_at_1, sticks_parent_at_2, sticks_members_until_other_1}
use Rattle.verse_grammar.proofs.StickingItems.{sticks_members_until_other_2, sticks_members_until_other_3, sticks_member_at_1}
use Rattle.verse_grammar.proofs.StickingItems.{sticks_member_at_2, sticks_member_at_3, sticks_member_at_4, sticks_member_rest_other_1}
use Rattle.verse_grammar.proofs.StickingItems.{sticks_field_rest_1, sticks_field_rest_2, sticks_field_rest_3, sticks_default_at_1}
use Rattle.verse_grammar.proofs.StickingItems.{sticks_an_item_other, sticks_an_item_end, sticks_an_item_using_1, sticks_using_rest_1}
use Rattle.verse_grammar.proofs.StickingItems.{sticks_using_rest_2, sticks_using_rest_3, sticks_using_rest_4, sticks_using_rest_5}
use Rattle.verse_grammar.proofs.StickingItems.{sticks_an_item_name_1, sticks_an_item_name_2, sticks_item_rest_at_1}
use Rattle.verse_grammar.proofs.StickingItems.{sticks_item_rest_other_1, sticks_enum_or_class_at1_1, sticks_enum_or_class_at2_1}
use Rattle.verse_grammar.proofs.StickingItems.{sticks_enum_or_class_other}
use Rattle.verse_grammar.specs.Items.{no_parent, parent, no_members, some_members, one_member, more_members, no_default, default, one_part}
use Rattle.verse_grammar.proofs.GoingItems.{goes_members_tail_at, stuck_members_tail_at_1}
use Rattle.verse_grammar.proofs.Going.{goes_start, goes_eats}
use Rattle.verse_parse.proofs.Wholes.{var_whole, member_whole, named_eats, named_sticks_1, named_sticks_2, method_eats, method_sticks}
use Rattle.verse_parse.proofs.Wholes.{using_whole, item_whole}

pub ruleset of_class_rest = (
  rest_of_class,
  eats_class_rest,
  sticks_class_rest_1,
  sticks_class_rest_2,
  sticks_class_rest_3,
  sticks_class_rest_4,
)

pub ruleset of_parent = (no_parent, parent, eats_parent_at, eats_parent_other, sticks_parent_at_1, sticks_parent_at_2)

pub ruleset of_members = (
  no_members,
  some_members,
  eats_members_until_at,
  eats_members_until_other,
  sticks_members_until_other_1,
  sticks_members_until_other_2,
  sticks_members_until_other_3,
)

pub ruleset of_member_row = (
  one_member,
  more_members,
  eats_members_tail_other,
  goes_members_tail_at,
  stuck_members_tail_at_1,
  goes_start,
  goes_eats,
)

pub ruleset of_var_member = (var_whole, eats_member_at, sticks_member_at_1, sticks_member_at_2, sticks_member_at_3, sticks_member_at_4)

pub ruleset of_named_member = (member_whole, named_eats, named_sticks_1, named_sticks_2)

pub ruleset of_member_rest = (eats_member_rest_other, sticks_member_rest_other_1, method_eats, method_sticks)

pub ruleset of_field_rest = (type_and_default, eats_field_rest, sticks_field_rest_1, sticks_field_rest_2, sticks_field_rest_3)

pub ruleset of_default_value = (no_default, default, eats_default_at, eats_default_other, sticks_default_at_1)

pub ruleset of_item = (sticks_an_item_other, sticks_an_item_end)

pub ruleset of_using_at = (using_whole, eats_an_item_using, sticks_an_item_using_1)

pub ruleset of_using_rest = (
  braced_path,
  one_part,
  eats_using_rest,
  sticks_using_rest_1,
  sticks_using_rest_2,
  sticks_using_rest_3,
  sticks_using_rest_4,
  sticks_using_rest_5,
)

pub ruleset of_named_item = (item_whole, eats_an_item_name, sticks_an_item_name_1, sticks_an_item_name_2)

pub ruleset of_item_rest = (
  rest_defined,
  rest_of_function,
  eats_item_rest_at,
  eats_item_rest_other,
  sticks_item_rest_at_1,
  sticks_item_rest_other_1,
)

pub ruleset of_defined = (
  defined_enum,
  defined_class,
  eats_enum_or_class_at1,
  eats_enum_or_class_at2,
  sticks_enum_or_class_at1_1,
  sticks_enum_or_class_at2_1,
  sticks_enum_or_class_other,
)
