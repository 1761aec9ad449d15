-- What the forms need, from what is found at their nodes.
use Rattle.std.specs.Prelude.{false}
use Rattle.verse_accept_classes.proofs.Tables.{fields_agree_all, field_names_agree, methods_owned}
use Rattle.verse_accept_fine.specs.Needs.{InnerAllowed, ValuesNeed, ControlNeeds, NamingNeeds, CallsNeed, OwnCallsNeed, MethodCallsNeed}
use Rattle.verse_accept_fine.proofs.Operators as o
use Rattle.verse_accept_fine.proofs.Control as c
use Rattle.verse_accept_fine.proofs.Arms as m
use Rattle.verse_accept_fine.proofs.Names as n
use Rattle.verse_accept_fine.proofs.Members as d
use Rattle.verse_accept_fine.proofs.Instances as f
use Rattle.verse_accept_fine.proofs.Enums as e
use Rattle.verse_accept_fine.proofs.Calls as k

pub inner_allowed : InnerAllowed
inner_allowed is w a b h = record {
  freely = c.freely_allows is (λ n. false) (λ n. false) w a b h;
  repeated = c.repeated_allows is (λ n. false) (λ n. false) w a b h;
  caught = c.caught_allows is (λ n. false) (λ n. false) w a b h;
  armed = c.armed_allows is (λ n. false) (λ n. false) w a b h;
  deferred = c.deferred_allows is (λ n. false) (λ n. false) w a b h;
  looped = c.looped_allows is (λ n. false) (λ n. false) w a b h;
}

pub values_need : ValuesNeed
values_need is r v w a xs b h n p = record {
  block = o.block_fits is r v w a xs b h n p;
  option = o.option_fits is r v w a xs b h n p;
  definition = o.definition_gives is r v w a xs b h n p;
  tuple = o.tuple_gives is r v w a xs b h n p;
  array = o.array_gives is r v w a xs b h n p;
  mapping = o.mapping_gives is r v w a xs b h n p;
  is_map = o.mapping_is is r v w a xs b h n p;
  holes = o.holes_gives is r v w a xs b h n p;
  minus = o.minus_gives is r v w a xs b h n p;
  query = o.query_gives is r v w a xs b h n p;
  both = c.and_fits is r v w a xs b h n p;
  sum = c.sum_gives is r v w a xs b h n p;
  difference = c.difference_gives is r v w a xs b h n p;
  product = c.product_gives is r v w a xs b h n p;
  compared = c.compared_gives is r v w a xs b h n p;
}

pub control_needs : ControlNeeds
control_needs is r v w a xs b h n p = record {
  choice = c.if_fits is r v w a xs b h n p;
  either = c.or_fits is r v w a xs b h n p;
  returned = c.returned_gives is r v w a xs b h n p;
  returned_unit = c.unit_returned is r v w a xs b h n p;
  break_form = c.break_allowed is r v w a xs b h n p;
  loop_form = c.loop_fits is r v w a xs b h n p;
  waits = c.async_waits is r v w a xs b h n p;
  untried = c.async_free is r v w a xs b h n p;
  several = c.group_several is r v w a xs b h n p;
  sync = c.sync_fits is r v w a xs b h n p;
  race = m.race_fits is r v w a xs n p;
  rush = m.rush_fits is r v w a xs n p;
  cases = m.case_fits is r v w a xs n p;
}

pub naming_needs : NamingNeeds
naming_needs is quiet r v w a xs b h names i p = record {
  name = λ x e k. let q = n.name_is is r v w a xs b h names i p fields_agree_all quiet x e k in (q.sort, q.named, q.fits);
  this = n.this_fits is r v w a xs b h names i p;
  constant = n.constant_defines is r v w a xs b h names i p;
  typed = n.typed_defines is r v w a xs b h names i p;
  variable = n.variable_defines is r v w a xs b h names i p;
  typed_value = n.typed_fits is r v w a xs b h names i p;
  variable_value = n.variable_fits is r v w a xs b h names i p;
  elements = n.elements_generate is r v w a xs b h names i p;
  entries = n.entries_generate is r v w a xs b h names i p;
  range = n.range_generates is r v w a xs b h names i p;
  enum_value = e.enum_gives is r v w a xs i p;
  instance = λ x gs k.
      let q = f.instance_gives is r v fields_agree_all field_names_agree quiet w a xs b names i p x gs k in (q.class, q.stands, q.gives);
  member = d.member_gives is r v fields_agree_all field_names_agree quiet w a xs b h i p;
}

pub calls_need : CallsNeed
calls_need is stand r v w a xs b h n p m q z g ts e o function free args =
    k.call_gives is r v w a xs b h n p stand m q z g ts e o function free (k.served is r v w n a xs m 0 ts args)

pub own_calls_need : OwnCallsNeed
own_calls_need is stand quiet r v w a xs b h n p m q z c i ts e o this method free args =
    k.own_call_gives is r v w a xs b h n p stand methods_owned quiet m q z c i ts e o this method free
    (k.served is r v w n a xs m 0 ts args)

pub method_calls_need : MethodCallsNeed
method_calls_need is stand quiet r v w a xs b h n p m q e x c i ts at o class method free args =
    k.method_call_gives is r v w a xs b h n p stand methods_owned quiet m q e x c i ts at o class method free
    (k.served is r v w n a xs m 0 ts args)
