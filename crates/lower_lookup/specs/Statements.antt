-- What statements of the code are.
use Rattle.verse_tree.specs.View.{tree_of}
use Rattle.verse_meaning.specs.Residuals as r
use Rattle.verse_meaning.specs.Evaluating as e
use Rattle.lower_lookup.specs.declared.statements.Binder.{Binder}
use Rattle.lower_lookup.specs.declared.statements.Binder.TheVariants as binder
use Rattle.lower_lookup.specs.declared.statements.Generator.{Generator}
use Rattle.lower_lookup.specs.declared.statements.Generator.TheVariants as generator
use Rattle.lower_lookup.specs.declared.statements.Statement.{Statement}
use Rattle.lower_lookup.specs.declared.statements.Statement.TheVariants as statement

abbrev pub binder_view : Binder → r.Binder
binder_view binder.Nothing = r.no_name
binder_view (binder.Constant x) = r.a_constant x.now
binder_view (binder.Variable x pl) = r.a_variable x.now pl

abbrev pub generator_view : Generator → r.Generator
generator_view (generator.Elements x) = r.of_elements x.now
generator_view (generator.Entries k x) = r.of_entries k.now x.now
generator_view (generator.Range x) = r.of_range x.now

abbrev pub statement_view : Statement → e.Statement
statement_view statement.Plain = e.plain
statement_view (statement.Defines b) = e.defines (binder_view b)
statement_view (statement.Defers a) = e.defers (tree_of a.now)
statement_view (statement.Generates g) = e.generates (generator_view g)
