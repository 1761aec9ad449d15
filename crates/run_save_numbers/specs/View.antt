-- What the words of this crate mean.
use Rattle.run_save_numbers.specs.declared.tables.TaskNumbers.{TaskNumbers}
use Rattle.run_save_numbers.specs.Numbers.{Numbers}

abbrev pub numbers_of : TaskNumbers → Numbers
numbers_of n = record { own = n.own; borns = n.borns.items; above = n.above; arms = n.arms.items }
