use Rattle.run_save_values.proofs.numbers.+digits.Given as goal

abbrev pub decreases-digits : goal.decreases-digits
decreases-digits l = l.most
