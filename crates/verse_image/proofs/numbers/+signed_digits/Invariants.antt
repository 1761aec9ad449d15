use Rattle.verse_image.proofs.numbers.+signed_digits.Given as goal

abbrev pub decreases-signed_digits : goal.decreases-signed_digits
decreases-signed_digits l = l.most
