-- The measure is how many digits may still come.
use Rattle.desk_lines.proofs.line.+put_digits.Given as goal

abbrev pub decreases-put_digits : goal.decreases-put_digits
decreases-put_digits l = l.most
