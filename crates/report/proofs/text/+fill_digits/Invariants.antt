-- Each call leaves out the last byte of the field.
use Rattle.std.proofs.Common.{length}
use Rattle.report.proofs.text.+fill_digits.Given as goal

abbrev pub decreases-fill_digits : goal.decreases-fill_digits
decreases-fill_digits l = length l.field.now
