-- The waiting report, as request A4 of document 02 has it. Assumes nothing.
use Rattle.std.specs.Prelude.{ℕ, ◌*◌, ◌-◌, cond, List, Result, Ok, Err, replicate}
use Rattle.cards.specs.Below.{tabulate}
use Rattle.report.specs.declared.CardLine.{CardLine}
use Rattle.refusals.specs.Numbers.{number_of}
use Rattle.refusals.specs.declared.Refusal.{Refusal}
use Rattle.tally.specs.Tally.{Square, figures_of, tally_good}
use Rattle.tally.specs.declared.Figures.{Figures}
use Rattle.tally.specs.declared.Tally.{Tally}

-- The variance as a fraction of two whole numbers: grants times squares less sum squared, over grants squared. Without grants it is 0 over 0.
unfoldable pub line_of : Figures → CardLine
line_of f =
    record {
      grants = f.grants;
      sum = f.sum;
      squares = f.squares;
      numerator = f.grants * f.squares - f.sum * f.sum;
      denominator = f.grants * f.grants;
    }

abbrev pub no_line : CardLine
no_line = record { grants = 0; sum = 0; squares = 0; numerator = 0; denominator = 0 }

abbrev pub line_at : Tally → ℕ → CardLine
line_at t b = line_of (figures_of t b)

-- the answer and the lines by arbitration number, zeros where the answer refuses
pub record Report : Type 0 where
  pub answer : ℕ
  pub cards : List CardLine

abbrev pub as_report : Result (List CardLine) Refusal → Report
as_report (Ok cards) = record { answer = 0; cards = cards }
as_report (Err refusal) = record { answer = number_of refusal; cards = replicate 64 no_line }

-- 41 with zeros for a tally or a square that cannot be counted on
unfoldable pub report_of : Tally → Square → Report
report_of t q =
    cond (tally_good t q) (record { answer = 0; cards = tabulate 64 (line_at t) }) (record { answer = 41; cards = replicate 64 no_line })
