-- `text::Text::number` meets its contract: std's decimal is the text. Assumes nothing.
use Rattle.std.proofs.Common.{rules}
use Rattle.sheet.proofs.DecimalLaws.{decimal_shown}
use Rattle.sheet.proofs.text.Text.number.Goals as goal

pub returns-clause-text : goal.returns-clause-text
returns-clause-text g c = rw (← decimal_shown c.args.n c.ranges.n.fits) (search rules)
