-- A number has at most 20 digits: the byte behind it is the last of 21.
use Rattle.std.proofs.Common.{arith, refl, rules}
use Rattle.text.proofs.TextLaws.{then_more, digits_64, widened}
use Rattle.text.proofs.Text.put_number.Goals as goal

pub returns-clause-text : goal.returns-clause-text
returns-clause-text c = widened (then_more c.put_decimal.ensures.text c.put.ensures.text) refl (omega (arith, digits_64 c.args.n (search rules)))
