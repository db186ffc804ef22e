-- One number behind the other.
use Rattle.std.proofs.Common.{arith, append_assoc, rules}
use Rattle.text.specs.Text.{line}
use Rattle.text.proofs.TextLaws.{then_more, widened, handed_back}
use Rattle.text.proofs.put_two.Goals as goal

pub returns : goal.returns
unfolding line
returns c = handed_back (widened (then_more c.put_number.ensures.text c.put_number-2.ensures.text) (simp append_assoc) (omega arith)) (search rules)
