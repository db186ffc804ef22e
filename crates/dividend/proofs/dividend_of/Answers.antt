-- The product, and then minus one times c added.
use Rattle.dividend.specs.Dividend.{dividend_of}
use Rattle.dividend.proofs.dividend_of.Goals as goal

pub returns : goal.returns
unfolding dividend_of
returns c = cc
