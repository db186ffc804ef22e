-- A', B' and C' fill the front of a room each.
use Rattle.dividend.proofs.dividend.Goals as goal

pub returns : goal.returns
returns c = record {
  A' = c.blinded_whole.new.out;
  B' = c.blinded_whole-2.new.out;
  C' = c.blinded_whole-3.new.out;
  is_a' = c.blinded_whole.ensures;
  is_b' = c.blinded_whole-2.ensures;
  is_c' = c.blinded_whole-3.ensures;
  is_difference = c.dividend_of.ensures;
}
