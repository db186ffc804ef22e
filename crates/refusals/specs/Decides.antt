-- What a function that answers yes or no says of a statement.
-- RULES 5: a check accepts exactly if its equality is true.
use Rattle.std.specs.Prelude.{Bool, true, false, ◌≡◌}

pub record Decides (Equal : Type 0) (answer : Bool) : Type 0 where
  pub when_true : answer ≡ true → Equal
  pub when_false : answer ≡ false → Equal → ⊥
