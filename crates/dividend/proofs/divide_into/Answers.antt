-- What is copied is the rest of the divided words after the remainder.
use mathlib.Core.Path.{◌≡◌, ◌∙◌}
use mathlib.Core.List.{List}
use Prim.Native.Nat.{ℕ, ◌+◌, ◌-◌}
use native.Mathlib.Omega.{arith}
use lib.ListN.{length, take, drop, length-drop}
use lib.Seq.{take_all}
use Rattle.field.specs.Field.{p}
use Rattle.poly.specs.Division.{division}
use Rattle.dividend.proofs.divide_into.Goals as goal

rest : (low work w out : List ℕ) (n : ℕ) → length work ≡ length low + n → w ≡ division p low (length work - length low) work →
    out ≡ take (length w - length low) (drop (length low) w) → out ≡ drop (length low) (division p low n work)
rest low work w out n size divided copied =
    let left : length work - length low ≡ n = omega arith in
    copied ∙ take_all (length w - length low) (drop (length low) w) (omega (arith, length-drop (length low) w)) ∙ rw (divided, left)

pub returns : goal.returns
returns c =
    rest _ _ c.divide.new.room _ _ (omega arith) c.divide.ensures c.copy.ensures
