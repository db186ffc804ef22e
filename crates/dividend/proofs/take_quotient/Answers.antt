-- The dividend's first 2 m + 1 words are divided by the target's words below its leading 1.
use mathlib.Core.Path.{◌≡◌, ◌∙◌}
use mathlib.Core.List.{List}
use Prim.Native.Nat.{ℕ, ◌+◌, ◌-◌, ◌≤◌}
use native.Mathlib.Omega.{arith}
use lib.ListN.{length, take, drop}
use Rattle.slices.proofs.Rooms.{cut}
use Rattle.algebra.specs.Points.{row_points, target}
use Rattle.algebra.proofs.Consecutive.{length-row_points}
use Rattle.field.specs.Field.{p}
use Rattle.poly.specs.Division.{division, quotient}
use Rattle.dividend.specs.Dividend.{quotient_of}
use Rattle.dividend.proofs.TargetWords.{target_words}
use Rattle.dividend.proofs.take_quotient.Goals as goal

divided : (m : ℕ) (dividend z out : List ℕ) {n : ℕ} → z ≡ target p (row_points m) → m ≤ 256 → length dividend ≡ 513 → n ≡ m + 1 →
    out ≡ drop (length (take m z)) (division p (take m z) n (take (m + m + 1) dividend)) → out ≡ quotient_of p m dividend
unfolding quotient_of quotient
divided m dividend z out {n} e few size count h =
    let low : length (take m z) ≡ m = grind (arith, cut, target_words) in
    let words : length (take (m + m + 1) dividend) - m ≡ n = grind (arith, cut) in
    h ∙ rw (low, e, length-row_points m, words)

pub returns : goal.returns
returns c = divided c.args.m c.args.dividend _ _ c.requires.is_target (omega arith) (omega arith) (omega arith) c.divide_into.ensures
