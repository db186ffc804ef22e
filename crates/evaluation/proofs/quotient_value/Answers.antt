-- z times its inverse leaves 1, so z times the result leaves u v − t.
use Prim.Native.Nat.{ℕ, ◌+◌, ◌*◌, ◌%◌}
use native.Mathlib.Nat.{mod-lt}
use native.Mathlib.Omega.{arith}
use Rattle.algebra.specs.Congruence.{◌≈⟨◌⟩◌, negative}
use Rattle.algebra.proofs.Congruence.{≈_sym, ≈_trans, ≈-plus, ≈-times, ≈-reduced, ≈-negative, by}
use Rattle.field.specs.Field.{p}
use Rattle.field.proofs.PrimeField.{p_positive}
use Rattle.evaluation.proofs.quotient_value.Goals as goal

divided : (u v t z i : ℕ) → z * i ≈⟨ p ⟩ 1 → u * v ≈⟨ p ⟩ t + z * (((u * v % p + negative p t) % p * i) % p)
divided u v t z i one =
    let w = u * v % p in
    let m = (w + negative p t) % p in
    let r = m * i % p in
    -- z r ≈ m, m ≈ w − t, w ≈ u v
    let back : z * r ≈⟨ p ⟩ m = ≈_trans (≈-times z (≈-reduced p (m * i))) (by (≈-times m one) (omega arith)) in
    let sum : t + z * r ≈⟨ p ⟩ w =
    by (≈-plus (≈-plus back (≈-reduced p (w + negative p t))) (≈-negative p_positive t)) (omega arith) in
    ≈_sym (≈_trans sum (≈-reduced p (u * v)))

pub returns : goal.returns
returns c =
    let three = c.args.three in
    let z = c.args.z in
    let inverse = c.inverse.ensures.of_nonzero c.requires in
    let all = c.times-2.ensures in
    record {
      word = rw all (mod-lt _ p_positive);
      divides = rw (all, c.minus.ensures, c.times.ensures)
          (divided three.first three.second three.third z c.inverse.result inverse.leaves_one);
    }
