-- The target without one point: the target is (X − x_i) times the target of the other points, whatever their order,
-- so its quotient by X − x_i is that target.
use mathlib.Core.List.{List, [], ◌∷◌}
use Prim.Native.Nat.{ℕ, zero, suc, ◌<◌}
use native.Mathlib.Omega.{arith}
use lib.ListN.{length, get_or}
use Rattle.algebra.specs.Congruence.{negative}
use Rattle.algebra.specs.Polynomial.{product, ◌≋⟨◌⟩◌}
use Rattle.algebra.specs.Points.{factor, target}
use Rattle.algebra.specs.Basis.{without}
use Rattle.algebra.proofs.Congruence.{≈-eq}
use Rattle.algebra.proofs.Pairing.{by_pairings}
use Rattle.algebra.proofs.Same.{≋_sym, ≋_trans, ≋-reduced}
use Rattle.algebra.specs.Polynomial.{divided}
use Rattle.algebra.proofs.Target.{target-zero}
use Rattle.algebra.proofs.Division.{pairing-factor, factor-same, factor-cancel, divided-exact}

-- two factors in either order
factor_swap : (p c d : ℕ) (f : List ℕ) →
    product (c ∷ 1 ∷ []) (product (d ∷ 1 ∷ []) f) ≋⟨ p ⟩ product (d ∷ 1 ∷ []) (product (c ∷ 1 ∷ []) f)
factor_swap p c d f = by_pairings (λ φ. ≈-eq p (simp pairing-factor (omega arith)))

-- the target by its definition, not reduced
target-factor : (p x : ℕ) (xs : List ℕ) → target p (x ∷ xs) ≋⟨ p ⟩ product (factor p x) (target p xs)
unfolding target
target-factor p x xs = ≋-reduced p (product (factor p x) (target p xs))

pub target-split : (p : ℕ) (xs : List ℕ) (i : ℕ) → i < length xs →
    target p xs ≋⟨ p ⟩ product (factor p (get_or xs i 0)) (target p (without i xs))
unfolding without
target-split p [] i l = absurd (omega arith)
target-split p (x ∷ xs) zero l = target-factor p x xs
target-split p (x ∷ xs) (suc i) l =
    let y = get_or xs i 0 in
    let rest = target p (without i xs) in
    ≋_trans (target-factor p x xs)
    (≋_trans (factor-same (negative p x) (target p xs) (product (factor p y) rest) (target-split p xs i (omega arith)))
    (≋_trans (factor_swap p (negative p x) (negative p y) rest)
    (factor-same (negative p y) (product (factor p x) rest) (target p (x ∷ without i xs)) (≋_sym (target-factor p x (without i xs))))))

pub divided-target : {p : ℕ} → 0 < p → (xs : List ℕ) (i : ℕ) → i < length xs →
    divided (get_or xs i 0) (target p xs) ≋⟨ p ⟩ target p (without i xs)
divided-target {p} pos xs i l =
    let x = get_or xs i 0 in
    factor-cancel pos (negative p x) (divided x (target p xs)) (target p (without i xs))
    (≋_trans (≋_sym (divided-exact pos x (target p xs) ((target-zero pos xs).zero_at i l))) (target-split p xs i l))
