-- A test for being one of the points: it passes exactly at the points.
use mathlib.Core.Bool.{Bool, true, false, ◌||◌, or-true}
use mathlib.Core.Path.{◌≡◌, refl}
use mathlib.Core.List.{List, [], ◌∷◌}
use Prim.Native.Nat.{ℕ, zero, suc, ◌<◌}
use native.Mathlib.Omega.{arith}
use borrow.Author.Tests.{eq-eqb, eqb-true}
use lib.Dec.{eqb}
use lib.ListN.{length, get_or}
use Rattle.algebra.specs.Points.{among}

pub among_at : (xs : List ℕ) (i : ℕ) → i < length xs → among (get_or xs i 0) xs ≡ true
unfolding among
among_at [] i l = absurd (omega arith)
among_at (x ∷ xs) zero l = rw (eq-eqb x x refl)
among_at (x ∷ xs) (suc i) l = rw (among_at xs i (omega arith), or-true)

pub among_some : (s : ℕ) (xs : List ℕ) → among s xs ≡ true → (i : ℕ) × (i < length xs) × (s ≡ get_or xs i 0)
unfolding among
among_some s [] h = let contrary : ◌≡◌ {A = ℕ} 0 1 = cc h in absurd (omega arith)
among_some s (x ∷ xs) h = go (among_some s xs) (eqb s x) refl h
  where
    go : (among s xs ≡ true → (i : ℕ) × (i < length xs) × (s ≡ get_or xs i 0)) → (b : Bool) → eqb s x ≡ b → b || among s xs ≡ true → (i : ℕ) × (i < suc (length xs)) × (s ≡ get_or (x ∷ xs) i 0)
    go rest true e t = (0, omega arith, eqb-true s x e)
    go rest false e t = let (i, l, same) = rest t in (suc i, omega arith, same)
