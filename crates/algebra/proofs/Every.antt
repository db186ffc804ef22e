-- A rule of every entry of a list, by one test that the checker computes over the whole list.
use mathlib.Core.Bool.{Bool, true, false, ◌&&◌}
use mathlib.Core.List.{List, [], ◌∷◌}
use Prim.Native.Nat.{ℕ, zero, suc, ◌<◌}
use native.Mathlib.Omega.{arith}
use lib.Dec.{T}
use lib.ListN.{length, get_or}

pub both : (a b : Bool) → T (a && b) → T a × T b
both true b t = (tt, t)
both false b t = absurd t

-- each entry passes the test at its index
abbrev pub every : (ℕ → ℕ → Bool) → List ℕ → Bool
every test [] = true
every test (x ∷ xs) = test 0 x && every (λ i. test (suc i)) xs

pub at : (test : ℕ → ℕ → Bool) (xs : List ℕ) → T (every test xs) → (i : ℕ) → i < length xs → T (test i (get_or xs i 0))
at test [] t i h = absurd (omega arith)
at test (x ∷ xs) t zero h = (both (test 0 x) _ t).0
at test (x ∷ xs) t (suc i) h = at (λ i. test (suc i)) xs (both (test 0 x) _ t).1 i (omega arith)
