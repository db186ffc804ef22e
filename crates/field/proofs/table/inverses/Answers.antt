-- The rule of the table, an entry times its number leaves 1, is tested once over all 256 entries and carried to each.
use mathlib.Core.Path.{◌≡◌, refl}
use mathlib.Core.Bool.{Bool, ◌&&◌}
use mathlib.Core.List.{List}
use Prim.Native.Nat.{ℕ, suc, ◌*◌, ◌%◌}
use native.Mathlib.Omega.{arith}
use lib.Dec.{T, ltb, eqb, ltb→lt, eqb→eq}
use lib.ListN.{length, get_or}
use Rattle.algebra.specs.Congruence.{Inverse}
use Rattle.field.specs.Field.{p, InverseTable}
use Rattle.algebra.proofs.Every.{both, every, at}
use Rattle.field.proofs.table.inverses.Goals as goal

abbrev inverts : ℕ → ℕ → Bool
inverts i x = ltb x p && eqb (suc i * x % p) 1

inverse : (i x : ℕ) → T (inverts i x) → Inverse p (suc i) x
inverse i x t =
    let parts = both (ltb x p) _ t in
    record { word = ltb→lt x p parts.0; leaves_one = record { same = eqb→eq _ 1 parts.1 } }

tested : (t : List ℕ) → length t ≡ 256 → T (every inverts t) → InverseTable p t
tested t e passes =
    record { entries = e; inverse = λ i below. inverse i (get_or t i 0) (at inverts t passes i (omega arith)) }

pub returns : goal.returns
returns c = tested _ refl tt
