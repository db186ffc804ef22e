-- Where sections stand: each begins where the one before it ends, and all end within the words. RULES 2.
use mathlib.Core.List.{List}
use mathlib.Core.Logic.{⊎_elim}
use mathlib.Core.Path.{◌≡◌, refl}
use Prim.Native.Nat.{ℕ, zero, suc, ◌+◌, ◌≤◌, ◌<◌}
use native.Mathlib.Nat.{eq-or-lt_of_le}
use native.Mathlib.Numerals.{add-one}
use native.Mathlib.Omega.{arith}
use lib.ListN.{length}
use Rattle.circuit.specs.Circuit.{section, section_end, ending}
use Rattle.circuit.specs.WellFormed.{Formed}

pub section-next : (c : List ℕ) (k : ℕ) → section c (k + 1) ≡ section_end c (section c k)
unfolding section
section-next c k = rw (add-one k)

pub first-section : (c : List ℕ) → section c 0 ≡ 3
unfolding section
first-section c = refl

-- a section ends at or before where any later one begins
pub ends_before : (c : List ℕ) (k j : ℕ) → k < j → section_end c (section c k) ≤ section c j
unfolding section
ends_before c k zero h = absurd (omega arith)
ends_before c k (suc j) h = ⊎_elim
    (λ (same : k ≡ j). rw same (omega arith))
    (λ (less : k < j). omega (arith, ends_before c k j less))
    (eq-or-lt_of_le (omega arith))

pub begins-after : (c : List ℕ) (k : ℕ) → 3 ≤ section c k
unfolding section
begins-after c zero = omega arith
begins-after c (suc k) = omega (arith, begins-after c k)

pub ends-within : {p : ℕ} {c : List ℕ} → Formed p c → ending c ≤ length c
unfolding section
ends-within formed = (formed.matrices 2 (omega arith)).room
