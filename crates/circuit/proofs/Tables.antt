-- Lists by their entries: two are equal where their entries are, one entry can be set, and one of all 0 is cleared words.
use mathlib.Core.Bool.{Bool, true, false}
use mathlib.Core.List.{List, ◌∷◌}
use mathlib.Core.Path.{◌≡◌, refl, sym, ◌∙◌, ap}
use Prim.Native.Nat.{ℕ, zero, suc, ◌<◌}
use borrow.Author.Tests.{eqb-true, eqb-false}
use lib.Dec.{eqb}
use lib.ListN.{get_or, set, replicate, length-set}
use lib.Seq.{ext_get_or, get_or-set_same, get_or-set_other}
use Rattle.circuit.specs.Totals.{table}
use Rattle.circuit.proofs.Totals.{length-table, table_at}

pub table_same : (f g : ℕ → ℕ) (m : ℕ) → ((i : ℕ) → i < m → f i ≡ g i) → table f m ≡ table g m
table_same f g m h = ext_get_or 0 (table f m) (table g m) (length-table f m ∙ sym (length-table g m))
    (λ i l. let below : i < m = rw (length-table f m) at l in table_at f m i below ∙ h i below ∙ sym (table_at g m i below))

pub set-table : (f g : ℕ → ℕ) (m r x : ℕ) → r < m → g r ≡ x → ((i : ℕ) → i < m → (i ≡ r → ⊥) → g i ≡ f i) → set (table f m) r x ≡ table g m
set-table f g m r x l here others = ext_get_or 0 (set (table f m) r x) (table g m)
    (length-set (table f m) r x ∙ length-table f m ∙ sym (length-table g m))
    (λ i h. let below : i < m = rw (length-set (table f m) r x, length-table f m) at h in at i below (eqb i r) refl)
  where
    at : (i : ℕ) → i < m → (b : Bool) → eqb i r ≡ b → get_or (set (table f m) r x) i 0 ≡ get_or (table g m) i 0
    at i below true e =
        rw (eqb-true i r e) (get_or-set_same (table f m) r x 0 (rw (length-table f m) l) ∙ sym here ∙ sym (table_at g m r l))
    at i below false e =
        get_or-set_other (table f m) r i x 0 (eqb-false i r e) ∙ table_at f m i below
        ∙ sym (others i below (eqb-false i r e)) ∙ sym (table_at g m i below)

pub table-zero : (m : ℕ) → replicate m 0 ≡ table (λ i. 0) m
unfolding table
table-zero zero = refl
table-zero (suc m) = ap (λ (l : List ℕ). 0 ∷ l) (table-zero m)
