-- The laws of checks in a row: what is accepted passes every check, and a refusal is the first that fails.
-- RULES 6.
use mathlib.Core.Bool.{Bool, true, false, ◌&&◌}
use mathlib.Core.List.{List}
use mathlib.Core.Logic.{◌⊎◌, inl, inr, ⊎_elim}
use mathlib.Core.Path.{◌≡◌, refl, sym, ◌∙◌, ap}
use Prim.Native.Nat.{ℕ, zero, suc, ◌<◌, ◌≤◌}
use native.Mathlib.Nat.{eq-zero-or-pos, eq-or-lt_of_le}
use native.Mathlib.Omega.{arith}
use borrow.Author.Tests.{le-leb, leb-true}
use lib.Dec.{leb}
use Rattle.outcome.specs.declared.Outcome.{Outcome}
use Rattle.outcome.specs.Verdict.{fine, outcome, Accepted, Refused, require, Within, within, ◌and_then◌, first_fault, when_accepted}

pub accepted_or_refused : (o : Outcome) → Accepted o ⊎ Refused o
accepted_or_refused o =
    ⊎_elim (λ (h : o.number ≡ 0). inl (record { is_zero = h })) (λ (h : 0 < o.number). inr (record { is_positive = h }))
    (eq-zero-or-pos o.number)

pub not_both : {o : Outcome} → Accepted o → Refused o → ⊥
not_both a r = omega (arith, a.is_zero, r.is_positive)

-- what a returned number says of the verdict

pub is_accepted : {o v : Outcome} → o ≡ v → o.number ≡ 0 → Accepted v
is_accepted {o} e h = let a : Accepted o = record { is_zero = h } in rw e at a

choice : {A : Type 0} (n : ℕ) (x y : A) → n ≡ 0 → elim n as (λ n. A) [ zero ↦ x | suc k ↦ y ] ≡ x
choice zero x y h = refl
choice (suc n) x y h = absurd (omega arith)

other : {A : Type 0} (n : ℕ) (x y : A) → 0 < n → elim n as (λ n. A) [ zero ↦ x | suc k ↦ y ] ≡ y
other zero x y h = absurd (omega arith)
other (suc n) x y h = refl

-- one check after another

pub goes_on : {a : Outcome} (b : Outcome) → Accepted a → a and_then b ≡ b
unfolding ◌and_then◌
goes_on {a} b h = choice a.number b a h.is_zero

pub stops : {a : Outcome} (b : Outcome) → Refused a → a and_then b ≡ a
unfolding ◌and_then◌
stops {a} b h = other a.number b a h.is_positive

pub accepted-both : {a b : Outcome} → Accepted a → Accepted b → Accepted (a and_then b)
accepted-both {a} {b} ha hb = rw (goes_on b ha) hb

pub accepted-parts : {a b : Outcome} → Accepted (a and_then b) → Accepted a × Accepted b
accepted-parts {a} {b} h = ⊎_elim (λ (ha : Accepted a). (ha, rw (goes_on b ha) at h))
    (λ (r : Refused a). absurd (not_both (rw (stops b r) at h) r)) (accepted_or_refused a)

-- one check

pub passes : {t : Bool} (number place : ℕ) → t ≡ true → require t number place ≡ fine
unfolding require
passes number place h = rw h

pub fails : {t : Bool} (number place : ℕ) → t ≡ false → require t number place ≡ outcome number place
unfolding require
fails number place h = rw h

pub accepted-fine : Accepted fine
accepted-fine = record { is_zero = refl }

pub accepted-require : {t : Bool} (number place : ℕ) → t ≡ true → Accepted (require t number place)
accepted-require number place h = rw (passes number place h) accepted-fine

pub require-accepted : (t : Bool) (number place : ℕ) → 0 < number → Accepted (require t number place) → t ≡ true
unfolding require
require-accepted true number place l h = refl
require-accepted false number place l h = absurd (omega (arith, h.is_zero))

pub require-refused : (t : Bool) (number place : ℕ) → Refused (require t number place) → require t number place ≡ outcome number place
unfolding require
require-refused true number place r = absurd (not_both accepted-fine r)
require-refused false number place r = refl

-- one check taken off an accepted verdict: its test is true, and the rest is accepted
pub taken : (t : Bool) (number place : ℕ) {rest : Outcome} → 0 < number → Accepted (require t number place and_then rest) →
    (t ≡ true) × Accepted rest
taken t number place l h = let parts = accepted-parts h in (require-accepted t number place l parts.0, parts.1)

pub apart : true ≡ false → ⊥
apart h = omega (arith, ap {B = ℕ} (elim [ true ↦ 1 | false ↦ 0 ]) h)

pub both_true : (s : Bool) {t : Bool} → s && t ≡ true → (s ≡ true) × (t ≡ true)
both_true true h = (refl, h)
both_true false h = absurd (apart (sym h))

pub within_true : {low x high : ℕ} → Within low x high → within low x high ≡ true
within_true {low} {x} {high} h = rw (le-leb low x h.at_least, le-leb x high h.at_most)

pub true_within : (low x high : ℕ) → within low x high ≡ true → Within low x high
true_within low x high h =
    let parts = both_true (leb low x) h in
    record { at_least = leb-true low x parts.0; at_most = leb-true x high parts.1 }

-- the first fault of many

pub accepted-each : (f : ℕ → Outcome) (k : ℕ) → Accepted (first_fault f k) → (i : ℕ) → i < k → Accepted (f i)
unfolding first_fault
accepted-each f zero h i l = absurd (omega arith)
accepted-each f (suc k) h i l =
    let parts = accepted-parts h in
    ⊎_elim (λ (e : i ≡ k). rw e parts.1) (λ (below : i < k). accepted-each f k parts.0 i below)
    (eq-or-lt_of_le (omega arith))

pub accepted-first : (f : ℕ → Outcome) (k : ℕ) → ((i : ℕ) → i < k → Accepted (f i)) → Accepted (first_fault f k)
unfolding first_fault
accepted-first f zero h = record { is_zero = refl }
accepted-first f (suc k) h = accepted-both (accepted-first f k (λ i l. h i (omega arith))) (h k (omega arith))

pub first-same : (f g : ℕ → Outcome) (k : ℕ) → ((i : ℕ) → i < k → f i ≡ g i) → first_fault f k ≡ first_fault g k
unfolding first_fault
first-same f g zero h = refl
first-same f g (suc k) h = rw (first-same f g k (λ i l. h i (omega arith)), h k (omega arith))

-- what is found first decides
pub first-refused : (f : ℕ → Outcome) (i k : ℕ) → Accepted (first_fault f i) → Refused (f i) → i < k → first_fault f k ≡ f i
unfolding first_fault
first-refused f i zero h r l = absurd (omega arith)
first-refused f i (suc k) h r l = ⊎_elim
    (λ (e : i ≡ k). rw (← e, goes_on (f i) h))
    (λ (below : i < k). let found = first-refused f i k h r below in rw (found, stops (f k) r))
    (eq-or-lt_of_le (omega arith))

-- a refusal of many is that of one place, and every lower place passes
pub refused-first : (f : ℕ → Outcome) (k : ℕ) → Refused (first_fault f k) →
    (i : ℕ) × (i < k) × (first_fault f k ≡ f i) × Refused (f i) × ((j : ℕ) → j < i → Accepted (f j))
unfolding first_fault
refused-first f zero r = absurd (not_both accepted-fine r)
refused-first f (suc k) r = ⊎_elim
    (λ (h : Accepted (first_fault f k)). (k, omega arith, goes_on (f k) h, rw (goes_on (f k) h) at r, accepted-each f k h))
    (λ (q : Refused (first_fault f k)).
    let (i, l, e, ri, lower) = refused-first f k q in
    (i, omega arith, stops (f k) q ∙ e, ri, lower))
    (accepted_or_refused (first_fault f k))

-- where nothing fails the place is 0 too

pub record Proper (o : Outcome) : Type 0 where
  pub fine_if_accepted : Accepted o → o ≡ fine

pub proper-require : (t : Bool) (number place : ℕ) → 0 < number → Proper (require t number place)
proper-require t number place l =
    record { fine_if_accepted = λ h. passes number place (require-accepted t number place l h) }

pub proper-and_then : {a b : Outcome} → Proper a → Proper b → Proper (a and_then b)
proper-and_then {a} {b} ha hb =
    record { fine_if_accepted = λ h. let parts = accepted-parts h in goes_on b parts.0 ∙ hb.fine_if_accepted parts.1 }

pub then_fine : {a : Outcome} → Proper a → a and_then fine ≡ a
then_fine {a} proper = ⊎_elim
    (λ (h : Accepted a). goes_on fine h ∙ sym (proper.fine_if_accepted h))
    (λ (r : Refused a). stops fine r)
    (accepted_or_refused a)

pub proper-first : (f : ℕ → Outcome) (k : ℕ) → ((i : ℕ) → i < k → Proper (f i)) → Proper (first_fault f k)
unfolding first_fault
proper-first f zero h = record { fine_if_accepted = λ a. refl }
proper-first f (suc k) h = proper-and_then (proper-first f k (λ i l. h i (omega arith))) (h k (omega arith))

-- places that pass add nothing
pub first_longer : (f : ℕ → Outcome) (k n : ℕ) → k ≤ n → ((i : ℕ) → i < k → Proper (f i)) → ((i : ℕ) → k ≤ i → i < n → f i ≡ fine) →
    first_fault f n ≡ first_fault f k
unfolding first_fault
first_longer f k zero l proper h = let none : 0 ≡ k = omega arith in ap (first_fault f) none
first_longer f k (suc n) l proper h = ⊎_elim
    (λ (e : k ≡ suc n). ap (first_fault f) (sym e))
    (λ (below : k < suc n).
    let rest = first_longer f k n (omega arith) proper (λ i from to. h i from (omega arith)) in
    rw (rest, h n (omega arith) (omega arith)) (then_fine (proper-first f k proper)))
    (eq-or-lt_of_le l)

-- a lent list

pub accepted_new : {o : Outcome} (new old : List ℕ) → Accepted o → when_accepted o new old ≡ new
unfolding when_accepted
accepted_new {o} new old h = choice o.number new old h.is_zero

pub refused_old : {o : Outcome} (new old : List ℕ) → Refused o → when_accepted o new old ≡ old
unfolding when_accepted
refused_old {o} new old h = other o.number new old h.is_positive

-- checks in a row may be grouped in any way
pub and_then_assoc : (a b c : Outcome) → (a and_then b) and_then c ≡ a and_then (b and_then c)
and_then_assoc a b c = ⊎_elim
    (λ (h : Accepted a). rw (goes_on b h, goes_on (b and_then c) h))
    (λ (r : Refused a). rw (stops b r, stops (b and_then c) r, stops c r))
    (accepted_or_refused a)
