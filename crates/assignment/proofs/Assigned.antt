-- Where values stand: public ones at their column's number, private ones one further, all inside the assignment;
-- and what is handed out of an accepted assignment is an accepted public section with the same public values.
-- RULES 3.
use mathlib.Core.Bool.{Bool, true, false}
use mathlib.Core.List.{List}
use mathlib.Core.Logic.{◌⊎◌, inl, inr, ⊎_elim}
use mathlib.Core.Path.{◌≡◌, refl, ◌∙◌}
use Prim.Native.Nat.{ℕ, ◌+◌, ◌≤◌, ◌<◌}
use native.Mathlib.Omega.{arith}
use borrow.Author.Tests.{le-leb, lt-leb, leb-true, leb-false}
use lib.Dec.{leb}
use lib.ListN.{length, take}
use lib.Seq.{length-take-le, get_or-take}
use Rattle.algebra.specs.Prime.{FieldPrime}
use Rattle.outcome.specs.Verdict.{Accepted}
use Rattle.outcome.proofs.Verdict.{accepted_new}
use Rattle.circuit.specs.Circuit.{word, publics, columns}
use Rattle.circuit.specs.WellFormed.{Formed}
use Rattle.assignment.specs.Assignment.{assigned_at, assigned, circuit_then_assignment, public_verdict, public_section}
use Rattle.assignment.specs.WellFormed.{AssignmentFormed, PublicFormed}
use Rattle.assignment.proofs.Accepted.{both-formed, public-accepted}

pub public_at : (c : List ℕ) (j : ℕ) → j ≤ publics c → assigned_at c j ≡ j
unfolding assigned_at
public_at c j h = rw (assigned_at, le-leb j (publics c) h)

pub private_at : (c : List ℕ) (j : ℕ) → publics c < j → assigned_at c j ≡ j + 1
unfolding assigned_at
private_at c j h = rw (assigned_at, lt-leb j (publics c) h)

public_or_private : (c : List ℕ) (j : ℕ) → (j ≤ publics c) ⊎ (publics c < j)
public_or_private c j = go (leb j (publics c)) refl
  where
    go : (b : Bool) → leb j (publics c) ≡ b → (j ≤ publics c) ⊎ (publics c < j)
    go true e = inl (leb-true j (publics c) e)
    go false e = inr (leb-false j (publics c) e)

-- a later column stands later
pub assigned_order : (c : List ℕ) (i j : ℕ) → i ≤ j → assigned_at c i ≤ assigned_at c j
assigned_order c i j h = ⊎_elim
    (λ (low : j ≤ publics c). rw (public_at c i (omega arith), public_at c j low) h)
    (λ (high : publics c < j). ⊎_elim
    (λ (low : i ≤ publics c). rw (public_at c i low, private_at c j high) (omega arith))
    (λ (above : publics c < i). rw (private_at c i above, private_at c j high) (omega arith))
    (public_or_private c i))
    (public_or_private c j)

module _ {p : ℕ} {c a : List ℕ} (formed : AssignmentFormed p c a) where
  pub assigned-inside : (j : ℕ) → j ≤ columns c → assigned_at c j < length a
  assigned-inside j h = ⊎_elim
      (λ (low : j ≤ publics c). rw (public_at c j low) (omega arith))
      (λ (high : publics c < j). rw (private_at c j high) (omega arith))
      (public_or_private c j)

-- the public part of an assignment is a public section with the same values
module _ {p : ℕ} {c a : List ℕ} (circuit : Formed p c) (formed : AssignmentFormed p c a) where
  private_less : publics c + 1 ≤ length a
  private_less = omega arith

  public-word : (i : ℕ) → i ≤ publics c → word (take (publics c + 1) a) i ≡ word a i
  public-word i l = get_or-take (publics c + 1) a i 0 (omega arith)

  public-size : length (take (publics c + 1) a) ≡ publics c + 1
  public-size = length-take-le (publics c + 1) a private_less

  pub public_part : PublicFormed p c (take (publics c + 1) a)
  public_part = record {
    size = public-size;
    public_count = public-word 0 (omega arith) ∙ formed.public_count;
    values = record {
      one = public-word 1 (omega arith) ∙ formed.values.one;
      words = record {
        below = λ i l. rw (public-word i (omega (arith, public-size))) (formed.values.words.below i (omega (arith, public-size)));
      };
    };
  }

  pub public-assigned : (j : ℕ) → j ≤ publics c → assigned c (take (publics c + 1) a) j ≡ assigned c a j
  public-assigned j l = rw (public_at c j l) (public-word j l)

-- what is handed out is what the check of a public section takes
pub section-accepted : {p : ℕ} (field : FieldPrime p) (c a : List ℕ) → Accepted (circuit_then_assignment p c a) → Accepted (public_verdict p c (public_section p c a))
unfolding public_section
section-accepted field c a h =
    let (circuit, formed) = both-formed field c a h in
    rw (accepted_new (take (publics c + 1) a) _ h) (public-accepted field (public_part circuit.formed formed))
