use native.Mathlib.Omega.{arith}
use borrow.Author.Rules.{rules}
use Rattle.assignment.proofs.Accepted.{both-formed, public_formed}
use Rattle.assignment.proofs.Assigned.{section-accepted}
use Rattle.rows.proofs.Parts.{span-public, span_private}
use Rattle.field.proofs.PrimeField.{field_prime}
use Rattle.examples.proofs.row_sums.parts.Goals as goal

pub publics_of-q-requires : goal.publics_of-q-requires
publics_of-q-requires c = (both-formed field_prime _ _ c.requires.0).0.formed.counts

pub columns_of-n-requires : goal.columns_of-n-requires
columns_of-n-requires c = (both-formed field_prime _ _ c.requires.0).0.formed.counts

pub row_sums-requires : goal.row_sums-requires
row_sums-requires c =
    let formed = (both-formed field_prime _ _ c.requires.0).0.formed in
    let public = public_formed field_prime _ _ (section-accepted field_prime _ _ c.requires.0) in (
      record { circuit = formed; of_three = omega arith; size = search rules },
      rw (c.publics_of-q.ensures, c.public_section-public.ensures) (span-public formed public),
    )

pub row_sums-requires-in-loop-matrix : goal.row_sums-requires-in-loop-matrix
row_sums-requires-in-loop-matrix c =
    let both = both-formed field_prime _ _ c.requires.0 in (
      record { circuit = both.0.formed; of_three = omega arith; size = search rules },
      rw (c.publics_of-q.ensures, c.columns_of-n.ensures) (span_private both.0.formed both.1),
    )
