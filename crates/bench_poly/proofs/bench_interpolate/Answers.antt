-- What `interpolate` leaves is the list through the values.
use Rattle.field.proofs.PrimeField.{field_prime}
use Rattle.poly.proofs.KernelLaws.{interpolate-through}
use Rattle.bench_poly.proofs.bench_interpolate.Goals as goal

pub returns : goal.returns
returns c =
    let table = c.inverses-inverses.ensures in
    rw c.interpolate.ensures (interpolate-through field_prime table c.requires.0 c.requires.1)
