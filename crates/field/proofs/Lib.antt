pub mod PrimeField
