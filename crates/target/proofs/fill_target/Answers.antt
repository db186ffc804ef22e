-- An accepted length is m + 1.
use mathlib.Core.Path.{◌≡◌, ◌∙◌}
use Prim.Native.Nat.{◌-◌}
use native.Mathlib.Omega.{arith}
use lib.ListN.{length}
use Rattle.field.specs.Field.{p}
use Rattle.qap.proofs.Standard.{target-words}
use Rattle.qap.proofs.Settings.{target_range}
use Rattle.qap.specs.Setting.{standard}
use Rattle.target.proofs.fill_target.Goals as goal

pub target-requires : goal.target-requires
target-requires c =
    let size = target-words p _ _ c.requires in
    let range = target_range standard _ _ c.requires in
    (omega arith, omega arith)

pub returns : goal.returns
returns c =
    let m : length c.args.out.now - 1 ≡ c.args.m = omega (arith, target-words p _ _ c.requires) in
    c.target.ensures ∙ rw m
