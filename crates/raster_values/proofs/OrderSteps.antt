-- The loops over marked pixels: where the values of a run lie among all, and their bytes.
use Rattle.std.proofs.Common.{ℕ, ◌≤◌, ◌≡◌, ◌*◌, Bool, List, length, ap, arith}
use Rattle.std.proofs.Math.Nat.{mul-le-mul, mul-le-mul_right}
use Rattle.raster_cells.specs.declared.kind.PixelType.{PixelType}
use Rattle.raster_cells.specs.PixelType.{bytes_of}
use Rattle.raster_cells.specs.MarkRuns.{AreRuns}
use Rattle.raster_cells.proofs.Spelled.{few_bytes}

pub record Cut (from end size bytes_from bytes_end bytes : ℕ) : Type 0 where
  pub order : from ≤ end
  pub within : end ≤ size
  pub bytes_order : bytes_from ≤ bytes_end
  pub bytes_within : bytes_end ≤ bytes
  pub few : bytes ≤ 67108864

pub run_cut : {marks : List Bool} {at start stop size s bytes : ℕ} (kind : PixelType) (depth : ℕ) → AreRuns marks at start stop → size ≡ length marks * depth → size ≤ 16777216 → s ≡ bytes_of kind → bytes ≡ size * bytes_of kind
    → Cut (start * depth) (stop * depth) size (start * depth * s) (stop * depth * s) bytes
run_cut {marks} {at} {start} {stop} {size} {s} {bytes} kind depth runs long few is whole =
    let low : start * depth ≤ stop * depth = mul-le-mul_right depth runs.second in
    let up : stop * depth ≤ length marks * depth = mul-le-mul_right depth runs.within in
    let within : stop * depth ≤ size = omega (arith, long, up) in
    let all : stop * depth * s ≤ size * s = mul-le-mul_right s within in
    let same : size * s ≡ size * bytes_of kind = ap (λ n. size * n) is in
    let most : size * bytes_of kind ≤ 16777216 * 4 = mul-le-mul few (few_bytes kind) in
    record { order = low; within = within; bytes_order = mul-le-mul_right s low; bytes_within = omega (arith, all, same, whole); few = omega (arith, whole, most) }
