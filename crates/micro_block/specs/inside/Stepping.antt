-- Distances from the least value of a type, and how many steps lie between them.
use Rattle.std.specs.Prelude.{◌≡◌, ℕ, ℤ, ◌+◌, ◌-◌, ◌*◌, ◌/◌, ◌^◌, ◌<◌, ◌≤◌, List, All, Contains}
use Rattle.std.specs.Prelude.{length, map}
use Rattle.raster_cells.specs.declared.kind.PixelType.{PixelType}
use Rattle.raster_cells.specs.Distance.{IsDistance, value_above}
use Rattle.bit_stuff.specs.Simple.{greatest_number}
use Rattle.micro_block.specs.declared.stepping.Rule.{Rule}
use Rattle.micro_block.specs.declared.stepping.Rule.TheVariants.{Subtract, Shift, Multiply, Divide}
use Rattle.micro_block.specs.declared.spreading.Spread.{Spread}
use Rattle.micro_block.specs.ChosenBlock.{least_value, quantised_values}
use Rattle.micro_block.specs.inside.Products.{IsProduct}

-- the values that are so far above the least of the type
abbrev pub values_above : PixelType → List ℕ → List ℤ
values_above kind distances = map (value_above kind) distances

-- how many steps a distance is from the least one, rounded to the nearest, halves upwards
abbrev pub steps_above : ℕ → ℕ → ℕ → ℕ
steps_above step least d = (2 * (d - least) + step) / (2 * step)

-- no distance is below the first number or above the second, and both are among them; of none they
-- are the greatest number and 0
pub record AreEndsOf (distances : List ℕ) (least greatest : ℕ) : Type 0 where
  pub from : All (λ d. least ≤ d) distances
  pub upto : All (λ d. d ≤ greatest) distances
  pub least_in : 0 < length distances → Contains distances least
  pub greatest_in : 0 < length distances → Contains distances greatest
  pub least_of_none : length distances ≡ 0 → least ≡ 4294967295
  pub greatest_of_none : length distances ≡ 0 → greatest ≡ 0

-- by the rule one finds the number of steps of distances that are at most so far above the least
abbrev pub IsRule : ℕ → ℕ → Rule → Type 0
IsRule step reach Subtract = step ≡ 1
IsRule step reach (Shift half shift) =
    (step ≡ 2 * half) × ((2 ^ shift ≡ 2 * half) × ((shift < 32) × (reach + half < 2 ^ 32)))
IsRule step reach (Multiply half product) =
    (step ≡ 2 * half) × ((reach + half < product.limit) × IsProduct (2 * half) product)
IsRule step reach Divide = Unit {0}

-- what is asked of distances whose numbers of steps are found by a rule
pub record AreStepped (step least : ℕ) (rule : Rule) (distances : List ℕ) : Type 0 where
  pub reach : ℕ
  pub is_rule : IsRule step reach rule
  pub from : All (λ d. least ≤ d) distances
  pub near : All (λ d. d - least ≤ reach) distances
  pub some : 0 < step
  pub step_fits : step ≤ 8589934592

-- what is known of a block from the least and the greatest of its distances
pub record IsSpread (kind : PixelType) (step : ℕ) (distances : List ℕ) (s : Spread)
    : Type 0 where
  pub least_is : value_above kind s.least ≡ least_value (values_above kind distances)
  pub least_fits : IsDistance kind s.least
  pub stepped : AreStepped step s.least s.rule distances
  pub same : map (steps_above step s.least) distances
      ≡ quantised_values step (values_above kind distances)
  pub most : s.most ≡ greatest_number (map (steps_above step s.least) distances)

-- what is asked of distances whose numbers of steps go into a list
pub record AreListable (step least : ℕ) (rule : Rule) (distances : List ℕ) : Type 0 where
  pub count : length distances ≤ 256
  pub stepped : AreStepped step least rule distances
  pub few : All (λ d. steps_above step least d < 2 ^ 30) distances
