-- Some of the values as one number.
use Rattle.std.specs.Prelude.{ℕ, ◌≡◌, ◌+◌, ◌*◌, ◌^◌, ◌<◌, List, take}
use Rattle.bit_stuff.specs.Stuffed.{number_of_values}

-- the number of the k values from i on, which stands above that of the values before them
pub record IsGroup (width : ℕ) (values : List ℕ) (i k number : ℕ) : Type 0 where
  pub fits : number < 2 ^ (width * k)
  pub joined : number_of_values width (take (i + k) values)
      ≡ number_of_values width (take i values) + 2 ^ (width * i) * number
