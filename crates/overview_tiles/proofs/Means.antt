-- The worked means: of 7 and 8, of -3 and -2, of -3 alone, and of -2 and -2.
use Rattle.std.proofs.Common.{◌≡◌, refl}
use Rattle.std.specs.Prelude.{pos, negsuc}
use Rattle.overview_tiles.specs.Half.{mean_of}

example_1 : mean_of (pos 15) (pos 2) ≡ pos 8
example_1 = refl

example_2 : mean_of (negsuc 4) (pos 2) ≡ negsuc 1
example_2 = refl

example_3 : mean_of (negsuc 2) (pos 1) ≡ negsuc 2
example_3 = refl

example_4 : mean_of (negsuc 3) (pos 2) ≡ negsuc 1
example_4 = refl
