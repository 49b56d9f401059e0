-- That a header cuts a raster into blocks holds in one way at most: for types that keep that it
-- does.
use Rattle.std.specs.Prelude.{◌≡◌, ℕ, zero, suc}
use Rattle.std.specs.Coded.{Coded, Coded-set, code_by, coded_ℕ}
use Rattle.std.proofs.Common.{refl}
use Rattle.std.proofs.Props.{props}
use Rattle.raster_cells.specs.declared.kind.PixelType.{PixelType}
use Rattle.raster_cells.specs.declared.kind.PixelType.TheVariants.{I8, U8, I16, U16, I32, U32}
use Rattle.raster_cells.specs.PixelType.{code_of}
use Rattle.raster_values.specs.Raster.{Pixels}
use Rattle.lerc_header.specs.declared.header.Header.{Header}
use Rattle.lerc_encode.specs.inside.Blocked.{IsBlocked}

-- a type by its number
abbrev kind_of : ℕ → PixelType
kind_of zero = I8
kind_of (suc zero) = U8
kind_of (suc (suc zero)) = I16
kind_of (suc (suc (suc zero))) = U16
kind_of (suc (suc (suc (suc zero)))) = I32
kind_of (suc (suc (suc (suc (suc n))))) = U32

kind_back : (k : PixelType) → kind_of (code_of k) ≡ k
kind_back I8 = refl
kind_back U8 = refl
kind_back I16 = refl
kind_back U16 = refl
kind_back I32 = refl
kind_back U32 = refl

coded_kind : Coded PixelType
coded_kind = code_by ℕ coded_ℕ code_of kind_of kind_back

kinds-prop : (a b : PixelType) → IsProp (a ≡ b)
kinds-prop a b = Coded-set coded_kind a b

pub IsBlocked-prop : (h : Header) (r : Pixels) → IsProp (IsBlocked h r)
IsBlocked-prop h r = hlevel (props, kinds-prop)
