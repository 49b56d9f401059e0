-- What a get answers by the read of its tile.
use Rattle.std.proofs.Common.{◌≡◌, ℕ, ◌<◌, ◌↔◌, Bool, true, false, List, length, Result, sym, ◌∙◌, arith}
use Rattle.std.specs.Prelude.{IfErr, IfOk, Some, IsErrOf}
use Rattle.std.proofs.lemmas.Result.{IfErr-at_err, IfErr-weaker, IfOk-weaker}
use Rattle.bundle_store.specs.declared.fault.StoreFault.{StoreFault}
use Rattle.bundle_store.specs.declared.fault.StoreFault.TheVariants.{Device, BadBundle, BadJournal, NoTile, Beyond, TileTooLarge, EmptyTile, Full, NotEmpty, OutOfMemory, Stopped}
use Rattle.bundle_store.specs.Session.{GetFails, GetGives}
use Rattle.bundle_store.specs.Tiles.{tiles}
use Rattle.bundle_store.specs.inside.Reading.{ReadFails}
use Rattle.bundle_store.proofs.Region.{gives_tile}

read_fails : (f : StoreFault) → ReadFails f → GetFails f
read_fails Device fails = tt
read_fails (BadBundle place found) fails = absurd fails
read_fails (BadJournal place found) fails = absurd fails
read_fails NoTile fails = absurd fails
read_fails (Beyond entry got) fails = fails
read_fails (TileTooLarge at len) fails = absurd fails
read_fails (EmptyTile at) fails = absurd fails
read_fails (Full len) fails = absurd fails
read_fails (NotEmpty len) fails = absurd fails
read_fails OutOfMemory fails = tt
read_fails Stopped fails = absurd fails

module _ {X : Type 0} (r : Result X StoreFault) (fails : IfErr r ReadFails) where
  pub get_fails : IfErr r GetFails
  get_fails = IfErr-weaker r ReadFails GetFails read_fails fails

  -- a read answers neither that there is no tile nor that the session is stopped
  pub some_tile : IsErrOf r NoTile → ⊥
  some_tile is = IfErr-at_err ReadFails is fails

  pub runs : (stopped : Bool) → stopped ≡ false → IsErrOf r Stopped ↔ (stopped ≡ true)
  runs stopped is = (λ err. absurd (IfErr-at_err ReadFails err fails), λ no. absurd (let e : false ≡ true = sym is ∙ no in cc))

-- the tile that was read is the slot's, and has its size
pub reads_tile : (b : List ℕ) (slot : ℕ) (r : Result (List ℕ) StoreFault) → slot < 16384
    → IfOk r (λ tile. GetGives b slot tile) → IfOk r (λ tile. tiles b slot ≡ Some tile)
reads_tile b slot r lt gives = IfOk-weaker r (λ tile. GetGives b slot tile) (λ tile. tiles b slot ≡ Some tile) (λ tile is. gives_tile b slot tile lt is) gives

pub reads_some : (size : ℕ) (r : Result (List ℕ) StoreFault) → 0 < size → size < 16777216
    → IfOk r (λ tile. length tile ≡ size)
    → IfOk r (λ tile. (0 < length tile) × (length tile < 16777216))
reads_some size r some small is = IfOk-weaker r (λ tile. length tile ≡ size) (λ tile. (0 < length tile) × (length tile < 16777216)) (λ tile long. (omega (arith, long, some), omega (arith, long, small))) is
