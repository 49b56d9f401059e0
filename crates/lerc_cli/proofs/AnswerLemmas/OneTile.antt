-- One answer holds of a bundle that files recover to, and of the blobs that a tile of it is.
use Rattle.std.proofs.Common.{◌≡◌, ℕ, List, Some, sym, ◌∙◌, subst}
use Rattle.raster_values.specs.Raster.{Pixels}
use Rattle.lerc_grammar.specs.declared.bands.BandReason.{BandReason}
use Rattle.lerc_grammar.specs.Bands.{BandsBlob, BandsFaultAt}
use Rattle.bundle_lines.specs.Lines.{listing}
use Rattle.bundle_store.specs.Session.{GetGives}
use Rattle.opened_bundle.specs.declared.refusal.StoreRefusal.{StoreRefusal}
use Rattle.opened_bundle.specs.Files.{Files, OfBundle}
use Rattle.lerc_cli.specs.answers.Table.{HoldsBands}
use Rattle.opened_bundle.specs.Refusals.{IsMissing}
use Rattle.opened_bundle.proofs.OneBundle.{both, same_tile, tile_or_missing}
use Rattle.lerc_grammar.proofs.WholeBands.{bands_or_fault, one_list, one_whole_fault}

-- ---- one listing

pub same_listing : (f : Files) (one two : List ℕ) → OfBundle (Some f) (λ b. one ≡ listing b 16384) → OfBundle (Some f) (λ b. two ≡ listing b 16384) → one ≡ two
same_listing f one two is so =
    let same = both f (λ b. one ≡ listing b 16384) (λ b. two ≡ listing b 16384) is so in same.1.0 ∙ sym same.1.1

-- ---- its blobs

-- the tile has this first fault
abbrev HasFault : List ℕ → ℕ → ℕ → BandReason → Type 0
HasFault b slot place reason = (t : List ℕ) × (GetGives b slot t × BandsFaultAt t place reason)

pub one_held : (f : Files) (slot : ℕ) (bands others : List Pixels) → OfBundle (Some f) (λ b. HoldsBands b slot bands) → OfBundle (Some f) (λ b. HoldsBands b slot others) → bands ≡ others
one_held f slot bands others one other =
    let same = both f (λ b. HoldsBands b slot bands) (λ b. HoldsBands b slot others) one other in
    let t = same.1.0 in
    let u = same.1.1 in
    one_list u.0 bands others (subst (λ (x : List ℕ). BandsBlob x bands) (same_tile same.0 slot t.0 u.0 t.1.0 u.1.0) t.1.1) u.1.1

pub held_or_fault : (f : Files) (slot : ℕ) (bands : List Pixels) (place : ℕ) (reason : BandReason) → OfBundle (Some f) (λ b. HoldsBands b slot bands) → OfBundle (Some f) (λ b. HasFault b slot place reason) → ⊥
held_or_fault f slot bands place reason one other =
    let same = both f (λ b. HoldsBands b slot bands) (λ b. HasFault b slot place reason) one other in
    let t = same.1.0 in
    let u = same.1.1 in
    bands_or_fault u.0 bands place reason (subst (λ (x : List ℕ). BandsBlob x bands) (same_tile same.0 slot t.0 u.0 t.1.0 u.1.0) t.1.1) u.1.1

held_tile : (f : Files) (slot : ℕ) (bands : List Pixels) → OfBundle (Some f) (λ b. HoldsBands b slot bands) → (t : List ℕ) × OfBundle (Some f) (λ b. GetGives b slot t)
held_tile f slot bands (done, (bundle, (leaves, (opens, (t, (gives, blob)))))) = (t, (done, (bundle, (leaves, (opens, gives)))))

pub held_or_missing : (f : Files) (slot : ℕ) (bands : List Pixels) (s : StoreRefusal) → OfBundle (Some f) (λ b. HoldsBands b slot bands) → IsMissing (Some f) slot s → ⊥
held_or_missing f slot bands s held is = let t = held_tile f slot bands held in tile_or_missing f slot t.0 s t.1 is

fault_tile : (f : Files) (slot place : ℕ) (reason : BandReason) → OfBundle (Some f) (λ b. HasFault b slot place reason) → (t : List ℕ) × OfBundle (Some f) (λ b. GetGives b slot t)
fault_tile f slot place reason (done, (bundle, (leaves, (opens, (t, (gives, fault)))))) = (t, (done, (bundle, (leaves, (opens, gives)))))

pub fault_or_missing : (f : Files) (slot place : ℕ) (reason : BandReason) (s : StoreRefusal) → OfBundle (Some f) (λ b. HasFault b slot place reason) → IsMissing (Some f) slot s → ⊥
fault_or_missing f slot place reason s fault is = let t = fault_tile f slot place reason fault in tile_or_missing f slot t.0 s t.1 is

pub one_tile_fault : (f : Files) (slot p q : ℕ) (a b : BandReason) → OfBundle (Some f) (λ x. HasFault x slot p a) → OfBundle (Some f) (λ x. HasFault x slot q b) → (p ≡ q) × (a ≡ b)
one_tile_fault f slot p q a b one other =
    let same = both f (λ x. HasFault x slot p a) (λ x. HasFault x slot q b) one other in
    let t = same.1.0 in
    let u = same.1.1 in
    one_whole_fault u.0 p q a b (subst (λ (x : List ℕ). BandsFaultAt x p a) (same_tile same.0 slot t.0 u.0 t.1.0 u.1.0) t.1.1) u.1.1
