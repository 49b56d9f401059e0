-- Bands that arrays hold, as their values and as their masks; and what is told of a tile that is none.
use Rattle.std.proofs.Common.{◌≡◌, ℕ, List, [], ◌∷◌, ◌++◌, refl, sym, ap, ◌∙◌, subst}
use Rattle.std.specs.List.{flat_map}
use Rattle.std.proofs.lemmas.List.Concat.{flat_map-cons}
use Rattle.raster_values.specs.Raster.{Pixels}
use Rattle.lerc_grammar.specs.declared.bands.BandReason.{BandReason}
use Rattle.lerc_grammar.specs.declared.bands.BandReason.TheVariants.{Blob as OfBlob, BadBand}
use Rattle.lerc_grammar.specs.Bands.{BandsFaultAt}
use Rattle.lerc_c.specs.declared.told.Fault.{Fault}
use Rattle.lerc_c.specs.Told.{TellsBandsFault, TellsBandsRefusal}
use Rattle.lerc_decode.specs.OverBands.{AreDecodedOver, HoldBands}
use Rattle.lerc_c.specs.BandArrays.{AreBandsDecoded, AreMasks, cells_of}

held_values : (bands : List Pixels) (values masks : List ℕ) → HoldBands bands values masks → values ≡ flat_map cells_of bands
held_values [] values masks (v, m) = v
held_values (r ∷ more) values masks (own, (others, (mask, (later, (is, (are, (hold, held))))))) =
    is ∙ (λ i. hold.values_are i ++ held_values more others later held i) ∙ sym (flat_map-cons cells_of r more)

held_masks : (bands : List Pixels) (values masks : List ℕ) → HoldBands bands values masks → AreMasks masks bands
held_masks [] values masks (v, m) = m
held_masks (r ∷ more) values masks (own, (others, (mask, (later, (is, (are, (hold, held))))))) = (mask, (later, (are, (hold.mask_is, held_masks more others later held))))

pub decoded_over : (bytes : List ℕ) (n : ℕ) (values masks : List ℕ) → AreDecodedOver bytes n values masks → AreBandsDecoded bytes n values masks
decoded_over bytes n values masks d = record {
  bands = d.bands;
  blobs = d.blobs;
  count = d.count;
  values_are = held_values d.bands values masks d.held;
  masks_are = held_masks d.bands values masks d.held;
}

-- a fault of a tile is told
pub tells_tile : (bytes : List ℕ) (place : ℕ) (reason : BandReason) (f : Fault) → BandsFaultAt bytes place reason → TellsBandsFault f place reason → TellsBandsRefusal bytes f
tells_tile bytes place (OfBlob why) f w t = record {
  reason = OfBlob why;
  refused = subst (λ (p : ℕ). BandsFaultAt bytes p (OfBlob why)) (sym t.place_is) w;
  numbers = record { place_is = refl; reason_is = t.reason_is; stated = t.stated; found = t.found };
}
tells_tile bytes place BadBand f w (is, numbers) = record { reason = BadBand; refused = subst (λ (p : ℕ). BandsFaultAt bytes p BadBand) (sym is) w; numbers = (refl, numbers) }
