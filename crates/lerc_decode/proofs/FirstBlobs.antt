-- The blob that comes first of a tile's bytes.
use Rattle.std.proofs.Common.{ℕ, ◌≤◌, List, [], ◌++◌, length, take, Option, None, Some, zero-add, refl, subst, arith, inl}
use Rattle.outside_io.specs.streams.Source.{TakesUpTo}
use Rattle.raster_values.specs.Raster.{Pixels}
use Rattle.lerc_header.specs.declared.fault.BlobReason.{BlobReason}
use Rattle.lerc_header.specs.declared.fault.BlobReason.TheVariants.{Truncated}
use Rattle.lerc_header.proofs.Prefixes.{head_more, head_of_take}
use Rattle.lerc_grammar.specs.declared.bands.BandReason.TheVariants.{Blob as OfBlob}
use Rattle.lerc_grammar.specs.Mask.{Previous}
use Rattle.lerc_grammar.specs.Blob.{BlobAfter}
use Rattle.lerc_grammar.specs.Verdict.{FirstFaultAfter, IsDoneAfter, IsMoreAfter}
use Rattle.lerc_grammar.specs.Bands.{BandsFaultAt, FirstBandsFault, HasLikeHead, IsLeastFault}
use Rattle.lerc_grammar.specs.BandsReading.{IsBehind, IsInside}
use Rattle.lerc_grammar.proofs.BandsReader.{begin}
use Rattle.lerc_grammar.proofs.BandsSteps.{cut_there, fault_there, inside_undecided, bands_faults_stay}
use Rattle.lerc_decode.specs.Decoding.{HasHeader, IsLeastTaken}

-- ---- a whole header

pub header_more : (bytes more : List ℕ) → HasHeader bytes → HasHeader (bytes ++ more)
header_more bytes more h = record { header = h.header; stands = head_more bytes more h.header h.stands }

pub header_of_blob : (before : Option Previous) (bytes : List ℕ) (r : Pixels) → BlobAfter before bytes r → HasHeader bytes
header_of_blob before bytes r (sound, (h, (p, j))) = record { header = h; stands = j.head_stands }

pub header_of_done : (before : Option Previous) (bytes : List ℕ) (r : Pixels) (size : ℕ) → IsDoneAfter before bytes r size → HasHeader bytes
header_of_done before bytes r size (long, (sound, (h, (p, j)))) = record { header = h; stands = head_of_take size bytes h j.head_stands }

-- ---- behind no blob

no_blob : (bytes : List ℕ) → IsBehind bytes [] [] bytes
no_blob bytes = record { joined = refl; may_be = begin.behind.may_be; stand = refl }

like_none : (bytes : List ℕ) → HasLikeHead [] bytes
like_none bytes = λ h head p a w. w

pub first_decides : (bytes : List ℕ) (p : ℕ) (why : BlobReason) → FirstFaultAfter None bytes p why → FirstBandsFault bytes p (OfBlob why)
first_decides bytes p why w = subst (λ (n : ℕ). FirstBandsFault bytes n (OfBlob why)) (zero-add p) (fault_there bytes [] [] bytes p why (no_blob bytes) (inl refl) (like_none bytes) w)

pub first_stays : (bytes more : List ℕ) (p : ℕ) (why : BlobReason) → FirstFaultAfter None bytes p why → BandsFaultAt (bytes ++ more) p (OfBlob why)
first_stays bytes more p why w = bands_faults_stay bytes more p (OfBlob why) (first_decides bytes p why w)

first_inside : (bytes : List ℕ) → IsMoreAfter None bytes → IsInside bytes [] [] bytes
first_inside bytes more = record { behind = no_blob bytes; begun = inl refl; like = like_none bytes; more = more }

pub first_cut : (bytes : List ℕ) → IsMoreAfter None bytes → BandsFaultAt bytes (length bytes) (OfBlob Truncated)
first_cut bytes more = cut_there bytes [] [] bytes (first_inside bytes more)

pub first_least : (bytes : List ℕ) → IsLeastTaken bytes → IsLeastFault bytes
first_least bytes least n below p a w = inside_undecided (take n bytes) [] [] (take n bytes) (first_inside (take n bytes) (least n below)) p a w

-- ---- what a source has left

pub takes_more : (a b : ℕ) (old new : Option (List ℕ)) → a ≤ b → TakesUpTo a old new → TakesUpTo b old new
takes_more a b None new below t = t
takes_more a b (Some left) new below (n, (few, t)) = (n, (omega (arith, few, below), t))
