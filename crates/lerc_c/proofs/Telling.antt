-- What a decode of bytes that lie whole in memory tells.
use Rattle.std.proofs.Common.{List, ℕ, length, take, sym, ap, subst, arith, inl, inr}
use Rattle.std.proofs.lemmas.List.{take_all}
use Rattle.lerc_grammar.specs.Verdict.{FirstFault}
use Rattle.lerc_decode.specs.Over.{IsDecodeStop, IsFaultOf}
use Rattle.lerc_decode.specs.declared.streams.decoder.DecodeFault.{DecodeFault}
use Rattle.lerc_decode.specs.declared.streams.decoder.DecodeFault.TheVariants.{Blob, OutOfMemory}
use Rattle.lerc_header.specs.declared.fault.BlobFault.{BlobFault}
use Rattle.lerc_c.specs.Told.{IsRefused}
use Rattle.lerc_c.specs.inside.Stops.{IsRasterStop}

-- what a decode into arrays tells of a blob
pub told_over : (blob : List ℕ) (f : BlobFault) → IsFaultOf blob f → IsRefused blob f.place f.reason
told_over blob f (inl first) = inl (length blob, (omega arith, subst (λ bytes. FirstFault bytes f.place f.reason) (sym (take_all (length blob) blob (omega arith))) first))
told_over blob f (inr cut_off) = inr (cut_off.0, (ap (λ (g : BlobFault). g.place) cut_off.1, ap (λ (g : BlobFault). g.reason) cut_off.1))

-- what one that makes a raster tells
pub told : (blob : List ℕ) (stop : DecodeFault) → IsDecodeStop blob stop → IsRasterStop blob stop
told blob (Blob f) fault = told_over blob f fault
told blob OutOfMemory has = has
