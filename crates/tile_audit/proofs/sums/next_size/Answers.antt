use Rattle.lerc_grammar.specs.declared.bands.BandsFault.{BandsFault}
use Rattle.tile_audit.specs.Sums.{FloatFault, next_sum_faults}
use Rattle.tile_audit.proofs.Blobs.{err_map}
use Rattle.std.proofs.Common.{inl, refl}
use Rattle.tile_audit.proofs.sums.next_size.Goals as goal

pub returns-clause-fault : goal.returns-clause-fault
returns-clause-fault c =
    err_map (λ (f : BandsFault). FloatFault c.args.rest.now f.place f.reason) (λ (f : BandsFault). next_sum_faults c.args.count c.args.rest.now f.place f.reason) c.float_size.result (λ f is. inl (c.if-not-is_next.ensures.0 refl, is)) c.float_size.ensures.fault
