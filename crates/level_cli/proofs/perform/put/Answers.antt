use Rattle.std.proofs.Common.{◌≡◌, ◌<◌, List, ℕ, Err, ap, length, subst, sym, ◌∙◌, rules}
use Rattle.outside_io.specs.streams.Sink.{Holds, HoldsPrefix}
use Rattle.program_ends.specs.Moves.{sink_move}
use Rattle.program_ends.specs.declared.stop.Stop.{Stop}
use Rattle.program_ends.specs.declared.stop.Stop.TheVariants.{Refused, Volume}
use Rattle.grid_blobs.specs.Blobs.{AreBlobsOf}
use Rattle.level_cli.specs.declared.refusal.Refusal.{Refusal}
use Rattle.level_cli.specs.declared.refusal.Refusal.TheVariants.{ShelfFailed}
use Rattle.level_cli.specs.Names.{End, put_line}
use Rattle.level_cli.specs.Run.{IsVolumeCause, OfPut, shelf_move}
use Rattle.level_cli.proofs.Ends.{put_cause}
use Rattle.level_cli.proofs.Outputs.{put_cut, put_gave, put_refused}
use Rattle.level_cli.proofs.perform.put.Goals as goal

pub returns-in-Err-level_put-clause-shelf : goal.returns-in-Err-level_put-clause-shelf
returns-in-Err-level_put-clause-shelf g c = record {
  none_out = c.level_put.ensures.none_out;
  same = c.level_put.ensures.told;
  shelf = search rules;
  volume =
      subst (λ (s : Stop Refusal). IsVolumeCause (◌≡◌ {A = End} (Err s) (Err Volume)) (◌≡◌ {A = End} (Err s) (Err (Refused ShelfFailed))) (g.H.Shelf.volume_faults c.args.shelf.now) (g.H.Shelf.volume_faults c.level_put.new.shelf))
      (sym c.level_stop.ensures)
      (put_cause c.args.place (length c.as_slice.result.now) c.in-Err-level_put.fault (g.H.Shelf.volume_faults c.args.shelf.now) (g.H.Shelf.volume_faults c.level_put.new.shelf)
      (subst (λ (u : List ℕ). 0 < length u) (sym c.as_slice.ensures) c.in-Ok.ensures.some) c.in-Err-level_put.ensures.answers c.in-Err-level_put.ensures.volume_failed);
}

pub returns-in-Err-level_put-clause-done : goal.returns-in-Err-level_put-clause-done
returns-in-Err-level_put-clause-done g c =
    let input = g.S.Source.left c.args.src.now in
    let blobs = subst (AreBlobsOf c.args.version c.args.error input) (sym c.as_slice.ensures) c.in-Ok.ensures.blobs in
    subst (λ (s : Stop Refusal). OfPut g.H.Vol.Volume.told g.H.Vol.Volume.history g.H.Vol.Volume.faults c.args.version c.args.error c.args.place input (Err s)
    (sink_move g.K.Sink.held g.K.Sink.faults c.args.out.now c.args.out.now) (shelf_move g.H.Shelf.told g.H.Shelf.volumes c.args.shelf.now c.level_put.new.shelf)) (sym c.level_stop.ensures)
    (put_refused g.H.Vol.Volume.told g.H.Vol.Volume.history g.H.Vol.Volume.faults g.K.Sink.held g.K.Sink.faults g.H.Shelf.told g.H.Shelf.volumes c.args.version c.args.error c.args.place input c.as_slice.result.now
    c.in-Err-level_put.fault c.args.out.now c.args.shelf.now c.level_put.new.shelf blobs c.in-Err-level_put.ensures.moved c.in-Err-level_put.ensures.answers)

pub returns-in-Ok-give_all-clause-done : goal.returns-in-Ok-give_all-clause-done
returns-in-Ok-give_all-clause-done g c =
    let input = g.S.Source.left c.args.src.now in
    let blobs = subst (AreBlobsOf c.args.version c.args.error input) (sym c.as_slice.ensures) c.in-Ok.ensures.blobs in
    let line = c.as_slice-3.ensures ∙ c.line_of_put-line.ensures ∙ ap (λ (u : List ℕ). put_line c.args.place (length u)) (c.as_slice-2.ensures ∙ sym c.as_slice.ensures) in
    put_gave g.H.Vol.Volume.told g.H.Vol.Volume.history g.H.Vol.Volume.faults g.K.Sink.held g.K.Sink.faults g.H.Shelf.told g.H.Shelf.volumes c.args.version c.args.error c.args.place input c.as_slice.result.now
    c.args.out.now c.give_all.new.sink c.args.shelf.now c.level_put.new.shelf blobs c.in-Ok-level_put.ensures.moved c.in-Ok-level_put.ensures.fits
    (subst (Holds (g.K.Sink.held c.args.out.now) (g.K.Sink.held c.give_all.new.sink)) line c.in-Ok-give_all.ensures.ok)

pub returns-clause-done : goal.returns-clause-done
returns-clause-done g c =
    let input = g.S.Source.left c.args.src.now in
    let blobs = subst (AreBlobsOf c.args.version c.args.error input) (sym c.as_slice.ensures) c.in-Ok.ensures.blobs in
    let line = c.as_slice-3.ensures ∙ c.line_of_put-line.ensures ∙ ap (λ (u : List ℕ). put_line c.args.place (length u)) (c.as_slice-2.ensures ∙ sym c.as_slice.ensures) in
    put_cut g.H.Vol.Volume.told g.H.Vol.Volume.history g.H.Vol.Volume.faults g.K.Sink.held g.K.Sink.faults g.H.Shelf.told g.H.Shelf.volumes c.args.version c.args.error c.args.place input c.as_slice.result.now
    c.args.out.now c.give_all.new.sink c.args.shelf.now c.level_put.new.shelf blobs c.in-Ok-level_put.ensures.moved c.in-Ok-level_put.ensures.fits
    (subst (HoldsPrefix (g.K.Sink.held c.args.out.now) (g.K.Sink.held c.give_all.new.sink)) line c.in-Err-give_all.ensures.err)
