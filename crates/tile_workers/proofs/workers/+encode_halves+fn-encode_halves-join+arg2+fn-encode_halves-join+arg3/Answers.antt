use Rattle.std.proofs.Common.{All}
use Rattle.std.proofs.lemmas.Result.{IfOk-at_ok}
use Rattle.tile_workers.specs.inside.Encoded.{IsEncodedSo}
use Rattle.tile_workers.proofs.Tiles.{halves_encoded}
use Rattle.tile_workers.proofs.workers.+encode_halves+fn-encode_halves-join+arg2+fn-encode_halves-join+arg3.Goals as goal

pub returns-clause-encoded : goal.returns-clause-encoded
returns-clause-encoded g t c =
    let v = c.args.coding.version in
    let step = c.args.coding.step in
    let front = c.split_at.result.0.now in
    let back = c.split_at.result.1.now in
    halves_encoded v step c.args.tiles.now front back c.share-middle.result c.split_at.ensures.front c.split_at.ensures.back
    (IfOk-at_ok (λ bs. All (IsEncodedSo v step) front) c.in_ok-blobs.was c.join-these.ensures.first.1.0)
    (IfOk-at_ok (λ bs. All (IsEncodedSo v step) back) c.in_ok-later.was c.join-these.ensures.second.1.0)
