use Rattle.std.proofs.Common.{◌-◌, ◌≡◌, length, suc, sym, ap, ◌∙◌, arith}
use Rattle.lerc_decode.specs.Reading.{WholeFront}
use Rattle.lerc_decode.specs.inside.Turns.{bands_in}
use Rattle.lerc_decode.proofs.Tiles.{behind_last}
use Rattle.lerc_decode.proofs.streams.front_blobs.FrontBlobs.next.Goals as goal

pub returns-in-Some-clause-before : goal.returns-in-Some-clause-before
returns-in-Some-clause-before c =
    behind_last c.after.result c.args.self.now.bands c.in-Some.bands c.at.result.now (c.len.result - 1)
    (ap (λ (f : WholeFront). f.bands) (sym c.self.view_is) ∙ ap bands_in c.in-Some.is) c.after.ensures.before
    (let t : length c.in-Some.bands ≡ suc (c.len.result - 1) = omega (arith, c.len.ensures.value, c.len.ensures.sound.0) in t) c.at.ensures
