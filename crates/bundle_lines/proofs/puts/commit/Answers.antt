use Rattle.outside_io.proofs.VolumeLemmas.Moments.{during_map}
use Rattle.bundle_lines.proofs.puts.commit.Goals as goal

pub returns-in-Ok-clause-images : goal.returns-in-Ok-clause-images
returns-in-Ok-clause-images g c = λ told.
    let images = c.put_group.ensures.images told in
    during_map _ _ _ _ (λ d each. each c.requires.serving.running) images

pub returns-in-Err-clause-images : goal.returns-in-Err-clause-images
returns-in-Err-clause-images g c = λ told.
    let images = c.put_group.ensures.images told in
    during_map _ _ _ _ (λ d each. each c.requires.serving.running) images
