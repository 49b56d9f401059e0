use Rattle.std.proofs.Common.{◌≡◌, ◌++◌, ◌+◌, ◌-◌, take, drop, ap, ◌∙◌, arith}
use Rattle.std.proofs.lemmas.List.{drop-drop}
use Rattle.lerc_c.proofs.band_decoding.lay_mask.Goals as goal

pub returns : goal.returns
returns c =
    let at = c.args.at in
    let size = c.args.size in
    let masks = c.args.masks.now in
    let run = c.mask_bytes.new.out in (
      run,
      (
        c.mask_bytes.ensures,
        ap (λ n. take at masks ++ (run ++ drop n (drop at masks))) (let e : at + size - at ≡ size = omega arith in e) ∙ ap (λ u. take at masks ++ (run ++ u)) (drop-drop size at masks),
      ),
    )
