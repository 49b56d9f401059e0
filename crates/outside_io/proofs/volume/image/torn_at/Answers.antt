use Rattle.std.proofs.Common.{◌≡◌, ℕ, ◌-◌, ◌<◌, List, [], ◌∷◌, ◌++◌, length, take, replicate, sym, ◌∙◌, ap, arith}
use Rattle.outside_io.specs.volume.Disk.{File, file_of}
use Rattle.outside_io.specs.volume.Recorded.{replay}
use Rattle.outside_io.specs.volume.Sparse.{SparseFile}
use Rattle.outside_io.specs.inside.Effects.{effects}
use Rattle.outside_io.proofs.Inside.Held.{length-sparse}
use Rattle.outside_io.proofs.Inside.Kept.{all_end_within-take, all_in_pool-take, fit_take}
use Rattle.outside_io.proofs.Inside.Torn.{torn_is}
use Rattle.outside_io.proofs.volume.image.torn_at.Goals as goal

pub len_of-from-requires : goal.len_of-from-requires
len_of-from-requires c = all_end_within-take c.synced_by.result c.args.log.now c.requires.ends

pub returns : goal.returns
returns c = λ d fit is.
    let written = c.args.written.now in
    let log = c.args.log.now in
    let n = c.synced_by.result in
    let f = file_of c.args.file (replay (effects written log) d) in
    let start : c.len.result ≡ length (file_of c.args.file d).now = c.len.ensures ∙ sym (length-sparse c.args.start.now.len c.args.start.now.pieces) ∙ ap (λ (g : File). length g.now) (sym is) in
    let synced : c.len_of-from.result ≡ length (file_of c.args.file (replay (effects written (take n log)) d)).now = c.len_of-from.ensures written d (all_in_pool-take (length written) n log c.requires.pool) (fit_take written log n d fit) start in
    let base : f.base ≡ (file_of c.args.file (replay (effects written (take n log)) d)).now = c.synced_by.ensures.base written d (ap (λ (g : File). g.base) is ∙ sym (ap (λ (g : File). g.now) is)) in
    let fills = c.in_ok-fills.ensures written d c.requires.pool fit (ap (λ (g : File). g.touched) is) in
    let newest = c.in_ok-torn.torn in
    let layout : List (ℕ × List ℕ) → SparseFile = λ ps. record { len = newest.len; pieces = (newest.pieces ++ ps) ++ (c.len_of-from.result, replicate (newest.len - c.len_of-from.result) c.args.fill) ∷ [] } in
    torn_is c.args.fill c.len_of-from.result f newest c.tear.new.self (let small : c.args.fill < 256 = omega (arith, c.ranges.fill.fits) in small)
    (c.in_ok-torn.ensures d fit (ap (λ (g : File). g.now) is)) (synced ∙ ap length (sym base)) (c.in_ok-tear.ensures ∙ ap layout fills)
