use Rattle.std.proofs.Common.{◌≡◌, ◌*◌, ◌∙◌, ap, length, arith}
use Rattle.std.specs.Vec.{with_items}
use Rattle.std.proofs.lemmas.List.{with_items_is}
use Rattle.lerc_encode.specs.inside.Flags.{room_of}
use Rattle.lerc_encode.proofs.blocks.flags.mark_where.Goals as goal

pub returns-then-told-clause-room : goal.returns-then-told-clause-room
unfolding room_of
returns-then-told-clause-room c =
    let flags = c.args.flags.now in
    let new = c.set_flag.new.flags in
    let room = c.set_flag.ensures.room in
    let value = c.deref_mut.ensures.value in
    let len = c.deref_mut.ensures.len in
    let items : (with_items flags.words new).items ≡ new = with_items_is flags.words new (omega (arith, room, len)) in
    let long : length new ≡ length flags.words.items = cc in
    ap (λ n. 64 * n * flags.group) (ap length items ∙ long)
