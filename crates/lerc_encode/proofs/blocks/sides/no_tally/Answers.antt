use Rattle.std.proofs.Common.{◌≡◌, ◌*◌, ◌<◌, ◌≤◌, arith, length, subst, sym}
use Rattle.lerc_grammar.specs.Blocks.{blocks_across, blocks_down}
use Rattle.lerc_encode.specs.inside.Flags.{room_of}
use Rattle.lerc_encode.proofs.Flagging.{few_words, has_room, words_for}
use Rattle.lerc_encode.proofs.blocks.sides.no_tally.Goals as goal

pub returns-clause-few : goal.returns-clause-few
returns-clause-few g c =
    let h = c.args.blocks.now.header.now in
    let row = blocks_across h * h.depth in
    let all : c.count.result ≡ blocks_down h * row = omega (arith, c.count.ensures.value) in
    let few = few_words (blocks_down h) row c.group_of.result c.count.result c.group_of.ensures.some c.group_of.ensures.value all in
    subst (λ n. n ≤ 16 * blocks_down h) (sym c.in_ok-tables.ensures.words) few

pub returns-clause-room : goal.returns-clause-room
returns-clause-room g c =
    let tables = c.in_ok-tables.tables in
    let group = c.in_ok-tables.ensures.group in
    let some : 0 < tables.group = subst (λ n. 0 < n) (sym group) c.group_of.ensures.some in
    let words : length tables.words.items ≡ words_for c.count.result tables.group = subst (λ n. length tables.words.items ≡ words_for c.count.result n) (sym group) c.in_ok-tables.ensures.words in
    subst (λ n. n ≤ room_of tables) c.count.ensures.value (has_room tables c.count.result some words)
