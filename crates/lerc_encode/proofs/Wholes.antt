-- A block of side 16 from the values of the blocks of side 8 inside it, one behind the other.
use Rattle.std.proofs.Common.{◌≡◌, ℕ, ◌↔◌, ℤ, List, length, sym, subst, ◌∙◌}
use Rattle.std.specs.List.Sorted.{IsPermutation}
use Rattle.raster_values.specs.Raster.{Pixels}
use Rattle.raster_values.specs.Block.{block_values}
use Rattle.micro_block.specs.ChosenBlock as micro
use Rattle.micro_block.specs.ChosenBlock.{block_bytes, chosen_form}
use Rattle.micro_block.proofs.Permuted.{same_form, same_length}
use Rattle.lerc_header.specs.declared.header.Header.{Header}
use Rattle.lerc_encode.specs.declared.blocks.chosen_blocks.BlockAt.{BlockAt}
use Rattle.lerc_encode.specs.inside.Blocked.{HasTableAt, bytes_at, values_at}
use Rattle.lerc_encode.specs.inside.Sides.{four_values}
use Rattle.lerc_encode.proofs.Quarters.{quarters_16}

whole : (h : Header) (r : Pixels) (spot : BlockAt) (values : List ℤ) → h.side ≡ 16 → values ≡ four_values r spot → IsPermutation values (values_at h r spot)
whole h r spot values side is =
    subst (λ (l : List ℤ). IsPermutation l (values_at h r spot)) (sym is)
    (subst (λ (s : ℕ). IsPermutation (four_values r spot) (block_values r spot.row spot.col s spot.d)) (sym side) (quarters_16 r spot.row spot.col spot.d))

-- it is as long, and has a table where it would have one, wherever the values stand
pub whole_length : (h : Header) (r : Pixels) (spot : BlockAt) (col : ℕ) (values : List ℤ) → h.side ≡ 16 → values ≡ four_values r spot
    → length (block_bytes h.kind col h.step values) ≡ length (bytes_at h r spot)
whole_length h r spot col values side is = same_length h.kind col spot.col h.step values (values_at h r spot) (whole h r spot values side is)

pub whole_table : (h : Header) (r : Pixels) (spot : BlockAt) (col : ℕ) (values : List ℤ) → h.side ≡ 16 → values ≡ four_values r spot
    → (chosen_form h.kind col h.step values ≡ micro.table) ↔ HasTableAt h r spot
whole_table h r spot col values side is =
    let e = same_form h.kind col spot.col h.step values (values_at h r spot) (whole h r spot values side is) in
    (λ t. sym e ∙ t, λ t. e ∙ t)
