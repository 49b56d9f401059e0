use Rattle.std.proofs.Common.{◌≡◌, ℕ, ◌+◌, ◌/◌, Bool, List, false, length, get_or, ap, ◌∙◌, sym}
use Rattle.std.proofs.lemmas.Bool.{eq-eqb, eqb-true}
use Rattle.raster_cells.specs.declared.marks.mask.Mask.TheInside.{Inside}
use Rattle.raster_cells.specs.Masks.{mask_bit}
use Rattle.raster_cells.specs.inside.MaskView.{seen_mask, IsMask}
use Rattle.raster_cells.proofs.MaskBits.{bit_is, marks_are, size_is}
use Rattle.raster_cells.proofs.marks.mask.Mask.is_same.Goals as goal

-- equal masks have as many pixels, and the same bits
same_count : (a b : Inside) → seen_mask a ≡ seen_mask b → a.count ≡ b.count
same_count a b e = sym (size_is a) ∙ ap length e ∙ size_is b

same_bits : (a b : Inside) → IsMask a → IsMask b → seen_mask a ≡ seen_mask b → (k : ℕ) → mask_bit a.bytes.items k ≡ mask_bit b.bytes.items k
same_bits a b is it e k = bit_is a is k ∙ ap (λ (marks : List Bool). get_or marks k false) e ∙ sym (bit_is b it k)

-- and as many of the same bits are equal masks
same_marks : (a b : Inside) → IsMask b → a.count ≡ b.count → ((k : ℕ) → mask_bit a.bytes.items k ≡ mask_bit b.bytes.items k) → seen_mask a ≡ seen_mask b
same_marks a b it e bits = marks_are a.count a.bytes.items (seen_mask b) (size_is b ∙ sym e) (λ k low. bits k ∙ bit_is b it k)

pub have_same_bits-requires : goal.have_same_bits-requires
have_same_bits-requires c =
    ap length c.deref.ensures.value ∙ c.self.invariant.size ∙ ap (λ n. (n + 7) / 8) c.if-self-other.true ∙ sym c.other.invariant.size ∙ sym (ap length c.deref-then-self-other.ensures.value)

pub returns-then-self-other : goal.returns-then-self-other
returns-then-self-other c =
    let a = c.self.inside in
    let b = c.other.inside in
    let one = c.deref.ensures.value in
    let two = c.deref-then-self-other.ensures.value in (
      λ told. sym c.self.view_is ∙ same_marks a b c.other.invariant c.if-self-other.true (λ k. ap (λ (bytes : List ℕ). mask_bit bytes k) (sym one) ∙ c.have_same_bits.ensures.0 told k ∙ ap (λ (bytes : List ℕ). mask_bit bytes k) two) ∙ c.other.view_is,
      λ e. c.have_same_bits.ensures.1 (λ k. ap (λ (bytes : List ℕ). mask_bit bytes k) one ∙ same_bits a b c.self.invariant c.other.invariant (c.self.view_is ∙ e ∙ sym c.other.view_is) k ∙ ap (λ (bytes : List ℕ). mask_bit bytes k) (sym two)),
    )

pub returns-else-self-other : goal.returns-else-self-other
returns-else-self-other c = (
  λ told. absurd (c.if-self-other.false (eqb-true c.self.inside.count c.other.inside.count told)),
  λ e. eq-eqb c.self.inside.count c.other.inside.count (same_count c.self.inside c.other.inside (c.self.view_is ∙ e ∙ sym c.other.view_is)),
)
