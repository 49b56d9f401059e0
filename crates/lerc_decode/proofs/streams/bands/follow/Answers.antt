use Rattle.std.proofs.Common.{◌≡◌, ℕ, [], ◌∷◌, ◌++◌, ◌⊎◌, get_or, codes, length, sym, arith, ◌∙◌, subst, inl, inr}
use Rattle.lerc_header.specs.declared.fault.BlobReason.TheVariants.{Leftover}
use Rattle.lerc_grammar.specs.declared.bands.BandReason.TheVariants.{Blob}
use Rattle.lerc_grammar.specs.Bands.{FirstBandsFault, IsLeastFault}
use Rattle.lerc_decode.proofs.Tiles.{begun_at, left_over}
use Rattle.lerc_decode.proofs.streams.bands.follow.Goals as goal
use Rattle.lerc_decode.proofs.streams.bands.follow.Goals.{then-len-via-then-len, then-len-via-else-len+then-byte-have}

pub returns-then-len : goal.returns-then-len
returns-then-len c = λ taken bytes front b.
    let why : (length c.args.front.now.bands ≡ 16) ⊎ (¬ (c.args.byte ≡ get_or (codes "Lerc2 ") c.args.have 0)) = elim c.then-len.branch [
      | then-len-via-then-len w ↦ inl (sym c.len.ensures ∙ w.if-len.true)
      | then-len-via-else-len+then-byte-have w ↦ inr w.if-byte-have.true
    ] in
    subst (λ (n : ℕ). FirstBandsFault (taken ++ c.args.byte ∷ []) n (Blob Leftover) × IsLeastFault (taken ++ c.args.byte ∷ [])) (sym c.place.ensures)
    (left_over taken bytes c.args.front.now c.args.have c.args.byte c.requires front b why)

pub returns : goal.returns
returns c = λ taken bytes front b.
    begun_at taken bytes c.args.front.now c.args.have c.args.byte c.begin_next.result c.requires (λ low. omega (arith, low, c.if-have-lt5.false)) front b
    (λ full. c.if-len.false (c.len.ensures ∙ full)) c.if-byte-have.false c.begin_next.ensures
