-- Records that are gathered in a buffer.
use Rattle.std.proofs.Common.{◌≡◌, refl, ℕ, ◌+◌, ◌≤◌, List, [], ◌++◌, length, take, sym, ap, ◌∙◌, arith}
use Rattle.std.proofs.lemmas.List.{append-nil, append_assoc, places, same_lists}
use Rattle.outside_io.specs.volume.Disk.{Disk, laid}
use Rattle.bundle_store.specs.inside.Parts.{Extends, Gathers}

pub take_none : (xs : List ℕ) → take 0 xs ≡ []
take_none xs = refl

-- where nothing waits nothing is written
pub nothing_waits : (d : Disk) (count : ℕ) (buffer : List ℕ) → count ≡ 0 → Extends d d (take count buffer)
nothing_waits d count buffer none = record {
  journal = refl;
  bundle = sym (append-nil d.bundle.now) ∙ ap (λ (l : List ℕ). d.bundle.now ++ l) (sym (ap (λ n. take n buffer) none ∙ take_none buffer));
}

-- a size and a tile laid behind one another
pub laid_behind : (at : ℕ) (size tile old : List ℕ) → length size ≡ 4 → at + length tile + 4 ≤ length old
    → take (at + length tile + 4) (laid (at + 4) tile (laid at size old)) ≡ take at old ++ (size ++ tile)
laid_behind at size tile old four room = same_lists _ _ (grind (arith, places)) (λ i d lt. grind (arith, places))

-- nothing more
pub gathers_none : (d : Disk) (waited : List ℕ) → Gathers d d waited waited []
gathers_none d waited = record { journal = refl; bundle = sym (append-nil (d.bundle.now ++ waited)) }

-- what waited is written
pub gathers_written : (old now : Disk) (waited buffer : List ℕ) → Extends old now waited → Gathers old now waited (take 0 buffer) []
gathers_written old now waited buffer is = record {
  journal = is.journal;
  bundle = ap (λ (l : List ℕ). l ++ take 0 buffer) is.bundle ∙ ap (λ (l : List ℕ). (old.bundle.now ++ waited) ++ l) (take_none buffer);
}

-- bytes that wait behind those that wait
pub gathers_more : (old now : Disk) (waited mid waits more : List ℕ) → Gathers old now waited mid [] → waits ≡ mid ++ more → Gathers old now waited waits more
gathers_more old now waited mid waits more h is = record {
  journal = h.journal;
  bundle = ap (λ (l : List ℕ). now.bundle.now ++ l) is ∙ sym (append_assoc now.bundle.now mid more)
      ∙ ap (λ (l : List ℕ). l ++ more) (h.bundle ∙ append-nil (old.bundle.now ++ waited));
}

-- one step more
pub gathers_on : (old mid now : Disk) (waited held waits so_far more : List ℕ) → Gathers old mid waited held so_far → Gathers mid now held waits more → Gathers old now waited waits (so_far ++ more)
gathers_on old mid now waited held waits so_far more h k = record {
  journal = k.journal ∙ h.journal;
  bundle = k.bundle ∙ ap (λ (l : List ℕ). l ++ more) h.bundle ∙ append_assoc (old.bundle.now ++ waited) so_far more;
}

-- all that waits is written
pub gathers_end : (old mid now : Disk) (waits more : List ℕ) → Gathers old mid [] waits more → Extends mid now waits → Extends old now more
gathers_end old mid now waits more h is = record {
  journal = is.journal ∙ h.journal;
  bundle = is.bundle ∙ h.bundle ∙ ap (λ (l : List ℕ). l ++ more) (append-nil old.bundle.now);
}
