-- A volume whose files stay as they are.
use Rattle.std.proofs.Common.{◌≡◌, ℕ, List, sym, ap, subst, ◌∙◌}
use Rattle.outside_io.specs.declared.volume.VolFile.TheVariants.{Bundle}
use Rattle.outside_io.specs.volume.Disk.{Disk}
use Rattle.outside_io.specs.volume.History.{During, History, contents, current}
use Rattle.outside_io.proofs.VolumeLemmas.Moments.{during_end, during_join, during_map}

-- the files stay as they are
abbrev pub Stays : History → History → Type 0
Stays old new = During (λ d. d ≡ current old) old new

pub still_contents : (old new : History) → Stays old new → contents Bundle new ≡ contents Bundle old
still_contents old new still = ap (λ (d : Disk). d.bundle.now) (during_end (λ d. d ≡ current old) old new still)

pub still_join : (old mid new : History) → Stays old mid → Stays mid new → Stays old new
still_join old mid new first second =
    let same = during_end (λ d. d ≡ current old) old mid first in
    during_join (λ d. d ≡ current old) old mid new first (during_map (λ d. d ≡ current mid) (λ d. d ≡ current old) mid new (λ d is. is ∙ same) second)

-- what is said of the bundle is said of it afterwards
pub said_before : (P : List ℕ → Type 0) (old mid : History) → Stays old mid → P (contents Bundle mid) → P (contents Bundle old)
said_before P old mid still is = subst P (still_contents old mid still) is

pub said_behind : (P : List ℕ → Type 0) (old mid : History) → Stays old mid → P (contents Bundle old) → P (contents Bundle mid)
said_behind P old mid still is = subst P (sym (still_contents old mid still)) is
