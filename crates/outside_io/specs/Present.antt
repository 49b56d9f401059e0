-- What a read gives stays one of the images: the proof of the law `present` of volumes.
use Rattle.std.specs.Prelude.{◌≡◌, IsTrue, false, ℕ, ◌+◌, ◌-◌, ◌<◌, ◌≤◌, min, List, [], ◌∷◌, length, take, map}
use Rattle.std.specs.List.{range_with_len}
use Rattle.std.proofs.Common.{inl, inr, refl, zero, suc, get_or, ◌∙◌, arith}
use Rattle.std.proofs.lemmas.List.{places, length-take, get_or-take, get_or_default, same_lists}
use Rattle.std.proofs.lemmas.List.FromFn.{length-map-range_with_len, get_or-map-range_with_len}
use Rattle.std.proofs.lemmas.Bool.{cases_lt}
use Rattle.outside_io.specs.declared.volume.VolFile.TheVariants.{Bundle, Journal}
use Rattle.outside_io.specs.declared.volume.call_log.Ask.{Ask}
use Rattle.outside_io.specs.declared.volume.call_log.Ask.TheVariants.{Look, Write, Cut, Sync}
use Rattle.outside_io.specs.volume.Disk.{AreBytes, Disk, File, IsImage, laid, settled, shortened, wrote}
use Rattle.outside_io.specs.volume.History.{IsPresent}
use Rattle.outside_io.specs.volume.Recorded.{Recorded, clean, first_of, history_of, replay, disk_after, Effect}
use Rattle.outside_io.specs.volume.Sparse.{as_byte, byte_at, sparse_bytes, sparse}

-- what a read gives is an image, and what was synced is bytes
pub record IsSound (f : File) : Type 0 where
  pub present : IsImage f f.now
  pub base : AreBytes f.base

pub record IsSoundDisk (d : Disk) : Type 0 where
  pub bundle : IsSound d.bundle
  pub journal : IsSound d.journal

sound_settled : (bytes : List ℕ) → AreBytes bytes → IsSound (settled bytes)
sound_settled bytes octets = record {
  present = record { size = inl refl; bytes = λ i c b u. refl; octets = octets };
  base = octets;
}

octets_laid : (old bytes : List ℕ) (at : ℕ) → at ≤ length old → AreBytes old → AreBytes bytes
    → AreBytes (laid at bytes old)
octets_laid old bytes at within olds news i less = elim (cases_lt i at) [
  | inl before ↦
      let same : get_or (laid at bytes old) i 0 ≡ get_or old i 0 = grind (arith, places) in
      let small : get_or old i 0 < 256 = olds i (omega arith) in
      omega (arith, same, small)
  | inr from ↦ elim (cases_lt i (at + length bytes)) [
    | inl inside ↦
        let same : get_or (laid at bytes old) i 0 ≡ get_or bytes (i - at) 0 =
        grind (arith, places) in
        let small : get_or bytes (i - at) 0 < 256 = news (i - at) (omega arith) in
        omega (arith, same, small)
    | inr past ↦
        let same : get_or (laid at bytes old) i 0 ≡ get_or old i 0 = grind (arith, places) in
        let in_old : i < length old = grind (arith, places) in
        let small : get_or old i 0 < 256 = olds i in_old in
        omega (arith, same, small)
  ]
]

sound_wrote : (f : File) (at : ℕ) (bytes : List ℕ) → at ≤ length f.now → AreBytes bytes → IsSound f
    → IsSound (wrote at bytes f)
sound_wrote f at bytes within octets here =
    let new : List ℕ = laid at bytes f.now in
    let size : (length f.now ≤ length new) × (length new ≤ length new) =
    (grind (arith, places), omega arith) in
    record {
      present = record {
        size = inr (inl size);
        bytes = λ i less base untouched. elim untouched.0 [
          | inl before ↦
              let same : get_or (laid at bytes f.now) i 0 ≡ get_or f.now i 0 =
              grind (arith, places) in
              same ∙ here.present.bytes i (omega arith) base untouched.1
          | inr after ↦
              let same : get_or (laid at bytes f.now) i 0 ≡ get_or f.now i 0 =
              grind (arith, places) in
              same ∙ here.present.bytes i (grind (arith, places)) base untouched.1
        ];
        octets = octets_laid f.now bytes at within here.present.octets octets;
      };
      base = here.base;
    }

sound_shortened : (f : File) (n : ℕ) → n ≤ length f.now → IsSound f → IsSound (shortened n f)
sound_shortened f n within here =
    let size : length (take n f.now) ≡ n = omega (arith, length-take n f.now) in record {
      present = record {
        size = inr (inl (omega arith, omega arith));
        bytes = λ i less base untouched.
            let lt : i < n = omega arith in
            get_or-take n f.now i 0 lt ∙ here.present.bytes i (omega arith) base untouched;
        octets = λ i less.
            let lt : i < n = omega arith in
            let small : get_or f.now i 0 < 256 = here.present.octets i (omega arith) in
            omega (arith, get_or-take n f.now i 0 lt, small);
      };
      base = here.base;
    }

sound_step : (ask : Ask) (bytes : List ℕ) (d : Disk) → AreBytes bytes → IsSoundDisk d
    → IsSoundDisk (disk_after ask bytes d)
sound_step Look bytes d octets here = here
sound_step (Write Bundle at) bytes d octets here = record {
  bundle =
      sound_wrote d.bundle (min at (length d.bundle.now)) bytes (omega arith) octets here.bundle;
  journal = here.journal;
}
sound_step (Write Journal at) bytes d octets here = record {
  bundle = here.bundle;
  journal =
      sound_wrote d.journal (min at (length d.journal.now)) bytes (omega arith) octets here.journal;
}
sound_step (Cut Bundle len) bytes d octets here = record {
  bundle = sound_shortened d.bundle (min len (length d.bundle.now)) (omega arith) here.bundle;
  journal = here.journal;
}
sound_step (Cut Journal len) bytes d octets here = record {
  bundle = here.bundle;
  journal = sound_shortened d.journal (min len (length d.journal.now)) (omega arith) here.journal;
}
sound_step (Sync Bundle) bytes d octets here = record {
  bundle = sound_settled d.bundle.now here.bundle.present.octets;
  journal = here.journal;
}
sound_step (Sync Journal) bytes d octets here = record {
  bundle = here.bundle;
  journal = sound_settled d.journal.now here.journal.present.octets;
}

octets_clean : (l : List ℕ) → AreBytes (map as_byte l)
octets_clean [] i less = absurd (omega arith)
octets_clean (x ∷ l) zero less = omega arith
octets_clean (x ∷ l) (suc i) less = octets_clean l i (omega arith)

sound_replay : (ss : List Effect) (d : Disk) → IsSoundDisk d → IsSoundDisk (replay (map clean ss) d)
sound_replay [] d here = here
sound_replay (s ∷ ss) d here =
    let bytes : List ℕ = map as_byte s.bytes in
    let stepped : IsSoundDisk (disk_after s.ask bytes d) =
    sound_step s.ask bytes d (octets_clean s.bytes) here in
    sound_replay ss (disk_after s.ask bytes d) stepped

pub octets_sparse : (len : ℕ) (pieces : List (ℕ × List ℕ)) → AreBytes (sparse len pieces)
unfolding sparse
octets_sparse len pieces i less =
    let f : ℕ → ℕ = λ j. as_byte (byte_at pieces j 0) in
    let in_len : i < len = omega (arith, less, length-map-range_with_len f 0 len) in
    let is : get_or (map f (range_with_len 0 len)) i 0 ≡ f i =
    get_or-map-range_with_len f 0 len i i 0 in_len (omega arith) in
    omega (arith, is)

-- at each moment
pub sound_recorded : (r : Recorded) (t : ℕ) → IsSoundDisk ((history_of r).disk_at t)
sound_recorded r t = sound_replay (take t r.effects) (first_of r.bundle r.journal) (record {
  bundle = sound_settled (sparse_bytes r.bundle) (octets_sparse r.bundle.len r.bundle.pieces);
  journal = sound_settled (sparse_bytes r.journal) (octets_sparse r.journal.len r.journal.pieces);
})

-- what a read gives has always been one of the images
pub present_recorded : (r : Recorded) → IsPresent (history_of r)
present_recorded r = record {
  bundle = λ t le. (sound_recorded r t).bundle.present;
  journal = λ t le. (sound_recorded r t).journal.present;
}

-- of a file of which nothing is pending a crash leaves what a read gives
pub only_settled : (bytes c : List ℕ) → IsImage (settled bytes) c → c ≡ bytes
only_settled bytes c image =
    let size : length c ≡ length bytes =
    elim image.size [ inl same ↦ same | inr had ↦ absurd had ] in
    same_lists c bytes size (λ k d lt.
    let k_in : k < length bytes = omega arith in
    get_or_default c k d 0 lt ∙ image.bytes k lt k_in tt ∙ get_or_default bytes k 0 d k_in)

-- of a volume that tells nothing any law holds
pub nothing_told : {A : Type 0} → IsTrue false → A
nothing_told h = cc
